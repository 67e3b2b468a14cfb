-- Whether a body needs the number of data segments, which is not said before the code.
use Rattle.std.proofs.Common.{ℕ, ◌≡◌, ◌+◌, ◌||◌, ◌&&◌, ◌∙◌, not, Bool, true, false, List, ◌∷◌, map, drop, get_or, slice_get, Some, ap, sym}
use Rattle.std.specs.List.{list_any}
use Rattle.std.proofs.lemmas.List.{drop_more}
use Rattle.std.proofs.lemmas.Option.{slice_get-get_or, slice_get_within}
use Rattle.gu_syntax.specs.declared.module.Func.{Func}
use Rattle.gu_model.specs.ValidContext.{body_of, needs_count_body}

abbrev pub any_lacks : Bool → List Func → Bool
any_lacks has fs = not has && list_any needs_count_body (map body_of fs)

next_is : (fs : List Func) (k : ℕ) (x : Func) → slice_get fs k ≡ Some x → drop k fs ≡ x ∷ drop (k + 1) fs
next_is fs k x at =
    let h = slice_get_within fs k x at in
    let same : Some (get_or fs k x) ≡ Some x = sym (slice_get-get_or fs k x h) ∙ at in
    drop_more fs k x h ∙ ap (λ (y : Func). y ∷ drop (k + 1) fs) (let e : get_or fs k x ≡ x = cc in e)

on_next : (has n b all : Bool) (rest : Bool) → b ≡ (not has && n) → (not has && (n || rest)) ≡ all → (b ≡ true → true ≡ all) × (b ≡ false → (not has && rest) ≡ all)
on_next true n b all rest is whole = (λ on. absurd (let z : ⊥ = cc in z), λ off. whole)
on_next false true b all rest is whole = (λ on. whole, λ off. absurd (let z : ⊥ = cc in z))
on_next false false b all rest is whole = (λ on. absurd (let z : ⊥ = cc in z), λ off. whole)

-- what the body at a place says of all bodies, or else those behind it
pub lacks_at : (has : Bool) (fs : List Func) (k : ℕ) (x : Func) (b all : Bool) → slice_get fs k ≡ Some x → b ≡ (not has && needs_count_body (body_of x)) → any_lacks has (drop k fs) ≡ all → (b ≡ true → true ≡ all) × (b ≡ false → any_lacks has (drop (k + 1) fs) ≡ all)
lacks_at has fs k x b all at is whole =
    on_next has (needs_count_body (body_of x)) b all (list_any needs_count_body (map body_of (drop (k + 1) fs))) is (sym (ap (any_lacks has) (next_is fs k x at)) ∙ whole)
