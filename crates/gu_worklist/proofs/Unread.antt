-- How many cells are not read yet.
use Rattle.std.proofs.Common.{ℕ, zero, suc, ◌≡◌, ◌<◌, ◌≤◌, ◌||◌, Bool, true, false, List, [], ◌∷◌, ◌++◌, cond, eqb, sym, refl, ap, ◌∙◌, subst, arith}
use Rattle.std.specs.Prelude.{Contains}
use Rattle.std.specs.Cmp.{nat_eq_equiv}
use Rattle.std.proofs.lemmas.List.{map-append}
use Rattle.std.proofs.lemmas.List.Folds.{list_any-append}
use Rattle.std.proofs.lemmas.Bool.Decides.{nat_tests}
use Rattle.std.proofs.lemmas.Map.Views.{list_any-from_Contains, Contains-from_any}
use Rattle.std.proofs.lemmas.List.Elements.{Contains-append_right}
use mathlib.Core.Logic.{dite}
use native.Mathlib.Decide.{ℕ_discrete}
use Rattle.gu_contents.specs.declared.content.Content.{Content}
use Rattle.gu_links.specs.Known.{Item, cells_of}
use Rattle.gu_worklist.specs.Unread.{is_among, others}

pub same_number : (a b : ℕ) → eqb a b ≡ true → a ≡ b
same_number a b e = grind (arith, nat_tests)

among_push : (cells : List ℕ) (c d : ℕ) → is_among (cells ++ c ∷ []) d ≡ (is_among cells d || (eqb d c || false))
among_push cells c d = list_any-append (eqb d) cells (c ∷ [])

fewer : (a b : Bool) → cond {A = ℕ} (a || b) 0 1 ≤ cond {A = ℕ} a 0 1
fewer true b = omega arith
fewer false true = omega arith
fewer false false = omega arith

others_push : (n c : ℕ) (cells : List ℕ) → others n (cells ++ c ∷ []) ≤ others n cells
others_push zero c cells = omega arith
others_push (suc n) c cells =
    let one : cond {A = ℕ} (is_among (cells ++ c ∷ []) n) 0 1 ≤ cond {A = ℕ} (is_among cells n) 0 1 =
    subst (λ (b : Bool). cond {A = ℕ} b 0 1 ≤ cond {A = ℕ} (is_among cells n) 0 1) (sym (among_push cells c n)) (fewer (is_among cells n) (eqb n c || false)) in
    omega (arith, one, others_push n c cells)

not_among : (cells : List ℕ) (c : ℕ) → (Contains cells c → ⊥) → (b : Bool) → is_among cells c ≡ b → is_among cells c ≡ false
not_among cells c new true e = absurd (new (Contains-from_any same_number c cells e))
not_among cells c new false e = e

pub others_less : (n c : ℕ) (cells : List ℕ) → c < n → (Contains cells c → ⊥) → others n (cells ++ c ∷ []) < others n cells
others_less zero c cells lt new = absurd (omega arith)
others_less (suc n) c cells lt new = dite (ℕ_discrete c n)
    (λ e.
    let off : is_among cells n ≡ false = subst (λ (d : ℕ). is_among cells d ≡ false) e (not_among cells c new (is_among cells c) refl) in
    let on : is_among (cells ++ c ∷ []) n ≡ true = list_any-from_Contains nat_eq_equiv n (cells ++ c ∷ []) (Contains-append_right cells (c ∷ []) n (0, omega arith, e)) in
    let one : cond {A = ℕ} (is_among (cells ++ c ∷ []) n) 0 1 ≡ 0 = ap (λ (b : Bool). cond {A = ℕ} b 0 1) on in
    let two : cond {A = ℕ} (is_among cells n) 0 1 ≡ 1 = ap (λ (b : Bool). cond {A = ℕ} b 0 1) off in
    omega (arith, one, two, others_push n c cells))
    (λ ne.
    let one : cond {A = ℕ} (is_among (cells ++ c ∷ []) n) 0 1 ≤ cond {A = ℕ} (is_among cells n) 0 1 =
    subst (λ (b : Bool). cond {A = ℕ} b 0 1 ≤ cond {A = ℕ} (is_among cells n) 0 1) (sym (among_push cells c n)) (fewer (is_among cells n) (eqb n c || false)) in
    omega (arith, one, others_less n c cells (omega arith) new))

pub cells_push : (known : List Item) (c : ℕ) (a : Content) → cells_of (known ++ (c, a) ∷ []) ≡ cells_of known ++ c ∷ []
cells_push known c a = map-append (λ (k : Item). k.0) known ((c, a) ∷ [])

pub others_known : (n : ℕ) (known new : List Item) (c : ℕ) (a : Content) → new ≡ known ++ (c, a) ∷ [] → c < n → (Contains (cells_of known) c → ⊥) → others n (cells_of new) < others n (cells_of known)
others_known n known new c a e lt fresh =
    subst (λ (cells : List ℕ). others n cells < others n (cells_of known)) (sym (ap cells_of e ∙ cells_push known c a)) (others_less n c (cells_of known) lt fresh)
