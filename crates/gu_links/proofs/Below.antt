-- The tables of what stands below each type.
use Rattle.std.proofs.Common.{◌≡◌, ℕ, zero, suc, ◌<◌, ◌&&◌, ◌||◌, Bool, true, false, cond, List, [], ◌∷◌, map, length, get_or, sym, refl, ap, ◌∙◌, ⊎_elim, arith}
use Rattle.std.specs.Prelude.{All, slice_index, slice_index_or}
use Rattle.std.specs.List.{filter as keep, list_any}
use Rattle.std.proofs.lemmas.Bool.{cases_Bool}
use Rattle.std.proofs.lemmas.List.Elements.{All-head, All-tail}
use Rattle.gu_types.specs.Depth.{types_of}
use Rattle.gu_rec.specs.Keys.{run}
use Rattle.gu_contents.specs.declared.facts.Facts.{Facts}
use Rattle.gu_contents.specs.Belongs.{IsFunc}
use Rattle.gu_links.specs.declared.link.Link.{Link}
use Rattle.gu_links.specs.declared.grouped.Typed.{Typed}
use Rattle.gu_links.specs.Cells.{is_least}
use Rattle.gu_links.specs.Over.{names}
use Rattle.gu_links.specs.Kept.{is_below, types_below, functions_below}
use Rattle.gu_links.specs.Listing.{itself, of_type, least_types, callable_functions, listed}
use Rattle.gu_links.proofs.Lists.{run_below, all_map_kept_from}
use Rattle.gu_links.proofs.Walks.{fuse}

-- a test that one element passes
pub any_at : (p : Link → Bool) (links : List Link) (i : ℕ) (d : Link) → i < length links → p (get_or links i d) ≡ true → list_any p links ≡ true
any_at p [] i d lt e = absurd (omega arith)
any_at p (link ∷ links) zero d lt e = ap (λ (b : Bool). b || list_any p links) e
any_at p (link ∷ links) (suc i) d lt e = ap (λ (b : Bool). p link || b) (any_at p links i d (omega arith) e) ∙ or_true (p link)
  where
    or_true : (b : Bool) → (b || true) ≡ true
    or_true true = refl
    or_true false = refl

pub keep_same : (p q : ℕ → Bool) (xs : List ℕ) → All (λ x. p x ≡ q x) xs → keep p xs ≡ keep q xs
keep_same p q [] h = refl
keep_same p q (x ∷ xs) h = ap (λ b. cond b (x ∷ keep p xs) (keep p xs)) (All-head (λ x. p x ≡ q x) x xs h) ∙ ap (λ ys. cond (q x) (x ∷ ys) ys) (keep_same p q xs (All-tail (λ x. p x ≡ q x) x xs h))

-- the items that pass are those of the numbers that pass
listed_map : (f : Facts) (h : ℕ) (g : ℕ → Typed) → ((n : ℕ) → (g n).item ≡ n) → (xs : List ℕ) → listed f h (map g xs) ≡ keep (λ n. is_below f.types h (g n).ty) xs
listed_map f h g own [] = refl
listed_map f h g own (x ∷ xs) = ⊎_elim
    (λ (e : is_below f.types h (g x).ty ≡ true).
    ap (λ b. map (λ (entry : Typed). entry.item) (cond b (g x ∷ keep (λ (entry : Typed). is_below f.types h entry.ty) (map g xs)) (keep (λ (entry : Typed). is_below f.types h entry.ty) (map g xs)))) e
    ∙ ap (λ (n : ℕ). n ∷ listed f h (map g xs)) (own x) ∙ ap (λ ys. x ∷ ys) (listed_map f h g own xs)
    ∙ sym (ap (λ b. cond b (x ∷ keep (λ n. is_below f.types h (g n).ty) xs) (keep (λ n. is_below f.types h (g n).ty) xs)) e))
    (λ (e : is_below f.types h (g x).ty ≡ false).
    ap (λ b. map (λ (entry : Typed). entry.item) (cond b (g x ∷ keep (λ (entry : Typed). is_below f.types h entry.ty) (map g xs)) (keep (λ (entry : Typed). is_below f.types h entry.ty) (map g xs)))) e
    ∙ listed_map f h g own xs
    ∙ sym (ap (λ b. cond b (x ∷ keep (λ n. is_below f.types h (g n).ty) xs) (keep (λ n. is_below f.types h (g n).ty) xs)) e))
    (cases_Bool (is_below f.types h (g x).ty))

both : (a b : Bool) → cond a b false ≡ (a && b)
both true b = refl
both false b = refl

module _ (f : Facts) where
  pub types_listed : (h : ℕ) → listed f h (least_types f) ≡ types_below f h
  types_listed h =
      listed_map f h itself (λ n. refl) (keep (is_least f.types) (run 0 (length (types_of f.types))))
      ∙ fuse (λ s. is_below f.types h s) (is_least f.types) (λ s. is_least f.types s && is_below f.types h s) (λ s. both (is_least f.types s) (is_below f.types h s)) (run 0 (length (types_of f.types)))

  pub types_fit : All (λ (entry : Typed). entry.ty < length (types_of f.types)) (least_types f)
  types_fit = all_map_kept_from (λ s. s < length (types_of f.types)) (is_least f.types) (λ (entry : Typed). entry.ty < length (types_of f.types)) itself (λ s lt e. lt)
      (run 0 (length (types_of f.types))) (run_below 0 (length (types_of f.types)) (length (types_of f.types)) (omega arith))

  module _ (links : List Link) (marks : List Bool) (marked : (g : ℕ) → g < length f.funcs → slice_index_or marks g false ≡ list_any (names g) links) where
    pub functions_listed : (h : ℕ) → listed f h (callable_functions f.funcs marks) ≡ functions_below f links h
    functions_listed h =
        listed_map f h (of_type f.funcs) (λ n. refl) (keep (λ g. slice_index_or marks g false) (run 0 (length f.funcs)))
        ∙ fuse (λ g. is_below f.types h (slice_index f.funcs g)) (λ g. slice_index_or marks g false) (λ g. slice_index_or marks g false && is_below f.types h (slice_index f.funcs g)) (λ g. both (slice_index_or marks g false) (is_below f.types h (slice_index f.funcs g))) (run 0 (length f.funcs))
        ∙ keep_same (λ g. slice_index_or marks g false && is_below f.types h (slice_index f.funcs g)) (λ g. list_any (names g) links && is_below f.types h (slice_index f.funcs g)) (run 0 (length f.funcs))
        (λ k d lt. ap (λ (b : Bool). b && is_below f.types h (slice_index f.funcs (get_or (run 0 (length f.funcs)) k d))) (marked (get_or (run 0 (length f.funcs)) k d) (run_below 0 (length f.funcs) (length f.funcs) (omega arith) k d lt)))

    pub functions_fit : ((g : ℕ) → list_any (names g) links ≡ true → IsFunc f g) → All (λ (entry : Typed). entry.ty < length (types_of f.types)) (callable_functions f.funcs marks)
    functions_fit named = all_map_kept_from (λ g. g < length f.funcs) (λ g. slice_index_or marks g false) (λ (entry : Typed). entry.ty < length (types_of f.types)) (of_type f.funcs)
        (λ g lt e. (named g (sym (marked g lt) ∙ e)).type_is) (run 0 (length f.funcs)) (run_below 0 (length f.funcs) (length f.funcs) (omega arith))
