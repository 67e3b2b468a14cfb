-- What is read of the tables of a system.
use Rattle.std.proofs.Common.{◌≡◌, ℕ, zero, suc, ◌+◌, ◌<◌, ◌^◌, true, List, [], ◌∷◌, length, get_or, Fits, w64, sym, refl, ap, ◌∙◌, subst, arith, rules}
use Rattle.std.specs.Prelude.{slice_index}
use Rattle.std.proofs.lemmas.Bool.{eqb-true, eq-eqb}
use Rattle.gu_types.specs.declared.types.HeapType.{HeapType}
use Rattle.gu_types.specs.declared.types.HeapType.TheVariants as H
use Rattle.gu_types.specs.Depth.{types_of}
use Rattle.gu_contents.specs.declared.facts.Facts.{Facts}
use Rattle.gu_contents.specs.Contents.{least_of}
use Rattle.gu_contents.specs.declared.content.Core.{Core}
use Rattle.gu_contents.specs.declared.content.Core.TheVariants.{Cone}
use Rattle.gu_contents.specs.Belongs.{IsCone, CoreBelongs}
use Rattle.gu_contents.proofs.Heights.{least_own}
use Rattle.gu_links.specs.declared.index.Cells.{Cells}
use Rattle.gu_links.specs.Cells.{slot_cell, param_cell, out_cell, own_cells, slots_before, before_func, params_of, results_of, is_least}
use Rattle.gu_links.specs.Over.{has_slot}
use Rattle.gu_links.specs.Index.{CellsAre}
use Rattle.gu_links.proofs.Within.{slot_within, param_within, out_within}

get_or_same : (xs : List ℕ) (i a b : ℕ) → i < length xs → get_or xs i a ≡ get_or xs i b
get_or_same [] i a b lt = absurd (omega arith)
get_or_same (x ∷ xs) zero a b lt = refl
get_or_same (x ∷ xs) (suc i) a b lt = get_or_same xs i a b (omega arith)

-- a number that is read of a list
pub read : (xs : List ℕ) (i v n : ℕ) → i < length xs → v ≡ get_or xs i v → slice_index xs i ≡ n → v ≡ n
read xs i v n lt e is = e ∙ get_or_same xs i v 0 lt ∙ is

module _ (f : Facts) (cells : Cells) (are : CellsAre f cells) where
  pub slot_read : (ty slot v : ℕ) → ty < length (types_of f.types) → is_least f.types ty ≡ true → v ≡ get_or cells.slots.items ty v → v + slot ≡ slot_cell f ty slot
  unfolding slot_cell
  slot_read ty slot v lt least e =
      ap (λ n. n + slot) (read cells.slots.items ty v (slots_before f ty) (subst (λ n. ty < n) (sym are.slots_long) lt) e (are.slots_are ty lt) ∙ sym (ap (slots_before f) (eqb-true (least_of f.types ty) ty least)))

  pub param_read : (g j v : ℕ) → g < length f.funcs → v ≡ get_or cells.params.items g v → v + j ≡ param_cell f g j
  unfolding param_cell
  param_read g j v lt e = ap (λ n. n + j) (read cells.params.items g v (before_func f g) (subst (λ n. g < n) (sym are.params_long) lt) e (are.params_are g lt))

  pub out_read : (g j v : ℕ) → g < length f.funcs → v ≡ get_or cells.results.items g v → v + j ≡ out_cell f g j
  unfolding out_cell
  out_read g j v lt e =
      let r = read cells.results.items g v (before_func f g + params_of f g) (subst (λ n. g < n) (sym are.results_long) lt) e (are.results_are g lt) in omega arith

  module _ (few : own_cells f < 2 ^ 64) where
    pub slot_fits : (ty slot v : ℕ) → ty < length (types_of f.types) → is_least f.types ty ≡ true → has_slot f slot ty ≡ true → v ≡ get_or cells.slots.items ty v → Fits w64 (v + slot)
    slot_fits ty slot v lt least has e = let r = slot_read ty slot v lt least e in let w = slot_within f ty slot lt least has in let h : v + slot < 2 ^ 64 = omega arith in search (rules, h)

    pub param_fits : (g j v : ℕ) → g < length f.funcs → j < params_of f g → v ≡ get_or cells.params.items g v → Fits w64 (v + j)
    param_fits g j v lt h e = let r = param_read g j v lt e in let w = param_within f g j lt h in let h : v + j < 2 ^ 64 = omega arith in search (rules, h)

    pub out_fits : (g j v : ℕ) → g < length f.funcs → j < results_of f g → v ≡ get_or cells.results.items g v → Fits w64 (v + j)
    out_fits g j v lt h e = let r = out_read g j v lt e in let w = out_within f g j lt h in let h : v + j < 2 ^ 64 = omega arith in search (rules, h)

idx_of : HeapType → ℕ
idx_of (H.Idx i) = i
idx_of (H.Abs kind) = 0

-- the head of a cone of types is the least index of its type
pub head_is_least : (f : Facts) (h d : ℕ) → IsCone f (H.Idx h) d → is_least f.types h ≡ true
unfolding idx_of
head_is_least f h d is = eq-eqb (least_of f.types h) h (ap idx_of (least_own f.types (H.Idx h) is.least))

pub cone_as : (f : Facts) (core : Core) (a : HeapType) (h d : ℕ) → core ≡ Cone a d → a ≡ H.Idx h → CoreBelongs f core → IsCone f (H.Idx h) d
cone_as f core a h d e i b = let k : CoreBelongs f (Cone (H.Idx h) d) = subst (CoreBelongs f) (e ∙ ap (λ x. Cone x d) i) b in k
