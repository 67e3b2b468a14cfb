-- The first limit that is exceeded, row by row.
use Rattle.std.proofs.Common.{ℕ, ◌≤◌, ◌<◌, ◌≡◌, refl, ap, ◌∙◌, sym, if◌then◌else◌, nat_lt, length, take, map, arith, List, [], ◌∷◌, ◌++◌, Bool, true, false, Option, Some, None}
use Rattle.std.specs.Prelude.{sum_by}
use Rattle.std.proofs.lemmas.List.{take_all}
use Rattle.gu_types.specs.declared.types.SubType.{SubType}
use Rattle.gu_types.specs.Depth.{types_of}
use Rattle.gu_syntax.specs.declared.module.Func.{Func}
use Rattle.gu_syntax.specs.declared.module.Module.{Module}
use Rattle.gu_read_parts.specs.declared.answer.Which.{Which}
use Rattle.gu_read_parts.specs.declared.answer.Which.TheVariants as W
use Rattle.gu_read.specs.Limits.{if_above, first_above, params_of, results_of, locals_of, exceeded_or, first_exceeded, exceeded}
use Rattle.gu_read.specs.declared.seen.Seen as D
use Rattle.gu_read.specs.Seen.{Sees}
use Rattle.gu_read.specs.Rows.{capped, first_rows, type_rows, local_rows, depth_rows}
use Rattle.gu_read.proofs.Answered.{none_or, above_true}
use Rattle.gu_read.proofs.Counting.{above_capped, sum_capped}

pub row_none : (w : Which) (o : Option ℕ) (later : Option (Which × ℕ)) → o ≡ None → later ≡ exceeded_or w o later
row_none w o later e = sym (ap (λ x. exceeded_or w x later) e)

abbrev Rows : Type 0
Rows = List (Which × Option ℕ)

found_row : (w : Which) (o : Option ℕ) (a b : Rows) (x : Which × ℕ) → (first_exceeded a ≡ Some x → first_exceeded (a ++ b) ≡ Some x) → exceeded_or w o (first_exceeded a) ≡ Some x → exceeded_or w o (first_exceeded (a ++ b)) ≡ Some x
found_row w None a b x h e = h e
found_row w (Some at) a b x h e = e

none_some : (x : Which × ℕ) → ◌≡◌ {A = Option (Which × ℕ)} None (Some x) → ⊥
none_some x h = cc

pub rows_found : (a b : Rows) (x : Which × ℕ) → first_exceeded a ≡ Some x → Some x ≡ first_exceeded (a ++ b)
rows_found a b x e = sym (found a e)
  where
    found : (a : Rows) → first_exceeded a ≡ Some x → first_exceeded (a ++ b) ≡ Some x
    found [] e = absurd (none_some x e)
    found (row ∷ rows) e = found_row row.0 row.1 rows b x (found rows) e

pub rows_none : (a b : Rows) → first_exceeded a ≡ None → first_exceeded b ≡ first_exceeded (a ++ b)
rows_none [] b e = refl
rows_none (row ∷ rows) b e =
    let n = none_or row.0 row.1 (first_exceeded rows) e in
    rows_none rows b n.1 ∙ row_none row.0 row.1 (first_exceeded (rows ++ b)) n.0

-- locals
pub local_numbers : (funcs : List Func) (numbers : List ℕ) (n : ℕ) → numbers ≡ map (λ f. capped (locals_of f)) (take n funcs) → length funcs ≤ n → first_above (λ n. n) 50000 numbers ≡ first_above locals_of 50000 funcs
local_numbers funcs numbers n h all = ap (λ l. first_above (λ n. n) 50000 l) (h ∙ ap (λ l. map (λ (f : Func). capped (locals_of f)) l) (take_all n funcs all)) ∙ above_capped funcs

pub local_sum : (funcs : List Func) (total n : ℕ) → total ≡ sum_by (λ f. capped (locals_of f)) (take n funcs) → length funcs ≤ n → first_above locals_of 50000 funcs ≡ None → total ≡ sum_by locals_of funcs
local_sum funcs total n h all none = h ∙ ap (λ l. sum_by (λ (f : Func). capped (locals_of f)) l) (take_all n funcs all) ∙ sum_capped funcs none

-- the rows of the types
pub type_row : (seen : D.Seen) (types : List SubType) → Sees seen types → exceeded_or W.Params seen.params (exceeded_or W.Results seen.results (exceeded_or W.Fields seen.fields None)) ≡ first_exceeded (type_rows types)
type_row seen types sees =
    ap (λ o. exceeded_or W.Params o (exceeded_or W.Results seen.results (exceeded_or W.Fields seen.fields None))) sees.params
    ∙ ap (λ o. exceeded_or W.Params (first_above (λ ty. params_of ty.comp) 1000 types) (exceeded_or W.Results o (exceeded_or W.Fields seen.fields None))) sees.results
    ∙ ap (λ o. exceeded_or W.Params (first_above (λ ty. params_of ty.comp) 1000 types) (exceeded_or W.Results (first_above (λ ty. results_of ty.comp) 1000 types) (exceeded_or W.Fields o None))) sees.fields

-- the rows of the locals
pub locals_row : (funcs : List Func) (at : ℕ) → first_above locals_of 50000 funcs ≡ Some at → Some (W.Locals, at) ≡ first_exceeded (local_rows funcs)
locals_row funcs at e = sym (ap (λ o. exceeded_or W.Locals o (exceeded_or W.ModuleLocals (if_above 4000000 (sum_by locals_of funcs)) None)) e)

total_row : (funcs : List Func) (total : ℕ) (b : Bool) → nat_lt 4000000 total ≡ b → first_above locals_of 50000 funcs ≡ None → total ≡ sum_by locals_of funcs → exceeded_or W.ModuleLocals (if b then Some total else None) None ≡ first_exceeded (local_rows funcs)
total_row funcs total b t l e = sym (ap (λ o. exceeded_or W.Locals o (exceeded_or W.ModuleLocals (if_above 4000000 (sum_by locals_of funcs)) None)) l ∙ ap (λ n. exceeded_or W.ModuleLocals (if_above 4000000 n) None) (sym e) ∙ ap (λ x. exceeded_or W.ModuleLocals (if x then Some total else None) None) t)

pub many_locals : (funcs : List Func) (total : ℕ) → 4000000 < total → first_above locals_of 50000 funcs ≡ None → total ≡ sum_by locals_of funcs → Some (W.ModuleLocals, total) ≡ first_exceeded (local_rows funcs)
many_locals funcs total h l e = total_row funcs total true (above_true 4000000 total h) l e

pub few_locals : (funcs : List Func) (total : ℕ) → total ≤ 4000000 → first_above locals_of 50000 funcs ≡ None → total ≡ sum_by locals_of funcs → None ≡ first_exceeded (local_rows funcs)
few_locals funcs total h l e = total_row funcs total false (let t : nat_lt 4000000 total ≡ false = grind (arith, h) in t) l e

-- the rows one behind another
count_rows : (m : Module) (n : ℕ) → n ≡ length (types_of m.types) → first_exceeded (first_rows n m) ≡ first_exceeded (first_rows (length (types_of m.types)) m)
count_rows m n h = ap (λ k. first_exceeded (first_rows k m)) h

pub counts_none : (m : Module) (n : ℕ) → n ≡ length (types_of m.types) → first_exceeded (first_rows n m) ≡ None → first_exceeded (first_rows (length (types_of m.types)) m) ≡ None
counts_none m n h e = sym (count_rows m n h) ∙ e

pub counts_found : (m : Module) (n : ℕ) (x : Which × ℕ) → n ≡ length (types_of m.types) → first_exceeded (first_rows n m) ≡ Some x → Some x ≡ exceeded m
counts_found m n x h e =
    let all : List SubType = types_of m.types in
    rows_found (first_rows (length all) m) (type_rows all ++ (local_rows m.funcs ++ depth_rows all)) x (sym (count_rows m n h) ∙ e)

pub types_found : (m : Module) (x : Which × ℕ) → let all : List SubType = types_of m.types in first_exceeded (first_rows (length all) m) ≡ None → first_exceeded (type_rows all) ≡ Some x → Some x ≡ exceeded m
types_found m x a e =
    let all : List SubType = types_of m.types in
    rows_found (type_rows all) (local_rows m.funcs ++ depth_rows all) x e ∙ rows_none (first_rows (length all) m) (type_rows all ++ (local_rows m.funcs ++ depth_rows all)) a

pub locals_found : (m : Module) (x : Which × ℕ) → let all : List SubType = types_of m.types in first_exceeded (first_rows (length all) m) ≡ None → first_exceeded (type_rows all) ≡ None → first_exceeded (local_rows m.funcs) ≡ Some x → Some x ≡ exceeded m
locals_found m x a b e =
    let all : List SubType = types_of m.types in
    rows_found (local_rows m.funcs) (depth_rows all) x e
    ∙ rows_none (type_rows all) (local_rows m.funcs ++ depth_rows all) b
    ∙ rows_none (first_rows (length all) m) (type_rows all ++ (local_rows m.funcs ++ depth_rows all)) a

pub last_rows : (m : Module) → let all : List SubType = types_of m.types in first_exceeded (first_rows (length all) m) ≡ None → first_exceeded (type_rows all) ≡ None → first_exceeded (local_rows m.funcs) ≡ None → first_exceeded (depth_rows all) ≡ exceeded m
last_rows m a b c =
    let all : List SubType = types_of m.types in
    rows_none (local_rows m.funcs) (depth_rows all) c
    ∙ rows_none (type_rows all) (local_rows m.funcs ++ depth_rows all) b
    ∙ rows_none (first_rows (length all) m) (type_rows all ++ (local_rows m.funcs ++ depth_rows all)) a
