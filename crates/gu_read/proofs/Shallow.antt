-- A module that was read within the limits has no type that is deeper than 63.
use Rattle.std.proofs.Common.{ℕ, zero, suc, ◌+◌, ◌≤◌, ◌<◌, ◌≡◌, refl, ap, cond, not, nat_lt, nat_eq, length, inl, inr, arith, List, Bool, true, false, None}
use Rattle.std.specs.List.{prefix_len, range_with_len}
use Rattle.std.proofs.lemmas.Option.{slice_get_cases}
use Rattle.std.proofs.lemmas.List.FromFn.{length-range_with_len}
use Rattle.gu_types.specs.declared.types.SubType.{SubType}
use Rattle.gu_types.specs.Depth.{types_of, smaller, first_super, depth}
use Rattle.gu_syntax.specs.declared.module.Module.{Module}
use Rattle.gu_read_parts.specs.declared.answer.Which.TheVariants as W
use Rattle.gu_read.specs.Limits.{if_above, first_above, params_of, results_of, fields_of, funcs_in, globals_in, locals_of, first_deeper, exceeded_or, exceeded}
use Rattle.std.specs.Prelude.{sum_by}
use Rattle.gu_read.specs.ReadsModule.{IsWithin}
use Rattle.gu_read.proofs.Answered.{none_or, first_none}
use Rattle.gu_read.proofs.Depths.{depth_root}

-- how many of these numbers are at most so much, from the front on
abbrev low : (f : ℕ → ℕ) (most : ℕ) → List ℕ → ℕ
low f most xs = prefix_len (λ n. not (nat_lt most (f n))) xs

at_most : (a b : ℕ) → nat_lt a b ≡ false → b ≤ a
at_most a b h = grind (arith, h)

low_more : (f : ℕ → ℕ) (most a i : ℕ) (e : Bool) → nat_eq a i ≡ e → a ≤ i → f a ≤ most → (a + 1 ≤ i → f i ≤ most) → f i ≤ most
low_more f most a i true e from first others = let same : a ≡ i = grind (arith, e) in let k = ap f same in omega (arith, k, first)
low_more f most a i false e from first others = others (grind (arith, e, from))

low_first : (f : ℕ → ℕ) (most a n rest : ℕ) (b : Bool) → nat_lt most (f a) ≡ b → suc n ≤ cond (not b) (1 + rest) 0 → (f a ≤ most) × (n ≤ rest)
low_first f most a n rest true e h = absurd (omega (arith, h))
low_first f most a n rest false e h = (at_most most (f a) e, omega (arith, h))

low_all : (f : ℕ → ℕ) (most a n : ℕ) → n ≤ low f most (range_with_len a n) → (i : ℕ) → a ≤ i → i < a + n → f i ≤ most
low_all f most a zero h i from below = absurd (omega (arith, from, below))
low_all f most a (suc n) h i from below =
    let w = low_first f most a n (low f most (range_with_len (a + 1) n)) (nat_lt most (f a)) refl h in
    low_more f most a i (nat_eq a i) refl from w.0 (λ above. low_all f most (a + 1) n w.1 i above (omega (arith, below)))

-- the last limit is not exceeded where none is
none_deeper : (m : Module) → exceeded m ≡ None → first_deeper 63 (types_of m.types) ≡ None
none_deeper m h =
    let types : List SubType = types_of m.types in
    let l0 = exceeded_or W.Depth (first_deeper 63 types) None in
    let l1 = exceeded_or W.ModuleLocals (if_above 4000000 (sum_by locals_of m.funcs)) l0 in
    let l2 = exceeded_or W.Locals (first_above locals_of 50000 m.funcs) l1 in
    let l3 = exceeded_or W.Fields (first_above (λ ty. fields_of ty.comp) 10000 types) l2 in
    let l4 = exceeded_or W.Results (first_above (λ ty. results_of ty.comp) 1000 types) l3 in
    let l5 = exceeded_or W.Params (first_above (λ ty. params_of ty.comp) 1000 types) l4 in
    let l6 = exceeded_or W.Globals (if_above 1000000 (globals_in m)) l5 in
    let l7 = exceeded_or W.Funcs (if_above 1000000 (funcs_in m)) l6 in
    let a = none_or W.Types (if_above 1000000 (length types)) l7 h in
    let b = none_or W.Funcs (if_above 1000000 (funcs_in m)) l6 a.1 in
    let c = none_or W.Globals (if_above 1000000 (globals_in m)) l5 b.1 in
    let d = none_or W.Params (first_above (λ ty. params_of ty.comp) 1000 types) l4 c.1 in
    let e = none_or W.Results (first_above (λ ty. results_of ty.comp) 1000 types) l3 d.1 in
    let f = none_or W.Fields (first_above (λ ty. fields_of ty.comp) 10000 types) l2 e.1 in
    let g = none_or W.Locals (first_above locals_of 50000 m.funcs) l1 f.1 in
    let k = none_or W.ModuleLocals (if_above 4000000 (sum_by locals_of m.funcs)) l0 g.1 in
    (none_or W.Depth (first_deeper 63 types) None k.1).0

-- no type of a module within the limits has more than 63 supertypes above it
pub within_is_shallow : (m : Module) → IsWithin m → (i : ℕ) → depth (types_of m.types) i ≤ 63
within_is_shallow m within i =
    let types : List SubType = types_of m.types in
    let indices : List ℕ = range_with_len 0 (length types) in
    let count = length-range_with_len 0 (length types) in
    let all = first_none (low (depth types) 63 indices) (length indices) (nat_lt (low (depth types) 63 indices) (length indices)) refl (none_deeper m within.counted) in
    elim (slice_get_cases types i).1 as (λ _. depth types i ≤ 63) [
      | inl w ↦ let inside = w.1 in low_all (depth types) 63 0 (length types) (omega (arith, count, all)) i (omega arith) (omega (arith, inside))
      | inr w ↦ let root = depth_root types i (ap (λ o. smaller i (first_super o)) w.1) in omega (arith, root)
    ]
