-- The limits on the parts of a module, in the order in which they are answered.
use Rattle.std.specs.Prelude.{ℕ, ◌+◌, List, [], ◌∷◌, length, count_by, sum_by, nat_lt, if◌then◌else◌, Option, Some, None, Bool, true, false}
use Rattle.std.specs.List.{position, range_with_len}
use Rattle.gu_types.specs.Depth.{types_of, depth}
use Rattle.gu_types.specs.declared.types.Comp.{Comp}
use Rattle.gu_types.specs.declared.types.Comp.TheVariants as C
use Rattle.gu_types.specs.declared.types.SubType.{SubType}
use Rattle.gu_syntax.specs.declared.module.Desc.{Desc}
use Rattle.gu_syntax.specs.declared.module.Desc.TheVariants as D
use Rattle.gu_syntax.specs.declared.module.Func.{Func}
use Rattle.gu_syntax.specs.declared.module.Module.{Module}
use Rattle.gu_read_parts.specs.declared.answer.Which.{Which}
use Rattle.gu_read_parts.specs.declared.answer.Which.TheVariants as W

-- a count, where it is more than so many
abbrev pub if_above : (most : ℕ) → ℕ → Option ℕ
if_above most n = if nat_lt most n then Some n else None

-- the index of the first item of which a number is more than so many
abbrev pub first_above : {X : Type 0} → (number : X → ℕ) → (most : ℕ) → List X → Option ℕ
first_above number most xs = position (λ x. nat_lt most (number x)) xs

-- the parameters and the results of a function type, and the fields of a structure type: other types have none
abbrev pub params_of : Comp → ℕ
params_of (C.Func params results) = length params
params_of _ = 0

abbrev pub results_of : Comp → ℕ
results_of (C.Func params results) = length results
results_of _ = 0

abbrev pub fields_of : Comp → ℕ
fields_of (C.Struct fields) = length fields
fields_of _ = 0

-- what is imported
abbrev pub is_func : Desc → Bool
is_func (D.Func ty) = true
is_func _ = false

abbrev pub is_global : Desc → Bool
is_global (D.Global ty mutable) = true
is_global _ = false

-- the functions and the globals of a module, imported ones included
abbrev pub funcs_in : Module → ℕ
funcs_in m = count_by (λ i. is_func i.desc) m.imports + length m.funcs

abbrev pub globals_in : Module → ℕ
globals_in m = count_by (λ i. is_global i.desc) m.imports + length m.globals

-- the locals of a function, without its parameters
abbrev pub locals_of : Func → ℕ
locals_of func = sum_by (λ run. run.0) func.locals

-- the index of the first type that has more than so many supertypes above it
abbrev pub first_deeper : (most : ℕ) → List SubType → Option ℕ
first_deeper most types = first_above (depth types) most (range_with_len 0 (length types))

-- what each limit bounds, the first first: the count, or the index of the first type or defined function, where it is
-- exceeded
abbrev pub limits_on : List SubType → Module → List (Which × Option ℕ)
limits_on types m =
    (W.Types, if_above 1000000 (length types)) ∷
    (W.Funcs, if_above 1000000 (funcs_in m)) ∷
    (W.Globals, if_above 1000000 (globals_in m)) ∷
    (W.Params, first_above (λ ty. params_of ty.comp) 1000 types) ∷
    (W.Results, first_above (λ ty. results_of ty.comp) 1000 types) ∷
    (W.Fields, first_above (λ ty. fields_of ty.comp) 10000 types) ∷
    (W.Locals, first_above locals_of 50000 m.funcs) ∷
    (W.ModuleLocals, if_above 4000000 (sum_by locals_of m.funcs)) ∷
    (W.Depth, first_deeper 63 types) ∷ []

-- the first limit of these that is exceeded
abbrev pub exceeded_or : Which → Option ℕ → Option (Which × ℕ) → Option (Which × ℕ)
exceeded_or which None later = later
exceeded_or which (Some at) later = Some (which, at)

abbrev pub first_exceeded : List (Which × Option ℕ) → Option (Which × ℕ)
first_exceeded [] = None
first_exceeded (row ∷ rows) = exceeded_or row.0 row.1 (first_exceeded rows)

-- the first limit that a module exceeds, and what is answered with it
abbrev pub exceeded : Module → Option (Which × ℕ)
exceeded m = first_exceeded (limits_on (types_of m.types) m)
