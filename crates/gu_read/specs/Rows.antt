-- The limits on the parts of a module, some rows at a time.
use Rattle.std.specs.Prelude.{ℕ, List, [], ◌∷◌, sum_by, min, nat_lt, if◌then◌else◌, Option}
use Rattle.gu_types.specs.declared.types.SubType.{SubType}
use Rattle.gu_syntax.specs.declared.module.Func.{Func}
use Rattle.gu_syntax.specs.declared.module.Module.{Module}
use Rattle.gu_read_parts.specs.declared.answer.Which.{Which}
use Rattle.gu_read_parts.specs.declared.answer.Which.TheVariants as W
use Rattle.gu_read.specs.Limits.{if_above, first_above, params_of, results_of, fields_of, funcs_in, globals_in, locals_of, first_deeper}

-- a number, or one more than the limit on locals where it is above that
abbrev pub capped : ℕ → ℕ
capped n = if nat_lt 50000 n then 50001 else n

-- a number of locals, or more than all functions may have where it is above the limit
abbrev pub weight : ℕ → ℕ
weight n = if nat_lt 50000 n then 4000001 else n

-- the weights of functions, added up as far as one more than all functions may have
abbrev pub weight_in : List Func → ℕ
weight_in funcs = min (sum_by (λ func. weight (locals_of func)) funcs) 4000001

abbrev pub first_rows : (types : ℕ) → Module → List (Which × Option ℕ)
first_rows types m = (W.Types, if_above 1000000 types) ∷ (W.Funcs, if_above 1000000 (funcs_in m)) ∷ (W.Globals, if_above 1000000 (globals_in m)) ∷ []

abbrev pub type_rows : List SubType → List (Which × Option ℕ)
type_rows types = (W.Params, first_above (λ ty. params_of ty.comp) 1000 types) ∷ (W.Results, first_above (λ ty. results_of ty.comp) 1000 types) ∷ (W.Fields, first_above (λ ty. fields_of ty.comp) 10000 types) ∷ []

abbrev pub local_rows : List Func → List (Which × Option ℕ)
local_rows funcs = (W.Locals, first_above locals_of 50000 funcs) ∷ (W.ModuleLocals, if_above 4000000 (sum_by locals_of funcs)) ∷ []

abbrev pub depth_rows : List SubType → List (Which × Option ℕ)
depth_rows types = (W.Depth, first_deeper 63 types) ∷ []
