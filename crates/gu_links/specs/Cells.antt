-- The first cells of a system have fixed numbers, which the facts tell: what the fields of structures and the elements of
-- arrays hold, and the parameters and results of functions. All other cells come behind them.
use Rattle.std.specs.Prelude.{ℕ, ◌+◌, Bool, List, length, Option, Some, None, map, sum_by, nat_eq, slice_get, slice_index, if◌then◌else◌}
use Rattle.gu_types.specs.declared.types.SubType.{SubType}
use Rattle.gu_types.specs.declared.types.TypeList.{TypeList}
use Rattle.gu_types.specs.declared.types.Comp.{Comp}
use Rattle.gu_types.specs.declared.types.Comp.TheVariants as C
use Rattle.gu_types.specs.Depth.{types_of}
use Rattle.gu_rec.specs.Keys.{run}
use Rattle.gu_contents.specs.declared.facts.Facts.{Facts}
use Rattle.gu_contents.specs.Contents.{least_of}

-- how many slots the values of a type have: a structure has one for each field, an array one for all of its elements
abbrev pub comp_slots : Comp → ℕ
comp_slots (C.Func params results) = 0
comp_slots (C.Struct fields) = length fields
comp_slots (C.Array field) = 1

-- how many parameters and how many results the functions of a type have
abbrev pub comp_params : Comp → ℕ
comp_params (C.Func params results) = length params
comp_params _ = 0

abbrev pub comp_results : Comp → ℕ
comp_results (C.Func params results) = length results
comp_results _ = 0

-- a number that a composite type tells of the type with an index; 0 where there is none
abbrev pub count_of : (Comp → ℕ) → Option SubType → ℕ
count_of count None = 0
count_of count (Some ty) = count ty.comp

-- how many slots the values of the type with an index have
abbrev pub slots_of : TypeList → ℕ → ℕ
slots_of list ty = count_of comp_slots (slice_get (types_of list) ty)

-- whether an index is the least of its type
abbrev pub is_least : TypeList → ℕ → Bool
is_least list ty = nat_eq (least_of list ty) ty

-- how many cells the slots of an index take: indices of the same type share those of the least one
abbrev pub own_slots : TypeList → ℕ → ℕ
own_slots list ty = if is_least list ty then slots_of list ty else 0

-- the cells of slots come first, type by type
abbrev pub slots_before : Facts → ℕ → ℕ
slots_before f ty = sum_by (own_slots f.types) (run 0 ty)

-- the cell of a slot of the type with an index
unfoldable pub slot_cell : Facts → ℕ → ℕ → ℕ
slot_cell f ty slot = slots_before f (least_of f.types ty) + slot

-- how many parameters and how many results a function has
abbrev pub params_of : Facts → ℕ → ℕ
params_of f g = count_of comp_params (slice_get (types_of f.types) (slice_index f.funcs g))

abbrev pub results_of : Facts → ℕ → ℕ
results_of f g = count_of comp_results (slice_get (types_of f.types) (slice_index f.funcs g))

-- behind these come the cells of the functions, function by function: its parameters and then its results
abbrev pub before_func : Facts → ℕ → ℕ
before_func f g = slots_before f (length (types_of f.types)) + sum_by (λ h. params_of f h + results_of f h) (run 0 g)

-- the cell of a parameter of a function
unfoldable pub param_cell : Facts → ℕ → ℕ → ℕ
param_cell f g j = before_func f g + j

-- the cell of a result of a function
unfoldable pub out_cell : Facts → ℕ → ℕ → ℕ
out_cell f g j = before_func f g + (params_of f g + j)

-- how many cells slots, parameters and results take
unfoldable pub own_cells : Facts → ℕ
own_cells f = before_func f (length f.funcs)

-- the cells of all parameters of a function, in order, and of all its results
abbrev pub param_cells : Facts → ℕ → List ℕ
param_cells f g = map (param_cell f g) (run 0 (params_of f g))

abbrev pub out_cells : Facts → ℕ → List ℕ
out_cells f g = map (out_cell f g) (run 0 (results_of f g))
