-- What the instructions whose results rest on their operands do with operands that were taken.
use Rattle.std.specs.Prelude.{ℕ, Bool, true, false, List, [], ◌∷◌, ◌++◌, Option, Some}
use Rattle.gu_types.specs.declared.types.ValType.{ValType}
use Rattle.gu_types.specs.declared.types.ValType.TheVariants.{I32}
use Rattle.gu_syntax.specs.declared.instr.Instr.{Instr}
use Rattle.gu_syntax.specs.declared.instr.Instr.TheVariants as I
use Rattle.gu_model.specs.TypingContext.{Context, ◌>>=◌, idx_or_null}
use Rattle.gu_model.specs.Index.{func_type}
use Rattle.gu_model.specs.TypingRows.{Row, goes, leaves}
use Rattle.gu_model.specs.TypingShape.{Kind, Shape, non_null, pop_kind, push, pushes}
use Rattle.gu_model.specs.Typing as typing

abbrev pub select_from : Kind → Kind → Shape → Option Shape
select_from j k s = typing.selected j k >>= λ r. push r s

abbrev pub select_below : Kind → Shape → Option Shape
select_below k s = pop_kind s (λ j. select_from j k)

abbrev pub is_null_of : Kind → Shape → Option Shape
is_null_of k s = non_null k >>= λ r. pushes (I32 ∷ []) s

abbrev pub non_null_of : Kind → Shape → Option Shape
non_null_of k s = non_null k >>= λ r. push r s

abbrev pub null_branch : Context → List ValType → Kind → Shape → Option Shape
null_branch C ts k s = non_null k >>= λ r. typing.null_branch C ts r s

abbrev pub non_null_branch : Context → (List ValType × ValType) → Kind → Shape → Option Shape
non_null_branch C ends k s = non_null k >>= λ r. typing.non_null_branch C r s ends

-- the row of a call of a function
abbrev pub call : Context → (func : ℕ) → Option Row
call C f = typing.func_at C f >>= typing.calls []

-- the row of a call of a reference to a function of a type
abbrev pub call_ref : Context → (type : ℕ) → Option Row
call_ref C x = func_type C.types x >>= typing.calls (idx_or_null x ∷ [])

-- the rows of branches to a label
abbrev pub branch : (label : Option (List ValType)) → Option Row
branch label = label >>= λ ts. Some (leaves ts)

abbrev pub branch_if : (label : Option (List ValType)) → Option Row
branch_if label = label >>= λ ts. Some (goes (ts ++ I32 ∷ []) ts)

-- whether an instruction sets a local
abbrev pub sets_local : Instr → Bool
sets_local (I.LocalSet x) = true
sets_local (I.LocalTee x) = true
sets_local _ = false
