-- How a body is gone over: block by block.
use Rattle.std.specs.Prelude.{ℕ, Bool, false, List, [], ◌∷◌, ◌++◌, Option, Some, map, reverse, slice_set}
use Rattle.gu_types.specs.declared.types.ValType.{ValType}
use Rattle.gu_types.specs.declared.types.ValType.TheVariants.{I32}
use Rattle.gu_syntax.specs.declared.instr.BlockType.{BlockType}
use Rattle.gu_syntax.specs.Code.{Code}
use Rattle.gu_model.specs.Index.{FuncType}
use Rattle.gu_model.specs.TypingContext.{Context, Around, ◌>>=◌, type_of_block}
use Rattle.gu_model.specs.TypingShape.{Kind, Shape, pops, pushes, ends_with}
use Rattle.gu_model.specs.Typing.{inside, opened, type_code}
use Rattle.gu_valid_code.specs.declared.state.Outer.{Outer}
use Rattle.gu_valid_code.specs.State.{kind_of}
use Rattle.gu_valid_code.specs.Env.{label_of}

-- the flags, with those of these locals put back to false
abbrev pub unset : List ℕ → List Bool → List Bool
unset [] flags = flags
unset (x ∷ xs) flags = unset xs (slice_set flags x false)

-- with the flags as they were before these locals were set, in this order
abbrev pub before : List ℕ → Shape → Shape
before locals s = record s { set = unset (reverse locals) s.set }

-- the operands round a block that is open
abbrev pub outer_types : Outer → List Kind
outer_types o = map kind_of (reverse o.operands.items)

abbrev pub closed : Outer → Shape → Shape
closed o s = record s { types = outer_types o; any = o.any }

-- the code of a block, and its results behind it
abbrev pub leaves : Context → Around → (label : List ValType) → FuncType → Code → Shape → Option Shape
leaves C a label t c u = ends_with C.types t.results (type_code C (inside a label) c (opened t.params u)) (pushes t.results u)

-- a block with a label, which takes its parameters
abbrev pub enters : Context → Around → (label : List ValType) → FuncType → Code → Shape → Option Shape
enters C a label t c s = pops C.types t.params s >>= leaves C a label t c

abbrev pub nests : Context → Around → BlockType → (is_loop : Bool) → Code → Shape → Option Shape
nests C a ty is_loop c s = type_of_block C.types ty >>= λ t. enters C a (label_of is_loop t) t c s

-- the first branch of a choice, which takes an i32 besides its parameters, and the second, with the results behind it
abbrev pub branch_of : Context → Around → FuncType → Code → Shape → Option Shape
branch_of C a t c u = ends_with C.types t.results (type_code C (inside a t.results) c (opened t.params u)) (Some u)

abbrev pub first_of : Context → Around → BlockType → Code → Shape → Option Shape
first_of C a ty c s = type_of_block C.types ty >>= λ t. pops C.types (t.params ++ I32 ∷ []) s >>= branch_of C a t c

abbrev pub second_of : Context → Around → BlockType → Code → Shape → Option Shape
second_of C a ty d u = type_of_block C.types ty >>= λ t. leaves C a t.results t d u
