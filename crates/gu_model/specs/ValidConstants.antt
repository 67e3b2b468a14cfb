-- Constant expressions (core specification 3.0, 3.4 Instructions, constant expressions).
use Rattle.std.specs.Prelude.{ℕ, Bool, true, false, not, ◌&&◌, ◌||◌, [], ◌∷◌, Option, Some, None, slice_get, take, nat_eq}
use Rattle.gu_types.specs.declared.types.ValType.{ValType}
use Rattle.gu_syntax.specs.declared.instr.Instr.{Instr}
use Rattle.gu_syntax.specs.declared.instr.Instr.TheVariants as I
use Rattle.gu_syntax.specs.Code.{Ins, Code, leaf, done, next}
use Rattle.gu_model.specs.TypingContext.{Context, Around}
use Rattle.gu_model.specs.TypingShape.{Shape}
use Rattle.gu_model.specs.Typing.{is_typed}

-- add, sub and mul of both widths, by their rows in the table of operators
abbrev pub is_constant_operator : (row : ℕ) → Bool
is_constant_operator n = nat_eq n 25 || nat_eq n 26 || nat_eq n 27 || nat_eq n 43 || nat_eq n 44 || nat_eq n 45

-- a global that is there and may not be written
abbrev pub is_immutable : Option (ValType × Bool) → Bool
is_immutable None = false
is_immutable (Some g) = not g.1

-- the instructions that constant expressions may hold
abbrev pub is_constant_leaf : Context → Instr → Bool
is_constant_leaf C (I.I32Const n) = true
is_constant_leaf C (I.I64Const n) = true
is_constant_leaf C (I.Num op) = is_constant_operator op.row
is_constant_leaf C (I.RefNull heap) = true
is_constant_leaf C (I.RefFunc f) = true
is_constant_leaf C I.RefI31 = true
is_constant_leaf C (I.StructNew x) = true
is_constant_leaf C (I.StructNewDefault x) = true
is_constant_leaf C (I.ArrayNew x) = true
is_constant_leaf C (I.ArrayNewDefault x) = true
is_constant_leaf C (I.ArrayNewFixed x n) = true
is_constant_leaf C I.AnyConvertExtern = true
is_constant_leaf C I.ExternConvertAny = true
is_constant_leaf C (I.GlobalGet x) = is_immutable (slice_get C.globals x)
is_constant_leaf C _ = false

abbrev pub is_constant_ins : Context → Ins → Bool
is_constant_ins C (leaf i) = is_constant_leaf C i
is_constant_ins C _ = false

abbrev pub is_constant : Context → Code → Bool
is_constant C done = true
is_constant C (next i c) = is_constant_ins C i && is_constant C c

abbrev pub nowhere : Around
nowhere = record { labels = []; results = []; locals = [] }

abbrev pub nothing : Shape
nothing = record { types = []; any = false; set = [] }

-- a constant expression that gives a value of a type
abbrev pub is_constant_of : Context → ValType → Code → Bool
is_constant_of C t c = is_constant C c && is_typed C nowhere c nothing (t ∷ [])

-- the context in which only so many globals are there
abbrev pub with_globals : ℕ → Context → Context
with_globals n C = record C { globals = take n C.globals }
