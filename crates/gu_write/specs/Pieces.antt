-- The entries of the code section in pieces (core specification 3.0, 5.5.13 Code Section).
use Rattle.std.specs.Prelude.{ℕ, ◌≡◌, ◌≤◌, List, length, Result, Vec, MatchResult}
use Rattle.std.specs.List.{slice_range}
use Rattle.std.specs.declared.alloc.Global.{Global}
use Rattle.gu_parallel.specs.Parts.{Follow}
use Rattle.gu_parallel.specs.declared.parts.Part.{Part}
use Rattle.gu_syntax.specs.Encoding.{encode_items, encode_func}
use Rattle.gu_syntax.specs.declared.module.Func.{Func}
use Rattle.gu_write_parts.specs.Limit.{BlamesLength}
use Rattle.gu_write_parts.specs.declared.error.WriteErr.{WriteErr}

-- a piece: bytes, or why there are none
abbrev pub Piece : Type 0
Piece = Result (Vec ℕ Global) WriteErr

-- the entries of the functions, or a failure that has its cause in their length
abbrev pub IsPiece : List Func → Piece → Type 0
IsPiece funcs made = MatchResult made (λ bytes. bytes.items ≡ encode_items encode_func funcs) (BlamesLength (encode_items encode_func funcs))

-- the piece of the functions from one place up to another
abbrev pub IsPieceOf : List Func → (start end : ℕ) → Piece → Type 0
IsPieceOf funcs start end made = IsPiece (slice_range funcs start end) made

-- pieces of the functions, one behind another from a place on
abbrev pub ArePieces : List Func → ℕ → List (Part Piece) → Type 0
ArePieces funcs place parts = Follow (λ start end. start ≤ end) (IsPieceOf funcs) (length funcs) place parts
