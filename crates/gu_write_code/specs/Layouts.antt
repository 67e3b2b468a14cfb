-- The text of a code with its immediates (core specification 3.0, 5.4 Instructions).
use Rattle.std.specs.Prelude.{ℕ, List, [], ◌∷◌, ◌++◌}
use Rattle.gu_bytes.specs.Numbers.{least_unsigned, least_signed}
use Rattle.gu_syntax.specs.Encoding.{encode_mem_arg, encode_heap, encode_cast, encode_block_type, encode_until, encode_run, encode_body, prefixed, two, encode_vector}
use Rattle.gu_syntax.specs.declared.module.Func.{Func}
use Rattle.gu_syntax.specs.Code.{Code}
use Rattle.gu_syntax.specs.declared.instr.BlockType.{BlockType}
use Rattle.gu_write_code.specs.declared.layout.Immediates.{Immediates}
use Rattle.gu_write_code.specs.declared.layout.Immediates.TheVariants as N
use Rattle.gu_write_code.specs.declared.layout.Layout.{Layout}
use Rattle.gu_write_code.specs.declared.layout.Layout.TheVariants as Y

-- what stands behind a code
abbrev pub immediates_text : Immediates → List ℕ
immediates_text N.Nothing = []
immediates_text (N.Index n) = least_unsigned n
immediates_text (N.Indices m n) = two m n
immediates_text (N.Memory arg) = encode_mem_arg arg
immediates_text (N.Narrow value) = least_signed value
immediates_text (N.Wide value) = least_signed value
immediates_text (N.Heap heap) = encode_heap heap
immediates_text (N.Cast branch) = encode_cast branch

-- a code, or a prefix and a number, and what stands behind
abbrev pub layout_text : Layout → List ℕ
layout_text (Y.Plain code immediates) = code ∷ immediates_text immediates
layout_text (Y.Prefixed prefix code immediates) = prefixed prefix code (immediates_text immediates)

-- the code of a construct, its type, and its first instructions up to a byte that ends them
abbrev pub block_text : (code : ℕ) → BlockType → (end : ℕ) → Code → List ℕ
block_text code ty end body = code ∷ (encode_block_type ty ++ encode_until end body)

-- what a code entry has behind its size (5.5.13 Code Section)
abbrev pub entry_content : Func → List ℕ
entry_content func = encode_vector encode_run func.locals ++ encode_body func.body
