-- Instructions that are written one by one, and the two spellings of an `if`.
use Rattle.std.proofs.Common.{ℕ, zero, suc, ◌+◌, ◌<◌, ◌≡◌, List, [], ◌∷◌, ◌++◌, length, get_or, drop, arith, refl, sym, ap, ◌∙◌, length-append, append_assoc}
use Rattle.std.proofs.lemmas.List.{drop_more}
use Rattle.gu_syntax.specs.declared.instr.BlockType.{BlockType}
use Rattle.gu_syntax.specs.declared.instr.Instr.{Instr}
use Rattle.gu_syntax.specs.Code.{Code, choice, code_of, ins_of}
use Rattle.gu_syntax.specs.Encoding.{encode_until, encode_ins, encode_block_type}
use Rattle.gu_syntax.specs.Shape.{IsShapedCode, IsShapedIns}
use Rattle.gu_write_parts.proofs.Lengths.{front_past}
use Rattle.gu_write_code.specs.Layouts.{block_text}

-- an empty second branch is left out
pub choice_short : (ty : BlockType) (yes' : Code) (no' : List Instr) → length no' ≡ 0 → encode_ins (choice ty yes' (code_of no')) ≡ block_text 0x04 ty 0x0B yes'
choice_short ty yes' [] h = refl
choice_short ty yes' (i ∷ is) h = absurd (omega (arith, h))

pub choice_long : (ty : BlockType) (yes' : Code) (no' : List Instr) → 0 < length no' → encode_ins (choice ty yes' (code_of no')) ≡ block_text 0x04 ty 0x05 yes' ++ encode_until 0x0B (code_of no')
choice_long ty yes' [] h = absurd (omega (arith, h))
choice_long ty yes' (i ∷ is) h = ap (λ bs. 0x04 ∷ bs) (sym (append_assoc (encode_block_type ty) (encode_until 0x05 yes') (encode_until 0x0B (code_of (i ∷ is)))))

-- what holds of the instructions holds of each
pub shaped_at : (is : List Instr) (k : ℕ) (d : Instr) → k < length is → IsShapedCode (code_of is) → IsShapedIns (ins_of (get_or is k d))
shaped_at [] k d h all = absurd (omega (arith, h))
shaped_at (i ∷ is) zero d h all = all.0
shaped_at (i ∷ is) (suc k) d h all = shaped_at is k d (omega (arith, h)) all.1

-- one more instruction is written
pub instr_more : (end : ℕ) (is : List Instr) (k : ℕ) (d : Instr) (whole out new : List ℕ) → k < length is → out ++ encode_until end (code_of (drop k is)) ≡ whole → new ≡ out ++ encode_ins (ins_of (get_or is k d)) → new ++ encode_until end (code_of (drop (k + 1) is)) ≡ whole
instr_more end is k d whole out new h so put = ap (λ bs. bs ++ encode_until end (code_of (drop (k + 1) is))) put ∙ append_assoc out (encode_ins (ins_of (get_or is k d))) (encode_until end (code_of (drop (k + 1) is))) ∙ ap (λ js. out ++ encode_until end (code_of js)) (sym (drop_more is k d h)) ∙ so

-- the instructions so far are past the limit
pub instrs_past : (limit end : ℕ) (is : List Instr) (k : ℕ) (i d : Instr) (old text out new : List ℕ) → k < length is → i ≡ get_or is k d → out ++ encode_until end (code_of (drop k is)) ≡ old ++ text → new ≡ out ++ encode_ins (ins_of i) → limit < length new → limit < length old + length text
instrs_past limit end is k i d old text out new h at so put past = front_past limit new (encode_until end (code_of (drop (k + 1) is))) old text (instr_more end is k d (old ++ text) out new h so (put ∙ ap (λ j. out ++ encode_ins (ins_of j)) at)) past

-- one instruction more is past the limit
pub instr_past : (limit end : ℕ) (is : List Instr) (k : ℕ) (i d : Instr) (old text out : List ℕ) → k < length is → i ≡ get_or is k d → out ++ encode_until end (code_of (drop k is)) ≡ old ++ text → limit < length out + length (encode_ins (ins_of i)) → limit < length old + length text
instr_past limit end is k i d old text out h at so past = instrs_past limit end is k i d old text out (out ++ encode_ins (ins_of i)) h at so refl (omega (arith, length-append out (encode_ins (ins_of i))))
