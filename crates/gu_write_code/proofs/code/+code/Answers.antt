use Rattle.std.proofs.Common.{rules, arith, ◌≡◌, ◌<◌, ◌+◌, ◌++◌, ℕ, List, length, sym, subst, OnOk}
use Rattle.std.specs.Prelude.{IfErr}
use Rattle.std.proofs.lemmas.Grind.{common_steps}
use Rattle.gu_syntax.specs.declared.instr.Instr.{the_lemmas}
use Rattle.gu_syntax.specs.Code.{Ins, code_of, ins_of}
use Rattle.gu_syntax.proofs.Shapes.{ins_of-leaf}
use Rattle.gu_syntax.specs.Encoding.{encode_ins, encode_until}
use Rattle.gu_syntax.specs.Shape.{IsShapedIns}
use Rattle.gu_write_parts.specs.Limit.{BlamesEnd}
use Rattle.gu_write_code.proofs.Codes.{choice_short, choice_long, shaped_at, instrs_past, instr_past}
use Rattle.gu_write_code.proofs.code.+code.Goals as goal

pub put_instr-put_leaf-requires : goal.put_instr-put_leaf-requires
put_instr-put_leaf-requires t c =
    let same = ins_of-leaf _ c.in_default.not-Block c.in_default.not-Loop c.in_default.not-If c.in_default.not-TryTable in
    subst IsShapedIns same c.requires

pub put_instr-returns-in_default : goal.put_instr-returns-in_default
put_instr-returns-in_default t c =
    let same = ins_of-leaf _ c.in_default.not-Block c.in_default.not-Loop c.in_default.not-If c.in_default.not-TryTable in
    let P : Ins → Type 0 = λ ins. OnOk c.put_leaf.result (c.put_leaf.new.out.items ≡ c.args.out.now.items ++ encode_ins ins) in
    let Q : Ins → Type 0 = λ ins. IfErr c.put_leaf.result (BlamesEnd c.args.out.now.items (encode_ins ins)) in
    record { ok = subst P (sym same) c.put_leaf.ensures.ok; too_long = subst Q (sym same) c.put_leaf.ensures.too_long }

pub put_until-put_instr-requires : goal.put_until-put_instr-requires
put_until-put_instr-requires t c =
    (search (rules, the_lemmas), rw c.instr-item.is (shaped_at c.args.instrs.now c.instrs.instr-index c.instr-item.result (omega arith) c.requires))

pub put_until-returns-in_err-put_instr-clause-too_long : goal.put_until-returns-in_err-put_instr-clause-too_long
put_until-returns-in_err-put_instr-clause-too_long t c =
    let text = encode_until c.args.end (code_of c.args.instrs.now) in
    let step : 268435456 < length c.instrs.out.items + length (encode_ins (ins_of c.instr-item.result)) → 268435456 < length c.args.out.now.items + length text = instr_past 268435456 c.args.end c.args.instrs.now c.instrs.instr-index c.instr-item.result c.instr-item.result c.args.out.now.items text c.instrs.out.items (omega arith) c.instr-item.is c.instrs.invariant in
    first_of (grind (arith, common_steps), search rules)

pub put_until-returns-then-len-gt-LIMIT-clause-too_long : goal.put_until-returns-then-len-gt-LIMIT-clause-too_long
put_until-returns-then-len-gt-LIMIT-clause-too_long t c e = instrs_past 268435456 c.args.end c.args.instrs.now c.instrs.instr-index c.instr-item.result c.instr-item.result c.args.out.now.items _ c.instrs.out.items c.put_instr.new.out.items (omega arith) c.instr-item.is c.instrs.invariant c.in_ok-put_instr.ensures.ok (first_of (omega arith, grind (arith, common_steps), search rules))

pub put_choice-returns-then-is_empty-clause-ok : goal.put_choice-returns-then-is_empty-clause-ok
put_choice-returns-then-is_empty-clause-ok t c =
    let P : List ℕ → Type 0 = λ text. OnOk c.put_block.result (c.put_block.new.out.items ≡ c.args.out.now.items ++ text) in
    subst P (sym (choice_short c.args.whole.now.ty (code_of c.args.whole.now.yes.code) c.args.whole.now.no.code (first_of (omega arith, grind (arith, common_steps), search rules)))) c.put_block.ensures.ok

pub put_choice-returns-then-is_empty-clause-too_long : goal.put_choice-returns-then-is_empty-clause-too_long
put_choice-returns-then-is_empty-clause-too_long t c =
    let P : List ℕ → Type 0 = λ text. IfErr c.put_block.result (BlamesEnd c.args.out.now.items text) in
    subst P (sym (choice_short c.args.whole.now.ty (code_of c.args.whole.now.yes.code) c.args.whole.now.no.code (first_of (omega arith, grind (arith, common_steps), search rules)))) c.put_block.ensures.too_long

pub put_choice-returns-in_err-put_block-clause-too_long : goal.put_choice-returns-in_err-put_block-clause-too_long
put_choice-returns-in_err-put_block-clause-too_long t c =
    let P : List ℕ → Type 0 = λ text. IfErr c.from_residual.result (BlamesEnd c.args.out.now.items text) in
    subst P (sym (choice_long c.args.whole.now.ty (code_of c.args.whole.now.yes.code) c.args.whole.now.no.code (first_of (omega arith, grind (arith, common_steps), search rules)))) (first_of (grind (arith, common_steps), search rules))

pub put_choice-returns-clause-ok : goal.put_choice-returns-clause-ok
put_choice-returns-clause-ok t c =
    let P : List ℕ → Type 0 = λ text. OnOk c.put_until.result (c.put_until.new.out.items ≡ c.args.out.now.items ++ text) in
    subst P (sym (choice_long c.args.whole.now.ty (code_of c.args.whole.now.yes.code) c.args.whole.now.no.code (first_of (omega arith, grind (arith, common_steps), search rules)))) (first_of (grind (arith, common_steps), search rules))

pub put_choice-returns-clause-too_long : goal.put_choice-returns-clause-too_long
put_choice-returns-clause-too_long t c =
    let P : List ℕ → Type 0 = λ text. IfErr c.put_until.result (BlamesEnd c.args.out.now.items text) in
    subst P (sym (choice_long c.args.whole.now.ty (code_of c.args.whole.now.yes.code) c.args.whole.now.no.code (first_of (omega arith, grind (arith, common_steps), search rules)))) (first_of (grind (arith, common_steps), search rules))
