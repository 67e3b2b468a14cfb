use Rattle.std.proofs.Common.{arith, rules, ◌≡◌, ◌<◌, ◌≤◌, ◌+◌, ◌∙◌, sym, subst, List, ℕ, length}
use Rattle.std.proofs.lemmas.Grind.{common_steps}
use Rattle.gu_syntax.specs.Encoding.{section, encoding, encode_func, encode_seg}
use Rattle.gu_syntax.specs.Module.{Spells}
use Rattle.gu_write.specs.Parts.{front_text}
use Rattle.gu_write.proofs.Whole.{at_code, at_segs, front_long, part_past, last_past}
use Rattle.gu_write.proofs.module.write_module.Goals as goal

pub returns-in_err-before-clause-too_long : goal.returns-in_err-before-clause-too_long
returns-in_err-before-clause-too_long g c =
    let step : 268435456 < length (front_text c.args.m.now) → 268435456 < length (encoding c.args.m.now) = front_long c.args.m.now 268435456 in
    first_of (grind (arith, common_steps), search rules)

pub returns-in_err-put_code-clause-too_long : goal.returns-in_err-put_code-clause-too_long
returns-in_err-put_code-clause-too_long g c =
    let step : 268435456 < length c.in_ok-before.before.items + length (section 10 encode_func c.as_slice.result.now) → 268435456 < length (encoding c.args.m.now) = part_past 268435456 (encoding c.args.m.now) c.in_ok-before.before.items (section 10 encode_func c.as_slice.result.now) _ (at_code c.args.m.now c.in_ok-before.before.items c.as_slice.result.now c.in_ok-before.ensures.text c.as_slice.ensures) in
    first_of (grind (arith, common_steps), search rules)

pub returns-in_err-put_section-clause-too_long : goal.returns-in_err-put_section-clause-too_long
returns-in_err-put_section-clause-too_long g c =
    let step : 268435456 < length c.put_code.new.out.items + length (section 11 encode_seg c.as_slice-2.result.now) → 268435456 < length (encoding c.args.m.now) = last_past 268435456 (encoding c.args.m.now) c.put_code.new.out.items (section 11 encode_seg c.as_slice-2.result.now) (at_segs c.args.m.now c.in_ok-before.before.items c.put_code.new.out.items c.as_slice.result.now c.as_slice-2.result.now c.in_ok-before.ensures.text c.as_slice.ensures c.in_ok-put_code.ensures.ok c.as_slice-2.ensures) in
    first_of (grind (arith, common_steps), search rules)

pub returns-then-len-gt-LIMIT-clause-too_long : goal.returns-then-len-gt-LIMIT-clause-too_long
returns-then-len-gt-LIMIT-clause-too_long g c e =
    let whole : c.put_section.new.out.items ≡ encoding c.args.m.now = c.in_ok-put_section.ensures.ok ∙ sym (at_segs c.args.m.now c.in_ok-before.before.items c.put_code.new.out.items c.as_slice.result.now c.as_slice-2.result.now c.in_ok-before.ensures.text c.as_slice.ensures c.in_ok-put_code.ensures.ok c.as_slice-2.ensures) in
    let P : List ℕ → Type 0 = λ text. 268435456 < length text in
    subst P whole (first_of (omega arith, first_of (grind (arith, common_steps), search rules)))

pub returns-clause-text : goal.returns-clause-text
returns-clause-text g c = c.in_ok-put_section.ensures.ok ∙ sym (at_segs c.args.m.now c.in_ok-before.before.items c.put_code.new.out.items c.as_slice.result.now c.as_slice-2.result.now c.in_ok-before.ensures.text c.as_slice.ensures c.in_ok-put_code.ensures.ok c.as_slice-2.ensures)

pub returns-clause-spells : goal.returns-clause-spells
returns-clause-spells g c =
    let whole : c.put_section.new.out.items ≡ encoding c.args.m.now = c.in_ok-put_section.ensures.ok ∙ sym (at_segs c.args.m.now c.in_ok-before.before.items c.put_code.new.out.items c.as_slice.result.now c.as_slice-2.result.now c.in_ok-before.ensures.text c.as_slice.ensures c.in_ok-put_code.ensures.ok c.as_slice-2.ensures) in
    let short : length c.put_section.new.out.items ≤ 268435456 = first_of (omega arith, first_of (grind (arith, common_steps), search rules)) in
    let P : List ℕ → Type 0 = λ text. length text ≤ 268435456 in
    let Q : List ℕ → Type 0 = λ text. Spells text c.args.m.now in
    subst Q (sym whole) (c.one_reading.ensures.least c.args.m.now (record { shaped = c.requires; short = subst P whole short }))

pub returns-clause-only : goal.returns-clause-only
returns-clause-only g c n other =
    let whole : c.put_section.new.out.items ≡ encoding c.args.m.now = c.in_ok-put_section.ensures.ok ∙ sym (at_segs c.args.m.now c.in_ok-before.before.items c.put_code.new.out.items c.as_slice.result.now c.as_slice-2.result.now c.in_ok-before.ensures.text c.as_slice.ensures c.in_ok-put_code.ensures.ok c.as_slice-2.ensures) in
    let short : length c.put_section.new.out.items ≤ 268435456 = first_of (omega arith, first_of (grind (arith, common_steps), search rules)) in
    let P : List ℕ → Type 0 = λ text. length text ≤ 268435456 in
    let Q : List ℕ → Type 0 = λ text. Spells text c.args.m.now in
    let spells = subst Q (sym whole) (c.one_reading.ensures.least c.args.m.now (record { shaped = c.requires; short = subst P whole short })) in
    c.one_reading.ensures.one c.put_section.new.out.items n c.args.m.now other spells
