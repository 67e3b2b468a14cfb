use Rattle.std.proofs.Common.{sym, ◌∙◌}
use Rattle.gu_read.proofs.Wholes.{sections_left, sections_missing, sections_stand, is_left, none_left}
use Rattle.gu_read.proofs.module.read_sections.Goals as goal

pub returns-then-not-is_empty-clause-value : goal.returns-then-not-is_empty-clause-value
returns-then-not-is_empty-clause-value g c =
    let middle = rw c.as_slice.ensures at c.in_ok-middle.ensures.value in
    rw c.at.ensures (sections_left c.args.bytes.now c.in_ok-groups.rest.now c.in_ok-imports.rest.now c.in_ok-tys.rest.now c.in_ok-middle.rest.now c.in_ok-groups.groups c.in_ok-imports.imports c.in_ok-tys.tys c.in_ok-middle.middle c.in_ok-groups.ensures.value c.in_ok-imports.ensures.value c.in_ok-tys.ensures.value middle (is_left c.in_ok-middle.rest.now c.is_empty.result c.is_empty.ensures c.if-not-is_empty.true))

pub returns-then-is_missing-clause-value : goal.returns-then-is_missing-clause-value
returns-then-is_missing-clause-value g c =
    let middle = rw c.as_slice.ensures at c.in_ok-middle.ensures.value in
    let missing = rw c.as_slice-2.ensures at (sym c.is_missing.ensures ∙ c.if-is_missing.true) in
    rw c.at-then-is_missing.ensures (sections_missing c.args.bytes.now c.in_ok-groups.rest.now c.in_ok-imports.rest.now c.in_ok-tys.rest.now c.in_ok-middle.rest.now c.in_ok-groups.groups c.in_ok-imports.imports c.in_ok-tys.tys c.in_ok-middle.middle c.in_ok-groups.ensures.value c.in_ok-imports.ensures.value c.in_ok-tys.ensures.value middle (none_left c.in_ok-middle.rest.now c.is_empty.result c.is_empty.ensures c.if-not-is_empty.false) missing)

pub returns-clause-value : goal.returns-clause-value
returns-clause-value g c =
    let middle = rw c.as_slice.ensures at c.in_ok-middle.ensures.value in
    let missing = rw c.as_slice-2.ensures at (sym c.is_missing.ensures ∙ c.if-is_missing.false) in
    rw c.assemble.ensures (sections_stand c.args.bytes.now c.in_ok-groups.rest.now c.in_ok-imports.rest.now c.in_ok-tys.rest.now c.in_ok-middle.rest.now c.in_ok-groups.groups c.in_ok-imports.imports c.in_ok-tys.tys c.in_ok-middle.middle c.in_ok-groups.ensures.value c.in_ok-imports.ensures.value c.in_ok-tys.ensures.value middle (none_left c.in_ok-middle.rest.now c.is_empty.result c.is_empty.ensures c.if-not-is_empty.false) missing)
