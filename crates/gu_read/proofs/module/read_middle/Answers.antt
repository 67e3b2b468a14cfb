use Rattle.gu_read.proofs.Wholes.{middle_stands}
use Rattle.gu_read.proofs.module.read_middle.Goals as goal

pub returns-clause-value : goal.returns-clause-value
returns-clause-value g c = middle_stands c.args.tys.now c.args.bytes.now c.in_ok-tables.rest.now c.in_ok-memories.rest.now c.in_ok-tags.rest.now c.in_ok-globals.rest.now c.in_ok-exports.rest.now c.in_ok-start.rest.now c.in_ok-elems.rest.now c.in_ok-late.rest.now _ c.in_ok-tables.ensures.value c.in_ok-memories.ensures.value c.in_ok-tags.ensures.value c.in_ok-globals.ensures.value c.in_ok-exports.ensures.value c.in_ok-start.ensures.value c.in_ok-elems.ensures.value c.in_ok-late.ensures.value
