use Rattle.gu_read.proofs.Wholes.{late_stands}
use Rattle.gu_read.proofs.module.read_late.Goals as goal

pub returns-clause-value : goal.returns-clause-value
returns-clause-value g c = late_stands c.args.tys.now c.args.bytes.now c.in_ok-said.rest.now c.in_ok-funcs.rest.now c.in_ok-segs.rest.now c.in_ok-said.said c.in_ok-funcs.funcs c.in_ok-segs.segs c.in_ok-said.ensures.value c.in_ok-funcs.ensures.value c.in_ok-segs.ensures.value
