use Rattle.std.proofs.Common.{sym}
use Rattle.gu_valid_types.proofs.Pairs.{too_few}
use Rattle.gu_valid_types.proofs.extends.fields_match.Goals as goal

pub returns-then-a-b : goal.returns-then-a-b
returns-then-a-b c = sym (too_few c.args.types.now c.args.a.now c.args.b.now c.if-a-b.true)
