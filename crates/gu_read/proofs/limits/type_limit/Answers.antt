use Rattle.std.proofs.Common.{ap, ◌∙◌}
use Rattle.gu_read_parts.specs.declared.answer.Which.TheVariants as W
use Rattle.gu_read.specs.Limits.{exceeded_or}
use Rattle.gu_read.proofs.Rowing.{type_row}
use Rattle.gu_read.proofs.limits.type_limit.Goals as goal

pub returns : goal.returns
returns c = λ types sees.
    c.or_later.ensures
    ∙ ap (exceeded_or W.Params c.args.seen.now.params) (c.or_later-results.ensures ∙ ap (exceeded_or W.Results c.args.seen.now.results) c.or_later-fields.ensures)
    ∙ type_row c.args.seen.now types sees
