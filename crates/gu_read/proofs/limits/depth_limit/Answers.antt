use Rattle.std.proofs.Common.{ap, ◌∙◌, None}
use Rattle.gu_read_parts.specs.declared.answer.Which.TheVariants as W
use Rattle.gu_read.specs.Limits.{exceeded_or}
use Rattle.gu_read.proofs.limits.depth_limit.Goals as goal

pub returns : goal.returns
returns c = λ types sees. c.or_later.ensures ∙ ap (λ o. exceeded_or W.Depth o None) sees.deeper
