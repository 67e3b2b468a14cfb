use Rattle.std.proofs.Common.{ap, sym, ◌∙◌}
use Rattle.gu_types.specs.declared.types.HeapType.TheVariants as H
use Rattle.gu_contents.specs.Contents.{least_index}
use Rattle.gu_contents.proofs.Heights.{least_is}
use Rattle.gu_contents.proofs.facts.Facts.least_index.Goals as goal

pub returns-in-Idx : goal.returns-in-Idx
returns-in-Idx c = ap H.Idx (least_is c.args.self.now.types c.in-Idx.i c.canon.result c.canon.ensures.same c.canon.ensures.least) ∙ ap (least_index c.args.self.now.types) (sym c.in-Idx.is)
