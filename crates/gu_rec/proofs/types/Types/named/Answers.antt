use Rattle.std.proofs.Common.{sym, subst}
use Rattle.gu_types.specs.declared.types.HeapType.TheVariants as H
use Rattle.gu_rec.specs.Table.{IsNamed}
use Rattle.gu_rec.proofs.Climbing.{named_index, named_abs}
use Rattle.gu_rec.proofs.types.Types.named.Goals as goal

pub returns-in-Abs : goal.returns-in-Abs
returns-in-Abs c = subst (λ h. IsNamed c.args.self.now h h) (sym c.in-Abs.is) (named_abs c.args.self.now c.in-Abs.field-0)

pub returns-in-Idx : goal.returns-in-Idx
returns-in-Idx c = subst (λ h. IsNamed c.args.self.now h (H.Idx c.canon.result)) (sym c.in-Idx.is) (named_index c.args.self.now c.in-Idx.i c.canon.result c.canon.ensures.same c.canon.ensures.least)
