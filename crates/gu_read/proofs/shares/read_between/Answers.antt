use Rattle.std.proofs.Common.{ap, ◌∙◌, sym, ◌≡◌}
use Rattle.gu_syntax.specs.Reading.{entries_at}
use Rattle.gu_read.specs.Shares.{types_between, bytes_from}
use Rattle.gu_read.proofs.Sharing.{between_taken}
use Rattle.gu_read.proofs.shares.read_between.Goals as goal

pub returns : goal.returns
returns c =
    let these = c.split_at.result.0.now in
    let h = c.in_ok-funcs.ensures.value in
    let same : these ≡ types_between c.args.tys.now c.args.start c.args.end = between_taken c.args.tys.now c.tys_from-others.result.now these c.args.start c.args.end c.min.result c.tys_from-others.ensures c.min.ensures c.split_at.ensures.front in
    (h.0, c.in_ok-funcs.field-0-1.now, h.1, ap (λ t. entries_at 1000 t (bytes_from c.args.bytes.now c.args.start)) (sym same) ∙ ap (entries_at 1000 these) (sym c.rest_from.ensures) ∙ h.2)
