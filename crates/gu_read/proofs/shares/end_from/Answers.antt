use Rattle.std.proofs.Common.{arith, ◌≡◌, ◌-◌, ◌+◌, ◌<◌, ◌^◌, subst, length, drop, take}
use Rattle.gu_read.specs.Shares.{EndsAt, offset_of, bytes_from}
use Rattle.gu_read.proofs.Ends.{behind_dropped}
use Rattle.gu_read.proofs.Sharing.{ends_there, offset_fits}
use Rattle.gu_read.proofs.shares.end_from.Goals as goal

pub returns : goal.returns
returns c =
    let count = c.pass_batch-count.result.0 in
    let passed = length c.rest_from-rest.result.now - length c.pass_batch-count.result.1.now in
    let fits : offset_of c.args.start + passed < 2 ^ 32 = offset_fits c.args.bytes.now c.rest_from-rest.result.now c.args.start c.requires.bytes c.rest_from-rest.ensures passed (omega arith) in
    ends_there c.args.tys.now c.args.bytes.now c.pass_batch-count.result.1.now c.args.start count passed fits
    (subst (λ t. drop passed t ≡ c.pass_batch-count.result.1.now) c.rest_from-rest.ensures (behind_dropped c.rest_from-rest.result.now c.pass_batch-count.result.1.now c.pass_batch-count.ensures.behind))
    (subst (λ t. EndsAt (take count t) (bytes_from c.args.bytes.now c.args.start) c.pass_batch-count.result.1.now) c.tys_from-others.ensures (subst (λ t. EndsAt (take count c.tys_from-others.result.now) t c.pass_batch-count.result.1.now) c.rest_from-rest.ensures c.pass_batch-count.ensures.ends))
