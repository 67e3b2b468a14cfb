use Rattle.std.proofs.Common.{◌<◌, ℕ, get_or, ltb, ltb-true, subst, sym, arith, rules}
use Rattle.std.proofs.lemmas.List.{get_or-take, length-take-le}
use Rattle.std.proofs.lemmas.List.Sorted.{IsPartitionPoint-from_clause, IsPartitionedBy-ltb}
use Rattle.gu_links.proofs.next.place_of.Goals as goal

pub returns-clause-less : goal.returns-clause-less
returns-clause-less c k d lt =
    let parted = IsPartitionedBy-ltb (λ (n : ℕ). n) _ c.args.number c.requires in
    let point = IsPartitionPoint-from_clause (λ (n : ℕ). ltb n c.args.number) _ _ c.partition_point.ensures.partitioned parted (λ a r q k. search rules) in
    let bound = c.partition_point.ensures.bound in
    let long = length-take-le c.partition_point.result c.args.rising.now bound in
    let h : k < c.partition_point.result = omega arith in
    let at : get_or c.args.rising.now k d < c.args.number = ltb-true _ _ (point.0 k d (omega arith) h) in
    subst (λ (n : ℕ). n < c.args.number) (sym (get_or-take c.partition_point.result c.args.rising.now k d h)) at
