use Rattle.std.proofs.Common.{sym, subst, All}
use Rattle.std.specs.List.{Contains}
use Rattle.std.proofs.lemmas.List.Elements.{All-take, All-contains_itself}
use Rattle.std.proofs.lemmas.List.Sorted.{All-permutation}
use Rattle.gu_parallel.proofs.parts.in_order.Goals as goal

pub returns-clause-taken : goal.returns-clause-taken
returns-clause-taken g c =
    let given = c.args.parts.items in
    let sorted = c.sort_unstable_by_key.new.self.items in
    let among = All-permutation (Contains given) given sorted c.sort_unstable_by_key.ensures.permutation (All-contains_itself given) in
    subst (λ l. All (Contains given) l) (sym c.truncate.ensures.items) (All-take (Contains given) c.joined_len-count.result sorted among)
