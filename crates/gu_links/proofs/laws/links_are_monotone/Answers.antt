use Rattle.std.proofs.lemmas.List.Elements.{All-contains}
use Rattle.gu_contents.specs.Belongs.{Belongs, IsListed}
use Rattle.gu_contents.proofs.Belonging.{answers_belong}
use Rattle.gu_contents.proofs.Listed.{answers_listed}
use Rattle.gu_links.specs.Solutions.{Fits, IsClosed}
use Rattle.gu_links.specs.Laws.{AskedIsProper, SolutionsMeet}
use Rattle.gu_contents.proofs.Law.{lattice}
use Rattle.gu_links.proofs.Given.{belonging_is_kept, listed_is_kept, gives_proper}
use Rattle.gu_links.proofs.Monotone.{gives_down}
use Rattle.gu_links.proofs.laws.links_are_monotone.Goals as goal

proper : AskedIsProper
proper f longs count links system link listed x all k d lt =
    let fit = All-contains (Fits f longs count) links link system.fit listed in
    let b = gives_proper f (Belongs f) (belonging_is_kept f (lattice f) (answers_belong f)) longs count links system (λ a h. h.belongs) x (λ c. (all c).belongs) link fit k d lt in
    let l = gives_proper f (IsListed longs) (listed_is_kept f longs (lattice f) (answers_belong f) (answers_listed f longs)) longs count links system (λ a h. h.listed) x (λ c. (all c).listed) link fit k d lt in
    record { cell = b.0; content = record { belongs = b.1; listed = l.1 } }

met : SolutionsMeet
met f longs count links system link listed x y hx hy below solves =
    gives_down f (lattice f) (answers_belong f) longs count links system x y hx hy below link (All-contains (Fits f longs count) links link system.fit listed)
    (All-contains (λ link. IsClosed f links link y) links link solves.closed listed).met

pub returns : goal.returns
returns c = record { proper = proper; met = met }
