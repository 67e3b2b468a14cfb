use Rattle.std.proofs.Common.{ℕ, List, [], sym, ap, subst}
use Rattle.std.specs.Prelude.{Contains}
use Rattle.std.proofs.lemmas.List.Elements.{All-nil}
use Rattle.gu_contents.specs.declared.content.Content.{Content}
use Rattle.gu_contents.specs.declared.content.Content.TheVariants.{I32}
use Rattle.gu_contents.specs.declared.facts.Facts.{Facts}
use Rattle.gu_links.specs.declared.link.Link.{Link}
use Rattle.gu_links.specs.declared.link.Link.TheVariants.{Root}
use Rattle.gu_links.specs.Gives.{reads}
use Rattle.gu_links.specs.Known.{link_at, cells_of, IsEnough}
use Rattle.gu_links.proofs.Knowing.{nothing_known}
use Rattle.gu_links.proofs.system_tests.a_number_goes_round.Goals as goal

root_enough : (f : Facts) (links : List Link) (give : Content) (to : ℕ) → IsEnough f links (Root give to) []
unfolding reads
root_enough f links give to = record { all = λ x h. All-nil (Contains (cells_of [])) }

pub next_read-requires-clause-known : goal.next_read-requires-clause-known
next_read-requires-clause-known g c = let s = c.in_ok-s.s in nothing_known s.facts.now s.longs s.links (link_at s.links 0)

pub apply-requires-clause-known : goal.apply-requires-clause-known
apply-requires-clause-known g c = let s = c.in_ok-s.s in nothing_known s.facts.now s.longs s.links (link_at s.links 0)

pub apply-requires-clause-enough : goal.apply-requires-clause-enough
apply-requires-clause-enough g c =
    let s = c.in_ok-s.s in
    subst (λ (link : Link). IsEnough s.facts.now s.links link []) (sym (ap (λ (links : List Link). link_at links 0) c.in_ok-s.ensures)) (root_enough s.facts.now s.links (I32 7) 0)

pub next_read-requires-2-clause-known : goal.next_read-requires-2-clause-known
next_read-requires-2-clause-known g c = let s = c.in_ok-s.s in nothing_known s.facts.now s.longs s.links (link_at s.links 1)
