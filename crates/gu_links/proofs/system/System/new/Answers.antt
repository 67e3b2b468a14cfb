use Rattle.std.proofs.Common.{List, sym, ap, ◌∙◌, subst, arith}
use Rattle.std.specs.Prelude.{All}
use Rattle.std.specs.List.{list_any}
use Rattle.gu_links.specs.declared.link.Link.{Link}
use Rattle.gu_links.specs.Over.{names}
use Rattle.gu_links.specs.Index.{IsIndexed}
use Rattle.gu_links.specs.Listed.{CanBeListed, AreListed}
use Rattle.gu_links.proofs.Ways.{can_be_listed, named_fits}
use Rattle.gu_links.proofs.system.System.new.Goals as goal

pub new-requires-clause-named : goal.new-requires-clause-named
new-requires-clause-named c g e =
    named_fits c.args.facts.now c.args.longs c.args.cells c.args.links c.requires g (ap (λ (links : List Link). list_any (names g) links) (sym c.as_slice.ensures) ∙ e)

pub invariant_of-result : goal.invariant_of-result
invariant_of-result c =
    let facts = c.args.facts.now in
    record {
      system = ∣ c.requires ∣₁;
      few = let room = c.requires.room in let fits = c.ranges.cells.fits in omega arith;
      indexed = subst (λ (links : List Link). IsIndexed facts links c.in_ok-index.index) c.as_slice.ensures c.in_ok-index.ensures;
      listed = subst (λ (links : List Link). AreListed facts c.args.cells links c.in_ok-index.index.cells c.in_ok-readers.readers) c.as_slice-2.ensures c.in_ok-readers.ensures;
    }

pub new-requires-2-clause-links : goal.new-requires-2-clause-links
new-requires-2-clause-links c =
    subst (λ (links : List Link). All (CanBeListed c.args.facts.now c.args.cells) links) (sym c.as_slice-2.ensures) (can_be_listed c.args.facts.now c.args.longs c.args.cells c.args.links c.requires)
