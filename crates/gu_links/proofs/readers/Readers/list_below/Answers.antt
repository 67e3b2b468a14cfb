use Rattle.std.proofs.Common.{length, sym, ◌∙◌}
use Rattle.gu_links.proofs.Adding.{place_listed, below_within}
use Rattle.gu_links.proofs.readers.Readers.list_below.Goals as goal

pub list-requires : goal.list-requires
list-requires c =
    let old = c.args.self.now in
    place_listed c.args.f.now (length old.at_cells.items) old c.requires.lists c.in-Some.place
    (below_within c.args.f.now (length old.at_cells.items) c.args.link.now c.requires.room c.requires.link c.in-Some.place (sym c.place_below.ensures ∙ c.in-Some.is))
