use Rattle.std.proofs.Common.{◌∙◌, sym}
use Rattle.std.specs.Prelude.{Contains}
use Rattle.std.specs.List.{list_any}
use Rattle.gu_links.specs.Cells.{out_cells}
use Rattle.gu_links.specs.Known.{cells_of}
use Rattle.gu_links.specs.Over.{names}
use Rattle.gu_links.proofs.Walks.{one_out}
use Rattle.gu_links.proofs.call.call_one.Goals as goal

pub call-requires-clause-outs : goal.call-requires-clause-outs
call-requires-clause-outs c =
    one_out (Contains (cells_of c.args.known.now)) (out_cells c.args.s.now.facts.now) c.args.function (list_any (names c.args.function) c.args.s.now.links) (sym c.is_callable.ensures ∙ c.if-not-is_callable.false) c.requires.outs
