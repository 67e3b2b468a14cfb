use Rattle.gu_links.proofs.Tables.{out_read, out_fits}
use Rattle.gu_links.proofs.system.System.out_cell.Goals as goal

pub overflow_add-result : goal.overflow_add-result
overflow_add-result c = out_fits c.args.self.now.facts.now c.args.self.now.index.cells c.args.self.now.indexed.cells c.args.self.now.few c.args.function c.args.place c.index.result.now c.requires.function c.requires.place c.index.ensures

pub returns : goal.returns
returns c = out_read c.args.self.now.facts.now c.args.self.now.index.cells c.args.self.now.indexed.cells c.args.function c.args.place c.index.result.now c.requires.function c.index.ensures
