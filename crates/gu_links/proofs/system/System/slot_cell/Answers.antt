use Rattle.gu_links.proofs.Tables.{slot_read, slot_fits}
use Rattle.gu_links.proofs.system.System.slot_cell.Goals as goal

pub overflow_add-result : goal.overflow_add-result
overflow_add-result c = slot_fits c.args.self.now.facts.now c.args.self.now.index.cells c.args.self.now.indexed.cells c.args.self.now.few c.args.ty c.args.slot c.index.result.now c.requires.ty c.requires.least c.requires.has c.index.ensures

pub returns : goal.returns
returns c = slot_read c.args.self.now.facts.now c.args.self.now.index.cells c.args.self.now.indexed.cells c.args.ty c.args.slot c.index.result.now c.requires.ty c.requires.least c.index.ensures
