use Rattle.std.proofs.Common.{rules}
use Rattle.std.specs.Slots.{slots_items}
use Rattle.gu_cells.proofs.Closing.{taken_more}
use Rattle.gu_cells.proofs.cells.take_contents.Goals as goal

pub loop-cell-preserved : goal.loop-cell-preserved
loop-cell-preserved c = record {
  length = search rules;
  room = search rules;
  each = taken_more c.args.longs.now c.loop-cell.contents.items c.push_reserved.new.self.items c.content_of.result (slots_items c.args.closed.now.words) c.loop-cell.cell c.word-word.result c.push_reserved.ensures.items c.loop-cell.invariant.length
      c.content_of.ensures c.word-word.ensures c.loop-cell.invariant.each;
}
