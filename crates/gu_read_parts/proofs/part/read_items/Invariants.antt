use Rattle.std.proofs.Common.{◌≤◌, length}
use Rattle.gu_syntax.specs.Reading.{items_at}
use Rattle.gu_read_parts.proofs.Vectors.{Reads}
use Rattle.gu_read_parts.proofs.part.read_items.Given as goal

abbrev pub invariant-items : goal.invariant-items
invariant-items g l = record {
  reads : Reads g.P.Part.at l.count (items_at g.P.Part.at l.count l.fn.bytes) l.items l.counter l.rest;
  inside : length l.rest ≤ length l.fn.bytes;
}
