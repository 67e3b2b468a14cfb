use Rattle.std.proofs.Common.{◌≡◌, map}
use Rattle.gu_rec.specs.Keys.{run}
use Rattle.gu_links.specs.Cells.{own_slots, slots_before}
use Rattle.gu_links.specs.Index.{owned}
use Rattle.gu_links.proofs.index.slot_owners.Given as goal

abbrev pub invariant-types : goal.invariant-types
invariant-types l = record {
  starts : l.starts.items ≡ map (slots_before l.f) (run 0 l.ty);
  owners : l.owners.items ≡ owned (own_slots l.f.types) l.ty;
}
