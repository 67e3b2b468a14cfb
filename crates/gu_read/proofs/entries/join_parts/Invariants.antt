use Rattle.gu_syntax.specs.Reading.{entries_at}
use Rattle.gu_read.proofs.Sharing.{Shared, RunAt}
use Rattle.gu_read.proofs.entries.join_parts.Given as goal

abbrev pub invariant-parts : goal.invariant-parts
invariant-parts l = record {
  runs : RunAt (entries_at 1000 l.entries.tys.now l.entries.bytes.now) l.entries.tys.now l.entries.bytes.now l.funcs l.place;
  shared : Shared l.entries.tys.now l.entries.bytes.now l.place l.part-iterator.rest.items;
}
