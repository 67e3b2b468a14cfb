use Rattle.gu_types.specs.declared.types.HeapType.{HeapType}
use Rattle.gu_rec.specs.Sub.{IsSub, IsHeapOf, IsNoBottom}
use Rattle.gu_rec.proofs.Climbing.{rank}
use Rattle.gu_rec.proofs.types.Types.climb.Given as goal

abbrev pub invariant-line : goal.invariant-line
invariant-line l = record {
  in_range : IsHeapOf l.self l.at;
  no_bottom : IsNoBottom l.at;
  below : IsSub l.self l.fn.from l.at;
  least : (c : HeapType) → IsSub l.self l.fn.from c → IsSub l.self l.b c → IsSub l.self l.at c;
}

abbrev pub decreases-line : goal.decreases-line
decreases-line l = rank l.at
