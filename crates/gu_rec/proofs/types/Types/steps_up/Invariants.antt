use Rattle.std.proofs.Common.{◌≡◌, ◌+◌, ◌<◌, length, option_map}
use Rattle.gu_types.specs.Depth.{types_of, depth}
use Rattle.gu_types.specs.declared.types.HeapType.TheVariants as H
use Rattle.gu_rec.specs.Sub.{same_heap, line}
use Rattle.gu_rec.specs.Table.{place}
use Rattle.gu_rec.proofs.types.Types.steps_up.Given as goal

abbrev pub invariant-line : goal.invariant-line
invariant-line l = record {
  in_range : l.at < length (types_of l.self);
  deep : l.steps + depth (types_of l.self) l.at ≡ depth (types_of l.self) l.fn.from;
  rest : option_map (λ n. l.steps + n) (place (same_heap l.self (H.Idx l.to)) (line l.self (H.Idx l.at))) ≡ place (same_heap l.self (H.Idx l.to)) (line l.self (H.Idx l.fn.from));
}

abbrev pub decreases-line : goal.decreases-line
decreases-line l = l.at
