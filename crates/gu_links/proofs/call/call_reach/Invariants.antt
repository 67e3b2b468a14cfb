use Rattle.std.proofs.Common.{◌≡◌, ℕ, Some, take}
use Rattle.std.specs.Prelude.{flat_map, slice_index}
use Rattle.std.specs.List.{filter}
use Rattle.gu_links.specs.Gives.{Contents, call}
use Rattle.gu_links.specs.Known.{Has}
use Rattle.gu_links.specs.Kept.{in_reach}
use Rattle.gu_links.proofs.call.call_reach.Given as goal

abbrev pub invariant-functions : goal.invariant-functions
invariant-functions l = (x : Contents) → Has l.known x → l.asked ≡ flat_map (call l.s.facts.now l.operands l.results x) (filter (λ (g : ℕ). in_reach l.s.facts.now (Some l.reach) (slice_index l.s.facts.now.funcs g)) (take l.function-index l.function-items))
