use Rattle.std.proofs.Common.{◌≡◌, map, take}
use Rattle.std.specs.List.{fold}
use Rattle.gu_rec.specs.Keys.{number_of}
use Rattle.gu_rec.specs.Hashes.{feed_index}
use Rattle.gu_rec.proofs.key.hash_indices.Given as goal

abbrev pub invariant-loop-index : goal.invariant-loop-index
invariant-loop-index l = l.state ≡ fold feed_index l.initial.state (map (number_of l.numbers l.count) (take l.index-index l.indices))
