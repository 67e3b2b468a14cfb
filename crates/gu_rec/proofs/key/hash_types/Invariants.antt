use Rattle.std.proofs.Common.{◌≡◌, map, take}
use Rattle.std.specs.List.{fold}
use Rattle.gu_rec.specs.Names.{rename}
use Rattle.gu_rec.specs.Keys.{number_of}
use Rattle.gu_rec.specs.Hashes.{feed_type}
use Rattle.gu_rec.proofs.key.hash_types.Given as goal

abbrev pub invariant-loop-ty : goal.invariant-loop-ty
invariant-loop-ty l = l.state ≡ fold feed_type l.initial.state (map (rename (number_of l.numbers l.count)) (take l.ty-index l.types))
