use Rattle.std.proofs.Common.{◌≡◌, map, take}
use Rattle.std.specs.List.{fold}
use Rattle.gu_rec.specs.Names.{rename_val}
use Rattle.gu_rec.specs.Keys.{number_of}
use Rattle.gu_rec.specs.Hashes.{feed_val}
use Rattle.gu_rec.proofs.key.hash_vals.Given as goal

abbrev pub invariant-loop-ty : goal.invariant-loop-ty
invariant-loop-ty l = l.state ≡ fold feed_val l.initial.state (map (rename_val (number_of l.numbers l.count)) (take l.ty-index l.types))
