use Rattle.std.proofs.Common.{◌≡◌, map, take}
use Rattle.std.specs.List.{fold}
use Rattle.gu_rec.specs.Names.{rename_field}
use Rattle.gu_rec.specs.Keys.{number_of}
use Rattle.gu_rec.specs.Hashes.{feed_field}
use Rattle.gu_rec.proofs.key.hash_fields.Given as goal

abbrev pub invariant-loop-field : goal.invariant-loop-field
invariant-loop-field l = l.state ≡ fold feed_field l.initial.state (map (rename_field (number_of l.numbers l.count)) (take l.field-index l.fields))
