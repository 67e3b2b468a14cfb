use Rattle.std.proofs.Common.{◌≡◌, map, take}
use Rattle.gu_links.specs.Kept.{fixed_once}
use Rattle.gu_links.proofs.index.Index.new.Given as goal

abbrev pub invariant-links : goal.invariant-links
invariant-links l = l.fixed.items ≡ map fixed_once (take l.link-index l.links)
