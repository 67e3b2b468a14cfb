use Rattle.gu_links.proofs.Local.{same_on}
use Rattle.gu_links.proofs.Knowing.{known_is_enough}
use Rattle.gu_links.proofs.Nothing.{gives_nothing}
use Rattle.gu_links.proofs.laws.links_are_local.Goals as goal

pub returns : goal.returns
returns c = record {
  same = λ f links link x y h. same_on f links x y link h;
  known = known_is_enough;
  nothing = λ f links link x root h. gives_nothing f links x link root h;
}
