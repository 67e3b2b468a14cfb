use Rattle.gu_contents.proofs.Law.{lattice}
use Rattle.gu_contents.proofs.Belonging.{answers_belong}
use Rattle.gu_contents.proofs.laws.contents_are_a_lattice.Goals as goal

pub returns : goal.returns
returns c = record { lattice = lattice; answers = answers_belong }
