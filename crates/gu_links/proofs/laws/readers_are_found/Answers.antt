use Rattle.gu_links.proofs.Finding.{readers_are_found}
use Rattle.gu_links.proofs.laws.readers_are_found.Goals as goal

pub returns : goal.returns
returns c = readers_are_found
