use Rattle.gu_syntax.proofs.Narrow.{refused_unspelled, malformed_unspelled, outside_unspelled}
use Rattle.gu_syntax.proofs.Shallow.{shallow_read, deep_unspelled}
use Rattle.gu_syntax.proofs.Nested.{module_nests}
use Rattle.gu_syntax.proofs.laws.refused_is_unspelled.Goals as goal

pub returns : goal.returns
returns c = record { refused = refused_unspelled; malformed = malformed_unspelled; outside = outside_unspelled; deep = deep_unspelled; read = shallow_read; shallow = module_nests }
