use Rattle.std.proofs.Common.{List, slice_index_or, ap}
use Rattle.gu_contents.specs.declared.facts.GlobalFact.{GlobalFact}
use Rattle.gu_contents.specs.Contents.{bound, no_global}
use Rattle.gu_contents.proofs.facts.Facts.bound.Goals as goal

pub returns : goal.returns
unfolding bound
returns c = ap (λ (xs : List GlobalFact). (slice_index_or xs c.args.global no_global).bound) c.as_slice-globals.ensures
