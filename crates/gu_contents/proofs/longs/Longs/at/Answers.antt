use Rattle.std.proofs.Common.{List, ℕ, slice_index, ap, ◌∙◌, unwrap_or}
use Rattle.gu_contents.proofs.Coded.{read_or_zero}
use Rattle.gu_contents.proofs.longs.Longs.at.Goals as goal

pub returns : goal.returns
returns c =
    c.unwrap_or.ensures ∙ (ap (λ o. unwrap_or o 0) (c.copied.ensures ∙ c.get_index.ensures.key)
    ∙ (read_or_zero c.self.inside.set.keys c.args.place ∙ ap (λ (xs : List ℕ). slice_index xs c.args.place) c.self.view_is))
