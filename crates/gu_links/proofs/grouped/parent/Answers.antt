use Rattle.std.proofs.Common.{ℕ, List, ap, sym, ◌∙◌}
use Rattle.std.specs.Prelude.{slice_get}
use Rattle.gu_rec.proofs.Entries.{parent_is}
use Rattle.gu_links.proofs.grouped.parent.Goals as goal

pub returns-in-Some : goal.returns-in-Some
returns-in-Some c =
    c.copied.ensures ∙ c.first.ensures.value ∙ ap (λ (xs : List ℕ). slice_get xs 0) c.as_slice.ensures
    ∙ sym (parent_is c.args.f.now.types c.args.f.now.hold c.args.ty c.in-Some.sub.now c.in-Some.ensures)
