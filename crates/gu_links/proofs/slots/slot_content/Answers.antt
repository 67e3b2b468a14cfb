use Rattle.std.proofs.Common.{ℕ, subst, ap, sym, ◌∙◌}
use Rattle.std.specs.Prelude.{Contains}
use Rattle.gu_links.specs.Known.{cells_of}
use Rattle.gu_links.proofs.slots.slot_content.Goals as goal

pub returns-clause-value : goal.returns-clause-value
returns-clause-value c x h =
    c.content_at.ensures.value x h (subst (λ (n : ℕ). Contains (cells_of c.args.known.now) n) (sym c.slot_cell.ensures) c.requires.known) ∙ ap x c.slot_cell.ensures

pub returns-clause-belongs : goal.returns-clause-belongs
returns-clause-belongs c h = c.content_at.ensures.belongs c.args.s.now.facts.now h
