-- Workers before they run.
use Rattle.std.proofs.Common.{ℕ, ◌≡◌, ◌++◌, List, [], append-nil, sym, ap, ◌∙◌, subst}
use Rattle.gu_contents.specs.declared.facts.Facts.{Facts}
use Rattle.gu_cells.specs.declared.record.Entry.{Entry}
use Rattle.gu_links.specs.declared.link.Link.{Link}
use Rattle.gu_workers.specs.Work.{IsWork}
use Rattle.gu_workers.specs.Steps.{Adds}

-- what is added to an empty record is the record
pub whole_work : (f : Facts) (links : List Link) (index of of' : ℕ) (old new : List Entry) → of ≡ of' → old ≡ [] → Adds (IsWork f links index of) old new → IsWork f links index of' new
whole_work f links index of of' old new same none h =
    let is : new ≡ h.more = h.added ∙ (ap (λ (es : List Entry). h.more ++ es) none ∙ append-nil h.more) in
    subst (λ (n : ℕ). IsWork f links index n new) same (subst (λ (es : List Entry). IsWork f links index of es) (sym is) h.holds)
