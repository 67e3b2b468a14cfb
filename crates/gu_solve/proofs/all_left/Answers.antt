use Rattle.std.proofs.Common.{rules, ◌≡◌, ◌∙◌, sym, subst, arith, Contains}
use Rattle.std.proofs.lemmas.Bool.{cases_eq}
use Rattle.std.proofs.Common.{⊎_elim}
use Rattle.gu_solve.proofs.all_left.Goals as goal

pub links-preserved : goal.links-preserved
links-preserved c = let inv = c.links.invariant in let h = c.in_ok-add.ensures in record {
  left = record { links_are = h.links ∙ inv.left.links_are; few = let few = h.few in search (rules, few) };
  all = λ k lt. ⊎_elim
      (λ (e : k ≡ c.links.link). subst (Contains c.add.new.self.waiting) (sym e) h.added)
      (λ (ne : k ≡ c.links.link → ⊥). h.keeps.kept k (inv.all k (omega arith)))
      (cases_eq k c.links.link);
}
