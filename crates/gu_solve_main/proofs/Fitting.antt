-- The first links, so many, fit a system.
use Rattle.std.proofs.Common.{◌≡◌, ℕ, ◌+◌, ◌<◌, Some, List, get_or, ◌∙◌, subst, ⊎_elim, arith}
use Rattle.std.specs.Prelude.{slice_get}
use Rattle.std.proofs.lemmas.Bool.{cases_eq}
use Rattle.std.proofs.lemmas.Option.{get_or_from_slice_get}
use Rattle.gu_contents.specs.declared.facts.Facts.{Facts}
use Rattle.gu_links.specs.declared.link.Link.{Link}
use Rattle.gu_links.specs.Solutions.{Fits}

pub record FirstFit (f : Facts) (cells : ℕ) (links : List Link) (count : ℕ) : Type 0 where
  pub each : (index : ℕ) (link : Link) (longs : List ℕ) → index < count → slice_get links index ≡ Some link → Fits f longs cells link

-- and one more
pub fit_more : (f : Facts) (cells : ℕ) (links : List Link) (count : ℕ) (link : Link) → FirstFit f cells links count → link ≡ get_or links count link → ((longs : List ℕ) → Fits f longs cells link) → FirstFit f cells links (count + 1)
fit_more f cells links count link first is fits = record {
  each = λ index other longs lt at. ⊎_elim
      (λ (e : index ≡ count).
      let there : slice_get links count ≡ Some other = subst (λ (n : ℕ). slice_get links n ≡ Some other) e at in
      subst (λ (one : Link). Fits f longs cells one) (is ∙ get_or_from_slice_get links count other link there) (fits longs))
      (λ (ne : index ≡ count → ⊥). first.each index other longs (omega arith) at)
      (cases_eq index count);
}
