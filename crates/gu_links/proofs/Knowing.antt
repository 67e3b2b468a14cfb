-- What is known of the cells on which a link rests is enough.
use Rattle.std.proofs.Common.{◌≡◌, ℕ, eqb, List, [], ◌∷◌, get_or, refl, sym, ap, ◌∙◌, subst, arith}
use Rattle.std.specs.Prelude.{Contains}
use Rattle.std.proofs.lemmas.Bool.{cond-true, cond-false, eq-eqb, ne_eqb, cases_eq}
use Rattle.std.proofs.lemmas.List.Elements.{All-head, All-nil, All-tail, Contains-append_cases}
use Rattle.std.proofs.Common.{⊎_elim, inl, inr, ◌⊎◌}
use Rattle.gu_contents.specs.declared.content.Content.TheVariants.{Empty}
use Rattle.gu_contents.specs.declared.facts.Facts.{Facts}
use Rattle.gu_links.specs.declared.link.Link.{Link}
use Rattle.gu_links.specs.Gives.{Contents, reads}
use Rattle.gu_links.specs.Known.{Item, Has, cells_of, IsKnown}
use Rattle.gu_links.specs.Solutions.{IsOf}
use Rattle.gu_links.specs.Laws.{IsSameOn, shown, Suffices}
use Rattle.gu_links.proofs.Local.{same_on}

-- the element of a list of one
single : (c d : ℕ) → Contains (c ∷ []) d → c ≡ d
single c d h = let z : h.0 ≡ 0 = let l = h.1 in omega arith in subst (λ (k : ℕ). get_or (c ∷ []) k d ≡ d) z h.2

-- an element of a list that begins with another is that one or one of the others
pub contains_cases : (c : ℕ) (cs : List ℕ) (d : ℕ) → Contains (c ∷ cs) d → (c ≡ d) ⊎ Contains cs d
contains_cases c cs d h = ⊎_elim (λ (one : Contains (c ∷ []) d). inl (single c d one)) (λ (more : Contains cs d). inr more) (Contains-append_cases (c ∷ []) cs d h)

-- what is shown of a known cell is what it has
shown_is : (known : List Item) (x : Contents) (c : ℕ) → Has known x → Contains (cells_of known) c → shown known c ≡ x c
unfolding shown
shown_is [] x c h k = absurd (let l = k.1 in omega arith)
shown_is (p ∷ known) x c h k = ⊎_elim
    (λ (e : p.0 ≡ c). cond-true (eqb p.0 c) p.1 (shown known c) (eq-eqb p.0 c e) ∙ (sym (All-head (λ (q : Item). x q.0 ≡ q.1) p known h.at) ∙ ap x e))
    (λ (ne : p.0 ≡ c → ⊥). cond-false (eqb p.0 c) p.1 (shown known c) (ne_eqb p.0 c ne) ∙ shown_is known x c (record { at = All-tail (λ (q : Item). x q.0 ≡ q.1) p known h.at })
    (⊎_elim (λ (e : p.0 ≡ c). absurd (ne e)) (λ (more : Contains (cells_of known) c). more) (contains_cases p.0 (cells_of known) c k)))
    (cases_eq p.0 c)

pub known_is_enough : (f : Facts) (links : List Link) (link : Link) (known : List Item) (x : Contents) → Has known x → Suffices f links link known → IsSameOn f links link (shown known) x
known_is_enough f links link known x h s = same_on f links (shown known) x link (record { at = λ k d lt. shown_is known x (get_or (reads f links link (shown known)) k d) h (s.read k d lt) })

-- where nothing is known yet, what is known is what was asked for
pub nothing_known : (f : Facts) (longs : List ℕ) (links : List Link) (link : Link) → IsKnown f longs links link []
nothing_known f longs links link = record {
  contents = λ c. Empty;
  has = record { at = All-nil (λ (k : Item). Empty ≡ k.1) };
  are_of = All-nil (λ (k : Item). IsOf f longs k.1);
  in_order = λ x h. refl;
}
