-- The contents of the words, before and after one is written.
use Rattle.std.proofs.Common.{ℕ, suc, ◌≡◌, ◌≢◌, ◌+◌, ◌-◌, ◌<◌, true, false, List, length, get_or, set, sym, ap, ◌∙◌, subst, arith, get_or-set_same, get_or-set_other}
use mathlib.Core.Logic.{dite}
use native.Mathlib.Decide.{ℕ_discrete}
use Rattle.gu_contents.specs.declared.content.Content.{Content}
use Rattle.gu_contents.specs.declared.facts.Facts.{Facts}
use Rattle.gu_contents.specs.Order.{AtMost}
use Rattle.gu_contents.specs.Codes.{content}
use Rattle.gu_cells.specs.Record.{at, is_among}
use Rattle.gu_cells.specs.Rule.{now_of, word_ceiling, IsWord}
use Rattle.gu_cells.proofs.Lattice.{Laws}
use Rattle.gu_cells.proofs.Entries.{AllBelong, Rises, Agree}

-- every word codes a content that is at most its ceiling
pub record AllWords (f : Facts) (longs : List ℕ) (ceilings : List Content) (words : List ℕ) : Type 0 where
  pub each : (i : ℕ) → IsWord f longs (word_ceiling ceilings i) (get_or words i 0)

pub all_belong : (f : Facts) (longs : List ℕ) (ceilings : List Content) (words : List ℕ) → AllWords f longs ceilings words → AllBelong f longs (now_of longs words)
all_belong f longs ceilings words all = record { each = λ c. (all.each (suc c)).belongs }

-- the content of the cell that stands before a word that is not the first
pub word_here : (longs words : List ℕ) (i : ℕ) → 0 < i → now_of longs words (i - 1) ≡ content longs (get_or words i 0)
word_here longs words i pos = let e : suc (i - 1) ≡ i = omega arith in ap (λ (k : ℕ). content longs (get_or words k 0)) e

-- a cell's content where its word is written
pub written : (longs words : List ℕ) (i new c : ℕ) → i < length words → suc c ≡ i → now_of longs (set words i new) c ≡ content longs new
written longs words i new c fits e = ap (content longs) (subst (λ (k : ℕ). get_or (set words i new) k 0 ≡ new) (sym e) (get_or-set_same words i new 0 fits))

-- and where another is
pub unwritten : (longs words : List ℕ) (i new c : ℕ) → suc c ≢ i → now_of longs (set words i new) c ≡ now_of longs words c
unwritten longs words i new c ne = ap (content longs) (get_or-set_other words i (suc c) new 0 ne)

pub words_set : (f : Facts) (longs : List ℕ) (ceilings : List Content) (words : List ℕ) (i new : ℕ) → i < length words → AllWords f longs ceilings words
    → IsWord f longs (word_ceiling ceilings i) new → AllWords f longs ceilings (set words i new)
words_set f longs ceilings words i new fits all is = record {
  each = λ j. dite (ℕ_discrete j i)
      (λ e. let same : get_or (set words i new) j 0 ≡ new = subst (λ (k : ℕ). get_or (set words i new) k 0 ≡ new) (sym e) (get_or-set_same words i new 0 fits) in
      subst (λ (w : ℕ). IsWord f longs (word_ceiling ceilings j) w) (sym same) (subst (λ (k : ℕ). IsWord f longs (word_ceiling ceilings k) new) (sym e) is))
      (λ ne. subst (λ (w : ℕ). IsWord f longs (word_ceiling ceilings j) w) (sym (get_or-set_other words i j new 0 ne)) (all.each j));
}

module _ {f : Facts} {longs : List ℕ} (laws : Laws f longs) where
  pub rises_set : (words : List ℕ) (i new : ℕ) → i < length words → AtMost f (content longs (get_or words i 0)) (content longs new) → Rises f (now_of longs words) (now_of longs (set words i new))
  rises_set words i new fits le = record {
    rise = λ c. dite (ℕ_discrete (suc c) i)
        (λ e. subst (λ (x : Content). AtMost f (now_of longs words c) x) (sym (written longs words i new c fits e)) (subst (λ (k : ℕ). AtMost f (content longs (get_or words k 0)) (content longs new)) (sym e) le))
        (λ ne. subst (λ (x : Content). AtMost f (now_of longs words c) x) (sym (unwritten longs words i new c ne)) (laws.order.reflexive (now_of longs words c)));
  }

  pub rises_not : (z : ℕ → Content) → Rises f z z
  rises_not z = record { rise = λ c. laws.order.reflexive (z c) }

-- where the cell of a written word is not among some cells, their contents stay
pub agree_set : (longs words : List ℕ) (i new : ℕ) (cells : List ℕ) → 0 < i → is_among cells (i - 1) ≡ false → Agree cells (now_of longs words) (now_of longs (set words i new))
agree_set longs words i new cells pos is = record {
  same = λ d h. sym (unwritten longs words i new d (λ e. let z : d ≡ i - 1 = omega arith in let bad : true ≡ false = sym h ∙ (ap (is_among cells) z ∙ is) in cc));
}

-- the ceiling of the word behind a cell
pub cell_ceiling : (ceilings : List Content) (cell : ℕ) → word_ceiling ceilings (cell + 1) ≡ at ceilings cell
cell_ceiling ceilings cell = let e : cell + 1 ≡ suc cell = omega arith in ap (word_ceiling ceilings) e
