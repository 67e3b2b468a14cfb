-- The contents that are read off a closed table.
use Rattle.std.proofs.Common.{◌≡◌, ℕ, zero, suc, ◌+◌, ◌-◌, ◌<◌, ◌≤◌, false, List, [], ◌∷◌, ◌++◌, length, get_or, sym, refl, ap, ◌∙◌, subst, arith, add-one}
use Rattle.std.proofs.lemmas.List.{get_or_past, get_or-append_right, get_or_append_left}
use Rattle.std.specs.List.{All}
use mathlib.Core.Logic.{dite}
use mathlib.Core.Option.{some, some-injective, some-ne-none}
use native.Mathlib.Decide.{dec_lt}
use lib.ListN.{get_elem?}
use Rattle.atomic_table.specs.Table.{Final, Seen}
use Rattle.gu_contents.specs.declared.content.Content.{Content}
use Rattle.gu_contents.specs.declared.content.Content.TheVariants.{Empty}
use Rattle.gu_contents.specs.declared.facts.Facts.{Facts}
use Rattle.gu_contents.specs.Order.{AtMost}
use Rattle.gu_contents.specs.Codes.{content}
use Rattle.gu_cells.specs.declared.record.Entry.{Entry}
use Rattle.gu_cells.specs.declared.record.View.{View}
use Rattle.gu_cells.specs.declared.sizes.Sizes.{Sizes}
use Rattle.gu_cells.specs.Record.{at, BelongsTo, RecordsBelong, CoversAll, Settled}
use Rattle.gu_cells.specs.Rule.{now_of, times, parts, records, Kept, IsSeat}
use Rattle.gu_cells.proofs.Lattice.{Laws}
use Rattle.gu_cells.proofs.Entries.{AllBelong, Rises, Agree, covers_all_up, some_fresh_same}
use Rattle.gu_cells.proofs.Words.{all_belong}
use Rattle.gu_cells.proofs.Steps.{all_words}
use Rattle.gu_cells.proofs.Splits.{settles, nothing}

-- a word where it is found
pub word_at : (words : List ℕ) (i word : ℕ) → get_elem? words i ≡ some word → get_or words i 0 ≡ word
word_at [] i word e = absurd (some-ne-none word (sym e))
word_at (x ∷ xs) zero word e = some-injective x word e
word_at (x ∷ xs) (suc i) word e = word_at xs i word e

-- one more content, of the next cell
pub taken_more : (longs : List ℕ) (xs ys : List Content) (x : Content) (words : List ℕ) (c word : ℕ) → ys ≡ xs ++ x ∷ [] → length xs ≡ c → x ≡ content longs word → get_elem? words (c + 1) ≡ some word
    → ((k : ℕ) → k < c → at xs k ≡ now_of longs words k) → (k : ℕ) → k < c + 1 → at ys k ≡ now_of longs words k
taken_more longs xs ys x words c word e len is there h k lt = dite (dec_lt k c)
    (λ d. ap (λ (zs : List Content). at zs k) e ∙ (get_or_append_left xs (x ∷ []) Empty k (omega arith) ∙ h k d))
    (λ d.
    let same : k ≡ c = omega arith in
    let z : k - c ≡ 0 = omega arith in
    let there' : get_or words (suc c) 0 ≡ word = word_at words (suc c) word (subst (λ (n : ℕ). get_elem? words n ≡ some word) (add-one c) there) in
    ap (λ (zs : List Content). at zs k) e
    ∙ (get_or-append_right xs (x ∷ []) c k Empty len (omega arith) ∙ (ap (λ (n : ℕ). get_or (x ∷ []) n Empty) z ∙ (is ∙ (ap (content longs) (sym there') ∙ ap (now_of longs words) (sym same))))))

-- what holds of the contents of closed cells
pub record Closes (f : Facts) (longs : List ℕ) (ceilings xs : List Content) (rs : List (List Entry)) : Type 0 where
  pub belong : All (BelongsTo f longs) xs
  pub capped : (cell : ℕ) → AtMost f (at xs cell) (at ceilings cell)
  pub covered : CoversAll f rs (at xs)
  pub settled : Settled rs (at xs)
  pub records_belong : RecordsBelong f longs rs

module _ {f : Facts} {longs : List ℕ} (laws : Laws f longs) (ceilings : List Content) (sizes : Sizes) where
  -- behind the last cell both are empty
  same_everywhere : (xs : List Content) (words : List ℕ) → length xs ≡ sizes.cells → length words ≡ suc sizes.cells → ((k : ℕ) → k < sizes.cells → at xs k ≡ now_of longs words k)
      → (k : ℕ) → now_of longs words k ≡ at xs k
  same_everywhere xs words len long h k = dite (dec_lt k sizes.cells) (λ d. sym (h k d))
      (λ d. ap (content longs) (get_or_past words (suc k) 0 (omega arith)) ∙ (nothing laws ceilings sizes ∙ sym (get_or_past xs k Empty (omega arith))))

  pub closes : (id : ℕ) (v : View) (words slots : List ℕ) (xs : List Content) (rs : List (List Entry)) → Final (Seen (Kept f longs ceilings sizes) id v) words slots → v.spent ≡ false → v.number ≡ 0
      → ((n : ℕ) → n < sizes.seats → 1 ≤ times n (parts v)) → length words ≡ suc sizes.cells → length xs ≡ sizes.cells → ((k : ℕ) → k < sizes.cells → at xs k ≡ now_of longs words k) → records (parts v) ≡ rs
      → Closes f longs ceilings xs rs
  closes id v words slots xs rs final live zero_is whole long len taken is =
      let s = final.0 in let k = final.1.0 in
      let seat : IsSeat s.views id v = record { stands = final.1.1; live = live } in
      let same : (c : ℕ) → now_of longs s.words c ≡ at xs c = λ c. ap (λ (l : List ℕ). now_of longs l c) final.2 ∙ same_everywhere xs words len long taken c in
      let old = all_belong f longs ceilings s.words (all_words laws ceilings sizes s k) in
      let new : AllBelong f longs (at xs) = record { each = λ c. subst (BelongsTo f longs) (same c) (old.each c) } in
      let up : Rises f (now_of longs s.words) (at xs) = record { rise = λ c. subst (λ (x : Content). AtMost f (now_of longs s.words c) x) (same c) (laws.order.reflexive (now_of longs s.words c)) } in
      let belong = k.belong id v seat in
      let agree : (cells : List ℕ) → Agree cells (now_of longs s.words) (at xs) = λ cells. record { same = λ c _. same c } in
      let settled = settles laws ceilings sizes s k id v seat zero_is whole in
      record {
        belong = λ c d lt. subst (BelongsTo f longs) (default_same xs c Empty d lt) (new.each c);
        capped = λ c. subst (λ (x : Content). AtMost f x (at ceilings c)) (same c) (k.words (suc c)).capped;
        covered = subst (λ (l : List (List Entry)). CoversAll f l (at xs)) is (covers_all_up laws (records (parts v)) (now_of longs s.words) (at xs) belong old new up (k.below id v seat));
        settled = subst (λ (l : List (List Entry)). Settled l (at xs)) is record {
          somebody = λ cells c m ne. some_fresh_same cells (now_of longs s.words) (at xs) (agree cells) (records (parts v)) (settled.somebody cells c m (λ e. ne (sym (same c) ∙ e)));
        };
        records_belong = subst (RecordsBelong f longs) is belong;
      }
    where
      default_same : (xs : List Content) (k : ℕ) (d e : Content) → k < length xs → get_or xs k d ≡ get_or xs k e
      default_same [] k d e lt = absurd (omega arith)
      default_same (x ∷ xs) zero d e lt = refl
      default_same (x ∷ xs) (suc k) d e lt = default_same xs k d e (omega arith)
