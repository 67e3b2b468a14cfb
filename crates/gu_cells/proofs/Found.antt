-- What loads and exchanges find and note, as the functions that make them tell it.
use Rattle.std.proofs.Common.{ℕ, ◌≡◌, ◌≢◌, ◌+◌, ◌-◌, ◌<◌, Bool, cond, List, ◌∷◌, suc, sym, ap, ◌∙◌, subst, arith, eq-eqb, ne_eqb}
use mathlib.Core.Option.{none}
use Rattle.atomic_table.specs.Table.{Me, step}
use Rattle.gu_contents.specs.declared.content.Content.{Content}
use Rattle.gu_contents.specs.declared.facts.Facts.{Facts}
use Rattle.gu_contents.specs.Order.{AtMost, at_most}
use Rattle.gu_contents.specs.Codes.{code, content}
use Rattle.gu_cells.specs.declared.record.Entry.{Entry}
use Rattle.gu_cells.specs.declared.record.Entry.TheVariants.{Join}
use Rattle.gu_cells.specs.declared.record.View.{View}
use Rattle.gu_cells.specs.Record.{at, BelongsTo, RecordBelongs, seen}
use Rattle.gu_cells.specs.Rule.{word_ceiling, IsWord, Finds, Looks, Exchanges, looked, IsFound}
use Rattle.gu_cells.proofs.Lattice.{Laws}
use Rattle.gu_cells.proofs.Entries.{looked_sees, looked_belongs}
use Rattle.gu_cells.proofs.Words.{cell_ceiling}
use Rattle.gu_cells.proofs.Steps.{Exchange}
use Rattle.gu_cells.specs.declared.sizes.Sizes.{Sizes}

pub one_back : (cell : ℕ) → (cell + 1) - 1 ≡ cell
one_back cell = omega arith

-- a word is the code of a content that belongs
pub record IsCodeOf (f : Facts) (longs : List ℕ) (a : Content) (word : ℕ) : Type 0 where
  pub belongs : BelongsTo f longs a
  pub code_is : word ≡ code longs a
  pub back : content longs word ≡ a

module _ {f : Facts} {longs : List ℕ} (laws : Laws f longs) (ceilings : List Content) where
  -- the word of a content that is at most a ceiling
  pub own_word : (a : Content) (word : ℕ) (ceiling : Content) → IsCodeOf f longs a word → AtMost f a ceiling → IsWord f longs ceiling word
  own_word a word ceiling h le = let e = h.back in record {
    coded = ap (code longs) e ∙ sym h.code_is;
    belongs = subst (BelongsTo f longs) (sym e) h.belongs;
    capped = subst (λ (x : Content). AtMost f x ceiling) (sym e) le;
  }

  is_found : (cell : ℕ) (asked found : Content) (word : ℕ) (v : View) (old new : List Entry) → Finds f longs ceilings (cell + 1) v word → old ≡ v.own → found ≡ content longs word
      → new ≡ looked f cell asked found old → BelongsTo f longs asked → RecordBelongs f longs old → IsFound f longs (at ceilings cell) cell old new found
  is_found cell asked found word v old new finds was is noted bel all =
      let x = content longs word in
      let belongs : BelongsTo f longs found = subst (BelongsTo f longs) (sym is) finds.is_word.belongs in
      record {
        belongs = belongs;
        capped = subst (λ (y : Content). AtMost f y (at ceilings cell)) (sym is) (subst (λ (t : Content). AtMost f x t) (cell_ceiling ceilings cell) finds.is_word.capped);
        seen_before = subst (λ (y : Content). AtMost f (seen f cell old) y) (sym is)
            (subst (λ (es : List Entry). AtMost f (seen f cell es) x) (sym was) (subst (λ (k : ℕ). AtMost f (seen f k v.own) x) (one_back cell) finds.seen_before));
        sees = subst (λ (es : List Entry). AtMost f found (seen f cell es)) (sym noted) (looked_sees laws cell asked found old (at_most f asked found) belongs all);
        all_belonged = all;
        all_belong = subst (RecordBelongs f longs) (sym noted) (looked_belongs f longs cell asked found old (at_most f asked found) bel belongs all);
      }

  -- what a look notes
  pub look_notes : (slots cell word : ℕ) (asked asked' found : Content) (m w : Me ℕ View) (old : List Entry) → Looks f longs ceilings asked (step slots (cell + 1) 0 0 none) m word w
      → old ≡ m.0.own → found ≡ content longs word → asked' ≡ asked → w.0.own ≡ looked f cell asked' found old
  look_notes slots cell word asked asked' found m w old l was is same =
      ap (λ (x : Me ℕ View). x.0.own) l.after
      ∙ (ap (λ (k : ℕ). looked f k asked (content longs word) m.0.own) (one_back cell)
      ∙ (ap (λ (x : Content). looked f cell asked x m.0.own) (sym is) ∙ (ap (λ (es : List Entry). looked f cell asked found es) (sym was) ∙ ap (λ (a : Content). looked f cell a found old) (sym same))))

  -- what a look finds
  pub look_finds : (slots cell word : ℕ) (asked asked' found : Content) (m w : Me ℕ View) (old : List Entry) → Looks f longs ceilings asked (step slots (cell + 1) 0 0 none) m word w
      → old ≡ m.0.own → found ≡ content longs word → asked' ≡ asked → BelongsTo f longs asked' → RecordBelongs f longs m.0.own → IsFound f longs (at ceilings cell) cell old w.0.own found
  look_finds slots cell word asked asked' found m w old l was is same bel all =
      is_found cell asked' found word m.0 old w.0.own l.finds was is (look_notes slots cell word asked asked' found m w old l was is same) bel (subst (RecordBelongs f longs) (sym was) all)

  -- what an exchange that wins notes
  pub won_notes : (slots cell word first second : ℕ) (asked asked' before after : Content) (m w : Me ℕ View) (old : List Entry)
      → Exchanges f longs ceilings asked (step slots (cell + 1) first second none) m word w → old ≡ m.0.own → word ≡ first → asked' ≡ asked
      → IsCodeOf f longs before first → IsCodeOf f longs after second → w.0.own ≡ Join cell asked' before after ∷ old
  won_notes slots cell word first second asked asked' before after m w old e was hit same b a =
      ap (λ (x : Me ℕ View). x.0.own) e.after
      ∙ (ap (λ (is : Bool). cond is (Join ((cell + 1) - 1) asked (content longs first) (content longs second) ∷ m.0.own) (looked f ((cell + 1) - 1) asked (content longs word) m.0.own)) (eq-eqb word first hit)
      ∙ (ap (λ (k : ℕ). Join k asked (content longs first) (content longs second) ∷ m.0.own) (one_back cell)
      ∙ (ap (λ (x : Content). Join cell asked x (content longs second) ∷ m.0.own) b.back
      ∙ (ap (λ (x : Content). Join cell asked before x ∷ m.0.own) a.back
      ∙ (ap (λ (x : Content). Join cell x before after ∷ m.0.own) (sym same) ∙ ap (λ (es : List Entry). Join cell asked' before after ∷ es) (sym was))))))

  -- and one that loses
  pub lost_notes : (slots cell word first second : ℕ) (asked asked' found : Content) (m w : Me ℕ View) (old : List Entry)
      → Exchanges f longs ceilings asked (step slots (cell + 1) first second none) m word w → old ≡ m.0.own → found ≡ content longs word → word ≢ first → asked' ≡ asked
      → w.0.own ≡ looked f cell asked' found old
  lost_notes slots cell word first second asked asked' found m w old e was is miss same =
      ap (λ (x : Me ℕ View). x.0.own) e.after
      ∙ (ap (λ (b : Bool). cond b (Join ((cell + 1) - 1) asked (content longs first) (content longs second) ∷ m.0.own) (looked f ((cell + 1) - 1) asked (content longs word) m.0.own)) (ne_eqb word first miss)
      ∙ (ap (λ (k : ℕ). looked f k asked (content longs word) m.0.own) (one_back cell)
      ∙ (ap (λ (x : Content). looked f cell asked x m.0.own) (sym is) ∙ (ap (λ (es : List Entry). looked f cell asked found es) (sym was) ∙ ap (λ (a : Content). looked f cell a found old) (sym same)))))

  -- what it finds
  pub lost_finds : (slots cell word first second : ℕ) (asked asked' found : Content) (m w : Me ℕ View) (old : List Entry)
      → Exchanges f longs ceilings asked (step slots (cell + 1) first second none) m word w → old ≡ m.0.own → found ≡ content longs word → word ≢ first → asked' ≡ asked
      → BelongsTo f longs asked' → RecordBelongs f longs m.0.own → IsFound f longs (at ceilings cell) cell old w.0.own found
  lost_finds slots cell word first second asked asked' found m w old e was is miss same bel all =
      is_found cell asked' found word m.0 old w.0.own e.finds was is (lost_notes slots cell word first second asked asked' found m w old e was is miss same) bel (subst (RecordBelongs f longs) (sym was) all)

  -- it is another content than the one that was expected
  pub lost_other : (word first : ℕ) (before found : Content) (ceiling : Content) → IsWord f longs ceiling word → found ≡ content longs word → IsCodeOf f longs before first → word ≢ first → found ≢ before
  lost_other word first before found ceiling w is b miss e = miss (sym w.coded ∙ (ap (code longs) (sym is ∙ e) ∙ sym b.code_is))

pub own_code : (f : Facts) (longs longs' : List ℕ) (a : Content) (word : ℕ) → longs' ≡ longs → BelongsTo f longs a → word ≡ code longs' a → content longs' word ≡ a → IsCodeOf f longs a word
own_code f longs longs' a word same bel is back = record {
  belongs = bel;
  code_is = is ∙ ap (λ (l : List ℕ). code l a) same;
  back = ap (λ (l : List ℕ). content l word) (sym same) ∙ back;
}

-- what an exchange asks, of contents
pub exchange_asks : {f : Facts} {longs : List ℕ} (laws : Laws f longs) (ceilings : List Content) (sizes : Sizes) (cell old new : ℕ) (asked asked' before after : Content) → cell + 1 < suc sizes.cells → asked ≡ asked'
    → BelongsTo f longs asked → IsCodeOf f longs before old → IsCodeOf f longs after new → AtMost f after (at ceilings cell) → AtMost f before after → before ≢ after
    → Exchange laws ceilings sizes (cell + 1) old new asked'
exchange_asks {f} {longs} laws ceilings sizes cell old new asked asked' before after short same bel b a le up ne =
    let eb = b.back in
    let ea = a.back in
    record {
      pos = omega arith;
      short = short;
      asked_belongs = subst (BelongsTo f longs) same bel;
      is_word = own_word laws ceilings after new (word_ceiling ceilings (cell + 1)) a (subst (λ (t : Content). AtMost f after t) (sym (cell_ceiling ceilings cell)) le);
      le = subst (λ (x : Content). AtMost f x (content longs new)) (sym eb) (subst (λ (x : Content). AtMost f before x) (sym ea) up);
      differ = λ e. ne (sym eb ∙ (e ∙ ea));
    }
