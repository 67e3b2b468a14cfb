-- One try of a join.
use Rattle.std.proofs.Common.{ℕ, ◌≡◌, ◌≢◌, ◌-◌, ◌<◌, ◌++◌, Bool, true, false, cond, List, ◌∷◌, sym, ap, ◌∙◌, subst, arith}
use Rattle.gu_contents.specs.declared.content.Content.{Content}
use Rattle.gu_contents.specs.declared.facts.Facts.{Facts}
use Rattle.gu_contents.specs.Order.{AtMost, at_most}
use Rattle.gu_contents.specs.Join.{join}
use Rattle.gu_contents.specs.Rank.{rank}
use Rattle.gu_contents.specs.Belongs.{Belongs}
use Rattle.gu_cells.specs.declared.record.Entry.{Entry}
use Rattle.gu_cells.specs.declared.record.Entry.TheVariants.{Read, Join}
use Rattle.gu_cells.specs.Record.{BelongsTo, seen, Appends, reads_of}
use Rattle.gu_cells.specs.Rule.{looked, IsFound}
use Rattle.gu_cells.proofs.Lattice.{Laws, seen_belongs}

-- a look that finds all that is asked has noted the join
pub look_decides : (f : Facts) (cell : ℕ) (asked x : Content) (found : List Content) (old new : List Entry) → new ≡ looked f cell asked x (reads_of cell found ++ old) → at_most f asked x ≡ true
    → Appends cell asked x x old new
look_decides f cell asked x found old new noted is = let es = reads_of cell found ++ old in record {
  found = x ∷ found;
  appended = noted ∙ ap (λ (b : Bool). cond b (Join cell asked x x ∷ Read cell x ∷ es) (Read cell x ∷ es)) is;
}

-- and one that does not has noted a read
pub look_reads : (f : Facts) (cell : ℕ) (asked x : Content) (found : List Content) (old new : List Entry) → new ≡ looked f cell asked x (reads_of cell found ++ old) → at_most f asked x ≡ false
    → new ≡ reads_of cell (x ∷ found) ++ old
look_reads f cell asked x found old new noted is = let es = reads_of cell found ++ old in noted ∙ ap (λ (b : Bool). cond b (Join cell asked x x ∷ Read cell x ∷ es) (Read cell x ∷ es)) is

pub exchange_appends : (cell : ℕ) (asked before after : Content) (found : List Content) (old mid new : List Entry) → mid ≡ reads_of cell found ++ old → new ≡ Join cell asked before after ∷ mid → Appends cell asked before after old new
exchange_appends cell asked before after found old mid new reads won = record { found = found; appended = won ∙ ap (λ (es : List Entry). Join cell asked before after ∷ es) reads }

module _ {f : Facts} {longs : List ℕ} (laws : Laws f longs) where
  -- the join of what was found and what is asked is at most the ceiling
  pub after_capped : (before asked ceiling : Content) → BelongsTo f longs before → BelongsTo f longs asked → AtMost f before ceiling → AtMost f asked ceiling
      → Belongs f ceiling → AtMost f (join f before asked) ceiling
  after_capped before asked ceiling p q le asks r = laws.joins.least before asked ceiling p.0 q.0 r le asks

  -- and greater than what was found, which is not at least what is asked
  pub after_differs : (before asked : Content) → BelongsTo f longs before → BelongsTo f longs asked → at_most f asked before ≡ false → before ≢ join f before asked
  after_differs before asked p q is e =
      let le : AtMost f asked before = subst (λ (x : Content). AtMost f asked x) (sym e) (laws.joins.second before asked p.0 q.0) in
      let bad : true ≡ false = sym le.holds ∙ is in
      cc

  -- what an exchange that lost found is greater than what was found before
  pub found_more : (cell : ℕ) (before found ceiling : Content) (old new : List Entry) → BelongsTo f longs before → AtMost f before (seen f cell old) → IsFound f longs ceiling cell old new found → AtMost f before found
  found_more cell before found ceiling old new p sees h =
      laws.order.transitive before (seen f cell old) found p.0 (seen_belongs laws cell old h.all_belonged).0 h.belongs.0 sees h.seen_before

  pub found_less : (before found : Content) → BelongsTo f longs before → BelongsTo f longs found → AtMost f before found → found ≢ before → 71 - rank found < 71 - rank before
  found_less before found p q le ne = omega (arith, laws.ranks.rises before found p.0 q.0 le (λ e. ne (sym e)), laws.ranks.most found q.0)
