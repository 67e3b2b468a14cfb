-- What is used of the lattice of contents.
use Rattle.std.proofs.Common.{ℕ, ◌≡◌, Bool, true, false, List, [], ◌∷◌, eqb, cond}
use Rattle.gu_contents.specs.declared.content.Content.{Content}
use Rattle.gu_contents.specs.declared.facts.Facts.{Facts}
use Rattle.gu_contents.specs.Order.{AtMost}
use Rattle.gu_contents.specs.Join.{join}
use Rattle.gu_contents.specs.Belongs.{Belongs, IsListed}
use Rattle.gu_contents.specs.Laws.{IsOrder, JoinIsLeast, RanksRise, AnswersBelong}
use Rattle.gu_contents.proofs.OrderLaw.{is_order}
use Rattle.gu_contents.proofs.JoinLaw.{join_is_least}
use Rattle.gu_contents.proofs.Ranks.{ranks_rise}
use Rattle.gu_contents.proofs.Belonging.{answers_belong}
use Rattle.gu_contents.proofs.Listed.{answers_listed}
use Rattle.gu_cells.specs.declared.record.Entry.{Entry}
use Rattle.gu_cells.specs.declared.record.Entry.TheVariants.{Read, Join}
use Rattle.gu_cells.specs.Record.{BelongsTo, EntryBelongs, RecordBelongs, cell_of, shown, seen}

pub record Laws (f : Facts) (longs : List ℕ) : Type 0 where
  pub order : IsOrder f
  pub joins : JoinIsLeast f
  pub ranks : RanksRise f
  pub answers : AnswersBelong f
  pub listed : (a b : Content) → IsListed longs a → IsListed longs b → IsListed longs (join f a b)

-- they hold of all facts
pub the_laws : (f : Facts) (longs : List ℕ) → Laws f longs
the_laws f longs = record { order = is_order f; joins = join_is_least f; ranks = ranks_rise f; answers = answers_belong f; listed = (answers_listed f longs).join_is }

module _ {f : Facts} {longs : List ℕ} (laws : Laws f longs) where
  pub join_belongs : (a b : Content) → BelongsTo f longs a → BelongsTo f longs b → BelongsTo f longs (join f a b)
  join_belongs a b p q = (laws.answers.join_does a b p.0 q.0, laws.listed a b p.1 q.1)

  pub shown_belongs : (entry : Entry) → EntryBelongs f longs entry → BelongsTo f longs (shown entry)
  shown_belongs (Read cell x) h = h
  shown_belongs (Join cell a b x) h = h.2

  more_belongs : (a b : Content) (is : Bool) → BelongsTo f longs a → BelongsTo f longs b → BelongsTo f longs (cond is (join f a b) b)
  more_belongs a b true p q = join_belongs a b p q
  more_belongs a b false p q = q

  -- what is seen of contents that belong belongs
  pub seen_belongs : (cell : ℕ) (entries : List Entry) → RecordBelongs f longs entries → BelongsTo f longs (seen f cell entries)
  seen_belongs cell [] h = (tt, tt)
  seen_belongs cell (entry ∷ entries) h =
      more_belongs (shown entry) (seen f cell entries) (eqb (cell_of entry) cell) (shown_belongs entry h.0) (seen_belongs cell entries h.1)

  -- a content that is at most another is swallowed by a join
  pub join_absorbs : (a b : Content) → Belongs f a → Belongs f b → AtMost f b a → join f a b ≡ a
  join_absorbs a b p q le =
      laws.order.antisymmetric (join f a b) a (laws.answers.join_does a b p q) p (laws.joins.least a b a p q p (laws.order.reflexive a) le) (laws.joins.first a b p q)
