-- What one more entry, and contents that rose, do to what was seen and to what is fresh.
use Rattle.std.proofs.Common.{ℕ, ◌≡◌, ◌≢◌, Bool, true, false, List, [], ◌∷◌, eqb, cond, sym, subst, refl, ◌∙◌, inl, inr, ⊎_elim, eq-eqb, arith}
use Rattle.std.proofs.lemmas.Bool.Decides.{nat_tests}
use Rattle.gu_contents.specs.declared.content.Content.{Content}
use Rattle.gu_contents.specs.declared.facts.Facts.{Facts}
use Rattle.gu_contents.specs.Order.{AtMost}
use Rattle.gu_contents.specs.Join.{join}
use Rattle.gu_cells.specs.declared.record.Entry.{Entry}
use Rattle.gu_cells.specs.declared.record.Entry.TheVariants.{Read, Join}
use Rattle.gu_cells.specs.Record.{BelongsTo, RecordBelongs, RecordsBelong, cell_of, shown, seen, CoversSeen, CoversAll, is_among, IsCurrent, Fresh, SomeFresh}
use Rattle.gu_cells.proofs.Lattice.{Laws, shown_belongs, seen_belongs}

pub eqb_true : (a b : ℕ) → eqb a b ≡ true → a ≡ b
eqb_true a b e = grind (arith, nat_tests)

-- all contents of a list belong
pub record AllBelong (f : Facts) (longs : List ℕ) (z : ℕ → Content) : Type 0 where
  pub each : (cell : ℕ) → BelongsTo f longs (z cell)

-- no content of the first list exceeds that of the second
pub record Rises (f : Facts) (z z' : ℕ → Content) : Type 0 where
  pub rise : (cell : ℕ) → AtMost f (z cell) (z' cell)

module _ {f : Facts} {longs : List ℕ} (laws : Laws f longs) where
  more : (x s z : Content) (is : Bool) → BelongsTo f longs x → BelongsTo f longs s → BelongsTo f longs z → (is ≡ true → AtMost f x z) → AtMost f s z → AtMost f (cond is (join f x s) s) z
  more x s z true p q r h k = laws.joins.least x s z p.0 q.0 r.0 (h refl) k
  more x s z false p q r h k = k

  -- one more entry that shows no more than the content of its cell
  pub covers_more : (entry : Entry) (entries : List Entry) (z : ℕ → Content) → RecordBelongs f longs (entry ∷ entries) → AllBelong f longs z
      → AtMost f (shown entry) (z (cell_of entry)) → CoversSeen f entries z → CoversSeen f (entry ∷ entries) z
  covers_more entry entries z belong all le covers = record {
    covers = λ c. more (shown entry) (seen f c entries) (z c) (eqb (cell_of entry) c) (shown_belongs laws entry belong.0) (seen_belongs laws c entries belong.1) (all.each c)
        (λ e. subst (λ (d : ℕ). AtMost f (shown entry) (z d)) (eqb_true (cell_of entry) c e) le) (covers.covers c);
  }

  pub covers_up : (entries : List Entry) (z z' : ℕ → Content) → RecordBelongs f longs entries → AllBelong f longs z → AllBelong f longs z' → Rises f z z' → CoversSeen f entries z → CoversSeen f entries z'
  covers_up entries z z' belong all all' up h = record {
    covers = λ c. laws.order.transitive (seen f c entries) (z c) (z' c) (seen_belongs laws c entries belong).0 (all.each c).0 (all'.each c).0 (h.covers c) (up.rise c);
  }

  pub covers_all_up : (rs : List (List Entry)) (z z' : ℕ → Content) → RecordsBelong f longs rs → AllBelong f longs z → AllBelong f longs z' → Rises f z z' → CoversAll f rs z → CoversAll f rs z'
  covers_all_up [] z z' belong all all' up h = tt
  covers_all_up (r ∷ rs) z z' belong all all' up h = (covers_up r z z' belong.0 all all' up h.0, covers_all_up rs z z' belong.1 all all' up h.1)

  seen_more : (x s : Content) (c : ℕ) → BelongsTo f longs x → BelongsTo f longs s → AtMost f x (cond (eqb c c) (join f x s) s)
  seen_more x s c p q = subst (λ (b : Bool). AtMost f x (cond b (join f x s) s)) (sym (eq-eqb c c refl)) (laws.joins.first x s p.0 q.0)

  -- a look has seen what it found
  pub looked_sees : (c : ℕ) (asked x : Content) (own : List Entry) (is : Bool) → BelongsTo f longs x → RecordBelongs f longs own
      → AtMost f x (seen f c (cond is (Join c asked x x ∷ Read c x ∷ own) (Read c x ∷ own)))
  looked_sees c asked x own true p h = seen_more x (seen f c (Read c x ∷ own)) c p (seen_belongs laws c (Read c x ∷ own) (p, h))
  looked_sees c asked x own false p h = seen_more x (seen f c own) c p (seen_belongs laws c own h)

-- what a look leaves belongs
pub looked_belongs : (f : Facts) (longs : List ℕ) (c : ℕ) (asked x : Content) (own : List Entry) (is : Bool) → BelongsTo f longs asked → BelongsTo f longs x → RecordBelongs f longs own
    → RecordBelongs f longs (cond is (Join c asked x x ∷ Read c x ∷ own) (Read c x ∷ own))
looked_belongs f longs c asked x own true p q h = ((p, q, q), (q, h))
looked_belongs f longs c asked x own false p q h = (q, h)

-- two lists of contents have the same at the cells of a list
pub record Agree (cells : List ℕ) (z z' : ℕ → Content) : Type 0 where
  pub same : (cell : ℕ) → is_among cells cell ≡ true → z cell ≡ z' cell

-- what is fresh looks at the contents of the cells of the list alone
current_same : (cells : List ℕ) (z z' : ℕ → Content) → Agree cells z z' → (entry : Entry) → IsCurrent cells z entry → IsCurrent cells z' entry
current_same cells z z' a (Read c x) h = λ m. h m ∙ a.same c m
current_same cells z z' a (Join c asked before after) h = tt

pub fresh_same : (cells : List ℕ) (z z' : ℕ → Content) → Agree cells z z' → (entries : List Entry) → Fresh cells z entries → Fresh cells z' entries
fresh_same cells z z' a [] h = h
fresh_same cells z z' a (entry ∷ entries) h = ⊎_elim (λ t. inl t) (λ t. inr (current_same cells z z' a entry t.0, fresh_same cells z z' a entries t.1)) h

pub some_fresh_same : (cells : List ℕ) (z z' : ℕ → Content) → Agree cells z z' → (rs : List (List Entry)) → SomeFresh cells z rs → SomeFresh cells z' rs
some_fresh_same cells z z' a [] h = h
some_fresh_same cells z z' a (r ∷ rs) h = ⊎_elim (λ t. inl (fresh_same cells z z' a r t)) (λ t. inr (some_fresh_same cells z z' a rs t)) h

-- a read that shows the present content leaves what was fresh
pub fresh_read : (cells : List ℕ) (z : ℕ → Content) (c : ℕ) (x : Content) (own : List Entry) → x ≡ z c → Fresh cells z own → Fresh cells z (Read c x ∷ own)
fresh_read cells z c x own e h = inr ((λ m. e), h)

-- and so does a join
pub fresh_join : (cells : List ℕ) (z : ℕ → Content) (c : ℕ) (asked before after : Content) (own : List Entry) → Fresh cells z own → Fresh cells z (Join c asked before after ∷ own)
fresh_join cells z c asked before after own h = inr (tt, h)

-- a raising join of one of the cells makes its record fresh, whatever the contents are
pub fresh_raise : (cells : List ℕ) (z : ℕ → Content) (c : ℕ) (asked before after : Content) (own : List Entry) → is_among cells c ≡ true → before ≢ after → Fresh cells z (Join c asked before after ∷ own)
fresh_raise cells z c asked before after own m ne = inl (m, ne)

pub fresh_looked : (cells : List ℕ) (z : ℕ → Content) (c : ℕ) (asked x : Content) (own : List Entry) (is : Bool) → x ≡ z c → Fresh cells z own
    → Fresh cells z (cond is (Join c asked x x ∷ Read c x ∷ own) (Read c x ∷ own))
fresh_looked cells z c asked x own true e h = fresh_join cells z c asked x x (Read c x ∷ own) (fresh_read cells z c x own e h)
fresh_looked cells z c asked x own false e h = fresh_read cells z c x own e h
