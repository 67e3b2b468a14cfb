-- What was seen rises with each raise, and can only rise so far.
use Rattle.std.proofs.Common.{ℕ, zero, suc, ◌≡◌, ◌≢◌, ◌+◌, ◌*◌, ◌<◌, ◌≤◌, Bool, true, false, List, [], ◌∷◌, ◌++◌, sym, refl, ap, subst, arith, add-one, mul-le-mul_right, suc-mul}
use mathlib.Core.Logic.{dite}
use native.Mathlib.Decide.{ℕ_discrete}
use Rattle.gu_contents.specs.declared.content.Content.{Content}
use Rattle.gu_contents.specs.declared.facts.Facts.{Facts}
use Rattle.gu_contents.specs.Order.{AtMost, at_most}
use Rattle.gu_contents.specs.Rank.{rank}
use Rattle.gu_contents.specs.Join.{join}
use Rattle.gu_contents.specs.Belongs.{Belongs}
use Rattle.gu_contents.proofs.Belonging.{answers_belong}
use Rattle.gu_contents.proofs.Law.{lattice}
use Rattle.gu_cells.specs.declared.record.Entry.{Entry}
use Rattle.gu_cells.specs.declared.record.Entry.TheVariants.{Read, Join}
use Rattle.gu_cells.specs.Record.{RecordBelongs, seen, Appends, reads_of}
use Rattle.gu_workers.specs.Steps.{room, weight}
use Rattle.gu_workers.proofs.Seen.{seen_belongs, seen_grows, entry_seen}

pub belongs_back : (f : Facts) (longs : List ℕ) (xs ys : List Entry) → RecordBelongs f longs (xs ++ ys) → RecordBelongs f longs ys
belongs_back f longs [] ys h = h
belongs_back f longs (x ∷ xs) ys h = belongs_back f longs xs ys h.1

module _ (f : Facts) (longs : List ℕ) where
  belongs : (cell : ℕ) (entries : List Entry) → RecordBelongs f longs entries → Belongs f (seen f cell entries)
  belongs cell entries h = seen_belongs f (lattice f) (answers_belong f) longs cell entries h

  seen_up : (cell : ℕ) (xs ys : List Entry) → RecordBelongs f longs (xs ++ ys) → AtMost f (seen f cell ys) (seen f cell (xs ++ ys))
  seen_up cell [] ys h = (lattice f).order.reflexive (seen f cell ys)
  seen_up cell (x ∷ xs) ys h = (lattice f).order.transitive (seen f cell ys) (seen f cell (xs ++ ys)) (seen f cell (x ∷ xs ++ ys))
      (belongs cell ys (belongs_back f longs (x ∷ xs) ys h)) (belongs cell (xs ++ ys) h.1) (belongs cell (x ∷ xs ++ ys) h)
      (seen_up cell xs ys h.1) (seen_grows f (lattice f) (answers_belong f) longs cell x (xs ++ ys) h)

  rank_up : (a b : Content) → Belongs f a → Belongs f b → AtMost f a b → rank a ≤ rank b
  rank_up a b p q h = by (at_most f b a) refl
    where
      by : (t : Bool) → at_most f b a ≡ t → rank a ≤ rank b
      by true e = let same : a ≡ b = (lattice f).order.antisymmetric a b p q h (record { holds = e }) in omega (arith, ap rank same)
      by false e = let up = (lattice f).ranks.rises a b p q h (λ same. differs (at_most f b a) e (subst (λ (c : Content). at_most f c a ≡ true) same ((lattice f).order.reflexive a).holds)) in omega (arith, up)
        where
          differs : (t : Bool) → t ≡ false → t ≡ true → ⊥
          differs t u v = cc

  pub room_down : (cells : ℕ) (xs ys : List Entry) → RecordBelongs f longs (xs ++ ys) → room f cells (xs ++ ys) ≤ room f cells ys
  room_down zero xs ys h = omega arith
  room_down (suc c) xs ys h = omega (arith, rank_up (seen f c ys) (seen f c (xs ++ ys)) (belongs c ys (belongs_back f longs xs ys h)) (belongs c (xs ++ ys) h) (seen_up c xs ys h), room_down c xs ys h)

  room_less : (cells cell : ℕ) (xs ys : List Entry) → cell < cells → RecordBelongs f longs (xs ++ ys) → rank (seen f cell ys) < rank (seen f cell (xs ++ ys)) → room f cells (xs ++ ys) + 1 ≤ room f cells ys
  room_less zero cell xs ys lt h up = absurd (omega arith)
  room_less (suc c) cell xs ys lt h up = dite (ℕ_discrete cell c)
      (λ e. let u : rank (seen f c ys) < rank (seen f c (xs ++ ys)) = subst (λ (k : ℕ). rank (seen f k ys) < rank (seen f k (xs ++ ys))) e up in
      omega (arith, room_down c xs ys h, (lattice f).ranks.most (seen f c (xs ++ ys)) (belongs c (xs ++ ys) h)))
      (λ ne. omega (arith, room_less c cell xs ys (omega arith) h up, rank_up (seen f c ys) (seen f c (xs ++ ys)) (belongs c ys (belongs_back f longs xs ys h)) (belongs c (xs ++ ys) h) (seen_up c xs ys h)))

  -- a read takes no room back
  pub read_room : (cells cell : ℕ) (found : Content) (mid new : List Entry) → new ≡ Read cell found ∷ mid → RecordBelongs f longs new → room f cells new ≤ room f cells mid
  read_room cells cell found mid new e h = subst (λ (es : List Entry). room f cells es ≤ room f cells mid) (sym e) (room_down cells (Read cell found ∷ []) mid (subst (RecordBelongs f longs) e h))

  -- nor does a join
  pub join_room : (cells cell : ℕ) (asked before after : Content) (old new : List Entry) → Appends cell asked before after old new → RecordBelongs f longs new → room f cells new ≤ room f cells old
  join_room cells cell asked before after old new a h =
      let xs = Join cell asked before after ∷ reads_of cell a.found in
      subst (λ (es : List Entry). room f cells es ≤ room f cells old) (sym a.appended) (room_down cells xs old (subst (RecordBelongs f longs) a.appended h))

  -- and one that raises takes some
  pub raise_room : (cells cell : ℕ) (asked before after : Content) (old new : List Entry) → cell < cells → Appends cell asked before after old new → RecordBelongs f longs new
      → Belongs f before → Belongs f asked → Belongs f after → AtMost f (seen f cell old) before → after ≡ join f before asked → before ≢ after → room f cells new + 1 ≤ room f cells old
  raise_room cells cell asked before after old new lt a h hb ha hx low is ne =
      let xs = Join cell asked before after ∷ reads_of cell a.found in
      let h' : RecordBelongs f longs (xs ++ old) = subst (RecordBelongs f longs) a.appended h in
      let up : AtMost f before after = subst (λ (x : Content). AtMost f before x) (sym is) ((lattice f).joins.first before asked hb ha) in
      let top : AtMost f after (seen f cell (xs ++ old)) = entry_seen f (lattice f) (answers_belong f) longs (xs ++ old) (Join cell asked before after) h' (0, omega arith, refl) in
      let r1 = rank_up (seen f cell old) before (belongs cell old (belongs_back f longs xs old h')) hb low in
      let r2 = (lattice f).ranks.rises before after hb hx up ne in
      let r3 = rank_up after (seen f cell (xs ++ old)) hx (belongs cell (xs ++ old) h') top in
      subst (λ (es : List Entry). room f cells es + 1 ≤ room f cells old) (sym a.appended) (room_less cells cell xs old lt h' (omega (arith, r1, r2, r3)))

pub weight_less : (links a b p q : ℕ) → a + 1 ≤ b → q ≤ links → a * (links + 1) + q ≤ b * (links + 1) + p
weight_less links a b p q h k =
    let m : (a + 1) * (links + 1) ≤ b * (links + 1) = mul-le-mul_right (links + 1) h in
    let e = suc-mul a (links + 1) in
    let d : (a + 1) * (links + 1) ≡ suc a * (links + 1) = ap (λ (z : ℕ). z * (links + 1)) (add-one a) in
    let x : ℕ = a * (links + 1) in omega arith

pub weight_same : (links a b p : ℕ) → a ≤ b → a * (links + 1) + p ≤ b * (links + 1) + p
weight_same links a b p h = let m : a * (links + 1) ≤ b * (links + 1) = mul-le-mul_right (links + 1) h in omega arith

pub weight_on : (f : Facts) (cells links : ℕ) (a b c : List Entry) (p q r : ℕ) → weight f cells links b q ≤ weight f cells links a p → weight f cells links c r ≤ weight f cells links b q → weight f cells links c r ≤ weight f cells links a p
weight_on f cells links a b c p q r h k = omega (arith, h, k)
