-- Each greater content stands higher.
use Rattle.std.proofs.Common.{◌⊎◌, Some, inl, inr, ◌≡◌, ◌≢◌, ℕ, ◌+◌, ◌<◌, ◌≤◌, Bool, true, false, not, ◌||◌, refl, ap, ap₂, sym, ◌∙◌, subst, arith}
use Rattle.std.proofs.lemmas.Bool.{cases_lt}
use Rattle.gu_types.specs.declared.types.HeapType.{HeapType}
use Rattle.gu_rec.specs.Sub.{distance}
use Rattle.gu_contents.specs.declared.content.Core.{Core}
use Rattle.gu_contents.specs.declared.content.Core.TheVariants.{Bottom, Func, Global, Cone}
use Rattle.gu_contents.specs.declared.content.Content.{Content}
use Rattle.gu_contents.specs.declared.content.Content.TheVariants.{Empty, I32, I64, NumGlobal, Many, Ref, Top}
use Rattle.gu_contents.specs.declared.facts.Facts.{Facts}
use Rattle.gu_contents.specs.Rank.{core_rank, rank}
use Rattle.gu_contents.specs.Belongs.{CoreBelongs, Occurs, Belongs}
use Rattle.gu_contents.specs.Laws.{RanksRise}
use Rattle.gu_contents.proofs.Heaps.{distance_zero, one_index}
use Rattle.gu_contents.proofs.Heights.{height_few}
use Rattle.gu_contents.proofs.Lattice.{LiesIn, CoreBelow, least, same, lies, is_number, Below, nothing, everything, equal, number, refs, below}

least_climbs : (f : Facts) (c d : Core) → c ≡ Bottom → (c ≡ d) ⊎ (core_rank c < core_rank d)
least_climbs f c Bottom e = inl e
least_climbs f c (Func g) e = inr (let r : core_rank c ≡ 0 = ap core_rank e in omega arith)
least_climbs f c (Global g) e = inr (let r : core_rank c ≡ 0 = ap core_rank e in omega arith)
least_climbs f c (Cone b e) h = inr (let r : core_rank c ≡ 0 = ap core_rank h in omega arith)

-- a core that lies in a cone of no greater depth is that cone
cone_is : (f : Facts) (a : HeapType) (i : ℕ) (d : Core) → CoreBelongs f d → (l : LiesIn f (Cone a i) d) → l.deep ≤ l.depth → Cone a i ≡ d
cone_is f a i d j l h =
    let room = l.room in
    let none : l.edges ≡ 0 = omega arith in
    let long : l.depth ≡ l.deep = omega arith in
    let near : distance f.types l.above l.head ≡ Some 0 = l.far ∙ ap (λ n. Some n) none in
    let outer : CoreBelongs f (Cone l.above l.deep) = subst (CoreBelongs f) l.outer j in
    let heads : l.above ≡ l.head = one_index f.types f.hold l.above l.head outer.least l.inner.cone.least (distance_zero f.types f.hold l.head l.above near) in
    l.inner.is ∙ (ap₂ Cone (sym heads) long ∙ sym l.outer)

lies_climbs : (f : Facts) (c d : Core) → CoreBelongs f d → LiesIn f c d → (c ≡ d) ⊎ (core_rank c < core_rank d)
lies_climbs f Bottom d j l = inr (let r : core_rank d ≡ 2 + l.deep = ap core_rank l.outer in omega arith)
lies_climbs f (Func g) d j l = inr (let r : core_rank d ≡ 2 + l.deep = ap core_rank l.outer in omega arith)
lies_climbs f (Global g) d j l = inr (let r : core_rank d ≡ 2 + l.deep = ap core_rank l.outer in omega arith)
lies_climbs f (Cone a i) d j l =
    let e = l.inner.is in
    let long : i ≡ l.depth = cc in
    let r : core_rank d ≡ 2 + l.deep = ap core_rank l.outer in
    elim (cases_lt l.depth l.deep) as (λ _. (Cone a i ≡ d) ⊎ (core_rank (Cone a i) < core_rank d)) [ inl h ↦ inr (omega arith) | inr h ↦ inl (cone_is f a i d j l h) ]

-- a core is another, or the other stands higher
core_climbs : (f : Facts) (c d : Core) → CoreBelongs f d → CoreBelow f c d → (c ≡ d) ⊎ (core_rank c < core_rank d)
core_climbs f c d j (least e) = least_climbs f c d e
core_climbs f c d j (same e) = inl e
core_climbs f c d j (lies l) = lies_climbs f c d j l

some_core : (f : Facts) (c : Core) → Occurs false c → 0 < core_rank c
some_core f Bottom h = absurd h
some_core f (Func g) h = omega arith
some_core f (Global g) h = omega arith
some_core f (Cone a d) h = omega arith

above_empty : (f : Facts) (b : Content) → Belongs f b → Empty ≢ b → rank Empty < rank b
unfolding rank
above_empty f Empty i h = absurd (h refl)
above_empty f (I32 v) i h = omega arith
above_empty f (I64 v) i h = omega arith
above_empty f (NumGlobal g) i h = omega arith
above_empty f Many i h = omega arith
above_empty f (Ref true c) i h = omega arith
above_empty f (Ref false c) i h = let l = some_core f c i.0 in omega arith
above_empty f Top i h = omega arith

core_low : (f : Facts) (c : Core) → CoreBelongs f c → core_rank c ≤ 68
core_low f Bottom i = omega arith
core_low f (Func g) i = omega arith
core_low f (Global g) i = omega arith
core_low f (Cone a d) i = let h = height_few f.types f.hold f.shallow a in let l = i.capped in omega arith

ref_low : (f : Facts) (n : Bool) (c : Core) → CoreBelongs f c → rank (Ref n c) < 70
unfolding rank
ref_low f true c i = let l = core_low f c i in omega arith
ref_low f false c i = let l = core_low f c i in omega arith

below_top : (f : Facts) (a : Content) → Belongs f a → a ≢ Top → rank a < rank Top
unfolding rank
below_top f Empty i h = omega arith
below_top f (I32 v) i h = omega arith
below_top f (I64 v) i h = omega arith
below_top f (NumGlobal g) i h = omega arith
below_top f Many i h = omega arith
below_top f (Ref n c) i h = ref_low f n c i.1
below_top f Top i h = absurd (h refl)

below_many : (a : Content) → is_number a ≡ true → a ≢ Many → rank a < rank Many
unfolding rank
below_many Empty n h = cc
below_many (I32 v) n h = omega arith
below_many (I64 v) n h = omega arith
below_many (NumGlobal g) n h = omega arith
below_many Many n h = absurd (h refl)
below_many (Ref n c) m h = cc
below_many Top n h = cc

same_core_rises : (n m : Bool) (c : Core) → (not n || m) ≡ true → Ref n c ≢ Ref m c → rank (Ref n c) < rank (Ref m c)
unfolding rank
same_core_rises false false c h k = absurd (k refl)
same_core_rises false true c h k = omega arith
same_core_rises true false c h k = cc
same_core_rises true true c h k = absurd (k refl)

more_core_rises : (n m : Bool) (c d : Core) → (not n || m) ≡ true → core_rank c < core_rank d → rank (Ref n c) < rank (Ref m d)
unfolding rank
more_core_rises false false c d h k = omega arith
more_core_rises false true c d h k = omega arith
more_core_rises true false c d h k = cc
more_core_rises true true c d h k = omega arith

refs_rise : (f : Facts) (n m : Bool) (c d : Core) → CoreBelongs f d → (not n || m) ≡ true → CoreBelow f c d → Ref n c ≢ Ref m d → rank (Ref n c) < rank (Ref m d)
refs_rise f n m c d j h k u =
    elim (core_climbs f c d j k) as (λ _. rank (Ref n c) < rank (Ref m d)) [
      | inl e ↦
          let v : Ref n c ≢ Ref m c = λ q. u (q ∙ ap (Ref m) e) in
          let r : rank (Ref m c) ≡ rank (Ref m d) = ap (λ x. rank (Ref m x)) e in
          let l = same_core_rises n m c h v in
          omega arith
      | inr l ↦ more_core_rises n m c d h l
    ]

rising : (f : Facts) (a b : Content) → Belongs f a → Belongs f b → a ≢ b → Below f a b → rank a < rank b
rising f a b i j n (nothing e) = let l = above_empty f b j (λ q. n (e ∙ q)) in let r : rank a ≡ rank Empty = ap rank e in omega arith
rising f a b i j n (everything e) = let l = below_top f a i (λ q. n (q ∙ sym e)) in let r : rank b ≡ rank Top = ap rank e in omega arith
rising f a b i j n (equal e) = absurd (n e)
rising f a b i j n (number m e) = let l = below_many a m (λ q. n (q ∙ sym e)) in let r : rank b ≡ rank Many = ap rank e in omega arith
rising f a b i j n (refs r) =
    let d : Belongs f (Ref r.null_above r.core_above) = subst (Belongs f) r.second j in
    let l = refs_rise f r.null r.null_above r.core r.core_above d.1 r.nulls r.cores (λ q. n (r.first ∙ (q ∙ sym r.second))) in
    let p : rank a ≡ rank (Ref r.null r.core) = ap rank r.first in
    let q : rank b ≡ rank (Ref r.null_above r.core_above) = ap rank r.second in
    omega arith

rank_most : (f : Facts) (a : Content) → Belongs f a → rank a ≤ 70
unfolding rank
rank_most f Empty i = omega arith
rank_most f (I32 v) i = omega arith
rank_most f (I64 v) i = omega arith
rank_most f (NumGlobal g) i = omega arith
rank_most f Many i = omega arith
rank_most f (Ref n c) i = let l = ref_low f n c i.1 in omega arith
rank_most f Top i = omega arith

pub ranks_rise : (f : Facts) → RanksRise f
ranks_rise f = record { rises = λ a b i j h n. rising f a b i j n (below f a b i h); most = rank_most f }
