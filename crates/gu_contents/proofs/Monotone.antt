-- A greater content lets through no less where it is cast, keeps no less, and a test of it answers no less.
use Rattle.std.proofs.Common.{◌≡◌, ℕ, ◌+◌, ◌-◌, Bool, true, false, not, ◌&&◌, ◌||◌, min, if◌then◌else◌, Option, Some, None, refl, ap, ap₂, sym, ◌∙◌, subst, arith, true≢false}
use Rattle.gu_types.specs.declared.types.Abs.{Abs}
use Rattle.gu_types.specs.declared.types.HeapType.{HeapType}
use Rattle.gu_types.specs.declared.types.RefType.{RefType}
use Rattle.gu_rec.specs.Sub.{top_over, distance, height, IsHeapOf, IsNoBottom}
use Rattle.gu_contents.specs.declared.content.Core.{Core}
use Rattle.gu_contents.specs.declared.content.Core.TheVariants.{Bottom, Func, Global, Cone}
use Rattle.gu_contents.specs.declared.content.Content.{Content}
use Rattle.gu_contents.specs.declared.content.Content.TheVariants.{Empty, I32, I64, NumGlobal, Many, Ref, Top}
use Rattle.gu_contents.specs.declared.facts.Facts.{Facts}
use Rattle.gu_contents.specs.Contents.{least_index, cone_of, refs as refs_of, eq_core, eq_content}
use Rattle.gu_contents.specs.Whole.{whole_under, whole, all}
use Rattle.gu_contents.specs.Meets.{meet, filter, core_minus, minus, test_of, test}
use Rattle.gu_contents.specs.Belongs.{CoreBelongs, Occurs, Belongs}
use Rattle.gu_contents.proofs.Heaps.{distance_self, distance_adds}
use Rattle.gu_contents.proofs.Heights.{height_adds}
use Rattle.gu_contents.proofs.Cones.{is_head}
use Rattle.gu_contents.proofs.Lattice.{core_sound, core_own, content_sound, content_own, StandsFor, LiesIn, CoreBelow, least, same, lies, is_number, Below, nothing, everything, equal, number, refs}
use Rattle.gu_contents.proofs.JoinLaw.{stands_no_bottom}
use Rattle.gu_contents.proofs.MonotoneMeets.{a_bottom, no_core, outside, Inside, Partly, part_of, MeetIs, gone, inside, partly, meet_is, meet_rises, bottom_meet, least_above, part_cone, steps, some_none}

-- references that are none are nothing; all others are references
pub data RefsAre (n : Bool) (c : Core) : Type 0 where
  none_left : n ≡ false → c ≡ Bottom → refs_of n c ≡ Empty → RefsAre n c
  some_left : refs_of n c ≡ Ref n c → Occurs n c → RefsAre n c

pub refs_are : (n : Bool) (c : Core) → RefsAre n c
refs_are false Bottom = none_left refl refl refl
refs_are false (Func g) = some_left refl tt
refs_are false (Global g) = some_left refl tt
refs_are false (Cone a i) = some_left refl tt
refs_are true c = some_left refl tt

pub occurring : (n : Bool) (c : Core) → Occurs n c → refs_of n c ≡ Ref n c
occurring true c h = refl
occurring false Bottom h = absurd h
occurring false (Func g) h = refl
occurring false (Global g) h = refl
occurring false (Cone a i) h = refl

pub below_bottom : (f : Facts) (c d : Core) → CoreBelow f c d → d ≡ Bottom → c ≡ Bottom
below_bottom f c d (least e) h = e
below_bottom f c d (same e) h = e ∙ h
below_bottom f c d (lies l) h = let z : Bottom ≡ Cone l.above l.deep = sym h ∙ l.outer in cc

no_null : (n k : Bool) → (not n || k) ≡ true → k ≡ false → n ≡ false
no_null false k h e = refl
no_null true k h e = let z : false ≡ true = sym e ∙ h in cc

refs_rise : (f : Facts) (n k : Bool) (c d : Core) → (not n || k) ≡ true → CoreBelow f c d → Below f (refs_of n c) (refs_of k d)
refs_rise f n k c d h x = by_refs (refs_are n c) (refs_are k d)
  where
    by_refs : RefsAre n c → RefsAre k d → Below f (refs_of n c) (refs_of k d)
    by_refs (none_left p q e) y = nothing e
    by_refs (some_left e o) (some_left g r) = refs (record { null = n; core = c; null_above = k; core_above = d; first = e; second = g; nulls = h; cores = x })
    by_refs (some_left e o) (none_left p q g) = let m : n ≡ false = no_null n k h p in let b : c ≡ Bottom = below_bottom f c d x q in nothing (ap₂ refs_of m b)

both_nulls : (n m t : Bool) → (not n || m) ≡ true → (not (n && t) || (m && t)) ≡ true
both_nulls false m t h = refl
both_nulls true true true h = refl
both_nulls true true false h = refl
both_nulls true false t h = cc

one_null : (n t : Bool) → (not (n && t) || t) ≡ true
one_null false t = refl
one_null true true = refl
one_null true false = refl

-- what of a core is at or below a heap type lies in its whole cone
in_whole : (f : Facts) (c : Core) (to : HeapType) (m : Core) → MeetIs f c to m → IsNoBottom to → IsHeapOf f.types to → CoreBelow f m (Cone (least_index f.types to) (height f.types to))
in_whole f c to m (gone g e) n h = least e
in_whole f c to m (inside p e) n h =
    let l = height_adds f.types f.hold to p.a p.edges (is_head f p.a p.i p.stands.cone) p.is in
    let k = p.stands.cone.capped in
    lies (record { head = p.a; depth = p.i; inner = subst (λ z. StandsFor f z p.a p.i) (sym e) p.stands; above = least_index f.types to; deep = height f.types to; outer = refl; edges = p.edges; far = least_above f to p.a ∙ p.is; room = omega arith })
in_whole f c to m (partly p e) n h =
    lies (record {
      head = least_index f.types to;
      depth = min (p.i - p.edges) (height f.types to);
      inner = record { is = ap (cone_of f) e; cone = part_cone f to (p.i - p.edges) h n };
      above = least_index f.types to;
      deep = height f.types to;
      outer = refl;
      edges = 0;
      far = distance_self f.types f.hold (least_index f.types to);
      room = omega arith;
    })

meet_of_bottom : (f : Facts) (c : Core) (to : HeapType) (top : Abs) (m : Core) → top_over to ≡ Some top → MeetIs f c to m → m ≡ Bottom
meet_of_bottom f c to top m h (gone g e) = e
meet_of_bottom f c to top m h (inside p e) = let n = p.no_bottom in let z : None ≡ Some top = sym n ∙ h in cc
meet_of_bottom f c to top m h (partly p e) = let n = p.no_bottom in let z : None ≡ Some top = sym n ∙ h in cc

below_whole : (f : Facts) (c : Core) (to : HeapType) → CoreBelongs f c → IsHeapOf f.types to → CoreBelow f (meet f c to) (whole f to)
below_whole f c to i h = by_top (top_over to) refl
  where
    by_top : (o : Option Abs) → top_over to ≡ o → CoreBelow f (meet f c to) (whole f to)
    by_top None e = subst (CoreBelow f (meet f c to)) (sym (ap (whole_under f to) e)) (in_whole f c to (meet f c to) (meet_is f c to i) e h)
    by_top (Some top) e = least (meet_of_bottom f c to top (meet f c to) e (meet_is f c to i))

module _ (f : Facts) (to : RefType) (is_heap : IsHeapOf f.types to.heap) where
  filter_refs : (n : Bool) (c : Core) → filter f (Ref n c) to ≡ refs_of (n && to.null) (meet f c to.heap)
  unfolding filter
  filter_refs n c = refl

  filter_top : (a : Content) → Belongs f a → Below f (filter f a to) (filter f Top to)
  unfolding filter all
  filter_top Empty i = nothing refl
  filter_top (I32 v) i = nothing refl
  filter_top (I64 v) i = nothing refl
  filter_top (NumGlobal g) i = nothing refl
  filter_top Many i = nothing refl
  filter_top (Ref n c) i = refs_rise f (n && to.null) to.null (meet f c to.heap) (whole f to.heap) (one_null n to.null) (below_whole f c to.heap i.1 is_heap)
  filter_top Top i = equal refl

  filter_number : (a : Content) → is_number a ≡ true → filter f a to ≡ Empty
  unfolding filter
  filter_number Empty h = cc
  filter_number (I32 v) h = refl
  filter_number (I64 v) h = refl
  filter_number (NumGlobal g) h = refl
  filter_number Many h = refl
  filter_number (Ref n c) h = cc
  filter_number Top h = cc

  filter_empty : (a : Content) → a ≡ Empty → filter f a to ≡ Empty
  unfolding filter
  filter_empty a e = ap (λ x. filter f x to) e

  pub filter_rises : (a b : Content) → Belongs f a → Belongs f b → Below f a b → Below f (filter f a to) (filter f b to)
  filter_rises a b i j (nothing e) = nothing (filter_empty a e)
  filter_rises a b i j (everything e) = subst (λ x. Below f (filter f a to) (filter f x to)) (sym e) (filter_top a i)
  filter_rises a b i j (equal e) = equal (ap (λ x. filter f x to) e)
  filter_rises a b i j (number n e) = nothing (filter_number a n)
  filter_rises a b i j (refs r) =
      let x : Belongs f (Ref r.null r.core) = subst (Belongs f) r.first i in
      let y : Belongs f (Ref r.null_above r.core_above) = subst (Belongs f) r.second j in
      let p : filter f a to ≡ refs_of (r.null && to.null) (meet f r.core to.heap) = ap (λ z. filter f z to) r.first ∙ filter_refs r.null r.core in
      let q : filter f b to ≡ refs_of (r.null_above && to.null) (meet f r.core_above to.heap) = ap (λ z. filter f z to) r.second ∙ filter_refs r.null_above r.core_above in
      let m = refs_rise f (r.null && to.null) (r.null_above && to.null) (meet f r.core to.heap) (meet f r.core_above to.heap) (both_nulls r.null r.null_above to.null r.nulls) (meet_rises f to.heap r.core r.core_above is_heap x.1 y.1 r.cores) in
      subst (λ z. Below f z (filter f b to)) (sym p) (subst (Below f (refs_of (r.null && to.null) (meet f r.core to.heap))) (sym q) m)

module _ (f : Facts) (to : HeapType) (is_heap : IsHeapOf f.types to) where
  -- of a core that is not less below a heap type all is there
  data Stays (c : Core) : Type 0 where
    no_values : c ≡ Bottom → Stays c
    all_inside : Inside f c to → Stays c

  part_is_less : (c : Core) (p : Partly f c to) → part_of f c to p ≡ c → ⊥
  part_is_less c p e =
      let q : Cone (least_index f.types to) (min (p.i - p.edges) (height f.types to)) ≡ Cone p.a p.i = ap (cone_of f) e ∙ p.stands.is in
      let h : least_index f.types to ≡ p.a = cc in
      some_none (distance f.types to p.a) 0 p.missed (sym (least_above f to p.a) ∙ (ap (distance f.types (least_index f.types to)) (sym h) ∙ distance_self f.types f.hold (least_index f.types to)))

  stays : (c m : Core) → MeetIs f c to m → m ≡ c → Stays c
  stays c m (gone g e) h = no_values (sym h ∙ e)
  stays c m (inside p e) h = all_inside p
  stays c m (partly p e) h = absurd (part_is_less c p (sym e ∙ h))

  inside_missed : (c : Core) (p : Inside f c to) (a : HeapType) (i : ℕ) → StandsFor f c a i → distance f.types to a ≡ None → ⊥
  inside_missed c p a i s n =
      let q : Cone p.a p.i ≡ Cone a i = sym p.stands.is ∙ s.is in
      let h : p.a ≡ a = cc in
      some_none (distance f.types to a) p.edges n (ap (distance f.types to) (sym h) ∙ p.is)

  inside_is : (c m : Core) → Inside f c to → MeetIs f c to m → m ≡ c
  inside_is c m p (inside q e) = e
  inside_is c m p (gone (a_bottom top h) e) = let n = p.no_bottom in let z : None ≡ Some top = sym n ∙ h in cc
  inside_is c m p (gone (no_core h) e) = absurd (stands_no_bottom f c p.a p.i p.stands h)
  inside_is c m p (gone (outside a i s o) e) = absurd (inside_missed c p a i s o.missed)
  inside_is c m p (partly q e) = absurd (inside_missed c p q.a q.i q.stands q.missed)

  lying_inside : (c d : Core) → LiesIn f c d → Inside f d to → Inside f c to
  lying_inside c d l p =
      let s = steps f c d l.head l.depth p.a p.i l.inner p.stands (lies l) in
      record { no_bottom = p.no_bottom; a = l.head; i = l.depth; stands = l.inner; edges = s.edges + p.edges; is = distance_adds f.types f.hold l.head p.a to s.edges p.edges s.far p.is }

  -- where a core is at or below a heap type, so is a lesser one
  pub stays_down : (c d : Core) → CoreBelongs f c → CoreBelongs f d → CoreBelow f c d → meet f d to ≡ d → meet f c to ≡ c
  stays_down c d i j (least e) h = ap (λ x. meet f x to) e ∙ (bottom_meet f to ∙ sym e)
  stays_down c d i j (same e) h = ap (λ x. meet f x to) e ∙ (h ∙ sym e)
  stays_down c d i j (lies l) h = by_stays (stays d (meet f d to) (meet_is f d to j) h)
    where
      by_stays : Stays d → meet f c to ≡ c
      by_stays (no_values e) = let z : Bottom ≡ Cone l.above l.deep = sym e ∙ l.outer in cc
      by_stays (all_inside p) = inside_is c (meet f c to) (lying_inside c d l p) (meet_is f c to i)

  abbrev left_of_core : Core → Bool → Core
  left_of_core c b = if b then Bottom else c

  pub core_minus_rises : (c d : Core) → CoreBelongs f c → CoreBelongs f d → CoreBelow f c d → CoreBelow f (core_minus f c to) (core_minus f d to)
  core_minus_rises c d i j h = by_tests (eq_core (meet f c to) c) (eq_core (meet f d to) d) refl refl
    where
      by_tests : (v w : Bool) → eq_core (meet f c to) c ≡ v → eq_core (meet f d to) d ≡ w → CoreBelow f (core_minus f c to) (core_minus f d to)
      by_tests true w e g = least (ap (left_of_core c) e)
      by_tests false false e g = subst (λ x. CoreBelow f x (core_minus f d to)) (sym (ap (left_of_core c) e)) (subst (CoreBelow f c) (sym (ap (left_of_core d) g)) h)
      by_tests false true e g =
          let k = stays_down c d i j h (core_sound (meet f d to) d g) in
          let z : false ≡ true = sym e ∙ (ap (λ x. eq_core x c) k ∙ core_own c) in
          absurd (true≢false (sym z))

module _ (f : Facts) (to : RefType) (is_heap : IsHeapOf f.types to.heap) where
  minus_refs : (n : Bool) (c : Core) → minus f (Ref n c) to ≡ refs_of (n && not to.null) (core_minus f c to.heap)
  unfolding minus
  minus_refs n c = refl

  minus_number : (a : Content) → is_number a ≡ true → minus f a to ≡ a
  unfolding minus
  minus_number Empty h = cc
  minus_number (I32 v) h = refl
  minus_number (I64 v) h = refl
  minus_number (NumGlobal g) h = refl
  minus_number Many h = refl
  minus_number (Ref n c) h = cc
  minus_number Top h = cc

  minus_top : minus f Top to ≡ Top
  unfolding minus
  minus_top = refl

  minus_empty : minus f Empty to ≡ Empty
  unfolding minus
  minus_empty = refl

  minus_many : minus f Many to ≡ Many
  unfolding minus
  minus_many = refl

  pub minus_rises : (a b : Content) → Belongs f a → Belongs f b → Below f a b → Below f (minus f a to) (minus f b to)
  minus_rises a b i j (nothing e) = nothing (ap (λ x. minus f x to) e ∙ minus_empty)
  minus_rises a b i j (everything e) = everything (ap (λ x. minus f x to) e ∙ minus_top)
  minus_rises a b i j (equal e) = equal (ap (λ x. minus f x to) e)
  minus_rises a b i j (number n e) = number (ap is_number (minus_number a n) ∙ n) (ap (λ x. minus f x to) e ∙ minus_many)
  minus_rises a b i j (refs r) =
      let x : Belongs f (Ref r.null r.core) = subst (Belongs f) r.first i in
      let y : Belongs f (Ref r.null_above r.core_above) = subst (Belongs f) r.second j in
      let p : minus f a to ≡ refs_of (r.null && not to.null) (core_minus f r.core to.heap) = ap (λ z. minus f z to) r.first ∙ minus_refs r.null r.core in
      let q : minus f b to ≡ refs_of (r.null_above && not to.null) (core_minus f r.core_above to.heap) = ap (λ z. minus f z to) r.second ∙ minus_refs r.null_above r.core_above in
      let m = refs_rise f (r.null && not to.null) (r.null_above && not to.null) (core_minus f r.core to.heap) (core_minus f r.core_above to.heap) (both_nulls r.null r.null_above (not to.null) r.nulls) (core_minus_rises f to.heap is_heap r.core r.core_above x.1 y.1 r.cores) in
      subst (λ z. Below f z (minus f b to)) (sym p) (subst (Below f (refs_of (r.null && not to.null) (core_minus f r.core to.heap))) (sym q) m)

pub below_empty : (f : Facts) (a b : Content) → Below f a b → b ≡ Empty → a ≡ Empty
below_empty f a b (nothing e) h = e
below_empty f a b (everything e) h = cc
below_empty f a b (equal e) h = e ∙ h
below_empty f a b (number n e) h = cc
below_empty f a b (refs r) h = let z : Empty ≡ Ref r.null_above r.core_above = sym h ∙ r.second in cc

refs_no_top : (n : Bool) (c : Core) → refs_of n c ≡ Top → ⊥
refs_no_top n c h = by_refs (refs_are n c)
  where
    by_refs : RefsAre n c → ⊥
    by_refs (none_left p q e) = let z : Empty ≡ Top = sym e ∙ h in cc
    by_refs (some_left e o) = let z : Ref n c ≡ Top = sym e ∙ h in cc

-- references that are others, of which there are some
pub record SameRefs (n m : Bool) (c d : Core) : Type 0 where
  pub nulls : n ≡ m
  pub cores : c ≡ d

same_refs : (n m : Bool) (c d : Core) → refs_of n c ≡ Ref m d → SameRefs n m c d
same_refs n m c d h = by_refs (refs_are n c)
  where
    by_refs : RefsAre n c → SameRefs n m c d
    by_refs (none_left p q e) = let z : Empty ≡ Ref m d = sym e ∙ h in cc
    by_refs (some_left e o) = let z : Ref n c ≡ Ref m d = sym e ∙ h in record { nulls = cc; cores = cc }

null_down : (n m t : Bool) → (not n || m) ≡ true → (m && t) ≡ m → (n && t) ≡ n
null_down false m t h e = refl
null_down true true t h e = e
null_down true false t h e = cc

-- what a test answers
data TestIs (f : Facts) (to : RefType) (a t : Content) : Type 0 where
  untested : a ≡ Empty → t ≡ Empty → TestIs f to a t
  answers_no : (a ≡ Empty → ⊥) → filter f a to ≡ Empty → t ≡ I32 0 → TestIs f to a t
  answers_yes : (a ≡ Empty → ⊥) → filter f a to ≡ a → t ≡ I32 1 → TestIs f to a t
  answers_both : (filter f a to ≡ Empty → ⊥) → (filter f a to ≡ a → ⊥) → t ≡ Many → TestIs f to a t

differ : (a b : Content) → eq_content a b ≡ false → a ≡ b → ⊥
differ a b h e = true≢false (sym (content_own a) ∙ (ap (eq_content a) e ∙ h))

abbrev second_answer : Bool → Content
second_answer w = if w then I32 1 else Many

abbrev answer : Bool → Bool → Content
answer v w = if v then I32 0 else second_answer w

test_answers : (f : Facts) (to : RefType) (a : Content) → (a ≡ Empty → ⊥) → TestIs f to a (test_of a (filter f a to))
test_answers f to a n = by_tests (eq_content (filter f a to) Empty) (eq_content (filter f a to) a) refl refl
  where
    by_tests : (v w : Bool) → eq_content (filter f a to) Empty ≡ v → eq_content (filter f a to) a ≡ w → TestIs f to a (test_of a (filter f a to))
    by_tests true w e g = answers_no n (content_sound (filter f a to) Empty e) (ap (λ v. answer v (eq_content (filter f a to) a)) e)
    by_tests false true e g = answers_yes n (content_sound (filter f a to) a g) (ap₂ answer e g)
    by_tests false false e g = answers_both (differ (filter f a to) Empty e) (differ (filter f a to) a g) (ap₂ answer e g)

test_is : (f : Facts) (to : RefType) (a : Content) → TestIs f to a (test f a to)
unfolding test
test_is f to Empty = untested refl refl
test_is f to (I32 v) = test_answers f to (I32 v) (λ e. cc)
test_is f to (I64 v) = test_answers f to (I64 v) (λ e. cc)
test_is f to (NumGlobal g) = test_answers f to (NumGlobal g) (λ e. cc)
test_is f to Many = test_answers f to Many (λ e. cc)
test_is f to (Ref n c) = test_answers f to (Ref n c) (λ e. cc)
test_is f to Top = test_answers f to Top (λ e. cc)

module _ (f : Facts) (to : RefType) (is_heap : IsHeapOf f.types to.heap) where
  top_no_filter : filter f Top to ≡ Top → ⊥
  unfolding filter all
  top_no_filter h = refs_no_top to.null (whole f to.heap) h

  filter_none : filter f Empty to ≡ Empty
  unfolding filter
  filter_none = refl

  filter_many : filter f Many to ≡ Empty
  unfolding filter
  filter_many = refl

  refs_let_through : (n : Bool) (c : Core) → filter f (Ref n c) to ≡ refs_of (n && to.null) (meet f c to.heap)
  unfolding filter
  refs_let_through n c = refl

  -- where all of a content is let through, so is all of a lesser one
  filter_down : (a b : Content) → Belongs f a → Belongs f b → Below f a b → filter f b to ≡ b → filter f a to ≡ a
  filter_down a b i j (nothing e) h = ap (λ x. filter f x to) e ∙ (filter_none ∙ sym e)
  filter_down a b i j (everything e) h = absurd (top_no_filter (ap (λ x. filter f x to) (sym e) ∙ (h ∙ e)))
  filter_down a b i j (equal e) h = ap (λ x. filter f x to) e ∙ (h ∙ sym e)
  filter_down a b i j (number n e) h = let z : Empty ≡ Many = sym filter_many ∙ (ap (λ x. filter f x to) (sym e) ∙ (h ∙ e)) in cc
  filter_down a b i j (refs r) h =
      let x : Belongs f (Ref r.null r.core) = subst (Belongs f) r.first i in
      let y : Belongs f (Ref r.null_above r.core_above) = subst (Belongs f) r.second j in
      let q : refs_of (r.null_above && to.null) (meet f r.core_above to.heap) ≡ Ref r.null_above r.core_above = sym (refs_let_through r.null_above r.core_above) ∙ (ap (λ z. filter f z to) (sym r.second) ∙ (h ∙ r.second)) in
      let s = same_refs (r.null_above && to.null) r.null_above (meet f r.core_above to.heap) r.core_above q in
      let m = stays_down f to.heap is_heap r.core r.core_above x.1 y.1 r.cores s.cores in
      let n = null_down r.null r.null_above to.null r.nulls s.nulls in
      ap (λ z. filter f z to) r.first ∙ (refs_let_through r.null r.core ∙ (ap₂ refs_of n m ∙ (occurring r.null r.core x.0 ∙ sym r.first)))

  same_answer : (s t v : Content) → s ≡ v → t ≡ v → Below f s t
  same_answer s t v e h = equal (e ∙ sym h)

  tests_rise : (a b s t : Content) → Belongs f a → Belongs f b → Below f a b → TestIs f to a s → TestIs f to b t → Below f s t
  tests_rise a b s t i j h (untested e g) k = nothing g
  tests_rise a b s t i j h (answers_no n e g) (untested p q) = absurd (n (below_empty f a b h p))
  tests_rise a b s t i j h (answers_no n e g) (answers_no m p q) = equal (g ∙ sym q)
  tests_rise a b s t i j h (answers_no n e g) (answers_yes m p q) = absurd (n (sym (filter_down a b i j h p) ∙ e))
  tests_rise a b s t i j h (answers_no n e g) (answers_both m p q) = number (ap is_number g) q
  tests_rise a b s t i j h (answers_yes n e g) (untested p q) = absurd (n (below_empty f a b h p))
  tests_rise a b s t i j h (answers_yes n e g) (answers_no m p q) = absurd (n (sym e ∙ below_empty f (filter f a to) (filter f b to) (filter_rises f to is_heap a b i j h) p))
  tests_rise a b s t i j h (answers_yes n e g) (answers_yes m p q) = equal (g ∙ sym q)
  tests_rise a b s t i j h (answers_yes n e g) (answers_both m p q) = number (ap is_number g) q
  tests_rise a b s t i j h (answers_both n e g) (untested p q) = absurd (n (filter_empty f to is_heap a (below_empty f a b h p)))
  tests_rise a b s t i j h (answers_both n e g) (answers_no m p q) = absurd (n (below_empty f (filter f a to) (filter f b to) (filter_rises f to is_heap a b i j h) p))
  tests_rise a b s t i j h (answers_both n e g) (answers_yes m p q) = absurd (e (filter_down a b i j h p))
  tests_rise a b s t i j h (answers_both n e g) (answers_both m p q) = equal (g ∙ sym q)

  pub test_rises : (a b : Content) → Belongs f a → Belongs f b → Below f a b → Below f (test f a to) (test f b to)
  test_rises a b i j h = tests_rise a b (test f a to) (test f b to) i j h (test_is f to a) (test_is f to b)
