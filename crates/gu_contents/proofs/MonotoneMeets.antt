-- What of a core is at or below a heap type: no less of a greater core.
use Rattle.std.proofs.Common.{◌≡◌, ℕ, zero, suc, ◌+◌, ◌-◌, ◌<◌, ◌≤◌, Bool, true, false, min, if◌then◌else◌, Option, Some, None, is_some, refl, ap, ap₂, sym, ◌∙◌, subst, inl, inr, arith}
use Rattle.std.specs.Prelude.{nat_le}
use Rattle.std.proofs.lemmas.Bool.{leb-true, le-leb, cases_lt}
use Rattle.gu_types.specs.declared.types.Abs.{Abs}
use Rattle.gu_types.specs.declared.types.HeapType.{HeapType}
use Rattle.gu_rec.specs.Sub.{top_over, distance, height, IsHeapOf, IsNoBottom}
use Rattle.gu_contents.specs.declared.content.Core.{Core}
use Rattle.gu_contents.specs.declared.content.Core.TheVariants.{Bottom, Func, Global, Cone}
use Rattle.gu_contents.specs.declared.facts.Facts.{Facts}
use Rattle.gu_contents.specs.Contents.{least_index, bound, type_of_func, cone_of}
use Rattle.gu_contents.specs.Order.{reaches, cone_at_most}
use Rattle.gu_contents.specs.Whole.{whole}
use Rattle.gu_contents.specs.Meets.{below_head, meet_cone, meet_heap, meet_under, meet}
use Rattle.gu_contents.specs.Belongs.{IsCone, CoreBelongs}
use Rattle.gu_contents.proofs.Heaps.{distance_self, distance_adds, distance_between, distance_zero, above_named, below_named}
use Rattle.gu_contents.proofs.Heights.{height_adds, height_named, least_name, least_heap, least_in_range, least_no_bottom}
use Rattle.gu_contents.proofs.Cones.{is_head, within_is}
use Rattle.gu_contents.proofs.Lattice.{StandsFor, HasCone, none, some, has_cone, LiesIn, CoreBelow, least, same, lies}
use Rattle.gu_contents.proofs.OrderLaw.{same_cone}
use Rattle.gu_contents.proofs.JoinLaw.{stands_no_bottom, same_edges}

pub some_none : (o : Option ℕ) (k : ℕ) → o ≡ None → o ≡ Some k → ⊥
some_none o k h e = let z : None ≡ Some k = sym h ∙ e in cc

-- the cone that one core stands for lies in the cone that another stands for
pub record Steps (f : Facts) (a : HeapType) (i : ℕ) (b : HeapType) (e : ℕ) : Type 0 where
  pub edges : ℕ
  pub far : distance f.types b a ≡ Some edges
  pub room : edges + i ≤ e

no_steps : (f : Facts) (a : HeapType) (i : ℕ) (b : HeapType) (e : ℕ) → Cone a i ≡ Cone b e → Steps f a i b e
no_steps f a i b e q =
    let p : a ≡ b = cc in
    let d : i ≡ e = cc in
    record { edges = 0; far = ap (λ x. distance f.types x a) (sym p) ∙ distance_self f.types f.hold a; room = omega arith }

pub steps : (f : Facts) (c d : Core) (a : HeapType) (i : ℕ) (b : HeapType) (e : ℕ) → StandsFor f c a i → StandsFor f d b e → CoreBelow f c d → Steps f a i b e
steps f c d a i b e s t (least h) = absurd (stands_no_bottom f c a i s h)
steps f c d a i b e s t (same h) = no_steps f a i b e (sym s.is ∙ (ap (cone_of f) h ∙ t.is))
steps f c d a i b e s t (lies l) =
    let q : Cone l.head l.depth ≡ Cone a i = sym l.inner.is ∙ s.is in
    let r = same_cone f d l.above l.deep b e l.outer t in
    let p : l.head ≡ a = cc in
    let n : l.depth ≡ i = cc in
    let m : l.above ≡ b = cc in
    let k : l.deep ≡ e = cc in
    let w = l.room in
    record { edges = l.edges; far = ap₂ (distance f.types) (sym m) (sym p) ∙ l.far; room = omega arith }

-- no value of a cone is at or below a heap type
pub record Outside (f : Facts) (to a : HeapType) (i : ℕ) : Type 0 where
  pub missed : distance f.types to a ≡ None
  pub far : (k : ℕ) → distance f.types a to ≡ Some k → i < k

-- why nothing of a core is at or below a heap type
pub data Gone (f : Facts) (c : Core) (to : HeapType) : Type 0 where
  a_bottom : (top : Abs) → top_over to ≡ Some top → Gone f c to
  no_core : c ≡ Bottom → Gone f c to
  outside : (a : HeapType) (i : ℕ) → StandsFor f c a i → Outside f to a i → Gone f c to

-- all of a core is at or below a heap type
pub record Inside (f : Facts) (c : Core) (to : HeapType) : Type 0 where
  pub no_bottom : IsNoBottom to
  pub a : HeapType
  pub i : ℕ
  pub stands : StandsFor f c a i
  pub edges : ℕ
  pub is : distance f.types to a ≡ Some edges

-- some of a core is at or below a heap type
pub record Partly (f : Facts) (c : Core) (to : HeapType) : Type 0 where
  pub no_bottom : IsNoBottom to
  pub a : HeapType
  pub i : ℕ
  pub stands : StandsFor f c a i
  pub missed : distance f.types to a ≡ None
  pub edges : ℕ
  pub is : distance f.types a to ≡ Some edges
  pub within : edges ≤ i

abbrev pub part_of : (f : Facts) (c : Core) (to : HeapType) → Partly f c to → Core
part_of f c to p = Cone (least_index f.types to) (min (p.i - p.edges) (height f.types to))

-- what of a core is at or below a heap type
pub data MeetIs (f : Facts) (c : Core) (to : HeapType) (m : Core) : Type 0 where
  gone : Gone f c to → m ≡ Bottom → MeetIs f c to m
  inside : Inside f c to → m ≡ c → MeetIs f c to m
  partly : (p : Partly f c to) → m ≡ part_of f c to p → MeetIs f c to m

under_head : (f : Facts) (c : Core) (to : HeapType) (a : HeapType) (i : ℕ) → StandsFor f c a i → IsNoBottom to → distance f.types to a ≡ None → (o : Option ℕ) → distance f.types a to ≡ o → MeetIs f c to (below_head f.types i to o)
under_head f c to a i s n e None h = gone (outside a i s (record { missed = e; far = λ k z. let y : None ≡ Some k = sym h ∙ z in cc })) refl
under_head f c to a i s n e (Some k) h = by_test (nat_le k i) refl
  where
    by_test : (b : Bool) → nat_le k i ≡ b → MeetIs f c to (if b then Cone (least_index f.types to) (min (i - k) (height f.types to)) else Bottom)
    by_test true t = partly (record { no_bottom = n; a = a; i = i; stands = s; missed = e; edges = k; is = h; within = leb-true k i t }) refl
    by_test false t =
        gone (outside a i s (record {
          missed = e;
          far = λ m z.
              let y = same_edges (distance f.types a to) k m h z in
              elim (cases_lt i k) as (λ _. i < m) [ inl l ↦ omega arith | inr l ↦ let x : false ≡ true = sym t ∙ le-leb k i l in cc ];
        })) refl

cone_meet : (f : Facts) (c : Core) (to : HeapType) (a : HeapType) (i : ℕ) → StandsFor f c a i → IsNoBottom to → distance f.types to a ≡ None → MeetIs f c to (meet_cone f.types (Cone a i) to)
cone_meet f c to a i s n e =
    subst (MeetIs f c to) (sym (ap (λ o. if is_some o then Cone a i else below_head f.types i to (distance f.types a to)) e)) (under_head f c to a i s n e (distance f.types a to) refl)

cone_is : (f : Facts) (to a : HeapType) (i : ℕ) → IsCone f a i → IsNoBottom to → (o : Option ℕ) → distance f.types to a ≡ o → MeetIs f (Cone a i) to (meet_cone f.types (Cone a i) to)
cone_is f to a i h n None e = cone_meet f (Cone a i) to a i (record { is = refl; cone = h }) n e
cone_is f to a i h n (Some k) e =
    inside (record { no_bottom = n; a = a; i = i; stands = record { is = refl; cone = h }; edges = k; is = e }) (ap (λ o. if is_some o then Cone a i else below_head f.types i to (distance f.types a to)) e)

-- of a head that is the heap type, it is not missed
not_missed : (f : Facts) (to a : HeapType) → distance f.types to a ≡ None → (k : ℕ) → distance f.types a to ≡ Some k → 0 < k
not_missed f to a e zero h =
    let n = distance_zero f.types f.hold to a h in
    absurd (some_none (distance f.types to a) 0 e (below_named f.types f.hold to a to n ∙ distance_self f.types f.hold to))
not_missed f to a e (suc k) h = omega arith

func_is : (f : Facts) (to : HeapType) (g : ℕ) → StandsFor f (Func g) (type_of_func f g) 0 → IsNoBottom to → (o : Option ℕ) → distance f.types to (type_of_func f g) ≡ o → MeetIs f (Func g) to (meet_heap f (Func g) to)
func_is f to g s n None e =
    gone (outside (type_of_func f g) 0 s (record { missed = e; far = not_missed f to (type_of_func f g) e })) (ap (λ o. if is_some o then Func g else Bottom) e)
func_is f to g s n (Some k) e =
    inside (record { no_bottom = n; a = type_of_func f g; i = 0; stands = s; edges = k; is = e }) (ap (λ o. if is_some o then Func g else Bottom) e)

-- the heap type at its least index has the same distances
pub least_above : (f : Facts) (to a : HeapType) → distance f.types (least_index f.types to) a ≡ distance f.types to a
least_above f to a = above_named f.types f.hold (least_index f.types to) to a (least_name f.types to)

abbrev chosen : Facts → ℕ → HeapType → Bool → Core
chosen f g to b = if b then Global g else meet_cone f.types (bound f g) to

global_is : (f : Facts) (to : HeapType) (g : ℕ) (a : HeapType) (i : ℕ) → StandsFor f (Global g) a i → IsNoBottom to → (o : Option ℕ) → distance f.types to a ≡ o → MeetIs f (Global g) to (meet_heap f (Global g) to)
global_is f to g a i s n None e =
    let no : cone_at_most f (bound f g) (whole f to) ≡ false = ap (λ c. cone_at_most f c (whole f to)) s.is ∙ (within_is f a to i n ∙ ap (λ o. reaches o i (height f.types to)) e) in
    subst (MeetIs f (Global g) to) (sym (ap (chosen f g to) no ∙ ap (λ c. meet_cone f.types c to) s.is)) (cone_meet f (Global g) to a i s n e)
global_is f to g a i s n (Some k) e =
    let l = height_adds f.types f.hold to a k (is_head f a i s.cone) e in
    let m = s.cone.capped in
    let yes : cone_at_most f (bound f g) (whole f to) ≡ true = ap (λ c. cone_at_most f c (whole f to)) s.is ∙ (within_is f a to i n ∙ (ap (λ o. reaches o i (height f.types to)) e ∙ le-leb (k + i) (height f.types to) (omega arith))) in
    inside (record { no_bottom = n; a = a; i = i; stands = s; edges = k; is = e }) (ap (chosen f g to) yes)

heap_is : (f : Facts) (c : Core) (to : HeapType) → CoreBelongs f c → IsNoBottom to → HasCone f c → MeetIs f c to (meet_heap f c to)
heap_is f Bottom to h n k = gone (no_core refl) refl
heap_is f (Func g) to h n (none e) = cc
heap_is f (Func g) to h n (some a i s) =
    let q : Cone (type_of_func f g) 0 ≡ Cone a i = s.is in
    let p : a ≡ type_of_func f g = cc in
    let d : i ≡ 0 = cc in
    func_is f to g (subst (λ x. StandsFor f (Func g) x 0) p (subst (StandsFor f (Func g) a) d s)) n (distance f.types to (type_of_func f g)) refl
heap_is f (Global g) to h n (none e) = cc
heap_is f (Global g) to h n (some a i s) = global_is f to g a i s n (distance f.types to a) refl
heap_is f (Cone a i) to h n k = cone_is f to a i h n (distance f.types to a) refl

pub meet_is : (f : Facts) (c : Core) (to : HeapType) → CoreBelongs f c → MeetIs f c to (meet f c to)
unfolding meet
meet_is f c to h = by_top (top_over to) refl
  where
    by_top : (o : Option Abs) → top_over to ≡ o → MeetIs f c to (meet f c to)
    by_top None e = subst (MeetIs f c to) (sym (ap (meet_under f c to) e)) (heap_is f c to h e (has_cone f c h))
    by_top (Some top) e = gone (a_bottom top e) (ap (meet_under f c to) e)

module _ (f : Facts) (to : HeapType) where
  -- where all of a cone is at or below the heap type, the greater cone reaches up to it, or is there too
  record ReachesTo (a : HeapType) (i : ℕ) (b : HeapType) (e : ℕ) (j : ℕ) : Type 0 where
    edges : ℕ
    is : distance f.types b to ≡ Some edges
    apart : edges + j + i ≤ e

  between : (a : HeapType) (i : ℕ) (b : HeapType) (e j : ℕ) → Steps f a i b e → distance f.types to a ≡ Some j → distance f.types to b ≡ None → ReachesTo a i b e j
  between a i b e j s h n =
      elim (cases_lt j s.edges) as (λ _. ReachesTo a i b e j) [
        | inl l ↦ let r = s.room in record { edges = s.edges - j; is = distance_between f.types f.hold a to b j s.edges h s.far (omega arith); apart = omega arith }
        | inr l ↦ absurd (some_none (distance f.types to b) (j - s.edges) n (distance_between f.types f.hold a b to s.edges j s.far h l))
      ]

  inside_gone : (a : HeapType) (i : ℕ) (b : HeapType) (e j : ℕ) → Steps f a i b e → distance f.types to a ≡ Some j → Outside f to b e → ⊥
  inside_gone a i b e j s h o = let w = between a i b e j s h o.missed in let l = o.far w.edges w.is in let m = w.apart in omega arith

  part_gone : (a : HeapType) (i : ℕ) (b : HeapType) (e j : ℕ) → Steps f a i b e → distance f.types a to ≡ Some j → j ≤ i → Outside f to b e → ⊥
  part_gone a i b e j s h k o =
      let l = o.far (j + s.edges) (distance_adds f.types f.hold to a b j s.edges h s.far) in
      let r = s.room in
      omega arith

  part_inside : (a : HeapType) (i : ℕ) (b : HeapType) (e j : ℕ) → Steps f a i b e → distance f.types to b ≡ Some j → distance f.types to a ≡ None → ⊥
  part_inside a i b e j s h n = some_none (distance f.types to a) (s.edges + j) n (distance_adds f.types f.hold a b to s.edges j s.far h)

  pub part_cone : (i : ℕ) → IsHeapOf f.types to → IsNoBottom to → IsCone f (least_index f.types to) (min i (height f.types to))
  part_cone i h n =
      let l = height_named f.types f.hold (least_index f.types to) to (least_name f.types to) in
      record { is_heap = least_in_range f.types to h; no_bottom = least_no_bottom f.types to n; least = least_heap f.types to; capped = omega arith }

  module _ (c d : Core) (is_heap : IsHeapOf f.types to) (below : LiesIn f c d) where
    steps_here : (a : HeapType) (i : ℕ) (b : HeapType) (e : ℕ) → StandsFor f c a i → StandsFor f d b e → Steps f a i b e
    steps_here a i b e s t = steps f c d a i b e s t (lies below)

    above_stands : d ≡ Bottom → ⊥
    above_stands e = let z : Bottom ≡ Cone below.above below.deep = sym e ∙ below.outer in cc

    inside_in_part : (m n : Core) (p : Inside f c to) (q : Partly f d to) → m ≡ c → n ≡ part_of f d to q → LiesIn f m n
    inside_in_part m n p q x y =
        let s = steps_here p.a p.i q.a q.i p.stands q.stands in
        let w = between p.a p.i q.a q.i p.edges s p.is q.missed in
        let v = same_edges (distance f.types q.a to) q.edges w.edges q.is w.is in
        let u = w.apart in
        let l = height_adds f.types f.hold to p.a p.edges (is_head f p.a p.i p.stands.cone) p.is in
        let k = p.stands.cone.capped in
        record {
          head = p.a;
          depth = p.i;
          inner = subst (λ z. StandsFor f z p.a p.i) (sym x) p.stands;
          above = least_index f.types to;
          deep = min (q.i - q.edges) (height f.types to);
          outer = y;
          edges = p.edges;
          far = least_above f to p.a ∙ p.is;
          room = omega arith;
        }

    part_in_part : (m n : Core) (p : Partly f c to) (q : Partly f d to) → m ≡ part_of f c to p → n ≡ part_of f d to q → LiesIn f m n
    part_in_part m n p q x y =
        let s = steps_here p.a p.i q.a q.i p.stands q.stands in
        let v = same_edges (distance f.types q.a to) q.edges (p.edges + s.edges) q.is (distance_adds f.types f.hold to p.a q.a p.edges s.edges p.is s.far) in
        let r = s.room in
        record {
          head = least_index f.types to;
          depth = min (p.i - p.edges) (height f.types to);
          inner = record { is = ap (cone_of f) x; cone = part_cone (p.i - p.edges) is_heap p.no_bottom };
          above = least_index f.types to;
          deep = min (q.i - q.edges) (height f.types to);
          outer = y;
          edges = 0;
          far = distance_self f.types f.hold (least_index f.types to);
          room = omega arith;
        }

    no_bottom_twice : (top : Abs) → top_over to ≡ Some top → IsNoBottom to → ⊥
    no_bottom_twice top e n = let z : None ≡ Some top = sym n ∙ e in cc

    gone_too : (m n : Core) → Gone f d to → MeetIs f c to m → CoreBelow f m n
    gone_too m n g (gone h e) = least e
    gone_too m n (a_bottom top k) (inside p e) = absurd (no_bottom_twice top k p.no_bottom)
    gone_too m n (no_core k) (inside p e) = absurd (above_stands k)
    gone_too m n (outside b e t o) (inside p h) = absurd (inside_gone p.a p.i b e p.edges (steps_here p.a p.i b e p.stands t) p.is o)
    gone_too m n (a_bottom top k) (partly p e) = absurd (no_bottom_twice top k p.no_bottom)
    gone_too m n (no_core k) (partly p e) = absurd (above_stands k)
    gone_too m n (outside b e t o) (partly p h) = absurd (part_gone p.a p.i b e p.edges (steps_here p.a p.i b e p.stands t) p.is p.within o)

    pub lying_meets : (m n : Core) → MeetIs f c to m → MeetIs f d to n → CoreBelow f m n
    lying_meets m n h (gone g e) = gone_too m n g h
    lying_meets m n (gone g e) k = least e
    lying_meets m n (inside p e) (inside q h) = subst (CoreBelow f m) (sym h) (subst (λ x. CoreBelow f x d) (sym e) (lies below))
    lying_meets m n (partly p e) (inside q h) = absurd (part_inside p.a p.i q.a q.i q.edges (steps_here p.a p.i q.a q.i p.stands q.stands) q.is p.missed)
    lying_meets m n (inside p e) (partly q h) = lies (inside_in_part m n p q e h)
    lying_meets m n (partly p e) (partly q h) = lies (part_in_part m n p q e h)

pub bottom_meet : (f : Facts) (to : HeapType) → meet f Bottom to ≡ Bottom
unfolding meet
bottom_meet f to = by_top (top_over to)
  where
    by_top : (o : Option Abs) → meet_under f Bottom to o ≡ Bottom
    by_top None = refl
    by_top (Some top) = refl

-- of a greater core no less is at or below a heap type
pub meet_rises : (f : Facts) (to : HeapType) (c d : Core) → IsHeapOf f.types to → CoreBelongs f c → CoreBelongs f d → CoreBelow f c d → CoreBelow f (meet f c to) (meet f d to)
meet_rises f to c d h i j (least e) = least (ap (λ x. meet f x to) e ∙ bottom_meet f to)
meet_rises f to c d h i j (same e) = same (ap (λ x. meet f x to) e)
meet_rises f to c d h i j (lies l) = lying_meets f to c d h l (meet f c to) (meet f d to) (meet_is f c to i) (meet_is f d to j)
