-- A comparison of greater contents answers no less.
use Rattle.std.proofs.Common.{◌≡◌, ℕ, Bool, true, false, not, ◌&&◌, ◌||◌, if◌then◌else◌, refl, ap, ap₂, sym, ◌∙◌, subst, arith, true≢false}
use Rattle.gu_types.specs.declared.types.HeapType.{HeapType}
use Rattle.gu_types.specs.declared.types.TypeList.{TypeList}
use Rattle.gu_rec.specs.Sub.{distance}
use Rattle.gu_rec.proofs.Same.{left_of, right_of, both_of}
use Rattle.gu_contents.specs.declared.content.Core.{Core}
use Rattle.gu_contents.specs.declared.content.Core.TheVariants.{Bottom, Func, Global, Cone}
use Rattle.gu_contents.specs.declared.content.Content.{Content}
use Rattle.gu_contents.specs.declared.content.Content.TheVariants.{Empty, I32, I64, NumGlobal, Many, Ref, Top}
use Rattle.gu_contents.specs.declared.facts.Facts.{Facts}
use Rattle.gu_contents.specs.Contents.{cone_of, eq_core}
use Rattle.gu_contents.specs.Meets.{cones_apart, apart, equal_refs, equal_cores, equal as equal_of}
use Rattle.gu_contents.specs.Belongs.{CoreBelongs, Occurs, Belongs}
use Rattle.gu_contents.proofs.Heaps.{distance_self}
use Rattle.gu_contents.proofs.Lattice.{core_sound, core_own, StandsFor, HasCone, none, some, has_cone, CoreBelow, least, same, lies, is_number, Below, nothing, everything, equal, number, refs}
use Rattle.gu_contents.proofs.JoinLaw.{stands_no_bottom, own_null}
use Rattle.gu_contents.proofs.MonotoneMeets.{steps}
use Rattle.gu_contents.proofs.Monotone.{below_bottom, below_empty}
use Rattle.gu_contents.proofs.MonotoneAnswers.{IsAnswer, no_answer, an_answer, answers_below, Touch, over, touch_grows, far_touch, touch_near}

second_none : (list : TypeList) (x : Core) → cones_apart list x Bottom ≡ true
second_none list Bottom = refl
second_none list (Func g) = refl
second_none list (Global g) = refl
second_none list (Cone a i) = refl

-- cores that are apart, of which each is at most another, are apart where the others are
module _ (f : Facts) (c c' d d' : Core) (c_in : CoreBelongs f c) (c'_in : CoreBelongs f c') (d_in : CoreBelongs f d) (d'_in : CoreBelongs f d') (c_below : CoreBelow f c c') (d_below : CoreBelow f d d') (distinct : apart f c' d' ≡ true) where
  stand_apart : (a : HeapType) (i : ℕ) (b : HeapType) (e : ℕ) → StandsFor f c a i → StandsFor f d b e → HasCone f c' → HasCone f d' → Touch f a i b e → ⊥
  stand_apart a i b e s t (none h) k u = stands_no_bottom f c a i s (below_bottom f c c' c_below h)
  stand_apart a i b e s t h (none k) u = stands_no_bottom f d b e t (below_bottom f d d' d_below k)
  stand_apart a i b e s t (some p j v) (some q l w) u =
      touch_near f p j q l (distance f.types p q) (distance f.types q p) refl refl
      (touch_grows f a i b e p j q l (steps f c c' a i p j s v c_below) (steps f d d' b e q l t w d_below) u)
      (sym (ap₂ (cones_apart f.types) v.is w.is) ∙ distinct)

  by_cones : HasCone f c → HasCone f d → (b : Bool) → apart f c d ≡ b → apart f c d ≡ true
  by_cones h k true e = e
  by_cones (none h) k false e = ap (λ x. cones_apart f.types (cone_of f x) (cone_of f d)) h
  by_cones (some a i s) (none k) false e = ap (λ x. cones_apart f.types (cone_of f c) (cone_of f x)) k ∙ second_none f.types (cone_of f c)
  by_cones (some a i s) (some b j t) false e =
      absurd (stand_apart a i b j s t (has_cone f c' c'_in) (has_cone f d' d'_in)
      (far_touch f a i b j (distance f.types a b) (distance f.types b a) refl refl (sym (ap₂ (cones_apart f.types) s.is t.is) ∙ e)))

  apart_down : apart f c d ≡ true
  apart_down = by_cones (has_cone f c c_in) (has_cone f d d_in) (apart f c d) refl

-- no core that stands for a cone is apart from itself
self_apart : (f : Facts) (c : Core) (a : HeapType) (i : ℕ) → StandsFor f c a i → apart f c c ≡ true → ⊥
self_apart f c a i s h =
    touch_near f a i a i (distance f.types a a) (distance f.types a a) refl refl (over 0 (distance_self f.types f.hold a) (omega arith))
    (sym (ap₂ (cones_apart f.types) s.is s.is) ∙ h)

-- both contents hold one value, and the same
data One (a b : Content) : Type 0 where
  both_null : a ≡ Ref true Bottom → b ≡ Ref true Bottom → One a b
  one_global : (g : ℕ) → a ≡ Ref false (Global g) → b ≡ Ref false (Global g) → One a b

-- both contents hold references, not both null, and no other that is in both
record Apart (f : Facts) (a b : Content) : Type 0 where
  n : Bool
  c : Core
  m : Bool
  d : Core
  first : a ≡ Ref n c
  second : b ≡ Ref m d
  nulls : not (n && m) ≡ true
  cores : apart f c d ≡ true

-- what a comparison answers
data EqualIs (f : Facts) (a b r : Content) : Type 0 where
  first_nothing : a ≡ Empty → r ≡ Empty → EqualIs f a b r
  second_nothing : b ≡ Empty → r ≡ Empty → EqualIs f a b r
  the_same : One a b → r ≡ I32 1 → EqualIs f a b r
  different : Apart f a b → (One a b → ⊥) → r ≡ I32 0 → EqualIs f a b r
  either : (a ≡ Empty → ⊥) → (b ≡ Empty → ⊥) → (One a b → ⊥) → (Apart f a b → ⊥) → r ≡ Many → EqualIs f a b r

abbrev is_one : Bool → Core → Bool → Core → Bool
is_one true Bottom true Bottom = true
is_one false (Global g) false (Global h) = eq_core (Global g) (Global h)
is_one n c m d = false

one_is : (n m : Bool) (c d : Core) → One (Ref n c) (Ref m d) → is_one n c m d ≡ true
one_is n m c d (both_null p q) =
    let x : n ≡ true = cc in
    let y : c ≡ Bottom = cc in
    let z : m ≡ true = cc in
    let w : d ≡ Bottom = cc in
    λ i. is_one (x i) (y i) (z i) (w i)
one_is n m c d (one_global g p q) =
    let x : n ≡ false = cc in
    let y : c ≡ Global g = cc in
    let z : m ≡ false = cc in
    let w : d ≡ Global g = cc in
    let e : is_one n c m d ≡ eq_core (Global g) (Global g) = λ i. is_one (x i) (y i) (z i) (w i) in
    e ∙ core_own (Global g)

apart_refs : (f : Facts) (n m : Bool) (c d : Core) → Apart f (Ref n c) (Ref m d) → (not (n && m) && apart f c d) ≡ true
apart_refs f n m c d p =
    let q : Ref n c ≡ Ref p.n p.c = p.first in
    let r : Ref m d ≡ Ref p.m p.d = p.second in
    let x : n ≡ p.n = cc in
    let y : c ≡ p.c = cc in
    let z : m ≡ p.m = cc in
    let w : d ≡ p.d = cc in
    let e : (not (n && m) && apart f c d) ≡ (not (p.n && p.m) && apart f p.c p.d) = λ i. not (x i && z i) && apart f (y i) (w i) in
    e ∙ both_of (not (p.n && p.m)) (apart f p.c p.d) p.nulls p.cores

refs_equal : (f : Facts) (n m : Bool) (c d : Core) → is_one n c m d ≡ false → EqualIs f (Ref n c) (Ref m d) (equal_refs f n c m d)
refs_equal f n m c d h = by_test (not (n && m) && apart f c d) refl
  where
    no_one : One (Ref n c) (Ref m d) → ⊥
    no_one o = true≢false (sym (one_is n m c d o) ∙ h)

    by_test : (v : Bool) → (not (n && m) && apart f c d) ≡ v → EqualIs f (Ref n c) (Ref m d) (equal_refs f n c m d)
    by_test true e =
        different (record { n = n; c = c; m = m; d = d; first = refl; second = refl; nulls = left_of (not (n && m)) (apart f c d) e; cores = right_of (not (n && m)) (apart f c d) e }) no_one (ap (λ v. if v then I32 0 else Many) e)
    by_test false e =
        either (λ q. cc) (λ q. cc) no_one (λ p. true≢false (sym (apart_refs f n m c d p) ∙ e)) (ap (λ v. if v then I32 0 else Many) e)

globals_equal : (f : Facts) (g h : ℕ) (v : Bool) → eq_core (Global g) (Global h) ≡ v → EqualIs f (Ref false (Global g)) (Ref false (Global h)) (if v then I32 1 else equal_refs f false (Global g) false (Global h))
globals_equal f g h true e = the_same (one_global h (ap (Ref false) (core_sound (Global g) (Global h) e)) refl) refl
globals_equal f g h false e = refs_equal f false false (Global g) (Global h) e

cores_equal : (f : Facts) (n : Bool) (c : Core) (m : Bool) (d : Core) → EqualIs f (Ref n c) (Ref m d) (equal_cores f n c m d)
cores_equal f true Bottom true Bottom = the_same (both_null refl refl) refl
cores_equal f false (Global g) false (Global h) = globals_equal f g h (eq_core (Global g) (Global h)) refl
cores_equal f n c m d = refs_equal f n m c d refl

abbrev is_ref : Content → Bool
is_ref (Ref n c) = true
is_ref _ = false

one_refs : (a b : Content) → One a b → (is_ref a && is_ref b) ≡ true
one_refs a b (both_null p q) = ap₂ (λ x y. is_ref x && is_ref y) p q
one_refs a b (one_global g p q) = ap₂ (λ x y. is_ref x && is_ref y) p q

not_refs : (f : Facts) (a b : Content) → (a ≡ Empty → ⊥) → (b ≡ Empty → ⊥) → (is_ref a && is_ref b) ≡ false → EqualIs f a b Many
not_refs f a b h k e =
    either h k (λ o. true≢false (sym (one_refs a b o) ∙ e)) (λ p. true≢false (sym (ap₂ (λ x y. is_ref x && is_ref y) p.first p.second) ∙ e)) refl

second_empty : (f : Facts) (a : Content) → equal_of f a Empty ≡ Empty
unfolding equal_of
second_empty f Empty = refl
second_empty f (I32 v) = refl
second_empty f (I64 v) = refl
second_empty f (NumGlobal g) = refl
second_empty f Many = refl
second_empty f (Ref n c) = refl
second_empty f Top = refl

equal_is : (f : Facts) (a b : Content) → EqualIs f a b (equal_of f a b)
unfolding equal_of
equal_is f Empty b = first_nothing refl refl
equal_is f a Empty = second_nothing refl (second_empty f a)
equal_is f (Ref n c) (Ref m d) = cores_equal f n c m d
equal_is f a b = not_refs f a b (λ e. cc) (λ e. cc) refl

answers : (f : Facts) (a b r : Content) → EqualIs f a b r → IsAnswer r
answers f a b r (first_nothing e h) = no_answer h
answers f a b r (second_nothing e h) = no_answer h
answers f a b r (the_same o h) = an_answer (ap is_number h)
answers f a b r (different p n h) = an_answer (ap is_number h)
answers f a b r (either p q n m h) = an_answer (ap is_number h)

-- references below others
record Under (f : Facts) (a : Content) (m : Bool) (d : Core) : Type 0 where
  n : Bool
  c : Core
  is : a ≡ Ref n c
  nulls : (not n || m) ≡ true
  cores : CoreBelow f c d

refs_under : (f : Facts) (a b : Content) (m : Bool) (d : Core) → Below f a b → (a ≡ Empty → ⊥) → b ≡ Ref m d → Under f a m d
refs_under f a b m d (nothing e) h k = absurd (h e)
refs_under f a b m d (everything e) h k = absurd (no_top e k)
  where
    no_top : b ≡ Top → b ≡ Ref m d → ⊥
    no_top e k = cc
refs_under f a b m d (equal e) h k = record { n = m; c = d; is = e ∙ k; nulls = own_null m; cores = same refl }
refs_under f a b m d (number n e) h k = absurd (no_many e k)
  where
    no_many : b ≡ Many → b ≡ Ref m d → ⊥
    no_many e k = cc
refs_under f a b m d (refs r) h k =
    let q : Ref r.null_above r.core_above ≡ Ref m d = sym r.second ∙ k in
    let p : r.null_above ≡ m = cc in
    let s : r.core_above ≡ d = cc in
    record { n = r.null; c = r.core; is = r.first; nulls = ap (λ x. not r.null || x) (sym p) ∙ r.nulls; cores = subst (CoreBelow f r.core) s r.cores }

under_null : (f : Facts) (a : Content) → Belongs f a → Under f a true Bottom → a ≡ Ref true Bottom
under_null f a i u = by_null u.n refl (subst (Belongs f) u.is i)
  where
    nothing_there : u.c ≡ Bottom
    nothing_there = below_bottom f u.c Bottom u.cores refl

    by_null : (n : Bool) → u.n ≡ n → Belongs f (Ref u.n u.c) → a ≡ Ref true Bottom
    by_null true e j = u.is ∙ ap₂ Ref e nothing_there
    by_null false e j = absurd (subst (λ c. Occurs false c) nothing_there (subst (λ n. Occurs n u.c) e j.0))

no_true : (n : Bool) → (not n || false) ≡ true → n ≡ false
no_true false h = refl
no_true true h = cc

under_global : (f : Facts) (a : Content) (g : ℕ) → Belongs f a → Under f a false (Global g) → a ≡ Ref false (Global g)
under_global f a g i u = by_core u.cores (subst (Belongs f) u.is i)
  where
    no_null : u.n ≡ false
    no_null = no_true u.n u.nulls

    by_core : CoreBelow f u.c (Global g) → Belongs f (Ref u.n u.c) → a ≡ Ref false (Global g)
    by_core (least e) j = absurd (subst (λ c. Occurs false c) e (subst (λ n. Occurs n u.c) no_null j.0))
    by_core (same e) j = u.is ∙ ap₂ Ref no_null e
    by_core (lies l) j = let z : Global g ≡ Cone l.above l.deep = l.outer in cc

one_down : (f : Facts) (a a' b b' : Content) → Belongs f a → Belongs f b → Below f a a' → Below f b b' → (a ≡ Empty → ⊥) → (b ≡ Empty → ⊥) → One a' b' → One a b
one_down f a a' b b' i j h k p q (both_null x y) = both_null (under_null f a i (refs_under f a a' true Bottom h p x)) (under_null f b j (refs_under f b b' true Bottom k q y))
one_down f a a' b b' i j h k p q (one_global g x y) = one_global g (under_global f a g i (refs_under f a a' false (Global g) h p x)) (under_global f b g j (refs_under f b b' false (Global g) k q y))

nulls_down : (n m n' m' : Bool) → (not n || n') ≡ true → (not m || m') ≡ true → not (n' && m') ≡ true → not (n && m) ≡ true
nulls_down false m n' m' h k e = refl
nulls_down true false n' m' h k e = refl
nulls_down true true true true h k e = e
nulls_down true true false m' h k e = cc
nulls_down true true true false h k e = cc

not_empty : (n : Bool) (c : Core) (a : Content) → a ≡ Ref n c → a ≡ Empty → ⊥
not_empty n c a h k = cc

module _ (f : Facts) (a a' b b' : Content) (a_in : Belongs f a) (a'_in : Belongs f a') (b_in : Belongs f b) (b'_in : Belongs f b') (a_below : Below f a a') (b_below : Below f b b') where
  apart_below : Apart f a' b' → (a ≡ Empty → ⊥) → (b ≡ Empty → ⊥) → Apart f a b
  apart_below p h k =
      let u = refs_under f a a' p.n p.c a_below h p.first in
      let v = refs_under f b b' p.m p.d b_below k p.second in
      let i : Belongs f (Ref u.n u.c) = subst (Belongs f) u.is a_in in
      let j : Belongs f (Ref v.n v.c) = subst (Belongs f) v.is b_in in
      let i' : Belongs f (Ref p.n p.c) = subst (Belongs f) p.first a'_in in
      let j' : Belongs f (Ref p.m p.d) = subst (Belongs f) p.second b'_in in
      record {
        n = u.n;
        c = u.c;
        m = v.n;
        d = v.c;
        first = u.is;
        second = v.is;
        nulls = nulls_down u.n v.n p.n p.m u.nulls v.nulls p.nulls;
        cores = apart_down f u.c p.c v.c p.d i.1 i'.1 j.1 j'.1 u.cores v.cores p.cores;
      }

  one_not_apart : One a b → Apart f a b → ⊥
  one_not_apart (both_null x y) p =
      let q : Ref p.n p.c ≡ Ref true Bottom = sym p.first ∙ x in
      let r : Ref p.m p.d ≡ Ref true Bottom = sym p.second ∙ y in
      let n : p.n ≡ true = cc in
      let m : p.m ≡ true = cc in
      let z : false ≡ true = ap₂ (λ v w. not (v && w)) (sym n) (sym m) ∙ p.nulls in
      cc
  one_not_apart (one_global g x y) p = by_cone (has_cone f (Global g) i.1)
    where
      i : Belongs f (Ref false (Global g))
      i = subst (Belongs f) x a_in

      first_core : p.c ≡ Global g
      first_core = let q : Ref p.n p.c ≡ Ref false (Global g) = sym p.first ∙ x in cc

      second_core : p.d ≡ Global g
      second_core = let q : Ref p.m p.d ≡ Ref false (Global g) = sym p.second ∙ y in cc

      by_cone : HasCone f (Global g) → ⊥
      by_cone (none e) = cc
      by_cone (some h d s) = self_apart f (Global g) h d s (ap₂ (apart f) (sym first_core) (sym second_core) ∙ p.cores)

  one_left : One a b → a ≡ Empty → ⊥
  one_left (both_null x y) e = not_empty true Bottom a x e
  one_left (one_global g x y) e = not_empty false (Global g) a x e

  one_right : One a b → b ≡ Empty → ⊥
  one_right (both_null x y) e = not_empty true Bottom b y e
  one_right (one_global g x y) e = not_empty false (Global g) b y e

  first_empty : (r : Content) → EqualIs f a b r → a ≡ Empty → r ≡ Empty
  first_empty r (first_nothing e h) k = h
  first_empty r (second_nothing e h) k = h
  first_empty r (the_same o h) k = absurd (one_left o k)
  first_empty r (different p n h) k = absurd (not_empty p.n p.c a p.first k)
  first_empty r (either p q n m h) k = absurd (p k)

  empty_second : (r : Content) → EqualIs f a b r → b ≡ Empty → r ≡ Empty
  empty_second r (first_nothing e h) k = h
  empty_second r (second_nothing e h) k = h
  empty_second r (the_same o h) k = absurd (one_right o k)
  empty_second r (different p n h) k = absurd (not_empty p.m p.d b p.second k)
  empty_second r (either p q n m h) k = absurd (q k)

  the_same_below : (r r' : Content) → EqualIs f a b r → One a' b' → r' ≡ I32 1 → Below f r r'
  the_same_below r r' (first_nothing e h) o g = nothing h
  the_same_below r r' (second_nothing e h) o g = nothing h
  the_same_below r r' (the_same p h) o g = equal (h ∙ sym g)
  the_same_below r r' (different p n h) o g = absurd (n (one_down f a a' b b' a_in b_in a_below b_below (not_empty p.n p.c a p.first) (not_empty p.m p.d b p.second) o))
  the_same_below r r' (either p q n m h) o g = absurd (n (one_down f a a' b b' a_in b_in a_below b_below p q o))

  different_below : (r r' : Content) → EqualIs f a b r → Apart f a' b' → r' ≡ I32 0 → Below f r r'
  different_below r r' (first_nothing e h) p g = nothing h
  different_below r r' (second_nothing e h) p g = nothing h
  different_below r r' (the_same o h) p g = absurd (one_not_apart o (apart_below p (one_left o) (one_right o)))
  different_below r r' (different q n h) p g = equal (h ∙ sym g)
  different_below r r' (either x y n m h) p g = absurd (m (apart_below p x y))

  equals_rise : (r r' : Content) → (a' ≡ Empty → a ≡ Empty) → (b' ≡ Empty → b ≡ Empty) → EqualIs f a b r → EqualIs f a' b' r' → Below f r r'
  equals_rise r r' x y h (first_nothing e g) = nothing (first_empty r h (x e))
  equals_rise r r' x y h (second_nothing e g) = nothing (empty_second r h (y e))
  equals_rise r r' x y h (the_same o g) = the_same_below r r' h o g
  equals_rise r r' x y h (different p n g) = different_below r r' h p g
  equals_rise r r' x y h (either p q n m g) = answers_below f r r' (answers f a b r h) g

pub equal_rises : (f : Facts) (a a' b b' : Content) → Belongs f a → Belongs f a' → Belongs f b → Belongs f b' → Below f a a' → Below f b b' → Below f (equal_of f a b) (equal_of f a' b')
equal_rises f a a' b b' i i' j j' h k =
    equals_rise f a a' b b' i i' j j' h k (equal_of f a b) (equal_of f a' b') (below_empty f a a' h) (below_empty f b b' k) (equal_is f a b) (equal_is f a' b')
