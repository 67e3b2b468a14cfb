-- A greater content is no less where it is compared, stored in a packed field, or read from one.
use Rattle.std.proofs.Common.{◌≡◌, ℕ, ◌+◌, ◌-◌, ◌≤◌, Bool, true, false, not, ◌||◌, Option, Some, None, refl, ap, sym, ◌∙◌, subst, inl, inr, arith, true≢false, ltb-true}
use Rattle.std.specs.Prelude.{nat_lt}
use Rattle.std.proofs.lemmas.Bool.{cases_lt, lt-ltb}
use Rattle.gu_types.specs.declared.types.HeapType.{HeapType}
use Rattle.gu_types.specs.declared.types.Storage.{Storage}
use Rattle.gu_types.specs.declared.types.Storage.TheVariants as S
use Rattle.gu_rec.specs.Sub.{distance}
use Rattle.gu_contents.specs.declared.content.Core.{Core}
use Rattle.gu_contents.specs.declared.content.Core.TheVariants.{Bottom, Func, Global, Cone}
use Rattle.gu_contents.specs.declared.content.Content.{Content}
use Rattle.gu_contents.specs.declared.content.Content.TheVariants.{Empty, I32, I64, NumGlobal, Many, Ref, Top}
use Rattle.gu_contents.specs.declared.facts.Facts.{Facts}
use Rattle.gu_contents.specs.Meets.{is_null, far_apart}
use Rattle.gu_contents.specs.Numbers.{pack_to, pack, extend}
use Rattle.gu_contents.specs.Belongs.{Occurs, Belongs}
use Rattle.gu_contents.proofs.Heaps.{distance_adds, distance_between, distance_back}
use Rattle.gu_contents.proofs.Lattice.{CoreBelow, is_number, Below, nothing, everything, equal, number, refs}
use Rattle.gu_contents.proofs.MonotoneMeets.{Steps, some_none}
use Rattle.gu_contents.proofs.Monotone.{below_bottom}

-- an answer of a comparison of more values allows every other answer
pub data IsAnswer (a : Content) : Type 0 where
  no_answer : a ≡ Empty → IsAnswer a
  an_answer : is_number a ≡ true → IsAnswer a

pub answers_below : (f : Facts) (a b : Content) → IsAnswer a → b ≡ Many → Below f a b
answers_below f a b (no_answer e) h = nothing e
answers_below f a b (an_answer n) h = number n h

null_answers : (a : Content) → IsAnswer (is_null a)
unfolding is_null
null_answers Empty = no_answer refl
null_answers (I32 v) = an_answer refl
null_answers (I64 v) = an_answer refl
null_answers (NumGlobal g) = an_answer refl
null_answers Many = an_answer refl
null_answers (Ref true Bottom) = an_answer refl
null_answers (Ref true (Func g)) = an_answer refl
null_answers (Ref true (Global g)) = an_answer refl
null_answers (Ref true (Cone a i)) = an_answer refl
null_answers (Ref false Bottom) = an_answer refl
null_answers (Ref false (Func g)) = an_answer refl
null_answers (Ref false (Global g)) = an_answer refl
null_answers (Ref false (Cone a i)) = an_answer refl
null_answers Top = an_answer refl

null_empty : is_null Empty ≡ Empty
unfolding is_null
null_empty = refl

null_top : is_null Top ≡ Many
unfolding is_null
null_top = refl

null_number : (a : Content) → is_number a ≡ true → is_null a ≡ I32 0
unfolding is_null
null_number Empty h = cc
null_number (I32 v) h = refl
null_number (I64 v) h = refl
null_number (NumGlobal g) h = refl
null_number Many h = refl
null_number (Ref n c) h = cc
null_number Top h = cc

no_null_there : (c : Core) → is_null (Ref false c) ≡ I32 0
unfolding is_null
no_null_there Bottom = refl
no_null_there (Func g) = refl
no_null_there (Global g) = refl
no_null_there (Cone a i) = refl

null_refs : (f : Facts) (n m : Bool) (c d : Core) → Occurs n c → (not n || m) ≡ true → CoreBelow f c d → Below f (is_null (Ref n c)) (is_null (Ref m d))
unfolding is_null
null_refs f false false c d o h k = equal (no_null_there c ∙ sym (no_null_there d))
null_refs f true false c d o h k = cc
null_refs f n true c (Func g) o h k = answers_below f (is_null (Ref n c)) Many (null_answers (Ref n c)) refl
null_refs f n true c (Global g) o h k = answers_below f (is_null (Ref n c)) Many (null_answers (Ref n c)) refl
null_refs f n true c (Cone a i) o h k = answers_below f (is_null (Ref n c)) Many (null_answers (Ref n c)) refl
null_refs f true true c Bottom o h k = equal (ap (λ x. is_null (Ref true x)) (below_bottom f c Bottom k refl))
null_refs f false true c Bottom o h k = absurd (subst (Occurs false) (below_bottom f c Bottom k refl) o)

pub null_rises : (f : Facts) (a b : Content) → Belongs f a → Below f a b → Below f (is_null a) (is_null b)
null_rises f a b i (nothing e) = nothing (ap is_null e ∙ null_empty)
null_rises f a b i (everything e) = answers_below f (is_null a) (is_null b) (null_answers a) (ap is_null e ∙ null_top)
null_rises f a b i (equal e) = equal (ap is_null e)
null_rises f a b i (number n e) = equal (null_number a n ∙ sym (ap is_null e ∙ null_number Many refl))
null_rises f a b i (refs r) =
    let x : Belongs f (Ref r.null r.core) = subst (Belongs f) r.first i in
    let m = null_refs f r.null r.null_above r.core r.core_above x.0 r.nulls r.cores in
    subst (λ z. Below f z (is_null b)) (sym (ap is_null r.first)) (subst (Below f (is_null (Ref r.null r.core))) (sym (ap is_null r.second)) m)

pack_to_number : (bits : ℕ) (a : Content) → is_number a ≡ true → is_number (pack_to bits a) ≡ true
pack_to_number bits Empty h = cc
pack_to_number bits (I32 v) h = refl
pack_to_number bits (I64 v) h = refl
pack_to_number bits (NumGlobal g) h = refl
pack_to_number bits Many h = refl
pack_to_number bits (Ref n c) h = cc
pack_to_number bits Top h = cc

pack_to_rises : (f : Facts) (bits : ℕ) (a b : Content) → Below f a b → Below f (pack_to bits a) (pack_to bits b)
pack_to_rises f bits a b (nothing e) = nothing (ap (pack_to bits) e)
pack_to_rises f bits a b (everything e) = everything (ap (pack_to bits) e)
pack_to_rises f bits a b (equal e) = equal (ap (pack_to bits) e)
pack_to_rises f bits a b (number n e) = number (pack_to_number bits a n) (ap (pack_to bits) e)
pack_to_rises f bits a b (refs r) = refs (record { null = r.null; core = r.core; null_above = r.null_above; core_above = r.core_above; first = ap (pack_to bits) r.first; second = ap (pack_to bits) r.second; nulls = r.nulls; cores = r.cores })

pub pack_rises : (f : Facts) (s : Storage) (a b : Content) → Below f a b → Below f (pack s a) (pack s b)
unfolding pack
pack_rises f S.I8 a b h = pack_to_rises f 8 a b h
pack_rises f S.I16 a b h = pack_to_rises f 16 a b h
pack_rises f (S.Val ty) a b h = h

extend_number : (s : Storage) (sign : Bool) (a : Content) → is_number a ≡ true → is_number (extend s sign a) ≡ true
unfolding extend
extend_number s sign Empty h = cc
extend_number s sign (I32 v) h = refl
extend_number s sign (I64 v) h = refl
extend_number s sign (NumGlobal g) h = refl
extend_number s sign Many h = refl
extend_number s sign (Ref n c) h = cc
extend_number s sign Top h = cc

pub extend_rises : (f : Facts) (s : Storage) (sign : Bool) (a b : Content) → Below f a b → Below f (extend s sign a) (extend s sign b)
unfolding extend
extend_rises f s sign a b (nothing e) = nothing (ap (extend s sign) e)
extend_rises f s sign a b (everything e) = everything (ap (extend s sign) e)
extend_rises f s sign a b (equal e) = equal (ap (extend s sign) e)
extend_rises f s sign a b (number n e) = number (extend_number s sign a n) (ap (extend s sign) e)
extend_rises f s sign a b (refs r) = refs (record { null = r.null; core = r.core; null_above = r.null_above; core_above = r.core_above; first = ap (extend s sign) r.first; second = ap (extend s sign) r.second; nulls = r.nulls; cores = r.cores })

-- some value can be in two cones, as far as their heads and depths tell
pub data Touch (f : Facts) (a : HeapType) (i : ℕ) (b : HeapType) (e : ℕ) : Type 0 where
  over : (k : ℕ) → distance f.types a b ≡ Some k → k ≤ i → Touch f a i b e
  under : (k : ℕ) → distance f.types b a ≡ Some k → k ≤ e → Touch f a i b e

turned : (f : Facts) (a : HeapType) (i : ℕ) (b : HeapType) (e : ℕ) → Touch f a i b e → Touch f b e a i
turned f a i b e (over k h l) = under k h l
turned f a i b e (under k h l) = over k h l

-- where the first head is above the second, and both cones grow, some value still can
over_grows : (f : Facts) (a : HeapType) (i : ℕ) (b : HeapType) (e : ℕ) (a' : HeapType) (i' : ℕ) (b' : HeapType) (e' k : ℕ) → Steps f a i a' i' → Steps f b e b' e' → distance f.types a b ≡ Some k → k ≤ i → Touch f a' i' b' e'
over_grows f a i b e a' i' b' e' k s t h l =
    let far = distance_adds f.types f.hold b a a' k s.edges h s.far in
    let m = s.room in
    let n = t.room in
    elim (cases_lt (k + s.edges) t.edges) as (λ _. Touch f a' i' b' e') [
      | inl w ↦ under (t.edges - (k + s.edges)) (distance_between f.types f.hold b a' b' (k + s.edges) t.edges far t.far (omega arith)) (omega arith)
      | inr w ↦ over (k + s.edges - t.edges) (distance_between f.types f.hold b b' a' t.edges (k + s.edges) t.far far w) (omega arith)
    ]

pub touch_grows : (f : Facts) (a : HeapType) (i : ℕ) (b : HeapType) (e : ℕ) (a' : HeapType) (i' : ℕ) (b' : HeapType) (e' : ℕ) → Steps f a i a' i' → Steps f b e b' e' → Touch f a i b e → Touch f a' i' b' e'
touch_grows f a i b e a' i' b' e' s t (over k h l) = over_grows f a i b e a' i' b' e' k s t h l
touch_grows f a i b e a' i' b' e' s t (under k h l) = turned f b' e' a' i' (over_grows f b e a i b' e' a' i' k t s h l)

over_not_less : (i k : ℕ) → nat_lt i k ≡ false → k ≤ i
over_not_less i k h = elim (cases_lt i k) as (λ _. k ≤ i) [ inl l ↦ absurd (true≢false (sym (lt-ltb i k l) ∙ h)) | inr l ↦ l ]

-- two cones are not apart exactly where some value can be in both
pub far_touch : (f : Facts) (a : HeapType) (i : ℕ) (b : HeapType) (e : ℕ) (o p : Option ℕ) → distance f.types a b ≡ o → distance f.types b a ≡ p → far_apart i o e p ≡ false → Touch f a i b e
far_touch f a i b e (Some k) p h g n = over k h (over_not_less i k n)
far_touch f a i b e None (Some k) h g n = under k g (over_not_less e k n)
far_touch f a i b e None None h g n = absurd (true≢false n)

pub touch_near : (f : Facts) (a : HeapType) (i : ℕ) (b : HeapType) (e : ℕ) (o p : Option ℕ) → distance f.types a b ≡ o → distance f.types b a ≡ p → Touch f a i b e → far_apart i o e p ≡ true → ⊥
touch_near f a i b e (Some k) p h g (over m x l) n = let z : Some k ≡ Some m = sym h ∙ x in let q : k ≡ m = cc in let y = ltb-true i k n in omega arith
touch_near f a i b e None p h g (over m x l) n = some_none (distance f.types a b) m h x
touch_near f a i b e (Some k) p h g (under m x l) n = let z = (distance_back f.types f.hold a b m k x h).1 in let y = ltb-true i k n in omega arith
touch_near f a i b e None (Some k) h g (under m x l) n = let z : Some k ≡ Some m = sym g ∙ x in let q : k ≡ m = cc in let y = ltb-true e k n in omega arith
touch_near f a i b e None None h g (under m x l) n = some_none (distance f.types b a) m g x
