-- What is left of a content without null, and what conversions make of it: more of more.
use Rattle.std.proofs.Common.{◌≡◌, ◌≢◌, ◌⊎◌, ℕ, ◌||◌, not, Bool, true, false, List, sym, refl, subst, inl, inr, ⊎_elim, arith}
use Rattle.std.proofs.lemmas.Bool.{and_parts, and_from}
use Rattle.gu_types.specs.declared.types.Abs.TheVariants as A
use Rattle.gu_types.specs.declared.types.HeapType.TheVariants as H
use Rattle.gu_contents.specs.declared.content.Core.{Core}
use Rattle.gu_contents.specs.declared.content.Core.TheVariants.{Bottom, Func, Global, Cone}
use Rattle.gu_contents.specs.declared.content.Content.{Content}
use Rattle.gu_contents.specs.declared.content.Content.TheVariants.{Empty, I32, I64, NumGlobal, Many, Ref, Top}
use Rattle.gu_contents.specs.declared.facts.Facts.{Facts}
use Rattle.gu_contents.specs.Contents.{refs}
use Rattle.gu_contents.specs.Order.{AtMost, at_most, core_at_most, cone_at_most}
use Rattle.gu_contents.specs.Whole.{whole}
use Rattle.gu_contents.specs.Belongs.{Belongs, CoreBelongs, IsListed}
use Rattle.gu_contents.specs.Laws.{ContentsAreALattice, AnswersBelong}
use Rattle.gu_links.specs.Gives.{non_null, converted, internalised, externalised}
use Rattle.gu_links.proofs.Covering.{core_refl}

module _ (f : Facts) (lattice : ContentsAreALattice f) (answers : AnswersBelong f) where
  -- only the bottom is at most the bottom
  below_bottom : (c : Core) → CoreBelongs f c → core_at_most f c Bottom ≡ true → c ≡ Bottom
  below_bottom Bottom h e = refl
  below_bottom (Func g) h e = cc
  below_bottom (Global g) h e = let e' : cone_at_most f (Cone h.head h.depth) Bottom ≡ true = subst (λ (c : Core). cone_at_most f c Bottom ≡ true) h.bound_is e in cc
  below_bottom (Cone head depth) h e = cc

  is_bottom : (c : Core) → (c ≡ Bottom) ⊎ (c ≢ Bottom)
  is_bottom Bottom = inl refl
  is_bottom (Func g) = inr (λ e. cc)
  is_bottom (Global g) = inr (λ e. cc)
  is_bottom (Cone head depth) = inr (λ e. cc)

  -- references without null
  some_refs : (n : Bool) (c : Core) → c ≢ Bottom → refs n c ≡ Ref n c
  some_refs true c ne = refl
  some_refs false Bottom ne = absurd (ne refl)
  some_refs false (Func g) ne = refl
  some_refs false (Global g) ne = refl
  some_refs false (Cone head depth) ne = refl

  refs_belong : (n : Bool) (c : Core) → CoreBelongs f c → Belongs f (refs n c)
  refs_belong true c h = (tt, h)
  refs_belong false Bottom h = tt
  refs_belong false (Func g) h = (tt, h)
  refs_belong false (Global g) h = (tt, h)
  refs_belong false (Cone head depth) h = (tt, h)

  refs_listed : (longs : List ℕ) (n : Bool) (c : Core) → IsListed longs (refs n c)
  refs_listed longs true c = tt
  refs_listed longs false Bottom = tt
  refs_listed longs false (Func g) = tt
  refs_listed longs false (Global g) = tt
  refs_listed longs false (Cone head depth) = tt

  pub non_null_belongs : (a : Content) → Belongs f a → Belongs f (non_null a)
  unfolding non_null
  non_null_belongs Empty h = h
  non_null_belongs (I32 v) h = h
  non_null_belongs (I64 v) h = h
  non_null_belongs (NumGlobal g) h = h
  non_null_belongs Many h = h
  non_null_belongs (Ref n c) h = refs_belong false c h.1
  non_null_belongs Top h = h

  pub non_null_listed : (longs : List ℕ) (a : Content) → IsListed longs a → IsListed longs (non_null a)
  unfolding non_null
  non_null_listed longs Empty h = h
  non_null_listed longs (I32 v) h = h
  non_null_listed longs (I64 v) h = h
  non_null_listed longs (NumGlobal g) h = h
  non_null_listed longs Many h = h
  non_null_listed longs (Ref n c) h = refs_listed longs false c
  non_null_listed longs Top h = h

  refs_up : (c d : Core) → CoreBelongs f c → core_at_most f c d ≡ true → AtMost f (refs false c) (refs false d)
  unfolding at_most
  refs_up c d h e = ⊎_elim
      (λ (b : c ≡ Bottom). subst (λ (k : Core). AtMost f (refs false k) (refs false d)) (sym b) (lattice.order.least (refs false d)))
      (λ (b : c ≢ Bottom).
      let nd : d ≢ Bottom = λ z. b (below_bottom c h (subst (λ (k : Core). core_at_most f c k ≡ true) z e)) in
      subst (λ (a : Content). AtMost f a (refs false d)) (sym (some_refs false c b)) (subst (λ (a : Content). AtMost f (Ref false c) a) (sym (some_refs false d nd)) (record { holds = e })))
      (is_bottom c)

  pub non_null_up : (a b : Content) → Belongs f a → Belongs f b → AtMost f a b → AtMost f (non_null a) (non_null b)
  unfolding non_null at_most
  non_null_up Empty b ha hb le = lattice.order.least (non_null b)
  non_null_up a Top ha hb le = lattice.order.greatest (non_null a)
  non_null_up (I32 v) (Ref m d) ha hb le = let bad = le.holds in cc
  non_null_up (I64 v) (Ref m d) ha hb le = let bad = le.holds in cc
  non_null_up (NumGlobal g) (Ref m d) ha hb le = let bad = le.holds in cc
  non_null_up Many (Ref m d) ha hb le = let bad = le.holds in cc
  non_null_up Top (Ref m d) ha hb le = let bad = le.holds in cc
  non_null_up (Ref n c) (Ref m d) ha hb le = refs_up c d ha.1 (and_parts _ _ le.holds).1
  non_null_up (Ref n c) b ha hb le = let bad = le.holds in cc
  non_null_up a b ha hb le = le

  -- a conversion to a core that belongs
  module _ (core : Core) (core_is : CoreBelongs f core) (some : core ≢ Bottom) where
    ref_belongs : (n : Bool) → Belongs f (Ref n core)
    ref_belongs true = (tt, core_is)
    ref_belongs false = subst (λ (a : Content). Belongs f a) (some_refs false core some) (refs_belong false core core_is)

    converted_ref : (n : Bool) (c : Core) → c ≢ Bottom → converted core (Ref n c) ≡ Ref n core
    converted_ref n Bottom ne = absurd (ne refl)
    converted_ref true (Func g) ne = refl
    converted_ref true (Global g) ne = refl
    converted_ref true (Cone head depth) ne = refl
    converted_ref false (Func g) ne = refl
    converted_ref false (Global g) ne = refl
    converted_ref false (Cone head depth) ne = refl

    pub converted_belongs : (a : Content) → Belongs f a → Belongs f (converted core a)
    converted_belongs Empty h = tt
    converted_belongs (I32 v) h = ref_belongs false
    converted_belongs (I64 v) h = ref_belongs false
    converted_belongs (NumGlobal g) h = ref_belongs false
    converted_belongs Many h = ref_belongs false
    converted_belongs (Ref true Bottom) h = (tt, tt)
    converted_belongs (Ref true (Func g)) h = ref_belongs true
    converted_belongs (Ref true (Global g)) h = ref_belongs true
    converted_belongs (Ref true (Cone head depth)) h = ref_belongs true
    converted_belongs (Ref false c) h = ref_belongs false
    converted_belongs Top h = ref_belongs true

    pub converted_listed : (longs : List ℕ) (a : Content) → IsListed longs (converted core a)
    converted_listed longs Empty = tt
    converted_listed longs (I32 v) = tt
    converted_listed longs (I64 v) = tt
    converted_listed longs (NumGlobal g) = tt
    converted_listed longs Many = tt
    converted_listed longs (Ref true Bottom) = tt
    converted_listed longs (Ref true (Func g)) = tt
    converted_listed longs (Ref true (Global g)) = tt
    converted_listed longs (Ref true (Cone head depth)) = tt
    converted_listed longs (Ref false c) = tt
    converted_listed longs Top = tt

    both : (n m : Bool) → (not n || m) ≡ true → AtMost f (Ref n core) (Ref m core)
    unfolding at_most
    both n m e = record { holds = and_from (not n || m) (core_at_most f core core) e (core_refl f lattice answers core) }

    null_up : (m : Bool) (d : Core) → (not true || m) ≡ true → AtMost f (Ref true Bottom) (converted core (Ref m d))
    unfolding at_most
    null_up true Bottom e = record { holds = refl }
    null_up true (Func g) e = record { holds = refl }
    null_up true (Global g) e = record { holds = refl }
    null_up true (Cone head depth) e = record { holds = refl }
    null_up false d e = cc

    some_up : (n m : Bool) (c d : Core) → c ≢ Bottom → CoreBelongs f c → (not n || m) ≡ true → core_at_most f c d ≡ true → AtMost f (converted core (Ref n c)) (converted core (Ref m d))
    some_up n m c d nb h e le =
        let nd : d ≢ Bottom = λ z. nb (below_bottom c h (subst (λ (k : Core). core_at_most f c k ≡ true) z le)) in
        subst (λ (a : Content). AtMost f a (converted core (Ref m d))) (sym (converted_ref n c nb))
        (subst (λ (a : Content). AtMost f (Ref n core) a) (sym (converted_ref m d nd)) (both n m e))

    refs_converted : (n m : Bool) (c d : Core) → Belongs f (Ref n c) → (not n || m) ≡ true → core_at_most f c d ≡ true → AtMost f (converted core (Ref n c)) (converted core (Ref m d))
    refs_converted true m Bottom d h e le = null_up m d e
    refs_converted false m Bottom d h e le = absurd h.0
    refs_converted n m (Func g) d h e le = some_up n m (Func g) d (λ b. cc) h.1 e le
    refs_converted n m (Global g) d h e le = some_up n m (Global g) d (λ b. cc) h.1 e le
    refs_converted n m (Cone head depth) d h e le = some_up n m (Cone head depth) d (λ b. cc) h.1 e le

    pub converted_up : (a b : Content) → Belongs f a → Belongs f b → AtMost f a b → AtMost f (converted core a) (converted core b)
    unfolding at_most
    converted_up Empty b ha hb le = lattice.order.least (converted core b)
    converted_up (I32 v) (I32 w) ha hb le = both false false refl
    converted_up (I32 v) Many ha hb le = both false false refl
    converted_up (I32 v) Top ha hb le = both false true refl
    converted_up (I32 v) b ha hb le = let bad = le.holds in cc
    converted_up (I64 v) (I64 w) ha hb le = both false false refl
    converted_up (I64 v) Many ha hb le = both false false refl
    converted_up (I64 v) Top ha hb le = both false true refl
    converted_up (I64 v) b ha hb le = let bad = le.holds in cc
    converted_up (NumGlobal g) (NumGlobal h) ha hb le = both false false refl
    converted_up (NumGlobal g) Many ha hb le = both false false refl
    converted_up (NumGlobal g) Top ha hb le = both false true refl
    converted_up (NumGlobal g) b ha hb le = let bad = le.holds in cc
    converted_up Many Many ha hb le = both false false refl
    converted_up Many Top ha hb le = both false true refl
    converted_up Many b ha hb le = let bad = le.holds in cc
    converted_up (Ref n c) (Ref m d) ha hb le = let p = and_parts (not n || m) (core_at_most f c d) le.holds in refs_converted n m c d ha p.0 p.1
    converted_up (Ref true Bottom) Top ha hb le = record { holds = refl }
    converted_up (Ref false c) Top ha hb le = both false true refl
    converted_up (Ref true (Func g)) Top ha hb le = both true true refl
    converted_up (Ref true (Global g)) Top ha hb le = both true true refl
    converted_up (Ref true (Cone head depth)) Top ha hb le = both true true refl
    converted_up (Ref n c) b ha hb le = let bad = le.holds in cc
    converted_up Top Top ha hb le = both true true refl
    converted_up Top b ha hb le = let bad = le.holds in cc

  any_is : CoreBelongs f (whole f (H.Abs A.Any))
  any_is = record { is_heap = tt; no_bottom = refl; least = tt; capped = omega arith }

  extern_is : CoreBelongs f (Cone (H.Abs A.Extern) 0)
  extern_is = record { is_heap = tt; no_bottom = refl; least = tt; capped = omega arith }

  pub internalised_up : (a b : Content) → Belongs f a → Belongs f b → AtMost f a b → AtMost f (internalised f a) (internalised f b)
  unfolding internalised
  internalised_up a b ha hb le = converted_up (whole f (H.Abs A.Any)) any_is (λ e. cc) a b ha hb le

  pub internalised_belongs : (a : Content) → Belongs f a → Belongs f (internalised f a)
  unfolding internalised
  internalised_belongs a h = converted_belongs (whole f (H.Abs A.Any)) any_is (λ e. cc) a h

  pub internalised_listed : (longs : List ℕ) (a : Content) → IsListed longs (internalised f a)
  unfolding internalised
  internalised_listed longs a = converted_listed (whole f (H.Abs A.Any)) any_is (λ e. cc) longs a

  pub externalised_up : (a b : Content) → Belongs f a → Belongs f b → AtMost f a b → AtMost f (externalised a) (externalised b)
  unfolding externalised
  externalised_up a b ha hb le = converted_up (Cone (H.Abs A.Extern) 0) extern_is (λ e. cc) a b ha hb le

  pub externalised_belongs : (a : Content) → Belongs f a → Belongs f (externalised a)
  unfolding externalised
  externalised_belongs a h = converted_belongs (Cone (H.Abs A.Extern) 0) extern_is (λ e. cc) a h

  pub externalised_listed : (longs : List ℕ) (a : Content) → IsListed longs (externalised a)
  unfolding externalised
  externalised_listed longs a = converted_listed (Cone (H.Abs A.Extern) 0) extern_is (λ e. cc) longs a
