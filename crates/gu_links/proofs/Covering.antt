-- A greater content covers no fewer types and functions.
use Rattle.std.proofs.Common.{◌≡◌, ℕ, ◌<◌, ◌≤◌, true, length, sym, refl, ◌∙◌, subst, arith}
use Rattle.std.specs.Prelude.{slice_index}
use Rattle.std.proofs.lemmas.Bool.{and_parts, and_from, eqb-true, eq-eqb}
use Rattle.gu_types.specs.declared.types.HeapType.TheVariants as H
use Rattle.gu_types.specs.Depth.{types_of}
use Rattle.gu_rec.specs.Sub.{IsLeastIndex, is_sub}
use Rattle.gu_contents.specs.declared.content.Core.{Core}
use Rattle.gu_contents.specs.declared.content.Core.TheVariants.{Bottom, Func, Global, Cone}
use Rattle.gu_contents.specs.declared.content.Content.{Content}
use Rattle.gu_contents.specs.declared.content.Content.TheVariants.{Empty, I32, I64, NumGlobal, Many, Ref, Top}
use Rattle.gu_contents.specs.declared.facts.Facts.{Facts}
use Rattle.gu_contents.specs.Contents.{least_of, bound, cone_of, type_of_func}
use Rattle.gu_contents.specs.Order.{AtMost, at_most, core_at_most, cone_at_most}
use Rattle.gu_contents.specs.Meets.{filter}
use Rattle.gu_contents.specs.Belongs.{Belongs, CoreBelongs, IsCone, IsFunc}
use Rattle.gu_contents.specs.Laws.{ContentsAreALattice, AnswersBelong}
use Rattle.gu_contents.proofs.Heights.{least_least, least_heap, least_in_range}
use Rattle.gu_links.specs.Cells.{is_least}
use Rattle.gu_links.specs.Over.{covers, covers_func, is_over, is_callee, ref_to}

module _ (f : Facts) (lattice : ContentsAreALattice f) (answers : AnswersBelong f) where
  -- the cone of one type alone
  alone : (s : ℕ) → s < length (types_of f.types) → IsLeastIndex f.types (H.Idx s) → IsCone f (H.Idx s) 0
  alone s lt least = record { is_heap = lt; no_bottom = refl; least = least; capped = omega arith }

  least_at : (s : ℕ) → is_least f.types s ≡ true → IsLeastIndex f.types (H.Idx s)
  least_at s e j same = subst (λ (i : ℕ). i ≤ j) (eqb-true (least_of f.types s) s e) (least_least f.types s j same)

  func_cone : (g : ℕ) → IsFunc f g → IsCone f (type_of_func f g) 0
  unfolding type_of_func
  func_cone g h = alone (least_of f.types (slice_index f.funcs g)) (least_in_range f.types (H.Idx (slice_index f.funcs g)) h.type_is) (least_heap f.types (H.Idx (slice_index f.funcs g)))

  -- the cone that stands for a core belongs, and is at least the core
  cone_belongs : (c : Core) → CoreBelongs f c → CoreBelongs f (cone_of f c)
  cone_belongs Bottom h = tt
  cone_belongs (Func g) h = func_cone g h
  cone_belongs (Global g) h = subst (λ (c : Core). CoreBelongs f c) (sym h.bound_is) h.is_cone
  cone_belongs (Cone head depth) h = h

  -- the order of cores is that of references
  pub core_trans : (a b c : Core) → CoreBelongs f a → CoreBelongs f b → CoreBelongs f c → core_at_most f a b ≡ true → core_at_most f b c ≡ true → core_at_most f a c ≡ true
  unfolding at_most
  core_trans a b c ha hb hc p q = (lattice.order.transitive (Ref true a) (Ref true b) (Ref true c) (tt, ha) (tt, hb) (tt, hc) (record { holds = p }) (record { holds = q })).holds

  pub core_refl : (a : Core) → core_at_most f a a ≡ true
  unfolding at_most
  core_refl a = (lattice.order.reflexive (Ref true a)).holds

  -- the cones that stand for two cores are in the same order
  cone_step : (c d : Core) → CoreBelongs f c → core_at_most f c d ≡ true → core_at_most f (cone_of f c) (cone_of f d) ≡ true
  cone_step Bottom d h e = refl
  cone_step (Func g) Bottom h e = cc
  cone_step (Func g) (Func k) h e = subst (λ (i : ℕ). core_at_most f (Cone (type_of_func f g) 0) (Cone (type_of_func f i) 0) ≡ true) (eqb-true g k e) (core_refl (Cone (type_of_func f g) 0))
  cone_step (Func g) (Global k) h e = cc
  cone_step (Func g) (Cone head depth) h e = e
  cone_step (Global g) Bottom h e = let e' : cone_at_most f (Cone h.head h.depth) Bottom ≡ true = subst (λ (c : Core). cone_at_most f c Bottom ≡ true) h.bound_is e in cc
  cone_step (Global g) (Func k) h e = let e' : cone_at_most f (Cone h.head h.depth) (Func k) ≡ true = subst (λ (c : Core). cone_at_most f c (Func k) ≡ true) h.bound_is e in cc
  cone_step (Global g) (Global k) h e = subst (λ (i : ℕ). core_at_most f (bound f g) (bound f i) ≡ true) (eqb-true g k e) (core_refl (bound f g))
  cone_step (Global g) (Cone head depth) h e =
      let P : Core → Type 0 = λ c. cone_at_most f c (Cone head depth) ≡ true in
      let Q : Core → Type 0 = λ c. core_at_most f c (Cone head depth) ≡ true in
      let e' : P (Cone h.head h.depth) = subst P h.bound_is e in subst Q (sym h.bound_is) e'
  cone_step (Cone a d) Bottom h e = cc
  cone_step (Cone a d) (Func k) h e = cc
  cone_step (Cone a d) (Global k) h e = cc
  cone_step (Cone a d) (Cone head depth) h e = e

  -- what the smaller of two contents covers, the greater covers
  pub covers_up : (a b : Content) (s : ℕ) → Belongs f a → Belongs f b → AtMost f a b → s < length (types_of f.types) → IsLeastIndex f.types (H.Idx s) → covers f a s ≡ true → covers f b s ≡ true
  unfolding at_most
  covers_up Empty b s ha hb le lt least e = cc
  covers_up (I32 v) b s ha hb le lt least e = cc
  covers_up (I64 v) b s ha hb le lt least e = cc
  covers_up (NumGlobal g) b s ha hb le lt least e = cc
  covers_up Many b s ha hb le lt least e = cc
  covers_up (Ref n c) Top s ha hb le lt least e = refl
  covers_up (Ref n c) (Ref m d) s ha hb le lt least e =
      core_trans (Cone (H.Idx s) 0) (cone_of f c) (cone_of f d) (alone s lt least) (cone_belongs c ha.1) (cone_belongs d hb.1) e (cone_step c d ha.1 (and_parts _ _ le.holds).1)
  covers_up (Ref n c) b s ha hb le lt least e = cc
  covers_up Top Top s ha hb le lt least e = refl
  covers_up Top b s ha hb le lt least e = cc

  -- the same of a function's own type
  covers_type_up : (a b : Content) (g : ℕ) → Belongs f a → Belongs f b → AtMost f a b → IsFunc f g
      → covers f a (least_of f.types (slice_index f.funcs g)) ≡ true → covers f b (least_of f.types (slice_index f.funcs g)) ≡ true
  covers_type_up a b g ha hb le is e =
      covers_up a b (least_of f.types (slice_index f.funcs g)) ha hb le (least_in_range f.types (H.Idx (slice_index f.funcs g)) is.type_is) (least_heap f.types (H.Idx (slice_index f.funcs g))) e

  -- no cone is at most a function
  no_func : (c : Core) (k : ℕ) → CoreBelongs f c → cone_at_most f (cone_of f c) (Func k) ≡ true → cone_of f c ≡ Bottom
  no_func Bottom k h e = refl
  no_func (Func g) k h e = cc
  no_func (Global g) k h e = let e' : cone_at_most f (Cone h.head h.depth) (Func k) ≡ true = subst (λ (c : Core). cone_at_most f c (Func k) ≡ true) h.bound_is e in cc
  no_func (Cone head depth) k h e = cc

  func_up : (h g : ℕ) (d : Core) → CoreBelongs f d → h ≡ g → core_at_most f (Func h) d ≡ true → covers_func f (Ref true d) g ≡ true
  unfolding type_of_func
  func_up h g Bottom hd same le = cc
  func_up h g (Func k) hd same le = eq-eqb k g (sym (eqb-true h k le) ∙ same)
  func_up h g (Global k) hd same le = cc
  func_up h g (Cone head depth) hd same le = subst (λ (i : ℕ). cone_at_most f (Cone (H.Idx (least_of f.types (slice_index f.funcs i))) 0) (Cone head depth) ≡ true) same le

  -- and so with functions
  pub covers_func_up : (a b : Content) (g : ℕ) → Belongs f a → Belongs f b → AtMost f a b → IsFunc f g → covers_func f a g ≡ true → covers_func f b g ≡ true
  unfolding at_most
  covers_func_up Empty b g ha hb le is e = cc
  covers_func_up (I32 v) b g ha hb le is e = cc
  covers_func_up (I64 v) b g ha hb le is e = cc
  covers_func_up (NumGlobal h) b g ha hb le is e = cc
  covers_func_up Many b g ha hb le is e = cc
  covers_func_up (Ref n c) Top g ha hb le is e = refl
  covers_func_up (Ref n (Func h)) (Ref m Bottom) g ha hb le is e = func_up h g Bottom hb.1 (eqb-true h g e) (and_parts _ _ le.holds).1
  covers_func_up (Ref n (Func h)) (Ref m (Func k)) g ha hb le is e = func_up h g (Func k) hb.1 (eqb-true h g e) (and_parts _ _ le.holds).1
  covers_func_up (Ref n (Func h)) (Ref m (Global k)) g ha hb le is e = func_up h g (Global k) hb.1 (eqb-true h g e) (and_parts _ _ le.holds).1
  covers_func_up (Ref n (Func h)) (Ref m (Cone head depth)) g ha hb le is e = func_up h g (Cone head depth) hb.1 (eqb-true h g e) (and_parts _ _ le.holds).1
  covers_func_up (Ref n Bottom) (Ref m d) g ha hb le is e = cc
  covers_func_up (Ref n (Global i)) (Ref m (Func k)) g ha hb le is e = let none : bound f i ≡ Bottom = no_func (Global i) k ha.1 (and_parts _ _ le.holds).1 in let bad : Bottom ≡ Cone ha.1.head ha.1.depth = sym none ∙ ha.1.bound_is in cc
  covers_func_up (Ref n (Cone head depth)) (Ref m (Func k)) g ha hb le is e = let none : Cone head depth ≡ Bottom = no_func (Cone head depth) k ha.1 (and_parts _ _ le.holds).1 in cc
  covers_func_up (Ref n (Global i)) (Ref m Bottom) g ha hb le is e = covers_type_up (Ref n (Global i)) (Ref m Bottom) g ha hb le is e
  covers_func_up (Ref n (Global i)) (Ref m (Global k)) g ha hb le is e = covers_type_up (Ref n (Global i)) (Ref m (Global k)) g ha hb le is e
  covers_func_up (Ref n (Global i)) (Ref m (Cone b k)) g ha hb le is e = covers_type_up (Ref n (Global i)) (Ref m (Cone b k)) g ha hb le is e
  covers_func_up (Ref n (Cone head depth)) (Ref m Bottom) g ha hb le is e = covers_type_up (Ref n (Cone head depth)) (Ref m Bottom) g ha hb le is e
  covers_func_up (Ref n (Cone head depth)) (Ref m (Global k)) g ha hb le is e = covers_type_up (Ref n (Cone head depth)) (Ref m (Global k)) g ha hb le is e
  covers_func_up (Ref n (Cone head depth)) (Ref m (Cone b k)) g ha hb le is e = covers_type_up (Ref n (Cone head depth)) (Ref m (Cone b k)) g ha hb le is e
  covers_func_up (Ref n c) b g ha hb le is e = cc
  covers_func_up Top Top g ha hb le is e = refl
  covers_func_up Top b g ha hb le is e = cc

  -- the types of a greater content, and its callees, are no fewer
  pub over_up : (a b : Content) (ty s : ℕ) → ty < length (types_of f.types) → s < length (types_of f.types) → Belongs f a → Belongs f b → AtMost f a b → is_over f a ty s ≡ true → is_over f b ty s ≡ true
  unfolding is_over
  over_up a b ty s in_range lt ha hb le e =
      let l = and_parts (is_least f.types s) _ e in
      let r = and_parts (is_sub f.types (H.Idx s) (H.Idx ty)) _ l.1 in
      let up = covers_up (filter f a (ref_to ty)) (filter f b (ref_to ty)) s (answers.filter_does (ref_to ty) in_range a ha) (answers.filter_does (ref_to ty) in_range b hb) (lattice.monotone.filter_is (ref_to ty) in_range a b ha hb le) lt (least_at s l.0) r.1 in
      and_from (is_least f.types s) _ l.0 (and_from (is_sub f.types (H.Idx s) (H.Idx ty)) _ r.0 up)

  pub callee_up : (a b : Content) (ty g : ℕ) → ty < length (types_of f.types) → IsFunc f g → Belongs f a → Belongs f b → AtMost f a b → is_callee f a ty g ≡ true → is_callee f b ty g ≡ true
  unfolding is_callee
  callee_up a b ty g in_range is ha hb le e =
      let r = and_parts (is_sub f.types (H.Idx (slice_index f.funcs g)) (H.Idx ty)) _ e in
      and_from (is_sub f.types (H.Idx (slice_index f.funcs g)) (H.Idx ty)) _ r.0
      (covers_func_up (filter f a (ref_to ty)) (filter f b (ref_to ty)) g (answers.filter_does (ref_to ty) in_range a ha) (answers.filter_does (ref_to ty) in_range b hb) (lattice.monotone.filter_is (ref_to ty) in_range a b ha hb le) is r.1)
