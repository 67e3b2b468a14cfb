-- The types and functions that a content covers below a type are those of one reach.
use Rattle.std.proofs.Common.{◌≡◌, ℕ, zero, suc, ◌+◌, ◌<◌, ◌≤◌, ◌&&◌, Bool, true, false, cond, List, [], ◌∷◌, Option, Some, None, length, is_some, sym, refl, ap, ◌∙◌, subst, ⊎_elim, arith}
use Rattle.std.specs.Prelude.{slice_index, nat_eq, if◌then◌else◌}
use Rattle.std.specs.List.{filter as keep, list_any}
use Rattle.std.proofs.lemmas.Bool.{cases_Bool, cases_eq, cases_lt, and_from, eqb-true, eq-eqb}
use Rattle.std.proofs.lemmas.List.Elements.{filter_agree}
use Rattle.gu_types.specs.declared.types.Abs.{Abs}
use Rattle.gu_types.specs.declared.types.Abs.TheVariants as A
use Rattle.gu_types.specs.declared.types.HeapType.{HeapType}
use Rattle.gu_types.specs.declared.types.HeapType.TheVariants as H
use Rattle.gu_types.specs.declared.types.TypeList.{TypeList}
use Rattle.gu_types.specs.Depth.{types_of}
use Rattle.gu_rec.specs.Keys.{run}
use Rattle.gu_rec.specs.Sub.{is_sub, distance, line, height}
use Rattle.gu_contents.specs.declared.content.Core.{Core}
use Rattle.gu_contents.specs.declared.content.Core.TheVariants.{Bottom, Func, Global, Cone}
use Rattle.gu_contents.specs.declared.content.Content.{Content}
use Rattle.gu_contents.specs.declared.content.Content.TheVariants.{Empty, I32, I64, NumGlobal, Many, Ref, Top}
use Rattle.gu_contents.specs.declared.facts.Facts.{Facts}
use Rattle.gu_contents.specs.Contents.{least_of, least_index, bound, cone_of, type_of_func, refs}
use Rattle.gu_contents.specs.Order.{cone_at_most, reaches}
use Rattle.gu_contents.specs.Whole.{whole, all}
use Rattle.gu_contents.specs.Meets.{filter, meet, meet_cone, below_head}
use Rattle.gu_contents.specs.Belongs.{Belongs, CoreBelongs}
use Rattle.gu_contents.proofs.Belonging.{answers_belong}
use Rattle.gu_contents.proofs.Heaps.{distance_self, distance_adds, above_named, below_named, sub_distance}
use Rattle.gu_contents.proofs.Heights.{least_name}
use Rattle.gu_links.specs.declared.link.Link.{Link}
use Rattle.gu_links.specs.declared.reach.Reach.{Reach}
use Rattle.gu_links.specs.declared.reach.Callees.TheVariants.{One}
use Rattle.gu_links.specs.Cells.{is_least}
use Rattle.gu_links.specs.Over.{covers, covers_func, is_over, is_callee, ref_to, has_slot, over, callees, names}
use Rattle.gu_links.specs.Kept.{is_below, in_reach, over_reach, reach_in, reach_within, callees_within, callable, under}

-- what a filtered content has belongs
pub filtered_core : (f : Facts) (a : Content) (ty : ℕ) → ty < length (types_of f.types) → Belongs f a → (r : Content) → r ≡ filter f a (ref_to ty) → (n : Bool) (c : Core) → r ≡ Ref n c → CoreBelongs f c
filtered_core f a ty lt h r e n c is = let b : Belongs f (Ref n c) = subst (Belongs f) (sym e ∙ is) ((answers_belong f).filter_does (ref_to ty) lt a h) in b.1

pub and_false : (b : Bool) → (b && false) ≡ false
and_false true = refl
and_false false = refl

-- no abstract heap type stands at or below a concrete one
abs_apart : (list : TypeList) (ty : ℕ) (kind : Abs) → distance list (H.Idx ty) (H.Abs kind) ≡ None
unfolding distance line
abs_apart list ty A.Any = refl
abs_apart list ty A.Eq = refl
abs_apart list ty A.I31 = refl
abs_apart list ty A.AnyStruct = refl
abs_apart list ty A.AnyArray = refl
abs_apart list ty A.Bot = refl
abs_apart list ty A.AnyFunc = refl
abs_apart list ty A.NoFunc = refl
abs_apart list ty A.Extern = refl
abs_apart list ty A.NoExtern = refl
abs_apart list ty A.Exn = refl
abs_apart list ty A.NoExn = refl

-- a cone stands at or below a type
abbrev IsUnderCone : Facts → ℕ → Core → Type 0
IsUnderCone f ty (Cone (H.Idx h) d) = is_below f.types ty h ≡ true
IsUnderCone f ty (Cone (H.Abs kind) d) = ⊥
IsUnderCone f ty core = Unit {0}

abbrev IsUnder : Facts → ℕ → Content → Type 0
IsUnder f ty Top = ⊥
IsUnder f ty (Ref n c) = IsUnderCone f ty (cone_of f c)
IsUnder f ty a = Unit {0}

module _ (f : Facts) (ty : ℕ) where
  own_cone : (d : ℕ) → IsUnderCone f ty (Cone (least_index f.types (H.Idx ty)) d)
  own_cone d = ap is_some (sym (below_named f.types f.hold (H.Idx ty) (H.Idx ty) (H.Idx (least_of f.types ty)) (sym (least_name f.types (H.Idx ty)))) ∙ distance_self f.types f.hold (H.Idx ty))

  under_head : (head : HeapType) (d : ℕ) → is_some (distance f.types (H.Idx ty) head) ≡ true → IsUnderCone f ty (Cone head d)
  under_head (H.Idx h) d e = e
  under_head (H.Abs kind) d e = let bad : false ≡ true = ap is_some (sym (abs_apart f.types ty kind)) ∙ e in cc

  under_refs : (n : Bool) (c : Core) → IsUnderCone f ty (cone_of f c) → IsUnder f ty (refs n c)
  under_refs true Bottom h = h
  under_refs true (Func g) h = h
  under_refs true (Global g) h = h
  under_refs true (Cone head d) h = h
  under_refs false Bottom h = tt
  under_refs false (Func g) h = h
  under_refs false (Global g) h = h
  under_refs false (Cone head d) h = h

  part_under : (d e : ℕ) (b : Bool) → IsUnderCone f ty (if b then Cone (least_index f.types (H.Idx ty)) d else Bottom)
  part_under d e true = own_cone d
  part_under d e false = tt

  below_under : (d : ℕ) (o : Option ℕ) → IsUnderCone f ty (below_head f.types d (H.Idx ty) o)
  below_under d None = tt
  below_under d (Some e) = part_under _ e _

  meet_under : (head : HeapType) (d : ℕ) (b : Bool) → b ≡ is_some (distance f.types (H.Idx ty) head) → IsUnderCone f ty (if b then Cone head d else below_head f.types d (H.Idx ty) (distance f.types head (H.Idx ty)))
  meet_under head d true e = under_head head d (sym e)
  meet_under head d false e = below_under d (distance f.types head (H.Idx ty))

  func_under : (g : ℕ) (b : Bool) → b ≡ is_some (distance f.types (H.Idx ty) (type_of_func f g)) → IsUnderCone f ty (cone_of f (if b then Func g else Bottom))
  func_under g true e = under_head (type_of_func f g) 0 (sym e)
  func_under g false e = tt

  reaching : (o : Option ℕ) (more depth : ℕ) → reaches o more depth ≡ true → is_some o ≡ true
  reaching None more depth e = e
  reaching (Some k) more depth e = refl

  part_itself : (d : ℕ) (b : Bool) → IsUnderCone f ty (if b then Cone (least_index f.types (H.Idx ty)) d else Bottom) → IsUnderCone f ty (cone_of f (if b then Cone (least_index f.types (H.Idx ty)) d else Bottom))
  part_itself d true u = u
  part_itself d false u = u

  below_itself : (d : ℕ) (o : Option ℕ) → IsUnderCone f ty (below_head f.types d (H.Idx ty) o) → IsUnderCone f ty (cone_of f (below_head f.types d (H.Idx ty) o))
  below_itself d None u = u
  below_itself d (Some e) u = part_itself _ _ u

  cone_itself : (b : Bool) (head : HeapType) (d : ℕ) → IsUnderCone f ty (if b then Cone head d else below_head f.types d (H.Idx ty) (distance f.types head (H.Idx ty)))
      → IsUnderCone f ty (cone_of f (if b then Cone head d else below_head f.types d (H.Idx ty) (distance f.types head (H.Idx ty))))
  cone_itself true head d u = u
  cone_itself false head d u = below_itself d (distance f.types head (H.Idx ty)) u

  global_under : (g : ℕ) (head : HeapType) (d : ℕ) → bound f g ≡ Cone head d → (b : Bool) → b ≡ cone_at_most f (Cone head d) (whole f (H.Idx ty))
      → IsUnderCone f ty (cone_of f (if b then Global g else meet_cone f.types (Cone head d) (H.Idx ty)))
  global_under g head d is true e =
      let r = reaching (distance f.types (H.Idx (least_of f.types ty)) head) _ _ (sym e) in
      let n = ap is_some (above_named f.types f.hold (H.Idx (least_of f.types ty)) (H.Idx ty) head (least_name f.types (H.Idx ty))) in
      subst (IsUnderCone f ty) (sym is) (under_head head d (sym n ∙ r))
  global_under g head d is false e = let u = meet_under head d (is_some (distance f.types (H.Idx ty) head)) refl in cone_itself (is_some (distance f.types (H.Idx ty) head)) head d u

  core_under : (c : Core) → CoreBelongs f c → IsUnderCone f ty (cone_of f (meet f c (H.Idx ty)))
  unfolding meet
  core_under Bottom h = tt
  core_under (Func g) h = func_under g _ refl
  core_under (Global g) h =
      let P : Core → Type 0 = λ (b : Core). IsUnderCone f ty (cone_of f (if cone_at_most f b (whole f (H.Idx ty)) then Global g else meet_cone f.types b (H.Idx ty))) in
      subst P (sym h.bound_is) (global_under g h.head h.depth h.bound_is _ refl)
  core_under (Cone head d) h = cone_itself _ head d (meet_under head d _ refl)

  pub is_under : (a : Content) → Belongs f a → IsUnder f ty (filter f a (ref_to ty))
  unfolding filter all
  is_under Empty h = tt
  is_under (I32 v) h = tt
  is_under (I64 v) h = tt
  is_under (NumGlobal g) h = tt
  is_under Many h = tt
  is_under Top h = own_cone (height f.types (H.Idx ty))
  is_under (Ref n c) h = under_refs (n && false) (meet f c (H.Idx ty)) (core_under c h.1)

  found : (o : Option ℕ) → is_some o ≡ true → (k : ℕ) × (o ≡ Some k)
  found None e = absurd (let bad : false ≡ true = e in cc)
  found (Some k) e = (k, refl)

  and_is : (a r : Bool) → (r ≡ true → a ≡ true) → (a && r) ≡ r
  and_is a true h = and_from a true (h refl) refl
  and_is a false h = and_false a

  sub_is : (s : ℕ) → is_sub f.types (H.Idx s) (H.Idx ty) ≡ is_below f.types ty s
  sub_is s = sub_distance f.types f.hold (H.Idx s) (H.Idx ty) refl

  below_through : (h s : ℕ) → is_below f.types ty h ≡ true → is_below f.types h s ≡ true → is_below f.types ty s ≡ true
  below_through h s u e =
      let j = found (distance f.types (H.Idx h) (H.Idx s)) e in
      let k = found (distance f.types (H.Idx ty) (H.Idx h)) u in
      ap is_some (distance_adds f.types f.hold (H.Idx s) (H.Idx h) (H.Idx ty) j.0 k.0 j.1 k.1)

  cone_covered : (core : Core) → IsUnderCone f ty core → (s : ℕ) → (is_sub f.types (H.Idx s) (H.Idx ty) && cone_at_most f (Cone (H.Idx s) 0) core) ≡ in_reach f (reach_in core) s
  cone_covered Bottom u s = and_false _
  cone_covered (Func g) u s = and_false _
  cone_covered (Global g) u s = and_false _
  cone_covered (Cone (H.Abs kind) d) u s = absurd u
  cone_covered (Cone (H.Idx h) d) u s =
      and_is (is_sub f.types (H.Idx s) (H.Idx ty)) (reaches (distance f.types (H.Idx h) (H.Idx s)) 0 d)
      (λ e. sub_is s ∙ below_through h s u (reaching (distance f.types (H.Idx h) (H.Idx s)) 0 d e))

  covered : (b : Content) → IsUnder f ty b → (s : ℕ) → (is_sub f.types (H.Idx s) (H.Idx ty) && covers f b s) ≡ in_reach f (reach_within f b) s
  covered Empty u s = and_false _
  covered (I32 v) u s = and_false _
  covered (I64 v) u s = and_false _
  covered (NumGlobal g) u s = and_false _
  covered Many u s = and_false _
  covered Top u s = absurd u
  covered (Ref n c) u s = cone_covered (cone_of f c) u s

  -- the types that a content covers at or below a type are those of its reach
  pub over_is : (a : Content) (slot : ℕ) → Belongs f a → over f a ty slot ≡ over_reach f (reach_within f (filter f a (ref_to ty))) slot
  unfolding over is_over
  over_is a slot h =
      filter_agree (λ s. has_slot f slot s && (is_least f.types s && (is_sub f.types (H.Idx s) (H.Idx ty) && covers f (filter f a (ref_to ty)) s)))
      (λ s. has_slot f slot s && (is_least f.types s && in_reach f (reach_within f (filter f a (ref_to ty))) s))
      (λ s. ap (λ b. has_slot f slot s && (is_least f.types s && b)) (covered (filter f a (ref_to ty)) (is_under a h) s)) (run 0 (length (types_of f.types)))

pub keep_none : (p : ℕ → Bool) (xs : List ℕ) → ((x : ℕ) → p x ≡ false) → keep p xs ≡ []
keep_none p [] h = refl
keep_none p (x ∷ xs) h = ap (λ b. cond b (x ∷ keep p xs) (keep p xs)) (h x) ∙ keep_none p xs h

-- of a run of numbers one alone passes a test that asks for it
pub eq_apart : (h g : ℕ) → (h ≡ g → ⊥) → nat_eq h g ≡ false
eq_apart h g n = ⊎_elim (λ (e : nat_eq h g ≡ true). absurd (n (eqb-true h g e))) (λ (e : nat_eq h g ≡ false). e) (cases_Bool (nat_eq h g))

only_past : (p : ℕ → Bool) (h first count : ℕ) → h < first → keep (λ g. p g && nat_eq h g) (run first count) ≡ []
only_past p h first zero lt = refl
only_past p h first (suc count) lt =
    ap (λ b. cond (p first && b) (first ∷ keep (λ g. p g && nat_eq h g) (run (suc first) count)) (keep (λ g. p g && nat_eq h g) (run (suc first) count))) (eq_apart h first (λ e. omega arith))
    ∙ ap (λ b. cond b (first ∷ keep (λ g. p g && nat_eq h g) (run (suc first) count)) (keep (λ g. p g && nat_eq h g) (run (suc first) count))) (and_false (p first))
    ∙ only_past p h (suc first) count (omega arith)

pub and_true : (b : Bool) → (b && true) ≡ b
and_true true = refl
and_true false = refl

pub only : (p : ℕ → Bool) (h first count : ℕ) → first ≤ h → h < first + count → keep (λ g. p g && nat_eq h g) (run first count) ≡ cond (p h) (h ∷ []) []
only p h first zero le lt = absurd (omega arith)
only p h first (suc count) le lt = ⊎_elim
    (λ (e : first ≡ h).
    let P : ℕ → Type 0 = λ m. keep (λ g. p g && nat_eq h g) (m ∷ run (suc m) count) ≡ cond (p h) (h ∷ []) [] in
    subst P (sym e)
    (ap (λ b. cond (p h && b) (h ∷ keep (λ g. p g && nat_eq h g) (run (suc h) count)) (keep (λ g. p g && nat_eq h g) (run (suc h) count))) (eq-eqb h h refl)
    ∙ ap (λ b. cond b (h ∷ keep (λ g. p g && nat_eq h g) (run (suc h) count)) (keep (λ g. p g && nat_eq h g) (run (suc h) count))) (and_true (p h))
    ∙ ap (λ ys. cond (p h) (h ∷ ys) ys) (only_past p h (suc h) count (omega arith))))
    (λ (n : first ≡ h → ⊥).
    ap (λ b. cond (p first && b) (first ∷ keep (λ g. p g && nat_eq h g) (run (suc first) count)) (keep (λ g. p g && nat_eq h g) (run (suc first) count))) (eq_apart h first (λ e. n (sym e)))
    ∙ ap (λ b. cond b (first ∷ keep (λ g. p g && nat_eq h g) (run (suc first) count)) (keep (λ g. p g && nat_eq h g) (run (suc first) count))) (and_false (p first))
    ∙ only p h (suc first) count (⊎_elim (λ (l : first < h). let r : suc first ≤ h = omega arith in r) (λ (g : h ≤ first). absurd (n (omega arith))) (cases_lt first h)) (omega arith))
    (cases_eq first h)

module _ (f : Facts) (ty : ℕ) (links : List Link) where
  abbrev named : ℕ → Bool
  named g = list_any (names g) links

  abbrev type_at : ℕ → ℕ
  type_at g = slice_index f.funcs g

  least_below : (h g : ℕ) → distance f.types (H.Idx h) (H.Idx (least_of f.types g)) ≡ distance f.types (H.Idx h) (H.Idx g)
  least_below h g = below_named f.types f.hold (H.Idx h) (H.Idx (least_of f.types g)) (H.Idx g) (least_name f.types (H.Idx g))

  reach_least : (o : Option Reach) (g : ℕ) → in_reach f o (least_of f.types g) ≡ in_reach f o g
  reach_least None g = refl
  reach_least (Some r) g = ap (λ o. reaches o 0 r.depth) (least_below r.head g)

  sub_least : (g : ℕ) → is_sub f.types (H.Idx g) (H.Idx ty) ≡ is_sub f.types (H.Idx (least_of f.types g)) (H.Idx ty)
  sub_least g = sub_is f ty g ∙ sym (ap is_some (least_below ty g)) ∙ sym (sub_is f ty (least_of f.types g))

  under_is : (o : Option Reach) → keep (λ g. named g && in_reach f o (type_at g)) (run 0 (length f.funcs)) ≡ callable f links (under o)
  under_is None = keep_none (λ g. named g && false) (run 0 (length f.funcs)) (λ g. and_false (named g))
  under_is (Some r) = refl

  by_cone : (core : Core) → IsUnderCone f ty core
      → keep (λ g. named g && (is_sub f.types (H.Idx (type_at g)) (H.Idx ty) && cone_at_most f (Cone (H.Idx (least_of f.types (type_at g))) 0) core)) (run 0 (length f.funcs)) ≡ callable f links (under (reach_in core))
  by_cone core u =
      filter_agree (λ g. named g && (is_sub f.types (H.Idx (type_at g)) (H.Idx ty) && cone_at_most f (Cone (H.Idx (least_of f.types (type_at g))) 0) core)) (λ g. named g && in_reach f (reach_in core) (type_at g))
      (λ g. ap (λ b. named g && b)
      (ap (λ b. b && cone_at_most f (Cone (H.Idx (least_of f.types (type_at g))) 0) core) (sub_least (type_at g)) ∙ cone_covered f ty core u (least_of f.types (type_at g)) ∙ reach_least (reach_in core) (type_at g)))
      (run 0 (length f.funcs))
      ∙ under_is (reach_in core)

  by_none : keep (λ g. named g && (is_sub f.types (H.Idx (type_at g)) (H.Idx ty) && false)) (run 0 (length f.funcs)) ≡ []
  by_none = keep_none (λ g. named g && (is_sub f.types (H.Idx (type_at g)) (H.Idx ty) && false)) (run 0 (length f.funcs)) (λ g. ap (λ b. named g && b) (and_false _) ∙ and_false (named g))

  one_sub : (h : ℕ) → IsUnderCone f ty (Cone (type_of_func f h) 0) → is_sub f.types (H.Idx (type_at h)) (H.Idx ty) ≡ true
  unfolding type_of_func
  one_sub h u = sub_is f ty (type_at h) ∙ sym (ap is_some (least_below ty (type_at h))) ∙ u

  by_one : (h : ℕ) → h < length f.funcs → IsUnderCone f ty (Cone (type_of_func f h) 0)
      → keep (λ g. named g && (is_sub f.types (H.Idx (type_at g)) (H.Idx ty) && nat_eq h g)) (run 0 (length f.funcs)) ≡ callable f links (One h)
  by_one h lt u =
      filter_agree (λ g. named g && (is_sub f.types (H.Idx (type_at g)) (H.Idx ty) && nat_eq h g)) (λ g. named g && nat_eq h g)
      (λ g. ap (λ b. named g && b) (and_is f ty (is_sub f.types (H.Idx (type_at g)) (H.Idx ty)) (nat_eq h g)
      (λ e. subst (λ (i : ℕ). is_sub f.types (H.Idx (type_at i)) (H.Idx ty) ≡ true) (eqb-true h g e) (one_sub h u))))
      (run 0 (length f.funcs))
      ∙ only named h 0 (length f.funcs) (omega arith) (omega arith)

  called : (b : Content) → IsUnder f ty b → Belongs f b
      → keep (λ g. named g && (is_sub f.types (H.Idx (type_at g)) (H.Idx ty) && covers_func f b g)) (run 0 (length f.funcs)) ≡ callable f links (callees_within f b)
  called Empty u h = by_none
  called (I32 v) u h = by_none
  called (I64 v) u h = by_none
  called (NumGlobal g) u h = by_none
  called Many u h = by_none
  called Top u h = absurd u
  called (Ref n Bottom) u h = by_cone Bottom u
  called (Ref n (Func g)) u h = by_one g h.1.is_func u
  called (Ref n (Global g)) u h = by_cone (bound f g) u
  called (Ref n (Cone head d)) u h = by_cone (Cone head d) u

  -- the functions that a content covers at or below a type, and that can be called by reference
  pub callees_are : (a : Content) → ty < length (types_of f.types) → Belongs f a → callees f links a ty ≡ callable f links (callees_within f (filter f a (ref_to ty)))
  unfolding callees is_callee
  callees_are a lt h = called (filter f a (ref_to ty)) (is_under f ty a h) ((answers_belong f).filter_does (ref_to ty) lt a h)
