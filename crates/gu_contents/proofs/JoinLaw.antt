-- The join of two contents is the least that is at least both.
use Rattle.std.proofs.Common.{◌≡◌, ℕ, ◌+◌, ◌≤◌, Bool, true, false, not, ◌||◌, ◌⊎◌, max, if◌then◌else◌, Option, Some, None, option_map, is_some, unwrap_or, MatchOption, refl, ap, ap₂, sym, ◌∙◌, subst, inl, inr, arith, true≢false}
use Rattle.gu_types.specs.declared.types.HeapType.{HeapType}
use Rattle.gu_types.specs.declared.types.TypeList.{TypeList}
use Rattle.gu_rec.specs.Sub.{distance, IsSub, IsLeastCommon, HaveNoCommon, IsNoBottom}
use Rattle.gu_rec.specs.Validity.{IndicesHold}
use Rattle.gu_rec.proofs.Decided.{is_sub_sound}
use Rattle.gu_contents.specs.declared.content.Core.{Core}
use Rattle.gu_contents.specs.declared.content.Core.TheVariants.{Bottom, Func, Global, Cone}
use Rattle.gu_contents.specs.declared.content.Content.{Content}
use Rattle.gu_contents.specs.declared.content.Content.TheVariants.{Empty, I32, I64, NumGlobal, Many, Ref, Top}
use Rattle.gu_contents.specs.declared.facts.Facts.{Facts}
use Rattle.gu_contents.specs.Contents.{cone_of, eq_core, eq_content}
use Rattle.gu_contents.specs.Join.{common, edges, cone_under, join_cones, join_cores, refs_or_top, join_numbers, join}
use Rattle.gu_contents.specs.Belongs.{IsCone, CoreBelongs, Occurs, Belongs}
use Rattle.gu_contents.specs.Laws.{JoinIsLeast}
use Rattle.gu_contents.proofs.Heaps.{distance_adds, distance_self, sub_distance}
use Rattle.gu_contents.proofs.Heights.{height_adds}
use Rattle.gu_contents.proofs.Common.{sub_far, common_exact, common_above}
use Rattle.gu_contents.proofs.Cones.{is_head}
use Rattle.gu_contents.proofs.Lattice.{core_sound, core_own, content_sound, content_own, StandsFor, HasCone, none, some, has_cone, LiesIn, CoreBelow, least, same, lies, is_number, Below, nothing, everything, equal, number, refs, below, holds}
use Rattle.gu_contents.proofs.OrderLaw.{same_cone}

sub_of : (list : TypeList) → IndicesHold list → (a c : HeapType) (k : ℕ) → IsNoBottom a → distance list c a ≡ Some k → IsSub list a c
sub_of list hold a c k n e = is_sub_sound list hold a c (sub_distance list hold a c n ∙ ap is_some e)

-- two cores that are not the same stand for cones whose heads have a least common supertype
pub record Over (f : Facts) (c d : Core) : Type 0 where
  pub a : HeapType
  pub i : ℕ
  pub first : StandsFor f c a i
  pub b : HeapType
  pub e : ℕ
  pub second : StandsFor f d b e
  pub apart : c ≡ d → ⊥
  pub head : HeapType
  pub found : common f.types a b ≡ Some head

-- or have none
pub record Without (f : Facts) (c d : Core) : Type 0 where
  pub a : HeapType
  pub i : ℕ
  pub first : StandsFor f c a i
  pub b : HeapType
  pub e : ℕ
  pub second : StandsFor f d b e
  pub apart : c ≡ d → ⊥
  pub missed : common f.types a b ≡ None

abbrev pub cone_over : (f : Facts) (c d : Core) → Over f c d → Core
cone_over f c d o = cone_under f.types o.a o.i o.b o.e o.head

-- what the join of two cores is
pub data CoreJoins (f : Facts) (c d : Core) (joined : Option Core) : Type 0 where
  left : c ≡ Bottom → joined ≡ Some d → CoreJoins f c d joined
  right : d ≡ Bottom → joined ≡ Some c → CoreJoins f c d joined
  alike : c ≡ d → joined ≡ Some c → CoreJoins f c d joined
  over : (o : Over f c d) → joined ≡ Some (cone_over f c d o) → CoreJoins f c d joined
  without : Without f c d → joined ≡ None → CoreJoins f c d joined

abbrev tested : Facts → Core → Core → Bool → Option Core
tested f c d b = if b then Some c else join_cones f (cone_of f c) (cone_of f d)

join_tested : (f : Facts) (c d : Core) → (c ≡ Bottom → ⊥) → (d ≡ Bottom → ⊥) → join_cores f c d ≡ tested f c d (eq_core c d)
join_tested f Bottom d h k = absurd (h refl)
join_tested f c Bottom h k = absurd (k refl)
join_tested f _ _ h k = refl

pub stands_no_bottom : (f : Facts) (c : Core) (a : HeapType) (i : ℕ) → StandsFor f c a i → c ≡ Bottom → ⊥
stands_no_bottom f c a i s e = let z : Bottom ≡ Cone a i = sym (ap (cone_of f) e) ∙ s.is in cc

both_stand : (f : Facts) (c d : Core) (a : HeapType) (i : ℕ) (b : HeapType) (e : ℕ) → StandsFor f c a i → StandsFor f d b e → CoreJoins f c d (join_cores f c d)
both_stand f c d a i b e s t = by_test (eq_core c d) (common f.types a b) refl refl
  where
    is : (v : Bool) → eq_core c d ≡ v → join_cores f c d ≡ tested f c d v
    is v h = join_tested f c d (stands_no_bottom f c a i s) (stands_no_bottom f d b e t) ∙ ap (tested f c d) h

    cones : (v : Option HeapType) → eq_core c d ≡ false → common f.types a b ≡ v → join_cores f c d ≡ option_map (cone_under f.types a i b e) v
    cones v h k = is false h ∙ (ap₂ (join_cones f) s.is t.is ∙ ap (option_map (cone_under f.types a i b e)) k)

    apart : eq_core c d ≡ false → c ≡ d → ⊥
    apart h q = true≢false (sym (core_own c) ∙ (ap (eq_core c) q ∙ h))

    by_test : (v : Bool) (w : Option HeapType) → eq_core c d ≡ v → common f.types a b ≡ w → CoreJoins f c d (join_cores f c d)
    by_test true w h k = alike (core_sound c d h) (is true h)
    by_test false (Some head) h k = over (record { a = a; i = i; first = s; b = b; e = e; second = t; apart = apart h; head = head; found = k }) (cones (Some head) h k)
    by_test false None h k = without (record { a = a; i = i; first = s; b = b; e = e; second = t; apart = apart h; missed = k }) (cones None h k)

right_bottom : (f : Facts) (c : Core) → join_cores f c Bottom ≡ Some c
right_bottom f Bottom = refl
right_bottom f (Func g) = refl
right_bottom f (Global g) = refl
right_bottom f (Cone a i) = refl

pub core_joins : (f : Facts) (c d : Core) → CoreBelongs f c → CoreBelongs f d → CoreJoins f c d (join_cores f c d)
core_joins f c d i j = by_cones (has_cone f c i) (has_cone f d j)
  where
    by_cones : HasCone f c → HasCone f d → CoreJoins f c d (join_cores f c d)
    by_cones (none e) k = left e (ap (λ x. join_cores f x d) e)
    by_cones (some a i s) (none e) = right e (ap (join_cores f c) e ∙ right_bottom f c)
    by_cones (some a i s) (some b e t) = both_stand f c d a i b e s t

-- the cone over two cores is one of the module's types, and they lie in it
over_cone : (f : Facts) (c d : Core) (o : Over f c d) → IsCone f o.head (max (edges f.types o.head o.a + o.i) (edges f.types o.head o.b + o.e))
over_cone f c d o =
    let w = common_above f.types f.hold o.a o.b o.head (is_head f o.a o.i o.first.cone) (is_head f o.b o.e o.second.cone) o.found in
    let x : edges f.types o.head o.a ≡ w.first = ap (λ v. unwrap_or v 0) w.first_is in
    let y : edges f.types o.head o.b ≡ w.second = ap (λ v. unwrap_or v 0) w.second_is in
    let p = height_adds f.types f.hold o.head o.a w.first (is_head f o.a o.i o.first.cone) w.first_is in
    let q = height_adds f.types f.hold o.head o.b w.second (is_head f o.b o.e o.second.cone) w.second_is in
    let m = o.first.cone.capped in
    let n = o.second.cone.capped in
    record { is_heap = w.in_range; no_bottom = w.no_bottom; least = w.least; capped = omega arith }

first_in : (f : Facts) (c d : Core) (o : Over f c d) → LiesIn f c (cone_over f c d o)
first_in f c d o =
    let w = common_above f.types f.hold o.a o.b o.head (is_head f o.a o.i o.first.cone) (is_head f o.b o.e o.second.cone) o.found in
    let x : edges f.types o.head o.a ≡ w.first = ap (λ v. unwrap_or v 0) w.first_is in
    record { head = o.a; depth = o.i; inner = o.first; above = o.head; deep = max (edges f.types o.head o.a + o.i) (edges f.types o.head o.b + o.e); outer = refl; edges = w.first; far = w.first_is; room = omega arith }

second_in : (f : Facts) (c d : Core) (o : Over f c d) → LiesIn f d (cone_over f c d o)
second_in f c d o =
    let w = common_above f.types f.hold o.a o.b o.head (is_head f o.a o.i o.first.cone) (is_head f o.b o.e o.second.cone) o.found in
    let y : edges f.types o.head o.b ≡ w.second = ap (λ v. unwrap_or v 0) w.second_is in
    record { head = o.b; depth = o.e; inner = o.second; above = o.head; deep = max (edges f.types o.head o.a + o.i) (edges f.types o.head o.b + o.e); outer = refl; edges = w.second; far = w.second_is; room = omega arith }

core_first : (f : Facts) (c d j : Core) (joined : Option Core) → joined ≡ Some j → CoreJoins f c d joined → CoreBelow f c j
core_first f c d j joined h (left e k) = least e
core_first f c d j joined h (right e k) = let z : Some c ≡ Some j = sym k ∙ h in same cc
core_first f c d j joined h (alike e k) = let z : Some c ≡ Some j = sym k ∙ h in same cc
core_first f c d j joined h (over o k) = let z : Some (cone_over f c d o) ≡ Some j = sym k ∙ h in let y : cone_over f c d o ≡ j = cc in subst (CoreBelow f c) y (lies (first_in f c d o))
core_first f c d j joined h (without w k) = let z : None ≡ Some j = sym k ∙ h in cc

core_second : (f : Facts) (c d j : Core) (joined : Option Core) → joined ≡ Some j → CoreJoins f c d joined → CoreBelow f d j
core_second f c d j joined h (left e k) = let z : Some d ≡ Some j = sym k ∙ h in same cc
core_second f c d j joined h (right e k) = least e
core_second f c d j joined h (alike e k) = let z : Some c ≡ Some j = sym k ∙ h in same cc
core_second f c d j joined h (over o k) = let z : Some (cone_over f c d o) ≡ Some j = sym k ∙ h in let y : cone_over f c d o ≡ j = cc in subst (CoreBelow f d) y (lies (second_in f c d o))
core_second f c d j joined h (without w k) = let z : None ≡ Some j = sym k ∙ h in cc

-- a core that stands for a cone and is at most a cone lies in it
lies_in : (f : Facts) (c u : Core) (a : HeapType) (i : ℕ) (b : HeapType) (e : ℕ) → StandsFor f c a i → u ≡ Cone b e → CoreBelow f c u → LiesIn f c u
lies_in f c u a i b e s k (least h) = absurd (stands_no_bottom f c a i s h)
lies_in f c u a i b e s k (lies l) = l
lies_in f c u a i b e s k (same h) =
    let q = same_cone f c b e a i (h ∙ k) s in
    let p : b ≡ a = cc in
    let d : e ≡ i = cc in
    record { head = a; depth = i; inner = s; above = b; deep = e; outer = k; edges = 0; far = ap (distance f.types b) (sym p) ∙ distance_self f.types f.hold b; room = omega arith }

-- both cores of two that are not the same lie in each core that is at least both
pub record BothIn (f : Facts) (c d u : Core) : Type 0 where
  pub first : LiesIn f c u
  pub second : LiesIn f d u

both_in : (f : Facts) (c d u : Core) (a : HeapType) (i : ℕ) (b : HeapType) (e : ℕ) → StandsFor f c a i → StandsFor f d b e → (c ≡ d → ⊥) → CoreBelow f c u → CoreBelow f d u → BothIn f c d u
both_in f c d u a i b e s t n (least h) k = absurd (stands_no_bottom f c a i s h)
both_in f c d u a i b e s t n (same h) (least k) = absurd (stands_no_bottom f d b e t k)
both_in f c d u a i b e s t n (same h) (same k) = absurd (n (h ∙ sym k))
both_in f c d u a i b e s t n (same h) (lies m) = record { first = lies_in f c u a i m.above m.deep s m.outer (same h); second = m }
both_in f c d u a i b e s t n (lies l) k = record { first = l; second = lies_in f d u b e l.above l.deep t l.outer k }

-- where a core stands for one cone, it lies in another by that
pub record InBy (f : Facts) (a : HeapType) (i : ℕ) (u : Core) : Type 0 where
  pub above : HeapType
  pub deep : ℕ
  pub outer : u ≡ Cone above deep
  pub edges : ℕ
  pub far : distance f.types above a ≡ Some edges
  pub room : edges + i ≤ deep

pub in_by : (f : Facts) (c u : Core) (a : HeapType) (i : ℕ) → StandsFor f c a i → LiesIn f c u → InBy f a i u
in_by f c u a i s l =
    let q : Cone l.head l.depth ≡ Cone a i = sym l.inner.is ∙ s.is in
    let p : l.head ≡ a = cc in
    let d : l.depth ≡ i = cc in
    let r = l.room in
    record { above = l.above; deep = l.deep; outer = l.outer; edges = l.edges; far = ap (distance f.types l.above) (sym p) ∙ l.far; room = omega arith }

common_least : (f : Facts) (c d : Core) (o : Over f c d) → IsLeastCommon f.types o.a o.b o.head
common_least f c d o =
    let s = o.first.cone in
    let t = o.second.cone in
    subst (λ v. MatchOption v (HaveNoCommon f.types o.a o.b) (IsLeastCommon f.types o.a o.b)) o.found (common_exact f.types f.hold o.a o.b s.is_heap t.is_heap s.no_bottom)

pub same_edges : (o : Option ℕ) (m n : ℕ) → o ≡ Some m → o ≡ Some n → m ≡ n
same_edges o m n h k = let z : Some m ≡ Some n = sym h ∙ k in cc

nearest : (f : Facts) (c d u : Core) (o : Over f c d) → InBy f o.a o.i u → InBy f o.b o.e u → LiesIn f (cone_over f c d o) u
nearest f c d u o l m =
    let q : Cone l.above l.deep ≡ Cone m.above m.deep = sym l.outer ∙ m.outer in
    let p : m.above ≡ l.above = cc in
    let v : m.deep ≡ l.deep = cc in
    let s = o.first.cone in
    let t = o.second.cone in
    let far : distance f.types l.above o.b ≡ Some m.edges = ap (λ x. distance f.types x o.b) (sym p) ∙ m.far in
    let x = (common_least f c d o).least l.above (sub_of f.types f.hold o.a l.above l.edges s.no_bottom l.far) (sub_of f.types f.hold o.b l.above m.edges t.no_bottom far) in
    let w = common_above f.types f.hold o.a o.b o.head (is_head f o.a o.i s) (is_head f o.b o.e t) o.found in
    let z = sub_far f.types f.hold o.head l.above w.no_bottom x in
    let one = same_edges (distance f.types l.above o.a) l.edges (w.first + z.edges) l.far (distance_adds f.types f.hold o.a o.head l.above w.first z.edges w.first_is z.is) in
    let two = same_edges (distance f.types l.above o.b) m.edges (w.second + z.edges) far (distance_adds f.types f.hold o.b o.head l.above w.second z.edges w.second_is z.is) in
    let three : edges f.types o.head o.a ≡ w.first = ap (λ n. unwrap_or n 0) w.first_is in
    let four : edges f.types o.head o.b ≡ w.second = ap (λ n. unwrap_or n 0) w.second_is in
    let k = l.room in
    let j = m.room in
    record {
      head = o.head;
      depth = max (edges f.types o.head o.a + o.i) (edges f.types o.head o.b + o.e);
      inner = record { is = refl; cone = over_cone f c d o };
      above = l.above;
      deep = l.deep;
      outer = l.outer;
      edges = z.edges;
      far = z.is;
      room = omega arith;
    }

core_over : (f : Facts) (c d u : Core) (o : Over f c d) → CoreBelow f c u → CoreBelow f d u → LiesIn f (cone_over f c d o) u
core_over f c d u o h k =
    let b = both_in f c d u o.a o.i o.b o.e o.first o.second o.apart h k in
    nearest f c d u o (in_by f c u o.a o.i o.first b.first) (in_by f d u o.b o.e o.second b.second)

core_least : (f : Facts) (c d j u : Core) (joined : Option Core) → joined ≡ Some j → CoreJoins f c d joined → CoreBelow f c u → CoreBelow f d u → CoreBelow f j u
core_least f c d j u joined h (left e k) x y = let z : Some d ≡ Some j = sym k ∙ h in let q : d ≡ j = cc in subst (λ w. CoreBelow f w u) q y
core_least f c d j u joined h (right e k) x y = let z : Some c ≡ Some j = sym k ∙ h in let q : c ≡ j = cc in subst (λ w. CoreBelow f w u) q x
core_least f c d j u joined h (alike e k) x y = let z : Some c ≡ Some j = sym k ∙ h in let q : c ≡ j = cc in subst (λ w. CoreBelow f w u) q x
core_least f c d j u joined h (over o k) x y =
    let z : Some (cone_over f c d o) ≡ Some j = sym k ∙ h in
    let q : cone_over f c d o ≡ j = cc in
    subst (λ w. CoreBelow f w u) q (lies (core_over f c d u o x y))
core_least f c d j u joined h (without w k) x y = let z : None ≡ Some j = sym k ∙ h in cc

no_common : (f : Facts) (c d u : Core) → Without f c d → CoreBelow f c u → CoreBelow f d u → ⊥
no_common f c d u w h k =
    let s = w.first.cone in
    let t = w.second.cone in
    let v = common_exact f.types f.hold w.a w.b s.is_heap t.is_heap s.no_bottom in
    let none : HaveNoCommon f.types w.a w.b = subst (λ o. MatchOption o (HaveNoCommon f.types w.a w.b) (IsLeastCommon f.types w.a w.b)) w.missed v in
    let b = both_in f c d u w.a w.i w.b w.e w.first w.second w.apart h k in
    let l = in_by f c u w.a w.i w.first b.first in
    let m = in_by f d u w.b w.e w.second b.second in
    let q : Cone l.above l.deep ≡ Cone m.above m.deep = sym l.outer ∙ m.outer in
    let p : m.above ≡ l.above = cc in
    none l.above (sub_of f.types f.hold w.a l.above l.edges s.no_bottom l.far) (sub_of f.types f.hold w.b l.above m.edges t.no_bottom (ap (λ x. distance f.types x w.b) (sym p) ∙ m.far))

core_none : (f : Facts) (c d u : Core) (joined : Option Core) → joined ≡ None → CoreJoins f c d joined → CoreBelow f c u → CoreBelow f d u → ⊥
core_none f c d u joined h (left e k) x y = let z : None ≡ Some d = sym h ∙ k in cc
core_none f c d u joined h (right e k) x y = let z : None ≡ Some c = sym h ∙ k in cc
core_none f c d u joined h (alike e k) x y = let z : None ≡ Some c = sym h ∙ k in cc
core_none f c d u joined h (over o k) x y = let z : None ≡ Some (cone_over f c d o) = sym h ∙ k in cc
core_none f c d u joined h (without w k) x y = no_common f c d u w x y

core_join_belongs : (f : Facts) (c d j : Core) (joined : Option Core) → joined ≡ Some j → CoreJoins f c d joined → CoreBelongs f c → CoreBelongs f d → CoreBelongs f j
core_join_belongs f c d j joined h (left e k) x y = let z : Some d ≡ Some j = sym k ∙ h in let q : d ≡ j = cc in subst (CoreBelongs f) q y
core_join_belongs f c d j joined h (right e k) x y = let z : Some c ≡ Some j = sym k ∙ h in let q : c ≡ j = cc in subst (CoreBelongs f) q x
core_join_belongs f c d j joined h (alike e k) x y = let z : Some c ≡ Some j = sym k ∙ h in let q : c ≡ j = cc in subst (CoreBelongs f) q x
core_join_belongs f c d j joined h (over o k) x y =
    let z : Some (cone_over f c d o) ≡ Some j = sym k ∙ h in
    let q : cone_over f c d o ≡ j = cc in
    subst (CoreBelongs f) q (over_cone f c d o)
core_join_belongs f c d j joined h (without w k) x y = let z : None ≡ Some j = sym k ∙ h in cc

-- what is at least all values
top_only : (f : Facts) (u : Content) → Below f Top u → u ≡ Top
top_only f u (nothing e) = cc
top_only f u (everything e) = e
top_only f u (equal e) = sym e
top_only f u (number n e) = cc
top_only f u (refs r) = let z : Top ≡ Ref r.null r.core = r.first in cc

-- what is at least a number holds numbers, or all values
number_only : (f : Facts) (a u : Content) → is_number a ≡ true → Below f a u → (is_number u ≡ true) ⊎ (u ≡ Top)
number_only f a u n (nothing e) = let z : false ≡ true = sym (ap is_number e) ∙ n in cc
number_only f a u n (everything e) = inr e
number_only f a u n (equal e) = inl (sym (ap is_number e) ∙ n)
number_only f a u n (number m e) = inl (ap is_number e)
number_only f a u n (refs r) = let z : false ≡ true = sym (ap is_number r.first) ∙ n in cc

-- references that are at least others
pub record RefsOver (f : Facts) (n : Bool) (c : Core) (u : Content) : Type 0 where
  pub null : Bool
  pub core : Core
  pub is : u ≡ Ref null core
  pub nulls : (not n || null) ≡ true
  pub cores : CoreBelow f c core

pub own_null : (n : Bool) → (not n || n) ≡ true
own_null true = refl
own_null false = refl

-- what is at least references is such, or all values
pub refs_only : (f : Facts) (n : Bool) (c : Core) (u : Content) → Below f (Ref n c) u → RefsOver f n c u ⊎ (u ≡ Top)
refs_only f n c u (nothing e) = cc
refs_only f n c u (everything e) = inr e
refs_only f n c u (equal e) = inl (record { null = n; core = c; is = sym e; nulls = own_null n; cores = same refl })
refs_only f n c u (number m e) = cc
refs_only f n c u (refs r) =
    let q : Ref n c ≡ Ref r.null r.core = r.first in
    let p : r.null ≡ n = cc in
    let d : r.core ≡ c = cc in
    inl (record { null = r.null_above; core = r.core_above; is = r.second; nulls = ap (λ x. not x || r.null_above) (sym p) ∙ r.nulls; cores = subst (λ x. CoreBelow f x r.core_above) d r.cores })

-- what the join of two contents is
pub record RefsJoin (f : Facts) (a b j : Content) : Type 0 where
  pub n : Bool
  pub c : Core
  pub m : Bool
  pub d : Core
  pub first : a ≡ Ref n c
  pub second : b ≡ Ref m d
  pub joined : Option Core
  pub cores : CoreJoins f c d joined
  pub is : j ≡ refs_or_top (n || m) joined

pub data Joins (f : Facts) (a b j : Content) : Type 0 where
  first_none : a ≡ Empty → j ≡ b → Joins f a b j
  second_none : b ≡ Empty → j ≡ a → Joins f a b j
  no_other : a ≡ b → j ≡ a → Joins f a b j
  only_top : j ≡ Top → ((u : Content) → Below f a u → Below f b u → u ≡ Top) → Joins f a b j
  numbers : is_number a ≡ true → is_number b ≡ true → (a ≡ b → ⊥) → j ≡ Many → Joins f a b j
  references : RefsJoin f a b j → Joins f a b j

numbers_join : (f : Facts) (a b : Content) → is_number a ≡ true → is_number b ≡ true → Joins f a b (join_numbers a b)
numbers_join f a b h k = by_test (eq_content a b) refl
  where
    by_test : (v : Bool) → eq_content a b ≡ v → Joins f a b (join_numbers a b)
    by_test true e = no_other (content_sound a b e) (ap (λ v. if v then a else Many) e)
    by_test false e = numbers h k (λ q. true≢false (sym (content_own a) ∙ (ap (eq_content a) q ∙ e))) (ap (λ v. if v then a else Many) e)

apart_kinds : (f : Facts) (a : Content) (n : Bool) (c : Core) (u : Content) → is_number a ≡ true → Below f a u → Below f (Ref n c) u → u ≡ Top
apart_kinds f a n c u h x y =
    elim (number_only f a u h x) as (λ _. u ≡ Top) [
      | inl e ↦ elim (refs_only f n c u y) as (λ _. u ≡ Top) [ inl r ↦ let z : false ≡ true = sym (ap is_number r.is) ∙ e in cc | inr q ↦ q ]
      | inr e ↦ e
    ]

number_refs : (f : Facts) (a : Content) (n : Bool) (c : Core) → is_number a ≡ true → Joins f a (Ref n c) Top
number_refs f a n c h = only_top refl (λ u x y. apart_kinds f a n c u h x y)

refs_number : (f : Facts) (n : Bool) (c : Core) (b : Content) → is_number b ≡ true → Joins f (Ref n c) b Top
refs_number f n c b h = only_top refl (λ u x y. apart_kinds f b n c u h y x)

second_empty : (f : Facts) (a : Content) → join f a Empty ≡ a
unfolding join
second_empty f Empty = refl
second_empty f (I32 v) = refl
second_empty f (I64 v) = refl
second_empty f (NumGlobal g) = refl
second_empty f Many = refl
second_empty f (Ref n c) = refl
second_empty f Top = refl

pub joins : (f : Facts) (a b : Content) → Belongs f a → Belongs f b → Joins f a b (join f a b)
unfolding join
joins f Empty b i j = first_none refl refl
joins f a Empty i j = second_none refl (second_empty f a)
joins f Top b i j = only_top refl (λ u x y. top_only f u x)
joins f a Top i j = only_top refl (λ u x y. top_only f u y)
joins f (Ref n c) (Ref m d) i j = references (record { n = n; c = c; m = m; d = d; first = refl; second = refl; joined = join_cores f c d; cores = core_joins f c d i.1 j.1; is = refl })
joins f (Ref n c) b i j = refs_number f n c b refl
joins f a (Ref m d) i j = number_refs f a m d refl
joins f a b i j = numbers_join f a b refl refl

left_null : (n m : Bool) → (not n || (n || m)) ≡ true
left_null true m = refl
left_null false m = refl

right_null : (n m : Bool) → (not m || (n || m)) ≡ true
right_null n false = refl
right_null true true = refl
right_null false true = refl

both_null : (n m k : Bool) → (not n || k) ≡ true → (not m || k) ≡ true → (not (n || m) || k) ≡ true
both_null true m k h g = h
both_null false m k h g = g

refs_first : (f : Facts) (a b j : Content) (r : RefsJoin f a b j) → Below f a j
refs_first f a b j r = by_joined r.joined refl
  where
    by_joined : (o : Option Core) → r.joined ≡ o → Below f a j
    by_joined None e = everything (r.is ∙ ap (refs_or_top (r.n || r.m)) e)
    by_joined (Some core) e =
        refs (record { null = r.n; core = r.c; null_above = r.n || r.m; core_above = core; first = r.first; second = r.is ∙ ap (refs_or_top (r.n || r.m)) e; nulls = left_null r.n r.m; cores = core_first f r.c r.d core r.joined e r.cores })

refs_second : (f : Facts) (a b j : Content) (r : RefsJoin f a b j) → Below f b j
refs_second f a b j r = by_joined r.joined refl
  where
    by_joined : (o : Option Core) → r.joined ≡ o → Below f b j
    by_joined None e = everything (r.is ∙ ap (refs_or_top (r.n || r.m)) e)
    by_joined (Some core) e =
        refs (record { null = r.m; core = r.d; null_above = r.n || r.m; core_above = core; first = r.second; second = r.is ∙ ap (refs_or_top (r.n || r.m)) e; nulls = right_null r.n r.m; cores = core_second f r.c r.d core r.joined e r.cores })

refs_between : (f : Facts) (a b j u : Content) (r : RefsJoin f a b j) → RefsOver f r.n r.c u → RefsOver f r.m r.d u → Below f j u
refs_between f a b j u r s t = by_joined r.joined refl
  where
    is_core : t.core ≡ s.core
    is_core = let q : Ref s.null s.core ≡ Ref t.null t.core = sym s.is ∙ t.is in cc

    is_null : t.null ≡ s.null
    is_null = let q : Ref s.null s.core ≡ Ref t.null t.core = sym s.is ∙ t.is in cc

    other : CoreBelow f r.d s.core
    other = subst (CoreBelow f r.d) is_core t.cores

    by_joined : (o : Option Core) → r.joined ≡ o → Below f j u
    by_joined None e = absurd (core_none f r.c r.d s.core r.joined e r.cores s.cores other)
    by_joined (Some core) e =
        refs (record {
          null = r.n || r.m;
          core = core;
          null_above = s.null;
          core_above = s.core;
          first = r.is ∙ ap (refs_or_top (r.n || r.m)) e;
          second = s.is;
          nulls = both_null r.n r.m s.null s.nulls (ap (λ x. not r.m || x) (sym is_null) ∙ t.nulls);
          cores = core_least f r.c r.d core s.core r.joined e r.cores s.cores other;
        })

refs_least : (f : Facts) (a b j u : Content) (r : RefsJoin f a b j) → Below f a u → Below f b u → Below f j u
refs_least f a b j u r x y =
    elim (refs_only f r.n r.c u (subst (λ z. Below f z u) r.first x)) as (λ _. Below f j u) [
      | inl s ↦ elim (refs_only f r.m r.d u (subst (λ z. Below f z u) r.second y)) as (λ _. Below f j u) [ inl t ↦ refs_between f a b j u r s t | inr e ↦ everything e ]
      | inr e ↦ everything e
    ]

number_between : (f : Facts) (a u : Content) → is_number a ≡ true → Below f a u → (a ≡ u) ⊎ ((u ≡ Many) ⊎ (u ≡ Top))
number_between f a u n (nothing e) = let z : false ≡ true = sym (ap is_number e) ∙ n in cc
number_between f a u n (everything e) = inr (inr e)
number_between f a u n (equal e) = inl e
number_between f a u n (number m e) = inr (inl e)
number_between f a u n (refs r) = let z : false ≡ true = sym (ap is_number r.first) ∙ n in cc

numbers_least : (f : Facts) (a b j u : Content) → (a ≡ b → ⊥) → j ≡ Many → (a ≡ u) ⊎ ((u ≡ Many) ⊎ (u ≡ Top)) → (b ≡ u) ⊎ ((u ≡ Many) ⊎ (u ≡ Top)) → Below f j u
numbers_least f a b j u n e (inl x) (inl y) = absurd (n (x ∙ sym y))
numbers_least f a b j u n e (inl x) (inr (inl y)) = equal (e ∙ sym y)
numbers_least f a b j u n e (inl x) (inr (inr y)) = everything y
numbers_least f a b j u n e (inr (inl x)) y = equal (e ∙ sym x)
numbers_least f a b j u n e (inr (inr x)) y = everything x

joins_first : (f : Facts) (a b j : Content) → Joins f a b j → Below f a j
joins_first f a b j (first_none e k) = nothing e
joins_first f a b j (second_none e k) = equal (sym k)
joins_first f a b j (no_other e k) = equal (sym k)
joins_first f a b j (only_top e g) = everything e
joins_first f a b j (numbers h k n e) = number h e
joins_first f a b j (references r) = refs_first f a b j r

joins_second : (f : Facts) (a b j : Content) → Joins f a b j → Below f b j
joins_second f a b j (first_none e k) = equal (sym k)
joins_second f a b j (second_none e k) = nothing e
joins_second f a b j (no_other e k) = equal (sym e ∙ sym k)
joins_second f a b j (only_top e g) = everything e
joins_second f a b j (numbers h k n e) = number k e
joins_second f a b j (references r) = refs_second f a b j r

joins_least : (f : Facts) (a b j u : Content) → Joins f a b j → Below f a u → Below f b u → Below f j u
joins_least f a b j u (first_none e k) x y = subst (λ z. Below f z u) (sym k) y
joins_least f a b j u (second_none e k) x y = subst (λ z. Below f z u) (sym k) x
joins_least f a b j u (no_other e k) x y = subst (λ z. Below f z u) (sym k) x
joins_least f a b j u (only_top e g) x y = everything (g u x y)
joins_least f a b j u (numbers h k n e) x y = numbers_least f a b j u n e (number_between f a u h x) (number_between f b u k y)
joins_least f a b j u (references r) x y = refs_least f a b j u r x y

pub join_is_least : (f : Facts) → JoinIsLeast f
join_is_least f = record {
  first = λ a b i j. holds f a (join f a b) (joins_first f a b (join f a b) (joins f a b i j));
  second = λ a b i j. holds f b (join f a b) (joins_second f a b (join f a b) (joins f a b i j));
  least = λ a b c i j k x y. holds f (join f a b) c (joins_least f a b (join f a b) c (joins f a b i j) (below f a c i x) (below f b c j y));
}

occurs_bottom : (n : Bool) (c : Core) → Occurs n c → c ≡ Bottom → n ≡ true
occurs_bottom true c h e = refl
occurs_bottom false c h e = absurd (subst (Occurs false) e h)

occurs_joined : (n m : Bool) (c d j : Core) → Occurs n c → Occurs m d → (j ≡ Bottom → (c ≡ Bottom) × (d ≡ Bottom)) → Occurs (n || m) j
occurs_joined true m c d j h k g = tt
occurs_joined false true c d j h k g = tt
occurs_joined false false c d Bottom h k g = subst (Occurs false) (g refl).0 h
occurs_joined false false c d (Func f) h k g = tt
occurs_joined false false c d (Global f) h k g = tt
occurs_joined false false c d (Cone a i) h k g = tt

bottom_joined : (f : Facts) (c d j : Core) (joined : Option Core) → joined ≡ Some j → CoreJoins f c d joined → j ≡ Bottom → (c ≡ Bottom) × (d ≡ Bottom)
bottom_joined f c d j joined h (left e k) q = let z : Some d ≡ Some j = sym k ∙ h in (e, cc)
bottom_joined f c d j joined h (right e k) q = let z : Some c ≡ Some j = sym k ∙ h in (cc, e)
bottom_joined f c d j joined h (alike e k) q = let z : Some c ≡ Some j = sym k ∙ h in (cc, cc)
bottom_joined f c d j joined h (over o k) q =
    let z : Some (cone_over f c d o) ≡ Some j = sym k ∙ h in
    let y : cone_over f c d o ≡ j = cc in
    absurd (no_bottom_over f c d o (y ∙ q))
  where
    no_bottom_over : (f : Facts) (c d : Core) (o : Over f c d) → cone_over f c d o ≡ Bottom → ⊥
    no_bottom_over f c d o e = cc
bottom_joined f c d j joined h (without w k) q = let z : None ≡ Some j = sym k ∙ h in cc

refs_belong : (f : Facts) (a b j : Content) → RefsJoin f a b j → Belongs f a → Belongs f b → Belongs f j
refs_belong f a b j r x y = by_joined r.joined refl (subst (Belongs f) r.first x) (subst (Belongs f) r.second y)
  where
    by_joined : (o : Option Core) → r.joined ≡ o → Belongs f (Ref r.n r.c) → Belongs f (Ref r.m r.d) → Belongs f j
    by_joined None e p q = subst (Belongs f) (sym (r.is ∙ ap (refs_or_top (r.n || r.m)) e)) tt
    by_joined (Some core) e p q =
        subst (Belongs f) (sym (r.is ∙ ap (refs_or_top (r.n || r.m)) e))
        (occurs_joined r.n r.m r.c r.d core p.0 q.0 (bottom_joined f r.c r.d core r.joined e r.cores), core_join_belongs f r.c r.d core r.joined e r.cores p.1 q.1)

joins_belong : (f : Facts) (a b j : Content) → Joins f a b j → Belongs f a → Belongs f b → Belongs f j
joins_belong f a b j (first_none e k) x y = subst (Belongs f) (sym k) y
joins_belong f a b j (second_none e k) x y = subst (Belongs f) (sym k) x
joins_belong f a b j (no_other e k) x y = subst (Belongs f) (sym k) x
joins_belong f a b j (only_top e g) x y = subst (Belongs f) (sym e) tt
joins_belong f a b j (numbers h k n e) x y = subst (Belongs f) (sym e) tt
joins_belong f a b j (references r) x y = refs_belong f a b j r x y

-- the join of contents that belong to the facts does
pub join_belongs : (f : Facts) (a b : Content) → Belongs f a → Belongs f b → Belongs f (join f a b)
join_belongs f a b i j = joins_belong f a b (join f a b) (joins f a b i j) i j
