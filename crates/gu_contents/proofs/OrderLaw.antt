-- The order of contents is one.
use Rattle.std.proofs.Common.{◌≡◌, ℕ, ◌+◌, Bool, true, false, not, ◌||◌, Some, refl, ap, ap₂, sym, ◌∙◌, subst, arith}
use Rattle.gu_types.specs.declared.types.HeapType.{HeapType}
use Rattle.gu_rec.specs.Sub.{distance, IsLeastIndex}
use Rattle.gu_contents.specs.declared.content.Core.{Core}
use Rattle.gu_contents.specs.declared.content.Core.TheVariants.{Bottom, Cone}
use Rattle.gu_contents.specs.declared.content.Content.{Content}
use Rattle.gu_contents.specs.declared.content.Content.TheVariants.{Empty, Many, Ref, Top}
use Rattle.gu_contents.specs.declared.facts.Facts.{Facts}
use Rattle.gu_contents.specs.Contents.{cone_of}
use Rattle.gu_contents.specs.Order.{AtMost}
use Rattle.gu_contents.specs.Belongs.{Belongs}
use Rattle.gu_contents.specs.Laws.{IsOrder}
use Rattle.gu_contents.proofs.Heaps.{distance_adds, distance_back, distance_zero, one_index}
use Rattle.gu_contents.proofs.Lattice.{StandsFor, LiesIn, CoreBelow, least, same, lies, is_number, RefsBelow, Below, nothing, everything, equal, number, refs, below, holds, self_below}

-- a cone that a core is, and one that it stands for, are one
pub same_cone : (f : Facts) (d : Core) (b : HeapType) (e : ℕ) (a : HeapType) (i : ℕ) → d ≡ Cone b e → StandsFor f d a i → Cone b e ≡ Cone a i
same_cone f d b e a i h s = ap (cone_of f) (sym h) ∙ s.is

-- a cone in a cone in a cone
lies_on : (f : Facts) (c d e : Core) → LiesIn f c d → LiesIn f d e → LiesIn f c e
lies_on f c d e l m =
    let q = same_cone f d l.above l.deep m.head m.depth l.outer m.inner in
    let p : m.head ≡ l.above = cc in
    let n : m.depth ≡ l.deep = cc in
    let g : distance f.types m.above l.above ≡ Some m.edges = ap (distance f.types m.above) (sym p) ∙ m.far in
    let w = l.room in
    let v = m.room in
    record {
      head = l.head;
      depth = l.depth;
      inner = l.inner;
      above = m.above;
      deep = m.deep;
      outer = m.outer;
      edges = l.edges + m.edges;
      far = distance_adds f.types f.hold l.head l.above m.above l.edges m.edges l.far g;
      room = omega arith;
    }

pub core_goes_on : (f : Facts) (c d e : Core) → CoreBelow f c d → CoreBelow f d e → CoreBelow f c e
core_goes_on f c d e (least p) k = least p
core_goes_on f c d e (same p) k = subst (λ x. CoreBelow f x e) (sym p) k
core_goes_on f c d e (lies l) (least p) = let q : Bottom ≡ Cone l.above l.deep = sym p ∙ l.outer in cc
core_goes_on f c d e (lies l) (same p) = subst (λ x. CoreBelow f c x) p (lies l)
core_goes_on f c d e (lies l) (lies m) = lies (lies_on f c d e l m)

null_goes_on : (n m k : Bool) → (not n || m) ≡ true → (not m || k) ≡ true → (not n || k) ≡ true
null_goes_on false m k h g = refl
null_goes_on true true k h g = g
null_goes_on true false k h g = cc

refs_go_on : (f : Facts) (a b c : Content) → RefsBelow f a b → RefsBelow f b c → RefsBelow f a c
refs_go_on f a b c r s =
    let q : Ref r.null_above r.core_above ≡ Ref s.null s.core = sym r.second ∙ s.first in
    let p : s.null ≡ r.null_above = cc in
    let n : s.core ≡ r.core_above = cc in
    record {
      null = r.null;
      core = r.core;
      null_above = s.null_above;
      core_above = s.core_above;
      first = r.first;
      second = s.second;
      nulls = null_goes_on r.null r.null_above s.null_above r.nulls (subst (λ x. (not x || s.null_above) ≡ true) p s.nulls);
      cores = core_goes_on f r.core r.core_above s.core_above r.cores (subst (λ x. CoreBelow f x s.core_above) n s.cores);
    }

pub goes_on : (f : Facts) (a b c : Content) → Below f a b → Below f b c → Below f a c
goes_on f a b c (nothing e) k = nothing e
goes_on f a b c (equal e) k = subst (λ x. Below f x c) (sym e) k
goes_on f a b c h (everything e) = everything e
goes_on f a b c h (equal e) = subst (λ x. Below f a x) e h
goes_on f a b c (everything e) (nothing k) = cc
goes_on f a b c (everything e) (number n k) = let z : false ≡ true = sym (ap is_number e) ∙ n in cc
goes_on f a b c (everything e) (refs s) = let z : Top ≡ Ref s.null s.core = sym e ∙ s.first in cc
goes_on f a b c (number n e) (nothing k) = cc
goes_on f a b c (number n e) (number m k) = number n k
goes_on f a b c (number n e) (refs s) = let z : Many ≡ Ref s.null s.core = sym e ∙ s.first in cc
goes_on f a b c (refs r) (nothing k) = let z : Empty ≡ Ref r.null_above r.core_above = sym k ∙ r.second in cc
goes_on f a b c (refs r) (number m k) = let z : false ≡ true = sym (ap is_number r.second) ∙ m in cc
goes_on f a b c (refs r) (refs s) = refs (refs_go_on f a b c r s)

transitive : (f : Facts) (a b c : Content) → Belongs f a → Belongs f b → Belongs f c → AtMost f a b → AtMost f b c → AtMost f a c
transitive f a b c i j k h g = holds f a c (goes_on f a b c (below f a b i h) (below f b c j g))

one_cone : (f : Facts) (c d : Core) → LiesIn f c d → LiesIn f d c → c ≡ d
one_cone f c d l m =
    let q = same_cone f d l.above l.deep m.head m.depth l.outer m.inner in
    let r = same_cone f c m.above m.deep l.head l.depth m.outer l.inner in
    let p : m.head ≡ l.above = cc in
    let t : m.above ≡ l.head = cc in
    let x : m.depth ≡ l.deep = cc in
    let y : m.deep ≡ l.depth = cc in
    let g : distance f.types l.head l.above ≡ Some m.edges = ap₂ (distance f.types) (sym t) (sym p) ∙ m.far in
    let z = distance_back f.types f.hold l.head l.above l.edges m.edges l.far g in
    let v : l.edges ≡ 0 = z.0 in
    let w : m.edges ≡ 0 = z.1 in
    let near : distance f.types l.above l.head ≡ Some 0 = l.far ∙ ap (λ n. Some n) v in
    let m_least : IsLeastIndex f.types l.above = subst (IsLeastIndex f.types) p m.inner.cone.least in
    let heads : l.above ≡ l.head = one_index f.types f.hold l.above l.head m_least l.inner.cone.least (distance_zero f.types f.hold l.head l.above near) in
    let a_room = l.room in
    let b_room = m.room in
    let long : l.deep ≡ l.depth = omega arith in
    m.outer ∙ (ap₂ Cone (t ∙ sym heads) (y ∙ sym long) ∙ sym l.outer)

core_once : (f : Facts) (c d : Core) → CoreBelow f c d → CoreBelow f d c → c ≡ d
core_once f c d (same e) k = e
core_once f c d h (same e) = sym e
core_once f c d (least e) (least k) = cc
core_once f c d (least e) (lies m) = let z : Bottom ≡ Cone m.above m.deep = sym e ∙ m.outer in cc
core_once f c d (lies l) (least k) = let z : Bottom ≡ Cone l.above l.deep = sym k ∙ l.outer in cc
core_once f c d (lies l) (lies m) = one_cone f c d l m

one_null : (n m : Bool) → (not n || m) ≡ true → (not m || n) ≡ true → n ≡ m
one_null false false h k = refl
one_null true true h k = refl
one_null true false h k = cc
one_null false true h k = cc

refs_once : (f : Facts) (a b : Content) → RefsBelow f a b → RefsBelow f b a → a ≡ b
refs_once f a b r s =
    let q : Ref r.null_above r.core_above ≡ Ref s.null s.core = sym r.second ∙ s.first in
    let t : Ref r.null r.core ≡ Ref s.null_above s.core_above = sym r.first ∙ s.second in
    let p : s.null ≡ r.null_above = cc in
    let n : s.core ≡ r.core_above = cc in
    let u : s.null_above ≡ r.null = cc in
    let v : s.core_above ≡ r.core = cc in
    let nulls : r.null ≡ r.null_above = one_null r.null r.null_above r.nulls (ap₂ (λ x y. not x || y) (sym p) (sym u) ∙ s.nulls) in
    let back : CoreBelow f r.core_above r.core = subst (λ x. CoreBelow f x r.core) n (subst (CoreBelow f s.core) v s.cores) in
    r.first ∙ (ap₂ Ref nulls (core_once f r.core r.core_above r.cores back) ∙ sym r.second)

once : (f : Facts) (a b : Content) → Below f a b → Below f b a → a ≡ b
once f a b (equal e) k = e
once f a b h (equal e) = sym e
once f a b (nothing e) (nothing k) = cc
once f a b (nothing e) (everything k) = cc
once f a b (nothing e) (number n k) = cc
once f a b (nothing e) (refs s) = let z : Empty ≡ Ref s.null_above s.core_above = sym e ∙ s.second in cc
once f a b (everything e) (nothing k) = cc
once f a b (everything e) (everything k) = cc
once f a b (everything e) (number n k) = let z : false ≡ true = sym (ap is_number e) ∙ n in cc
once f a b (everything e) (refs s) = let z : Top ≡ Ref s.null s.core = sym e ∙ s.first in cc
once f a b (number n e) (nothing k) = cc
once f a b (number n e) (everything k) = let z : false ≡ true = sym (ap is_number k) ∙ n in cc
once f a b (number n e) (number m k) = cc
once f a b (number n e) (refs s) = let z : Many ≡ Ref s.null s.core = sym e ∙ s.first in cc
once f a b (refs r) (nothing k) = let z : Empty ≡ Ref r.null_above r.core_above = sym k ∙ r.second in cc
once f a b (refs r) (everything k) = let z : Top ≡ Ref r.null r.core = sym k ∙ r.first in cc
once f a b (refs r) (number m k) = let z : Many ≡ Ref r.null r.core = sym k ∙ r.first in cc
once f a b (refs r) (refs s) = refs_once f a b r s

antisymmetric : (f : Facts) (a b : Content) → Belongs f a → Belongs f b → AtMost f a b → AtMost f b a → a ≡ b
antisymmetric f a b i j h g = once f a b (below f a b i h) (below f b a j g)

pub is_order : (f : Facts) → IsOrder f
is_order f = record {
  reflexive = λ a. record { holds = self_below f a };
  transitive = transitive f;
  antisymmetric = antisymmetric f;
  least = λ a. holds f Empty a (nothing refl);
  greatest = λ a. holds f a Top (everything refl);
}
