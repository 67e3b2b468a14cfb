-- What the order of contents says, case by case.
use Rattle.std.proofs.Common.{◌≡◌, ℕ, ◌+◌, ◌≤◌, Bool, true, false, not, ◌||◌, Option, Some, None, nat_eq, refl, ap, ap₂, sym, ◌∙◌, subst, arith}
use Rattle.std.specs.Bool.{beq}
use Rattle.std.proofs.lemmas.Bool.{leb-true, le-leb}
use Rattle.gu_types.specs.declared.types.HeapType.{HeapType}
use Rattle.gu_types.specs.declared.types.HeapType.TheVariants as H
use Rattle.gu_rec.specs.Tests.{eq_heap}
use Rattle.gu_rec.specs.Sub.{distance}
use Rattle.gu_rec.proofs.Same.{left_of, right_of, both_of, bool_sound, bool_own, numbers_tell, abs_tell}
use Rattle.gu_contents.specs.declared.content.Core.{Core}
use Rattle.gu_contents.specs.declared.content.Core.TheVariants.{Bottom, Func, Global, Cone}
use Rattle.gu_contents.specs.declared.content.Content.{Content}
use Rattle.gu_contents.specs.declared.content.Content.TheVariants.{Empty, I32, I64, NumGlobal, Many, Ref, Top}
use Rattle.gu_contents.specs.declared.facts.Facts.{Facts}
use Rattle.gu_contents.specs.Contents.{bound, type_of_func, cone_of, eq_core, eq_content}
use Rattle.gu_contents.specs.Order.{reaches, cone_at_most, core_at_most, at_most, AtMost}
use Rattle.gu_contents.specs.Belongs.{IsCone, IsBounded, CoreBelongs, Belongs}
use Rattle.gu_contents.proofs.Heaps.{distance_self}
use Rattle.gu_contents.proofs.Cones.{func_cone}

heap_sound : (a b : HeapType) → eq_heap a b ≡ true → a ≡ b
heap_sound (H.Abs a) (H.Abs b) h = ap H.Abs (abs_tell.sound a b h)
heap_sound (H.Abs a) (H.Idx j) h = cc
heap_sound (H.Idx i) (H.Abs b) h = cc
heap_sound (H.Idx i) (H.Idx j) h = ap H.Idx (numbers_tell.sound i j h)

heap_own : (a : HeapType) → eq_heap a a ≡ true
heap_own (H.Abs a) = abs_tell.own a
heap_own (H.Idx i) = numbers_tell.own i

pub core_sound : (c d : Core) → eq_core c d ≡ true → c ≡ d
core_sound Bottom Bottom h = refl
core_sound (Func f) (Func g) h = ap Func (numbers_tell.sound f g h)
core_sound (Global f) (Global g) h = ap Global (numbers_tell.sound f g h)
core_sound (Cone a d) (Cone b e) h = ap₂ Cone (heap_sound a b (left_of (eq_heap a b) (nat_eq d e) h)) (numbers_tell.sound d e (right_of (eq_heap a b) (nat_eq d e) h))
core_sound _ _ h = cc

pub core_own : (c : Core) → eq_core c c ≡ true
core_own Bottom = refl
core_own (Func f) = numbers_tell.own f
core_own (Global g) = numbers_tell.own g
core_own (Cone a d) = both_of (eq_heap a a) (nat_eq d d) (heap_own a) (numbers_tell.own d)

pub content_sound : (a b : Content) → eq_content a b ≡ true → a ≡ b
content_sound Empty Empty h = refl
content_sound (I32 v) (I32 w) h = ap I32 (numbers_tell.sound v w h)
content_sound (I64 v) (I64 w) h = ap I64 (numbers_tell.sound v w h)
content_sound (NumGlobal g) (NumGlobal k) h = ap NumGlobal (numbers_tell.sound g k h)
content_sound Many Many h = refl
content_sound (Ref n c) (Ref m d) h = ap₂ Ref (bool_sound n m (left_of (beq n m) (eq_core c d) h)) (core_sound c d (right_of (beq n m) (eq_core c d) h))
content_sound Top Top h = refl
content_sound _ _ h = cc

pub content_own : (a : Content) → eq_content a a ≡ true
content_own Empty = refl
content_own (I32 v) = numbers_tell.own v
content_own (I64 v) = numbers_tell.own v
content_own (NumGlobal g) = numbers_tell.own g
content_own Many = refl
content_own (Ref n c) = both_of (beq n n) (eq_core c c) (bool_own n) (core_own c)
content_own Top = refl

-- the cone that a core stands for is one of the module's types
pub record StandsFor (f : Facts) (c : Core) (head : HeapType) (depth : ℕ) : Type 0 where
  pub is : cone_of f c ≡ Cone head depth
  pub cone : IsCone f head depth

pub data HasCone (f : Facts) (c : Core) : Type 0 where
  none : c ≡ Bottom → HasCone f c
  some : (head : HeapType) (depth : ℕ) → StandsFor f c head depth → HasCone f c

pub has_cone : (f : Facts) (c : Core) → CoreBelongs f c → HasCone f c
has_cone f Bottom h = none refl
has_cone f (Func g) h = some (type_of_func f g) 0 (record { is = refl; cone = func_cone f g h })
has_cone f (Global g) h = some h.head h.depth (record { is = h.bound_is; cone = h.is_cone })
has_cone f (Cone a d) h = some a d (record { is = refl; cone = h })

-- the first of two cores stands for a cone that lies in the second, a cone
pub record LiesIn (f : Facts) (c d : Core) : Type 0 where
  pub head : HeapType
  pub depth : ℕ
  pub inner : StandsFor f c head depth
  pub above : HeapType
  pub deep : ℕ
  pub outer : d ≡ Cone above deep
  pub edges : ℕ
  pub far : distance f.types above head ≡ Some edges
  pub room : edges + depth ≤ deep

-- how a core is at most another
pub data CoreBelow (f : Facts) (c d : Core) : Type 0 where
  least : c ≡ Bottom → CoreBelow f c d
  same : c ≡ d → CoreBelow f c d
  lies : LiesIn f c d → CoreBelow f c d

record Reaches (o : Option ℕ) (more deep : ℕ) : Type 0 where
  edges : ℕ
  is : o ≡ Some edges
  room : edges + more ≤ deep

reached : (o : Option ℕ) (more deep : ℕ) → reaches o more deep ≡ true → Reaches o more deep
reached None more deep h = cc
reached (Some k) more deep h = record { edges = k; is = refl; room = leb-true (k + more) deep h }

cone_lies : (f : Facts) (c : Core) (head : HeapType) (depth : ℕ) (d : Core) → StandsFor f c head depth → cone_at_most f (Cone head depth) d ≡ true → CoreBelow f c d
cone_lies f c head depth Bottom s h = cc
cone_lies f c head depth (Func g) s h = cc
cone_lies f c head depth (Global g) s h = cc
cone_lies f c head depth (Cone b e) s h =
    let r = reached (distance f.types b head) depth e h in
    lies (record { head = head; depth = depth; inner = s; above = b; deep = e; outer = refl; edges = r.edges; far = r.is; room = r.room })

bound_lies : (f : Facts) (g : ℕ) (d : Core) → IsBounded f g → cone_at_most f (bound f g) d ≡ true → CoreBelow f (Global g) d
bound_lies f g d b h = cone_lies f (Global g) b.head b.depth d (record { is = b.bound_is; cone = b.is_cone }) (subst (λ (c : Core). cone_at_most f c d ≡ true) b.bound_is h)

pub core_below : (f : Facts) (c d : Core) → CoreBelongs f c → core_at_most f c d ≡ true → CoreBelow f c d
core_below f Bottom d b h = least refl
core_below f (Func g) (Func k) b h = same (ap Func (numbers_tell.sound g k h))
core_below f (Func g) Bottom b h = cone_lies f (Func g) (type_of_func f g) 0 Bottom (record { is = refl; cone = func_cone f g b }) h
core_below f (Func g) (Global k) b h = cone_lies f (Func g) (type_of_func f g) 0 (Global k) (record { is = refl; cone = func_cone f g b }) h
core_below f (Func g) (Cone a e) b h = cone_lies f (Func g) (type_of_func f g) 0 (Cone a e) (record { is = refl; cone = func_cone f g b }) h
core_below f (Global g) (Global k) b h = same (ap Global (numbers_tell.sound g k h))
core_below f (Global g) Bottom b h = bound_lies f g Bottom b h
core_below f (Global g) (Func k) b h = bound_lies f g (Func k) b h
core_below f (Global g) (Cone a e) b h = bound_lies f g (Cone a e) b h
core_below f (Cone a i) d b h = cone_lies f (Cone a i) a i d (record { is = refl; cone = b }) h

cone_holds : (f : Facts) (a : HeapType) (i : ℕ) (b : HeapType) (e k : ℕ) → distance f.types b a ≡ Some k → k + i ≤ e → cone_at_most f (Cone a i) (Cone b e) ≡ true
cone_holds f a i b e k h l = ap (λ o. reaches o i e) h ∙ le-leb (k + i) e l

pub core_self : (f : Facts) (c : Core) → core_at_most f c c ≡ true
core_self f Bottom = refl
core_self f (Func g) = numbers_tell.own g
core_self f (Global g) = numbers_tell.own g
core_self f (Cone a d) = cone_holds f a d a d 0 (distance_self f.types f.hold a) (omega arith)

cone_of_core : (f : Facts) (c : Core) (b : HeapType) (e : ℕ) → (c ≡ Bottom → ⊥) → core_at_most f c (Cone b e) ≡ cone_at_most f (cone_of f c) (Cone b e)
cone_of_core f Bottom b e h = refl
cone_of_core f (Func g) b e h = refl
cone_of_core f (Global g) b e h = refl
cone_of_core f (Cone a d) b e h = refl

pub core_holds : (f : Facts) (c d : Core) → CoreBelow f c d → core_at_most f c d ≡ true
core_holds f c d (least e) = ap (λ x. core_at_most f x d) e
core_holds f c d (same e) = ap (core_at_most f c) (sym e) ∙ core_self f c
core_holds f c d (lies l) =
    ap (core_at_most f c) l.outer ∙ (cone_of_core f c l.above l.deep (λ e. no_cone e)
    ∙ (ap (λ x. cone_at_most f x (Cone l.above l.deep)) l.inner.is ∙ cone_holds f l.head l.depth l.above l.deep l.edges l.far l.room))
  where
    no_cone : c ≡ Bottom → ⊥
    no_cone e = let g : Bottom ≡ Cone l.head l.depth = sym (ap (cone_of f) e) ∙ l.inner.is in cc

-- numbers, one or many
abbrev pub is_number : Content → Bool
is_number (I32 v) = true
is_number (I64 v) = true
is_number (NumGlobal g) = true
is_number Many = true
is_number _ = false

-- references at most others
pub record RefsBelow (f : Facts) (a b : Content) : Type 0 where
  pub null : Bool
  pub core : Core
  pub null_above : Bool
  pub core_above : Core
  pub first : a ≡ Ref null core
  pub second : b ≡ Ref null_above core_above
  pub nulls : (not null || null_above) ≡ true
  pub cores : CoreBelow f core core_above

-- how a content is at most another
pub data Below (f : Facts) (a b : Content) : Type 0 where
  nothing : a ≡ Empty → Below f a b
  everything : b ≡ Top → Below f a b
  equal : a ≡ b → Below f a b
  number : is_number a ≡ true → b ≡ Many → Below f a b
  refs : RefsBelow f a b → Below f a b

view : (f : Facts) (a b : Content) → Belongs f a → at_most f a b ≡ true → Below f a b
unfolding at_most
view f Empty b i h = nothing refl
view f a Top i h = everything refl
view f (I32 v) (I32 w) i h = equal (ap I32 (numbers_tell.sound v w h))
view f (I64 v) (I64 w) i h = equal (ap I64 (numbers_tell.sound v w h))
view f (NumGlobal g) (NumGlobal k) i h = equal (ap NumGlobal (numbers_tell.sound g k h))
view f (I32 v) Many i h = number refl refl
view f (I64 v) Many i h = number refl refl
view f (NumGlobal g) Many i h = number refl refl
view f Many Many i h = equal refl
view f (Ref n c) (Ref m d) i h =
    refs (record { null = n; core = c; null_above = m; core_above = d; first = refl; second = refl; nulls = left_of (not n || m) (core_at_most f c d) h; cores = core_below f c d i.1 (right_of (not n || m) (core_at_most f c d) h) })
view f _ _ i h = cc

pub below : (f : Facts) (a b : Content) → Belongs f a → AtMost f a b → Below f a b
below f a b i h = view f a b i h.holds

pub self_below : (f : Facts) (a : Content) → at_most f a a ≡ true
unfolding at_most
self_below f Empty = refl
self_below f (I32 v) = numbers_tell.own v
self_below f (I64 v) = numbers_tell.own v
self_below f (NumGlobal g) = numbers_tell.own g
self_below f Many = refl
self_below f (Ref n c) = both_of (not n || n) (core_at_most f c c) (own_null n) (core_self f c)
  where
    own_null : (n : Bool) → (not n || n) ≡ true
    own_null true = refl
    own_null false = refl
self_below f Top = refl

top_holds : (f : Facts) (a : Content) → at_most f a Top ≡ true
unfolding at_most
top_holds f Empty = refl
top_holds f (I32 v) = refl
top_holds f (I64 v) = refl
top_holds f (NumGlobal g) = refl
top_holds f Many = refl
top_holds f (Ref n c) = refl
top_holds f Top = refl

many_holds : (f : Facts) (a : Content) → is_number a ≡ true → at_most f a Many ≡ true
unfolding at_most
many_holds f Empty h = cc
many_holds f (I32 v) h = refl
many_holds f (I64 v) h = refl
many_holds f (NumGlobal g) h = refl
many_holds f Many h = refl
many_holds f (Ref n c) h = cc
many_holds f Top h = cc

refs_hold : (f : Facts) (n : Bool) (c : Core) (m : Bool) (d : Core) → (not n || m) ≡ true → CoreBelow f c d → at_most f (Ref n c) (Ref m d) ≡ true
unfolding at_most
refs_hold f n c m d h k = both_of (not n || m) (core_at_most f c d) h (core_holds f c d k)

below_holds : (f : Facts) (a b : Content) → Below f a b → at_most f a b ≡ true
unfolding at_most
below_holds f a b (nothing e) = ap (λ x. at_most f x b) e
below_holds f a b (everything e) = ap (at_most f a) e ∙ top_holds f a
below_holds f a b (equal e) = ap (at_most f a) (sym e) ∙ self_below f a
below_holds f a b (number n e) = ap (at_most f a) e ∙ many_holds f a n
below_holds f a b (refs r) = ap₂ (at_most f) r.first r.second ∙ refs_hold f r.null r.core r.null_above r.core_above r.nulls r.cores

pub holds : (f : Facts) (a b : Content) → Below f a b → AtMost f a b
holds f a b h = record { holds = below_holds f a b h }
