-- What is made of contents that belong to the facts of a module belongs to them.
use Rattle.std.proofs.Common.{◌≡◌, ℕ, ◌-◌, Bool, true, false, not, ◌&&◌, if◌then◌else◌, Option, Some, None, refl, ap, sym, subst, arith}
use Rattle.gu_types.specs.declared.types.Abs.{Abs}
use Rattle.gu_types.specs.declared.types.HeapType.{HeapType}
use Rattle.gu_types.specs.declared.types.RefType.{RefType}
use Rattle.gu_types.specs.declared.types.Storage.{Storage}
use Rattle.gu_types.specs.declared.types.Storage.TheVariants as S
use Rattle.gu_types.specs.declared.types.ValType.{ValType}
use Rattle.gu_types.specs.declared.types.ValType.TheVariants as V
use Rattle.gu_rec.specs.Sub.{top_over, height, IsHeapOf, IsValOf, IsNoBottom}
use Rattle.gu_contents.specs.declared.content.Core.{Core}
use Rattle.gu_contents.specs.declared.content.Core.TheVariants.{Bottom, Func, Global, Cone}
use Rattle.gu_contents.specs.declared.content.Content.{Content}
use Rattle.gu_contents.specs.declared.content.Content.TheVariants.{Empty, I32, I64, NumGlobal, Many, Ref, Top}
use Rattle.gu_contents.specs.declared.facts.Facts.{Facts}
use Rattle.gu_contents.specs.Contents.{least_index, refs as refs_of, eq_core, eq_content}
use Rattle.gu_contents.specs.Whole.{whole_under, whole, all}
use Rattle.gu_contents.specs.Meets.{meet, filter, core_minus, minus, test_of, test, is_null, apart, equal_refs, equal_cores, equal}
use Rattle.gu_contents.specs.Numbers.{pack_to, pack, extend}
use Rattle.gu_contents.specs.Belongs.{IsCone, CoreBelongs, Belongs, IsShallow}
use Rattle.gu_contents.specs.Laws.{AnswersBelong}
use Rattle.gu_contents.proofs.Heights.{height_few, height_named, least_name, least_heap, least_in_range, least_no_bottom}
use Rattle.gu_contents.proofs.JoinLaw.{join_belongs}
use Rattle.gu_contents.proofs.MonotoneMeets.{MeetIs, gone, inside, partly, meet_is, part_cone}
use Rattle.gu_contents.proofs.Monotone.{RefsAre, none_left, some_left, refs_are}

refs_belong : (f : Facts) (n : Bool) (c : Core) → CoreBelongs f c → Belongs f (refs_of n c)
refs_belong f n c h = by_refs (refs_are n c)
  where
    by_refs : RefsAre n c → Belongs f (refs_of n c)
    by_refs (none_left p q e) = subst (Belongs f) (sym e) tt
    by_refs (some_left e o) = subst (Belongs f) (sym e) (o, h)

whole_cone : (f : Facts) (heap : HeapType) → IsHeapOf f.types heap → IsNoBottom heap → IsCone f (least_index f.types heap) (height f.types heap)
whole_cone f heap h n =
    let e = height_named f.types f.hold (least_index f.types heap) heap (least_name f.types heap) in
    record { is_heap = least_in_range f.types heap h; no_bottom = least_no_bottom f.types heap n; least = least_heap f.types heap; capped = omega arith }

whole_belongs : (f : Facts) (heap : HeapType) → IsHeapOf f.types heap → CoreBelongs f (whole f heap)
whole_belongs f heap h = by_top (top_over heap) refl
  where
    by_top : (o : Option Abs) → top_over heap ≡ o → CoreBelongs f (whole f heap)
    by_top None e = subst (CoreBelongs f) (sym (ap (whole_under f heap) e)) (whole_cone f heap h e)
    by_top (Some top) e = subst (CoreBelongs f) (sym (ap (whole_under f heap) e)) tt

all_belongs : (f : Facts) (t : ValType) → IsValOf f.types t → Belongs f (all f t)
unfolding all
all_belongs f V.I32 h = tt
all_belongs f V.I64 h = tt
all_belongs f (V.Ref ref) h = refs_belong f ref.null (whole f ref.heap) (whole_belongs f ref.heap h)

met_belongs : (f : Facts) (to : HeapType) → IsHeapOf f.types to → (c m : Core) → CoreBelongs f c → MeetIs f c to m → CoreBelongs f m
met_belongs f to h c m i (gone g e) = subst (CoreBelongs f) (sym e) tt
met_belongs f to h c m i (inside p e) = subst (CoreBelongs f) (sym e) i
met_belongs f to h c m i (partly p e) = subst (CoreBelongs f) (sym e) (part_cone f to (p.i - p.edges) h p.no_bottom)

filter_belongs : (f : Facts) (to : RefType) → IsHeapOf f.types to.heap → (a : Content) → Belongs f a → Belongs f (filter f a to)
unfolding filter
filter_belongs f to h Empty i = tt
filter_belongs f to h Top i = all_belongs f (V.Ref to) h
filter_belongs f to h (Ref n c) i = refs_belong f (n && to.null) (meet f c to.heap) (met_belongs f to.heap h c (meet f c to.heap) i.1 (meet_is f c to.heap i.1))
filter_belongs f to h _ i = tt

core_minus_belongs : (f : Facts) (by : HeapType) (c : Core) → CoreBelongs f c → CoreBelongs f (core_minus f c by)
core_minus_belongs f by c i = by_test (eq_core (meet f c by) c)
  where
    by_test : (v : Bool) → CoreBelongs f (if v then Bottom else c)
    by_test true = tt
    by_test false = i

minus_belongs : (f : Facts) (by : RefType) (a : Content) → Belongs f a → Belongs f (minus f a by)
unfolding minus
minus_belongs f by (Ref n c) i = refs_belong f (n && not by.null) (core_minus f c by.heap) (core_minus_belongs f by.heap c i.1)
minus_belongs f by Empty i = tt
minus_belongs f by (I32 v) i = tt
minus_belongs f by (I64 v) i = tt
minus_belongs f by (NumGlobal g) i = i
minus_belongs f by Many i = tt
minus_belongs f by Top i = tt

test_of_belongs : (f : Facts) (a through : Content) → Belongs f (test_of a through)
test_of_belongs f a through = by_tests (eq_content through Empty) (eq_content through a)
  where
    by_tests : (v w : Bool) → Belongs f (if v then I32 0 else (if w then I32 1 else Many))
    by_tests true w = tt
    by_tests false true = tt
    by_tests false false = tt

test_belongs : (f : Facts) (to : RefType) (a : Content) → Belongs f (test f a to)
unfolding test
test_belongs f to Empty = tt
test_belongs f to (I32 v) = test_of_belongs f (I32 v) (filter f (I32 v) to)
test_belongs f to (I64 v) = test_of_belongs f (I64 v) (filter f (I64 v) to)
test_belongs f to (NumGlobal g) = test_of_belongs f (NumGlobal g) (filter f (NumGlobal g) to)
test_belongs f to Many = test_of_belongs f Many (filter f Many to)
test_belongs f to (Ref n c) = test_of_belongs f (Ref n c) (filter f (Ref n c) to)
test_belongs f to Top = test_of_belongs f Top (filter f Top to)

null_belongs : (f : Facts) (a : Content) → Belongs f (is_null a)
unfolding is_null
null_belongs f Empty = tt
null_belongs f (I32 v) = tt
null_belongs f (I64 v) = tt
null_belongs f (NumGlobal g) = tt
null_belongs f Many = tt
null_belongs f (Ref true Bottom) = tt
null_belongs f (Ref true (Func g)) = tt
null_belongs f (Ref true (Global g)) = tt
null_belongs f (Ref true (Cone a i)) = tt
null_belongs f (Ref false Bottom) = tt
null_belongs f (Ref false (Func g)) = tt
null_belongs f (Ref false (Global g)) = tt
null_belongs f (Ref false (Cone a i)) = tt
null_belongs f Top = tt

either_belongs : (f : Facts) (v : Bool) (b : Content) → Belongs f b → Belongs f (if v then I32 0 else b)
either_belongs f true b h = tt
either_belongs f false b h = h

equal_refs_belong : (f : Facts) (n : Bool) (c : Core) (m : Bool) (d : Core) → Belongs f (equal_refs f n c m d)
equal_refs_belong f n c m d = either_belongs f (not (n && m) && apart f c d) Many tt

equal_globals_belong : (f : Facts) (g h : ℕ) (v : Bool) → Belongs f (if v then I32 1 else equal_refs f false (Global g) false (Global h))
equal_globals_belong f g h true = tt
equal_globals_belong f g h false = equal_refs_belong f false (Global g) false (Global h)

equal_cores_belong : (f : Facts) (n : Bool) (c : Core) (m : Bool) (d : Core) → Belongs f (equal_cores f n c m d)
equal_cores_belong f true Bottom true Bottom = tt
equal_cores_belong f false (Global g) false (Global h) = equal_globals_belong f g h (eq_core (Global g) (Global h))
equal_cores_belong f n c m d = equal_refs_belong f n c m d

equal_belongs : (f : Facts) (a b : Content) → Belongs f (equal f a b)
unfolding equal
equal_belongs f Empty b = tt
equal_belongs f a Empty = second_none a
  where
    second_none : (a : Content) → Belongs f (equal f a Empty)
    second_none Empty = tt
    second_none (I32 v) = tt
    second_none (I64 v) = tt
    second_none (NumGlobal g) = tt
    second_none Many = tt
    second_none (Ref n c) = tt
    second_none Top = tt
equal_belongs f (Ref n c) (Ref m d) = equal_cores_belong f n c m d
equal_belongs f a b = tt

pack_to_belongs : (f : Facts) (bits : ℕ) (a : Content) → Belongs f a → Belongs f (pack_to bits a)
pack_to_belongs f bits Empty i = tt
pack_to_belongs f bits (I32 v) i = tt
pack_to_belongs f bits (I64 v) i = tt
pack_to_belongs f bits (NumGlobal g) i = tt
pack_to_belongs f bits Many i = tt
pack_to_belongs f bits (Ref n c) i = i
pack_to_belongs f bits Top i = tt

pack_belongs : (f : Facts) (s : Storage) (a : Content) → Belongs f a → Belongs f (pack s a)
unfolding pack
pack_belongs f S.I8 a i = pack_to_belongs f 8 a i
pack_belongs f S.I16 a i = pack_to_belongs f 16 a i
pack_belongs f (S.Val ty) a i = i

extend_belongs : (f : Facts) (s : Storage) (sign : Bool) (a : Content) → Belongs f a → Belongs f (extend s sign a)
unfolding extend
extend_belongs f s sign Empty i = tt
extend_belongs f s sign (I32 v) i = tt
extend_belongs f s sign (I64 v) i = tt
extend_belongs f s sign (NumGlobal g) i = i
extend_belongs f s sign Many i = tt
extend_belongs f s sign (Ref n c) i = i
extend_belongs f s sign Top i = tt

shallow_refs : (f : Facts) (n : Bool) (c : Core) → CoreBelongs f c → IsShallow (Ref n c)
shallow_refs f n Bottom i = tt
shallow_refs f n (Func g) i = tt
shallow_refs f n (Global g) i = tt
shallow_refs f n (Cone a d) i = let h = height_few f.types f.hold f.shallow a in let l = i.capped in omega arith

shallow : (f : Facts) (a : Content) → Belongs f a → IsShallow a
shallow f Empty i = tt
shallow f (I32 v) i = tt
shallow f (I64 v) i = tt
shallow f (NumGlobal g) i = tt
shallow f Many i = tt
shallow f (Ref n c) i = shallow_refs f n c i.1
shallow f Top i = tt

pub answers_belong : (f : Facts) → AnswersBelong f
answers_belong f = record {
  join_does = join_belongs f;
  all_does = all_belongs f;
  filter_does = filter_belongs f;
  minus_does = λ by h a i. minus_belongs f by a i;
  test_does = test_belongs f;
  is_null_does = null_belongs f;
  equal_does = equal_belongs f;
  pack_does = pack_belongs f;
  extend_does = extend_belongs f;
  shallow = shallow f;
}
