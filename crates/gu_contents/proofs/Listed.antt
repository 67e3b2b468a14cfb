-- What is made of contents whose 64-bit literals are in a list has its own there.
use Rattle.std.proofs.Common.{ℕ, Bool, true, false, not, ◌&&◌, ◌||◌, List, Option, Some, None, if◌then◌else◌}
use Rattle.gu_types.specs.declared.types.RefType.{RefType}
use Rattle.gu_types.specs.declared.types.Storage.{Storage}
use Rattle.gu_types.specs.declared.types.Storage.TheVariants as S
use Rattle.gu_types.specs.declared.types.ValType.{ValType}
use Rattle.gu_types.specs.declared.types.ValType.TheVariants as V
use Rattle.gu_contents.specs.declared.content.Core.{Core}
use Rattle.gu_contents.specs.declared.content.Core.TheVariants.{Bottom, Func, Global, Cone}
use Rattle.gu_contents.specs.declared.content.Content.{Content}
use Rattle.gu_contents.specs.declared.content.Content.TheVariants.{Empty, I32, I64, NumGlobal, Many, Ref, Top}
use Rattle.gu_contents.specs.declared.facts.Facts.{Facts}
use Rattle.gu_contents.specs.Contents.{refs, eq_core, eq_content}
use Rattle.gu_contents.specs.Join.{join_cores, refs_or_top, join_numbers, join}
use Rattle.gu_contents.specs.Whole.{whole, all}
use Rattle.gu_contents.specs.Meets.{meet, filter, core_minus, minus, test_of, test, is_null, apart, equal_refs, equal_cores, equal}
use Rattle.gu_contents.specs.Numbers.{pack, extend}
use Rattle.gu_contents.specs.Belongs.{IsListed}
use Rattle.gu_contents.specs.Laws.{AnswersAreListed}

module _ (longs : List ℕ) where
  choice : (b : Bool) (x y : Content) → IsListed longs x → IsListed longs y → IsListed longs (if b then x else y)
  choice true x y h k = h
  choice false x y h k = k

  refs_listed : (n : Bool) (c : Core) → IsListed longs (refs n c)
  refs_listed false Bottom = tt
  refs_listed true Bottom = tt
  refs_listed false (Func g) = tt
  refs_listed true (Func g) = tt
  refs_listed false (Global g) = tt
  refs_listed true (Global g) = tt
  refs_listed false (Cone a d) = tt
  refs_listed true (Cone a d) = tt

  top_listed : (n : Bool) (o : Option Core) → IsListed longs (refs_or_top n o)
  top_listed n None = tt
  top_listed n (Some c) = tt

  numbers_listed : (a b : Content) → IsListed longs a → IsListed longs (join_numbers a b)
  numbers_listed a b h = choice (eq_content a b) a Many h tt

  join_listed : (f : Facts) (a b : Content) → IsListed longs a → IsListed longs b → IsListed longs (join f a b)
  unfolding join
  join_listed f Empty b h k = k
  join_listed f (I32 v) Empty h k = tt
  join_listed f (I64 v) Empty h k = h
  join_listed f (NumGlobal g) Empty h k = tt
  join_listed f Many Empty h k = tt
  join_listed f (Ref n c) Empty h k = tt
  join_listed f Top Empty h k = tt
  join_listed f Top (I32 v) h k = tt
  join_listed f Top (I64 v) h k = tt
  join_listed f Top (NumGlobal g) h k = tt
  join_listed f Top Many h k = tt
  join_listed f Top (Ref n c) h k = tt
  join_listed f Top Top h k = tt
  join_listed f (Ref n c) (I32 v) h k = tt
  join_listed f (Ref n c) (I64 v) h k = tt
  join_listed f (Ref n c) (NumGlobal g) h k = tt
  join_listed f (Ref n c) Many h k = tt
  join_listed f (Ref n c) (Ref m d) h k = top_listed (n || m) (join_cores f c d)
  join_listed f (Ref n c) Top h k = tt
  join_listed f (I32 v) Top h k = tt
  join_listed f (I64 v) Top h k = tt
  join_listed f (NumGlobal g) Top h k = tt
  join_listed f Many Top h k = tt
  join_listed f (I32 v) (Ref m d) h k = tt
  join_listed f (I64 v) (Ref m d) h k = tt
  join_listed f (NumGlobal g) (Ref m d) h k = tt
  join_listed f Many (Ref m d) h k = tt
  join_listed f (I32 v) (I32 w) h k = numbers_listed (I32 v) (I32 w) h
  join_listed f (I32 v) (I64 w) h k = tt
  join_listed f (I32 v) (NumGlobal g) h k = tt
  join_listed f (I32 v) Many h k = tt
  join_listed f (I64 v) (I32 w) h k = tt
  join_listed f (I64 v) (I64 w) h k = numbers_listed (I64 v) (I64 w) h
  join_listed f (I64 v) (NumGlobal g) h k = tt
  join_listed f (I64 v) Many h k = tt
  join_listed f (NumGlobal g) (I32 w) h k = tt
  join_listed f (NumGlobal g) (I64 w) h k = tt
  join_listed f (NumGlobal g) (NumGlobal i) h k = numbers_listed (NumGlobal g) (NumGlobal i) h
  join_listed f (NumGlobal g) Many h k = tt
  join_listed f Many (I32 w) h k = tt
  join_listed f Many (I64 w) h k = tt
  join_listed f Many (NumGlobal g) h k = tt
  join_listed f Many Many h k = tt

  all_listed : (f : Facts) (t : ValType) → IsListed longs (all f t)
  unfolding all
  all_listed f V.I32 = tt
  all_listed f V.I64 = tt
  all_listed f (V.Ref ref) = refs_listed ref.null (whole f ref.heap)

  filter_listed : (f : Facts) (to : RefType) (a : Content) → IsListed longs (filter f a to)
  unfolding filter
  filter_listed f to Empty = tt
  filter_listed f to (I32 v) = tt
  filter_listed f to (I64 v) = tt
  filter_listed f to (NumGlobal g) = tt
  filter_listed f to Many = tt
  filter_listed f to (Ref n c) = refs_listed (n && to.null) (meet f c to.heap)
  filter_listed f to Top = all_listed f (V.Ref to)

  minus_listed : (f : Facts) (by : RefType) (a : Content) → IsListed longs a → IsListed longs (minus f a by)
  unfolding minus
  minus_listed f by Empty h = tt
  minus_listed f by (I32 v) h = tt
  minus_listed f by (I64 v) h = h
  minus_listed f by (NumGlobal g) h = tt
  minus_listed f by Many h = tt
  minus_listed f by (Ref n c) h = refs_listed (n && not by.null) (core_minus f c by.heap)
  minus_listed f by Top h = tt

  test_of_listed : (a through : Content) → IsListed longs (test_of a through)
  test_of_listed a through = choice (eq_content through Empty) (I32 0) (if eq_content through a then I32 1 else Many) tt (choice (eq_content through a) (I32 1) Many tt tt)

  test_listed : (f : Facts) (to : RefType) (a : Content) → IsListed longs (test f a to)
  unfolding test
  test_listed f to Empty = tt
  test_listed f to (I32 v) = test_of_listed (I32 v) (filter f (I32 v) to)
  test_listed f to (I64 v) = test_of_listed (I64 v) (filter f (I64 v) to)
  test_listed f to (NumGlobal g) = test_of_listed (NumGlobal g) (filter f (NumGlobal g) to)
  test_listed f to Many = test_of_listed Many (filter f Many to)
  test_listed f to (Ref n c) = test_of_listed (Ref n c) (filter f (Ref n c) to)
  test_listed f to Top = test_of_listed Top (filter f Top to)

  is_null_listed : (a : Content) → IsListed longs (is_null a)
  unfolding is_null
  is_null_listed Empty = tt
  is_null_listed (I32 v) = tt
  is_null_listed (I64 v) = tt
  is_null_listed (NumGlobal g) = tt
  is_null_listed Many = tt
  is_null_listed Top = tt
  is_null_listed (Ref true Bottom) = tt
  is_null_listed (Ref false Bottom) = tt
  is_null_listed (Ref true (Func g)) = tt
  is_null_listed (Ref false (Func g)) = tt
  is_null_listed (Ref true (Global g)) = tt
  is_null_listed (Ref false (Global g)) = tt
  is_null_listed (Ref true (Cone a d)) = tt
  is_null_listed (Ref false (Cone a d)) = tt

  equal_refs_listed : (f : Facts) (n : Bool) (c : Core) (m : Bool) (d : Core) → IsListed longs (equal_refs f n c m d)
  equal_refs_listed f n c m d = choice (not (n && m) && apart f c d) (I32 0) Many tt tt

  equal_cores_listed : (f : Facts) (n : Bool) (c : Core) (m : Bool) (d : Core) → IsListed longs (equal_cores f n c m d)
  equal_cores_listed f true Bottom true Bottom = tt
  equal_cores_listed f true Bottom true (Func h) = equal_refs_listed f true Bottom true (Func h)
  equal_cores_listed f true Bottom true (Global h) = equal_refs_listed f true Bottom true (Global h)
  equal_cores_listed f true Bottom true (Cone b y) = equal_refs_listed f true Bottom true (Cone b y)
  equal_cores_listed f true Bottom false Bottom = equal_refs_listed f true Bottom false Bottom
  equal_cores_listed f true Bottom false (Func h) = equal_refs_listed f true Bottom false (Func h)
  equal_cores_listed f true Bottom false (Global h) = equal_refs_listed f true Bottom false (Global h)
  equal_cores_listed f true Bottom false (Cone b y) = equal_refs_listed f true Bottom false (Cone b y)
  equal_cores_listed f true (Func g) m d = equal_refs_listed f true (Func g) m d
  equal_cores_listed f true (Global g) m d = equal_refs_listed f true (Global g) m d
  equal_cores_listed f true (Cone a x) m d = equal_refs_listed f true (Cone a x) m d
  equal_cores_listed f false Bottom m d = equal_refs_listed f false Bottom m d
  equal_cores_listed f false (Func g) m d = equal_refs_listed f false (Func g) m d
  equal_cores_listed f false (Global g) true Bottom = equal_refs_listed f false (Global g) true Bottom
  equal_cores_listed f false (Global g) true (Func h) = equal_refs_listed f false (Global g) true (Func h)
  equal_cores_listed f false (Global g) true (Global h) = equal_refs_listed f false (Global g) true (Global h)
  equal_cores_listed f false (Global g) true (Cone b y) = equal_refs_listed f false (Global g) true (Cone b y)
  equal_cores_listed f false (Global g) false Bottom = equal_refs_listed f false (Global g) false Bottom
  equal_cores_listed f false (Global g) false (Func h) = equal_refs_listed f false (Global g) false (Func h)
  equal_cores_listed f false (Global g) false (Global h) = choice (eq_core (Global g) (Global h)) (I32 1) (equal_refs f false (Global g) false (Global h)) tt (equal_refs_listed f false (Global g) false (Global h))
  equal_cores_listed f false (Global g) false (Cone b y) = equal_refs_listed f false (Global g) false (Cone b y)
  equal_cores_listed f false (Cone a x) m d = equal_refs_listed f false (Cone a x) m d

  equal_listed : (f : Facts) (a b : Content) → IsListed longs (equal f a b)
  unfolding equal
  equal_listed f Empty b = tt
  equal_listed f (I32 v) Empty = tt
  equal_listed f (I32 v) (I32 w) = tt
  equal_listed f (I32 v) (I64 w) = tt
  equal_listed f (I32 v) (NumGlobal h) = tt
  equal_listed f (I32 v) Many = tt
  equal_listed f (I32 v) (Ref m d) = tt
  equal_listed f (I32 v) Top = tt
  equal_listed f (I64 v) Empty = tt
  equal_listed f (I64 v) (I32 w) = tt
  equal_listed f (I64 v) (I64 w) = tt
  equal_listed f (I64 v) (NumGlobal h) = tt
  equal_listed f (I64 v) Many = tt
  equal_listed f (I64 v) (Ref m d) = tt
  equal_listed f (I64 v) Top = tt
  equal_listed f (NumGlobal g) Empty = tt
  equal_listed f (NumGlobal g) (I32 w) = tt
  equal_listed f (NumGlobal g) (I64 w) = tt
  equal_listed f (NumGlobal g) (NumGlobal h) = tt
  equal_listed f (NumGlobal g) Many = tt
  equal_listed f (NumGlobal g) (Ref m d) = tt
  equal_listed f (NumGlobal g) Top = tt
  equal_listed f Many Empty = tt
  equal_listed f Many (I32 w) = tt
  equal_listed f Many (I64 w) = tt
  equal_listed f Many (NumGlobal h) = tt
  equal_listed f Many Many = tt
  equal_listed f Many (Ref m d) = tt
  equal_listed f Many Top = tt
  equal_listed f (Ref n c) Empty = tt
  equal_listed f (Ref n c) (I32 w) = tt
  equal_listed f (Ref n c) (I64 w) = tt
  equal_listed f (Ref n c) (NumGlobal h) = tt
  equal_listed f (Ref n c) Many = tt
  equal_listed f (Ref n c) (Ref m d) = equal_cores_listed f n c m d
  equal_listed f (Ref n c) Top = tt
  equal_listed f Top Empty = tt
  equal_listed f Top (I32 w) = tt
  equal_listed f Top (I64 w) = tt
  equal_listed f Top (NumGlobal h) = tt
  equal_listed f Top Many = tt
  equal_listed f Top (Ref m d) = tt
  equal_listed f Top Top = tt

  pack_listed : (s : Storage) (a : Content) → IsListed longs a → IsListed longs (pack s a)
  unfolding pack
  pack_listed (S.Val t) a h = h
  pack_listed S.I8 Empty h = tt
  pack_listed S.I8 (I32 v) h = tt
  pack_listed S.I8 (I64 v) h = h
  pack_listed S.I8 (NumGlobal g) h = tt
  pack_listed S.I8 Many h = tt
  pack_listed S.I8 (Ref n c) h = tt
  pack_listed S.I8 Top h = tt
  pack_listed S.I16 Empty h = tt
  pack_listed S.I16 (I32 v) h = tt
  pack_listed S.I16 (I64 v) h = h
  pack_listed S.I16 (NumGlobal g) h = tt
  pack_listed S.I16 Many h = tt
  pack_listed S.I16 (Ref n c) h = tt
  pack_listed S.I16 Top h = tt

  extend_listed : (s : Storage) (sign : Bool) (a : Content) → IsListed longs a → IsListed longs (extend s sign a)
  unfolding extend
  extend_listed s sign Empty h = tt
  extend_listed s sign (I32 v) h = tt
  extend_listed s sign (I64 v) h = h
  extend_listed s sign (NumGlobal g) h = tt
  extend_listed s sign Many h = tt
  extend_listed s sign (Ref n c) h = tt
  extend_listed s sign Top h = tt

pub answers_listed : (f : Facts) (longs : List ℕ) → AnswersAreListed f longs
answers_listed f longs = record {
  join_is = join_listed longs f;
  all_is = all_listed longs f;
  filter_is = filter_listed longs f;
  minus_is = minus_listed longs f;
  test_is = test_listed longs f;
  is_null_is = is_null_listed longs;
  equal_is = equal_listed longs f;
  pack_is = pack_listed longs;
  extend_is = extend_listed longs;
}
