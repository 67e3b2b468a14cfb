-- What holds of contents, for all facts.
use Rattle.std.specs.Prelude.{ℕ, ◌<◌, ◌≤◌, ◌≡◌, ◌≢◌, Bool, MatchOption, List}
use Rattle.gu_types.specs.declared.types.HeapType.{HeapType}
use Rattle.gu_types.specs.declared.types.RefType.{RefType}
use Rattle.gu_types.specs.declared.types.Storage.{Storage}
use Rattle.gu_types.specs.declared.types.TypeList.{TypeList}
use Rattle.gu_types.specs.declared.types.ValType.{ValType}
use Rattle.gu_rec.specs.Closed.{SameType}
use Rattle.gu_rec.specs.Sub.{IsHeapOf, IsValOf, IsNoBottom, IsLeastCommon, HaveNoCommon}
use Rattle.gu_rec.specs.Validity.{IndicesHold}
use Rattle.gu_contents.specs.declared.content.Content.{Content}
use Rattle.gu_contents.specs.declared.content.Content.TheVariants.{Empty, Top}
use Rattle.gu_contents.specs.declared.facts.Facts.{Facts}
use Rattle.gu_contents.specs.Contents.{least_of}
use Rattle.gu_contents.specs.Order.{AtMost}
use Rattle.gu_contents.specs.Join.{common, join}
use Rattle.gu_contents.specs.Whole.{all}
use Rattle.gu_contents.specs.Meets.{filter, minus, test, is_null, equal}
use Rattle.gu_contents.specs.Numbers.{pack, extend}
use Rattle.gu_contents.specs.Rank.{rank}
use Rattle.gu_contents.specs.Belongs.{Belongs, IsListed, IsShallow}
use Rattle.gu_contents.specs.Codes.{code, content, HasWords}

-- the order is one, on contents that belong to the facts
pub record IsOrder (f : Facts) : Type 0 where
  pub reflexive : (a : Content) → AtMost f a a
  pub transitive : (a b c : Content) → Belongs f a → Belongs f b → Belongs f c → AtMost f a b → AtMost f b c → AtMost f a c
  pub antisymmetric : (a b : Content) → Belongs f a → Belongs f b → AtMost f a b → AtMost f b a → a ≡ b
  pub least : (a : Content) → AtMost f Empty a
  pub greatest : (a : Content) → AtMost f a Top

-- the join is the least of the contents that are at least both
pub record JoinIsLeast (f : Facts) : Type 0 where
  pub first : (a b : Content) → Belongs f a → Belongs f b → AtMost f a (join f a b)
  pub second : (a b : Content) → Belongs f a → Belongs f b → AtMost f b (join f a b)
  pub least : (a b c : Content) → Belongs f a → Belongs f b → Belongs f c → AtMost f a c → AtMost f b c → AtMost f (join f a b) c

-- a greater content lets through no less, keeps no less, and answers no less
pub record OperationsAreMonotone (f : Facts) : Type 0 where
  pub filter_is : (to : RefType) → IsHeapOf f.types to.heap → (a b : Content) → Belongs f a → Belongs f b → AtMost f a b → AtMost f (filter f a to) (filter f b to)
  pub minus_is : (by : RefType) → IsHeapOf f.types by.heap → (a b : Content) → Belongs f a → Belongs f b → AtMost f a b → AtMost f (minus f a by) (minus f b by)
  pub test_is : (to : RefType) → IsHeapOf f.types to.heap → (a b : Content) → Belongs f a → Belongs f b → AtMost f a b → AtMost f (test f a to) (test f b to)
  pub is_null_is : (a b : Content) → Belongs f a → Belongs f b → AtMost f a b → AtMost f (is_null a) (is_null b)
  pub equal_is : (a b c d : Content) → Belongs f a → Belongs f b → Belongs f c → Belongs f d → AtMost f a b → AtMost f c d → AtMost f (equal f a c) (equal f b d)
  pub pack_is : (s : Storage) (a b : Content) → Belongs f a → Belongs f b → AtMost f a b → AtMost f (pack s a) (pack s b)
  pub extend_is : (s : Storage) (sign : Bool) (a b : Content) → Belongs f a → Belongs f b → AtMost f a b → AtMost f (extend s sign a) (extend s sign b)

-- each greater content stands higher, and none stands higher than 70
pub record RanksRise (f : Facts) : Type 0 where
  pub rises : (a b : Content) → Belongs f a → Belongs f b → AtMost f a b → a ≢ b → rank a < rank b
  pub most : (a : Content) → Belongs f a → rank a ≤ 70

-- what is made of contents that belong to the facts belongs to them
pub record AnswersBelong (f : Facts) : Type 0 where
  pub join_does : (a b : Content) → Belongs f a → Belongs f b → Belongs f (join f a b)
  pub all_does : (t : ValType) → IsValOf f.types t → Belongs f (all f t)
  pub filter_does : (to : RefType) → IsHeapOf f.types to.heap → (a : Content) → Belongs f a → Belongs f (filter f a to)
  pub minus_does : (by : RefType) → IsHeapOf f.types by.heap → (a : Content) → Belongs f a → Belongs f (minus f a by)
  pub test_does : (to : RefType) (a : Content) → Belongs f (test f a to)
  pub is_null_does : (a : Content) → Belongs f (is_null a)
  pub equal_does : (a b : Content) → Belongs f (equal f a b)
  pub pack_does : (s : Storage) (a : Content) → Belongs f a → Belongs f (pack s a)
  pub extend_does : (s : Storage) (sign : Bool) (a : Content) → Belongs f a → Belongs f (extend s sign a)
  pub shallow : (a : Content) → Belongs f a → IsShallow a

-- what is made of contents whose 64-bit literals are in a list has its own there
pub record AnswersAreListed (f : Facts) (longs : List ℕ) : Type 0 where
  pub join_is : (a b : Content) → IsListed longs a → IsListed longs b → IsListed longs (join f a b)
  pub all_is : (t : ValType) → IsListed longs (all f t)
  pub filter_is : (to : RefType) (a : Content) → IsListed longs (filter f a to)
  pub minus_is : (by : RefType) (a : Content) → IsListed longs a → IsListed longs (minus f a by)
  pub test_is : (to : RefType) (a : Content) → IsListed longs (test f a to)
  pub is_null_is : (a : Content) → IsListed longs (is_null a)
  pub equal_is : (a b : Content) → IsListed longs (equal f a b)
  pub pack_is : (s : Storage) (a : Content) → IsListed longs a → IsListed longs (pack s a)
  pub extend_is : (s : Storage) (sign : Bool) (a : Content) → IsListed longs a → IsListed longs (extend s sign a)

-- the contents are a lattice in which each step up is a higher rank
pub record ContentsAreALattice (f : Facts) : Type 0 where
  pub order : IsOrder f
  pub joins : JoinIsLeast f
  pub monotone : OperationsAreMonotone f
  pub ranks : RanksRise f

-- Over a list of 64-bit literals, a code gives back its content, where no cone is too deep and a 64-bit literal is in the
-- list; different contents have different codes; and nothing is coded as 0
pub record CodesAreExact (longs : List ℕ) : Type 0 where
  pub gives_back : (a : Content) → HasWords a → IsListed longs a → IsShallow a → content longs (code longs a) ≡ a
  pub apart : (a b : Content) → HasWords a → HasWords b → IsListed longs a → IsListed longs b → IsShallow a → IsShallow b → code longs a ≡ code longs b → a ≡ b
  pub nothing : code longs Empty ≡ 0

-- the least index of a type denotes the same type, and none that does is smaller
pub record LeastIsExact (list : TypeList) : Type 0 where
  pub same : (i : ℕ) → SameType list i list (least_of list i)
  pub least : (i j : ℕ) → SameType list i list j → least_of list i ≤ j

-- where the indices hold, and the first of two heap types is no bottom, the first on its line that the other is a
-- subtype of is the least common supertype
abbrev pub CommonIsExact : Type 0
CommonIsExact = (list : TypeList) → IndicesHold list → (a b : HeapType) → IsHeapOf list a → IsHeapOf list b → IsNoBottom a → MatchOption (common list a b) (HaveNoCommon list a b) (IsLeastCommon list a b)
