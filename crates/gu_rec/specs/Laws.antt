-- What holds of equality of types and of subtyping (core specification 3.0, 3.3 Matching).
use Rattle.std.specs.Prelude.{ℕ, Decides}
use Rattle.gu_types.specs.declared.types.HeapType.{HeapType}
use Rattle.gu_types.specs.declared.types.TypeList.{TypeList}
use Rattle.gu_rec.specs.Closed.{SameType}
use Rattle.gu_rec.specs.Tests.{same_type}
use Rattle.gu_rec.specs.Sub.{IsSub, SameHeap, is_sub}
use Rattle.gu_rec.specs.Validity.{IndicesHold}

-- every type is the same as itself; sameness goes both ways, and from one module to the next
pub record SameIsEquivalence : Type 0 where
  pub reflexive : (list : TypeList) (i : ℕ) → SameType list i list i
  pub symmetric : (one other : TypeList) (i j : ℕ) → SameType one i other j → SameType other j one i
  pub transitive : (one two three : TypeList) (i j k : ℕ) → SameType one i two j → SameType two j three k → SameType one i three k

-- where the indices hold, subtyping is an order on heap types, of which the same ones count as one
pub record SubIsOrder (list : TypeList) : Type 0 where
  pub reflexive : (a b : HeapType) → SameHeap list a b → IsSub list a b
  pub transitive : (a b c : HeapType) → IsSub list a b → IsSub list b c → IsSub list a c
  pub antisymmetric : (a b : HeapType) → IsSub list a b → IsSub list b a → SameHeap list a b

abbrev pub SubIsAnOrder : Type 0
SubIsAnOrder = (list : TypeList) → IndicesHold list → SubIsOrder list

-- the test for sameness is true exactly where two indices denote one type
abbrev pub SameIsDecided : Type 0
SameIsDecided = (one other : TypeList) (i j : ℕ) → Decides (same_type one i other j) (SameType one i other j)

-- where the indices hold, the test for subtyping is true exactly where the first heap type is a subtype of the second
abbrev pub SubIsDecided : Type 0
SubIsDecided = (list : TypeList) → IndicesHold list → (a b : HeapType) → Decides (is_sub list a b) (IsSub list a b)
