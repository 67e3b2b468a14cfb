-- The first heap type on a line that another is a subtype of is the least common supertype.
use Rattle.std.proofs.Common.{◌≡◌, ℕ, zero, suc, ◌<◌, Bool, true, false, cond, List, [], ◌∷◌, map, length, Option, Some, None, option_map, is_some, IfSome, MatchOption, find, refl, ap, sym, ◌∙◌, subst, arith, true≢false}
use Rattle.gu_types.specs.declared.types.Abs.{Abs}
use Rattle.gu_types.specs.declared.types.Abs.TheVariants as A
use Rattle.gu_types.specs.declared.types.HeapType.{HeapType}
use Rattle.gu_types.specs.declared.types.HeapType.TheVariants as H
use Rattle.gu_types.specs.declared.types.TypeList.{TypeList}
use Rattle.gu_types.specs.Depth.{types_of, parent}
use Rattle.gu_rec.specs.Sub.{abs_line, line, same_heap, distance, top_over, is_sub, IsSub, itself, onward, SameHeap, IsHeapOf, IsNoBottom, IsLeastIndex, IsLeastCommon, HaveNoCommon}
use Rattle.gu_rec.specs.Table.{place, root_kind, above_type, next_above, IsNamed}
use Rattle.gu_rec.specs.Validity.{IndicesHold}
use Rattle.gu_rec.proofs.Antisymmetric.{antisymmetric}
use Rattle.gu_rec.proofs.Lines.{line_root, line_step, kind_root}
use Rattle.gu_rec.proofs.Order.{is_abs}
use Rattle.gu_rec.proofs.Places.{roots_are}
use Rattle.gu_rec.proofs.Queries.{distance_is}
use Rattle.gu_rec.proofs.Same.{same_type_decides}
use Rattle.gu_rec.proofs.Seats.{same_there}
use Rattle.gu_rec.proofs.Decided.{no_bottom, below_none, is_sub_sound, is_sub_complete}
use Rattle.gu_rec.proofs.Climbing.{rank, Up, up, up_sub, up_least, last_none, named_least, named_index, named_abs}
use Rattle.gu_contents.specs.Contents.{least_of, least_index}
use Rattle.gu_contents.specs.Join.{common}
use Rattle.gu_contents.specs.Laws.{CommonIsExact}
use Rattle.gu_contents.proofs.Heaps.{At, here, further, at, same_back, sub_distance}
use Rattle.gu_contents.proofs.Heights.{IsHead, least_same, least_least}

-- a line is a heap type, and the line of what stands directly above it
abbrev rest : TypeList → Option HeapType → List HeapType
rest list None = []
rest list (Some next) = line list next

above_lines : (list : TypeList) (i : ℕ) (o : Option ℕ) → parent (types_of list) i ≡ o → i < length (types_of list) → line list (H.Idx i) ≡ H.Idx i ∷ line list (above_type (root_kind (types_of list) i) o)
unfolding line
above_lines list i None e h = line_root list i e ∙ ap (λ xs. H.Idx i ∷ xs) (roots_are list i h ∙ ap (λ k. map H.Abs (abs_line k)) (sym (kind_root (types_of list) i e)))
above_lines list i (Some p) e h = line_step list i p e

line_rest : (list : TypeList) (a : HeapType) → IsHeapOf list a → line list a ≡ a ∷ rest list (next_above list a)
unfolding line
line_rest list (H.Idx i) h = above_lines list i (parent (types_of list) i) refl h
line_rest list (H.Abs A.Any) h = refl
line_rest list (H.Abs A.Eq) h = refl
line_rest list (H.Abs A.I31) h = refl
line_rest list (H.Abs A.AnyStruct) h = refl
line_rest list (H.Abs A.AnyArray) h = refl
line_rest list (H.Abs A.Bot) h = refl
line_rest list (H.Abs A.AnyFunc) h = refl
line_rest list (H.Abs A.NoFunc) h = refl
line_rest list (H.Abs A.Extern) h = refl
line_rest list (H.Abs A.NoExtern) h = refl
line_rest list (H.Abs A.Exn) h = refl
line_rest list (H.Abs A.NoExn) h = refl

-- what holds of a heap type of the module where it holds of what stands directly above it holds of all
module _ (list : TypeList) (P : HeapType → Type 0) (ends : (a : HeapType) → IsHeapOf list a → next_above list a ≡ None → line list a ≡ a ∷ [] → P a) (steps : (a next : HeapType) → IsHeapOf list a → Up list a next → line list a ≡ a ∷ line list next → P next → P a) where
  along_fuel : (fuel : ℕ) (a : HeapType) → rank a < fuel → IsHeapOf list a → P a
  along_fuel zero a l h = absurd (omega arith)
  along_fuel (suc fuel) a l h = by_next (λ b m k. along_fuel fuel b m k) (next_above list a) refl
    where
      by_next : ((b : HeapType) → rank b < fuel → IsHeapOf list b → P b) → (o : Option HeapType) → next_above list a ≡ o → P a
      by_next ih None e = ends a h e (line_rest list a h ∙ ap (λ o. a ∷ rest list o) e)
      by_next ih (Some next) e =
          let u = up list a next h e in
          let m = u.lower in
          steps a next h u (line_rest list a h ∙ ap (λ o. a ∷ rest list o) e) (ih next (omega arith) u.in_range)

  pub upwards : (a : HeapType) → IsHeapOf list a → P a
  upwards a h = along_fuel (suc (rank a)) a (omega arith) h

same_in_range : (list : TypeList) (b a : HeapType) → same_heap list b a ≡ true → IsHeapOf list a → IsHeapOf list b
same_in_range list b (H.Abs k) s h = subst (IsHeapOf list) (sym (is_abs list b k s)) h
same_in_range list (H.Abs k) (H.Idx i) s h = tt
same_in_range list (H.Idx t) (H.Idx i) s h = same_there list i t h (same_back list t i ((same_type_decides list list t i).0 s))

range_at : (list : TypeList) (a b : HeapType) (xs : List HeapType) (k : ℕ) → IsHeapOf list a → ((n : ℕ) → place (same_heap list b) xs ≡ Some n → IsHeapOf list b) → At (same_heap list b) a xs k → IsHeapOf list b
range_at list a b xs k h rest (here s z) = same_in_range list b a s h
range_at list a b xs k h rest (further n s r z) = rest n r

-- what stands above a heap type of the module is one
pub above_in_range : (list : TypeList) (a b : HeapType) (k : ℕ) → IsHeapOf list a → distance list b a ≡ Some k → IsHeapOf list b
above_in_range list a b k h e = upwards list (λ a. (k : ℕ) → place (same_heap list b) (line list a) ≡ Some k → IsHeapOf list b)
    (λ a h n l k p. range_at list a b [] k h (λ m r. cc) (at (same_heap list b) a [] k (ap (place (same_heap list b)) (sym l) ∙ p)))
    (λ a next h u l ih k p. range_at list a b (line list next) k h ih (at (same_heap list b) a (line list next) k (ap (place (same_heap list b)) (sym l) ∙ p)))
    a h k (sym (distance_is list b a) ∙ e)

-- what stands above a heap type that is no bottom is none
pub above_no_bottom : (list : TypeList) → IndicesHold list → (a b : HeapType) (k : ℕ) → IsNoBottom a → distance list b a ≡ Some k → IsNoBottom b
above_no_bottom list hold a b k n e = by_top (top_over b) refl
  where
    by_top : (o : Option Abs) → top_over b ≡ o → IsNoBottom b
    by_top None f = f
    by_top (Some t) f = absurd (no_bottom list a b t n f (sym (below_none list hold a b n) ∙ (sub_distance list hold a b n ∙ ap is_some e)))

-- the least heap type that is above two
record IsLeast (list : TypeList) (a b at : HeapType) : Type 0 where
  above_first : IsSub list a at
  above_second : IsSub list b at
  least : (c : HeapType) → IsSub list a c → IsSub list b c → IsSub list at c

abbrev Answer : TypeList → HeapType → HeapType → Option HeapType → Type 0
Answer list a b o = MatchOption o (HaveNoCommon list a b) (IsLeast list a b)

module _ (list : TypeList) (hold : IndicesHold list) (b : HeapType) where
  apart : (a : HeapType) → is_sub list b a ≡ false → IsSub list b a → ⊥
  apart a e p = true≢false (sym (is_sub_complete list hold p) ∙ e)

  lift : (a next : HeapType) → IsNoBottom a → Up list a next → (IsSub list b a → ⊥) → (o : Option HeapType) → Answer list next b o → Answer list a b o
  lift a next n u x None w = λ c p q. w c (up_least list hold a next b c n u x p q) q
  lift a next n u x (Some at) w = record {
    above_first = onward a next at (up_sub list hold a next n u) w.above_first;
    above_second = w.above_second;
    least = λ c p q. w.least c (up_least list hold a next b c n u x p q) q;
  }

  abbrev Searched : HeapType → Type 0
  Searched a = IsNoBottom a → Answer list a b (find (is_sub list b) (line list a))

  ends_here : (a : HeapType) → IsHeapOf list a → next_above list a ≡ None → line list a ≡ a ∷ [] → Searched a
  ends_here a h e l n = subst (λ xs. Answer list a b (find (is_sub list b) xs)) (sym l) (by_test (is_sub list b a) refl)
    where
      by_test : (t : Bool) → is_sub list b a ≡ t → Answer list a b (cond t (Some a) None)
      by_test true s = record { above_first = itself a; above_second = is_sub_sound list hold b a s; least = λ c p q. p }
      by_test false s = λ c p q. last_none list hold a b c n e (apart a s) p q

  goes_on : (a next : HeapType) → IsHeapOf list a → Up list a next → line list a ≡ a ∷ line list next → Searched next → Searched a
  goes_on a next h u l ih n = subst (λ xs. Answer list a b (find (is_sub list b) xs)) (sym l) (by_test (is_sub list b a) refl)
    where
      by_test : (t : Bool) → is_sub list b a ≡ t → Answer list a b (cond t (Some a) (find (is_sub list b) (line list next)))
      by_test true s = record { above_first = itself a; above_second = is_sub_sound list hold b a s; least = λ c p q. p }
      by_test false s = lift a next n u (apart a s) (find (is_sub list b) (line list next)) (ih u.no_bottom)

  searched : (a : HeapType) → IsHeapOf list a → IsNoBottom a → Answer list a b (find (is_sub list b) (line list a))
  searched a h n = upwards list Searched ends_here goes_on a h n

named_at : (list : TypeList) (a : HeapType) → IsNamed list a (least_index list a)
named_at list (H.Abs k) = named_abs list k
named_at list (H.Idx i) = named_index list i (least_of list i) (least_same list i) (least_least list i)

answer_named : (list : TypeList) (a b : HeapType) (o : Option HeapType) → Answer list a b o → MatchOption (option_map (least_index list) o) (HaveNoCommon list a b) (IsLeastCommon list a b)
answer_named list a b None w = w
answer_named list a b (Some at) w = named_least list a b at (least_index list at) w.above_first w.above_second w.least (named_at list at)

same_one : (list : TypeList) (c d : HeapType) → IsLeastIndex list c → IsLeastIndex list d → SameHeap list c d → c ≡ d
same_one list (H.Abs k) (H.Abs l) p q e = ap H.Abs e
same_one list (H.Abs k) (H.Idx j) p q e = absurd e
same_one list (H.Idx i) (H.Abs l) p q e = absurd e
same_one list (H.Idx i) (H.Idx j) p q e = let x = p j e in let y = q i (same_back list i j e) in ap H.Idx (omega arith)

-- how far one heap type stands above another
pub record Far (list : TypeList) (above below : HeapType) : Type 0 where
  pub edges : ℕ
  pub is : distance list above below ≡ Some edges

pub common_exact : CommonIsExact
unfolding common
common_exact list hold a b h k n = answer_named list a b (find (is_sub list b) (line list a)) (searched list hold b a h n)

one_least : (list : TypeList) → IndicesHold list → (a b c d : HeapType) → IsLeastCommon list a b c → IsLeastCommon list a b d → c ≡ d
one_least list hold a b c d v w =
    same_one list c d v.least_index w.least_index
    (antisymmetric list hold c d (is_sub_complete list hold (v.least d w.above_first w.above_second)) (is_sub_complete list hold (w.least c v.above_first v.above_second)))

-- what is the least common supertype by its relation is what the search finds
pub common_is : (list : TypeList) → IndicesHold list → (a b : HeapType) → IsHeapOf list a → IsHeapOf list b → IsNoBottom a → (o : Option HeapType) → MatchOption o (HaveNoCommon list a b) (IsLeastCommon list a b) → o ≡ common list a b
common_is list hold a b h k n o w = by_both o (common list a b) w (common_exact list hold a b h k n)
  where
    by_both : (o p : Option HeapType) → MatchOption o (HaveNoCommon list a b) (IsLeastCommon list a b) → MatchOption p (HaveNoCommon list a b) (IsLeastCommon list a b) → o ≡ p
    by_both None None v w = refl
    by_both None (Some d) v w = absurd (v d w.above_first w.above_second)
    by_both (Some c) None v w = absurd (w c v.above_first v.above_second)
    by_both (Some c) (Some d) v w = ap (λ x. Some x) (one_least list hold a b c d v w)

-- the distances of a least common supertype to both
pub record Above (list : TypeList) (a b c : HeapType) : Type 0 where
  pub first : ℕ
  pub first_is : distance list c a ≡ Some first
  pub second : ℕ
  pub second_is : distance list c b ≡ Some second
  pub in_range : IsHeapOf list c
  pub no_bottom : IsNoBottom c
  pub least : IsLeastIndex list c

pub sub_far : (list : TypeList) → IndicesHold list → (a c : HeapType) → IsNoBottom a → IsSub list a c → Far list c a
sub_far list hold a c n p = by_distance (distance list c a) refl
  where
    by_distance : (o : Option ℕ) → distance list c a ≡ o → Far list c a
    by_distance None e = absurd (true≢false (sym (is_sub_complete list hold p) ∙ (sub_distance list hold a c n ∙ ap is_some e)))
    by_distance (Some k) e = record { edges = k; is = e }

pub common_above : (list : TypeList) → IndicesHold list → (a b c : HeapType) → IsHead list a → IsHead list b → common list a b ≡ Some c → Above list a b c
common_above list hold a b c h k e =
    let w : IsLeastCommon list a b c = subst (λ o. MatchOption o (HaveNoCommon list a b) (IsLeastCommon list a b)) e (common_exact list hold a b h.is_heap k.is_heap h.no_bottom) in
    let x = sub_far list hold a c h.no_bottom w.above_first in
    let y = sub_far list hold b c k.no_bottom w.above_second in
    record {
      first = x.edges;
      first_is = x.is;
      second = y.edges;
      second_is = y.is;
      in_range = above_in_range list a c x.edges h.is_heap x.is;
      no_bottom = above_no_bottom list hold a c x.edges h.no_bottom x.is;
      least = w.least_index;
    }

-- a least common supertype is one of the module's types, and no bottom
pub common_range : (list : TypeList) → IndicesHold list → (a b : HeapType) → IsHead list a → (o : Option HeapType) → MatchOption o (HaveNoCommon list a b) (IsLeastCommon list a b) → IfSome o (IsHeapOf list)
common_range list hold a b h None w = tt
common_range list hold a b h (Some c) w = let x = sub_far list hold a c h.no_bottom w.above_first in above_in_range list a c x.edges h.is_heap x.is

pub common_no_bottom : (list : TypeList) → IndicesHold list → (a b : HeapType) → IsHead list a → (o : Option HeapType) → MatchOption o (HaveNoCommon list a b) (IsLeastCommon list a b) → IfSome o IsNoBottom
common_no_bottom list hold a b h None w = tt
common_no_bottom list hold a b h (Some c) w = let x = sub_far list hold a c h.no_bottom w.above_first in above_no_bottom list hold a c x.edges h.no_bottom x.is
