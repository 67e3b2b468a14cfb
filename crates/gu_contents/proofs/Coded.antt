-- Codes give back their contents.
use Rattle.std.proofs.Common.{◌≡◌, ℕ, zero, suc, ◌+◌, ◌-◌, ◌*◌, ◌/◌, ◌%◌, ◌^◌, ◌<◌, ◌≤◌, Bool, true, false, List, [], ◌∷◌, length, get_or, slice_get, slice_index, nat_eq, if◌then◌else◌, Some, option_map, unwrap_or, Contains, refl, ap, ap₂, sym, ◌∙◌, arith, lt-ltb, le-ltb, eqb-true, eq-eqb}
use Rattle.gu_types.specs.declared.types.Abs.{Abs}
use Rattle.gu_types.specs.declared.types.Abs.TheVariants as A
use Rattle.gu_types.specs.declared.types.HeapType.{HeapType}
use Rattle.gu_types.specs.declared.types.HeapType.TheVariants as H
use Rattle.gu_rec.specs.Table.{place}
use Rattle.gu_rec.specs.Tests.{abs_number}
use Rattle.gu_rec.proofs.Places.{place_is}
use Rattle.gu_contents.specs.declared.content.Core.{Core}
use Rattle.gu_contents.specs.declared.content.Core.TheVariants.{Bottom, Func, Global, Cone}
use Rattle.gu_contents.specs.declared.content.Content.{Content}
use Rattle.gu_contents.specs.declared.content.Content.TheVariants.{Empty, I32, I64, NumGlobal, Many, Ref, Top}
use Rattle.gu_contents.specs.Belongs.{IsListed, IsShallow, IsShallowCore}
use Rattle.gu_contents.specs.Codes.{heap_number, place_in, core_code, code, word, kinds, heap_at, cone_at, content_at, content, HeapHasWords, CoreHasWords, HasWords}
use Rattle.gu_contents.specs.Laws.{CodesAreExact}
use Rattle.gu_contents.proofs.Heaps.{At, here, further, at, Found}

-- what is read of a list, and 0 behind its end
pub read_or_zero : (xs : List ℕ) (i : ℕ) → unwrap_or (slice_get xs i) 0 ≡ slice_index xs i
read_or_zero [] i = refl
read_or_zero (x ∷ xs) zero = refl
read_or_zero (x ∷ xs) (suc i) = read_or_zero xs i

tag_is : (tag rest : ℕ) → tag < 16 → (tag + 16 * rest) % 16 ≡ tag
tag_is tag rest l = omega arith

rest_is : (tag rest : ℕ) → tag < 16 → (tag + 16 * rest) / 16 ≡ rest
rest_is tag rest l = omega arith

-- what a tag and what stands above it give
tagged_is : (longs : List ℕ) (tag rest : ℕ) → tag < 16 → content longs (tag + 16 * rest) ≡ content_at longs tag rest
unfolding content
tagged_is longs tag rest l = ap₂ (content_at longs) (tag_is tag rest l) (rest_is tag rest l)

word_is : (rest : ℕ) → rest < 2 ^ 32 → word rest ≡ rest
word_is rest l = omega arith

kind_is : (kind : Abs) → get_or kinds (abs_number kind) A.Any ≡ kind
kind_is A.Any = refl
kind_is A.Eq = refl
kind_is A.I31 = refl
kind_is A.AnyStruct = refl
kind_is A.AnyArray = refl
kind_is A.Bot = refl
kind_is A.AnyFunc = refl
kind_is A.NoFunc = refl
kind_is A.Extern = refl
kind_is A.NoExtern = refl
kind_is A.Exn = refl
kind_is A.NoExn = refl

few_kinds : (kind : Abs) → abs_number kind < 12
few_kinds A.Any = omega arith
few_kinds A.Eq = omega arith
few_kinds A.I31 = omega arith
few_kinds A.AnyStruct = omega arith
few_kinds A.AnyArray = omega arith
few_kinds A.Bot = omega arith
few_kinds A.AnyFunc = omega arith
few_kinds A.NoFunc = omega arith
few_kinds A.Extern = omega arith
few_kinds A.NoExtern = omega arith
few_kinds A.Exn = omega arith
few_kinds A.NoExn = omega arith

-- the heap type with the number of a heap type
heap_is : (heap : HeapType) → HeapHasWords heap → heap_at (heap_number heap) ≡ heap
heap_is (H.Abs kind) h =
    ap (λ b. if b then H.Abs (get_or kinds (abs_number kind) A.Any) else H.Idx (word (abs_number kind - 12))) (lt-ltb (abs_number kind) 12 (few_kinds kind))
    ∙ ap H.Abs (kind_is kind)
heap_is (H.Idx i) h =
    ap (λ b. if b then H.Abs (get_or kinds (12 + i) A.Any) else H.Idx (word (12 + i - 12))) (le-ltb (12 + i) 12 (omega arith))
    ∙ ap H.Idx (ap word (omega arith) ∙ word_is i h)

cone_is : (head : HeapType) (depth : ℕ) → HeapHasWords head → depth ≤ 66 → cone_at (depth + 128 * heap_number head) ≡ Cone head depth
cone_is head depth h l =
    let n : (depth + 128 * heap_number head) / 128 ≡ heap_number head = omega arith in
    let d : (depth + 128 * heap_number head) % 128 ≡ depth = omega arith in
    ap₂ Cone (ap heap_at n ∙ heap_is head h) d

-- what is found in a list stands there
found_in : (longs : List ℕ) (v k : ℕ) → place (nat_eq v) longs ≡ Some k → slice_index longs k ≡ v
found_in [] v k h = cc
found_in (x ∷ xs) v k h = by_place (λ n r. found_in xs v n r) (at (nat_eq v) x xs k h)
  where
    by_place : ((n : ℕ) → place (nat_eq v) xs ≡ Some n → slice_index xs n ≡ v) → At (nat_eq v) x xs k → slice_index (x ∷ xs) k ≡ v
    by_place ih (here e z) = ap (slice_index (x ∷ xs)) z ∙ sym (eqb-true v x e)
    by_place ih (further n e r z) = ap (slice_index (x ∷ xs)) z ∙ ih n r

-- what stands in a list is found
finds : (longs : List ℕ) (v k : ℕ) → k < length longs → get_or longs k v ≡ v → Found (nat_eq v) longs
finds [] v k l e = absurd (omega arith)
finds (x ∷ xs) v zero l e = record { at = 0; is = ap (λ b. if b then Some 0 else option_map suc (place (nat_eq v) xs)) (eq-eqb v x (sym e)) }
finds (x ∷ xs) v (suc k) l e = by_test (finds xs v k (omega arith) e) (nat_eq v x) refl
  where
    by_test : Found (nat_eq v) xs → (b : Bool) → nat_eq v x ≡ b → Found (nat_eq v) (x ∷ xs)
    by_test f true t = record { at = 0; is = ap (λ b. if b then Some 0 else option_map suc (place (nat_eq v) xs)) t }
    by_test f false t = record { at = suc f.at; is = ap (λ b. if b then Some 0 else option_map suc (place (nat_eq v) xs)) t ∙ ap (option_map suc) f.is }

listed_is : (longs : List ℕ) (v : ℕ) → Contains longs v → slice_index longs (place_in longs v) ≡ v
listed_is longs v c =
    let f = finds longs v c.0 c.1 c.2 in
    ap (λ o. slice_index longs (unwrap_or o 0)) (place_is (nat_eq v) longs ∙ f.is) ∙ found_in longs v f.at f.is

core_back : (longs : List ℕ) (n : Bool) (c : Core) → CoreHasWords c → IsShallowCore c → content longs (core_code (if n then 1 else 0) c) ≡ Ref n c
core_back longs false Bottom w s = tagged_is longs 6 0 (omega arith)
core_back longs true Bottom w s = tagged_is longs 7 0 (omega arith)
core_back longs false (Func f) w s = tagged_is longs 8 f (omega arith) ∙ ap (λ x. Ref false (Func x)) (word_is f w)
core_back longs true (Func f) w s = tagged_is longs 9 f (omega arith) ∙ ap (λ x. Ref true (Func x)) (word_is f w)
core_back longs false (Global g) w s = tagged_is longs 10 g (omega arith) ∙ ap (λ x. Ref false (Global x)) (word_is g w)
core_back longs true (Global g) w s = tagged_is longs 11 g (omega arith) ∙ ap (λ x. Ref true (Global x)) (word_is g w)
core_back longs false (Cone head depth) w s = tagged_is longs 12 (depth + 128 * heap_number head) (omega arith) ∙ ap (Ref false) (cone_is head depth w s)
core_back longs true (Cone head depth) w s = tagged_is longs 13 (depth + 128 * heap_number head) (omega arith) ∙ ap (Ref true) (cone_is head depth w s)

pub gives_back : (longs : List ℕ) (a : Content) → HasWords a → IsListed longs a → IsShallow a → content longs (code longs a) ≡ a
unfolding code
gives_back longs Empty w h s = tagged_is longs 0 0 (omega arith)
gives_back longs Many w h s = tagged_is longs 1 0 (omega arith)
gives_back longs Top w h s = tagged_is longs 2 0 (omega arith)
gives_back longs (I32 v) w h s = tagged_is longs 3 v (omega arith) ∙ ap I32 (word_is v w)
gives_back longs (I64 v) w h s = tagged_is longs 4 (place_in longs v) (omega arith) ∙ ap I64 (listed_is longs v h)
gives_back longs (NumGlobal g) w h s = tagged_is longs 5 g (omega arith) ∙ ap NumGlobal (word_is g w)
gives_back longs (Ref n c) w h s = core_back longs n c w s

pub nothing_is : (longs : List ℕ) → code longs Empty ≡ 0
unfolding code
nothing_is longs = refl

pub codes_exact : (longs : List ℕ) → CodesAreExact longs
codes_exact longs = record {
  gives_back = gives_back longs;
  apart = λ a b v w l m s t e. sym (gives_back longs a v l s) ∙ (ap (content longs) e ∙ gives_back longs b w m t);
  nothing = nothing_is longs;
}
