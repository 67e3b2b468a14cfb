-- Runs of locals that are merged one by one.
use Rattle.std.proofs.Common.{ℕ, ◌+◌, ◌≡◌, ◌≢◌, refl, ap, ◌∙◌, sym, List, [], ◌∷◌, ◌++◌, nat_eq, Bool, true, false, cond, arith, Option, Some, inl, inr, add_assoc, append_assoc, zero-add, add-zero}
use Rattle.std.proofs.lemmas.Bool.{cases_Bool}
use Rattle.gu_types.specs.declared.types.Abs.{Abs}
use Rattle.gu_types.specs.declared.types.Abs.TheVariants as A
use Rattle.gu_types.specs.declared.types.HeapType.{HeapType}
use Rattle.gu_types.specs.declared.types.HeapType.TheVariants as H
use Rattle.gu_types.specs.declared.types.ValType.{ValType}
use Rattle.gu_types.specs.declared.types.ValType.TheVariants as V
use Rattle.gu_syntax.proofs.Takes.{is_eq}
use Rattle.gu_syntax.specs.Types.{abs_byte}
use Rattle.gu_syntax.specs.Expressions.{same_heap, same_val, joined, merged}
use Rattle.gu_syntax.specs.Reading.{abs_with}
use Rattle.gu_read_code.specs.Entries.{total}
use Rattle.gu_read_code.specs.Runs.{behind_runs, added}

abbrev Run : Type 0
Run = ℕ × ValType

-- types that are spelled alike are the same

kind_back : (kind : Abs) → abs_with (abs_byte kind) ≡ Some kind
kind_back A.Any = refl
kind_back A.Eq = refl
kind_back A.I31 = refl
kind_back A.AnyStruct = refl
kind_back A.AnyArray = refl
kind_back A.Bot = refl
kind_back A.AnyFunc = refl
kind_back A.NoFunc = refl
kind_back A.Extern = refl
kind_back A.NoExtern = refl
kind_back A.Exn = refl
kind_back A.NoExn = refl

one_kind : (a b : Abs) → abs_byte a ≡ abs_byte b → a ≡ b
one_kind a b h = let e : ◌≡◌ {A = Option Abs} (Some a) (Some b) = sym (kind_back a) ∙ ap abs_with h ∙ kind_back b in cc

heap_same : (a b : HeapType) → same_heap a b ≡ true → a ≡ b
heap_same (H.Abs a) (H.Abs b) h = ap H.Abs (one_kind a b (is_eq (abs_byte a) (abs_byte b) h))
heap_same (H.Abs a) (H.Idx n) h = cc
heap_same (H.Idx m) (H.Abs b) h = cc
heap_same (H.Idx m) (H.Idx n) h = ap H.Idx (is_eq m n h)

abbrev reference : Bool → HeapType → ValType
reference null heap = V.Ref (record { null = null; heap = heap })

reference_same : (m n : Bool) (a b : HeapType) → same_val (reference m a) (reference n b) ≡ true → reference m a ≡ reference n b
reference_same true true a b h = ap (reference true) (heap_same a b h)
reference_same false false a b h = ap (reference false) (heap_same a b h)
reference_same true false a b h = cc
reference_same false true a b h = cc

pub val_same : (a b : ValType) → same_val a b ≡ true → a ≡ b
val_same V.I32 V.I32 h = refl
val_same V.I64 V.I64 h = refl
val_same (V.Ref a) (V.Ref b) h = reference_same a.null b.null a.heap b.heap h
val_same V.I32 V.I64 h = cc
val_same V.I32 (V.Ref b) h = cc
val_same V.I64 V.I32 h = cc
val_same V.I64 (V.Ref b) h = cc
val_same (V.Ref a) V.I32 h = cc
val_same (V.Ref a) V.I64 h = cc

self_eq : (n : ℕ) → nat_eq n n ≡ true
self_eq n = grind arith

heap_self : (heap : HeapType) → same_heap heap heap ≡ true
heap_self (H.Abs kind) = self_eq (abs_byte kind)
heap_self (H.Idx index) = self_eq index

reference_self : (null : Bool) (heap : HeapType) → same_val (reference null heap) (reference null heap) ≡ true
reference_self true heap = heap_self heap
reference_self false heap = heap_self heap

pub val_self : (a : ValType) → same_val a a ≡ true
val_self V.I32 = refl
val_self V.I64 = refl
val_self (V.Ref ty) = reference_self ty.null ty.heap

true_not : (b : Bool) → b ≡ true → b ≡ false → ⊥
true_not b h k = cc

pub val_differs : (a b : ValType) → a ≢ b → same_val a b ≡ false
val_differs a b h = elim (cases_Bool (same_val a b)) [
  | inl is ↦ absurd (h (val_same a b is))
  | inr isnt ↦ isnt
]

-- one more run, at the end

-- a run before others, with a run behind them
abbrev joins : Bool → Run → Run → List Run → List Run
joins is run first rest = cond is ((run.0 + first.0, run.1) ∷ rest) (run ∷ first ∷ rest)

abbrev closes : Bool → Run → Run → List Run
closes is last run = cond is ((last.0 + run.0, last.1) ∷ []) (last ∷ run ∷ [])

-- a run that differs from the next stays, whatever is behind
joined_apart : (a b c : Run) → same_val a.1 b.1 ≡ false → joined a (behind_runs (b ∷ []) c) ≡ a ∷ behind_runs (b ∷ []) c
joined_apart a b c p = elim (cases_Bool (same_val b.1 c.1)) [
  | inl is ↦ ap (λ (s : Bool). joined a (closes s b c)) is ∙ ap (λ (s : Bool). joins s a (b.0 + c.0, b.1) []) p ∙ sym (ap (λ (s : Bool). a ∷ closes s b c) is)
  | inr isnt ↦ ap (λ (s : Bool). joined a (closes s b c)) isnt ∙ ap (λ (s : Bool). joins s a b (c ∷ [])) p ∙ sym (ap (λ (s : Bool). a ∷ closes s b c) isnt)
]

same_both : (a b c : Run) (x y z : Bool) → same_val a.1 b.1 ≡ x → same_val b.1 c.1 ≡ y → same_val a.1 c.1 ≡ z → joined a (behind_runs (b ∷ []) c) ≡ behind_runs (joined a (b ∷ [])) c
same_both a b c true true true p q r =
    ap (λ (s : Bool). joined a (closes s b c)) q
    ∙ ap (λ (s : Bool). joins s a (b.0 + c.0, b.1) []) p
    ∙ ap (λ n. (n, a.1) ∷ []) (sym (add_assoc a.0 b.0 c.0))
    ∙ sym (ap (λ (s : Bool). closes s (a.0 + b.0, a.1) c) r)
    ∙ sym (ap (λ (s : Bool). behind_runs (joins s a b []) c) p)
same_both a b c true false false p q r =
    ap (λ (s : Bool). joined a (closes s b c)) q
    ∙ ap (λ (s : Bool). joins s a b (c ∷ [])) p
    ∙ sym (ap (λ (s : Bool). closes s (a.0 + b.0, a.1) c) r)
    ∙ sym (ap (λ (s : Bool). behind_runs (joins s a b []) c) p)
same_both a b c false y z p q r =
    joined_apart a b c p
    ∙ sym (ap (λ (s : Bool). behind_runs (joins s a b []) c) p)
same_both a b c true true false p q r = absurd (true_not (same_val a.1 c.1) (ap (λ ty. same_val ty c.1) (val_same a.1 b.1 p) ∙ q) r)
same_both a b c true false true p q r = absurd (true_not (same_val b.1 c.1) (ap (λ ty. same_val ty c.1) (sym (val_same a.1 b.1 p)) ∙ r) q)

joined_behind : (a : Run) (runs : List Run) (c : Run) → joined a (behind_runs runs c) ≡ behind_runs (joined a runs) c
joined_behind a [] c = refl
joined_behind a (b ∷ []) c = same_both a b c (same_val a.1 b.1) (same_val b.1 c.1) (same_val a.1 c.1) refl refl refl
joined_behind a (b ∷ next ∷ runs) c = elim (cases_Bool (same_val a.1 b.1)) [
  | inl is ↦ ap (λ (s : Bool). joins s a b (behind_runs (next ∷ runs) c)) is ∙ sym (ap (λ (s : Bool). behind_runs (joins s a b (next ∷ runs)) c) is)
  | inr isnt ↦ ap (λ (s : Bool). joins s a b (behind_runs (next ∷ runs) c)) isnt ∙ sym (ap (λ (s : Bool). behind_runs (joins s a b (next ∷ runs)) c) isnt)
]

abbrev counts : Bool → Run → List Run → List Run
counts is run others = cond is others (joined run others)

joined_added : (a : Run) (runs : List Run) (c : Run) → joined a (added runs c) ≡ added (joined a runs) c
joined_added a runs c = elim (cases_Bool (nat_eq c.0 0)) [
  | inl is ↦ ap (λ (s : Bool). joined a (cond s runs (behind_runs runs c))) is ∙ sym (ap (λ (s : Bool). cond s (joined a runs) (behind_runs (joined a runs) c)) is)
  | inr isnt ↦ ap (λ (s : Bool). joined a (cond s runs (behind_runs runs c))) isnt ∙ joined_behind a runs c ∙ sym (ap (λ (s : Bool). cond s (joined a runs) (behind_runs (joined a runs) c)) isnt)
]

pub merged_push : (runs : List Run) (c : Run) → merged (runs ++ c ∷ []) ≡ added (merged runs) c
merged_push [] c = refl
merged_push (a ∷ runs) c = ap (counts (nat_eq a.0 0) a) (merged_push runs c) ∙ elim (cases_Bool (nat_eq a.0 0)) [
  | inl is ↦ ap (λ (s : Bool). counts s a (added (merged runs) c)) is ∙ sym (ap (λ (s : Bool). added (counts s a (merged runs)) c) is)
  | inr isnt ↦ ap (λ (s : Bool). counts s a (added (merged runs) c)) isnt ∙ joined_added a (merged runs) c ∙ sym (ap (λ (s : Bool). added (counts s a (merged runs)) c) isnt)
]

-- what join does to the last run

pub behind_last : (runs : List Run) (last c : Run) → behind_runs (runs ++ last ∷ []) c ≡ runs ++ closes (same_val last.1 c.1) last c
behind_last [] last c = refl
behind_last (a ∷ []) last c = refl
behind_last (a ∷ b ∷ runs) last c = ap (λ rs. a ∷ rs) (behind_last (b ∷ runs) last c)

pub behind_same : (runs : List Run) (last c : Run) → same_val last.1 c.1 ≡ true → behind_runs (runs ++ last ∷ []) c ≡ runs ++ (last.0 + c.0, last.1) ∷ []
behind_same runs last c h = behind_last runs last c ∙ ap (λ (s : Bool). runs ++ closes s last c) h

pub behind_other : (runs : List Run) (last c : Run) → same_val last.1 c.1 ≡ false → behind_runs (runs ++ last ∷ []) c ≡ (runs ++ last ∷ []) ++ c ∷ []
behind_other runs last c h = behind_last runs last c ∙ ap (λ (s : Bool). runs ++ closes s last c) h ∙ sym (append_assoc runs (last ∷ []) (c ∷ []))

-- how many locals there are

pub total-append : (runs others : List Run) → total (runs ++ others) ≡ total runs + total others
total-append [] others = sym (zero-add (total others))
total-append (a ∷ runs) others = ap (λ n. a.0 + n) (total-append runs others) ∙ sym (add_assoc a.0 (total runs) (total others))

pub total-push : (runs : List Run) (c : Run) → total (runs ++ c ∷ []) ≡ total runs + c.0
total-push runs c = total-append runs (c ∷ []) ∙ ap (λ n. total runs + n) (add-zero c.0)

total-joined : (a : Run) (runs : List Run) → total (joined a runs) ≡ a.0 + total runs
total-joined a [] = refl
total-joined a (b ∷ runs) = elim (cases_Bool (same_val a.1 b.1)) [
  | inl is ↦ ap (λ (s : Bool). total (joins s a b runs)) is ∙ add_assoc a.0 b.0 (total runs)
  | inr isnt ↦ ap (λ (s : Bool). total (joins s a b runs)) isnt
]

pub total-merged : (runs : List Run) → total (merged runs) ≡ total runs
total-merged [] = refl
total-merged (a ∷ runs) = elim (cases_Bool (nat_eq a.0 0)) [
  | inl is ↦ ap (λ (s : Bool). total (counts s a (merged runs))) is ∙ total-merged runs ∙ sym (zero-add (total runs)) ∙ sym (ap (λ n. n + total runs) (is_eq a.0 0 is))
  | inr isnt ↦ ap (λ (s : Bool). total (counts s a (merged runs))) isnt ∙ total-joined a (merged runs) ∙ ap (λ n. a.0 + n) (total-merged runs)
]
