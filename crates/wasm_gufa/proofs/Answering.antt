-- Bytes ask for one answer, and what a run says of them is that answer.
use Rattle.std.proofs.Common.{ℕ, ◌<◌, ◌≤◌, ◌≡◌, ◌≢◌, refl, ap, ◌∙◌, sym, subst, length, drop, inl, inr, ◌⊎◌, arith, List, Option, Some, None, IfSome}
use Rattle.gu_syntax.specs.declared.module.Module.{Module}
use Rattle.gu_syntax.specs.Encoding.{encoding}
use Rattle.gu_syntax.specs.Module.{Spells}
use Rattle.gu_syntax.specs.Nesting.{IsShallow}
use Rattle.gu_syntax.specs.Reading.{Read, Fault, Item, FlatOpcode, stops}
use Rattle.gu_syntax.specs.Due.{Due, outside}
use Rattle.gu_syntax.proofs.Modules.{one_module}
use Rattle.gu_read_parts.specs.declared.answer.Which.{Which}
use Rattle.gu_read_parts.specs.declared.answer.Which.TheVariants as W
use Rattle.gu_read.specs.Limits.{exceeded}
use Rattle.gu_read.specs.ReadsModule.{Reads, Exceeds, most_bytes}
use Rattle.gu_model.specs.declared.part.Part.{Part}
use Rattle.gu_model.specs.Cut.{cut_module}
use Rattle.gu_model.specs.Valid.{Valid}
use Rattle.gu_model.specs.ValidFailure.{IsFirstFailure}
use Rattle.gu_model.proofs.Failures.{failure_is_one, valid_has_none}
use Rattle.gu_report.specs.declared.status.Status.{Status}
use Rattle.gu_report.specs.declared.status.Status.TheVariants as S
use Rattle.wasm_gufa.specs.Answers.{most_written, IsMalformed, IsOutside, IsTooDeep, IsLimit, AsksFor, IsDue}
use Rattle.wasm_gufa.specs.Steps.{Says}

-- reading stops at one place, where one item is asked
same_fault : (f g : Fault) → ◌≡◌ {A = Read Module} (stops f) (stops g) → f ≡ g
same_fault f g h = cc

due_item : (bytes : List ℕ) (p q : ℕ) (i j : Item) → Due bytes p i → Due bytes q j → i ≡ j
due_item bytes p q i j a b = ap (λ (f : Fault). f.item) (same_fault _ _ (sym a.stopped ∙ b.stopped))

due_place : (bytes : List ℕ) (p q : ℕ) (i j : Item) → Due bytes p i → Due bytes q j → p ≡ q
due_place bytes p q i j a b = let left : a.left ≡ b.left = ap (λ (f : Fault). f.left) (same_fault _ _ (sym a.stopped ∙ b.stopped)) in omega (arith, a.here, b.here, left)

-- why bytes that are no module that nests within the limit are refused
data Stops (bytes : List ℕ) (s : Status) : Type 0 where
  malformed : (at : ℕ) → IsMalformed bytes at → s ≡ S.Malformed at → Stops bytes s
  outside_at : (at code : ℕ) → IsOutside bytes at code → s ≡ S.OutOfProfile at code → Stops bytes s
  too_deep : (at : ℕ) → IsTooDeep bytes at → s ≡ S.Limit W.Nesting at → Stops bytes s

-- what is answered for bytes that spell such a module
data Answers (m : Module) (s : Status) : Type 0 where
  exceeds : (which : Which) (at : ℕ) → exceeded m ≡ Some (which, at) → s ≡ S.Limit which at → Answers m s
  invalid : (part : Part) → exceeded m ≡ None → IsFirstFailure m part → s ≡ S.Invalid part → Answers m s
  too_long : exceeded m ≡ None → Valid m → most_written < length (encoding (cut_module m)) → s ≡ S.Limit W.Output most_written → Answers m s
  written : exceeded m ≡ None → Valid m → length (encoding (cut_module m)) ≤ most_written → s ≡ S.Done → Answers m s

-- the bytes are too many, or no such module, or one
data Reason (bytes : List ℕ) (s : Status) : Type 0 where
  many : most_bytes < length bytes → s ≡ S.Limit W.Size most_bytes → Reason bytes s
  stopped : length bytes ≤ most_bytes → ((m : Module) → Spells bytes m → IsShallow 1000 m → ⊥) → Stops bytes s → Reason bytes s
  spelled : length bytes ≤ most_bytes → (m : Module) → Spells bytes m → IsShallow 1000 m → Answers m s → Reason bytes s

reads : (bytes : List ℕ) (s : Status) (m : Module) → Reads bytes m → (exceeded m ≡ None → Answers m s) → Reason bytes s
reads bytes s m r answer = spelled r.short m r.spelled r.within.shallow (answer r.within.counted)

counts : (bytes : List ℕ) (which : Which) (at : ℕ) → (length bytes ≤ most_bytes) × Exceeds bytes which at → Reason bytes (S.Limit which at)
counts bytes which at h = spelled h.0 h.1.module h.1.spelled h.1.shallow (exceeds which at h.1.first refl)

limited : (bytes : List ℕ) (which : Which) (at : ℕ) → IsLimit bytes which at → Reason bytes (S.Limit which at)
limited bytes W.Size at h = many h.0 (ap (S.Limit W.Size) h.1)
limited bytes W.Nesting at h = stopped h.short h.unspelled (too_deep at h refl)
limited bytes W.Output at h = reads bytes _ h.0.m h.0.accepted.read (λ within. too_long within h.0.accepted.valid h.0.long (ap (S.Limit W.Output) h.1))
limited bytes W.Types at h = counts bytes W.Types at h
limited bytes W.Funcs at h = counts bytes W.Funcs at h
limited bytes W.Globals at h = counts bytes W.Globals at h
limited bytes W.Params at h = counts bytes W.Params at h
limited bytes W.Results at h = counts bytes W.Results at h
limited bytes W.Fields at h = counts bytes W.Fields at h
limited bytes W.Locals at h = counts bytes W.Locals at h
limited bytes W.ModuleLocals at h = counts bytes W.ModuleLocals at h
limited bytes W.Depth at h = counts bytes W.Depth at h

reason : (bytes : List ℕ) (s : Status) → AsksFor bytes s → Reason bytes s
reason bytes S.Done h = reads bytes S.Done h.0 h.1.read (λ within. written within h.1.valid h.2 refl)
reason bytes S.Usage h = absurd h
reason bytes (S.Malformed at) h = stopped h.short (λ m text shallow. h.unspelled m text) (malformed at h refl)
reason bytes (S.OutOfProfile at code) h = stopped h.short (λ m text shallow. h.unspelled m text) (outside_at at code h refl)
reason bytes (S.Invalid part) h = reads bytes (S.Invalid part) h.m h.read (λ within. invalid part within h.first refl)
reason bytes (S.Limit which at) h = limited bytes which at h
reason bytes S.ReadFault h = absurd h
reason bytes S.WriteFault h = absurd h
reason bytes S.NoMemory h = absurd h

-- two answers to one stop
none_some : (x : ℕ) → ◌≡◌ {A = Option ℕ} None (Some x) → ⊥
none_some x h = cc

apart : (bytes : List ℕ) (p q code : ℕ) (i j : Item) → Due bytes p i → Due bytes q j → outside i (drop p bytes) ≡ None → outside j (drop q bytes) ≡ Some code → ⊥
apart bytes p q code i j a b none some = none_some code (sym none ∙ ap (λ k. outside k (drop p bytes)) (due_item bytes p q i j a b) ∙ ap (λ k. outside j (drop k bytes)) (due_place bytes p q i j a b) ∙ some)

same_code : (x y : ℕ) → ◌≡◌ {A = Option ℕ} (Some x) (Some y) → x ≡ y
same_code x y h = cc

one_code : (bytes : List ℕ) (p q x y : ℕ) (i j : Item) → Due bytes p i → Due bytes q j → outside i (drop p bytes) ≡ Some x → outside j (drop q bytes) ≡ Some y → x ≡ y
one_code bytes p q x y i j a b is that = same_code x y (sym is ∙ ap (λ k. outside k (drop p bytes)) (due_item bytes p q i j a b) ∙ ap (λ k. outside j (drop k bytes)) (due_place bytes p q i j a b) ∙ that)

flat_is_named : (rest : List ℕ) → outside FlatOpcode rest ≡ None
flat_is_named rest = refl

deep_apart : (bytes : List ℕ) (p q code : ℕ) (i : Item) → Due bytes p i → Due bytes q FlatOpcode → outside i (drop p bytes) ≡ Some code → ⊥
deep_apart bytes p q code i a b some = apart bytes q p code FlatOpcode i b a (flat_is_named (drop q bytes)) some

one_stop : (bytes : List ℕ) (s t : Status) → Stops bytes s → Stops bytes t → s ≡ t
one_stop bytes s t (malformed p a e) (malformed q b f) = e ∙ ap S.Malformed (due_place bytes p q _ _ a.due.due b.due.due) ∙ sym f
one_stop bytes s t (malformed p a e) (outside_at q code b f) = absurd (apart bytes p q code _ _ a.due.due b.due.due a.due.unnamed b.due.named)
one_stop bytes s t (malformed p a e) (too_deep q b f) = absurd (a.due.shallow (due_item bytes p q _ _ a.due.due b.due))
one_stop bytes s t (outside_at p code a e) (malformed q b f) = absurd (apart bytes q p code _ _ b.due.due a.due.due b.due.unnamed a.due.named)
one_stop bytes s t (outside_at p code a e) (outside_at q other b f) =
    e ∙ ap (λ k. S.OutOfProfile k code) (due_place bytes p q _ _ a.due.due b.due.due) ∙ ap (S.OutOfProfile q) (one_code bytes p q code other _ _ a.due.due b.due.due a.due.named b.due.named) ∙ sym f
one_stop bytes s t (outside_at p code a e) (too_deep q b f) = absurd (deep_apart bytes p q code _ a.due.due b.due a.due.named)
one_stop bytes s t (too_deep p a e) (malformed q b f) = absurd (b.due.shallow (due_item bytes q p _ _ b.due.due a.due))
one_stop bytes s t (too_deep p a e) (outside_at q code b f) = absurd (deep_apart bytes q p code _ b.due.due a.due b.due.named)
one_stop bytes s t (too_deep p a e) (too_deep q b f) = e ∙ ap (S.Limit W.Nesting) (due_place bytes p q _ _ a.due b.due) ∙ sym f

-- two answers to one module
counted_apart : {X : Type 0} (m : Module) (which : Which) (at : ℕ) → exceeded m ≡ Some (which, at) → exceeded m ≡ None → X
counted_apart m which at a b = let no : ◌≡◌ {A = Option (Which × ℕ)} (Some (which, at)) None = sym a ∙ b in cc

same_limit : (a b : Which) (n k : ℕ) → ◌≡◌ {A = Option (Which × ℕ)} (Some (a, n)) (Some (b, k)) → S.Limit a n ≡ S.Limit b k
same_limit a b n k h = let p : ◌≡◌ {A = Which × ℕ} (a, n) (b, k) = cc in ap (λ (x : Which × ℕ). S.Limit x.0 x.1) p

one_answer : (m : Module) (s t : Status) → Answers m s → Answers m t → s ≡ t
one_answer m s t (exceeds which at a e) (exceeds other there b f) = e ∙ same_limit which other at there (sym a ∙ b) ∙ sym f
one_answer m s t (exceeds which at a e) (invalid part b v f) = counted_apart m which at a b
one_answer m s t (exceeds which at a e) (too_long b v long f) = counted_apart m which at a b
one_answer m s t (exceeds which at a e) (written b v fits f) = counted_apart m which at a b
one_answer m s t (invalid part a v e) (exceeds which at b f) = counted_apart m which at b a
one_answer m s t (invalid part a v e) (invalid other b w f) = e ∙ ap S.Invalid (failure_is_one m part other v w) ∙ sym f
one_answer m s t (invalid part a v e) (too_long b w long f) = absurd (valid_has_none m part w v)
one_answer m s t (invalid part a v e) (written b w fits f) = absurd (valid_has_none m part w v)
one_answer m s t (too_long a v long e) (exceeds which at b f) = counted_apart m which at b a
one_answer m s t (too_long a v long e) (invalid part b w f) = absurd (valid_has_none m part v w)
one_answer m s t (too_long a v long e) (too_long b w other f) = e ∙ sym f
one_answer m s t (too_long a v long e) (written b w fits f) = absurd (omega (arith, long, fits))
one_answer m s t (written a v fits e) (exceeds which at b f) = counted_apart m which at b a
one_answer m s t (written a v fits e) (invalid part b w f) = absurd (valid_has_none m part v w)
one_answer m s t (written a v fits e) (too_long b w long f) = absurd (omega (arith, long, fits))
one_answer m s t (written a v fits e) (written b w other f) = e ∙ sym f

one_reason : (bytes : List ℕ) (s t : Status) → Reason bytes s → Reason bytes t → s ≡ t
one_reason bytes s t (many a e) (many b f) = e ∙ sym f
one_reason bytes s t (many a e) (stopped short none b) = absurd (omega (arith, a, short))
one_reason bytes s t (many a e) (spelled short m text shallow b) = absurd (omega (arith, a, short))
one_reason bytes s t (stopped short none a) (many b f) = absurd (omega (arith, b, short))
one_reason bytes s t (stopped short none a) (stopped again also b) = one_stop bytes s t a b
one_reason bytes s t (stopped short none a) (spelled again m text shallow b) = absurd (none m text shallow)
one_reason bytes s t (spelled short m text shallow a) (many b f) = absurd (omega (arith, b, short))
one_reason bytes s t (spelled short m text shallow a) (stopped again none b) = absurd (none m text shallow)
one_reason bytes s t (spelled short m text shallow a) (spelled again n other also b) =
    one_answer n s t (subst (λ o. Answers o s) (one_module bytes m n text other) a) b

-- bytes ask for one answer
pub asks_for_one : (bytes : List ℕ) (s t : Status) → AsksFor bytes s → AsksFor bytes t → s ≡ t
asks_for_one bytes s t a b = one_reason bytes s t (reason bytes s a) (reason bytes t b)

-- what a run says of the bytes is what they ask for, unless memory was refused
asked : (bytes : List ℕ) (before after : Option (List ℕ)) (s : Status) → Says s bytes before after → s ≢ S.Usage → s ≢ S.ReadFault → s ≢ S.WriteFault → AsksFor bytes s ⊎ (s ≡ S.NoMemory)
asked bytes before after S.Done h u r w = inl (h.m, h.accepted, h.short)
asked bytes before after S.Usage h u r w = absurd (u refl)
asked bytes before after (S.Malformed at) h u r w = inl h
asked bytes before after (S.OutOfProfile at code) h u r w = inl h
asked bytes before after (S.Invalid part) h u r w = inl h
asked bytes before after (S.Limit which at) h u r w = inl h
asked bytes before after S.ReadFault h u r w = absurd (r refl)
asked bytes before after S.WriteFault h u r w = absurd (w refl)
asked bytes before after S.NoMemory h u r w = inr refl

answers_one : (bytes : List ℕ) (s want : Status) → AsksFor bytes s ⊎ (s ≡ S.NoMemory) → AsksFor bytes want → (s ≡ want) ⊎ (s ≡ S.NoMemory)
answers_one bytes s want (inl asks) wants = inl (asks_for_one bytes s want asks wants)
answers_one bytes s want (inr none) wants = inr none

-- which answer must come, where there is no word and nothing outside failed
pub is_due : (left before after : Option (List ℕ)) (s : Status) → IfSome left (λ bytes. Says s bytes before after) → s ≢ S.Usage → s ≢ S.ReadFault → s ≢ S.WriteFault → IfSome left (λ bytes. IsDue bytes s)
is_due None before after s h u r w = tt
is_due (Some bytes) before after s h u r w = λ want wants. answers_one bytes s want (asked bytes before after s h u r w) wants
