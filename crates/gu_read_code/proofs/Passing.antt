-- Entries that a cursor passes.
use Rattle.std.proofs.Common.{ℕ, ◌+◌, ◌-◌, ◌^◌, ◌≤◌, ◌<◌, ◌≡◌, ◌≢◌, refl, ap, ◌∙◌, sym, subst, List, ◌++◌, length, length-append, take, drop, arith, Result, Ok, Err, IfOk, OnErr, Some, inr}
use Rattle.std.specs.Borrow.{Bor}
use Rattle.std.proofs.Math.Seq.{take-append_seam}
use Rattle.gu_bytes.specs.Place.{Place}
use Rattle.gu_bytes.specs.Reads.{Passes}
use Rattle.gu_bytes.specs.declared.cursor.Bad.{Bad}
use Rattle.gu_types.specs.declared.types.ValType.{ValType}
use Rattle.gu_syntax.specs.declared.instr.Body.{Body}
use Rattle.gu_syntax.specs.Due.{outside}
use Rattle.gu_syntax.specs.Expressions.{SpellsEntry}
use Rattle.gu_syntax.specs.Laws.{BeginsWith}
use Rattle.gu_syntax.specs.Nesting.{NestsBody}
use Rattle.gu_syntax.specs.Reading.{Item, FlatOpcode, got, refused, entry_at}
use Rattle.gu_syntax.proofs.Alone.{entry_taken, entry_shallow, entry_refused}
use Rattle.gu_syntax.proofs.Decodes.{value_is, refused-got}
use Rattle.gu_syntax.proofs.Nested.{entry_nests}
use Rattle.gu_read_parts.specs.declared.answer.ReadErr.{ReadErr}
use Rattle.gu_read_parts.specs.declared.answer.ReadErr.TheVariants as E
use Rattle.gu_read_parts.specs.declared.answer.Which.{Which}
use Rattle.gu_read_parts.specs.declared.answer.Which.TheVariants as W
use Rattle.gu_read_parts.specs.declared.stop.Stop.{Stop}
use Rattle.gu_read_parts.specs.declared.stop.Stop.TheVariants as S
use Rattle.gu_read_parts.specs.Due.{RefusesAhead, AnswersAhead, Answers, AnswersItem, later}
use Rattle.gu_read_parts.specs.Gives.{Fails, item_of}
use Rattle.gu_read_parts.proofs.Answering.{refuses_ahead}
use Rattle.gu_read_code.specs.declared.entries.Entry.{Entry}
use Rattle.gu_read_code.specs.declared.entries.Entry.TheVariants as N
use Rattle.gu_read_code.specs.Entries.{total, IsEntry}
use Rattle.gu_read_code.specs.Answers.{PassesEntry, HoldsEntry, HoldsNoShallow, HasEntry, HasTooMany, RefusesEntry, IsCounted}

abbrev Pair : Type 0
Pair = List (ℕ × ValType) × Body

-- so many bytes are passed where there are so many
passed_all : (old new : Place) (result : Result (Bor (List ℕ)) Bad) (n : ℕ) → IfOk result (λ front. Passes front.now old new) → IfOk result (λ front. length front.now ≡ n) → OnErr result (length old.rest < n) → n ≤ length old.rest → (front : List ℕ) × Passes front old new × (length front ≡ n)
passed_all old new (Ok front) n passes count fewer h = (front.now, passes, count)
passed_all old new (Err bad) n passes count fewer h = absurd (omega arith)

-- two fronts of one length are one front
same_front : (f x g y : List ℕ) → f ++ x ≡ g ++ y → length f ≡ length g → f ≡ g
same_front f x g y e l = sym (take-append_seam f x) ∙ ap (take (length f)) e ∙ ap (λ n. take n (g ++ y)) l ∙ take-append_seam g y

whole_passed : (old new : Place) (text rest : List ℕ) (locals : List (ℕ × ValType)) (body : Body) (pair : Pair) (result : Result (Bor (List ℕ)) Bad) → text ≡ old.rest → entry_at 1000 text ≡ got pair rest → (pair ≡ (locals, body)) × (total pair.0 < 2 ^ 32) → IfOk result (λ front. Passes front.now old new) → IfOk result (λ front. length front.now ≡ length text - length rest) → OnErr result (length old.rest < length text - length rest) → PassesEntry locals body old new
whole_passed old new text rest locals body pair result is read held passes count fewer =
    let e : entry_at 1000 text ≡ got (locals, body) rest = read ∙ ap (λ (p : Pair). got p rest) held.0 in
    let t : BeginsWith (SpellsEntry (locals, body)) text rest = entry_taken 1000 text rest (locals, body) e in
    let whole : text ≡ t.front ++ rest = t.whole ∙ ap (λ r. t.front ++ r) t.second in
    let same_length : length text ≡ length old.rest = ap length is in
    let p : (front : List ℕ) × Passes front old new × (length front ≡ length text - length rest) = passed_all old new result (length text - length rest) passes count fewer (omega arith) in
    let sum : length text ≡ length t.front + length rest = ap length whole ∙ length-append t.front rest in
    let long : length t.front ≡ length p.0 = omega (arith, p.2, sum) in
    let both : t.front ++ rest ≡ p.0 ++ new.rest = sym whole ∙ is ∙ p.1.whole in
    record {
      front = t.front;
      spells = t.first;
      passes = subst (λ front. Passes front old new) (sym (same_front t.front rest p.0 new.rest both long)) p.1;
      nests = entry_nests 1000 text rest (locals, body) e;
      counted = omega (arith, held.1, ap (λ (p : Pair). total p.0) held.0);
    }

pub entry_passed : (old new : Place) (text rest : List ℕ) (entry : Entry) (locals : List (ℕ × ValType)) (body : Body) (pair : Pair) (result : Result (Bor (List ℕ)) Bad) → text ≡ old.rest → entry_at 1000 text ≡ got pair rest → IsEntry entry pair → entry ≡ N.Whole locals body → IfOk result (λ front. Passes front.now old new) → IfOk result (λ front. length front.now ≡ length text - length rest) → OnErr result (length old.rest < length text - length rest) → PassesEntry locals body old new
entry_passed old new text rest entry locals body pair result is read held whole passes count fewer =
    let P : Entry → Type 0 = λ e. IsEntry e pair in
    whole_passed old new text rest locals body pair result is read (subst P whole held) passes count fewer

-- an entry that stands at the front of a text and nests no deeper is read
held_read : (text : List ℕ) (held : HoldsEntry text) → NestsBody 1000 held.body → entry_at 1000 text ≡ got (held.locals, held.body) held.rest
held_read text held nests = ap (entry_at 1000) held.whole ∙ entry_shallow 1000 (held.locals, held.body) held.front held.rest held.spells nests

held_begins : (text : List ℕ) (held : HoldsEntry text) → BeginsWith (SpellsEntry (held.locals, held.body)) text held.rest
held_begins text held = record { front = held.front; back = held.rest; whole = held.whole; first = held.spells; second = refl }

-- what is read has as many locals
same_total : (old : Place) (text rest : List ℕ) (pair : Pair) → text ≡ old.rest → entry_at 1000 text ≡ got pair rest → (held : HoldsEntry old.rest) → NestsBody 1000 held.body → total pair.0 ≡ total held.locals
same_total old text rest pair is read held nests = ap (λ (p : Pair). total p.0) (value_is pair (held.locals, held.body) rest held.rest (sym read ∙ ap (entry_at 1000) is ∙ held_read old.rest held nests))

-- too many locals
pub entry_many : (old : Place) (text rest : List ℕ) (entry : Entry) (pair : Pair) → text ≡ old.rest → entry_at 1000 text ≡ got pair rest → IsEntry entry pair → entry ≡ N.TooMany → RefusesEntry old (E.Limit W.Locals 0)
entry_many old text rest entry pair is read held many =
    let P : Entry → Type 0 = λ e. IsEntry e pair in
    let t : BeginsWith (SpellsEntry pair) text rest = entry_taken 1000 text rest pair read in
    (refl, (record { locals = pair.0; body = pair.1; front = t.front; rest = t.back; whole = sym is ∙ t.whole; spells = t.first }, entry_nests 1000 text rest pair read, subst P many held))

pub many_complete : (old : Place) (text rest : List ℕ) (entry : Entry) (pair : Pair) (err : ReadErr) → text ≡ old.rest → entry_at 1000 text ≡ got pair rest → IsEntry entry pair → entry ≡ N.TooMany → HasEntry old.rest → err ≡ E.NoMemory
many_complete old text rest entry pair err is read held many has =
    let P : Entry → Type 0 = λ e. IsEntry e pair in
    let above : 2 ^ 32 ≤ total pair.0 = subst P many held in
    absurd (omega (arith, above, has.2, same_total old text rest pair is read has.0 has.1))

pub whole_counted : (old : Place) (text rest : List ℕ) (entry : Entry) (locals : List (ℕ × ValType)) (body : Body) (pair : Pair) → text ≡ old.rest → entry_at 1000 text ≡ got pair rest → IsEntry entry pair → entry ≡ N.Whole locals body → HasTooMany old.rest → ⊥
whole_counted old text rest entry locals body pair is read held whole has =
    let P : Entry → Type 0 = λ e. IsEntry e pair in
    let is_whole : (pair ≡ (locals, body)) × (total pair.0 < 2 ^ 32) = subst P whole held in
    omega (arith, is_whole.1, has.2, same_total old text rest pair is read has.0 has.1)

-- an entry that does not stand

none_held : (text : List ℕ) (item : Item) (left : ℕ) → entry_at 1000 text ≡ refused item left → item ≢ FlatOpcode → HoldsEntry text → ⊥
none_held text item left h other held = other (entry_refused 1000 text held.rest (held.locals, held.body) (record { item = item; left = left }) h (held_begins text held)).0

none_shallow : (text : List ℕ) (item : Item) (left : ℕ) → entry_at 1000 text ≡ refused item left → HoldsNoShallow text
none_shallow text item left h held nests = (entry_refused 1000 text held.rest (held.locals, held.body) (record { item = item; left = left }) h (held_begins text held)).1 nests

-- a code that is left out of the profile opens no block
named_other : (item : Item) (text : List ℕ) (code : ℕ) → outside item text ≡ Some code → item ≢ FlatOpcode
named_other item text code named flat = let same : outside FlatOpcode text ≡ Some code = sym (ap (λ i. outside i text) flat) ∙ named in cc

item_refused : (old : Place) (item : Item) (left : ℕ) (ahead : ReadErr) → entry_at 1000 old.rest ≡ refused item left → AnswersItem old.rest item left ahead → RefusesAhead (entry_at 1000) old (later old.at ahead) → RefusesEntry old (later old.at ahead)
item_refused old item left (E.Malformed place) h answers refuses = (none_held old.rest item left h answers.1, refuses)
item_refused old item left (E.OutOfProfile place code) h answers refuses = (none_held old.rest item left h (named_other item (drop place old.rest) code answers.1), refuses)
item_refused old item left (E.Limit which place) h answers refuses =
    let P : Which → Type 0 = λ w. RefusesAhead (entry_at 1000) old (E.Limit w (old.at + place)) → RefusesEntry old (E.Limit w (old.at + place)) in
    subst P (sym answers.0) (λ r. (none_shallow old.rest item left h, r)) refuses
item_refused old item left E.NoMemory h answers refuses = tt

stop_refused : (old : Place) (stop : Stop) (ahead : ReadErr) → Fails stop (entry_at 1000 old.rest) → Answers old.rest stop ahead → RefusesAhead (entry_at 1000) old (later old.at ahead) → RefusesEntry old (later old.at ahead)
stop_refused old S.NoMemory ahead fails answers refuses = rw answers tt
stop_refused old (S.Refused asked left) ahead fails answers refuses = item_refused old (item_of asked) left ahead fails answers refuses

fails_there : (old : Place) (text : List ℕ) (stop : Stop) → text ≡ old.rest → Fails stop (entry_at 1000 text) → Fails stop (entry_at 1000 old.rest)
fails_there old text stop is fails = subst (λ t. Fails stop (entry_at 1000 t)) is fails

pub entry_fails : (old : Place) (text : List ℕ) (stop : Stop) (err : ReadErr) → text ≡ old.rest → Fails stop (entry_at 1000 text) → AnswersAhead old stop err → RefusesEntry old err
entry_fails old text stop err is fails answers =
    let there = fails_there old text stop is fails in
    let refuses = refuses_ahead (entry_at 1000) old stop err there answers in
    subst (RefusesEntry old) (sym answers.1) (stop_refused old stop answers.0 there answers.2 (subst (RefusesAhead (entry_at 1000) old) answers.1 refuses))

-- where one stands that nests no deeper, reading stops for want of memory
stopped_memory : (old : Place) (stop : Stop) (err : ReadErr) → Fails stop (entry_at 1000 old.rest) → AnswersAhead old stop err → (held : HoldsEntry old.rest) → NestsBody 1000 held.body → err ≡ E.NoMemory
stopped_memory old S.NoMemory err fails answers held nests = answers.1 ∙ ap (later old.at) answers.2
stopped_memory old (S.Refused asked left) err fails answers held nests = absurd (refused-got (item_of asked) left (held.locals, held.body) held.rest (sym fails ∙ held_read old.rest held nests))

pub fails_complete : (old : Place) (text : List ℕ) (stop : Stop) (err : ReadErr) → text ≡ old.rest → Fails stop (entry_at 1000 text) → AnswersAhead old stop err → HasEntry old.rest → err ≡ E.NoMemory
fails_complete old text stop err is fails answers has = stopped_memory old stop err (fails_there old text stop is fails) answers has.0 has.1

pub fails_counted : (old : Place) (text : List ℕ) (stop : Stop) (err : ReadErr) → text ≡ old.rest → Fails stop (entry_at 1000 text) → AnswersAhead old stop err → HasTooMany old.rest → IsCounted (Err err)
fails_counted old text stop err is fails answers has = inr (stopped_memory old stop err (fails_there old text stop is fails) answers has.0 has.1)
