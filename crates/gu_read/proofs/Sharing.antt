-- Batches of code entries that are read apart, and joined.
use Rattle.std.proofs.Common.{ℕ, ◌+◌, ◌-◌, ◌*◌, ◌^◌, ◌<◌, ◌≤◌, ◌≡◌, refl, length-append, inl, inr, ap, ◌∙◌, sym, subst, List, [], ◌∷◌, ◌++◌, append_assoc, length, take, drop, min, arith, Result, Ok, Err}
use Rattle.std.proofs.lemmas.List.{take-append-drop, drop-drop, take_min, length-drop}
use Rattle.std.proofs.lemmas.List.Elements.{All-head, All-tail}
use Rattle.std.proofs.lemmas.Nat.{div-mul-add, mod-mul-add}
use Rattle.gu_parallel.specs.Parts.{IsPartOf, Follow}
use Rattle.gu_parallel.specs.declared.parts.Part.{Part}
use Rattle.gu_syntax.specs.declared.module.Func.{Func}
use Rattle.gu_syntax.specs.Reading.{Read, Fault, got, stops, ◌>>=◌, func_at, entries_at}
use Rattle.gu_syntax.proofs.Decodes.{got-stops, bind_stops, Decodes}
use Rattle.gu_syntax.proofs.Segments.{FuncOf, func_decodes}
use Rattle.gu_syntax.proofs.Takes.{Takes}
use Rattle.gu_read_parts.specs.declared.stop.Stop.{Stop}
use Rattle.gu_read_parts.specs.declared.stop.Stop.TheVariants as S
use Rattle.gu_read_parts.specs.Gives.{Fails, left_at}
use Rattle.gu_read_parts.proofs.Vectors.{behind}
use Rattle.gu_read.specs.Standing.{StandsFor, AllStandFor, GivesFront}
use Rattle.gu_read.specs.Shares.{EndsAt, number_of, offset_of, types_from, bytes_from, types_between, Ends, Makes}
use Rattle.gu_read.proofs.Runs.{Runs, zip_append}
use Rattle.gu_read.proofs.Ends.{entries_append}

pub no_items : {X : Type 0} (xs : List X) → length xs ≡ 0 → xs ≡ []
no_items [] e = refl
no_items (x ∷ xs) e = absurd (omega arith)

-- a part of the entries, and the parts from a place on
abbrev pub Made : Type 0
Made = Part (Result (List Func) Stop)

abbrev pub Shared : (tys bytes : List ℕ) (place : ℕ) → List Made → Type 0
Shared tys bytes place parts = (until : ℕ) × Follow (Ends tys bytes) (Makes tys bytes) until place parts

-- what is before a place is read
abbrev pub RunAt : (full : Read (List Func)) (tys bytes : List ℕ) (held : List Func) (place : ℕ) → Type 0
RunAt full tys bytes held place = Runs full held (types_from tys place) (bytes_from bytes place)

-- a place that is so many entries and so many bytes behind another
place_on : (start count passed : ℕ) → offset_of start + passed < 2 ^ 32 → start + count * 2 ^ 32 + passed ≡ (number_of start + count) * 2 ^ 32 + (offset_of start + passed)
place_on start count passed fits = omega arith

number_on : (start count passed : ℕ) → offset_of start + passed < 2 ^ 32 → number_of (start + count * 2 ^ 32 + passed) ≡ number_of start + count
number_on start count passed fits = ap number_of (place_on start count passed fits) ∙ div-mul-add (number_of start + count) (2 ^ 32) (offset_of start + passed) fits

offset_on : (start count passed : ℕ) → offset_of start + passed < 2 ^ 32 → offset_of (start + count * 2 ^ 32 + passed) ≡ offset_of start + passed
offset_on start count passed fits = ap offset_of (place_on start count passed fits) ∙ mod-mul-add (number_of start + count) (2 ^ 32) (offset_of start + passed) fits

-- a batch of so many entries and bytes
pub ends_there : (tys bytes behind : List ℕ) (start count passed : ℕ) → offset_of start + passed < 2 ^ 32 → drop passed (bytes_from bytes start) ≡ behind → EndsAt (take count (types_from tys start)) (bytes_from bytes start) behind → Ends tys bytes start (start + count * 2 ^ 32 + passed)
ends_there tys bytes behind start count passed fits rest ends =
    let n = number_on start count passed fits in
    let between : number_of (start + count * 2 ^ 32 + passed) - number_of start ≡ count = omega (arith, n) in
    let there : bytes_from bytes (start + count * 2 ^ 32 + passed) ≡ behind = ap (λ (k : ℕ). drop k bytes) (offset_on start count passed fits) ∙ sym (drop-drop passed (offset_of start) bytes) ∙ rest in
    record {
      forward = omega (arith, n);
      ends = subst (λ (t : List ℕ). EndsAt (take (number_of (start + count * 2 ^ 32 + passed) - number_of start) (types_from tys start)) (bytes_from bytes start) t) (sym there) (subst (λ (k : ℕ). EndsAt (take k (types_from tys start)) (bytes_from bytes start) behind) (sym between) ends);
    }

-- the bytes of a batch lie within all bytes
pub offset_fits : (bytes rest : List ℕ) (start : ℕ) → length bytes < 2 ^ 32 → rest ≡ bytes_from bytes start → (passed : ℕ) → passed ≤ length rest → offset_of start + passed < 2 ^ 32
offset_fits bytes rest start few is passed within = let e = ap length is ∙ length-drop (offset_of start) bytes in omega (arith, e)

-- the types from a place on are those before another and those from there on
pub types_split : (tys bytes : List ℕ) (start end : ℕ) → Ends tys bytes start end → types_from tys start ≡ types_between tys start end ++ types_from tys end
types_split tys bytes start end ends =
    let forward = ends.forward in
    let there : number_of start + (number_of end - number_of start) ≡ number_of end = omega (arith, forward) in
    sym (take-append-drop (number_of end - number_of start) (types_from tys start)) ∙ ap (λ (t : List ℕ). types_between tys start end ++ t) (drop-drop (number_of end - number_of start) (number_of start) tys ∙ ap (λ (k : ℕ). drop k tys) there)

-- so many of the types from a place on as there are before another
pub between_taken : (tys others these : List ℕ) (start end count : ℕ) → others ≡ types_from tys start → count ≡ min (number_of end - number_of start) (length others) → these ≡ take count others → these ≡ types_between tys start end
between_taken tys others these start end count from least front = front ∙ ap (λ (k : ℕ). take k others) least ∙ take_min (number_of end - number_of start) others ∙ ap (λ (t : List ℕ). take (number_of end - number_of start) t) from

-- functions before others
behind_behind : (first more : List Func) (r : Read (List Func)) → behind first (behind more r) ≡ behind (first ++ more) r
behind_behind first more (got funcs rest) = ap (λ (fs : List Func). got fs rest) (sym (append_assoc first more funcs))
behind_behind first more (stops fault) = refl

-- what is left to be read begins with these entries
run_splits : (full : Read (List Func)) (held : List Func) (tys between more rest : List ℕ) → tys ≡ between ++ more → (runs : Runs full held tys rest) → behind runs.funcs (entries_at 1000 between rest >>= λ fs back. behind fs (entries_at 1000 more back)) ≡ full
run_splits full held tys between more rest split runs = ap (behind runs.funcs) (sym (entries_append between more rest)) ∙ ap (λ (t : List ℕ). behind runs.funcs (entries_at 1000 t rest)) (sym split) ∙ runs.so_far

-- a batch is read
pub batch_read : (full : Read (List Func)) (held one : List Func) (tys between more rest after : List ℕ) → tys ≡ between ++ more → EndsAt between rest after → GivesFront AllStandFor (Ok one) (entries_at 1000 between rest) → Runs full held tys rest → Runs full (held ++ one) more after
batch_read full held one tys between more rest after split ends reads runs = record {
  funcs = runs.funcs ++ reads.0;
  stand = zip_append StandsFor held one runs.funcs reads.0 runs.stand reads.2;
  so_far =
      let there : reads.1 ≡ after = ends.ends reads.0 reads.1 reads.3 in
      sym (behind_behind runs.funcs reads.0 (entries_at 1000 more after)) ∙ ap (λ (t : List ℕ). behind runs.funcs (behind reads.0 (entries_at 1000 more t))) (sym there) ∙ ap (λ (r : Read (List Func)). behind runs.funcs (r >>= λ fs back. behind fs (entries_at 1000 more back))) (sym reads.3) ∙ run_splits full held tys between more rest split runs;
}

pub batch_stops : (full : Read (List Func)) (held : List Func) (stop : Stop) (tys between more rest : List ℕ) → tys ≡ between ++ more → Fails stop (entries_at 1000 between rest) → Runs full held tys rest → Fails stop full
batch_stops full held S.NoMemory tys between more rest split fails runs = tt
batch_stops full held (S.Refused asked left) tys between more rest split fails runs = sym (run_splits full held tys between more rest split runs) ∙ ap (λ (r : Read (List Func)). behind runs.funcs (r >>= λ fs back. behind fs (entries_at 1000 more back))) fails

-- the first of these parts, and those behind it
record First (tys bytes : List ℕ) (place : ℕ) (part : Made) (others : List Made) : Type 0 where
  pub start : part.start ≡ place
  pub ends : Ends tys bytes part.start part.end
  pub made : Makes tys bytes part.start part.end part.made
  pub left : Shared tys bytes part.end others

first_part : (tys bytes : List ℕ) (place : ℕ) (parts : List Made) (part : Made) (others : List Made) → parts ≡ part ∷ others → Shared tys bytes place parts → First tys bytes place part others
first_part tys bytes place parts part others e h =
    let follow = subst (λ (l : List Made). Follow (Ends tys bytes) (Makes tys bytes) h.0 place l) e h.1 in
    let is = All-head (IsPartOf (Ends tys bytes) (Makes tys bytes) h.0) part others follow.each in
    record { start = follow.chained.0; ends = is.end; made = is.made; left = (h.0, record { chained = follow.chained.1; each = All-tail (IsPartOf (Ends tys bytes) (Makes tys bytes) h.0) part others follow.each }) }

pub parts_left : (tys bytes : List ℕ) (place : ℕ) (parts : List Made) (part : Made) (others : List Made) → parts ≡ part ∷ others → Shared tys bytes place parts → Shared tys bytes part.end others
parts_left tys bytes place parts part others e h = let first = first_part tys bytes place parts part others e h in first.left

run_at : (full : Read (List Func)) (tys bytes : List ℕ) (held : List Func) (place start : ℕ) → start ≡ place → RunAt full tys bytes held place → RunAt full tys bytes held start
run_at full tys bytes held place start e runs = subst (λ (p : ℕ). RunAt full tys bytes held p) (sym e) runs

pub part_on : (full : Read (List Func)) (tys bytes : List ℕ) (held one new : List Func) (place : ℕ) (parts : List Made) (part : Made) (others : List Made) → parts ≡ part ∷ others → part.made ≡ Ok one → new ≡ held ++ one → Shared tys bytes place parts → RunAt full tys bytes held place → RunAt full tys bytes new part.end
part_on full tys bytes held one new place parts part others e made grown h runs =
    let first = first_part tys bytes place parts part others e h in
    let reads = subst (λ (r : Result (List Func) Stop). Makes tys bytes part.start part.end r) made first.made in
    subst (λ (fs : List Func). RunAt full tys bytes fs part.end) (sym grown) (batch_read full held one (types_from tys part.start) (types_between tys part.start part.end) (types_from tys part.end) (bytes_from bytes part.start) (bytes_from bytes part.end) (types_split tys bytes part.start part.end first.ends) first.ends.ends reads (run_at full tys bytes held place part.start first.start runs))

pub part_fails : (full : Read (List Func)) (tys bytes : List ℕ) (held : List Func) (stop : Stop) (place : ℕ) (parts : List Made) (part : Made) (others : List Made) → parts ≡ part ∷ others → part.made ≡ Err stop → Shared tys bytes place parts → RunAt full tys bytes held place → Fails stop full
part_fails full tys bytes held stop place parts part others e made h runs =
    let first = first_part tys bytes place parts part others e h in
    let reads = subst (λ (r : Result (List Func) Stop). Makes tys bytes part.start part.end r) made first.made in
    batch_stops full held stop (types_from tys part.start) (types_between tys part.start part.end) (types_from tys part.end) (bytes_from bytes part.start) (types_split tys bytes part.start part.end first.ends) reads (run_at full tys bytes held place part.start first.start runs)

-- what nobody took is read
pub last_read : (full : Read (List Func)) (held more : List Func) (tys rest back : List ℕ) → (funcs : List Func) × AllStandFor more funcs × (entries_at 1000 tys rest ≡ got funcs back) → Runs full held tys rest → (funcs : List Func) × AllStandFor (held ++ more) funcs × (full ≡ got funcs back)
last_read full held more tys rest back reads runs = (runs.funcs ++ reads.0, zip_append StandsFor held more runs.funcs reads.0 runs.stand reads.1, sym runs.so_far ∙ ap (behind runs.funcs) reads.2)

-- reading entries stops within the text
func_reads : (ty : ℕ) → Decodes 0 (FuncOf ty) (func_at 1000 ty)
func_reads ty = func_decodes 0 1000 ty (omega arith)

rest_within : (ty : ℕ) (tys text : List ℕ) (func : Func) (mid : List ℕ) (fault : Fault) → func_at 1000 ty text ≡ got func mid → ((k : Fault) → entries_at 1000 tys mid ≡ stops k → k.left ≤ length mid) → (entries_at 1000 tys mid >>= λ funcs behind. got (func ∷ funcs) behind) ≡ stops fault → fault.left ≤ length text
rest_within ty tys text func mid fault read within h =
    let took : Takes (FuncOf ty func) text mid = (func_reads ty).taken text mid func read in
    let sum : length text ≡ length took.front + length mid = ap length took.whole ∙ length-append took.front mid in
    elim (bind_stops (entries_at 1000 tys mid) (λ funcs behind. got (func ∷ funcs) behind) fault h) [
      | inl e ↦ let inner = within fault e in omega arith
      | inr e ↦ absurd (got-stops (func ∷ e.0) e.1 fault e.3)
    ]

pub entries_within : (tys text : List ℕ) (fault : Fault) → entries_at 1000 tys text ≡ stops fault → fault.left ≤ length text
entries_within [] text fault h = absurd (got-stops [] text fault h)
entries_within (ty ∷ tys) text fault h = elim (bind_stops (func_at 1000 ty text) (λ func rest. entries_at 1000 tys rest >>= λ funcs behind. got (func ∷ funcs) behind) fault h) [
  | inl e ↦ (func_reads ty).within text fault e
  | inr e ↦ rest_within ty tys text e.0 e.1 fault e.2 (entries_within tys e.1) e.3
]

pub fails_within : (tys text : List ℕ) (stop : Stop) → Fails stop (entries_at 1000 tys text) → left_at stop ≤ length text
fails_within tys text S.NoMemory h = omega arith
fails_within tys text (S.Refused asked left) h = entries_within tys text _ h
