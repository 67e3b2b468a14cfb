-- Instructions that are read one by one.
use Rattle.std.proofs.Common.{ℕ, zero, suc, ◌-◌, ◌≤◌, ◌<◌, ◌≡◌, ◌≢◌, refl, ap, ◌∙◌, sym, List, [], ◌∷◌, ◌++◌, length, take, drop, nat_eq, Bool, true, false, arith}
use Rattle.std.proofs.Math.Seq.{drop-length, take-length}
use Rattle.std.proofs.lemmas.List.{drop-append-le, take-append-le, length-append}
use Rattle.std.proofs.lemmas.Bool.{cond-false}
use Rattle.gu_syntax.specs.Code.{Ins, Code, done, next, ins_of, code_of}
use Rattle.gu_syntax.specs.declared.instr.Instr.{Instr}
use Rattle.gu_syntax.specs.Instructions.{row_or}
use Rattle.gu_syntax.specs.Reading.{FlatOpcode, Opcode, Read, got, stops, refused, ◌>>=◌, made_at, none_at, opened, ins_at, ends, next_of, next_at, until_head, until_at}
use Rattle.gu_read_parts.specs.declared.stop.Stop.{Stop}
use Rattle.gu_read_parts.specs.declared.stop.Stop.TheVariants as S
use Rattle.gu_read_parts.specs.Gives.{Fails}
use Rattle.gu_read_code.proofs.Rows.{differ}

-- the instructions so far, before those behind them
abbrev pub with_front : List Instr → Code → Code
with_front [] code = code
with_front (i ∷ is) code = next (ins_of i) (with_front is code)

abbrev pub behind : List Instr → Read (Code × Bool) → Read (Code × Bool)
behind is read = read >>= λ x rest. got (with_front is x.0, x.1) rest

with_front-push : (is : List Instr) (i : Instr) (code : Code) → with_front (is ++ i ∷ []) code ≡ with_front is (next (ins_of i) code)
with_front-push [] i code = refl
with_front-push (j ∷ is) i code = ap (next (ins_of j)) (with_front-push is i code)

with_front-done : (is : List Instr) → with_front is done ≡ code_of is
with_front-done [] = refl
with_front-done (i ∷ is) = ap (next (ins_of i)) (with_front-done is)

behind-none : (read : Read (Code × Bool)) → behind [] read ≡ read
behind-none (got x rest) = refl
behind-none (stops fault) = refl

pushed : (is : List Instr) (i : Instr) (read : Read (Code × Bool)) → behind is (read >>= λ x rest. got (next_of (ins_of i) x) rest) ≡ behind (is ++ i ∷ []) read
pushed is i (got x rest) = ap (λ (c : Code). got (c, x.1) rest) (sym (with_front-push is i x.0))
pushed is i (stops fault) = refl

-- these instructions are read, and the others are still to be read
pub record ReadsUntil (whole : Read (Code × Bool)) (room : ℕ) (split : Bool) (is : List Instr) (rest : List ℕ) : Type 0 where
  pub fuel : ℕ
  pub enough : length rest < fuel
  pub so_far : behind is (until_at fuel room split rest) ≡ whole

-- however much fuel there is, if it is enough
abbrev pub ReadsAll : (room : ℕ) (split : Bool) (bytes : List ℕ) → List Instr → List ℕ → Type 0
ReadsAll room split bytes is rest = (fuel : ℕ) → length bytes < fuel → ReadsUntil (until_at fuel room split bytes) room split is rest

pub begins : (room : ℕ) (split : Bool) (bytes : List ℕ) → ReadsAll room split bytes [] bytes
begins room split bytes fuel enough = record { fuel = fuel; enough = enough; so_far = behind-none (until_at fuel room split bytes) }

-- one turn, where a code is due
record Turns (whole : Read (Code × Bool)) (room : ℕ) (split : Bool) (is : List Instr) (op : ℕ) (more : List ℕ) : Type 0 where
  fuel : ℕ
  enough : length more < fuel
  so_far : behind is (until_head (until_at fuel) room split (suc (length more)) op more) ≡ whole

turns_at : (fuel : ℕ) (whole : Read (Code × Bool)) (room : ℕ) (split : Bool) (is : List Instr) (op : ℕ) (more : List ℕ) → suc (length more) < fuel → behind is (until_at fuel room split (op ∷ more)) ≡ whole → Turns whole room split is op more
turns_at zero whole room split is op more h so = absurd (omega (arith, h))
turns_at (suc fuel) whole room split is op more h so = record { fuel = fuel; enough = omega (arith, h); so_far = so }

turns : (whole : Read (Code × Bool)) (room : ℕ) (split : Bool) (is : List Instr) (op : ℕ) (rest more : List ℕ) → rest ≡ op ∷ more → ReadsUntil whole room split is rest → Turns whole room split is op more
turns whole room split is op rest more e reads = turns_at reads.fuel whole room split is op more (omega (arith, reads.enough, ap length e)) (ap (λ t. behind is (until_at reads.fuel room split t)) (sym e) ∙ reads.so_far)

-- the end

ends_end : (split : Bool) (other : List ℕ → Read (Code × Bool)) → row_or other (ends split) 0x0B ≡ none_at (done, false)
ends_end false other = refl
ends_end true other = refl

finished : (whole : Read (Code × Bool)) (room : ℕ) (split e : Bool) (is : List Instr) (op end : ℕ) (more : List ℕ) → op ≡ end → ((other : List ℕ → Read (Code × Bool)) → row_or other (ends split) end ≡ none_at (done, e)) → Turns whole room split is op more → whole ≡ got (code_of is, e) more
finished whole room split e is op end more is_end rows t =
    sym t.so_far
    ∙ ap (λ o. behind is (until_head (until_at t.fuel) room split (suc (length more)) o more)) is_end
    ∙ ap (λ (read : List ℕ → Read (Code × Bool)). behind is (read more)) (rows (next_at (until_at t.fuel) room split (suc (length more)) end))
    ∙ ap (λ (c : Code). got (c, e) more) (with_front-done is)

pub code_ends : (room : ℕ) (split : Bool) (bytes : List ℕ) (is : List Instr) (op : ℕ) (rest more : List ℕ) → rest ≡ op ∷ more → op ≡ 0x0B → ReadsAll room split bytes is rest → (fuel : ℕ) → length bytes < fuel → until_at fuel room split bytes ≡ got (code_of is, false) more
code_ends room split bytes is op rest more e end reads fuel enough = finished (until_at fuel room split bytes) room split false is op 0x0B more end (ends_end split) (turns (until_at fuel room split bytes) room split is op rest more e (reads fuel enough))

ends_else : (split : Bool) → split ≡ true → (other : List ℕ → Read (Code × Bool)) → row_or other (ends split) 0x05 ≡ none_at (done, true)
ends_else true is other = refl
ends_else false is other = cc

pub code_splits : (room : ℕ) (split : Bool) (bytes : List ℕ) (is : List Instr) (op : ℕ) (rest more : List ℕ) → rest ≡ op ∷ more → op ≡ 0x05 → split ≡ true → ReadsAll room split bytes is rest → (fuel : ℕ) → length bytes < fuel → until_at fuel room split bytes ≡ got (code_of is, true) more
code_splits room split bytes is op rest more e end may reads fuel enough = finished (until_at fuel room split bytes) room split true is op 0x05 more end (ends_else split may) (turns (until_at fuel room split bytes) room split is op rest more e (reads fuel enough))

-- no end

-- a code that ends nothing
pub record GoesOn (split : Bool) (op : ℕ) : Type 0 where
  pub not_end : op ≢ 0x0B
  pub not_else : split ≡ true → op ≢ 0x05

ends_not : (split : Bool) (op : ℕ) → GoesOn split op → (other : List ℕ → Read (Code × Bool)) → row_or other (ends split) op ≡ other
ends_not false op h other = cond-false (nat_eq op 0x0B) (none_at (done, false)) other (differ op 0x0B h.not_end)
ends_not true op h other =
    let rows : List ℕ → Read (Code × Bool) = row_or other ((0x05, none_at (done, true)) ∷ []) op in
    cond-false (nat_eq op 0x0B) (none_at (done, false)) rows (differ op 0x0B h.not_end) ∙ cond-false (nat_eq op 0x05) (none_at (done, true)) other (differ op 0x05 (h.not_else refl))

next_is : (whole : Read (Code × Bool)) (room : ℕ) (split : Bool) (is : List Instr) (op : ℕ) (more : List ℕ) → GoesOn split op → (t : Turns whole room split is op more) → behind is (next_at (until_at t.fuel) room split (suc (length more)) op more) ≡ whole
next_is whole room split is op more h t = ap (λ (read : List ℕ → Read (Code × Bool)). behind is (read more)) (sym (ends_not split op h (next_at (until_at t.fuel) room split (suc (length more)) op))) ∙ t.so_far

-- what an instruction is read as, however much fuel there is
abbrev pub GivesIns : (room op : ℕ) (more : List ℕ) → Read Ins → Type 0
GivesIns room op more read = (fuel : ℕ) → length more < fuel → ins_at (until_at fuel) room (suc (length more)) op more ≡ read

pub goes_on : (split : Bool) (op : ℕ) → op ≢ 0x0B → (split ≡ true → op ≢ 0x05) → GoesOn split op
goes_on split op not_end not_else = record { not_end = not_end; not_else = not_else }

pub code_goes_on : (room : ℕ) (split : Bool) (bytes : List ℕ) (is : List Instr) (i : Instr) (op : ℕ) (rest more after : List ℕ) → rest ≡ op ∷ more → GoesOn split op → GivesIns room op more (got (ins_of i) after) → length after ≤ length more → ReadsAll room split bytes is rest → ReadsAll room split bytes (is ++ i ∷ []) after
code_goes_on room split bytes is i op rest more after e h one fewer reads fuel enough =
    let whole = until_at fuel room split bytes in
    let t = turns whole room split is op rest more e (reads fuel enough) in
    record {
      fuel = t.fuel;
      enough = omega (arith, t.enough, fewer);
      so_far = sym (pushed is i (until_at t.fuel room split after)) ∙ ap (λ (r : Read Ins). behind is (r >>= λ ins others. made_at (next_of ins) (until_at t.fuel room split) others)) (sym (one t.fuel t.enough)) ∙ next_is whole room split is op more h t;
    }

pub code_fails : (stop : Stop) (room : ℕ) (split : Bool) (bytes : List ℕ) (is : List Instr) (op : ℕ) (rest more : List ℕ) → rest ≡ op ∷ more → GoesOn split op → ((fuel : ℕ) → length more < fuel → Fails stop (ins_at (until_at fuel) room (suc (length more)) op more)) → ReadsAll room split bytes is rest → (fuel : ℕ) → length bytes < fuel → Fails stop (until_at fuel room split bytes)
code_fails S.NoMemory room split bytes is op rest more e h one reads fuel enough = tt
code_fails (S.Refused asked left) room split bytes is op rest more e h one reads fuel enough =
    let whole = until_at fuel room split bytes in
    let t = turns whole room split is op rest more e (reads fuel enough) in
    sym (next_is whole room split is op more h t) ∙ ap (λ (r : Read Ins). behind is (r >>= λ ins others. made_at (next_of ins) (until_at t.fuel room split) others)) (one t.fuel t.enough)

-- the instructions of a block lie on those of the blocks around it

-- these are read, from a place on, and the others are still to be read
pub record ReadsOnto (room : ℕ) (split : Bool) (bytes : List ℕ) (below : List Instr) (from : ℕ) (pending : List Instr) (rest : List ℕ) : Type 0 where
  pub reads : ReadsAll room split bytes (drop from pending) rest
  pub kept : take from pending ≡ below
  pub above : from ≤ length pending

pub begins_onto : (room : ℕ) (split : Bool) (bytes : List ℕ) (below : List Instr) (from : ℕ) → from ≡ length below → ReadsOnto room split bytes below from below bytes
begins_onto room split bytes below from e = record {
  reads = rw (e, drop-length below) (begins room split bytes);
  kept = rw e (take-length below);
  above = omega (arith, e);
}

pub goes_onto : (room : ℕ) (split : Bool) (bytes : List ℕ) (below : List Instr) (from : ℕ) (pending after : List Instr) (i : Instr) (op : ℕ) (rest more behind : List ℕ) → after ≡ pending ++ i ∷ [] → rest ≡ op ∷ more → GoesOn split op → GivesIns room op more (got (ins_of i) behind) → length behind ≤ length more → ReadsOnto room split bytes below from pending rest → ReadsOnto room split bytes below from after behind
goes_onto room split bytes below from pending after i op rest more behind added e goes one fewer onto =
    let last : List Instr = i ∷ [] in
    record {
      reads = rw (added, drop-append-le from pending last onto.above) (code_goes_on room split bytes (drop from pending) i op rest more behind e goes one fewer onto.reads);
      kept = ap (take from) added ∙ take-append-le from pending last onto.above ∙ onto.kept;
      above = omega (arith, onto.above, ap length added, length-append pending last);
    }

missing : (fuel : ℕ) (whole : Read (Code × Bool)) (room : ℕ) (split : Bool) (is : List Instr) → 0 < fuel → behind is (until_at fuel room split []) ≡ whole → whole ≡ refused Opcode 0
missing zero whole room split is h so = absurd (omega (arith, h))
missing (suc fuel) whole room split is h so = sym so

none_left : (rest : List ℕ) → length rest ≡ 0 → rest ≡ []
none_left [] h = refl
none_left (b ∷ rest) h = absurd (omega (arith, h))

pub code_missing : (room : ℕ) (split : Bool) (bytes : List ℕ) (is : List Instr) (rest : List ℕ) → length rest ≡ 0 → ReadsAll room split bytes is rest → (fuel : ℕ) → length bytes < fuel → until_at fuel room split bytes ≡ refused Opcode (length rest)
code_missing room split bytes is rest none reads fuel enough =
    let e = none_left rest none in
    let whole = until_at fuel room split bytes in
    let r = reads fuel enough in
    missing r.fuel whole room split is (omega (arith, r.enough, ap length e)) (ap (λ t. behind is (until_at r.fuel room split t)) (sym e) ∙ r.so_far)
    ∙ ap (λ t. refused Opcode (length t)) (sym e)

-- where a block is opened

pub opened_room : {X : Type 0} (room left : ℕ) (inside : ℕ → List ℕ → Read X) (text : List ℕ) → 0 < room → opened room inside left text ≡ inside (room - 1) text
opened_room zero left inside text h = absurd (omega (arith, h))
opened_room (suc lower) left inside text h = let e : lower ≡ suc lower - 1 = omega arith in ap (λ k. inside k text) e

pub opened_none : {X : Type 0} (room left : ℕ) (inside : ℕ → List ℕ → Read X) (text : List ℕ) → room ≡ 0 → opened room inside left text ≡ refused FlatOpcode left
opened_none room left inside text h = ap (λ k. opened k inside left text) h
