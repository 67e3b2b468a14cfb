-- What the errors of the steps say of the bytes, and what a module says that was made of them.
use Rattle.std.proofs.Common.{ℕ, ◌≤◌, ◌≡◌, ◌≢◌, refl, sym, subst, length, List, Option, Some, None, Result, Ok, Err, IfErr, IsErrAnd, IfSome}
use Rattle.std.proofs.lemmas.Option.{same_Some}
use Rattle.gu_outside.specs.Outside.{Appended, PrefixAdded}
use Rattle.gu_syntax.specs.declared.module.Module.{Module}
use Rattle.gu_syntax.specs.Encoding.{encoding}
use Rattle.gu_syntax.specs.Shape.{IsPlain}
use Rattle.gu_syntax.proofs.Modules.{one_module}
use Rattle.gu_syntax.proofs.Narrow.{malformed_unspelled, outside_unspelled}
use Rattle.gu_syntax.proofs.Shallow.{deep_unspelled}
use Rattle.gu_syntax.proofs.Writing.{encoding_spells}
use Rattle.gu_read_parts.specs.declared.answer.ReadErr.{ReadErr}
use Rattle.gu_read_parts.specs.declared.answer.ReadErr.TheVariants as E
use Rattle.gu_read_parts.specs.declared.answer.Which.{Which}
use Rattle.gu_read_parts.specs.declared.answer.Which.TheVariants as W
use Rattle.gu_read.specs.ReadsModule as reader
use Rattle.gu_write_parts.specs.declared.error.WriteErr.{WriteErr}
use Rattle.gu_write_parts.specs.declared.error.WriteErr.TheVariants as T
use Rattle.gu_write_parts.specs.Limit.{BlamesLength}
use Rattle.gu_model.specs.Cut.{cut_module}
use Rattle.gu_model.proofs.Cuts.{cut_is_same}
use Rattle.gu_model.proofs.CutShaped.{cut_shaped}
use Rattle.gu_model.proofs.CutValid.{cut_is_valid}
use Rattle.gu_model.proofs.Sames.{same_steps_is_same}
use Rattle.gu_report.specs.Statuses.{of_reader, of_writer}
use Rattle.gu_report.specs.declared.status.Status.{Status}
use Rattle.gu_report.specs.declared.status.Status.TheVariants as S
use Rattle.wasm_gufa.specs.Answers.{most_written, Accepts, Optimises, BreaksOff, Keeps, IsLimit}
use Rattle.wasm_gufa.specs.Steps.{Blames, Makes, IsEarly, IsLate, Says, of_run}

-- an error that was converted
pub err_from : {A : Type 0} (Q : Status → Type 0) (r : Result A Status) (want : Status) → IsErrAnd r (λ status. status ≡ want) → Q want → IfErr r Q
err_from Q (Ok x) want h q = tt
err_from Q (Err status) want h q = subst Q (sym h) q

limit_told : (bytes : List ℕ) (which : Which) (at : ℕ) → reader.IsLimit bytes which at → IsLimit bytes which at
limit_told bytes W.Size at h = h
limit_told bytes W.Nesting at h = record { short = h.0; due = h.1; unspelled = λ m. deep_unspelled bytes at m h.1 }
limit_told bytes W.Output at h = absurd h
limit_told bytes W.Types at h = h
limit_told bytes W.Funcs at h = h
limit_told bytes W.Globals at h = h
limit_told bytes W.Params at h = h
limit_told bytes W.Results at h = h
limit_told bytes W.Fields at h = h
limit_told bytes W.Locals at h = h
limit_told bytes W.ModuleLocals at h = h
limit_told bytes W.Depth at h = h

-- what a refusal of the reader says
pub blames_reader : (bytes : List ℕ) (e : ReadErr) → reader.Refused bytes e → Blames bytes (of_reader e)
blames_reader bytes (E.Malformed at) h = record { short = h.0; due = h.1; unspelled = λ m. malformed_unspelled bytes at m h.1 }
blames_reader bytes (E.OutOfProfile at code) h = record { short = h.0; due = h.1; unspelled = λ m. outside_unspelled bytes at code m h.1 }
blames_reader bytes (E.Limit which at) h = limit_told bytes which at h
blames_reader bytes E.NoMemory h = tt

-- what a refusal of the writer says
pub blames_writer : (bytes : List ℕ) (m : Module) (e : WriteErr) → Accepts bytes m → BlamesLength (encoding (cut_module m)) e → Blames bytes (of_writer e)
blames_writer bytes m T.TooLong accepted h = (record { m = m; accepted = accepted; long = h refl }, refl)
blames_writer bytes m T.NoMemory accepted h = tt

-- the refusals of bytes that a source gave
early_of : (bytes : List ℕ) (s : Status) → Blames bytes s → IsEarly s
early_of bytes S.Done h = h
early_of bytes S.Usage h = h
early_of bytes (S.Malformed at) h = tt
early_of bytes (S.OutOfProfile at code) h = tt
early_of bytes (S.Invalid part) h = tt
early_of bytes (S.Limit which at) h = tt
early_of bytes S.ReadFault h = tt
early_of bytes S.WriteFault h = h
early_of bytes S.NoMemory h = tt

pub is_early : {A : Type 0} (bytes : List ℕ) (r : Result A Status) → IfErr r (Blames bytes) → IfErr r IsEarly
is_early bytes (Ok x) h = tt
is_early bytes (Err s) h = early_of bytes s h

told : (left : Option (List ℕ)) (bytes : List ℕ) (P : List ℕ → Type 0) → IfSome left (λ xs. bytes ≡ xs) → P bytes → IfSome left P
told None bytes P whole p = tt
told (Some xs) bytes P whole p = subst P whole p

pub blames_told : {A : Type 0} (left : Option (List ℕ)) (bytes : List ℕ) (r : Result A Status) → IfSome left (λ xs. bytes ≡ xs) → IfErr r (Blames bytes) → IfErr r (λ s. s ≢ S.ReadFault → IfSome left (λ xs. Blames xs s))
blames_told left bytes (Ok x) whole h = tt
blames_told left bytes (Err s) whole h = λ r. told left bytes (λ xs. Blames xs s) whole h

-- what a refusal says before anything is put
nothing_said : (left : Option (List ℕ)) → IfSome left (λ bytes. Unit {0})
nothing_said None = tt
nothing_said (Some bytes) = tt

pub says_early : (left before after : Option (List ℕ)) (s : Status) → IsEarly s → (s ≢ S.ReadFault → IfSome left (λ bytes. Blames bytes s)) → IfSome left (λ bytes. Says s bytes before after)
says_early left before after S.Done e h = absurd e
says_early left before after S.Usage e h = absurd e
says_early left before after (S.Malformed at) e h = h (λ is. cc)
says_early left before after (S.OutOfProfile at code) e h = h (λ is. cc)
says_early left before after (S.Invalid part) e h = h (λ is. cc)
says_early left before after (S.Limit which at) e h = h (λ is. cc)
says_early left before after S.ReadFault e h = nothing_said left
says_early left before after S.WriteFault e h = absurd e
says_early left before after S.NoMemory e h = nothing_said left

-- a module that was made and put whole
pub optimises : (bytes text : List ℕ) (before after : Option (List ℕ)) → Makes bytes text → Appended before after text → Optimises bytes before after
optimises bytes text before after makes written =
    let m : Module = makes.m
    in let short : length (encoding (cut_module m)) ≤ most_written = subst (λ (xs : List ℕ). length xs ≤ most_written) makes.made makes.short
    in let plain : IsPlain (cut_module m) = record { shaped = cut_shaped m makes.accepted.read.within.shaped; short = short }
    in record {
      m = m;
      accepted = makes.accepted;
      written = subst (Appended before after) makes.made written;
      short = short;
      text_spells = encoding_spells (cut_module m) plain;
      text_spells_only = λ n other. one_module (encoding (cut_module m)) n (cut_module m) other (encoding_spells (cut_module m) plain);
      stays_valid = cut_is_valid m makes.accepted.valid;
      same_steps = cut_is_same m;
      same = same_steps_is_same m (cut_module m) (cut_is_same m);
    }

-- a module that was made and not put whole
pub broken_off : (bytes text : List ℕ) (before after : Option (List ℕ)) → Makes bytes text → PrefixAdded before after text → BreaksOff bytes before after
broken_off bytes text before after makes written = record { m = makes.m; accepted = makes.accepted; written = subst (PrefixAdded before after) makes.made written }

-- what is said where the text of a module is not made
pub says_unwritten : (bytes : List ℕ) (before after : Option (List ℕ)) (m : Module) (e : WriteErr) → Accepts bytes m → BlamesLength (encoding (cut_module m)) e → Says (of_writer e) bytes before after
says_unwritten bytes before after m T.TooLong accepted h = (record { m = m; accepted = accepted; long = h refl }, refl)
says_unwritten bytes before after m T.NoMemory accepted h = tt

pub late_of : (e : WriteErr) → IsLate (of_writer e)
late_of T.TooLong = tt
late_of T.NoMemory = tt

-- what is said of the bytes that spell the module, where the source tells its bytes
pub says_told : (left before after : Option (List ℕ)) (m : Module) (s : Status) → IfSome left (λ bytes. Accepts bytes m) → ((bytes : List ℕ) → Accepts bytes m → Says s bytes before after) → IfSome left (λ bytes. Says s bytes before after)
says_told None before after m s accepted says = tt
says_told (Some bytes) before after m s accepted says = says bytes accepted

-- what is said of the module that is kept, where the source tells its bytes
pub keeps_told : (left : Option (List ℕ)) (m : Module) (kept : Option Module) → IfSome left (λ bytes. Accepts bytes m) → kept ≡ Some (cut_module m) → IfSome left (λ bytes. Keeps bytes kept)
keeps_told None m kept accepted is = tt
keeps_told (Some bytes) m None accepted is = absurd (let z : ⊥ = cc in z)
keeps_told (Some bytes) m (Some n) accepted is = (m, accepted, same_Some n (cut_module m) is)

late_status : (r : Result (Unit {0}) Status) → IfErr r IsLate → (of_run r ≢ S.Usage) × (of_run r ≢ S.ReadFault)
late_status (Ok x) h = ((λ e. cc), (λ e. cc))
late_status (Err S.Done) h = absurd h
late_status (Err S.Usage) h = absurd h
late_status (Err (S.Malformed at)) h = absurd h
late_status (Err (S.OutOfProfile at code)) h = absurd h
late_status (Err (S.Invalid part)) h = absurd h
late_status (Err (S.Limit which at)) h = ((λ e. cc), (λ e. cc))
late_status (Err S.ReadFault) h = absurd h
late_status (Err S.WriteFault) h = ((λ e. cc), (λ e. cc))
late_status (Err S.NoMemory) h = ((λ e. cc), (λ e. cc))

pub never_usage : (r : Result (Unit {0}) Status) → IfErr r IsLate → of_run r ≢ S.Usage
never_usage r h = (late_status r h).0

pub never_read_fault : (r : Result (Unit {0}) Status) → IfErr r IsLate → of_run r ≢ S.ReadFault
never_read_fault r h = (late_status r h).1

-- the status of a run that ends with an error that was converted
pub run_is : (r : Result (Unit {0}) Status) (want : Status) → IsErrAnd r (λ status. status ≡ want) → of_run r ≡ want
run_is (Ok x) want h = absurd h
run_is (Err status) want h = h
