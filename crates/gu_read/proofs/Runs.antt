-- Code entries that are read one by one.
use Rattle.std.proofs.Common.{ℕ, ◌+◌, ◌≤◌, ◌^◌, ◌≡◌, refl, ap, ◌∙◌, sym, List, [], ◌∷◌, ◌++◌, inl, inr, arith}
use Rattle.std.specs.List.{AllZip}
use Rattle.std.proofs.lemmas.List.{append-nil}
use Rattle.std.specs.Prelude.{sum_by}
use Rattle.std.specs.List.{fold}
use Rattle.gu_types.specs.declared.types.ValType.{ValType}
use Rattle.gu_types.specs.declared.types.ValType.TheVariants as V
use Rattle.gu_syntax.specs.declared.instr.Body.{Body}
use Rattle.gu_syntax.specs.declared.module.Func.{Func}
use Rattle.gu_syntax.specs.Reading.{Read, got, ◌>>=◌, entry_of, entry_at, func_at, entries_at}
use Rattle.gu_read_parts.specs.declared.stop.Stop.{Stop}
use Rattle.gu_read_parts.specs.declared.stop.Stop.TheVariants as S
use Rattle.gu_read_parts.specs.Gives.{Fails}
use Rattle.gu_read_parts.proofs.Vectors.{behind, behind-none, more_read}
use Rattle.gu_read_code.specs.Entries.{total}
use Rattle.gu_read.specs.Limits.{locals_of}
use Rattle.gu_read.specs.Standing.{StandsFor, AllStandFor}

abbrev Entry : Type 0
Entry = List (ℕ × ValType) × Body

pub zip_append : {X Y : Type 0} (R : X → Y → Type 0) (xs us : List X) (ys vs : List Y) → AllZip R xs ys → AllZip R us vs → AllZip R (xs ++ us) (ys ++ vs)
zip_append R [] us [] vs h k = k
zip_append R [] us (y ∷ ys) vs h k = absurd h
zip_append R (x ∷ xs) us [] vs h k = absurd h
zip_append R (x ∷ xs) us (y ∷ ys) vs h k = (h.0, zip_append R xs us ys vs h.1 k)

-- the entries so far are read, and those of the other types are still to be read
pub record Runs (full : Read (List Func)) (held : List Func) (tys rest : List ℕ) : Type 0 where
  pub funcs : List Func
  pub stand : AllStandFor held funcs
  pub so_far : behind funcs (entries_at 1000 tys rest) ≡ full

pub runs_begin : (tys text : List ℕ) → Runs (entries_at 1000 tys text) [] tys text
runs_begin tys text = record { funcs = []; stand = tt; so_far = behind-none (entries_at 1000 tys text) }

abbrev pub ReadsOne : Func → Read Func → List ℕ → Type 0
ReadsOne held read after = (func : Func) × StandsFor held func × (read ≡ got func after)

pub runs_on : (full : Read (List Func)) (held : List Func) (one : Func) (ty : ℕ) (tys others rest after : List ℕ) → tys ≡ ty ∷ others → ReadsOne one (func_at 1000 ty rest) after → Runs full held tys rest → Runs full (held ++ one ∷ []) others after
runs_on full held one ty tys others rest after split reads runs = record {
  funcs = runs.funcs ++ reads.0 ∷ [];
  stand = zip_append StandsFor held (one ∷ []) runs.funcs (reads.0 ∷ []) runs.stand (reads.1, tt);
  so_far = sym (more_read runs.funcs reads.0 after (func_at 1000 ty rest) (entries_at 1000 others) reads.2) ∙ ap (λ t. behind runs.funcs (entries_at 1000 t rest)) (sym split) ∙ runs.so_far;
}

pub runs_fail : (stop : Stop) (full : Read (List Func)) (held : List Func) (ty : ℕ) (tys others rest : List ℕ) → tys ≡ ty ∷ others → Fails stop (func_at 1000 ty rest) → Runs full held tys rest → Fails stop full
runs_fail S.NoMemory full held ty tys others rest split fails runs = tt
runs_fail (S.Refused asked left) full held ty tys others rest split fails runs = sym runs.so_far ∙ ap (λ t. behind runs.funcs (entries_at 1000 t rest)) split ∙ ap (λ (r : Read Func). behind runs.funcs (r >>= λ f more. entries_at 1000 others more >>= λ fs back. got (f ∷ fs) back)) fails

-- all are read
pub runs_end : (full : Read (List Func)) (held : List Func) (tys rest : List ℕ) → tys ≡ [] → Runs full held tys rest → (funcs : List Func) × AllStandFor held funcs × (full ≡ got funcs rest)
runs_end full held tys rest none runs = (runs.funcs, runs.stand, sym runs.so_far ∙ ap (λ t. behind runs.funcs (entries_at 1000 t rest)) none ∙ ap (λ fs. got fs rest) (append-nil runs.funcs))

pub entry_fails : (ty : ℕ) (text : List ℕ) (stop : Stop) → Fails stop (entry_at 1000 text) → Fails stop (func_at 1000 ty text)
entry_fails ty text S.NoMemory h = tt
entry_fails ty text (S.Refused asked left) h = ap (λ (r : Read Entry). r >>= λ x rest. got (entry_of ty x) rest) h

-- one entry, as the tree holds it
pub entry_whole : (ty : ℕ) (text rest : List ℕ) (locals : List (ℕ × ValType)) (body : Body) (pair : Entry) → entry_at 1000 text ≡ got pair rest → pair ≡ (locals, body) → ReadsOne (record { ty = ty; locals = locals; body = body }) (func_at 1000 ty text) rest
entry_whole ty text rest locals body pair read is = (record { ty = ty; locals = locals; body = body }, inl refl, ap (λ (r : Read Entry). r >>= λ x more. got (entry_of ty x) more) (read ∙ ap (λ x. got x rest) is))

total_fold : (runs : List (ℕ × ValType)) (a : ℕ) → fold (λ n (run : ℕ × ValType). n + run.0) a runs ≡ a + total runs
total_fold [] a = omega arith
total_fold (run ∷ runs) a = let e = total_fold runs (a + run.0) in omega arith

total_sum : (runs : List (ℕ × ValType)) → total runs ≡ sum_by (λ run. run.0) runs
total_sum runs = let zero_first : total runs ≡ 0 + total runs = omega arith in zero_first ∙ sym (total_fold runs 0)

pub entry_many : (ty : ℕ) (text rest : List ℕ) (held : Func) (pair : Entry) → entry_at 1000 text ≡ got pair rest → 2 ^ 32 ≤ total pair.0 → held.locals ≡ (4294967295, V.I32) ∷ [] → ReadsOne held (func_at 1000 ty text) rest
entry_many ty text rest held pair read many e =
    let big : locals_of held ≡ 4294967295 = ap (λ rs. sum_by (λ (run : ℕ × ValType). run.0) rs) e in
    let more : total pair.0 ≡ locals_of (entry_of ty pair) = total_sum pair.0 in
    (entry_of ty pair, inr (omega arith, omega arith), ap (λ (r : Read Entry). r >>= λ x more. got (entry_of ty x) more) read)
