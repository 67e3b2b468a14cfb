-- What is answered for a module that is read, from what the tree holds for it.
use Rattle.std.proofs.Common.{ℕ, ◌+◌, ◌≤◌, ◌<◌, ◌≡◌, refl, ap, ◌∙◌, sym, subst, cond, not, if◌then◌else◌, nat_lt, length, inl, inr, arith, List, [], ◌∷◌, Bool, true, false, Option, Some, None}
use Rattle.std.specs.Prelude.{sum_by, count_by}
use Rattle.std.specs.List.{AllByRecursion, prefix_len}
use Rattle.std.proofs.lemmas.List.Sums.{sum_by-cons}
use Rattle.gu_types.specs.declared.types.SubType.{SubType}
use Rattle.gu_types.specs.declared.types.ValType.{ValType}
use Rattle.gu_types.specs.Depth.{types_of}
use Rattle.gu_syntax.specs.declared.module.Func.{Func}
use Rattle.gu_syntax.specs.declared.module.Module.{Module}
use Rattle.gu_syntax.specs.Shape.{FitsU32}
use Rattle.gu_syntax.specs.Laws.{RunsFit}
use Rattle.gu_syntax.specs.Module.{Spells}
use Rattle.gu_syntax.specs.Reading.{got, module_at}
use Rattle.gu_syntax.proofs.Decodes.{value_is, refused-got}
use Rattle.gu_syntax.proofs.Modules.{module_read}
use Rattle.gu_syntax.proofs.Shaped.{spelled_shaped}
use Rattle.gu_syntax.proofs.Shallow.{shallow_read}
use Rattle.gu_read_parts.specs.declared.answer.Which.{Which}
use Rattle.gu_read_parts.specs.declared.answer.Which.TheVariants as W
use Rattle.gu_read_parts.specs.declared.answer.ReadErr.{ReadErr}
use Rattle.gu_read_parts.specs.declared.answer.ReadErr.TheVariants as E
use Rattle.gu_read_parts.specs.declared.stop.Stop.{Stop}
use Rattle.gu_read_parts.specs.declared.stop.Stop.TheVariants as S
use Rattle.gu_read_parts.specs.Gives.{Fails}
use Rattle.gu_read_parts.specs.Due.{Answers, Refuses}
use Rattle.gu_read_parts.proofs.Answering.{refuses}
use Rattle.gu_read.specs.Limits.{if_above, first_above, params_of, results_of, fields_of, is_func, is_global, funcs_in, globals_in, locals_of, first_deeper, limits_on, exceeded_or, first_exceeded, exceeded}
use Rattle.gu_read.specs.Standing.{StandsFor, AllStandFor, StandsForModule}
use Rattle.gu_read.specs.ReadsModule.{most_bytes, Reads, Exceeds, IsLimit, Refused}
use Rattle.gu_syntax.proofs.Nested.{module_nests}

-- the limits that are found on a module that is read
abbrev IsCounted : Which → Type 0
IsCounted W.Size = ⊥
IsCounted W.Nesting = ⊥
IsCounted W.Output = ⊥
IsCounted which = Unit {0}

same_which : (a b : Which) (n k : ℕ) → ◌≡◌ {A = Option (Which × ℕ)} (Some (a, n)) (Some (b, k)) → a ≡ b
same_which a b n k h = let p : ◌≡◌ {A = Which × ℕ} (a, n) (b, k) = cc in ap (λ (x : Which × ℕ). x.0) p

none_some : (x : Which × ℕ) → ◌≡◌ {A = Option (Which × ℕ)} None (Some x) → ⊥
none_some x h = cc

some_none : (x : Which × ℕ) → ◌≡◌ {A = Option (Which × ℕ)} (Some x) None → ⊥
some_none x h = cc

counted_row : (w : Which) (o : Option ℕ) (later : Option (Which × ℕ)) (which : Which) (at : ℕ) → IsCounted w → (later ≡ Some (which, at) → IsCounted which) → exceeded_or w o later ≡ Some (which, at) → IsCounted which
counted_row w None later which at c h e = h e
counted_row w (Some n) later which at c h e = subst IsCounted (same_which w which n at e) c

counted_in : (rows : List (Which × Option ℕ)) (which : Which) (at : ℕ) → AllByRecursion (λ row. IsCounted row.0) rows → first_exceeded rows ≡ Some (which, at) → IsCounted which
counted_in [] which at all e = absurd (none_some (which, at) e)
counted_in (row ∷ rows) which at all e = counted_row row.0 row.1 (first_exceeded rows) which at all.0 (counted_in rows which at all.1) e

counted_is : (m : Module) (which : Which) (at : ℕ) → exceeded m ≡ Some (which, at) → IsCounted which
counted_is m which at e = counted_in (limits_on (types_of m.types) m) which at (tt, (tt, (tt, (tt, (tt, (tt, (tt, (tt, (tt, tt))))))))) e

limit_is : (text : List ℕ) (which : Which) (at : ℕ) → IsCounted which → length text ≤ most_bytes → Exceeds text which at → IsLimit text which at
limit_is text W.Size at c short e = absurd c
limit_is text W.Nesting at c short e = absurd c
limit_is text W.Output at c short e = absurd c
limit_is text W.Types at c short e = (short, e)
limit_is text W.Funcs at c short e = (short, e)
limit_is text W.Globals at c short e = (short, e)
limit_is text W.Params at c short e = (short, e)
limit_is text W.Results at c short e = (short, e)
limit_is text W.Fields at c short e = (short, e)
limit_is text W.Locals at c short e = (short, e)
limit_is text W.ModuleLocals at c short e = (short, e)
limit_is text W.Depth at c short e = (short, e)

-- functions that stand for others exceed what those do
pub above_true : (a b : ℕ) → a < b → nat_lt a b ≡ true
above_true a b h = grind (arith, h)

above_false : (a b : ℕ) → nat_lt a b ≡ false → b ≤ a
above_false a b h = grind (arith, h)

abbrev pub is_above : Func → Bool
is_above func = nat_lt 50000 (locals_of func)

abbrev pub within : List Func → ℕ
within funcs = prefix_len (λ func. not (is_above func)) funcs

same_above : (held func : Func) → StandsFor held func → is_above held ≡ is_above func
same_above held func h = elim h [
  | inl e ↦ ap is_above e
  | inr k ↦ above_true 50000 (locals_of held) k.0 ∙ sym (above_true 50000 (locals_of func) k.1)
]

same_length : (held funcs : List Func) → AllStandFor held funcs → length held ≡ length funcs
same_length [] [] z = refl
same_length [] (y ∷ ys) z = absurd z
same_length (x ∷ xs) [] z = absurd z
same_length (x ∷ xs) (y ∷ ys) z = let e = same_length xs ys z.1 in omega arith

same_within : (held funcs : List Func) → AllStandFor held funcs → within held ≡ within funcs
same_within [] [] z = refl
same_within [] (y ∷ ys) z = absurd z
same_within (x ∷ xs) [] z = absurd z
same_within (x ∷ xs) (y ∷ ys) z = ap (λ b. cond (not b) (1 + within xs) 0) (same_above x y z.0) ∙ ap (λ n. cond (not (is_above y)) (1 + n) 0) (same_within xs ys z.1)

abbrev pub first_of : ℕ → ℕ → Option ℕ
first_of n len = if nat_lt n len then Some n else None

same_first : (held funcs : List Func) → AllStandFor held funcs → first_above locals_of 50000 held ≡ first_above locals_of 50000 funcs
same_first held funcs z = ap (λ n. first_of n (length held)) (same_within held funcs z) ∙ ap (λ n. first_of (within funcs) n) (same_length held funcs z)

pub first_none : (n len : ℕ) (b : Bool) → nat_lt n len ≡ b → (if b then Some n else None) ≡ None → len ≤ n
first_none n len true e h = let f : ◌≡◌ {A = Option ℕ} (Some n) None = h in cc
first_none n len false e h = above_false n len e

pub none_within : (funcs : List Func) → first_above locals_of 50000 funcs ≡ None → length funcs ≤ within funcs
none_within funcs h = first_none (within funcs) (length funcs) (nat_lt (within funcs) (length funcs)) refl h

one_more : (b : Bool) (n : ℕ) → cond b (1 + n) 0 ≤ 1 + n
one_more true n = omega arith
one_more false n = omega arith

-- where none of them is above
head_within : (x : Func) (xs : List Func) (b : Bool) → is_above x ≡ b → length (x ∷ xs) ≤ cond (not b) (1 + within xs) 0 → (b ≡ false) × (length xs ≤ within xs)
head_within x xs true e h = absurd (omega (arith, h))
head_within x xs false e h = (refl, omega (arith, h))

pub first_within : (x : Func) (xs : List Func) → length (x ∷ xs) ≤ within (x ∷ xs) → (is_above x ≡ false) × (length xs ≤ within xs)
first_within x xs h = head_within x xs (is_above x) refl h

true_false : (b : Bool) → b ≡ true → b ≡ false → ⊥
true_false b h k = cc

same_cons : (x y : Func) (xs ys : List Func) → x ≡ y → xs ≡ ys → ◌≡◌ {A = List Func} (x ∷ xs) (y ∷ ys)
same_cons x y xs ys e f = ap (λ a. a ∷ xs) e ∙ ap (λ bs. y ∷ bs) f

same_funcs : (held funcs : List Func) → AllStandFor held funcs → length held ≤ within held → held ≡ funcs
same_funcs [] [] z h = refl
same_funcs [] (y ∷ ys) z h = absurd z
same_funcs (x ∷ xs) [] z h = absurd z
same_funcs (x ∷ xs) (y ∷ ys) z h =
    let w = first_within x xs h in
    elim z.0 [
      | inl e ↦ same_cons x y xs ys e (same_funcs xs ys z.1 w.1)
      | inr k ↦ absurd (true_false (is_above x) (above_true 50000 (locals_of x) k.0) w.0)
    ]

-- the limits on locals and behind them, and those before
abbrev locals_on : List SubType → List Func → Option (Which × ℕ)
locals_on types funcs = exceeded_or W.Locals (first_above locals_of 50000 funcs) (exceeded_or W.ModuleLocals (if_above 4000000 (sum_by locals_of funcs)) (exceeded_or W.Depth (first_deeper 63 types) None))

abbrev others_on : Module → ℕ → Option (Which × ℕ) → Option (Which × ℕ)
others_on m funcs later =
    exceeded_or W.Types (if_above 1000000 (length (types_of m.types)))
    (exceeded_or W.Funcs (if_above 1000000 (count_by (λ i. is_func i.desc) m.imports + funcs))
    (exceeded_or W.Globals (if_above 1000000 (count_by (λ i. is_global i.desc) m.imports + length m.globals))
    (exceeded_or W.Params (first_above (λ ty. params_of ty.comp) 1000 (types_of m.types))
    (exceeded_or W.Results (first_above (λ ty. results_of ty.comp) 1000 (types_of m.types))
    (exceeded_or W.Fields (first_above (λ ty. fields_of ty.comp) 10000 (types_of m.types)) later)))))

same_locals : (types : List SubType) (held funcs : List Func) (o : Option ℕ) → first_above locals_of 50000 held ≡ o → AllStandFor held funcs → locals_on types held ≡ locals_on types funcs
same_locals types held funcs None e z = ap (locals_on types) (same_funcs held funcs z (none_within held e))
same_locals types held funcs (Some i) e z =
    ap (λ o. exceeded_or W.Locals o (exceeded_or W.ModuleLocals (if_above 4000000 (sum_by locals_of held)) (exceeded_or W.Depth (first_deeper 63 types) None))) e
    ∙ sym (ap (λ o. exceeded_or W.Locals o (exceeded_or W.ModuleLocals (if_above 4000000 (sum_by locals_of funcs)) (exceeded_or W.Depth (first_deeper 63 types) None))) (sym (same_first held funcs z) ∙ e))

pub stands_exceeded : (held m : Module) → StandsForModule held m → exceeded held ≡ exceeded m
stands_exceeded held m s =
    ap (λ n. others_on held n (locals_on (types_of held.types) held.funcs)) (same_length held.funcs m.funcs s.funcs)
    ∙ ap (λ later. others_on held (length m.funcs) later) (same_locals (types_of held.types) held.funcs m.funcs (first_above locals_of 50000 held.funcs) refl s.funcs)
    ∙ ap exceeded s.others

-- a limit that is not exceeded is none of those that are answered
pub none_or : (w : Which) (o : Option ℕ) (later : Option (Which × ℕ)) → exceeded_or w o later ≡ None → (o ≡ None) × (later ≡ None)
none_or w None later h = (refl, h)
none_or w (Some n) later h = absurd (some_none (w, n) h)

none_locals : (m : Module) → exceeded m ≡ None → length m.funcs ≤ within m.funcs
none_locals m h =
    let types : List SubType = types_of m.types in
    let l1 = locals_on types m.funcs in
    let l2 = exceeded_or W.Fields (first_above (λ ty. fields_of ty.comp) 10000 types) l1 in
    let l3 = exceeded_or W.Results (first_above (λ ty. results_of ty.comp) 1000 types) l2 in
    let l4 = exceeded_or W.Params (first_above (λ ty. params_of ty.comp) 1000 types) l3 in
    let l5 = exceeded_or W.Globals (if_above 1000000 (globals_in m)) l4 in
    let l6 = exceeded_or W.Funcs (if_above 1000000 (funcs_in m)) l5 in
    let a = none_or W.Types (if_above 1000000 (length types)) l6 h in
    let b = none_or W.Funcs (if_above 1000000 (funcs_in m)) l5 a.1 in
    let c = none_or W.Globals (if_above 1000000 (globals_in m)) l4 b.1 in
    let d = none_or W.Params (first_above (λ ty. params_of ty.comp) 1000 types) l3 c.1 in
    let e = none_or W.Results (first_above (λ ty. results_of ty.comp) 1000 types) l2 d.1 in
    let f = none_or W.Fields (first_above (λ ty. fields_of ty.comp) 10000 types) l1 e.1 in
    let g = none_or W.Locals (first_above locals_of 50000 m.funcs) (exceeded_or W.ModuleLocals (if_above 4000000 (sum_by locals_of m.funcs)) (exceeded_or W.Depth (first_deeper 63 types) None)) f.1 in
    none_within m.funcs g.0

pub stands_same : (held m : Module) → StandsForModule held m → exceeded held ≡ None → held ≡ m
stands_same held m s h = ap (λ fs. record held { funcs = fs }) (same_funcs held.funcs m.funcs s.funcs (none_locals held h)) ∙ s.others

runs_fit : (runs : List (ℕ × ValType)) → sum_by (λ run. run.0) runs ≤ 50000 → AllByRecursion (λ run. FitsU32 run.0) runs
runs_fit [] h = tt
runs_fit (run ∷ runs) h = let e = sum_by-cons (λ (r : ℕ × ValType). r.0) run runs in (omega (arith, h, e), runs_fit runs (omega (arith, h, e)))

all_fit : (funcs : List Func) → length funcs ≤ within funcs → AllByRecursion RunsFit funcs
all_fit [] h = tt
all_fit (x ∷ xs) h = let w = first_within x xs h in (runs_fit x.locals (above_false 50000 (locals_of x) w.0), all_fit xs w.1)

-- a module within the limits is read
pub reads_of : (text : List ℕ) (held m : Module) → length text ≤ most_bytes → StandsForModule held m → module_at 1000 text ≡ got m [] → exceeded held ≡ None → Reads text held
reads_of text held m short s read none =
    let none_m : exceeded m ≡ None = sym (stands_exceeded held m s) ∙ none in
    let spelled : Spells text m = module_read 1000 text [] m read in
    let reads : Reads text m = record {
      short = short;
      spelled = spelled;
      within = record { shaped = spelled_shaped text m spelled (all_fit m.funcs (none_locals m none_m)); shallow = module_nests 1000 text [] m read; counted = none_m };
    } in
    subst (Reads text) (sym (stands_same held m s none)) reads

-- one that exceeds a limit is refused by it
pub limit_of : (text : List ℕ) (held m : Module) (which : Which) (at : ℕ) → length text ≤ most_bytes → StandsForModule held m → module_at 1000 text ≡ got m [] → exceeded held ≡ Some (which, at) → Refused text (E.Limit which at)
limit_of text held m which at short s read found =
    let found_m : exceeded m ≡ Some (which, at) = sym (stands_exceeded held m s) ∙ found in
    limit_is text which at (counted_is m which at found_m) short (record { «module» = m; spelled = module_read 1000 text [] m read; shallow = module_nests 1000 text [] m read; first = found_m })

again : (text : List ℕ) (n : Module) → Reads text n → module_at 1000 text ≡ got n []
again text n r = shallow_read 1000 text n r.spelled r.within.shallow

pub limit_unread : (text : List ℕ) (held m n : Module) (found : Which × ℕ) → StandsForModule held m → module_at 1000 text ≡ got m [] → exceeded held ≡ Some found → Reads text n → ⊥
limit_unread text held m n found s read e r =
    let same : m ≡ n = value_is m n [] [] (sym read ∙ again text n r) in
    none_some found (sym r.within.counted ∙ ap exceeded (sym same) ∙ sym (stands_exceeded held m s) ∙ e)

-- a stop
refused_of : (text : List ℕ) (err : ReadErr) → length text ≤ most_bytes → Refuses (module_at 1000) text err → Refused text err
refused_of text (E.Malformed place) short h = (short, record { item = h.item; due = record { left = h.due.left; here = h.due.here; stopped = h.due.stopped }; shallow = h.shallow; unnamed = h.unnamed })
refused_of text (E.OutOfProfile place code) short h = (short, record { item = h.item; due = record { left = h.due.left; here = h.due.here; stopped = h.due.stopped }; named = h.named })
refused_of text (E.Limit which place) short h = rw h.0 (short, record { left = h.1.left; here = h.1.here; stopped = h.1.stopped })
refused_of text E.NoMemory short h = tt

pub stop_refused : (text : List ℕ) (stop : Stop) (err : ReadErr) → length text ≤ most_bytes → Fails stop (module_at 1000 text) → Answers text stop err → Refused text err
stop_refused text stop err short fails answers = refused_of text err short (refuses (module_at 1000) text stop err fails answers)

pub stop_unread : (text : List ℕ) (stop : Stop) (err : ReadErr) (n : Module) → Fails stop (module_at 1000 text) → Answers text stop err → Reads text n → err ≡ E.NoMemory
stop_unread text S.NoMemory err n fails answers r = answers
stop_unread text (S.Refused asked left) err n fails answers r = absurd (refused-got _ left n [] (sym fails ∙ again text n r))
