-- Constant expressions give a value of their type, over a store that holds only part of the tables and segments.
use Rattle.std.proofs.Common.{ℕ, Bool, true, List, [], ◌∷◌, ◌++◌, Option, Some, None, slice_get, is_some, ◌≡◌, refl, ap, ◌∙◌, sym, subst, true≢false}
use Rattle.std.proofs.lemmas.Option.{same_Some}
use Rattle.gu_types.specs.declared.types.RefType.{RefType}
use Rattle.gu_types.specs.declared.types.ValType.{ValType}
use Rattle.gu_syntax.specs.declared.instr.Instr.{Instr}
use Rattle.gu_syntax.specs.declared.instr.Instr.TheVariants as I
use Rattle.gu_syntax.specs.Code.{Ins, Code, leaf, block, loop, choice, try_table, done, next, code_of}
use Rattle.gu_model.specs.Outline.{Outline}
use Rattle.gu_model.specs.Value.{Value, Store, allocated}
use Rattle.gu_model.specs.State.{Core, State, How, normal, branch, return, tail, thrown, trap, spent, over, wrong, foul, Out, out, at, after, on_normal, pop, with_some}
use Rattle.gu_model.specs.Control.{Level, exec, exec_ins, exec_leaf}
use Rattle.gu_model.specs.Play.{evaluate}
use Rattle.gu_model.specs.TypingContext.{Context, Around}
use Rattle.gu_model.specs.TypingShape.{Shape, of, ends_with}
use Rattle.gu_model.specs.Typing.{type_code, type_ins, type_leaf, control_row}
use Rattle.gu_model.specs.ValidConstants.{is_constant_leaf, is_constant_ins, is_constant, is_constant_of, nowhere}
use Rattle.gu_model.specs.ValidConstants as V
use Rattle.gu_model.proofs.GoodTypes.{GoodTypes}
use Rattle.gu_model.proofs.Has.{bind_some, Has, pop_goes, and_first, and_second}
use Rattle.gu_model.proofs.Stores.{StoreFits, Later}
use Rattle.gu_model.proofs.ActRows.{within_module, one_is}
use Rattle.gu_model.proofs.References.{GoodFuncs}
use Rattle.gu_model.proofs.Moments.{Fits, Good, GoodHow, TopHas, after_good, row_good}
use Rattle.gu_model.proofs.Leaves.{plain_rows, on_top, stays}
use Rattle.gu_model.proofs.Branches.{to_any_good, to_extern_good}
use Rattle.gu_model.proofs.Bodies.{ends_so}
use Rattle.gu_model.proofs.Calls.{some_is}

-- how a part of the instantiation may end, in a store that fits a context where it goes on
module _ (o : Outline) where
  abbrev pub StepHow : Context → How → Store → Type 0
  StepHow D normal st = StoreFits o D st
  StepHow D wrong st = ⊥
  StepHow D _ st = Unit {0}

  pub record Step (D : Context) (p : Out) : Type 0 where
    pub is : StepHow D p.how p.state.core.store

  pub step_after : (C D : Context) (p : Out) (go : State → Out) → Step C p → ((u : State) → StoreFits o C u.core.store → Step D (go u)) → Step D (after p go)
  step_after C D p go s k = by p.how p.state s.is
    where
      by : (h : How) (u : State) → StepHow C h u.core.store → Step D (on_normal h u go)
      by normal u i = k u i
      by (branch j) u i = record { is = tt }
      by return u i = record { is = tt }
      by (tail f) u i = record { is = tt }
      by (thrown x) u i = record { is = tt }
      by trap u i = record { is = tt }
      by spent u i = record { is = tt }
      by over u i = record { is = tt }
      by wrong u i = absurd i
      by foul u i = record { is = tt }

-- code is typed in the context of the module, where so many of its globals are there, and runs over a store that has the
-- same globals, and perhaps fewer tables and segments
module _ (o : Outline) (good : GoodTypes o.types) (funcs : GoodFuncs o) (gs : List (ValType × Bool)) (all_tables all_elems ts es : List RefType) (segs : ℕ) (declared : List Bool) where
  abbrev C : Context
  C = within_module o gs all_tables all_elems segs declared

  abbrev K : Context
  K = within_module o gs ts es segs declared

  abbrev FitsOf : Around → Shape → Core → Type 0
  FitsOf a s c = Fits o good K a s c

  abbrev GoodOf : Around → Core → (Core → Type 0) → Out → Type 0
  GoodOf a b N p = Good o good K a b N p

  module _ (enters : ℕ → State → Out) (low : Level) where
    leaf_good : (a : Around) (i : Instr) (st : State) (s e : Shape) → is_constant_leaf C i ≡ true → type_leaf C a i s ≡ Some e → FitsOf a s st.core → StoreFits o K st.core.store → GoodOf a st.core (FitsOf a e) (exec_leaf o enters i st)
    leaf_good a (I.I32Const n) st s e p h f sf = row_good o good K a (I.I32Const n) (control_row K a (I.I32Const n)) st s e (plain_rows o good funcs gs ts es segs declared (I.I32Const n) refl) h f sf
    leaf_good a (I.I64Const n) st s e p h f sf = row_good o good K a (I.I64Const n) (control_row K a (I.I64Const n)) st s e (plain_rows o good funcs gs ts es segs declared (I.I64Const n) refl) h f sf
    leaf_good a (I.Num op) st s e p h f sf = row_good o good K a (I.Num op) (control_row K a (I.Num op)) st s e (plain_rows o good funcs gs ts es segs declared (I.Num op) refl) h f sf
    leaf_good a (I.RefNull t) st s e p h f sf = row_good o good K a (I.RefNull t) (control_row K a (I.RefNull t)) st s e (plain_rows o good funcs gs ts es segs declared (I.RefNull t) refl) h f sf
    leaf_good a (I.RefFunc x) st s e p h f sf = row_good o good K a (I.RefFunc x) (control_row K a (I.RefFunc x)) st s e (plain_rows o good funcs gs ts es segs declared (I.RefFunc x) refl) h f sf
    leaf_good a I.RefI31 st s e p h f sf = row_good o good K a I.RefI31 (control_row K a I.RefI31) st s e (plain_rows o good funcs gs ts es segs declared I.RefI31 refl) h f sf
    leaf_good a (I.StructNew x) st s e p h f sf = row_good o good K a (I.StructNew x) (control_row K a (I.StructNew x)) st s e (plain_rows o good funcs gs ts es segs declared (I.StructNew x) refl) h f sf
    leaf_good a (I.StructNewDefault x) st s e p h f sf = row_good o good K a (I.StructNewDefault x) (control_row K a (I.StructNewDefault x)) st s e (plain_rows o good funcs gs ts es segs declared (I.StructNewDefault x) refl) h f sf
    leaf_good a (I.ArrayNew x) st s e p h f sf = row_good o good K a (I.ArrayNew x) (control_row K a (I.ArrayNew x)) st s e (plain_rows o good funcs gs ts es segs declared (I.ArrayNew x) refl) h f sf
    leaf_good a (I.ArrayNewDefault x) st s e p h f sf = row_good o good K a (I.ArrayNewDefault x) (control_row K a (I.ArrayNewDefault x)) st s e (plain_rows o good funcs gs ts es segs declared (I.ArrayNewDefault x) refl) h f sf
    leaf_good a (I.ArrayNewFixed x n) st s e p h f sf = row_good o good K a (I.ArrayNewFixed x n) (control_row K a (I.ArrayNewFixed x n)) st s e (plain_rows o good funcs gs ts es segs declared (I.ArrayNewFixed x n) refl) h f sf
    leaf_good a (I.GlobalGet x) st s e p h f sf = row_good o good K a (I.GlobalGet x) (control_row K a (I.GlobalGet x)) st s e (plain_rows o good funcs gs ts es segs declared (I.GlobalGet x) refl) h f sf
    leaf_good a I.AnyConvertExtern st s e p h f sf = to_any_good o good funcs gs ts es segs declared a st s e h f sf
    leaf_good a I.ExternConvertAny st s e p h f sf = to_extern_good o good funcs gs ts es segs declared a st s e h f sf
    leaf_good a i st s e p h f sf = absurd (true≢false (sym p))

    ins_good : (a : Around) (i : Ins) (st : State) (s e : Shape) → is_constant_ins C i ≡ true → type_ins C a i s ≡ Some e → FitsOf a s st.core → StoreFits o K st.core.store → GoodOf a st.core (FitsOf a e) (exec_ins o enters low i st)
    ins_good a (leaf i) st s e p h f sf = leaf_good a i st s e p h f sf
    ins_good a (block t c) st s e p h f sf = absurd (true≢false (sym p))
    ins_good a (loop t c) st s e p h f sf = absurd (true≢false (sym p))
    ins_good a (choice t c d) st s e p h f sf = absurd (true≢false (sym p))
    ins_good a (try_table t cs c) st s e p h f sf = absurd (true≢false (sym p))

    constant_good : (a : Around) (c : Code) (st : State) (s e : Shape) → is_constant C c ≡ true → type_code C a c s ≡ Some e → FitsOf a s st.core → StoreFits o K st.core.store → GoodOf a st.core (FitsOf a e) (exec o enters low c st)
    constant_good a done st s e p h f sf = subst (λ e. GoodOf a st.core (FitsOf a e) (out normal st)) (same_Some _ _ h) (stays o good funcs gs ts es segs declared a s st f sf)
    constant_good a (next i c) st s e p h f sf = let b = bind_some (type_ins C a i s) (type_code C a c) e h in after_good o good K a st.core (FitsOf a b.mid) (FitsOf a e) (exec_ins o enters low i st) (exec o enters low c) (ins_good a i st s b.mid (and_first (is_constant_ins C i) _ p) b.first f sf) (λ u g ug ul. constant_good a c u b.mid e (and_second (is_constant_ins C i) _ p) b.then g ug)

    -- the value of a constant expression
    pub evaluate_good : (D : Context) (t : ValType) (is : List Instr) (s : State) (go : Value → State → Out) → is_constant_of C t (code_of is) ≡ true → StoreFits o K s.core.store → ((v : Value) (u : State) → Later o K s.core.store u.core.store → Has o (allocated u.core.store) t v → Step o D (go v u)) → Step o D (evaluate o enters low is s go)
    evaluate_good D t is s go h sf k = typed (type_code C nowhere (code_of is) V.nothing) refl (and_second (is_constant C (code_of is)) _ h)
      where
        popped : (v : State) (la : Later o K s.core.store v.core.store) (w : TopHas o good K (t ∷ []) v.core) → Step o D (pop 1 v (λ vs below. with_some (slice_get vs 0) v (λ x. go x (at v [] []))))
        popped v la w = one_is o (allocated v.core.store) (λ vs. w.top ≡ vs → Step o D (pop 1 v (λ vs below. with_some (slice_get vs 0) v (λ x. go x (at v [] []))))) w.top t w.has (λ x hx z.
            subst (Step o D) (sym (pop_goes 1 v (x ∷ []) w.rest (λ vs below. with_some (slice_get vs 0) v (λ x. go x (at v [] []))) (w.split ∙ ap (λ l. l ++ w.rest) z) refl ∙ some_is o good funcs gs ts es segs declared (Some x) v (λ x. go x (at v [] [])) x refl))
            (k x (at v [] []) la hx)) refl

        by : (x y : Shape) → Rattle.gu_model.specs.TypingShape.pops o.types (t ∷ []) x ≡ Some y → (w : How) (v : State) → Later o K s.core.store v.core.store → GoodHow o good K nowhere (at s [] []).core (FitsOf nowhere x) w v.core → Step o D (on_normal w v (λ u. pop 1 u (λ vs below. with_some (slice_get vs 0) u (λ x. go x (at u [] [])))))
        by x y q normal v la i = popped v la (on_top o good funcs gs ts es segs declared (t ∷ []) nowhere x y v.core q i.is)
        by x y q (branch j) v la i = record { is = tt }
        by x y q return v la i = record { is = tt }
        by x y q (tail f) v la i = record { is = tt }
        by x y q (thrown a) v la i = record { is = tt }
        by x y q trap v la i = record { is = tt }
        by x y q spent v la i = record { is = tt }
        by x y q over v la i = record { is = tt }
        by x y q wrong v la i = absurd i
        by x y q foul v la i = record { is = tt }

        typed : (p : Option Shape) → type_code C nowhere (code_of is) V.nothing ≡ p → is_some (ends_with o.types (t ∷ []) p (Some V.nothing)) ≡ true → Step o D (evaluate o enters low is s go)
        typed None q z = absurd (true≢false (sym z))
        typed (Some x) q z =
            let y = ends_so o good funcs gs ts es segs declared (t ∷ []) x (Some V.nothing) z in
            let g = constant_good nowhere (code_of is) (at s [] []) V.nothing x (and_first (is_constant C (code_of is)) _ h) q (record { reached = refl; stack = tt; locals = tt; set = tt }) sf in
            by x y.0 y.1 (exec o enters low (code_of is) (at s [] [])).how (exec o enters low (code_of is) (at s [] [])).state g.later g.is
