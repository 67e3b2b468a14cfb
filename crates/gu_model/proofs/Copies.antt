-- Active segments are copied, by code that is typed where the offset is.
use Rattle.std.proofs.Common.{ℕ, suc, Bool, true, ◌&&◌, List, [], ◌∷◌, ◌++◌, length, Option, Some, None, slice_get, is_some, nat_lt, ◌≡◌, refl, ap, ◌∙◌, sym, true≢false}
use Rattle.std.specs.Prelude.{pos}
use Rattle.gu_types.specs.declared.types.RefType.{RefType}
use Rattle.gu_types.specs.declared.types.ValType.{ValType}
use Rattle.gu_types.specs.declared.types.ValType.TheVariants.{I32}
use Rattle.gu_rec.specs.Sub.{is_sub_ref}
use Rattle.gu_syntax.specs.declared.instr.Instr.{Instr}
use Rattle.gu_syntax.specs.declared.instr.Instr.TheVariants as I
use Rattle.gu_syntax.specs.declared.module.Elem.{Elem}
use Rattle.gu_syntax.specs.declared.module.ElemMode.{ElemMode}
use Rattle.gu_syntax.specs.declared.module.ElemMode.TheVariants as E
use Rattle.gu_syntax.specs.declared.module.Seg.{Seg}
use Rattle.gu_syntax.specs.declared.module.SegMode.{SegMode}
use Rattle.gu_syntax.specs.declared.module.SegMode.TheVariants as G
use Rattle.gu_syntax.specs.Code.{Code, code_of, ins_of, done}
use Rattle.gu_model.specs.Outline.{Outline}
use Rattle.gu_model.specs.State.{State, How, normal, branch, return, tail, thrown, trap, spent, over, wrong, foul, Out, out, at}
use Rattle.gu_model.specs.Control.{Level, exec}
use Rattle.gu_model.specs.Play.{copy_elem, copy_data, copy_elems, copy_datas, count_items}
use Rattle.gu_model.specs.TypingContext.{Context, Around, ◌>>=◌, given}
use Rattle.gu_model.specs.TypingShape.{Shape, of, ends_with, pops, pushes, type_row}
use Rattle.gu_model.specs.TypingRows as R
use Rattle.gu_model.specs.TypingTables.{copies}
use Rattle.gu_model.specs.Typing.{type_code, type_ins}
use Rattle.gu_model.specs.ValidConstants.{is_constant, is_constant_of, nowhere}
use Rattle.gu_model.specs.ValidConstants as V
use Rattle.gu_model.specs.ValidContext.{elem_type}
use Rattle.gu_model.proofs.GoodTypes.{GoodTypes}
use Rattle.gu_model.proofs.Has.{bind_some, and_second}
use Rattle.gu_model.proofs.Stores.{StoreFits, Later}
use Rattle.gu_model.proofs.ActRows.{within_module}
use Rattle.gu_model.proofs.References.{GoodFuncs}
use Rattle.gu_model.proofs.Moments.{Fits, Good, GoodHow}
use Rattle.gu_model.proofs.Bodies.{ends_so}
use Rattle.gu_model.proofs.Constants.{Step, step_after}

module _ (o : Outline) (good : GoodTypes o.types) (funcs : GoodFuncs o) (gs : List (ValType × Bool)) (ts es : List RefType) (segs : ℕ) (declared : List Bool) where
  abbrev K : Context
  K = within_module o gs ts es segs declared

  -- code goes on behind code
  type_then : (is js : List Instr) (s m : Shape) → type_code K nowhere (code_of is) s ≡ Some m → type_code K nowhere (code_of (is ++ js)) s ≡ type_code K nowhere (code_of js) m
  type_then [] js s m h = ap (λ p. p >>= type_code K nowhere (code_of js)) h
  type_then (i ∷ is) js s m h = let b = bind_some (type_ins K nowhere (ins_of i) s) (type_code K nowhere (code_of is)) m h in ap (λ p. p >>= type_code K nowhere (code_of (is ++ js))) b.first ∙ type_then is js b.mid m b.then

  -- what follows the offset
  elem_tail : (i x n : ℕ) (from to : RefType) (m y : Shape) → slice_get es i ≡ Some from → slice_get ts x ≡ Some to → is_sub_ref o.types from to ≡ true → nat_lt i (length es) ≡ true → pops o.types (I32 ∷ []) m ≡ Some y → type_code K nowhere (code_of (I.I32Const (pos 0) ∷ I.I32Const (pos n) ∷ I.TableInit i x ∷ I.ElemDrop i ∷ [])) m ≡ Some y
  unfolding ins_of
  elem_tail i x n from to m y e f g l h =
      ap (λ p. type_row o.types (p >>= λ from. copies K x from) behind >>= dropped) e
      ∙ ap (λ p. type_row o.types (p >>= λ t. given (is_sub_ref o.types from t) (Some (R.goes (I32 ∷ I32 ∷ I32 ∷ []) []))) behind >>= dropped) f
      ∙ ap (λ b. type_row o.types (given b (Some (R.goes (I32 ∷ I32 ∷ I32 ∷ []) []))) behind >>= dropped) g
      ∙ ap (λ p. (p >>= pushes []) >>= dropped) h
      ∙ ap (λ b. type_row o.types (given b (Some (R.goes [] []))) y >>= type_code K nowhere done) l
    where
      behind : Shape
      behind = record m { types = of I32 ∷ of I32 ∷ m.types }

      dropped : Shape → Option Shape
      dropped s = type_row o.types (given (nat_lt i (length es)) (Some (R.goes [] []))) s >>= type_code K nowhere done

  data_tail : (i x n : ℕ) (m y : Shape) → nat_lt x (length o.memories) ≡ true → nat_lt i segs ≡ true → pops o.types (I32 ∷ []) m ≡ Some y → type_code K nowhere (code_of (I.I32Const (pos 0) ∷ I.I32Const (pos n) ∷ I.MemoryInit i x ∷ I.DataDrop i ∷ [])) m ≡ Some y
  unfolding ins_of
  data_tail i x n m y f l h =
      ap (λ b. type_row o.types (given (b && nat_lt i segs) (Some (R.goes (I32 ∷ I32 ∷ I32 ∷ []) []))) behind >>= dropped) f
      ∙ ap (λ b. type_row o.types (given b (Some (R.goes (I32 ∷ I32 ∷ I32 ∷ []) []))) behind >>= dropped) l
      ∙ ap (λ p. (p >>= pushes []) >>= dropped) h
      ∙ ap (λ b. type_row o.types (given b (Some (R.goes [] []))) y >>= type_code K nowhere done) l
    where
      behind : Shape
      behind = record m { types = of I32 ∷ of I32 ∷ m.types }

      dropped : Shape → Option Shape
      dropped s = type_row o.types (given (nat_lt i segs) (Some (R.goes [] []))) s >>= type_code K nowhere done

  -- an offset leaves an i32
  record Offset (is : List Instr) : Type 0 where
    mid : Shape
    end : Shape
    typed : type_code K nowhere (code_of is) V.nothing ≡ Some mid
    pop : pops o.types (I32 ∷ []) mid ≡ Some end

  offset_is : (is : List Instr) → is_constant_of K I32 (code_of is) ≡ true → Offset is
  offset_is is h = by (type_code K nowhere (code_of is) V.nothing) refl (and_second (is_constant K (code_of is)) _ h)
    where
      by : (p : Option Shape) → type_code K nowhere (code_of is) V.nothing ≡ p → is_some (ends_with o.types (I32 ∷ []) p (Some V.nothing)) ≡ true → Offset is
      by None q z = absurd (true≢false (sym z))
      by (Some x) q z = let y = ends_so o good funcs gs ts es segs declared (I32 ∷ []) x (Some V.nothing) z in record { mid = x; end = y.0; typed = q; pop = y.1 }

  -- what is copied
  abbrev pub ModeGood : (segment : ℕ) → RefType → ElemMode → Type 0
  ModeGood i from (E.Active x offset) = (to : RefType) × (slice_get ts x ≡ Some to) × (is_sub_ref o.types from to ≡ true) × (is_constant_of K I32 (code_of offset.code) ≡ true)
  ModeGood i from _ = Unit {0}

  abbrev pub ModesGood : (segment : ℕ) → List Elem → Type 0
  ModesGood i [] = Unit {0}
  ModesGood i (e ∷ el) = (slice_get es i ≡ Some (elem_type e)) × (nat_lt i (length es) ≡ true) × ModeGood i (elem_type e) e.mode × ModesGood (suc i) el

  abbrev pub SegGood : SegMode → Type 0
  SegGood (G.Active x offset) = (nat_lt x (length o.memories) ≡ true) × (is_constant_of K I32 (code_of offset.code) ≡ true)
  SegGood G.Passive = Unit {0}

  abbrev pub SegsGood : (segment : ℕ) → List Seg → Type 0
  SegsGood i [] = Unit {0}
  SegsGood i (d ∷ ds) = (nat_lt i segs ≡ true) × SegGood d.mode × SegsGood (suc i) ds

  copy_typed : (i n : ℕ) (from : RefType) (mode : ElemMode) → slice_get es i ≡ Some from → nat_lt i (length es) ≡ true → ModeGood i from mode → (e : Shape) × (type_code K nowhere (code_of (copy_elem i mode n)) V.nothing ≡ Some e)
  unfolding ins_of
  copy_typed i n from (E.Active x offset) f l g = let d = offset_is offset.code g.3 in (d.end, type_then offset.code _ V.nothing d.mid d.typed ∙ elem_tail i x n from g.0 d.mid d.end f g.1 g.2 l d.pop)
  copy_typed i n from E.Passive f l g = (V.nothing, refl)
  copy_typed i n from E.Declared f l g = (V.nothing, ap (λ b. type_row o.types (given b (Some (R.goes [] []))) V.nothing >>= type_code K nowhere done) l)

  data_typed : (i n : ℕ) (mode : SegMode) → nat_lt i segs ≡ true → SegGood mode → (e : Shape) × (type_code K nowhere (code_of (copy_data i mode n)) V.nothing ≡ Some e)
  data_typed i n (G.Active x offset) l g = let d = offset_is offset.code g.1 in (d.end, type_then offset.code _ V.nothing d.mid d.typed ∙ data_tail i x n d.mid d.end g.0 l d.pop)
  data_typed i n G.Passive l g = (V.nothing, refl)

  module _ (enters : ℕ → State → Out) (low : Level) (runs : (a : Around) (c : Code) (st : State) (s e : Shape) → type_code K a c s ≡ Some e → Fits o good K a s st.core → StoreFits o K st.core.store → Good o good K a st.core (Fits o good K a e) (exec o enters low c st)) where
    -- typed code of the instantiation
    code_step : (c : Code) (e : Shape) (s : State) → type_code K nowhere c V.nothing ≡ Some e → StoreFits o K s.core.store → Step o K (exec o enters low c (at s [] []))
    code_step c e s h f = let g = runs nowhere c (at s [] []) V.nothing e h (record { reached = refl; stack = tt; locals = tt; set = tt }) f in by (exec o enters low c (at s [] [])).how (exec o enters low c (at s [] [])).state g.later g.is
      where
        by : (w : How) (v : State) → Later o K s.core.store v.core.store → GoodHow o good K nowhere (at s [] []).core (Fits o good K nowhere e) w v.core → Step o K (out w v)
        by normal v la i = record { is = la.fits }
        by (branch j) v la i = record { is = tt }
        by return v la i = record { is = tt }
        by (tail x) v la i = record { is = tt }
        by (thrown a) v la i = record { is = tt }
        by trap v la i = record { is = tt }
        by spent v la i = record { is = tt }
        by over v la i = record { is = tt }
        by wrong v la i = absurd i
        by foul v la i = record { is = tt }

    pub copies_good : (i : ℕ) (el : List Elem) (s : State) → ModesGood i el → StoreFits o K s.core.store → Step o K (copy_elems o enters low i el s)
    copies_good i [] s h f = record { is = f }
    copies_good i (e ∷ el) s h f = let t = copy_typed i (count_items e.items) (elem_type e) e.mode h.0 h.1 h.2 in step_after o K K (exec o enters low (code_of (copy_elem i e.mode (count_items e.items))) (at s [] [])) (copy_elems o enters low (suc i) el) (code_step (code_of (copy_elem i e.mode (count_items e.items))) t.0 s t.1 f) (λ u g. copies_good (suc i) el u h.3 g)

    pub datas_good : (i : ℕ) (ds : List Seg) (s : State) → SegsGood i ds → StoreFits o K s.core.store → Step o K (copy_datas o enters low i ds s)
    datas_good i [] s h f = record { is = f }
    datas_good i (d ∷ ds) s h f = let t = data_typed i (length d.bytes) d.mode h.0 h.1 in step_after o K K (exec o enters low (code_of (copy_data i d.mode (length d.bytes))) (at s [] [])) (copy_datas o enters low (suc i) ds) (code_step (code_of (copy_data i d.mode (length d.bytes))) t.0 s t.1 f) (λ u g. datas_good (suc i) ds u h.2 g)
