-- Code that is typed where there are no data segments names none, so it needs no number of them.
use Rattle.std.proofs.Common.{ℕ, ◌≡◌, ◌==◌, ◌||◌, ◌&&◌, ◌∙◌, not, Bool, true, false, List, [], ◌∷◌, ◌++◌, Option, Some, None, refl, sym, is_some, length, nat_lt, arith, eqb-true, le-ltb}
use Rattle.std.specs.List.{list_all}
use Rattle.std.proofs.lemmas.Option.{none-some}
use Rattle.gu_types.specs.declared.types.ValType.{ValType}
use Rattle.gu_types.specs.declared.types.ValType.TheVariants.{I32}
use Rattle.gu_syntax.specs.declared.instr.Instr.{Instr}
use Rattle.gu_syntax.specs.declared.instr.Instr.TheVariants as I
use Rattle.gu_syntax.specs.declared.module.Func.{Func}
use Rattle.gu_syntax.specs.declared.module.Module.{Module}
use Rattle.gu_syntax.specs.Code.{Ins, Code, leaf, block, loop, choice, try_table, done, next, code_of}
use Rattle.gu_model.specs.Typing.{type_leaf, type_ins, type_code, type_catch, inside, opened, around, begins, spread, valid_run, is_typed_as, is_typed_func}
use Rattle.gu_types.specs.declared.types.FieldType.{FieldType}
use Rattle.gu_model.specs.TypingContext.{Context, Around, ◌>>=◌, given, type_of_block}
use Rattle.gu_model.specs.Index.{FuncType, func_type, array_type}
use Rattle.gu_model.specs.TypingReferences.{fits_data, makes, fills}
use Rattle.gu_model.specs.TypingRows.{Row}
use Rattle.gu_model.specs.TypingShape.{Kind, Shape, pops, empties, ends_with, type_row}
use Rattle.gu_model.specs.ValidContext.{context, body_of, needs_count_leaf, needs_count_ins, needs_count_code, needs_count_body}

-- what follows from each step of typing that gives a shape

after : {X Y : Type 0} {P : Type 0} {t : Y} (p : Option X) (f : X → Option Y) → ((x : X) → p ≡ Some x → f x ≡ Some t → P) → (p >>= f) ≡ Some t → P
after {t = t} None f g h = absurd (none-some t h)
after (Some x) f g h = g x refl h

after_given : {Y : Type 0} {P : Type 0} {t : Y} (b : Bool) (o : Option Y) → (o ≡ Some t → P) → given b o ≡ Some t → P
after_given {t = t} false o g h = absurd (none-some t h)
after_given true o g h = g h

neither : (a b : Bool) → a ≡ false → b ≡ false → (a || b) ≡ false
neither false b p q = q
neither true b p q = absurd (let z : ⊥ = cc in z)

right_of : (a b : Bool) → (a && b) ≡ true → b ≡ true
right_of true b h = h
right_of false b h = absurd (let z : ⊥ = cc in z)

-- no number is that of a segment where there are none
none_below : (d n : ℕ) → n ≡ 0 → nat_lt d n ≡ false
none_below d n none = le-ltb d n (omega (arith, none))

both_false : (a b : Bool) → b ≡ false → (a && b) ≡ false
both_false true b h = h
both_false false b h = refl

-- a row that is given only where something holds that does not
never_given : {P : Type 0} {t : Shape} (C : Context) (b : Bool) (o : Option Row) (s : Shape) → b ≡ false → type_row C.types (given b o) s ≡ Some t → P
never_given {t = t} C false o s off h = absurd (none-some t h)
never_given C true o s off h = absurd (let z : ⊥ = cc in z)

never_on : {P : Type 0} {t : Shape} (C : Context) (ty : Option FieldType) (row : FieldType → Option Row) (s : Shape)
    → ((f : FieldType) → type_row C.types (row f) s ≡ Some t → P) → type_row C.types (ty >>= row) s ≡ Some t → P
never_on {t = t} C None row s g h = absurd (none-some t h)
never_on C (Some f) row s g h = g f h

leaf_needs_none : (C : Context) (a : Around) (i : Instr) (s t : Shape) → C.segs ≡ 0 → type_leaf C a i s ≡ Some t → needs_count_leaf i ≡ false
leaf_needs_none C a (I.MemoryInit d x) s t none h = never_given C (nat_lt x C.memories && nat_lt d C.segs) _ s (both_false _ _ (none_below d C.segs none)) h
leaf_needs_none C a (I.DataDrop d) s t none h = never_given C (nat_lt d C.segs) _ s (none_below d C.segs none) h
leaf_needs_none C a (I.ArrayNewData x d) s t none h = never_on C (array_type C.types x) (λ f. makes x (fits_data C d f)) s (λ f. never_given C (fits_data C d f) _ s (both_false _ _ (none_below d C.segs none))) h
leaf_needs_none C a (I.ArrayInitData x d) s t none h = never_on C (array_type C.types x) (λ f. fills x f (fits_data C d f)) s (λ f. never_given C (f.mutable && fits_data C d f) _ s (both_false _ _ (both_false _ _ (none_below d C.segs none)))) h
leaf_needs_none C a i s t none h = refl

-- the end of code: it is typed, and so is what follows
emptied : {t : Shape} (kinds : List Kind) (o : Option Shape) → (elim kinds [ [] ↦ o | k ∷ ks ↦ None ]) ≡ Some t → o ≡ Some t
emptied [] o h = h
emptied {t = t} (k ∷ ks) o h = absurd (none-some t h)

after_end : {P : Type 0} {t : Shape} (C : Context) (ts : List ValType) (p o : Option Shape) → ((e : Shape) → p ≡ Some e → o ≡ Some t → P) → ends_with C.types ts p o ≡ Some t → P
after_end {t = t} C ts None o g h = absurd (none-some t h)
after_end C ts (Some s) o g h = after (pops C.types ts s) (λ e. empties C.types e o) (λ e is left. g s refl (emptied e.types o left)) h

mutual
  code_needs_none : (C : Context) → C.segs ≡ 0 → (a : Around) (c : Code) (s t : Shape) → type_code C a c s ≡ Some t → needs_count_code c ≡ false
  code_needs_none C none a done s t h = refl
  code_needs_none C none a (next i c) s t h =
      after (type_ins C a i s) (type_code C a c) (λ u first rest. neither _ _ (ins_needs_none C none a i s u first) (code_needs_none C none a c u t rest)) h

  ins_needs_none : (C : Context) → C.segs ≡ 0 → (a : Around) (i : Ins) (s t : Shape) → type_ins C a i s ≡ Some t → needs_count_ins i ≡ false
  ins_needs_none C none a (leaf i) s t h = leaf_needs_none C a i s t none h
  ins_needs_none C none a (block ty c) s t h =
      after (type_of_block C.types ty) _ (λ f is.
      after (pops C.types f.params s) _ (λ u is'.
      after_end C f.results (type_code C (inside a f.results) c (opened f.params u)) _ (λ e in' out. code_needs_none C none (inside a f.results) c (opened f.params u) e in'))) h
  ins_needs_none C none a (loop ty c) s t h =
      after (type_of_block C.types ty) _ (λ f is.
      after (pops C.types f.params s) _ (λ u is'.
      after_end C f.results (type_code C (inside a f.params) c (opened f.params u)) _ (λ e in' out. code_needs_none C none (inside a f.params) c (opened f.params u) e in'))) h
  ins_needs_none C none a (choice ty c d) s t h =
      after (type_of_block C.types ty) _ (λ f is.
      after (pops C.types (f.params ++ I32 ∷ []) s) _ (λ u is'.
      after_end C f.results (type_code C (inside a f.results) c (opened f.params u)) _ (λ e yes' rest.
      after_end C f.results (type_code C (inside a f.results) d (opened f.params u)) _ (λ e' no' out.
      neither _ _ (code_needs_none C none (inside a f.results) c (opened f.params u) e yes') (code_needs_none C none (inside a f.results) d (opened f.params u) e' no')) rest))) h
  ins_needs_none C none a (try_table ty catches c) s t h =
      after (type_of_block C.types ty) _ (λ f is.
      after_given (list_all (type_catch C a) catches) _ (λ caught.
      after (pops C.types f.params s) _ (λ u is'.
      after_end C f.results (type_code C (inside a f.results) c (opened f.params u)) _ (λ e in' out. code_needs_none C none (inside a f.results) c (opened f.params u) e in')) caught)) h

shape_there : (o : Option Shape) → is_some o ≡ true → (t : Shape) × (o ≡ Some t)
shape_there None h = absurd (let z : ⊥ = cc in z)
shape_there (Some t) h = (t, refl)

typed_as_needs_none : (C : Context) → C.segs ≡ 0 → (f : Func) (ty : Option FuncType) → is_typed_as C f ty ≡ true → needs_count_body (body_of f) ≡ false
typed_as_needs_none C none f None h = absurd (let z : ⊥ = cc in z)
typed_as_needs_none C none f (Some ty) h =
    let a : Around = around ty (spread f.locals) in
    let s : Shape = begins ty (spread f.locals) in
    let typed = right_of (list_all (valid_run C) f.locals) _ h in
    let end = shape_there (ends_with C.types ty.results (type_code C a (code_of f.body.code) s) (Some s)) typed in
    after_end C ty.results (type_code C a (code_of f.body.code) s) (Some s) (λ e is out. code_needs_none C none a (code_of f.body.code) s e is) end.1

-- a function that is typed needs no number of segments where there are none
typed_needs_none : (C : Context) → C.segs ≡ 0 → (f : Func) → is_typed_func C f ≡ true → needs_count_body (body_of f) ≡ false
typed_needs_none C none f h = typed_as_needs_none C none f (func_type C.types f.ty) h

asked : (has none needs b : Bool) → b ≡ (not has && (not none && needs)) → (none ≡ true → needs ≡ false) → b ≡ (not has && needs)
asked true none needs b is off = is
asked false true needs b is off = is ∙ sym (off refl)
asked false false needs b is off = is

-- so where there are none, a body that is typed need not be asked
pub lacks_typed : (m : Module) (f : Func) (b holds : Bool) → b ≡ (not m.has_count && (not (length m.segs == 0) && needs_count_body (body_of f))) → holds ≡ is_typed_func (context m) f → holds ≡ true
    → b ≡ (not m.has_count && needs_count_body (body_of f))
lacks_typed m f b holds is typed on =
    asked m.has_count (length m.segs == 0) (needs_count_body (body_of f)) b is (λ none. typed_needs_none (context m) (eqb-true (length m.segs) 0 none) f (sym typed ∙ on))
