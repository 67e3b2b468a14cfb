-- What a valid module says of its parts, in the form that the never-wrong law asks; and the law.
use Rattle.std.proofs.Common.{ℕ, zero, suc, ◌+◌, ◌-◌, ◌<◌, Bool, true, cond, List, [], ◌∷◌, ◌++◌, map, length, take, Option, Some, None, slice_get, nat_lt, ◌≡◌, refl, ap, ◌∙◌, sym, subst, true≢false, arith, append_assoc, option_map}
use Rattle.std.specs.List.{list_all}
use Rattle.std.proofs.lemmas.List.{length-map, length-append}
use Rattle.std.proofs.lemmas.Option.{same_Some, none-some, slice_get-map, slice_get_within}
use Rattle.gu_types.specs.declared.types.RefType.{RefType}
use Rattle.gu_types.specs.declared.types.ValType.{ValType}
use Rattle.gu_types.specs.declared.types.ValType.TheVariants.{I32, Ref}
use Rattle.gu_syntax.specs.declared.instr.Body.{Body}
use Rattle.gu_syntax.specs.declared.module.Desc.{Desc}
use Rattle.gu_syntax.specs.declared.module.Desc.TheVariants as D
use Rattle.gu_syntax.specs.declared.module.Elem.{Elem}
use Rattle.gu_syntax.specs.declared.module.ElemMode.{ElemMode}
use Rattle.gu_syntax.specs.declared.module.ElemMode.TheVariants as E
use Rattle.gu_syntax.specs.declared.module.Func.{Func}
use Rattle.gu_syntax.specs.declared.module.Global.{Global}
use Rattle.gu_syntax.specs.declared.module.Import.{Import}
use Rattle.gu_syntax.specs.declared.module.Items.{Items}
use Rattle.gu_syntax.specs.declared.module.Items.TheVariants as T
use Rattle.gu_syntax.specs.declared.module.Module.{Module}
use Rattle.gu_syntax.specs.declared.module.Seg.{Seg}
use Rattle.gu_syntax.specs.declared.module.SegMode.{SegMode}
use Rattle.gu_syntax.specs.declared.module.SegMode.TheVariants as G
use Rattle.gu_syntax.specs.declared.module.Table.{Table}
use Rattle.gu_syntax.specs.Code.{code_of}
use Rattle.gu_model.specs.Index.{FuncType, func_type, imported, as_func, as_global, defined_func, defined_global, numbers, is_func}
use Rattle.gu_model.specs.Outline.{outline, type_of_func}
use Rattle.gu_model.specs.Script.{Script}
use Rattle.gu_model.specs.State.{out, spent, wrong}
use Rattle.gu_model.specs.Play.{bottom, played}
use Rattle.gu_model.specs.TypingContext.{Context}
use Rattle.gu_model.specs.Valid.{EachBelow, is_func_type, is_valid_init, is_valid_items, is_valid_mode, is_valid_seg, fits_table, is_constant_body, Valid}
use Rattle.gu_model.specs.ValidConstants.{is_constant_of}
use Rattle.gu_model.specs.ValidContext.{context, declared, elem_type, entries_type}
use Rattle.gu_model.proofs.GoodTypes.{GoodTypes}
use Rattle.gu_model.proofs.Has.{and_first, and_second}
use Rattle.gu_model.proofs.ActRows.{within_module}
use Rattle.gu_model.proofs.References.{GoodFuncs}
use Rattle.gu_model.proofs.Enters.{OwnBody}
use Rattle.gu_model.proofs.Initial.{FuncsUnder, TablesGood, GlobalsGood, ElemsGood, InitGood, ItemsGood}
use Rattle.gu_model.proofs.Copies.{ModesGood, SegsGood, ModeGood, SegGood}
use Rattle.gu_model.proofs.Sound.{same_back, func_under, good_types}
use Rattle.gu_model.proofs.Twins.{same_comps}
use Rattle.gu_model.proofs.Instances.{GoodParts, played_right}

take_front : {X : Type 0} (xs ys : List X) (n : ℕ) → n ≡ length xs → take n (xs ++ ys) ≡ xs
take_front [] ys zero e = refl
take_front [] ys (suc n) e = absurd (let z : ⊥ = omega (arith, e) in z)
take_front (x ∷ xs) ys zero e = absurd (let z : ⊥ = omega (arith, e) in z)
take_front (x ∷ xs) ys (suc n) e = ap (λ l. x ∷ l) (take_front xs ys n (omega (arith, e)))

take_whole : {X : Type 0} (xs : List X) → take (length xs) xs ≡ xs
take_whole [] = refl
take_whole (x ∷ xs) = ap (λ l. x ∷ l) (take_whole xs)

abbrev AllIn : {X : Type 0} → (X → Type 0) → List X → Type 0
AllIn P xs = (i : ℕ) (x : _) → slice_get xs i ≡ Some x → P x

append_in : {X : Type 0} (P : X → Type 0) (xs ys : List X) → AllIn P xs → AllIn P ys → AllIn P (xs ++ ys)
append_in P [] ys a b i x e = b i x e
append_in P (y ∷ xs) ys a b zero x e = a zero x e
append_in P (y ∷ xs) ys a b (suc i) x e = append_in P xs ys (λ i. a (suc i)) b i x e

one_in : (P : ℕ → Type 0) (y : ℕ) → P y → AllIn P (y ∷ [])
one_in P y h zero x e = subst P (same_Some _ _ e) h
one_in P y h (suc i) x e = absurd (none-some x e)

desc_in : (P : ℕ → Type 0) (d : Desc) → ((x : ℕ) → d ≡ D.Func x → P x) → AllIn P (as_func d)
desc_in P (D.Func x) h i y e = one_in P x (h x refl) i y e
desc_in P (D.Table r l) h i y e = absurd (none-some y e)
desc_in P (D.Memory l) h i y e = absurd (none-some y e)
desc_in P (D.Global t b) h i y e = absurd (none-some y e)
desc_in P (D.Tag x) h i y e = absurd (none-some y e)

imports_in : (P : ℕ → Type 0) (is : List Import) → ((i : ℕ) (im : Import) → slice_get is i ≡ Some im → (x : ℕ) → im.desc ≡ D.Func x → P x) → AllIn P (imported as_func is)
imports_in P [] h i x e = absurd (none-some x e)
imports_in P (im ∷ is) h i x e = append_in P (as_func im.desc) (imported as_func is) (desc_in P im.desc (h zero im refl)) (imports_in P is (λ i. h (suc i))) i x e

funcs_in : (P : ℕ → Type 0) (fs : List Func) → ((i : ℕ) (f : Func) → slice_get fs i ≡ Some f → P f.ty) → AllIn P (map defined_func fs)
funcs_in P [] h i x e = absurd (none-some x e)
funcs_in P (f ∷ fs) h zero x e = subst P (same_Some _ _ e) (h zero f refl)
funcs_in P (f ∷ fs) h (suc i) x e = funcs_in P fs (λ i. h (suc i)) i x e

numbers_count : (n : ℕ) (is : List Import) → length (numbers is_func n is) ≡ length (imported as_func is)
numbers_count n [] = refl
numbers_count n (im ∷ is) = by im.desc (numbers_count n is) (numbers_count (suc n) is)
  where
    by : (d : Desc) → length (numbers is_func n is) ≡ length (imported as_func is) → length (numbers is_func (suc n) is) ≡ length (imported as_func is) → length (cond (is_func d) (n ∷ numbers is_func (suc n) is) (numbers is_func (suc n) is)) ≡ length (as_func d ++ imported as_func is)
    by (D.Func x) h k = ap suc k
    by (D.Table r l) h k = k
    by (D.Memory l) h k = k
    by (D.Global t b) h k = k
    by (D.Tag x) h k = k

get_past : {X Y : Type 0} (ns : List Y) (xs ys : List X) (f : ℕ) → length ns ≡ length xs → slice_get ns f ≡ None → slice_get (xs ++ ys) f ≡ slice_get ys (f - length ns)
get_past [] [] ys f l e = ap (slice_get ys) (let z : f ≡ f - 0 = omega arith in z)
get_past [] (x ∷ xs) ys f l e = absurd (let z : ⊥ = omega (arith, l) in z)
get_past (n ∷ ns) [] ys f l e = absurd (let z : ⊥ = omega (arith, l) in z)
get_past (n ∷ ns) (x ∷ xs) ys zero l e = absurd (none-some n (sym e))
get_past (n ∷ ns) (x ∷ xs) ys (suc f) l e = get_past ns xs ys f (omega (arith, l)) e ∙ ap (slice_get ys) (let z : f - length ns ≡ suc f - suc (length ns) = omega arith in z)

func_there : (p : Option FuncType) → is_func_type p ≡ true → (t : FuncType) × (p ≡ Some t)
func_there None h = absurd (true≢false (sym h))
func_there (Some t) h = (t, refl)

module _ (m : Module) (valid : Valid m) where
  good : GoodTypes m.types
  good = good_types m.types valid.types (same_comps m.types valid.types.indices)

  funcs_typed : GoodFuncs (outline m)
  funcs_typed = record {
    typed = λ f t e. append_in (λ t. (ft : FuncType) × (func_type m.types t ≡ Some ft)) (imported as_func m.imports) (map defined_func m.funcs)
        (imports_in (λ t. (ft : FuncType) × (func_type m.types t ≡ Some ft)) m.imports (λ i im e x d. let h = valid.imports i (slice_get_within m.imports i im e) in func_there (func_type m.types x) (ap (Rattle.gu_model.specs.Valid.is_valid_desc m) (sym d ∙ ap (λ (y : Import). y.desc) (same_Some im h.«import» (sym e ∙ h.found))) ∙ h.valid)))
        (funcs_in (λ t. (ft : FuncType) × (func_type m.types t ≡ Some ft)) m.funcs (λ i f e. let h = valid.funcs i (slice_get_within m.funcs i f e) in func_there (func_type m.types f.ty) (ap (λ (g : Func). is_func_type (func_type m.types g.ty)) (same_Some f h.func (sym e ∙ h.found)) ∙ h.valid)))
        f t e;
  }

  under : FuncsUnder (outline m)
  under f t e = let h = funcs_typed.typed f t e in func_under m.types valid.types t h.0 h.1

  body_is : (f : ℕ) (t : FuncType) → slice_get (numbers is_func 0 m.imports) f ≡ None → type_of_func (outline m) f ≡ Some t → OwnBody (outline m) good funcs_typed (map elem_type m.elems) (length m.segs) (declared m) m f t
  body_is f t e h = by (slice_get m.funcs (f - length (numbers is_func 0 m.imports))) refl (ap (Rattle.gu_model.specs.Index.func_type_in m.types) (sym (get_past (numbers is_func 0 m.imports) (imported as_func m.imports) (map defined_func m.funcs) f (numbers_count 0 m.imports) e ∙ slice_get-map defined_func m.funcs (f - length (numbers is_func 0 m.imports)))) ∙ h)
    where
      by : (p : Option Func) → slice_get m.funcs (f - length (numbers is_func 0 m.imports)) ≡ p → Rattle.gu_model.specs.Index.func_type_in m.types (option_map defined_func p) ≡ Some t → OwnBody (outline m) good funcs_typed (map elem_type m.elems) (length m.segs) (declared m) m f t
      by None q z = absurd (none-some t z)
      by (Some g) q z =
          let c = valid.code (f - length (numbers is_func 0 m.imports)) (slice_get_within m.funcs (f - length (numbers is_func 0 m.imports)) g q) in
          let s = same_Some g c.func (sym q ∙ c.found) in
          let w = same_Some c.type t (sym c.has ∙ ap (λ (g : Func). func_type m.types g.ty) (sym s) ∙ z) in
          record { func = c.func; found = c.found; typed = subst (λ t. Rattle.gu_model.specs.Typing.is_typed_body (context m) t c.func.locals (code_of c.func.body.code) ≡ true) w c.typed }

  abbrev TS : List RefType
  TS = map entries_type (outline m).tables

  abbrev ES : List RefType
  ES = map elem_type m.elems

  abbrev In : List (ValType × Bool) → Context
  In gs = within_module (outline m) gs TS ES (length m.segs) (declared m)

  tables_of : (ts : List Table) → AllIn (λ (t : Table). is_valid_init m t.elem t.init ≡ true) ts → TablesGood (outline m) good funcs_typed (length m.segs) (declared m) TS ES (λ f s. out spent s) bottom (imported as_global m.imports) ts
  tables_of [] h = tt
  tables_of (t ∷ ts) h = (by t.init (h zero t refl), tables_of ts (λ i. h (suc i)))
    where
      by : (p : Option Body) → is_valid_init m t.elem p ≡ true → InitGood (outline m) good funcs_typed (length m.segs) (declared m) TS ES (λ f s. out spent s) bottom (imported as_global m.imports) t.elem p
      by None z = z
      by (Some b) z = subst (λ l. is_constant_of (In l) (Ref t.elem) (code_of b.code) ≡ true) (take_front (imported as_global m.imports) (map defined_global m.globals) (length (imported as_global m.imports)) refl) z

  globals_of : (gs : List (ValType × Bool)) (gl : List Global) → ((i : ℕ) (g : Global) → slice_get gl i ≡ Some g → is_constant_of (In (take (length gs + i) (gs ++ map defined_global gl))) g.ty (code_of g.init.code) ≡ true) → GlobalsGood (outline m) good funcs_typed (length m.segs) (declared m) TS ES (λ f s. out spent s) bottom gs gl
  globals_of gs [] h = tt
  globals_of gs (g ∷ gl) h = (subst (λ l. is_constant_of (In l) g.ty (code_of g.init.code) ≡ true) (take_front gs (map defined_global (g ∷ gl)) (length gs + 0) (omega arith)) (h zero g refl), globals_of (gs ++ (g.ty, g.mutable) ∷ []) gl (λ i x e. subst (λ l. is_constant_of (In l) x.ty (code_of x.init.code) ≡ true) (ap (take (length gs + suc i)) (sym (append_assoc gs ((g.ty, g.mutable) ∷ []) (map defined_global gl))) ∙ ap (λ n. take n ((gs ++ (g.ty, g.mutable) ∷ []) ++ map defined_global gl)) (let l = length-append gs ((g.ty, g.mutable) ∷ []) in let z : length gs + suc i ≡ length (gs ++ (g.ty, g.mutable) ∷ []) + i = omega (arith, l) in z)) (h (suc i) x e)))

  whole : (t : ValType) (b : Body) → is_constant_body m (length (outline m).globals) t b ≡ is_constant_of (context m) t (code_of b.code)
  whole t b = ap (λ l. is_constant_of (In l) t (code_of b.code)) (take_whole (outline m).globals)

  all_whole : (t : ValType) (bs : List Body) → list_all (is_constant_body m (length (outline m).globals) t) bs ≡ true → list_all (λ b. is_constant_of (context m) t (code_of b.code)) bs ≡ true
  all_whole t bs h = subst (λ l. list_all (λ (b : Body). is_constant_of (In l) t (code_of b.code)) bs ≡ true) (take_whole (outline m).globals) h

  elems_of : (el : List Elem) → AllIn (λ (e : Elem). is_valid_items m e.items ≡ true) el → ElemsGood (outline m) good funcs_typed (length m.segs) (declared m) TS ES (λ f s. out spent s) bottom (outline m).globals el
  elems_of [] h = tt
  elems_of (e ∷ el) h = (by e.items (h zero e refl), elems_of el (λ i. h (suc i)))
    where
      by : (i : Items) → is_valid_items m i ≡ true → ItemsGood (outline m) good funcs_typed (length m.segs) (declared m) TS ES (λ f s. out spent s) bottom (outline m).globals i
      by (T.Funcs fs) z = z
      by (T.Exprs ty bs) z = all_whole (Ref ty) bs (and_second (Rattle.gu_model.specs.TypingContext.is_valid_ref m.types ty) _ z)

  mode_of : (i : ℕ) (from : RefType) (mode : ElemMode) → is_valid_mode m from mode ≡ true → ModeGood (outline m) good funcs_typed (outline m).globals TS ES (length m.segs) (declared m) i from mode
  mode_of i from (E.Active x offset) h = by (slice_get TS x) refl (and_first (fits_table m from (slice_get TS x)) _ h) (sym (whole I32 offset) ∙ and_second (fits_table m from (slice_get TS x)) _ h)
    where
      by : (p : Option RefType) → slice_get TS x ≡ p → fits_table m from p ≡ true → is_constant_of (context m) I32 (code_of offset.code) ≡ true → ModeGood (outline m) good funcs_typed (outline m).globals TS ES (length m.segs) (declared m) i from (E.Active x offset)
      by None q z w = absurd (true≢false (sym z))
      by (Some to) q z w = (to, q, z, w)
  mode_of i from E.Passive h = tt
  mode_of i from E.Declared h = tt

  less : {X : Type 0} (xs : List X) (n i : ℕ) (x : X) → n ≡ length xs → slice_get xs i ≡ Some x → nat_lt i n ≡ true
  less xs n i x l e = let w = slice_get_within xs i x e in let z : i < n = omega (arith, w, l) in grind (arith, z)

  modes_of : (i : ℕ) (el : List Elem) → ((k : ℕ) (e : Elem) → slice_get el k ≡ Some e → (slice_get m.elems (i + k) ≡ Some e) × (is_valid_mode m (elem_type e) e.mode ≡ true)) → ModesGood (outline m) good funcs_typed (outline m).globals TS ES (length m.segs) (declared m) i el
  modes_of i [] h = tt
  modes_of i (e ∷ el) h =
      let a = h zero e refl in
      let f : slice_get m.elems i ≡ Some e = ap (slice_get m.elems) (let z : i ≡ i + 0 = omega arith in z) ∙ a.0 in
      (slice_get-map elem_type m.elems i ∙ ap (option_map elem_type) f, less m.elems (length ES) i e (length-map m.elems elem_type) f, mode_of i (elem_type e) e.mode a.1, modes_of (suc i) el (λ k x g. let b = h (suc k) x g in (ap (slice_get m.elems) (let z : suc i + k ≡ i + suc k = omega arith in z) ∙ b.0, b.1)))

  segs_of : (i : ℕ) (ds : List Seg) → ((k : ℕ) (d : Seg) → slice_get ds k ≡ Some d → (slice_get m.segs (i + k) ≡ Some d) × (is_valid_seg m d.mode ≡ true)) → SegsGood (outline m) good funcs_typed (outline m).globals TS ES (length m.segs) (declared m) i ds
  segs_of i [] h = tt
  segs_of i (d ∷ ds) h =
      let a = h zero d refl in
      let f : slice_get m.segs i ≡ Some d = ap (slice_get m.segs) (let z : i ≡ i + 0 = omega arith in z) ∙ a.0 in
      (less m.segs (length m.segs) i d refl f, by d.mode a.1, segs_of (suc i) ds (λ k x g. let b = h (suc k) x g in (ap (slice_get m.segs) (let z : suc i + k ≡ i + suc k = omega arith in z) ∙ b.0, b.1)))
    where
      by : (mode : SegMode) → is_valid_seg m mode ≡ true → SegGood (outline m) good funcs_typed (outline m).globals TS ES (length m.segs) (declared m) mode
      by (G.Active x offset) z = (and_first (nat_lt x (length (outline m).memories)) _ z, sym (whole I32 offset) ∙ and_second (nat_lt x (length (outline m).memories)) _ z)
      by G.Passive z = tt

  parts : GoodParts m (same_back m.types) good funcs_typed under
  parts = record {
    tables = tables_of m.tables (λ i t e. let h = valid.tables i (slice_get_within m.tables i t e) in subst (λ (t : Table). is_valid_init m t.elem t.init ≡ true) (same_Some h.table t (sym h.found ∙ e)) h.init);
    globals = globals_of (imported as_global m.imports) m.globals (λ i g e. let h = valid.globals i (slice_get_within m.globals i g e) in subst (λ (g : Global). is_constant_of (In (take (length (imported as_global m.imports) + i) (outline m).globals)) g.ty (code_of g.init.code) ≡ true) (same_Some h.global g (sym h.found ∙ e)) h.init);
    elems = elems_of m.elems (λ i x e. let h = valid.elements i (slice_get_within m.elems i x e) in subst (λ (x : Elem). is_valid_items m x.items ≡ true) (same_Some h.elem x (sym h.found ∙ e)) h.items);
    modes = modes_of 0 m.elems (λ i x e. let h = valid.elements i (slice_get_within m.elems i x e) in (ap (slice_get m.elems) (let z : 0 + i ≡ i = omega arith in z) ∙ e, subst (λ (x : Elem). is_valid_mode m (elem_type x) x.mode ≡ true) (same_Some h.elem x (sym h.found ∙ e)) h.mode));
    segs = segs_of 0 m.segs (λ i x e. let h = valid.segs i (slice_get_within m.segs i x e) in (ap (slice_get m.segs) (let z : 0 + i ≡ i = omega arith in z) ∙ e, subst (λ (x : Seg). is_valid_seg m x.mode ≡ true) (same_Some h.seg x (sym h.found ∙ e)) h.mode));
    start = valid.start;
    bodies = record { bodies = body_is };
  }

  -- no run of a valid module is wrong
  pub never_wrong : (script : Script) (steps : ℕ) → (played m script steps).how ≡ wrong → ⊥
  never_wrong script steps = played_right m (same_back m.types) good funcs_typed under parts script steps
