-- The module's own tables, globals and element segments get values of their types.
use Rattle.std.proofs.Common.{ℕ, Bool, true, false, List, [], ◌∷◌, ◌++◌, map, length, replicate, Option, Some, None, option_map, slice_get, nat_lt, ◌≡◌, refl, ap, ◌∙◌, sym, subst, append-nil, append_assoc}
use Rattle.std.specs.List.{list_all}
use Rattle.gu_types.specs.declared.types.Abs.TheVariants as A
use Rattle.gu_types.specs.declared.types.HeapType.TheVariants as H
use Rattle.gu_types.specs.declared.types.RefType.{RefType}
use Rattle.gu_types.specs.declared.types.ValType.{ValType}
use Rattle.gu_types.specs.declared.types.ValType.TheVariants.{Ref}
use Rattle.gu_rec.specs.Sub.{is_sub}
use Rattle.gu_syntax.specs.declared.instr.Body.{Body}
use Rattle.gu_syntax.specs.declared.module.Elem.{Elem}
use Rattle.gu_syntax.specs.declared.module.Global.{Global}
use Rattle.gu_syntax.specs.declared.module.Items.{Items}
use Rattle.gu_syntax.specs.declared.module.Items.TheVariants as T
use Rattle.gu_syntax.specs.declared.module.Table.{Table}
use Rattle.gu_syntax.specs.Code.{code_of}
use Rattle.gu_model.specs.Index.{defined_global}
use Rattle.gu_model.specs.Outline.{Outline}
use Rattle.gu_model.specs.Value.{Value, null, function, Store, Allocated, allocated, is_under}
use Rattle.gu_model.specs.State.{State, Out, out, normal}
use Rattle.gu_model.specs.Control.{Level}
use Rattle.gu_model.specs.Play.{add_table, add_global, init_table, init_tables, init_globals, init_items, init_elem, init_elems}
use Rattle.gu_model.specs.Taken.{as_constant, as_variable}
use Rattle.gu_model.specs.TypingContext.{Context}
use Rattle.gu_model.specs.ValidConstants.{is_constant_of}
use Rattle.gu_model.specs.ValidContext.{elem_type, items_type}
use Rattle.gu_model.proofs.GoodTypes.{GoodTypes}
use Rattle.gu_model.proofs.Has.{Has, and_first, and_second}
use Rattle.gu_model.proofs.Stores.{StoreFits, EachHas, GlobalsFit, RefsFit, there, each_more, each_append, each_replicate}
use Rattle.gu_model.proofs.ActRows.{within_module}
use Rattle.gu_model.proofs.References.{GoodFuncs}
use Rattle.gu_model.proofs.Constants.{Step, step_after, evaluate_good}

-- the functions of a module are below the type of all functions
abbrev pub FuncsUnder : Outline → Type 0
FuncsUnder o = (f t : ℕ) → slice_get o.funcs f ≡ Some t → is_sub o.types (H.Idx t) (H.Abs A.AnyFunc) ≡ true

abbrev pub elem_of : Table → RefType
elem_of t = t.elem

module _ (o : Outline) (good : GoodTypes o.types) (funcs : GoodFuncs o) (segs : ℕ) (declared : List Bool) where
  abbrev In : List (ValType × Bool) → List RefType → List RefType → Context
  In gs ts es = within_module o gs ts es segs declared

  -- one more behind those that are there

  refs_append : (al : Allocated) (vss : List (List Value)) (rs : List RefType) (vs : List Value) (r : RefType) → RefsFit o al vss rs → EachHas o al (Ref r) vs → RefsFit o al (vss ++ vs ∷ []) (rs ++ r ∷ [])
  refs_append al [] [] vs r f h = (h, tt)
  refs_append al [] (q ∷ rs) vs r f h = absurd f
  refs_append al (ws ∷ vss) [] vs r f h = absurd f
  refs_append al (ws ∷ vss) (q ∷ rs) vs r f h = (f.0, refs_append al vss rs vs r f.1 h)

  globals_append : (al : Allocated) (cs vs : List (Option Value)) (gs : List (ValType × Bool)) (t : ValType) (b : Bool) (v : Value) → GlobalsFit o al cs vs gs → Has o al t v → GlobalsFit o al (cs ++ as_constant b v ∷ []) (vs ++ as_variable b v ∷ []) (gs ++ (t, b) ∷ [])
  globals_append al [] [] [] t true v f h = ((h, refl), tt)
  globals_append al [] [] [] t false v f h = ((h, refl), tt)
  globals_append al [] [] (g ∷ gs) t b v f h = absurd f
  globals_append al [] (w ∷ vs) gs t b v f h = absurd f
  globals_append al (c ∷ cs) [] gs t b v f h = absurd f
  globals_append al (c ∷ cs) (w ∷ vs) [] t b v f h = last c w f
    where
      last : (c w : Option Value) → GlobalsFit o al (c ∷ cs) (w ∷ vs) [] → GlobalsFit o al ((c ∷ cs) ++ as_constant b v ∷ []) ((w ∷ vs) ++ as_variable b v ∷ []) ([] ++ (t, b) ∷ [])
      last c w f = absurd f
  globals_append al (c ∷ cs) (w ∷ vs) (g ∷ gs) t b v f h = (f.0, globals_append al cs vs gs t b v f.1 h)

  table_added : (gs : List (ValType × Bool)) (ts es : List RefType) (st : Store) (vs : List Value) (r : RefType) → StoreFits o (In gs ts es) st → EachHas o (allocated st) (Ref r) vs → StoreFits o (In gs (ts ++ r ∷ []) es) (record st { tables = st.tables ++ vs ∷ [] })
  table_added gs ts es st vs r f h = record { globals = f.globals; tables = refs_append (allocated st) st.tables ts vs r f.tables h; elems = f.elems; memories = f.memories; datas = f.datas; tags = f.tags; alike = f.alike; structs = f.structs; arrays = f.arrays; exceptions = f.exceptions }

  global_added : (gs : List (ValType × Bool)) (ts es : List RefType) (st : Store) (t : ValType) (b : Bool) (v : Value) → StoreFits o (In gs ts es) st → Has o (allocated st) t v → StoreFits o (In (gs ++ (t, b) ∷ []) ts es) (record st { constants = st.constants ++ as_constant b v ∷ []; variables = st.variables ++ as_variable b v ∷ [] })
  global_added gs ts es st t b v f h = record { globals = globals_append (allocated st) st.constants st.variables gs t b v f.globals h; tables = f.tables; elems = f.elems; memories = f.memories; datas = f.datas; tags = f.tags; alike = f.alike; structs = f.structs; arrays = f.arrays; exceptions = f.exceptions }

  elem_added : (gs : List (ValType × Bool)) (ts es : List RefType) (st : Store) (vs : List Value) (r : RefType) → StoreFits o (In gs ts es) st → EachHas o (allocated st) (Ref r) vs → StoreFits o (In gs ts (es ++ r ∷ [])) (record st { elems = st.elems ++ vs ∷ [] })
  elem_added gs ts es st vs r f h = record { globals = f.globals; tables = f.tables; elems = refs_append (allocated st) st.elems es vs r f.elems h; memories = f.memories; datas = f.datas; tags = f.tags; alike = f.alike; structs = f.structs; arrays = f.arrays; exceptions = f.exceptions }

  module _ (all_tables all_elems : List RefType) (enters : ℕ → State → Out) (low : Level) where
    -- constant expressions are typed where all tables and segments are there
    abbrev pub ConstantIn : List (ValType × Bool) → ValType → Body → Type 0
    ConstantIn gs t b = is_constant_of (In gs all_tables all_elems) t (code_of b.code) ≡ true

    -- tables

    abbrev pub InitGood : List (ValType × Bool) → RefType → Option Body → Type 0
    InitGood gs r None = r.null ≡ true
    InitGood gs r (Some b) = ConstantIn gs (Ref r) b

    abbrev pub TablesGood : List (ValType × Bool) → List Table → Type 0
    TablesGood gs [] = Unit {0}
    TablesGood gs (t ∷ tl) = InitGood gs t.elem t.init × TablesGood gs tl

    table_good : (gs : List (ValType × Bool)) (ts : List RefType) (n : ℕ) (r : RefType) (p : Option Body) (s : State) → InitGood gs r p → StoreFits o (In gs ts []) s.core.store → Step o (In gs (ts ++ r ∷ []) []) (init_table o enters low n p s)
    table_good gs ts n r None s h f = record { is = table_added gs ts [] s.core.store (replicate n null) r f (each_replicate o (allocated s.core.store) (Ref r) n null h) }
    table_good gs ts n r (Some b) s h f = evaluate_good o good funcs gs all_tables all_elems ts [] segs declared enters low (In gs (ts ++ r ∷ []) []) (Ref r) b.code s (add_table n) h f (λ v u la hv. record { is = table_added gs ts [] u.core.store (replicate n v) r la.fits (each_replicate o (allocated u.core.store) (Ref r) n v hv) })

    pub tables_good : (gs : List (ValType × Bool)) (ts : List RefType) (tl : List Table) (s : State) → TablesGood gs tl → StoreFits o (In gs ts []) s.core.store → Step o (In gs (ts ++ map elem_of tl) []) (init_tables o enters low tl s)
    tables_good gs ts [] s h f = subst (λ l. Step o (In gs l []) (out normal s)) (sym (append-nil ts)) (record { is = f })
    tables_good gs ts (t ∷ tl) s h f = subst (λ l. Step o (In gs l []) (init_tables o enters low (t ∷ tl) s)) (append_assoc ts (t.elem ∷ []) (map elem_of tl)) (step_after o (In gs (ts ++ t.elem ∷ []) []) (In gs ((ts ++ t.elem ∷ []) ++ map elem_of tl) []) (init_table o enters low t.limits.least t.init s) (init_tables o enters low tl) (table_good gs ts t.limits.least t.elem t.init s h.0 f) (λ u g. tables_good gs (ts ++ t.elem ∷ []) tl u h.1 g))

    -- globals

    abbrev pub GlobalsGood : List (ValType × Bool) → List Global → Type 0
    GlobalsGood gs [] = Unit {0}
    GlobalsGood gs (g ∷ gl) = ConstantIn gs g.ty g.init × GlobalsGood (gs ++ (g.ty, g.mutable) ∷ []) gl

    pub globals_good : (gs : List (ValType × Bool)) (ts : List RefType) (gl : List Global) (s : State) → GlobalsGood gs gl → StoreFits o (In gs ts []) s.core.store → Step o (In (gs ++ map defined_global gl) ts []) (init_globals o enters low gl s)
    globals_good gs ts [] s h f = subst (λ l. Step o (In l ts []) (out normal s)) (sym (append-nil gs)) (record { is = f })
    globals_good gs ts (g ∷ gl) s h f = subst (λ l. Step o (In l ts []) (init_globals o enters low (g ∷ gl) s)) (append_assoc gs ((g.ty, g.mutable) ∷ []) (map defined_global gl)) (step_after o (In (gs ++ (g.ty, g.mutable) ∷ []) ts []) (In ((gs ++ (g.ty, g.mutable) ∷ []) ++ map defined_global gl) ts []) _ (init_globals o enters low gl)
        (evaluate_good o good funcs gs all_tables all_elems ts [] segs declared enters low (In (gs ++ (g.ty, g.mutable) ∷ []) ts []) g.ty g.init.code s (add_global g.mutable) h.0 f (λ v u la hv. record { is = global_added gs ts [] u.core.store g.ty g.mutable v la.fits hv }))
        (λ u k. globals_good (gs ++ (g.ty, g.mutable) ∷ []) ts gl u h.1 k))

    -- element segments

    abbrev pub ItemsGood : List (ValType × Bool) → Items → Type 0
    ItemsGood gs (T.Funcs fs) = list_all (λ f. nat_lt f (length o.funcs)) fs ≡ true
    ItemsGood gs (T.Exprs ty bs) = list_all (λ b. is_constant_of (In gs all_tables all_elems) (Ref ty) (code_of b.code)) bs ≡ true

    abbrev pub ElemsGood : List (ValType × Bool) → List Elem → Type 0
    ElemsGood gs [] = Unit {0}
    ElemsGood gs (e ∷ el) = ItemsGood gs e.items × ElemsGood gs el

    functions_have : (under : FuncsUnder o) (al : Allocated) (fs : List ℕ) → list_all (λ f. nat_lt f (length o.funcs)) fs ≡ true → EachHas o al (Ref (record { null = false; heap = H.Abs A.AnyFunc })) (map function fs)
    functions_have under al [] h = tt
    functions_have under al (f ∷ fs) h = let q = there o.funcs (length o.funcs) f refl (and_first (nat_lt f (length o.funcs)) _ h) in (ap (λ p. is_under o (H.Abs A.AnyFunc) (option_map H.Idx p)) q.1 ∙ under f q.0 q.1, functions_have under al fs (and_second (nat_lt f (length o.funcs)) _ h))

    items_good : (gs : List (ValType × Bool)) (ts es : List RefType) (ty : RefType) (bs : List Body) (vs : List Value) (s : State) → list_all (λ b. is_constant_of (In gs all_tables all_elems) (Ref ty) (code_of b.code)) bs ≡ true → StoreFits o (In gs ts es) s.core.store → EachHas o (allocated s.core.store) (Ref ty) vs → Step o (In gs ts (es ++ ty ∷ [])) (init_items o enters low bs vs s)
    items_good gs ts es ty [] vs s h f hv = record { is = elem_added gs ts es s.core.store vs ty f hv }
    items_good gs ts es ty (b ∷ bs) vs s h f hv = evaluate_good o good funcs gs all_tables all_elems ts es segs declared enters low (In gs ts (es ++ ty ∷ [])) (Ref ty) b.code s (λ v. init_items o enters low bs (vs ++ v ∷ [])) (and_first (is_constant_of (In gs all_tables all_elems) (Ref ty) (code_of b.code)) _ h) f (λ v u la hw. items_good gs ts es ty bs (vs ++ v ∷ []) u (and_second (is_constant_of (In gs all_tables all_elems) (Ref ty) (code_of b.code)) _ h) la.fits (each_append o (allocated u.core.store) (Ref ty) vs (v ∷ []) (each_more o (allocated s.core.store) (allocated u.core.store) (Ref ty) vs la.grown hv) (hw, tt)))

    elem_good : (under : FuncsUnder o) (gs : List (ValType × Bool)) (ts es : List RefType) (i : Items) (s : State) → ItemsGood gs i → StoreFits o (In gs ts es) s.core.store → Step o (In gs ts (es ++ items_type i ∷ [])) (init_elem o enters low i s)
    elem_good under gs ts es (T.Funcs fs) s h f = record { is = elem_added gs ts es s.core.store (map function fs) (record { null = false; heap = H.Abs A.AnyFunc }) f (functions_have under (allocated s.core.store) fs h) }
    elem_good under gs ts es (T.Exprs ty bs) s h f = items_good gs ts es ty bs [] s h f tt

    pub elems_good : (under : FuncsUnder o) (gs : List (ValType × Bool)) (ts es : List RefType) (el : List Elem) (s : State) → ElemsGood gs el → StoreFits o (In gs ts es) s.core.store → Step o (In gs ts (es ++ map elem_type el)) (init_elems o enters low el s)
    elems_good under gs ts es [] s h f = subst (λ l. Step o (In gs ts l) (out normal s)) (sym (append-nil es)) (record { is = f })
    elems_good under gs ts es (e ∷ el) s h f = subst (λ l. Step o (In gs ts l) (init_elems o enters low (e ∷ el) s)) (append_assoc es (elem_type e ∷ []) (map elem_type el)) (step_after o (In gs ts (es ++ elem_type e ∷ [])) (In gs ts ((es ++ elem_type e ∷ []) ++ map elem_type el)) (init_elem o enters low e.items s) (init_elems o enters low el) (elem_good under gs ts es e.items s h.0 f) (λ u g. elems_good under gs ts (es ++ elem_type e ∷ []) el u h.1 g))
