-- A valid module stays valid when it is cut.
use Rattle.std.proofs.Common.{ℕ, Bool, true, false, cond, not, ◌||◌, ◌&&◌, List, [], ◌∷◌, ◌++◌, map, reverse, length, Option, Some, None, is_some, ◌≡◌, refl, ap, ◌∙◌, sym, subst, true≢false, ◌<◌, slice_get, replicate, nat_lt}
use Rattle.std.specs.Option.{option_map}
use Rattle.std.specs.List.{list_all, list_any}
use Rattle.std.proofs.lemmas.List.{length-map}
use Rattle.std.proofs.lemmas.Option.{same_Some, none-some, slice_get-map}
use Rattle.gu_types.specs.declared.types.RefType.{RefType}
use Rattle.gu_types.specs.declared.types.ValType.{ValType}
use Rattle.gu_types.specs.declared.types.ValType.TheVariants as V
use Rattle.gu_types.specs.declared.types.ValType.TheVariants.{I32}
use Rattle.gu_syntax.specs.declared.instr.Body.{Body}
use Rattle.gu_syntax.specs.declared.instr.Instr.{Instr}
use Rattle.gu_syntax.specs.declared.instr.Instr.TheVariants as I
use Rattle.gu_syntax.specs.declared.module.ElemMode.{ElemMode}
use Rattle.gu_syntax.specs.declared.module.ElemMode.TheVariants as E
use Rattle.gu_syntax.specs.declared.module.Func.{Func}
use Rattle.gu_syntax.specs.declared.module.Items.{Items}
use Rattle.gu_syntax.specs.declared.module.Items.TheVariants as T
use Rattle.gu_syntax.specs.declared.module.Kind.{Kind}
use Rattle.gu_syntax.specs.declared.module.Kind.TheVariants as K
use Rattle.gu_syntax.specs.declared.module.Module.{Module}
use Rattle.gu_syntax.specs.declared.module.SegMode.{SegMode}
use Rattle.gu_syntax.specs.declared.module.SegMode.TheVariants as G
use Rattle.gu_syntax.specs.Code.{Ins, Code, leaf, block, loop, choice, try_table, done, next, code_of}
use Rattle.gu_model.specs.Index.{FuncType, func_type, func_type_in, imported, as_func}
use Rattle.gu_model.specs.Cut.{leaves, leaves_ins, cut, cut_ins, cut_func, cut_module}
use Rattle.gu_model.specs.TypingContext.{Context, Around, ◌>>=◌, given, type_of_block, is_valid_ref, matches}
use Rattle.gu_model.specs.TypingRows.{Row}
use Rattle.gu_model.specs.TypingRows as R
use Rattle.gu_model.specs.TypingShape.{Shape, Kind as Operand, pops, pops_down, pushes, stops, type_row, empties, ends_with}
use Rattle.gu_model.specs.Typing.{control_row, type_leaf, type_ins, type_code, type_catch, inside, opened, table_branch, func_at, tag_at, tail_calls, indirect, around, begins, is_typed, is_typed_body, spread, takes, valid_run}
use Rattle.gu_model.specs.ValidConstants.{is_constant_of, with_globals}
use Rattle.gu_model.specs.ValidContext.{context, elem_type, named_outside, marked, needs_count, needs_count_code, needs_count_ins, needs_count_body, body_of, constants}
use Rattle.gu_model.specs.Valid.{Valid, is_valid_init, is_constant_body, imported_globals, count_of, is_valid_items, is_valid_mode, is_valid_seg, is_valid_start, is_start_type, fits_table}
use Rattle.gu_model.proofs.Trees.{list_kept}
use Rattle.gu_model.proofs.Cuts.{defined_cut}
use Rattle.gu_model.proofs.CutShaped.{cut_shaped}

-- behind an unconditional branch

abbrev any_shape : List Bool → Shape
any_shape set = record { types = []; any = true; set = set }

-- every operand is there
pops_any : (C : Context) (ts : List ValType) (set : List Bool) → pops_down C.types ts (any_shape set) ≡ Some (any_shape set)
pops_any C [] set = refl
pops_any C (t ∷ ts) set = pops_any C ts set

ends_any : (C : Context) (ts : List ValType) (set : List Bool) (o : Option Shape) → ends_with C.types ts (Some (any_shape set)) o ≡ o
ends_any C ts set o = ap (λ p. p >>= λ e. empties C.types e o) (pops_any C (reverse ts) set)

-- a step of typing that gives a shape
bind_all : {X Y : Type 0} {P : Type 0} {t : Y} (p : Option X) (f : X → Option Y) → ((x : X) → f x ≡ Some t → P) → (p >>= f) ≡ Some t → P
bind_all {t = t} None f g h = absurd (none-some t h)
bind_all (Some x) f g h = g x h

given_all : {Y : Type 0} {P : Type 0} {t : Y} (b : Bool) (o : Option Y) → (o ≡ Some t → P) → given b o ≡ Some t → P
given_all {t = t} false o g h = absurd (none-some t h)
given_all true o g h = g h

abbrev Stops : Shape → Type 0
Stops t = t ≡ any_shape t.set

stops_are : (o : Option Shape) (t : Shape) → (o >>= stops) ≡ Some t → Stops t
stops_are o t h = bind_all o stops (λ s e. let q : t ≡ any_shape s.set = sym (same_Some _ _ e) in q ∙ ap any_shape (sym (ap (λ (x : Shape). x.set) q))) h

-- a row that leaves
AllLeave : Option Row → Type 0
AllLeave None = Unit {0}
AllLeave (Some (R.goes ts us)) = ⊥
AllLeave (Some (R.leaves ts)) = Unit {0}

leave_bind : {X : Type 0} (p : Option X) (f : X → Option Row) → ((x : X) → AllLeave (f x)) → AllLeave (p >>= f)
unfolding AllLeave
leave_bind None f g = tt
leave_bind (Some x) f g = g x

leave_given : (b : Bool) (o : Option Row) → AllLeave o → AllLeave (given b o)
unfolding AllLeave
leave_given true o g = g
leave_given false o g = tt

row_stops : (C : Context) (o : Option Row) (s t : Shape) → AllLeave o → type_row C.types o s ≡ Some t → Stops t
unfolding AllLeave
row_stops C None s t l h = absurd (none-some t h)
row_stops C (Some (R.goes ts us)) s t l h = absurd l
row_stops C (Some (R.leaves ts)) s t l h = stops_are (pops C.types ts s) t h

tail_leaves : (C : Context) (a : Around) (callee : List ValType) (t : FuncType) → AllLeave (tail_calls C a callee t)
unfolding AllLeave
tail_leaves C a callee t = leave_given (matches C.types t.results a.results) (Some (R.leaves (t.params ++ callee))) (tt {0})

module _ (C : Context) where
  leaf_stops : (a : Around) (i : Instr) (s t : Shape) → leaves i ≡ true → type_leaf C a i s ≡ Some t → Stops t
  unfolding AllLeave
  leaf_stops a I.Unreachable s t h e = row_stops C (Some (R.leaves [])) s t tt e
  leaf_stops a (I.Br l) s t h e = row_stops C (control_row C a (I.Br l)) s t (leave_bind (slice_get a.labels l) _ (λ ts. tt)) e
  leaf_stops a (I.BrTable table) s t h e = bind_all (slice_get a.labels table.last) _ (λ ts. bind_all (pops C.types (I32 ∷ []) s) (table_branch C a table.labels ts) (λ u. given_all (list_all (takes C a (length ts) u) table.labels) (pops C.types ts u >>= stops) (stops_are (pops C.types ts u) t))) e
  leaf_stops a I.Return s t h e = row_stops C (Some (R.leaves a.results)) s t tt e
  leaf_stops a (I.ReturnCall f) s t h e = row_stops C (control_row C a (I.ReturnCall f)) s t (leave_bind (func_at C f) _ (tail_leaves C a [])) e
  leaf_stops a (I.ReturnCallIndirect x y) s t h e = row_stops C (control_row C a (I.ReturnCallIndirect x y)) s t (leave_bind (indirect C x y) _ (tail_leaves C a _)) e
  leaf_stops a (I.ReturnCallRef x) s t h e = row_stops C (control_row C a (I.ReturnCallRef x)) s t (leave_bind (func_type C.types x) _ (tail_leaves C a _)) e
  leaf_stops a (I.Throw x) s t h e = row_stops C (control_row C a (I.Throw x)) s t (leave_bind (tag_at C x) _ (λ ty. tt)) e
  leaf_stops a I.ThrowRef s t h e = row_stops C (control_row C a I.ThrowRef) s t tt e
  leaf_stops a i s t h e = absurd (true≢false (sym h))

  ins_stops : (a : Around) (i : Ins) (s t : Shape) → leaves_ins i ≡ true → type_ins C a i s ≡ Some t → Stops t
  ins_stops a (leaf i) s t h e = leaf_stops a i s t h e
  ins_stops a i s t h e = absurd (true≢false (sym h))

  -- what follows the end of code
  pub ends_is : (ts : List ValType) (p o : Option Shape) (x : Shape) → ends_with C.types ts p o ≡ Some x → o ≡ Some x
  ends_is ts None o x h = absurd (none-some x h)
  ends_is ts (Some s) o x h = bind_all (pops C.types ts s) _ (λ e. empty_is e.types e) h
    where
      empty_is : (ks : List Operand) (e : Shape) → elim ks as (λ _. Option Shape) [ [] ↦ o | k ∷ ks ↦ None ] ≡ Some x → o ≡ Some x
      empty_is [] e q = q
      empty_is (k ∷ ks) e q = absurd (none-some x q)

  -- with what follows exchanged
  pub ends_then : (ts : List ValType) (p o q : Option Shape) (x : Shape) → (o ≡ Some x → q ≡ Some x) → ends_with C.types ts p o ≡ Some x → ends_with C.types ts p q ≡ Some x
  ends_then ts None o q x g h = absurd (none-some x h)
  ends_then ts (Some s) o q x g h = by (pops C.types ts s) h
    where
      by_types : (ks : List Operand) → elim ks as (λ _. Option Shape) [ [] ↦ o | k ∷ ks ↦ None ] ≡ Some x → elim ks as (λ _. Option Shape) [ [] ↦ q | k ∷ ks ↦ None ] ≡ Some x
      by_types [] e = g e
      by_types (k ∷ ks) e = absurd (none-some x e)

      by : (p : Option Shape) → (p >>= λ e. empties C.types e o) ≡ Some x → (p >>= λ e. empties C.types e q) ≡ Some x
      by None e = absurd (none-some x e)
      by (Some u) e = by_types u.types e

bind_keep : {X Y : Type 0} {t : Y} (p : Option X) (f g : X → Option Y) → ((x : X) → f x ≡ Some t → g x ≡ Some t) → (p >>= f) ≡ Some t → (p >>= g) ≡ Some t
bind_keep {t = t} None f g k h = absurd (none-some t h)
bind_keep (Some x) f g k h = k x h

given_keep : {Y : Type 0} {t : Y} (b : Bool) (o p : Option Y) → (o ≡ Some t → p ≡ Some t) → given b o ≡ Some t → given b p ≡ Some t
given_keep {t = t} false o p k h = absurd (none-some t h)
given_keep true o p k h = k h

module _ (C : Context) where
  -- code behind an instruction that is typed
  next_cut : (a : Around) (ts : List ValType) (i : Ins) (c : Code) (s : Shape) (p o : Option Shape) (x : Shape) (b : Bool) → type_ins C a i s ≡ p → leaves_ins i ≡ b → ((t : Shape) → type_ins C a i s ≡ Some t → type_ins C a (cut_ins i) s ≡ Some t) → ((t : Shape) → ends_with C.types ts (type_code C a c t) o ≡ Some x → ends_with C.types ts (type_code C a (cut c) t) o ≡ Some x) → ends_with C.types ts (p >>= type_code C a c) o ≡ Some x → ends_with C.types ts (type_ins C a (cut_ins i) s >>= type_code C a (cond b done (cut c))) o ≡ Some x
  next_cut a ts i c s None o x b e l same rest h = absurd (none-some x h)
  next_cut a ts i c s (Some t) o x true e l same rest h = ap (λ q. ends_with C.types ts (q >>= type_code C a done) o) (same t e) ∙ ap (λ q. ends_with C.types ts (Some q) o) (ins_stops C a i s t l e) ∙ ends_any C ts t.set o ∙ ends_is C ts (type_code C a c t) o x h
  next_cut a ts i c s (Some t) o x false e l same rest h = ap (λ q. ends_with C.types ts (q >>= type_code C a (cut c)) o) (same t e) ∙ rest t h

  -- typed code stays typed
  mutual
    code_cut : (a : Around) (ts : List ValType) (c : Code) (s : Shape) (o : Option Shape) (x : Shape) → ends_with C.types ts (type_code C a c s) o ≡ Some x → ends_with C.types ts (type_code C a (cut c) s) o ≡ Some x
    code_cut a ts done s o x h = h
    code_cut a ts (next i c) s o x h = next_cut a ts i c s (type_ins C a i s) o x (leaves_ins i) refl refl (ins_cut a i s) (λ t. code_cut a ts c t o x) h

    ins_cut : (a : Around) (i : Ins) (s t : Shape) → type_ins C a i s ≡ Some t → type_ins C a (cut_ins i) s ≡ Some t
    ins_cut a (leaf i) s t h = h
    ins_cut a (block ty c) s t h = bind_keep (type_of_block C.types ty) _ _ (λ f. bind_keep (pops C.types f.params s) _ _ (λ u. code_cut (inside a f.results) f.results c (opened f.params u) (pushes f.results u) t)) h
    ins_cut a (loop ty c) s t h = bind_keep (type_of_block C.types ty) _ _ (λ f. bind_keep (pops C.types f.params s) _ _ (λ u. code_cut (inside a f.params) f.results c (opened f.params u) (pushes f.results u) t)) h
    ins_cut a (choice ty c d) s t h = bind_keep (type_of_block C.types ty) _ _ (λ f. bind_keep (pops C.types (f.params ++ I32 ∷ []) s) _ _ (λ u e. ends_then C f.results (type_code C (inside a f.results) (cut c) (opened f.params u)) _ _ t (code_cut (inside a f.results) f.results d (opened f.params u) (pushes f.results u) t) (code_cut (inside a f.results) f.results c (opened f.params u) _ t e))) h
    ins_cut a (try_table ty cs c) s t h = bind_keep (type_of_block C.types ty) _ _ (λ f. given_keep (list_all (type_catch C a) cs) _ _ (bind_keep (pops C.types f.params s) _ _ (λ u. code_cut (inside a f.results) f.results c (opened f.params u) (pushes f.results u) t))) h

is_there : {X : Type 0} (o : Option X) → is_some o ≡ true → (x : X) × (o ≡ Some x)
is_there None h = absurd (true≢false (sym h))
is_there (Some x) h = (x, refl)

and_keep : (a b c : Bool) → (b ≡ true → c ≡ true) → (a && b) ≡ true → (a && c) ≡ true
and_keep true b c k h = k h
and_keep false b c k h = h

typed_cut : (C : Context) (a : Around) (c : Code) (s : Shape) (ts : List ValType) → is_typed C a c s ts ≡ true → is_typed C a (cut c) s ts ≡ true
typed_cut C a c s ts h = let x = is_there (ends_with C.types ts (type_code C a c s) (Some s)) h in ap is_some (code_cut C a ts c s (Some s) x.0 x.1)

body_cut : (C : Context) (t : FuncType) (runs : List (ℕ × ValType)) (c : Code) → is_typed_body C t runs c ≡ true → is_typed_body C t runs (cut c) ≡ true
body_cut C t runs c h = and_keep (list_all (valid_run C) runs) _ _ (typed_cut C (around t (spread runs)) c (begins t (spread runs)) t.results) h

context_cut : (m : Module) → context (cut_module m) ≡ context m
context_cut m = ap (λ fs. record (context m) { funcs = imported as_func m.imports ++ fs; declared = marked (named_outside m) (replicate (length (imported as_func m.imports ++ fs)) false) }) (defined_cut m.funcs)

-- the parts of a module

func_found : (m : Module) (i : ℕ) (f : Func) → slice_get m.funcs i ≡ Some f → slice_get (map cut_func m.funcs) i ≡ Some (cut_func f)
func_found m i f h = slice_get-map cut_func m.funcs i ∙ ap (option_map cut_func) h

init_cut : (m : Module) (elem : RefType) (init : Option Body) → is_valid_init (cut_module m) elem init ≡ is_valid_init m elem init
init_cut m elem None = refl
init_cut m elem (Some b) = ap (λ C. is_constant_of (with_globals (imported_globals m) C) (V.Ref elem) (code_of b.code)) (context_cut m)

constant_cut : (m : Module) (n : ℕ) (t : ValType) (b : Body) → is_constant_body (cut_module m) n t b ≡ is_constant_body m n t b
constant_cut m n t b = ap (λ C. is_constant_of (with_globals n C) t (code_of b.code)) (context_cut m)

count_cut : (m : Module) (kind : Kind) → count_of (cut_module m) kind ≡ count_of m kind
count_cut m K.Func = ap (λ C. length C.funcs) (context_cut m)
count_cut m K.Table = refl
count_cut m K.Memory = refl
count_cut m K.Global = refl
count_cut m K.Tag = refl

start_cut : (m : Module) (f : Option ℕ) → is_valid_start (cut_module m) f ≡ is_valid_start m f
start_cut m None = refl
start_cut m (Some f) = ap (λ C. is_start_type (func_type_in m.types (slice_get C.funcs f))) (context_cut m)

items_cut : (m : Module) (is : Items) → is_valid_items (cut_module m) is ≡ is_valid_items m is
items_cut m (T.Funcs fs) = ap (λ C. list_all (λ f. nat_lt f (length C.funcs)) fs) (context_cut m)
items_cut m (T.Exprs ty es) = ap (λ (f : Body → Bool). is_valid_ref m.types ty && list_all f es) (λ i b. constant_cut m (length (context m).globals) (V.Ref ty) b i)

mode_cut : (m : Module) (from : RefType) (mode : ElemMode) → is_valid_mode (cut_module m) from mode ≡ is_valid_mode m from mode
mode_cut m from (E.Active table offset) = ap (λ b. fits_table m from (slice_get (context m).tables table) && b) (constant_cut m (length (context m).globals) I32 offset)
mode_cut m from E.Passive = refl
mode_cut m from E.Declared = refl

seg_cut : (m : Module) (mode : SegMode) → is_valid_seg (cut_module m) mode ≡ is_valid_seg m mode
seg_cut m (G.Active memory offset) = ap (λ b. nat_lt memory (context m).memories && b) (constant_cut m (length (context m).globals) I32 offset)
seg_cut m G.Passive = refl

-- the number of data segments is needed by no more

or_less : (a b c d : Bool) → (c ≡ true → a ≡ true) → (d ≡ true → b ≡ true) → (c || d) ≡ true → (a || b) ≡ true
or_less true b c d k l h = refl
or_less false b true d k l h = absurd (true≢false (sym (k refl)))
or_less false b false d k l h = l h

rest_needs : (b : Bool) (c : Code) → needs_count_code (cond b done c) ≡ true → needs_count_code c ≡ true
rest_needs true c h = absurd (true≢false (sym h))
rest_needs false c h = h

mutual
  code_needs : (c : Code) → needs_count_code (cut c) ≡ true → needs_count_code c ≡ true
  code_needs done h = h
  code_needs (next i c) h = or_less (needs_count_ins i) (needs_count_code c) (needs_count_ins (cut_ins i)) (needs_count_code (cond (leaves_ins i) done (cut c))) (ins_needs i) (λ e. code_needs c (rest_needs (leaves_ins i) (cut c) e)) h

  ins_needs : (i : Ins) → needs_count_ins (cut_ins i) ≡ true → needs_count_ins i ≡ true
  ins_needs (leaf i) h = h
  ins_needs (block ty c) h = code_needs c h
  ins_needs (loop ty c) h = code_needs c h
  ins_needs (choice ty c d) h = or_less (needs_count_code c) (needs_count_code d) (needs_count_code (cut c)) (needs_count_code (cut d)) (code_needs c) (code_needs d) h
  ins_needs (try_table ty cs c) h = code_needs c h

funcs_need : (fs : List Func) → list_any needs_count_body (map body_of (map cut_func fs)) ≡ true → list_any needs_count_body (map body_of fs) ≡ true
funcs_need [] h = h
funcs_need (f ∷ fs) h = or_less (needs_count_body f.body) _ (needs_count_body (cut_func f).body) _ (λ e. code_needs (code_of f.body.code) (sym (ap needs_count_code (list_kept f.body.code)) ∙ e)) (funcs_need fs) h

count_keeps : (a b c : Bool) → (b ≡ true → a ≡ true) → (not a || c) ≡ true → (not b || c) ≡ true
count_keeps a false c k h = refl
count_keeps true true c k h = h
count_keeps false true c k h = absurd (true≢false (sym (k refl)))

needs_less : (m : Module) → needs_count (cut_module m) ≡ true → needs_count m ≡ true
needs_less m h = or_less (list_any needs_count_body (map body_of m.funcs)) (list_any needs_count_body (constants m)) (list_any needs_count_body (map body_of (map cut_func m.funcs))) (list_any needs_count_body (constants m)) (funcs_need m.funcs) (λ e. e) h

pub cut_is_valid : (m : Module) → Valid m → Valid (cut_module m)
cut_is_valid m v = record {
  shaped = cut_shaped m v.shaped;
  types = v.types;
  imports = λ i lt. let h = v.imports i lt in record { «import» = h.«import»; found = h.found; valid = h.valid };
  funcs = λ i lt. let h = v.funcs i (as_before i lt) in record { func = cut_func h.func; found = func_found m i h.func h.found; valid = h.valid };
  tables = λ i lt. let h = v.tables i lt in record { table = h.table; found = h.found; elem = h.elem; limits = h.limits; init = init_cut m h.table.elem h.table.init ∙ h.init };
  memories = λ i lt. let h = v.memories i lt in record { memory = h.memory; found = h.found; valid = h.valid };
  tags = λ i lt. let h = v.tags i lt in record { tag = h.tag; found = h.found; valid = h.valid };
  globals = λ i lt. let h = v.globals i lt in record { global = h.global; found = h.found; type = h.type; init = constant_cut m _ h.global.ty h.global.init ∙ h.init };
  exports = λ i lt. let h = v.exports i lt in record { export = h.export; found = h.found; there = subst (λ n. h.export.index < n) (sym (count_cut m h.export.kind)) h.there; new = h.new };
  start = start_cut m m.start ∙ v.start;
  elements = λ i lt. let h = v.elements i lt in record { elem = h.elem; found = h.found; items = items_cut m h.elem.items ∙ h.items; mode = mode_cut m (elem_type h.elem) h.elem.mode ∙ h.mode };
  count = count_keeps (needs_count m) (needs_count (cut_module m)) m.has_count (needs_less m) v.count;
  code = λ i lt. let h = v.code i (as_before i lt) in record { func = cut_func h.func; found = func_found m i h.func h.found; type = h.type; has = h.has; typed = ap (λ C. is_typed_body C h.type h.func.locals (code_of (cut_func h.func).body.code)) (context_cut m) ∙ ap (is_typed_body (context m) h.type h.func.locals) (list_kept h.func.body.code) ∙ body_cut (context m) h.type h.func.locals (code_of h.func.body.code) h.typed };
  segs = λ i lt. let h = v.segs i lt in record { seg = h.seg; found = h.found; mode = seg_cut m h.seg.mode ∙ h.mode };
}
  where
    as_before : (i : ℕ) → i < length (map cut_func m.funcs) → i < length m.funcs
    as_before i lt = subst (λ n. i < n) (length-map m.funcs cut_func) lt
