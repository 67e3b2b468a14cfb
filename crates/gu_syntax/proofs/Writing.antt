-- The encoding of a module of the whole format spells it: sections and modules.
use Rattle.std.proofs.Common.{ℕ, ◌≤◌, List, [], ◌∷◌, ◌++◌, ◌≡◌, refl, ap, sym, subst, length, arith, nat_eq, Bool, true, false, cond, inl, inr, Option, Some, None, length-append}
use Rattle.std.specs.List.{AllByRecursion}
use Rattle.std.specs.Str.{IsUtf8}
use Rattle.std.proofs.lemmas.Bool.{cases_Bool, cond-true, cond-false}
use Rattle.std.proofs.lemmas.List.{append-nil}
use Rattle.gu_bytes.specs.Numbers.{least_unsigned}
use Rattle.gu_types.specs.declared.types.Abs.{Abs}
use Rattle.gu_types.specs.declared.types.Abs.TheVariants as A
use Rattle.gu_types.specs.declared.types.HeapType.{HeapType}
use Rattle.gu_types.specs.declared.types.HeapType.TheVariants as H
use Rattle.gu_types.specs.declared.types.RefType.{RefType}
use Rattle.gu_types.specs.declared.types.ValType.{ValType}
use Rattle.gu_syntax.specs.Parts.{Parts, Begins, SpellsU32, SpellsItems, SpellsVector, SpellsName, Numbered, SpellsSome}
use Rattle.gu_syntax.specs.Module.{header, SpellsSection, SpellsList, counted, SpellsSegs, SpellsBodies, SpellsCount, SpellsElems, SpellsStarts, SpellsExports, SpellsGlobals, SpellsTags, SpellsMemories, SpellsTables, SpellsFuncs, SpellsImports, Spells}
use Rattle.gu_syntax.specs.Encoding.{encode_items, encode_vector, sized, section, encode_name, encode_type_index, encode_ref, encode_val, encode_mutable, encode_group, encode_limits, encode_body, encode_run, encode_func, encode_desc, encode_import, encode_table_as, encode_table, encode_tag, encode_global, encode_export, is_funcref, encode_elem_as, encode_elem, encode_seg_as, encode_seg, encode_start, encode_count, encoding}
use Rattle.gu_syntax.specs.Shape.{FitsU32, IfSome, IsShapedRef, IsShapedGroup, IsShapedLimits, IsShapedBody, IsShapedRun, IsShapedFunc, IsShapedDesc, IsShapedImport, IsShapedTable, IsShapedGlobal, IsShapedExport, IsShapedElemMode, IsShapedItems, IsShapedElem, IsShapedSegMode, IsShapedSeg, IsPlain}
use Rattle.gu_syntax.specs.declared.instr.Body.{Body}
use Rattle.gu_syntax.specs.declared.module.Desc.{Desc}
use Rattle.gu_syntax.specs.declared.module.Desc.TheVariants as D
use Rattle.gu_syntax.specs.declared.module.Elem.{Elem}
use Rattle.gu_syntax.specs.declared.module.ElemMode.{ElemMode}
use Rattle.gu_syntax.specs.declared.module.ElemMode.TheVariants as M
use Rattle.gu_syntax.specs.declared.module.Export.{Export}
use Rattle.gu_syntax.specs.declared.module.Func.{Func}
use Rattle.gu_syntax.specs.declared.module.Global.{Global}
use Rattle.gu_syntax.specs.declared.module.Import.{Import}
use Rattle.gu_syntax.specs.declared.module.Items.{Items}
use Rattle.gu_syntax.specs.declared.module.Items.TheVariants as L
use Rattle.gu_syntax.specs.declared.module.Limits.{Limits}
use Rattle.gu_syntax.specs.declared.module.Module.{Module}
use Rattle.gu_syntax.specs.declared.module.Seg.{Seg}
use Rattle.gu_syntax.specs.declared.module.SegMode.{SegMode}
use Rattle.gu_syntax.specs.declared.module.SegMode.TheVariants as G
use Rattle.gu_syntax.specs.declared.module.Table.{Table}
use Rattle.gu_syntax.specs.Types.{abs_byte, SpellsRef, SpellsVal, SpellsMutable, SpellsGroup, SpellsLimits}
use Rattle.gu_syntax.specs.Expressions.{same_heap, SpellsBody, SpellsRun, SpellsLocals, SpellsFunc}
use Rattle.gu_syntax.specs.Sections.{SpellsDesc, SpellsImport, SpellsTypeIndex, SpellsTableAs, SpellsTable, SpellsTag, SpellsGlobal, kind_byte, SpellsExport, funcref, SpellsElemAs, SpellsElem, SpellsByte, SpellsSegAs, SpellsSeg}
use Rattle.gu_syntax.proofs.Takes.{is_eq}
use Rattle.gu_syntax.proofs.Least.{most, Fine, fine_as, fine_parts, fine_begins, fine_u32, fine_numbered, fine_vector, fine_sized, fine_indices, ref_fine, val_fine, mutable_fine, group_fine, limits_fine, body_fine, count_long, items_many}
use Rattle.gu_syntax.proofs.Segments.{bytes_items}

-- bytes and names

counted_fine : (P : List ℕ → Type 0) (bytes : List ℕ) → (Parts (SpellsU32 (length bytes)) (λ back. back ≡ bytes) (encode_name bytes) → P (encode_name bytes)) → Fine P (encode_name bytes)
counted_fine P bytes f =
    let both = length-append (least_unsigned (length bytes)) bytes in
    record {
      spells = λ room. f (record { front = least_unsigned (length bytes); back = bytes; whole = refl; first = (fine_u32 (length bytes) (omega (arith, room, both))).spells (omega (arith, room, both)); second = refl });
      long = (let l = count_long (length bytes) in omega (arith, l, both));
    }

name_fine : (name : List ℕ) → IsUtf8 name → Fine (SpellsName name) (encode_name name)
name_fine name u = counted_fine (SpellsName name) name (λ s. record { utf8 = u; counted = s })

bytes_fine : (bytes : List ℕ) → Fine (SpellsVector SpellsByte bytes) (encode_name bytes)
bytes_fine bytes = counted_fine (SpellsVector SpellsByte bytes) bytes (λ s. record { front = s.front; back = s.back; whole = s.whole; first = s.first; second = (let P : List ℕ → Type 0 = λ t. SpellsItems SpellsByte bytes t in subst P (sym s.second) (bytes_items bytes)) })

-- imports, tables, tags, globals and exports

desc_fine : (x : Desc) → IsShapedDesc x → Fine (SpellsDesc x) (encode_desc x)
desc_fine (D.Func ty) h = fine_begins 0x00 (SpellsU32 ty) (least_unsigned ty) (fine_u32 ty h)
desc_fine (D.Table elem limits) h = fine_begins 0x01 (Parts (SpellsRef elem) (SpellsLimits limits)) (encode_ref elem ++ encode_limits limits) (fine_parts (SpellsRef elem) (SpellsLimits limits) (encode_ref elem) (encode_limits limits) (ref_fine elem h.0) (limits_fine limits h.1))
desc_fine (D.Memory limits) h = fine_begins 0x02 (SpellsLimits limits) (encode_limits limits) (limits_fine limits h)
desc_fine (D.Global ty mutable) h = fine_begins 0x03 (Parts (SpellsVal ty) (SpellsMutable mutable)) (encode_val ty ++ encode_mutable mutable) (fine_parts (SpellsVal ty) (SpellsMutable mutable) (encode_val ty) (encode_mutable mutable) (val_fine ty h) (mutable_fine mutable))
desc_fine (D.Tag ty) h = fine_begins 0x04 (Begins 0x00 (SpellsU32 ty)) (0x00 ∷ least_unsigned ty) (fine_begins 0x00 (SpellsU32 ty) (least_unsigned ty) (fine_u32 ty h))

import_fine : (x : Import) → IsShapedImport x → Fine (SpellsImport x) (encode_import x)
import_fine x h = fine_parts (SpellsName x.«module») (Parts (SpellsName x.name) (SpellsDesc x.desc)) (encode_name x.«module») (encode_name x.name ++ encode_desc x.desc) (name_fine x.«module» h.module') (fine_parts (SpellsName x.name) (SpellsDesc x.desc) (encode_name x.name) (encode_desc x.desc) (name_fine x.name h.name) (desc_fine x.desc h.desc))

index_fine : (func : Func) → IsShapedFunc func → Fine (SpellsTypeIndex func) (encode_type_index func)
index_fine func h = fine_u32 func.ty h.ty

table_fine_as : (elem : RefType) (limits : Limits) (init : Option Body) → IsShapedRef elem → IsShapedLimits limits → IfSome IsShapedBody init → Fine (SpellsTableAs elem limits init) (encode_table_as elem limits init)
table_fine_as elem limits None r l b = fine_parts (SpellsRef elem) (SpellsLimits limits) (encode_ref elem) (encode_limits limits) (ref_fine elem r) (limits_fine limits l)
table_fine_as elem limits (Some init) r l b =
    let inner = Parts (SpellsRef elem) (Parts (SpellsLimits limits) (SpellsBody init)) in
    let text = encode_ref elem ++ (encode_limits limits ++ encode_body init) in
    fine_begins 0x40 (Begins 0x00 inner) (0x00 ∷ text) (fine_begins 0x00 inner text (fine_parts (SpellsRef elem) (Parts (SpellsLimits limits) (SpellsBody init)) (encode_ref elem) (encode_limits limits ++ encode_body init) (ref_fine elem r) (fine_parts (SpellsLimits limits) (SpellsBody init) (encode_limits limits) (encode_body init) (limits_fine limits l) (body_fine init b))))

table_fine : (x : Table) → IsShapedTable x → Fine (SpellsTable x) (encode_table x)
table_fine x h = table_fine_as x.elem x.limits x.init h.0 h.1 h.2

tag_fine : (ty : ℕ) → FitsU32 ty → Fine (SpellsTag ty) (encode_tag ty)
tag_fine ty h = fine_begins 0x00 (SpellsU32 ty) (least_unsigned ty) (fine_u32 ty h)

global_fine : (x : Global) → IsShapedGlobal x → Fine (SpellsGlobal x) (encode_global x)
global_fine x h = fine_parts (SpellsVal x.ty) (Parts (SpellsMutable x.mutable) (SpellsBody x.init)) (encode_val x.ty) (encode_mutable x.mutable ++ encode_body x.init) (val_fine x.ty h.0) (fine_parts (SpellsMutable x.mutable) (SpellsBody x.init) (encode_mutable x.mutable) (encode_body x.init) (mutable_fine x.mutable) (body_fine x.init h.1))

export_fine : (x : Export) → IsShapedExport x → Fine (SpellsExport x) (encode_export x)
export_fine x h = fine_parts (SpellsName x.name) (Begins (kind_byte x.kind) (SpellsU32 x.index)) (encode_name x.name) (kind_byte x.kind ∷ least_unsigned x.index) (name_fine x.name h.0) (fine_begins (kind_byte x.kind) (SpellsU32 x.index) (least_unsigned x.index) (fine_u32 x.index h.1))

-- segments

abbrev Funcs : List ℕ → List ℕ → Type 0
Funcs = SpellsVector SpellsU32

abbrev Exprs : List Body → List ℕ → Type 0
Exprs = SpellsVector SpellsBody

exprs_fine : (exprs : List Body) → AllByRecursion IsShapedBody exprs → Fine (Exprs exprs) (encode_vector encode_body exprs)
exprs_fine exprs a = fine_vector SpellsBody encode_body IsShapedBody body_fine exprs a

kinds_fine : (funcs : List ℕ) → AllByRecursion FitsU32 funcs → Fine (Begins 0x00 (Funcs funcs)) (0x00 ∷ encode_vector least_unsigned funcs)
kinds_fine funcs a = fine_begins 0x00 (Funcs funcs) (encode_vector least_unsigned funcs) (fine_indices funcs a)

typed_fine : (ty : RefType) (exprs : List Body) → IsShapedRef ty → AllByRecursion IsShapedBody exprs → Fine (Parts (SpellsRef ty) (Exprs exprs)) (encode_ref ty ++ encode_vector encode_body exprs)
typed_fine ty exprs r a = fine_parts (SpellsRef ty) (Exprs exprs) (encode_ref ty) (encode_vector encode_body exprs) (ref_fine ty r) (exprs_fine exprs a)

-- what stands at an offset
at_fine : (offset : Body) (Q : List ℕ → Type 0) (text : List ℕ) → IsShapedBody offset → Fine Q text → Fine (Parts (SpellsBody offset) Q) (encode_body offset ++ text)
at_fine offset Q text h q = fine_parts (SpellsBody offset) Q (encode_body offset) text (body_fine offset h) q

-- the same in a table or a memory that is named
in_fine : (n : ℕ) (offset : Body) (Q : List ℕ → Type 0) (text : List ℕ) → FitsU32 n → IsShapedBody offset → Fine Q text → Fine (Parts (SpellsU32 n) (Parts (SpellsBody offset) Q)) (least_unsigned n ++ (encode_body offset ++ text))
in_fine n offset Q text f h q = fine_parts (SpellsU32 n) (Parts (SpellsBody offset) Q) (least_unsigned n) (encode_body offset ++ text) (fine_u32 n f) (at_fine offset Q text h q)

same_kind : (a : Abs) → nat_eq (abs_byte a) 0x70 ≡ true → a ≡ A.AnyFunc
same_kind A.AnyFunc h = refl
same_kind A.NoExn h = cc
same_kind A.NoFunc h = cc
same_kind A.NoExtern h = cc
same_kind A.Bot h = cc
same_kind A.Extern h = cc
same_kind A.Any h = cc
same_kind A.Eq h = cc
same_kind A.I31 h = cc
same_kind A.AnyStruct h = cc
same_kind A.AnyArray h = cc
same_kind A.Exn h = cc

same_func : (heap : HeapType) → same_heap heap (H.Abs A.AnyFunc) ≡ true → heap ≡ H.Abs A.AnyFunc
same_func (H.Abs kind) h = ap H.Abs (same_kind kind h)
same_func (H.Idx n) h = cc

is_func : (null : Bool) (heap : HeapType) → is_funcref (record { null = null; heap = heap }) ≡ true → ◌≡◌ {A = RefType} (record { null = null; heap = heap }) funcref
is_func true heap h = let at : HeapType → RefType = λ x. record { null = true; heap = x } in ap at (same_func heap h)
is_func false heap h = cc

active_funcs : (table : ℕ) (offset : Body) (funcs : List ℕ) → FitsU32 table → IsShapedBody offset → AllByRecursion FitsU32 funcs → Fine (SpellsElemAs (M.Active table offset) (L.Funcs funcs)) (encode_elem_as (M.Active table offset) (L.Funcs funcs))
active_funcs table offset funcs t h a =
    let P = SpellsElemAs (M.Active table offset) (L.Funcs funcs) in
    let short = 0x00 ∷ (encode_body offset ++ encode_vector least_unsigned funcs) in
    let long = 0x02 ∷ (least_unsigned table ++ (encode_body offset ++ (0x00 ∷ encode_vector least_unsigned funcs))) in
    let Q : List ℕ → Type 0 = λ text. Fine P text in
    elim (cases_Bool (nat_eq table 0)) [
      | inl is ↦ subst Q (sym (cond-true (nat_eq table 0) short long is)) (fine_as (Numbered 0 (Parts (SpellsBody offset) (Funcs funcs))) P short (λ s. inl (is_eq table 0 is, s)) (fine_numbered 0 (Parts (SpellsBody offset) (Funcs funcs)) (encode_body offset ++ encode_vector least_unsigned funcs) (omega arith) (at_fine offset (Funcs funcs) (encode_vector least_unsigned funcs) h (fine_indices funcs a))))
      | inr isnt ↦ (
          let inner = Parts (SpellsU32 table) (Parts (SpellsBody offset) (Begins 0x00 (Funcs funcs))) in
          subst Q (sym (cond-false (nat_eq table 0) short long isnt)) (fine_as (Numbered 2 inner) P long (λ s. inr s) (fine_numbered 2 inner (least_unsigned table ++ (encode_body offset ++ (0x00 ∷ encode_vector least_unsigned funcs))) (omega arith) (in_fine table offset (Begins 0x00 (Funcs funcs)) (0x00 ∷ encode_vector least_unsigned funcs) t h (kinds_fine funcs a)))))
    ]

both_true : (a b : Bool) → cond a b false ≡ true → (a ≡ true) × (b ≡ true)
both_true true b h = (refl, h)
both_true false b h = cc

active_exprs : (table : ℕ) (offset : Body) (ty : RefType) (exprs : List Body) → FitsU32 table → IsShapedBody offset → IsShapedRef ty → AllByRecursion IsShapedBody exprs → Fine (SpellsElemAs (M.Active table offset) (L.Exprs ty exprs)) (encode_elem_as (M.Active table offset) (L.Exprs ty exprs))
active_exprs table offset ty exprs t h r a =
    let P = SpellsElemAs (M.Active table offset) (L.Exprs ty exprs) in
    let test = cond (nat_eq table 0) (is_funcref ty) false in
    let short = 0x04 ∷ (encode_body offset ++ encode_vector encode_body exprs) in
    let long = 0x06 ∷ (least_unsigned table ++ (encode_body offset ++ (encode_ref ty ++ encode_vector encode_body exprs))) in
    let Q : List ℕ → Type 0 = λ text. Fine P text in
    elim (cases_Bool test) [
      | inl is ↦ (
          let b = both_true (nat_eq table 0) (is_funcref ty) is in
          subst Q (sym (cond-true test short long is)) (fine_as (Numbered 4 (Parts (SpellsBody offset) (Exprs exprs))) P short (λ s. inl (is_eq table 0 b.0, is_func ty.null ty.heap b.1, s)) (fine_numbered 4 (Parts (SpellsBody offset) (Exprs exprs)) (encode_body offset ++ encode_vector encode_body exprs) (omega arith) (at_fine offset (Exprs exprs) (encode_vector encode_body exprs) h (exprs_fine exprs a)))))
      | inr isnt ↦ (
          let inner = Parts (SpellsU32 table) (Parts (SpellsBody offset) (Parts (SpellsRef ty) (Exprs exprs))) in
          subst Q (sym (cond-false test short long isnt)) (fine_as (Numbered 6 inner) P long (λ s. inr s) (fine_numbered 6 inner (least_unsigned table ++ (encode_body offset ++ (encode_ref ty ++ encode_vector encode_body exprs))) (omega arith) (in_fine table offset (Parts (SpellsRef ty) (Exprs exprs)) (encode_ref ty ++ encode_vector encode_body exprs) t h (typed_fine ty exprs r a)))))
    ]

elem_fine_as : (mode : ElemMode) (items : Items) → IsShapedElemMode mode → IsShapedItems items → Fine (SpellsElemAs mode items) (encode_elem_as mode items)
elem_fine_as (M.Active table offset) (L.Funcs funcs) m i = active_funcs table offset funcs m.0 m.1 i
elem_fine_as M.Passive (L.Funcs funcs) m i = fine_numbered 1 (Begins 0x00 (Funcs funcs)) (0x00 ∷ encode_vector least_unsigned funcs) (omega arith) (kinds_fine funcs i)
elem_fine_as M.Declared (L.Funcs funcs) m i = fine_numbered 3 (Begins 0x00 (Funcs funcs)) (0x00 ∷ encode_vector least_unsigned funcs) (omega arith) (kinds_fine funcs i)
elem_fine_as (M.Active table offset) (L.Exprs ty exprs) m i = active_exprs table offset ty exprs m.0 m.1 i.0 i.1
elem_fine_as M.Passive (L.Exprs ty exprs) m i = fine_numbered 5 (Parts (SpellsRef ty) (Exprs exprs)) (encode_ref ty ++ encode_vector encode_body exprs) (omega arith) (typed_fine ty exprs i.0 i.1)
elem_fine_as M.Declared (L.Exprs ty exprs) m i = fine_numbered 7 (Parts (SpellsRef ty) (Exprs exprs)) (encode_ref ty ++ encode_vector encode_body exprs) (omega arith) (typed_fine ty exprs i.0 i.1)

elem_fine : (x : Elem) → IsShapedElem x → Fine (SpellsElem x) (encode_elem x)
elem_fine x h = elem_fine_as x.mode x.items h.0 h.1

seg_fine_as : (mode : SegMode) (bytes : List ℕ) → IsShapedSegMode mode → Fine (SpellsSegAs mode bytes) (encode_seg_as mode bytes)
seg_fine_as (G.Active memory offset) bytes m =
    let P = SpellsSegAs (G.Active memory offset) bytes in
    let V = SpellsVector SpellsByte bytes in
    let short = 0x00 ∷ (encode_body offset ++ encode_name bytes) in
    let long = 0x02 ∷ (least_unsigned memory ++ (encode_body offset ++ encode_name bytes)) in
    let Q : List ℕ → Type 0 = λ text. Fine P text in
    elim (cases_Bool (nat_eq memory 0)) [
      | inl is ↦ subst Q (sym (cond-true (nat_eq memory 0) short long is)) (fine_as (Numbered 0 (Parts (SpellsBody offset) V)) P short (λ s. inl (is_eq memory 0 is, s)) (fine_numbered 0 (Parts (SpellsBody offset) V) (encode_body offset ++ encode_name bytes) (omega arith) (at_fine offset V (encode_name bytes) m.1 (bytes_fine bytes))))
      | inr isnt ↦ (
          let inner = Parts (SpellsU32 memory) (Parts (SpellsBody offset) V) in
          subst Q (sym (cond-false (nat_eq memory 0) short long isnt)) (fine_as (Numbered 2 inner) P long (λ s. inr s) (fine_numbered 2 inner (least_unsigned memory ++ (encode_body offset ++ encode_name bytes)) (omega arith) (in_fine memory offset V (encode_name bytes) m.0 m.1 (bytes_fine bytes)))))
    ]
seg_fine_as G.Passive bytes m = fine_numbered 1 (SpellsVector SpellsByte bytes) (encode_name bytes) (omega arith) (bytes_fine bytes)

seg_fine : (x : Seg) → IsShapedSeg x → Fine (SpellsSeg x) (encode_seg x)
seg_fine x h = seg_fine_as x.mode x.bytes h

-- functions

run_fine : (run : ℕ × ValType) → IsShapedRun run → Fine (SpellsRun run) (encode_run run)
run_fine run h = fine_parts (SpellsU32 run.0) (SpellsVal run.1) (least_unsigned run.0) (encode_val run.1) (fine_u32 run.0 h.0) (val_fine run.1 h.1)

func_fine : (func : Func) → IsShapedFunc func → Fine (SpellsFunc func) (encode_func func)
func_fine func h =
    let locals = encode_vector encode_run func.locals in
    let inside = fine_parts (SpellsLocals func.locals) (SpellsBody func.body) locals (encode_body func.body)
    (fine_as (SpellsVector SpellsRun func.locals) (SpellsLocals func.locals) locals (λ s. record { value = func.locals; makes = h.merges; spelled = s }) (fine_vector SpellsRun encode_run IsShapedRun run_fine func.locals h.locals))
    (body_fine func.body h.body) in
    fine_sized (Parts (SpellsLocals func.locals) (SpellsBody func.body)) (locals ++ encode_body func.body) inside.spells

-- sections

present : {X : Type 0} (id : ℕ) (nothing : X) (P : X → List ℕ → Type 0) (x : X) (content : List ℕ) → (length content ≤ most → P x content) → length (id ∷ sized content) ≤ most → SpellsSection id nothing P x (id ∷ sized content)
present id nothing P x content f room = inr (record { back = sized content; whole = refl; rest = record { front = sized content; back = []; whole = sym (append-nil (sized content)); first = (fine_sized (P x) content f).spells (omega (arith, room)); second = record { customs = []; items = refl } } })

list_spelled : {X : Type 0} (id : ℕ) (P : X → List ℕ → Type 0) (encode : X → List ℕ) (A : X → Type 0) → ((x : X) → A x → Fine (P x) (encode x)) → (xs : List X) → AllByRecursion A xs → length (section id encode xs) ≤ most → SpellsList id P xs (section id encode xs)
list_spelled id P encode A f [] a room = inl (refl, refl)
list_spelled id P encode A f (x ∷ xs) a room = present id [] (SpellsVector P) (x ∷ xs) (encode_vector encode (x ∷ xs)) (fine_vector P encode A f (x ∷ xs) a).spells room

start_spelled : (start : Option ℕ) → IfSome FitsU32 start → length (encode_start start) ≤ most → SpellsSection 8 None SpellsSome start (encode_start start)
start_spelled None h room = inl (refl, refl)
start_spelled (Some func) h room = present 8 None SpellsSome (Some func) (least_unsigned func) (fine_u32 func h).spells room

count_spelled : (has : Bool) (n : ℕ) → FitsU32 n → length (encode_count has n) ≤ most → SpellsSection 12 None SpellsSome (counted has n) (encode_count has n)
count_spelled false n h room = inl (refl, refl)
count_spelled true n h room = present 12 None SpellsSome (Some n) (least_unsigned n) (fine_u32 n h).spells room

-- a section has more bytes than items
section_many : {X : Type 0} (id : ℕ) (P : X → List ℕ → Type 0) (encode : X → List ℕ) (A : X → Type 0) → ((x : X) → A x → Fine (P x) (encode x)) → (xs : List X) → AllByRecursion A xs → length xs ≤ length (section id encode xs)
section_many id P encode A f [] a = omega arith
section_many id P encode A f (x ∷ xs) a =
    let content = encode_vector encode (x ∷ xs) in
    let many = items_many P encode A f (x ∷ xs) a in
    omega (arith, many, length-append (least_unsigned (length content)) content, length-append (least_unsigned (length (x ∷ xs))) (encode_items encode (x ∷ xs)))

-- texts one behind the other that are short enough together
parts_spelled : (P Q : List ℕ → Type 0) (a b : List ℕ) → (length a ≤ most → P a) → (length b ≤ most → Q b) → length (a ++ b) ≤ most → Parts P Q (a ++ b)
parts_spelled P Q a b f g room =
    let both = length-append a b in
    record { front = a; back = b; whole = refl; first = f (omega (arith, room, both)); second = g (omega (arith, room, both)) }

-- modules

pub encoding_spells : (m : Module) → IsPlain m → Spells (encoding m) m
unfolding encoding
encoding_spells m plain =
    let h = plain.shaped in
    let t1 = section 1 encode_group m.types.groups in
    let t2 = section 2 encode_import m.imports in
    let t3 = section 3 encode_type_index m.funcs in
    let t4 = section 4 encode_table m.tables in
    let t5 = section 5 encode_limits m.memories in
    let t13 = section 13 encode_tag m.tags in
    let t6 = section 6 encode_global m.globals in
    let t7 = section 7 encode_export m.exports in
    let t8 = encode_start m.start in
    let t9 = section 9 encode_elem m.elems in
    let t12 = encode_count m.has_count (length m.segs) in
    let t10 = section 10 encode_func m.funcs in
    let t11 = section 11 encode_seg m.segs in
    let r10 = t10 ++ t11 in
    let r12 = t12 ++ r10 in
    let r9 = t9 ++ r12 in
    let r8 = t8 ++ r9 in
    let r7 = t7 ++ r8 in
    let r6 = t6 ++ r7 in
    let r13 = t13 ++ r6 in
    let r5 = t5 ++ r13 in
    let r4 = t4 ++ r5 in
    let r3 = t3 ++ r4 in
    let r2 = t2 ++ r3 in
    let r1 = t1 ++ r2 in
    let short = plain.short in
    let all : length r1 ≤ most = omega (arith, short, length-append header r1) in
    let many = section_many 11 SpellsSeg encode_seg IsShapedSeg seg_fine m.segs h.segs in
    let few : FitsU32 (length m.segs) = omega (arith, many, all, length-append t1 r2, length-append t2 r3, length-append t3 r4, length-append t4 r5, length-append t5 r13, length-append t13 r6, length-append t6 r7, length-append t7 r8, length-append t8 r9, length-append t9 r12, length-append t12 r10, length-append t10 t11) in
    let s10 = parts_spelled (SpellsList 10 SpellsFunc m.funcs) (SpellsSegs m) t10 t11 (list_spelled 10 SpellsFunc encode_func IsShapedFunc func_fine m.funcs h.funcs) (list_spelled 11 SpellsSeg encode_seg IsShapedSeg seg_fine m.segs h.segs) in
    let s12 = parts_spelled (SpellsSection 12 None SpellsSome (counted m.has_count (length m.segs))) (SpellsBodies m) t12 r10 (count_spelled m.has_count (length m.segs) few) s10 in
    let s9 = parts_spelled (SpellsList 9 SpellsElem m.elems) (SpellsCount m) t9 r12 (list_spelled 9 SpellsElem encode_elem IsShapedElem elem_fine m.elems h.elems) s12 in
    let s8 = parts_spelled (SpellsSection 8 None SpellsSome m.start) (SpellsElems m) t8 r9 (start_spelled m.start h.start) s9 in
    let s7 = parts_spelled (SpellsList 7 SpellsExport m.exports) (SpellsStarts m) t7 r8 (list_spelled 7 SpellsExport encode_export IsShapedExport export_fine m.exports h.exports) s8 in
    let s6 = parts_spelled (SpellsList 6 SpellsGlobal m.globals) (SpellsExports m) t6 r7 (list_spelled 6 SpellsGlobal encode_global IsShapedGlobal global_fine m.globals h.globals) s7 in
    let s13 = parts_spelled (SpellsList 13 SpellsTag m.tags) (SpellsGlobals m) t13 r6 (list_spelled 13 SpellsTag encode_tag FitsU32 tag_fine m.tags h.tags) s6 in
    let s5 = parts_spelled (SpellsList 5 SpellsLimits m.memories) (SpellsTags m) t5 r13 (list_spelled 5 SpellsLimits encode_limits IsShapedLimits limits_fine m.memories h.memories) s13 in
    let s4 = parts_spelled (SpellsList 4 SpellsTable m.tables) (SpellsMemories m) t4 r5 (list_spelled 4 SpellsTable encode_table IsShapedTable table_fine m.tables h.tables) s5 in
    let s3 = parts_spelled (SpellsList 3 SpellsTypeIndex m.funcs) (SpellsTables m) t3 r4 (list_spelled 3 SpellsTypeIndex encode_type_index IsShapedFunc index_fine m.funcs h.funcs) s4 in
    let s2 = parts_spelled (SpellsList 2 SpellsImport m.imports) (SpellsFuncs m) t2 r3 (list_spelled 2 SpellsImport encode_import IsShapedImport import_fine m.imports h.imports) s3 in
    let s1 = parts_spelled (SpellsList 1 SpellsGroup m.types.groups) (SpellsImports m) t1 r2 (list_spelled 1 SpellsGroup encode_group IsShapedGroup group_fine m.types.groups h.types) s2 in
    record { whole = record { front = header; back = r1; whole = refl; first = refl; second = record { front = []; back = r1; whole = refl; first = record { customs = []; items = refl }; second = s1 all } } }
