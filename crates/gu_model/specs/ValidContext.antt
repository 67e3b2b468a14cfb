-- What the code of a module is typed in (core specification 3.0, 3.5 Modules), which functions it declares, and whether
-- it needs a data count.
use Rattle.std.specs.Prelude.{ℕ, Bool, true, false, ◌||◌, List, [], ◌∷◌, ◌++◌, map, length, replicate, Option, Some, None, slice_set}
use Rattle.std.specs.List.{list_any}
use Rattle.gu_types.specs.declared.types.Abs.TheVariants as A
use Rattle.gu_types.specs.declared.types.HeapType.TheVariants as H
use Rattle.gu_types.specs.declared.types.RefType.{RefType}
use Rattle.gu_syntax.specs.declared.instr.Body.{Body}
use Rattle.gu_syntax.specs.declared.instr.Instr.{Instr}
use Rattle.gu_syntax.specs.declared.instr.Instr.TheVariants as I
use Rattle.gu_syntax.specs.declared.module.Elem.{Elem}
use Rattle.gu_syntax.specs.declared.module.ElemMode.{ElemMode}
use Rattle.gu_syntax.specs.declared.module.ElemMode.TheVariants as E
use Rattle.gu_syntax.specs.declared.module.Export.{Export}
use Rattle.gu_syntax.specs.declared.module.Func.{Func}
use Rattle.gu_syntax.specs.declared.module.Global.{Global}
use Rattle.gu_syntax.specs.declared.module.Items.{Items}
use Rattle.gu_syntax.specs.declared.module.Items.TheVariants as T
use Rattle.gu_syntax.specs.declared.module.Kind.{Kind}
use Rattle.gu_syntax.specs.declared.module.Kind.TheVariants as K
use Rattle.gu_syntax.specs.declared.module.Module.{Module}
use Rattle.gu_syntax.specs.declared.module.Seg.{Seg}
use Rattle.gu_syntax.specs.declared.module.SegMode.{SegMode}
use Rattle.gu_syntax.specs.declared.module.SegMode.TheVariants as G
use Rattle.gu_syntax.specs.declared.module.Table.{Table}
use Rattle.gu_syntax.specs.Code.{Ins, Code, leaf, block, loop, choice, try_table, done, next, code_of}
use Rattle.gu_model.specs.Index.{TableType, funcs, tables, memories, tags, globals}
use Rattle.gu_model.specs.TypingContext.{Context}

-- the constant expressions of a module, in order

abbrev pub of_table : Option Body → List Body
of_table None = []
of_table (Some body) = body ∷ []

abbrev pub of_tables : List Table → List Body
of_tables [] = []
of_tables (t ∷ ts) = of_table t.init ++ of_tables ts

abbrev pub of_global : Global → Body
of_global g = g.init

abbrev pub of_elem_mode : ElemMode → List Body
of_elem_mode (E.Active table offset) = offset ∷ []
of_elem_mode E.Passive = []
of_elem_mode E.Declared = []

abbrev pub of_items : Items → List Body
of_items (T.Funcs funcs) = []
of_items (T.Exprs type exprs) = exprs

abbrev pub of_elems : List Elem → List Body
of_elems [] = []
of_elems (e ∷ es) = of_elem_mode e.mode ++ of_items e.items ++ of_elems es

abbrev pub of_seg_mode : SegMode → List Body
of_seg_mode (G.Active memory offset) = offset ∷ []
of_seg_mode G.Passive = []

abbrev pub of_segs : List Seg → List Body
of_segs [] = []
of_segs (d ∷ ds) = of_seg_mode d.mode ++ of_segs ds

abbrev pub constants : Module → List Body
constants m = of_tables m.tables ++ map of_global m.globals ++ of_elems m.elems ++ of_segs m.segs

-- the functions that occur outside bodies and the start function (3.5 Modules, references)

abbrev pub named_by_leaf : Instr → List ℕ
named_by_leaf (I.RefFunc f) = f ∷ []
named_by_leaf (I.Call f) = f ∷ []
named_by_leaf (I.ReturnCall f) = f ∷ []
named_by_leaf _ = []

abbrev mutual
  pub named_by_code : Code → List ℕ
  named_by_code done = []
  named_by_code (next i c) = named_by_ins i ++ named_by_code c

  pub named_by_ins : Ins → List ℕ
  named_by_ins (leaf i) = named_by_leaf i
  named_by_ins (block ty c) = named_by_code c
  named_by_ins (loop ty c) = named_by_code c
  named_by_ins (choice ty c d) = named_by_code c ++ named_by_code d
  named_by_ins (try_table ty catches c) = named_by_code c

abbrev pub named_by_bodies : List Body → List ℕ
named_by_bodies [] = []
named_by_bodies (b ∷ bs) = named_by_code (code_of b.code) ++ named_by_bodies bs

abbrev pub named_by_export : Kind → (index : ℕ) → List ℕ
named_by_export K.Func f = f ∷ []
named_by_export _ i = []

abbrev pub named_by_exports : List Export → List ℕ
named_by_exports [] = []
named_by_exports (e ∷ es) = named_by_export e.kind e.index ++ named_by_exports es

abbrev pub named_by_items : Items → List ℕ
named_by_items (T.Funcs funcs) = funcs
named_by_items (T.Exprs type exprs) = []

abbrev pub named_by_elems : List Elem → List ℕ
named_by_elems [] = []
named_by_elems (e ∷ es) = named_by_items e.items ++ named_by_elems es

abbrev pub named_outside : Module → List ℕ
named_outside m = named_by_bodies (constants m) ++ named_by_exports m.exports ++ named_by_elems m.elems

-- the list with true at these places
abbrev pub marked : List ℕ → List Bool → List Bool
marked [] flags = flags
marked (i ∷ is) flags = marked is (slice_set flags i true)

abbrev pub declared : Module → List Bool
declared m = marked (named_outside m) (replicate (length (funcs m)) false)

-- the type of an element segment's items: of a list of functions it is (ref func)
abbrev pub items_type : Items → RefType
items_type (T.Funcs funcs) = record { null = false; heap = H.Abs A.AnyFunc }
items_type (T.Exprs type exprs) = type

abbrev pub elem_type : Elem → RefType
elem_type e = items_type e.items

abbrev pub entries_type : TableType → RefType
entries_type t = t.elem

abbrev pub context : Module → Context
context m = record {
  types = m.types;
  funcs = funcs m;
  tables = map entries_type (tables m);
  memories = length (memories m);
  tags = tags m;
  globals = globals m;
  elems = map elem_type m.elems;
  segs = length m.segs;
  declared = declared m;
}

-- the instructions that need the number of data segments to be known before the code (5.5 Modules, data count section)

abbrev pub needs_count_leaf : Instr → Bool
needs_count_leaf (I.MemoryInit d x) = true
needs_count_leaf (I.DataDrop d) = true
needs_count_leaf (I.ArrayNewData x d) = true
needs_count_leaf (I.ArrayInitData x d) = true
needs_count_leaf _ = false

abbrev mutual
  pub needs_count_code : Code → Bool
  needs_count_code done = false
  needs_count_code (next i c) = needs_count_ins i || needs_count_code c

  pub needs_count_ins : Ins → Bool
  needs_count_ins (leaf i) = needs_count_leaf i
  needs_count_ins (block ty c) = needs_count_code c
  needs_count_ins (loop ty c) = needs_count_code c
  needs_count_ins (choice ty c d) = needs_count_code c || needs_count_code d
  needs_count_ins (try_table ty catches c) = needs_count_code c

abbrev pub needs_count_body : Body → Bool
needs_count_body b = needs_count_code (code_of b.code)

abbrev pub body_of : Func → Body
body_of f = f.body

-- they count in constant expressions too, and in code that is never reached
abbrev pub needs_count : Module → Bool
needs_count m = list_any needs_count_body (map body_of m.funcs) || list_any needs_count_body (constants m)
