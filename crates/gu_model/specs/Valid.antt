-- Which modules are valid, part by part, and which part is the first that fails (core specification 3.0, 3.5 Modules).
use Rattle.std.specs.Prelude.{ℕ, ◌+◌, ◌<◌, ◌≡◌, ◌≢◌, Bool, true, false, not, ◌||◌, ◌&&◌, List, [], ◌∷◌, length, Option, Some, None, slice_get, nat_lt, nat_le}
use Rattle.std.specs.List.{list_all}
use Rattle.gu_types.specs.declared.types.RefType.{RefType}
use Rattle.gu_types.specs.declared.types.ValType.{ValType}
use Rattle.gu_types.specs.declared.types.ValType.TheVariants as V
use Rattle.gu_rec.specs.Sub.{is_sub_ref}
use Rattle.gu_rec.specs.Validity as types
use Rattle.gu_syntax.specs.declared.instr.Body.{Body}
use Rattle.gu_syntax.specs.declared.module.Desc.{Desc}
use Rattle.gu_syntax.specs.declared.module.Desc.TheVariants as D
use Rattle.gu_syntax.specs.declared.module.Elem.{Elem}
use Rattle.gu_syntax.specs.declared.module.ElemMode.{ElemMode}
use Rattle.gu_syntax.specs.declared.module.ElemMode.TheVariants as E
use Rattle.gu_syntax.specs.declared.module.Export.{Export}
use Rattle.gu_syntax.specs.declared.module.Func.{Func}
use Rattle.gu_syntax.specs.declared.module.Global.{Global}
use Rattle.gu_syntax.specs.declared.module.Import.{Import}
use Rattle.gu_syntax.specs.declared.module.Items.{Items}
use Rattle.gu_syntax.specs.declared.module.Items.TheVariants as T
use Rattle.gu_syntax.specs.declared.module.Kind.{Kind}
use Rattle.gu_syntax.specs.declared.module.Kind.TheVariants as K
use Rattle.gu_syntax.specs.declared.module.Limits.{Limits}
use Rattle.gu_syntax.specs.declared.module.Module.{Module}
use Rattle.gu_syntax.specs.declared.module.Seg.{Seg}
use Rattle.gu_syntax.specs.declared.module.SegMode.{SegMode}
use Rattle.gu_syntax.specs.declared.module.SegMode.TheVariants as G
use Rattle.gu_syntax.specs.declared.module.Table.{Table}
use Rattle.gu_syntax.specs.Code.{code_of}
use Rattle.gu_syntax.specs.Shape.{IsShaped}
use Rattle.gu_model.specs.Index.{FuncType, func_type, type_at, imported, as_global}
use Rattle.gu_model.specs.TypingContext.{is_valid_ref, is_valid_val}
use Rattle.gu_model.specs.Typing.{is_typed_body}
use Rattle.gu_model.specs.ValidConstants.{is_constant_of, with_globals}
use Rattle.gu_model.specs.ValidContext.{context, elem_type, needs_count}

-- each number below a bound has a property
abbrev pub EachBelow : ℕ → (ℕ → Type 0) → Type 0
EachBelow n P = (i : ℕ) → i < n → P i

-- limits

abbrev pub not_above : ℕ → Option ℕ → Bool
not_above least None = true
not_above least (Some most) = nat_le least most

abbrev pub most_within : ℕ → Option ℕ → Bool
most_within bound None = true
most_within bound (Some most) = nat_le most bound

-- the greatest size is not below the least one (3.2 Types, limits)
abbrev pub is_valid_limits : Limits → Bool
is_valid_limits l = not_above l.least l.most

-- a memory has at most 65,536 pages (3.2 Types, memory types)
abbrev pub is_valid_memory : Limits → Bool
is_valid_memory l = is_valid_limits l && nat_le l.least 65536 && most_within 65536 l.most

-- function types

abbrev pub is_func_type : Option FuncType → Bool
is_func_type None = false
is_func_type (Some t) = true

abbrev pub is_empty : List ValType → Bool
is_empty ts = elim ts [ [] ↦ true | t ∷ us ↦ false ]

-- a tag's type is a function type without results
abbrev pub is_tag_type : Option FuncType → Bool
is_tag_type None = false
is_tag_type (Some t) = is_empty t.results

-- the start function's type has no parameters and no results
abbrev pub is_start_type : Option FuncType → Bool
is_start_type None = false
is_start_type (Some t) = is_empty t.params && is_empty t.results

module _ (m : Module) where
  -- how many globals are imported
  abbrev pub imported_globals : ℕ
  imported_globals = length (imported as_global m.imports)

  -- the indices in every type hold, and each type may declare the supertypes that it declares (types)
  abbrev pub ValidTypes : Type 0
  ValidTypes = types.ValidTypes m.types

  -- an import is of a valid type (imports)
  abbrev pub is_valid_desc : Desc → Bool
  is_valid_desc (D.Func x) = is_func_type (func_type m.types x)
  is_valid_desc (D.Table elem limits) = is_valid_ref m.types elem && is_valid_limits limits
  is_valid_desc (D.Memory limits) = is_valid_memory limits
  is_valid_desc (D.Global ty mutable) = is_valid_val m.types ty
  is_valid_desc (D.Tag x) = is_tag_type (func_type m.types x)

  pub record ImportHolds (i : ℕ) : Type 0 where
    pub «import» : Import
    pub found : slice_get m.imports i ≡ Some «import»
    pub valid : is_valid_desc «import».desc ≡ true

  -- the type index of a function names a function type (functions)
  pub record FuncHolds (i : ℕ) : Type 0 where
    pub func : Func
    pub found : slice_get m.funcs i ≡ Some func
    pub valid : is_func_type (func_type m.types func.ty) ≡ true

  -- a constant expression of a type, in which so many globals are there
  abbrev pub is_constant_body : (globals : ℕ) → ValType → Body → Bool
  is_constant_body n t b = is_constant_of (with_globals n (context m)) t (code_of b.code)

  -- a table whose type is not nullable has an initial value. That may name imported immutable globals
  abbrev pub is_valid_init : RefType → Option Body → Bool
  is_valid_init elem None = elem.null
  is_valid_init elem (Some init) = is_constant_body imported_globals (V.Ref elem) init

  -- a table's type is valid, and its initial value has the type of the entries (tables)
  pub record TableHolds (i : ℕ) : Type 0 where
    pub table : Table
    pub found : slice_get m.tables i ≡ Some table
    pub elem : is_valid_ref m.types table.elem ≡ true
    pub limits : is_valid_limits table.limits ≡ true
    pub init : is_valid_init table.elem table.init ≡ true

  -- a memory's limits are valid (memories)
  pub record MemoryHolds (i : ℕ) : Type 0 where
    pub memory : Limits
    pub found : slice_get m.memories i ≡ Some memory
    pub valid : is_valid_memory memory ≡ true

  -- a tag's type is one (tags)
  pub record TagHolds (i : ℕ) : Type 0 where
    pub tag : ℕ
    pub found : slice_get m.tags i ≡ Some tag
    pub valid : is_tag_type (func_type m.types tag) ≡ true

  -- a global's type is valid, and its initial value has it. That may name immutable globals that are imported or
  -- stand before (globals)
  pub record GlobalHolds (i : ℕ) : Type 0 where
    pub global : Global
    pub found : slice_get m.globals i ≡ Some global
    pub type : is_valid_val m.types global.ty ≡ true
    pub init : is_constant_body (imported_globals + i) global.ty global.init ≡ true

  -- how many things of a kind there are
  abbrev pub count_of : Kind → ℕ
  count_of K.Func = length (context m).funcs
  count_of K.Table = length (context m).tables
  count_of K.Memory = (context m).memories
  count_of K.Global = length (context m).globals
  count_of K.Tag = length (context m).tags

  -- an export's index is in range, and no earlier export has its name (exports)
  pub record ExportHolds (i : ℕ) : Type 0 where
    pub export : Export
    pub found : slice_get m.exports i ≡ Some export
    pub there : export.index < count_of export.kind
    pub new : (j : ℕ) (earlier : Export) → j < i → slice_get m.exports j ≡ Some earlier → earlier.name ≢ export.name

  abbrev pub is_valid_start : Option ℕ → Bool
  is_valid_start None = true
  is_valid_start (Some f) = is_start_type (type_at m f)

  -- the start function is there, and has the type [] -> [] (start function)
  abbrev pub ValidStart : Type 0
  ValidStart = is_valid_start m.start ≡ true

  -- an offset is an i32, and may name every immutable global
  abbrev pub is_offset : Body → Bool
  is_offset b = is_constant_body (length (context m).globals) V.I32 b

  abbrev pub fits_table : RefType → Option RefType → Bool
  fits_table from None = false
  fits_table from (Some to) = is_sub_ref m.types from to

  -- an active segment's type is below its table's (element segments)
  abbrev pub is_valid_mode : RefType → ElemMode → Bool
  is_valid_mode from (E.Active table offset) = fits_table from (slice_get (context m).tables table) && is_offset offset
  is_valid_mode from E.Passive = true
  is_valid_mode from E.Declared = true

  abbrev pub is_function : ℕ → Bool
  is_function f = nat_lt f (length (context m).funcs)

  -- functions are there, and expressions have the segment's type
  abbrev pub is_valid_items : Items → Bool
  is_valid_items (T.Funcs funcs) = list_all is_function funcs
  is_valid_items (T.Exprs ty exprs) = is_valid_ref m.types ty && list_all (is_constant_body (length (context m).globals) (V.Ref ty)) exprs

  pub record ElementHolds (i : ℕ) : Type 0 where
    pub elem : Elem
    pub found : slice_get m.elems i ≡ Some elem
    pub items : is_valid_items elem.items ≡ true
    pub mode : is_valid_mode (elem_type elem) elem.mode ≡ true

  -- the number of data segments is said before the code where the code needs it
  abbrev pub ValidCount : Type 0
  ValidCount = (not (needs_count m) || m.has_count) ≡ true

  -- a function's body is typed (functions)
  pub record CodeHolds (i : ℕ) : Type 0 where
    pub func : Func
    pub found : slice_get m.funcs i ≡ Some func
    pub type : FuncType
    pub has : func_type m.types func.ty ≡ Some type
    pub typed : is_typed_body (context m) type func.locals (code_of func.body.code) ≡ true

  -- an active data segment's memory is there (data segments)
  abbrev pub is_valid_seg : SegMode → Bool
  is_valid_seg (G.Active memory offset) = nat_lt memory (context m).memories && is_offset offset
  is_valid_seg G.Passive = true

  pub record DataHolds (i : ℕ) : Type 0 where
    pub seg : Seg
    pub found : slice_get m.segs i ≡ Some seg
    pub mode : is_valid_seg seg.mode ≡ true

  abbrev pub ValidImports : Type 0
  ValidImports = EachBelow (length m.imports) ImportHolds

  abbrev pub ValidFuncs : Type 0
  ValidFuncs = EachBelow (length m.funcs) FuncHolds

  abbrev pub ValidTables : Type 0
  ValidTables = EachBelow (length m.tables) TableHolds

  abbrev pub ValidMemories : Type 0
  ValidMemories = EachBelow (length m.memories) MemoryHolds

  abbrev pub ValidTags : Type 0
  ValidTags = EachBelow (length m.tags) TagHolds

  abbrev pub ValidGlobals : Type 0
  ValidGlobals = EachBelow (length m.globals) GlobalHolds

  abbrev pub ValidExports : Type 0
  ValidExports = EachBelow (length m.exports) ExportHolds

  abbrev pub ValidElements : Type 0
  ValidElements = EachBelow (length m.elems) ElementHolds

  abbrev pub ValidCode : Type 0
  ValidCode = EachBelow (length m.funcs) CodeHolds

  abbrev pub ValidData : Type 0
  ValidData = EachBelow (length m.segs) DataHolds

-- a valid module: it is shaped, and each part holds, in this order
pub record Valid (m : Module) : Type 0 where
  pub shaped : IsShaped m
  pub types : ValidTypes m
  pub imports : ValidImports m
  pub funcs : ValidFuncs m
  pub tables : ValidTables m
  pub memories : ValidMemories m
  pub tags : ValidTags m
  pub globals : ValidGlobals m
  pub exports : ValidExports m
  pub start : ValidStart m
  pub elements : ValidElements m
  pub count : ValidCount m
  pub code : ValidCode m
  pub segs : ValidData m
