-- Which modules no embedder can tell apart.
use Rattle.std.specs.Prelude.{ℕ, zero, ◌≡◌, Bool, List, map, Option, Some, None, option_and_then, slice_get}
use Rattle.gu_types.specs.declared.types.TypeList.{TypeList}
use Rattle.gu_types.specs.declared.types.ValType.{ValType}
use Rattle.gu_types.specs.declared.types.ValType.TheVariants as V
use Rattle.gu_rec.specs.Closed.{Closed, closed_type}
use Rattle.gu_rec.specs.Names.{val_names, rename_val}
use Rattle.gu_syntax.specs.declared.module.Desc.{Desc}
use Rattle.gu_syntax.specs.declared.module.Desc.TheVariants as D
use Rattle.gu_syntax.specs.declared.module.Export.{Export}
use Rattle.gu_syntax.specs.declared.module.Import.{Import}
use Rattle.gu_syntax.specs.declared.module.Kind.{Kind}
use Rattle.gu_syntax.specs.declared.module.Kind.TheVariants as K
use Rattle.gu_syntax.specs.declared.module.Limits.{Limits}
use Rattle.gu_syntax.specs.declared.module.Module.{Module}
use Rattle.gu_model.specs.Index.{TableType}
use Rattle.gu_model.specs.Outline.{Outline, outline}
use Rattle.gu_model.specs.Script.{Script, Begins}
use Rattle.gu_model.specs.Play.{trace}

-- a value type as it is seen from outside: what is left of it beside its indices, and the types that these denote
pub record SeenType : Type 0 where
  pub type : ValType
  pub names : List (Option Closed)

abbrev pub seen_type : TypeList → ValType → SeenType
seen_type list t = record { type = rename_val (λ _. zero) t; names = map (closed_type list) (val_names t) }

-- what is imported or exported as it is seen from outside: all but its index (core specification 3.0, 2.3 Types,
-- external types)
pub data Seen : Type 0 where
  func : Option Closed → Seen
  table : SeenType → Limits → Seen
  memory : Limits → Seen
  global : SeenType → (mutable : Bool) → Seen
  tag : Option Closed → Seen
  missing : Seen

abbrev pub seen_desc : TypeList → Desc → Seen
seen_desc list (D.Func ty) = func (closed_type list ty)
seen_desc list (D.Table elem limits) = table (seen_type list (V.Ref elem)) limits
seen_desc list (D.Memory limits) = memory limits
seen_desc list (D.Global ty mutable) = global (seen_type list ty) mutable
seen_desc list (D.Tag ty) = tag (closed_type list ty)

abbrev pub seen_table : TypeList → Option TableType → Seen
seen_table list None = missing
seen_table list (Some t) = table (seen_type list (V.Ref t.elem)) t.limits

abbrev pub seen_memory : Option Limits → Seen
seen_memory None = missing
seen_memory (Some limits) = memory limits

abbrev pub seen_global : TypeList → Option (ValType × Bool) → Seen
seen_global list None = missing
seen_global list (Some g) = global (seen_type list g.0) g.1

abbrev pub seen_at : Outline → Kind → (index : ℕ) → Seen
seen_at o K.Func i = func (option_and_then (closed_type o.types) (slice_get o.funcs i))
seen_at o K.Table i = seen_table o.types (slice_get o.tables i)
seen_at o K.Memory i = seen_memory (slice_get o.memories i)
seen_at o K.Global i = seen_global o.types (slice_get o.globals i)
seen_at o K.Tag i = tag (option_and_then (closed_type o.types) (slice_get o.tags i))

pub record SeenImport : Type 0 where
  pub module' : List ℕ
  pub name : List ℕ
  pub is : Seen

pub record SeenExport : Type 0 where
  pub name : List ℕ
  pub is : Seen

abbrev pub seen_import : TypeList → Import → SeenImport
seen_import list i = record { module' = i.module; name = i.name; is = seen_desc list i.desc }

abbrev pub seen_export : Outline → Export → SeenExport
seen_export o e = record { name = e.name; is = seen_at o e.kind e.index }

-- imports and exports are equal lists in all but indices (appendix, Embedding, module_imports and module_exports)
pub record SameOutside (m n : Module) : Type 0 where
  pub imports : map (seen_import m.types) m.imports ≡ map (seen_import n.types) n.imports
  pub exports : map (seen_export (outline m)) m.exports ≡ map (seen_export (outline n)) n.exports

-- what so many steps of the first module show, some number of steps of the second shows too
abbrev pub Follows : Module → Module → Type 0
Follows m n = (script : Script) (steps : ℕ) → (others : ℕ) × Begins (trace m script steps) (trace n script others)

-- no embedder can tell two modules apart
pub record Same (m n : Module) : Type 0 where
  pub outside : SameOutside m n
  pub there : Follows m n
  pub back : Follows n m

-- no embedder can tell two modules apart, and they take equally many steps
pub record SameSteps (m n : Module) : Type 0 where
  pub outside : SameOutside m n
  pub traces : (script : Script) (steps : ℕ) → trace m script steps ≡ trace n script steps
