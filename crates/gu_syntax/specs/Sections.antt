-- How the items of sections are spelled (core specification 3.0, 5.5 Modules).
use Rattle.std.specs.Prelude.{ℕ, ◌≡◌, ◌⊎◌, List, [], ◌∷◌, true, Option, Some, None}
use Rattle.gu_types.specs.declared.types.Abs.TheVariants as A
use Rattle.gu_types.specs.declared.types.HeapType.TheVariants as H
use Rattle.gu_types.specs.declared.types.RefType.{RefType}
use Rattle.gu_syntax.specs.declared.instr.Body.{Body}
use Rattle.gu_syntax.specs.declared.module.Desc.{Desc}
use Rattle.gu_syntax.specs.declared.module.Desc.TheVariants as D
use Rattle.gu_syntax.specs.declared.module.Elem.{Elem}
use Rattle.gu_syntax.specs.declared.module.ElemMode.{ElemMode}
use Rattle.gu_syntax.specs.declared.module.ElemMode.TheVariants as M
use Rattle.gu_syntax.specs.declared.module.Export.{Export}
use Rattle.gu_syntax.specs.declared.module.Func.{Func}
use Rattle.gu_syntax.specs.declared.module.Global.{Global}
use Rattle.gu_syntax.specs.declared.module.Import.{Import}
use Rattle.gu_syntax.specs.declared.module.Items.{Items}
use Rattle.gu_syntax.specs.declared.module.Items.TheVariants as L
use Rattle.gu_syntax.specs.declared.module.Kind.{Kind}
use Rattle.gu_syntax.specs.declared.module.Kind.TheVariants as K
use Rattle.gu_syntax.specs.declared.module.Limits.{Limits}
use Rattle.gu_syntax.specs.declared.module.Seg.{Seg}
use Rattle.gu_syntax.specs.declared.module.SegMode.{SegMode}
use Rattle.gu_syntax.specs.declared.module.SegMode.TheVariants as G
use Rattle.gu_syntax.specs.declared.module.Table.{Table}
use Rattle.gu_syntax.specs.Parts.{Parts, Begins, SpellsU32, SpellsVector, SpellsName, Numbered}
use Rattle.gu_syntax.specs.Types.{SpellsRef, SpellsVal, SpellsMutable, SpellsLimits}
use Rattle.gu_syntax.specs.Expressions.{SpellsBody}

-- what is imported (5.5.5 Import Section)
abbrev pub SpellsDesc : Desc → List ℕ → Type 0
SpellsDesc (D.Func ty) text = Begins 0x00 (SpellsU32 ty) text
SpellsDesc (D.Table elem limits) text = Begins 0x01 (Parts (SpellsRef elem) (SpellsLimits limits)) text
SpellsDesc (D.Memory limits) text = Begins 0x02 (SpellsLimits limits) text
SpellsDesc (D.Global ty mutable) text = Begins 0x03 (Parts (SpellsVal ty) (SpellsMutable mutable)) text
SpellsDesc (D.Tag ty) text = Begins 0x04 (Begins 0x00 (SpellsU32 ty)) text

-- an import
abbrev pub SpellsImport : Import → List ℕ → Type 0
SpellsImport «import» text = Parts (SpellsName «import».module) (Parts (SpellsName «import».name) (SpellsDesc «import».desc)) text

-- the index of a function's type (5.5.6 Function Section)
abbrev pub SpellsTypeIndex : Func → List ℕ → Type 0
SpellsTypeIndex func text = SpellsU32 func.ty text

-- a table, with the bytes 40 00 before it where an initial value stands behind it (5.5.7 Table Section)
abbrev pub SpellsTableAs : RefType → Limits → Option Body → List ℕ → Type 0
SpellsTableAs elem limits None text = Parts (SpellsRef elem) (SpellsLimits limits) text
SpellsTableAs elem limits (Some init) text = Begins 0x40 (Begins 0x00 (Parts (SpellsRef elem) (Parts (SpellsLimits limits) (SpellsBody init)))) text

abbrev pub SpellsTable : Table → List ℕ → Type 0
SpellsTable table text = SpellsTableAs table.elem table.limits table.init text

-- a tag, by the index of its type (5.5.16 Tag Section)
abbrev pub SpellsTag : ℕ → List ℕ → Type 0
SpellsTag ty text = Begins 0x00 (SpellsU32 ty) text

-- a global (5.5.9 Global Section)
abbrev pub SpellsGlobal : Global → List ℕ → Type 0
SpellsGlobal global text = Parts (SpellsVal global.ty) (Parts (SpellsMutable global.mutable) (SpellsBody global.init)) text

-- the kind of what is exported (5.5.10 Export Section)
abbrev pub kind_byte : Kind → ℕ
kind_byte K.Func = 0x00
kind_byte K.Table = 0x01
kind_byte K.Memory = 0x02
kind_byte K.Global = 0x03
kind_byte K.Tag = 0x04

-- an export
abbrev pub SpellsExport : Export → List ℕ → Type 0
SpellsExport export text = Parts (SpellsName export.name) (Begins (kind_byte export.kind) (SpellsU32 export.index)) text

-- the type of a table of functions
abbrev pub funcref : RefType
funcref = record { null = true; heap = H.Abs A.AnyFunc }

-- an element segment, in eight forms: two of them leave out that the table is the first one (5.5.12 Element Section)
abbrev pub SpellsElemAs : ElemMode → Items → List ℕ → Type 0
SpellsElemAs (M.Active table offset) (L.Funcs funcs) text = ((table ≡ 0) × Numbered 0 (Parts (SpellsBody offset) (SpellsVector SpellsU32 funcs)) text) ⊎ Numbered 2 (Parts (SpellsU32 table) (Parts (SpellsBody offset) (Begins 0x00 (SpellsVector SpellsU32 funcs)))) text
SpellsElemAs M.Passive (L.Funcs funcs) text = Numbered 1 (Begins 0x00 (SpellsVector SpellsU32 funcs)) text
SpellsElemAs M.Declared (L.Funcs funcs) text = Numbered 3 (Begins 0x00 (SpellsVector SpellsU32 funcs)) text
SpellsElemAs (M.Active table offset) (L.Exprs ty exprs) text = ((table ≡ 0) × (ty ≡ funcref) × Numbered 4 (Parts (SpellsBody offset) (SpellsVector SpellsBody exprs)) text) ⊎ Numbered 6 (Parts (SpellsU32 table) (Parts (SpellsBody offset) (Parts (SpellsRef ty) (SpellsVector SpellsBody exprs)))) text
SpellsElemAs M.Passive (L.Exprs ty exprs) text = Numbered 5 (Parts (SpellsRef ty) (SpellsVector SpellsBody exprs)) text
SpellsElemAs M.Declared (L.Exprs ty exprs) text = Numbered 7 (Parts (SpellsRef ty) (SpellsVector SpellsBody exprs)) text

abbrev pub SpellsElem : Elem → List ℕ → Type 0
SpellsElem elem text = SpellsElemAs elem.mode elem.items text

-- a byte
abbrev pub SpellsByte : ℕ → List ℕ → Type 0
SpellsByte byte text = text ≡ byte ∷ []

-- a data segment, in three forms: one leaves out that the memory is the first one (5.5.14 Data Section)
abbrev pub SpellsSegAs : SegMode → List ℕ → List ℕ → Type 0
SpellsSegAs (G.Active memory offset) bytes text = ((memory ≡ 0) × Numbered 0 (Parts (SpellsBody offset) (SpellsVector SpellsByte bytes)) text) ⊎ Numbered 2 (Parts (SpellsU32 memory) (Parts (SpellsBody offset) (SpellsVector SpellsByte bytes))) text
SpellsSegAs G.Passive bytes text = Numbered 1 (SpellsVector SpellsByte bytes) text

abbrev pub SpellsSeg : Seg → List ℕ → Type 0
SpellsSeg seg text = SpellsSegAs seg.mode seg.bytes text
