-- How deep blocks are nested (core specification 3.0, 2.4 Instructions, Control Instructions).
use Rattle.std.specs.Prelude.{ℕ, suc, ◌≡◌}
use Rattle.std.specs.List.{AllByRecursion}
use Rattle.gu_syntax.specs.Code.{Ins, Code, leaf, block, loop, choice, try_table, done, next, code_of}
use Rattle.gu_syntax.specs.declared.instr.Body.{Body}
use Rattle.gu_syntax.specs.declared.module.Elem.{Elem}
use Rattle.gu_syntax.specs.declared.module.ElemMode.{ElemMode}
use Rattle.gu_syntax.specs.declared.module.ElemMode.TheVariants as M
use Rattle.gu_syntax.specs.declared.module.Func.{Func}
use Rattle.gu_syntax.specs.declared.module.Global.{Global}
use Rattle.gu_syntax.specs.declared.module.Items.{Items}
use Rattle.gu_syntax.specs.declared.module.Items.TheVariants as L
use Rattle.gu_syntax.specs.declared.module.Module.{Module}
use Rattle.gu_syntax.specs.declared.module.Seg.{Seg}
use Rattle.gu_syntax.specs.declared.module.SegMode.{SegMode}
use Rattle.gu_syntax.specs.declared.module.SegMode.TheVariants as G
use Rattle.gu_syntax.specs.declared.module.Table.{Table}
use Rattle.gu_syntax.specs.Shape.{IfSome}

abbrev mutual
  -- no more blocks than these are open at once
  pub NestsWithin : (room : ℕ) → Code → Type 0
  NestsWithin room done = Unit {0}
  NestsWithin room (next ins code) = NestsIns room ins × NestsWithin room code

  pub NestsIns : (room : ℕ) → Ins → Type 0
  NestsIns room (leaf instr) = Unit {0}
  NestsIns room (block ty code) = (lower : ℕ) × (room ≡ suc lower) × NestsWithin lower code
  NestsIns room (loop ty code) = (lower : ℕ) × (room ≡ suc lower) × NestsWithin lower code
  NestsIns room (choice ty yes' no') = (lower : ℕ) × (room ≡ suc lower) × NestsWithin lower yes' × NestsWithin lower no'
  NestsIns room (try_table ty catches code) = (lower : ℕ) × (room ≡ suc lower) × NestsWithin lower code

abbrev pub NestsBody : (room : ℕ) → Body → Type 0
NestsBody room body = NestsWithin room (code_of body.code)

abbrev pub NestsElemMode : (room : ℕ) → ElemMode → Type 0
NestsElemMode room (M.Active table offset) = NestsBody room offset
NestsElemMode room M.Passive = Unit {0}
NestsElemMode room M.Declared = Unit {0}

abbrev pub NestsItems : (room : ℕ) → Items → Type 0
NestsItems room (L.Funcs funcs) = Unit {0}
NestsItems room (L.Exprs ty exprs) = AllByRecursion (NestsBody room) exprs

abbrev pub NestsElem : (room : ℕ) → Elem → Type 0
NestsElem room elem = NestsElemMode room elem.mode × NestsItems room elem.items

abbrev pub NestsSegMode : (room : ℕ) → SegMode → Type 0
NestsSegMode room (G.Active memory offset) = NestsBody room offset
NestsSegMode room G.Passive = Unit {0}

abbrev pub NestsSeg : (room : ℕ) → Seg → Type 0
NestsSeg room seg = NestsSegMode room seg.mode

abbrev pub NestsTable : (room : ℕ) → Table → Type 0
NestsTable room table = IfSome (NestsBody room) table.init

abbrev pub NestsGlobal : (room : ℕ) → Global → Type 0
NestsGlobal room global = NestsBody room global.init

abbrev pub NestsFunc : (room : ℕ) → Func → Type 0
NestsFunc room func = NestsBody room func.body

-- no body and no constant expression of the module has more blocks open at once
pub record IsShallow (room : ℕ) (m : Module) : Type 0 where
  pub tables : AllByRecursion (NestsTable room) m.tables
  pub globals : AllByRecursion (NestsGlobal room) m.globals
  pub elems : AllByRecursion (NestsElem room) m.elems
  pub funcs : AllByRecursion (NestsFunc room) m.funcs
  pub segs : AllByRecursion (NestsSeg room) m.segs
