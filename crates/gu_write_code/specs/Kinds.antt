-- The kinds of instructions, which go by what they are about (core specification 3.0, 2.4 Instructions).
use Rattle.gu_syntax.specs.declared.instr.Instr.{Instr}
use Rattle.gu_syntax.specs.declared.instr.Instr.TheVariants as I

pub data Kind : Type 0 where
  control : Kind
  call : Kind
  variable : Kind
  load : Kind
  store : Kind
  reference : Kind
  structure : Kind
  array : Kind
  bulk : Kind
  -- an instruction that holds a list
  listed : Kind
  -- an instruction that holds code
  nested : Kind

abbrev pub kind_of : Instr → Kind
kind_of I.Unreachable = control
kind_of I.Nop = control
kind_of (I.Throw x) = control
kind_of I.ThrowRef = control
kind_of (I.Br x) = control
kind_of (I.BrIf x) = control
kind_of I.Return = control
kind_of I.Drop = control
kind_of I.Select = control
kind_of (I.BrOnNull x) = control
kind_of (I.BrOnNonNull x) = control
kind_of (I.BrOnCast x) = control
kind_of (I.BrOnCastFail x) = control
kind_of (I.Call x) = call
kind_of (I.CallIndirect x y) = call
kind_of (I.ReturnCall x) = call
kind_of (I.ReturnCallIndirect x y) = call
kind_of (I.CallRef x) = call
kind_of (I.ReturnCallRef x) = call
kind_of (I.LocalGet x) = variable
kind_of (I.LocalSet x) = variable
kind_of (I.LocalTee x) = variable
kind_of (I.GlobalGet x) = variable
kind_of (I.GlobalSet x) = variable
kind_of (I.TableGet x) = variable
kind_of (I.TableSet x) = variable
kind_of (I.I32Const x) = variable
kind_of (I.I64Const x) = variable
kind_of (I.Num x) = variable
kind_of (I.I32Load x) = load
kind_of (I.I64Load x) = load
kind_of (I.I32Load8S x) = load
kind_of (I.I32Load8U x) = load
kind_of (I.I32Load16S x) = load
kind_of (I.I32Load16U x) = load
kind_of (I.I64Load8S x) = load
kind_of (I.I64Load8U x) = load
kind_of (I.I64Load16S x) = load
kind_of (I.I64Load16U x) = load
kind_of (I.I64Load32S x) = load
kind_of (I.I64Load32U x) = load
kind_of (I.I32Store x) = store
kind_of (I.I64Store x) = store
kind_of (I.I32Store8 x) = store
kind_of (I.I32Store16 x) = store
kind_of (I.I64Store8 x) = store
kind_of (I.I64Store16 x) = store
kind_of (I.I64Store32 x) = store
kind_of (I.MemorySize x) = store
kind_of (I.MemoryGrow x) = store
kind_of (I.RefNull x) = reference
kind_of I.RefIsNull = reference
kind_of (I.RefFunc x) = reference
kind_of I.RefEq = reference
kind_of I.RefAsNonNull = reference
kind_of (I.RefTest x) = reference
kind_of (I.RefCast x) = reference
kind_of I.AnyConvertExtern = reference
kind_of I.ExternConvertAny = reference
kind_of I.RefI31 = reference
kind_of I.I31GetS = reference
kind_of I.I31GetU = reference
kind_of (I.StructNew x) = structure
kind_of (I.StructNewDefault x) = structure
kind_of (I.StructGet x y) = structure
kind_of (I.StructGetS x y) = structure
kind_of (I.StructGetU x y) = structure
kind_of (I.StructSet x y) = structure
kind_of (I.ArrayNew x) = structure
kind_of (I.ArrayNewDefault x) = structure
kind_of (I.ArrayNewFixed x y) = structure
kind_of (I.ArrayNewData x y) = structure
kind_of (I.ArrayNewElem x y) = structure
kind_of (I.ArrayGet x) = array
kind_of (I.ArrayGetS x) = array
kind_of (I.ArrayGetU x) = array
kind_of (I.ArraySet x) = array
kind_of I.ArrayLen = array
kind_of (I.ArrayFill x) = array
kind_of (I.ArrayCopy x y) = array
kind_of (I.ArrayInitData x y) = array
kind_of (I.ArrayInitElem x y) = array
kind_of (I.MemoryInit x y) = bulk
kind_of (I.DataDrop x) = bulk
kind_of (I.MemoryCopy x y) = bulk
kind_of (I.MemoryFill x) = bulk
kind_of (I.TableInit x y) = bulk
kind_of (I.ElemDrop x) = bulk
kind_of (I.TableCopy x y) = bulk
kind_of (I.TableGrow x) = bulk
kind_of (I.TableSize x) = bulk
kind_of (I.TableFill x) = bulk
kind_of (I.BrTable table) = listed
kind_of (I.SelectOf types) = listed
kind_of _ = nested
