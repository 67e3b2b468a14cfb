-- Where no arm of a table fits, the instruction is of another kind.
use Rattle.std.proofs.Common.{ℕ, ◌≡◌, ◌≢◌, refl, ℤ}
use Rattle.gu_syntax.specs.declared.instr.Instr.{Instr}
use Rattle.gu_syntax.specs.declared.instr.Instr.TheVariants as I
use Rattle.gu_write_code.specs.Kinds.{Kind, kind_of}
use Rattle.gu_write_code.specs.Kinds as kinds

pub not_control : (i : Instr) → i ≢ I.Unreachable → i ≢ I.Nop → ((x : ℕ) → i ≢ I.Throw x) → i ≢ I.ThrowRef → ((x : ℕ) → i ≢ I.Br x) → ((x : ℕ) → i ≢ I.BrIf x) → i ≢ I.Return → i ≢ I.Drop → i ≢ I.Select → ((x : ℕ) → i ≢ I.BrOnNull x) → ((x : ℕ) → i ≢ I.BrOnNonNull x) → ((x : _) → i ≢ I.BrOnCast x) → ((x : _) → i ≢ I.BrOnCastFail x) → kind_of i ≢ kinds.control
not_control I.Unreachable h0 h1 h2 h3 h4 h5 h6 h7 h8 h9 h10 h11 h12 e = absurd (h0 refl)
not_control I.Nop h0 h1 h2 h3 h4 h5 h6 h7 h8 h9 h10 h11 h12 e = absurd (h1 refl)
not_control (I.Throw x) h0 h1 h2 h3 h4 h5 h6 h7 h8 h9 h10 h11 h12 e = absurd (h2 x refl)
not_control I.ThrowRef h0 h1 h2 h3 h4 h5 h6 h7 h8 h9 h10 h11 h12 e = absurd (h3 refl)
not_control (I.Br x) h0 h1 h2 h3 h4 h5 h6 h7 h8 h9 h10 h11 h12 e = absurd (h4 x refl)
not_control (I.BrIf x) h0 h1 h2 h3 h4 h5 h6 h7 h8 h9 h10 h11 h12 e = absurd (h5 x refl)
not_control I.Return h0 h1 h2 h3 h4 h5 h6 h7 h8 h9 h10 h11 h12 e = absurd (h6 refl)
not_control I.Drop h0 h1 h2 h3 h4 h5 h6 h7 h8 h9 h10 h11 h12 e = absurd (h7 refl)
not_control I.Select h0 h1 h2 h3 h4 h5 h6 h7 h8 h9 h10 h11 h12 e = absurd (h8 refl)
not_control (I.BrOnNull x) h0 h1 h2 h3 h4 h5 h6 h7 h8 h9 h10 h11 h12 e = absurd (h9 x refl)
not_control (I.BrOnNonNull x) h0 h1 h2 h3 h4 h5 h6 h7 h8 h9 h10 h11 h12 e = absurd (h10 x refl)
not_control (I.BrOnCast x) h0 h1 h2 h3 h4 h5 h6 h7 h8 h9 h10 h11 h12 e = absurd (h11 x refl)
not_control (I.BrOnCastFail x) h0 h1 h2 h3 h4 h5 h6 h7 h8 h9 h10 h11 h12 e = absurd (h12 x refl)
not_control i h0 h1 h2 h3 h4 h5 h6 h7 h8 h9 h10 h11 h12 e = cc

pub not_call : (i : Instr) → ((x : ℕ) → i ≢ I.Call x) → ((x : ℕ) (y : ℕ) → i ≢ I.CallIndirect x y) → ((x : ℕ) → i ≢ I.ReturnCall x) → ((x : ℕ) (y : ℕ) → i ≢ I.ReturnCallIndirect x y) → ((x : ℕ) → i ≢ I.CallRef x) → ((x : ℕ) → i ≢ I.ReturnCallRef x) → kind_of i ≢ kinds.call
not_call (I.Call x) h0 h1 h2 h3 h4 h5 e = absurd (h0 x refl)
not_call (I.CallIndirect x y) h0 h1 h2 h3 h4 h5 e = absurd (h1 x y refl)
not_call (I.ReturnCall x) h0 h1 h2 h3 h4 h5 e = absurd (h2 x refl)
not_call (I.ReturnCallIndirect x y) h0 h1 h2 h3 h4 h5 e = absurd (h3 x y refl)
not_call (I.CallRef x) h0 h1 h2 h3 h4 h5 e = absurd (h4 x refl)
not_call (I.ReturnCallRef x) h0 h1 h2 h3 h4 h5 e = absurd (h5 x refl)
not_call i h0 h1 h2 h3 h4 h5 e = cc

pub not_variable : (i : Instr) → ((x : ℕ) → i ≢ I.LocalGet x) → ((x : ℕ) → i ≢ I.LocalSet x) → ((x : ℕ) → i ≢ I.LocalTee x) → ((x : ℕ) → i ≢ I.GlobalGet x) → ((x : ℕ) → i ≢ I.GlobalSet x) → ((x : ℕ) → i ≢ I.TableGet x) → ((x : ℕ) → i ≢ I.TableSet x) → ((x : ℤ) → i ≢ I.I32Const x) → ((x : ℤ) → i ≢ I.I64Const x) → ((x : _) → i ≢ I.Num x) → kind_of i ≢ kinds.variable
not_variable (I.LocalGet x) h0 h1 h2 h3 h4 h5 h6 h7 h8 h9 e = absurd (h0 x refl)
not_variable (I.LocalSet x) h0 h1 h2 h3 h4 h5 h6 h7 h8 h9 e = absurd (h1 x refl)
not_variable (I.LocalTee x) h0 h1 h2 h3 h4 h5 h6 h7 h8 h9 e = absurd (h2 x refl)
not_variable (I.GlobalGet x) h0 h1 h2 h3 h4 h5 h6 h7 h8 h9 e = absurd (h3 x refl)
not_variable (I.GlobalSet x) h0 h1 h2 h3 h4 h5 h6 h7 h8 h9 e = absurd (h4 x refl)
not_variable (I.TableGet x) h0 h1 h2 h3 h4 h5 h6 h7 h8 h9 e = absurd (h5 x refl)
not_variable (I.TableSet x) h0 h1 h2 h3 h4 h5 h6 h7 h8 h9 e = absurd (h6 x refl)
not_variable (I.I32Const x) h0 h1 h2 h3 h4 h5 h6 h7 h8 h9 e = absurd (h7 x refl)
not_variable (I.I64Const x) h0 h1 h2 h3 h4 h5 h6 h7 h8 h9 e = absurd (h8 x refl)
not_variable (I.Num x) h0 h1 h2 h3 h4 h5 h6 h7 h8 h9 e = absurd (h9 x refl)
not_variable i h0 h1 h2 h3 h4 h5 h6 h7 h8 h9 e = cc

pub not_load : (i : Instr) → ((x : _) → i ≢ I.I32Load x) → ((x : _) → i ≢ I.I64Load x) → ((x : _) → i ≢ I.I32Load8S x) → ((x : _) → i ≢ I.I32Load8U x) → ((x : _) → i ≢ I.I32Load16S x) → ((x : _) → i ≢ I.I32Load16U x) → ((x : _) → i ≢ I.I64Load8S x) → ((x : _) → i ≢ I.I64Load8U x) → ((x : _) → i ≢ I.I64Load16S x) → ((x : _) → i ≢ I.I64Load16U x) → ((x : _) → i ≢ I.I64Load32S x) → ((x : _) → i ≢ I.I64Load32U x) → kind_of i ≢ kinds.load
not_load (I.I32Load x) h0 h1 h2 h3 h4 h5 h6 h7 h8 h9 h10 h11 e = absurd (h0 x refl)
not_load (I.I64Load x) h0 h1 h2 h3 h4 h5 h6 h7 h8 h9 h10 h11 e = absurd (h1 x refl)
not_load (I.I32Load8S x) h0 h1 h2 h3 h4 h5 h6 h7 h8 h9 h10 h11 e = absurd (h2 x refl)
not_load (I.I32Load8U x) h0 h1 h2 h3 h4 h5 h6 h7 h8 h9 h10 h11 e = absurd (h3 x refl)
not_load (I.I32Load16S x) h0 h1 h2 h3 h4 h5 h6 h7 h8 h9 h10 h11 e = absurd (h4 x refl)
not_load (I.I32Load16U x) h0 h1 h2 h3 h4 h5 h6 h7 h8 h9 h10 h11 e = absurd (h5 x refl)
not_load (I.I64Load8S x) h0 h1 h2 h3 h4 h5 h6 h7 h8 h9 h10 h11 e = absurd (h6 x refl)
not_load (I.I64Load8U x) h0 h1 h2 h3 h4 h5 h6 h7 h8 h9 h10 h11 e = absurd (h7 x refl)
not_load (I.I64Load16S x) h0 h1 h2 h3 h4 h5 h6 h7 h8 h9 h10 h11 e = absurd (h8 x refl)
not_load (I.I64Load16U x) h0 h1 h2 h3 h4 h5 h6 h7 h8 h9 h10 h11 e = absurd (h9 x refl)
not_load (I.I64Load32S x) h0 h1 h2 h3 h4 h5 h6 h7 h8 h9 h10 h11 e = absurd (h10 x refl)
not_load (I.I64Load32U x) h0 h1 h2 h3 h4 h5 h6 h7 h8 h9 h10 h11 e = absurd (h11 x refl)
not_load i h0 h1 h2 h3 h4 h5 h6 h7 h8 h9 h10 h11 e = cc

pub not_store : (i : Instr) → ((x : _) → i ≢ I.I32Store x) → ((x : _) → i ≢ I.I64Store x) → ((x : _) → i ≢ I.I32Store8 x) → ((x : _) → i ≢ I.I32Store16 x) → ((x : _) → i ≢ I.I64Store8 x) → ((x : _) → i ≢ I.I64Store16 x) → ((x : _) → i ≢ I.I64Store32 x) → ((x : ℕ) → i ≢ I.MemorySize x) → ((x : ℕ) → i ≢ I.MemoryGrow x) → kind_of i ≢ kinds.store
not_store (I.I32Store x) h0 h1 h2 h3 h4 h5 h6 h7 h8 e = absurd (h0 x refl)
not_store (I.I64Store x) h0 h1 h2 h3 h4 h5 h6 h7 h8 e = absurd (h1 x refl)
not_store (I.I32Store8 x) h0 h1 h2 h3 h4 h5 h6 h7 h8 e = absurd (h2 x refl)
not_store (I.I32Store16 x) h0 h1 h2 h3 h4 h5 h6 h7 h8 e = absurd (h3 x refl)
not_store (I.I64Store8 x) h0 h1 h2 h3 h4 h5 h6 h7 h8 e = absurd (h4 x refl)
not_store (I.I64Store16 x) h0 h1 h2 h3 h4 h5 h6 h7 h8 e = absurd (h5 x refl)
not_store (I.I64Store32 x) h0 h1 h2 h3 h4 h5 h6 h7 h8 e = absurd (h6 x refl)
not_store (I.MemorySize x) h0 h1 h2 h3 h4 h5 h6 h7 h8 e = absurd (h7 x refl)
not_store (I.MemoryGrow x) h0 h1 h2 h3 h4 h5 h6 h7 h8 e = absurd (h8 x refl)
not_store i h0 h1 h2 h3 h4 h5 h6 h7 h8 e = cc

pub not_reference : (i : Instr) → ((x : _) → i ≢ I.RefNull x) → i ≢ I.RefIsNull → ((x : ℕ) → i ≢ I.RefFunc x) → i ≢ I.RefEq → i ≢ I.RefAsNonNull → ((x : _) → i ≢ I.RefTest x) → ((x : _) → i ≢ I.RefCast x) → i ≢ I.AnyConvertExtern → i ≢ I.ExternConvertAny → i ≢ I.RefI31 → i ≢ I.I31GetS → i ≢ I.I31GetU → kind_of i ≢ kinds.reference
not_reference (I.RefNull x) h0 h1 h2 h3 h4 h5 h6 h7 h8 h9 h10 h11 e = absurd (h0 x refl)
not_reference I.RefIsNull h0 h1 h2 h3 h4 h5 h6 h7 h8 h9 h10 h11 e = absurd (h1 refl)
not_reference (I.RefFunc x) h0 h1 h2 h3 h4 h5 h6 h7 h8 h9 h10 h11 e = absurd (h2 x refl)
not_reference I.RefEq h0 h1 h2 h3 h4 h5 h6 h7 h8 h9 h10 h11 e = absurd (h3 refl)
not_reference I.RefAsNonNull h0 h1 h2 h3 h4 h5 h6 h7 h8 h9 h10 h11 e = absurd (h4 refl)
not_reference (I.RefTest x) h0 h1 h2 h3 h4 h5 h6 h7 h8 h9 h10 h11 e = absurd (h5 x refl)
not_reference (I.RefCast x) h0 h1 h2 h3 h4 h5 h6 h7 h8 h9 h10 h11 e = absurd (h6 x refl)
not_reference I.AnyConvertExtern h0 h1 h2 h3 h4 h5 h6 h7 h8 h9 h10 h11 e = absurd (h7 refl)
not_reference I.ExternConvertAny h0 h1 h2 h3 h4 h5 h6 h7 h8 h9 h10 h11 e = absurd (h8 refl)
not_reference I.RefI31 h0 h1 h2 h3 h4 h5 h6 h7 h8 h9 h10 h11 e = absurd (h9 refl)
not_reference I.I31GetS h0 h1 h2 h3 h4 h5 h6 h7 h8 h9 h10 h11 e = absurd (h10 refl)
not_reference I.I31GetU h0 h1 h2 h3 h4 h5 h6 h7 h8 h9 h10 h11 e = absurd (h11 refl)
not_reference i h0 h1 h2 h3 h4 h5 h6 h7 h8 h9 h10 h11 e = cc

pub not_structure : (i : Instr) → ((x : ℕ) → i ≢ I.StructNew x) → ((x : ℕ) → i ≢ I.StructNewDefault x) → ((x : ℕ) (y : ℕ) → i ≢ I.StructGet x y) → ((x : ℕ) (y : ℕ) → i ≢ I.StructGetS x y) → ((x : ℕ) (y : ℕ) → i ≢ I.StructGetU x y) → ((x : ℕ) (y : ℕ) → i ≢ I.StructSet x y) → ((x : ℕ) → i ≢ I.ArrayNew x) → ((x : ℕ) → i ≢ I.ArrayNewDefault x) → ((x : ℕ) (y : ℕ) → i ≢ I.ArrayNewFixed x y) → ((x : ℕ) (y : ℕ) → i ≢ I.ArrayNewData x y) → ((x : ℕ) (y : ℕ) → i ≢ I.ArrayNewElem x y) → kind_of i ≢ kinds.structure
not_structure (I.StructNew x) h0 h1 h2 h3 h4 h5 h6 h7 h8 h9 h10 e = absurd (h0 x refl)
not_structure (I.StructNewDefault x) h0 h1 h2 h3 h4 h5 h6 h7 h8 h9 h10 e = absurd (h1 x refl)
not_structure (I.StructGet x y) h0 h1 h2 h3 h4 h5 h6 h7 h8 h9 h10 e = absurd (h2 x y refl)
not_structure (I.StructGetS x y) h0 h1 h2 h3 h4 h5 h6 h7 h8 h9 h10 e = absurd (h3 x y refl)
not_structure (I.StructGetU x y) h0 h1 h2 h3 h4 h5 h6 h7 h8 h9 h10 e = absurd (h4 x y refl)
not_structure (I.StructSet x y) h0 h1 h2 h3 h4 h5 h6 h7 h8 h9 h10 e = absurd (h5 x y refl)
not_structure (I.ArrayNew x) h0 h1 h2 h3 h4 h5 h6 h7 h8 h9 h10 e = absurd (h6 x refl)
not_structure (I.ArrayNewDefault x) h0 h1 h2 h3 h4 h5 h6 h7 h8 h9 h10 e = absurd (h7 x refl)
not_structure (I.ArrayNewFixed x y) h0 h1 h2 h3 h4 h5 h6 h7 h8 h9 h10 e = absurd (h8 x y refl)
not_structure (I.ArrayNewData x y) h0 h1 h2 h3 h4 h5 h6 h7 h8 h9 h10 e = absurd (h9 x y refl)
not_structure (I.ArrayNewElem x y) h0 h1 h2 h3 h4 h5 h6 h7 h8 h9 h10 e = absurd (h10 x y refl)
not_structure i h0 h1 h2 h3 h4 h5 h6 h7 h8 h9 h10 e = cc

pub not_array : (i : Instr) → ((x : ℕ) → i ≢ I.ArrayGet x) → ((x : ℕ) → i ≢ I.ArrayGetS x) → ((x : ℕ) → i ≢ I.ArrayGetU x) → ((x : ℕ) → i ≢ I.ArraySet x) → i ≢ I.ArrayLen → ((x : ℕ) → i ≢ I.ArrayFill x) → ((x : ℕ) (y : ℕ) → i ≢ I.ArrayCopy x y) → ((x : ℕ) (y : ℕ) → i ≢ I.ArrayInitData x y) → ((x : ℕ) (y : ℕ) → i ≢ I.ArrayInitElem x y) → kind_of i ≢ kinds.array
not_array (I.ArrayGet x) h0 h1 h2 h3 h4 h5 h6 h7 h8 e = absurd (h0 x refl)
not_array (I.ArrayGetS x) h0 h1 h2 h3 h4 h5 h6 h7 h8 e = absurd (h1 x refl)
not_array (I.ArrayGetU x) h0 h1 h2 h3 h4 h5 h6 h7 h8 e = absurd (h2 x refl)
not_array (I.ArraySet x) h0 h1 h2 h3 h4 h5 h6 h7 h8 e = absurd (h3 x refl)
not_array I.ArrayLen h0 h1 h2 h3 h4 h5 h6 h7 h8 e = absurd (h4 refl)
not_array (I.ArrayFill x) h0 h1 h2 h3 h4 h5 h6 h7 h8 e = absurd (h5 x refl)
not_array (I.ArrayCopy x y) h0 h1 h2 h3 h4 h5 h6 h7 h8 e = absurd (h6 x y refl)
not_array (I.ArrayInitData x y) h0 h1 h2 h3 h4 h5 h6 h7 h8 e = absurd (h7 x y refl)
not_array (I.ArrayInitElem x y) h0 h1 h2 h3 h4 h5 h6 h7 h8 e = absurd (h8 x y refl)
not_array i h0 h1 h2 h3 h4 h5 h6 h7 h8 e = cc

pub not_bulk : (i : Instr) → ((x : ℕ) (y : ℕ) → i ≢ I.MemoryInit x y) → ((x : ℕ) → i ≢ I.DataDrop x) → ((x : ℕ) (y : ℕ) → i ≢ I.MemoryCopy x y) → ((x : ℕ) → i ≢ I.MemoryFill x) → ((x : ℕ) (y : ℕ) → i ≢ I.TableInit x y) → ((x : ℕ) → i ≢ I.ElemDrop x) → ((x : ℕ) (y : ℕ) → i ≢ I.TableCopy x y) → ((x : ℕ) → i ≢ I.TableGrow x) → ((x : ℕ) → i ≢ I.TableSize x) → ((x : ℕ) → i ≢ I.TableFill x) → kind_of i ≢ kinds.bulk
not_bulk (I.MemoryInit x y) h0 h1 h2 h3 h4 h5 h6 h7 h8 h9 e = absurd (h0 x y refl)
not_bulk (I.DataDrop x) h0 h1 h2 h3 h4 h5 h6 h7 h8 h9 e = absurd (h1 x refl)
not_bulk (I.MemoryCopy x y) h0 h1 h2 h3 h4 h5 h6 h7 h8 h9 e = absurd (h2 x y refl)
not_bulk (I.MemoryFill x) h0 h1 h2 h3 h4 h5 h6 h7 h8 h9 e = absurd (h3 x refl)
not_bulk (I.TableInit x y) h0 h1 h2 h3 h4 h5 h6 h7 h8 h9 e = absurd (h4 x y refl)
not_bulk (I.ElemDrop x) h0 h1 h2 h3 h4 h5 h6 h7 h8 h9 e = absurd (h5 x refl)
not_bulk (I.TableCopy x y) h0 h1 h2 h3 h4 h5 h6 h7 h8 h9 e = absurd (h6 x y refl)
not_bulk (I.TableGrow x) h0 h1 h2 h3 h4 h5 h6 h7 h8 h9 e = absurd (h7 x refl)
not_bulk (I.TableSize x) h0 h1 h2 h3 h4 h5 h6 h7 h8 h9 e = absurd (h8 x refl)
not_bulk (I.TableFill x) h0 h1 h2 h3 h4 h5 h6 h7 h8 h9 e = absurd (h9 x refl)
not_bulk i h0 h1 h2 h3 h4 h5 h6 h7 h8 h9 e = cc

-- an instruction that holds a list is one of two
pub listed_is_known : (i : Instr) → kind_of i ≡ kinds.listed → ((x : _) → i ≢ I.BrTable x) → ((x : _) → i ≢ I.SelectOf x) → ⊥
listed_is_known (I.BrTable table) e b s = b table refl
listed_is_known (I.SelectOf types) e b s = s types refl
listed_is_known i e b s = cc
