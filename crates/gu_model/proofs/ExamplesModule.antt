-- Validity at a closed module: two classes with a virtual method each, whose tables of methods are immutable globals,
-- and a program that makes an object of one of them and calls its method.
use Rattle.std.proofs.Common.{ℕ, List, [], ◌∷◌, ◌≡◌, refl, Bool, true, false, None, pos}
use Rattle.gu_types.specs.declared.types.Comp.{Comp}
use Rattle.gu_types.specs.declared.types.Comp.TheVariants as C
use Rattle.gu_types.specs.declared.types.FieldType.{FieldType}
use Rattle.gu_types.specs.declared.types.HeapType.TheVariants as H
use Rattle.gu_types.specs.declared.types.Storage.TheVariants as S
use Rattle.gu_types.specs.declared.types.SubType.{SubType}
use Rattle.gu_types.specs.declared.types.ValType.{ValType}
use Rattle.gu_types.specs.declared.types.ValType.TheVariants.{I32}
use Rattle.gu_rec.specs.Closed.{closed_type, closed_types}
use Rattle.gu_rec.specs.Tests.{same_type, eq_sub, eq_group}
use Rattle.gu_rec.specs.Sub.{is_sub, line}
use Rattle.gu_rec.specs.Validity.{supers_hold_at}
use Rattle.gu_syntax.specs.declared.instr.Body.{Body}
use Rattle.gu_syntax.specs.declared.instr.Instr.{Instr}
use Rattle.gu_syntax.specs.declared.instr.Instr.TheVariants as I
use Rattle.gu_syntax.specs.declared.module.Desc.TheVariants as D
use Rattle.gu_syntax.specs.declared.module.Func.{Func}
use Rattle.gu_syntax.specs.declared.module.Kind.TheVariants as K
use Rattle.gu_syntax.specs.declared.module.Module.{Module}
use Rattle.gu_syntax.specs.Code.{ins_of, code_row, code_of}
use Rattle.gu_model.specs.Index.{FuncType}
use Rattle.gu_model.specs.TypingContext.{idx}
use Rattle.gu_model.specs.Typing.{is_typed_body}
use Rattle.gu_model.specs.Valid.{is_constant_body}
use Rattle.gu_model.specs.ValidContext.{context, needs_count, declared}

abbrev sub : Bool → List ℕ → Comp → SubType
sub is_final supers comp = record { is_final = is_final; supers = supers; comp = comp }

abbrev fixed : ValType → FieldType
fixed t = record { storage = S.Val t; mutable = false }

abbrev number : FieldType
number = record { storage = S.Val I32; mutable = true }

abbrev method : List Instr → Func
method is = record { ty = 0; locals = []; body = record { code = is } }

abbrev body : List Instr → Body
body is = record { code = is }

abbrev objects : Module
objects = record {
  types = record {
    groups =
        record {
          types =
              sub true [] (C.Func (idx 2 ∷ []) (I32 ∷ [])) ∷
              sub false [] (C.Struct (fixed (idx 0) ∷ [])) ∷
              sub false [] (C.Struct (fixed (idx 1) ∷ number ∷ [])) ∷
              sub true (1 ∷ []) (C.Struct (fixed (idx 0) ∷ [])) ∷
              sub true (1 ∷ []) (C.Struct (fixed (idx 0) ∷ [])) ∷
              sub true (2 ∷ []) (C.Struct (fixed (idx 3) ∷ number ∷ number ∷ [])) ∷
              sub true (2 ∷ []) (C.Struct (fixed (idx 4) ∷ number ∷ number ∷ number ∷ [])) ∷ [];
        } ∷
        record { types = sub true [] (C.Func (I32 ∷ []) []) ∷ [] } ∷
        record { types = sub true [] (C.Func [] []) ∷ [] } ∷ [];
  };
  imports = record { «module» = []; name = []; desc = D.Func 7 } ∷ [];
  funcs =
      record { ty = 0; locals = (1, idx 5) ∷ []; body = body (I.LocalGet 0 ∷ I.RefCast (record { null = false; heap = H.Idx 5 }) ∷ I.LocalSet 1 ∷ I.LocalGet 1 ∷ I.StructGet 5 2 ∷ I.LocalGet 1 ∷ I.StructGet 5 2 ∷ I.Num (record { row = 27 }) ∷ []) } ∷
      record { ty = 0; locals = (1, idx 6) ∷ []; body = body (I.LocalGet 0 ∷ I.RefCast (record { null = false; heap = H.Idx 6 }) ∷ I.LocalSet 1 ∷ I.LocalGet 1 ∷ I.StructGet 6 2 ∷ I.LocalGet 1 ∷ I.StructGet 6 3 ∷ I.Num (record { row = 27 }) ∷ []) } ∷
      method (I.LocalGet 0 ∷ I.LocalGet 0 ∷ I.StructGet 2 0 ∷ I.StructGet 1 0 ∷ I.CallRef 0 ∷ []) ∷
      record { ty = 8; locals = []; body = body (I.GlobalGet 0 ∷ I.I32Const (pos 1) ∷ I.I32Const (pos 4) ∷ I.StructNew 5 ∷ I.Call 3 ∷ I.Call 0 ∷ []) } ∷ [];
  tables = [];
  memories = [];
  tags = [];
  globals =
      record { ty = idx 3; mutable = false; init = body (I.RefFunc 1 ∷ I.StructNew 3 ∷ []) } ∷
      record { ty = idx 4; mutable = false; init = body (I.RefFunc 2 ∷ I.StructNew 4 ∷ []) } ∷ [];
  exports = record { name = []; kind = K.Func; index = 4 } ∷ [];
  start = None;
  elems = [];
  has_count = false;
  segs = [];
}

abbrev area : FuncType
area = record { params = idx 2 ∷ []; results = I32 ∷ [] }

typed_square : is_typed_body (context objects) area ((1, idx 5) ∷ []) (code_of (I.LocalGet 0 ∷ I.RefCast (record { null = false; heap = H.Idx 5 }) ∷ I.LocalSet 1 ∷ I.LocalGet 1 ∷ I.StructGet 5 2 ∷ I.LocalGet 1 ∷ I.StructGet 5 2 ∷ I.Num (record { row = 27 }) ∷ [])) ≡ true
unfolding ins_of code_row is_sub line same_type eq_sub eq_group closed_type closed_types
typed_square = refl

typed_dispatch : is_typed_body (context objects) area [] (code_of (I.LocalGet 0 ∷ I.LocalGet 0 ∷ I.StructGet 2 0 ∷ I.StructGet 1 0 ∷ I.CallRef 0 ∷ [])) ≡ true
unfolding ins_of code_row is_sub line same_type eq_sub eq_group closed_type closed_types
typed_dispatch = refl

typed_main : is_typed_body (context objects) (record { params = []; results = [] }) [] (code_of (I.GlobalGet 0 ∷ I.I32Const (pos 1) ∷ I.I32Const (pos 4) ∷ I.StructNew 5 ∷ I.Call 3 ∷ I.Call 0 ∷ [])) ≡ true
unfolding ins_of code_row is_sub line same_type eq_sub eq_group closed_type closed_types
typed_main = refl

constant_table : is_constant_body objects 0 (idx 3) (body (I.RefFunc 1 ∷ I.StructNew 3 ∷ [])) ≡ true
unfolding ins_of code_row is_sub line same_type eq_sub eq_group closed_type closed_types
constant_table = refl

extends : supers_hold_at objects.types 6 ≡ true
unfolding supers_hold_at is_sub line same_type eq_sub eq_group closed_type closed_types
extends = refl

-- the methods occur in the globals, the program in the exports
who_is_declared : declared objects ≡ false ∷ true ∷ true ∷ false ∷ true ∷ []
unfolding ins_of code_row
who_is_declared = refl

needs_none : needs_count objects ≡ false
unfolding ins_of code_row
needs_none = refl
