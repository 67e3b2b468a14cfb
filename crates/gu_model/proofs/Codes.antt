-- The code of a function holds exactly where the function is typed.
use Rattle.std.proofs.Common.{ℕ, ◌≡◌, ◌∙◌, ap, refl, slice_get, true, Option, Some, None}
use Rattle.gu_syntax.specs.declared.module.Func.{Func}
use Rattle.gu_syntax.specs.declared.module.Module.{Module}
use Rattle.gu_model.specs.Index.{FuncType, func_type}
use Rattle.gu_model.specs.Typing.{is_typed_as, is_typed_func}
use Rattle.gu_model.specs.Valid.{CodeHolds}
use Rattle.gu_model.specs.ValidContext.{context}

holds_as : (m : Module) (i : ℕ) (f : Func) (o : Option FuncType) → slice_get m.funcs i ≡ Some f → func_type m.types f.ty ≡ o → is_typed_as (context m) f o ≡ true → CodeHolds m i
holds_as m i f None at has typed = absurd (let z : ⊥ = cc in z)
holds_as m i f (Some t) at has typed = record { func = f; found = at; type = t; has = has; typed = typed }

pub code_holds : (m : Module) (i : ℕ) (f : Func) → slice_get m.funcs i ≡ Some f → is_typed_func (context m) f ≡ true → CodeHolds m i
code_holds m i f at typed = holds_as m i f (func_type m.types f.ty) at refl typed

pub code_is_typed : (m : Module) (i : ℕ) (f : Func) → slice_get m.funcs i ≡ Some f → CodeHolds m i → is_typed_func (context m) f ≡ true
code_is_typed m i f at holds =
    let same : f ≡ holds.func = let found : slice_get m.funcs i ≡ Some holds.func = holds.found in cc in
    ap (λ (g : Func). is_typed_func (context m) g) same ∙ ap (λ (o : Option FuncType). is_typed_as (context m) holds.func o) holds.has ∙ holds.typed
