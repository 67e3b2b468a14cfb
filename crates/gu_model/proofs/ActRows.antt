-- What an instruction's row of the typing table says of its rule: the frame of the proofs on single instructions.
use Rattle.std.proofs.Common.{ℕ, Bool, true, false, List, [], ◌∷◌, length, Option, Some, None, ◌≡◌, refl}
use Rattle.gu_types.specs.declared.types.RefType.{RefType}
use Rattle.gu_types.specs.declared.types.ValType.{ValType}
use Rattle.gu_types.specs.declared.types.ValType.TheVariants as V
use Rattle.gu_syntax.specs.declared.instr.Instr.{Instr}
use Rattle.gu_model.specs.Outline.{Outline}
use Rattle.gu_model.specs.Value.{Value, i32, i64, Store, Allocated, allocated}
use Rattle.gu_model.specs.Act.{operands, act}
use Rattle.gu_model.specs.TypingContext.{Context, ◌>>=◌, given}
use Rattle.gu_model.specs.TypingShape.{Kind, of}
use Rattle.gu_model.specs.TypingRows.{Row, goes, leaves}
use Rattle.gu_model.proofs.Has.{Has, HasAll, HasTop}
use Rattle.gu_model.proofs.Stores.{StoreFits, DidGood}

-- the context of code in a module, where so much of its globals, tables and element segments is there
abbrev pub within_module : Outline → List (ValType × Bool) → List RefType → List RefType → (segs : ℕ) → (declared : List Bool) → Context
within_module o gs ts es segs declared = record { types = o.types; funcs = o.funcs; tables = ts; memories = length o.memories; tags = o.tags; globals = gs; elems = es; segs = segs; declared = declared }

module _ (o : Outline) (C : Context) where
  -- the rule of an instruction keeps to a row
  pub record RowGood (i : Instr) (ts us : List ValType) : Type 0 where
    pub count : operands o i ≡ length ts
    pub acts : (ls : List (Option Value)) (st : Store) (vs : List Value) → StoreFits o C st → HasTop o (allocated st) vs ts → DidGood o C us ls st (act o i ls st vs)

  abbrev pub RowGoodAt : Instr → Option Row → Type 0
  RowGoodAt i None = Unit {0}
  RowGoodAt i (Some (goes ts us)) = RowGood i ts us
  RowGoodAt i (Some (leaves ts)) = ⊥

  pub bind_row : {X : Type 0} (i : Instr) (p : Option X) (f : X → Option Row) → ((x : X) → p ≡ Some x → RowGoodAt i (f x)) → RowGoodAt i (p >>= f)
  bind_row i None f g = tt
  bind_row i (Some x) f g = g x refl

  pub given_row : (i : Instr) (b : Bool) (p : Option Row) → (b ≡ true → RowGoodAt i p) → RowGoodAt i (given b p)
  given_row i true p g = g refl
  given_row i false p g = tt

module _ (o : Outline) (al : Allocated) where
  -- as many values as kinds
  pub none_is : (P : List Value → Type 0) (vs : List Value) → HasAll o al vs [] → P [] → P vs
  none_is P [] h g = g
  none_is P (v ∷ vs) h g = absurd h

  pub more_is : (P : List Value → Type 0) (vs : List Value) (t : ValType) (ks : List Kind) → HasAll o al vs (of t ∷ ks) → ((v : Value) (ws : List Value) → Has o al t v → HasAll o al ws ks → P (v ∷ ws)) → P vs
  more_is P [] t ks h g = absurd h
  more_is P (v ∷ vs) t ks h g = g v vs h.0 h.1

  pub one_is : (P : List Value → Type 0) (vs : List Value) (t : ValType) → HasAll o al vs (of t ∷ []) → ((v : Value) → Has o al t v → P (v ∷ [])) → P vs
  one_is P vs t h g = more_is P vs t [] h (λ v ws hv hs. none_is (λ ws. P (v ∷ ws)) ws hs (g v hv))

  pub two_is : (P : List Value → Type 0) (vs : List Value) (t u : ValType) → HasAll o al vs (of t ∷ of u ∷ []) → ((v w : Value) → Has o al t v → Has o al u w → P (v ∷ w ∷ [])) → P vs
  two_is P vs t u h g = more_is P vs t (of u ∷ []) h (λ v ws hv hs. one_is (λ ws. P (v ∷ ws)) ws u hs (λ w hw. g v w hv hw))

  pub three_is : (P : List Value → Type 0) (vs : List Value) (t u r : ValType) → HasAll o al vs (of t ∷ of u ∷ of r ∷ []) → ((v w x : Value) → Has o al t v → Has o al u w → Has o al r x → P (v ∷ w ∷ x ∷ [])) → P vs
  three_is P vs t u r h g = more_is P vs t (of u ∷ of r ∷ []) h (λ v ws hv hs. two_is (λ ws. P (v ∷ ws)) ws u r hs (λ w x hw hx. g v w x hv hw hx))

  pub four_is : (P : List Value → Type 0) (vs : List Value) (t u r q : ValType) → HasAll o al vs (of t ∷ of u ∷ of r ∷ of q ∷ []) → ((v w x y : Value) → Has o al t v → Has o al u w → Has o al r x → Has o al q y → P (v ∷ w ∷ x ∷ y ∷ [])) → P vs
  four_is P vs t u r q h g = more_is P vs t (of u ∷ of r ∷ of q ∷ []) h (λ v ws hv hs. three_is (λ ws. P (v ∷ ws)) ws u r q hs (λ w x y hw hx hy. g v w x y hv hw hx hy))

  pub five_is : (P : List Value → Type 0) (vs : List Value) (t u r q s : ValType) → HasAll o al vs (of t ∷ of u ∷ of r ∷ of q ∷ of s ∷ []) → ((v w x y z : Value) → Has o al t v → Has o al u w → Has o al r x → Has o al q y → Has o al s z → P (v ∷ w ∷ x ∷ y ∷ z ∷ [])) → P vs
  five_is P vs t u r q s h g = more_is P vs t (of u ∷ of r ∷ of q ∷ of s ∷ []) h (λ v ws hv hs. four_is (λ ws. P (v ∷ ws)) ws u r q s hs (λ w x y z hw hx hy hz. g v w x y z hv hw hx hy hz))

  -- a number
  pub i32_is : (P : Value → Type 0) (v : Value) → Has o al V.I32 v → ((n : ℕ) → P (i32 n)) → P v
  i32_is P (i32 n) h g = g n
  i32_is P _ h g = absurd h

  pub i64_is : (P : Value → Type 0) (v : Value) → Has o al V.I64 v → ((n : ℕ) → P (i64 n)) → P v
  i64_is P (i64 n) h g = g n
  i64_is P _ h g = absurd h

  -- so many numbers of 32 bits
  pub i32_one : (P : List Value → Type 0) (vs : List Value) → HasAll o al vs (of V.I32 ∷ []) → ((n : ℕ) → P (i32 n ∷ [])) → P vs
  i32_one P vs h g = one_is P vs V.I32 h (λ v hv. i32_is (λ v. P (v ∷ [])) v hv g)

  pub i32_two : (P : List Value → Type 0) (vs : List Value) → HasAll o al vs (of V.I32 ∷ of V.I32 ∷ []) → ((n k : ℕ) → P (i32 n ∷ i32 k ∷ [])) → P vs
  i32_two P vs h g = two_is P vs V.I32 V.I32 h (λ v w hv hw. i32_is (λ v. P (v ∷ w ∷ [])) v hv (λ n. i32_is (λ w. P (i32 n ∷ w ∷ [])) w hw (λ k. g n k)))

  pub i32_three : (P : List Value → Type 0) (vs : List Value) → HasAll o al vs (of V.I32 ∷ of V.I32 ∷ of V.I32 ∷ []) → ((n k j : ℕ) → P (i32 n ∷ i32 k ∷ i32 j ∷ [])) → P vs
  i32_three P vs h g = three_is P vs V.I32 V.I32 V.I32 h (λ v w x hv hw hx. i32_is (λ v. P (v ∷ w ∷ x ∷ [])) v hv (λ n. i32_is (λ w. P (i32 n ∷ w ∷ x ∷ [])) w hw (λ k. i32_is (λ x. P (i32 n ∷ i32 k ∷ x ∷ [])) x hx (λ j. g n k j))))
