-- The operands and the locals of a body that is being checked, as the code has them.
use Rattle.std.specs.Prelude.{◌≡◌, Bool, true, false, List, [], ◌∷◌, Option, Some, None, ◌&&◌}
use Rattle.gu_model.specs.TypingShape as typing
use Rattle.gu_model.specs.TypingShape.{Kind, Shape}
use Rattle.gu_valid_code.specs.declared.state.Operand.{Operand}
use Rattle.gu_valid_code.specs.declared.state.Operand.TheVariants as O

abbrev pub kind_of : Operand → Kind
kind_of (O.Val ty) = typing.of ty
kind_of O.Nothing = typing.Nothing
kind_of O.Bot = typing.Bot

-- a step was made, and left this, or none can be made
abbrev pub Did : Bool → Option Shape → Shape → Type 0
Did true after new = after ≡ Some new
Did false after new = after ≡ None

abbrev pub TookOne : Kind → List Kind → Shape → Shape → Type 0
TookOne k [] old new = (old.any ≡ true) × (k ≡ typing.Bot) × (new ≡ old)
TookOne k (j ∷ ks) old new = (k ≡ j) × (new ≡ record old { types = ks })

-- an operand was taken, or there is none
abbrev pub Took : Option Kind → Shape → Shape → Type 0
Took (Some k) old new = TookOne k old.types old new
Took None old new = (old.types ≡ []) × (old.any ≡ false)

abbrev pub is_nothing : List Kind → Bool
is_nothing [] = true
is_nothing (k ∷ ks) = false

-- whether there are no operands, and anything may stand below them
abbrev pub is_endless : Shape → Bool
is_endless s = is_nothing s.types && s.any
