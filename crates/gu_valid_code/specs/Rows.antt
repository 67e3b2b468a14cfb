-- The rows of the typing table, as the code has them.
use Rattle.std.specs.Prelude.{List, [], ◌∷◌, ◌++◌, map, replicate, option_to_list, Option}
use Rattle.gu_types.specs.declared.types.ValType.{ValType}
use Rattle.gu_model.specs.TypingReferences.{field_value}
use Rattle.gu_model.specs.TypingRows as typing
use Rattle.gu_model.specs.TypingShape.{Shape, pushes, stops}
use Rattle.gu_valid_code.specs.declared.row.Few.{Few}
use Rattle.gu_valid_code.specs.declared.row.Few.TheVariants as F
use Rattle.gu_valid_code.specs.declared.row.Below.{Below}
use Rattle.gu_valid_code.specs.declared.row.Below.TheVariants as B
use Rattle.gu_valid_code.specs.declared.row.Then.{Then}
use Rattle.gu_valid_code.specs.declared.row.Then.TheVariants as T
use Rattle.gu_valid_code.specs.declared.row.Row.{Row}

abbrev pub few_of : Few → List ValType
few_of F.Zero = []
few_of (F.One a) = a ∷ []
few_of (F.Two a b) = a ∷ b ∷ []
few_of (F.Three a b c) = a ∷ b ∷ c ∷ []
few_of (F.Four a b c d) = a ∷ b ∷ c ∷ d ∷ []
few_of (F.Five a b c d e) = a ∷ b ∷ c ∷ d ∷ e ∷ []

abbrev pub below_of : Below → List ValType
below_of B.Nothing = []
below_of (B.Types ts) = ts.now
below_of (B.Fields fs) = map field_value fs.now
below_of (B.Copies t n) = replicate n t

-- a few types behind others
abbrev pub behind : List ValType → Few → List ValType
behind ts F.Zero = ts
behind ts top = ts ++ few_of top

abbrev pub then_of : List ValType → Then → typing.Row
then_of ts (T.Gives given) = typing.goes ts (option_to_list given)
then_of ts (T.GivesAll given) = typing.goes ts given.now
then_of ts (T.GivesMore given last) = typing.goes ts (given.now ++ last ∷ [])
then_of ts T.Leaves = typing.leaves ts

abbrev pub row_of : Row → typing.Row
row_of r = then_of (behind (below_of r.below) r.top) r.then

-- what follows where the operands of a row were taken
abbrev pub follows : Then → Shape → Option Shape
follows (T.Gives given) s = pushes (option_to_list given) s
follows (T.GivesAll given) s = pushes given.now s
follows (T.GivesMore given last) s = pushes (given.now ++ last ∷ []) s
follows T.Leaves s = stops s
