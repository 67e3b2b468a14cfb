-- The operands of a place in code, as the algorithm of the core specification 3.0, appendix, Validation Algorithm, has
-- them.
use Rattle.std.specs.Prelude.{Bool, true, false, cond, List, [], ◌∷◌, ◌++◌, map, reverse, Option, Some, None}
use Rattle.gu_types.specs.declared.types.TypeList.{TypeList}
use Rattle.gu_types.specs.declared.types.ValType.{ValType}
use Rattle.gu_types.specs.declared.types.ValType.TheVariants.{I32, I64, Ref}
use Rattle.gu_rec.specs.Sub.{is_sub_val}
use Rattle.gu_model.specs.TypingContext.{◌>>=◌}
use Rattle.gu_model.specs.TypingRows.{Row, goes, leaves}

-- the type of an operand
pub data Kind : Type 0 where
  of : ValType → Kind
  -- a reference that is not null to the bottom of all heap types, which is below every reference type
  Nothing : Kind
  -- the bottom, which is below every type
  Bot : Kind

-- the operands of a block, the top first, whether anything may stand below them, and which locals are set
pub record Shape : Type 0 where
  pub types : List Kind
  pub any : Bool
  pub set : List Bool

abbrev pub is_ref : ValType → Bool
is_ref I32 = false
is_ref I64 = false
is_ref (Ref r) = true

-- an operand as a reference that is not null. None for a number
abbrev pub non_null_val : ValType → Option Kind
non_null_val I32 = None
non_null_val I64 = None
non_null_val (Ref r) = Some (of (Ref (record { null = false; heap = r.heap })))

abbrev pub non_null : Kind → Option Kind
non_null (of t) = non_null_val t
non_null Nothing = Some Nothing
non_null Bot = Some Nothing

-- whether null is among the values of a reference
abbrev pub nulls_val : ValType → Bool
nulls_val I32 = false
nulls_val I64 = false
nulls_val (Ref r) = r.null

abbrev pub nulls : Kind → Bool
nulls (of t) = nulls_val t
nulls Nothing = false
nulls Bot = false

-- puts an operand
abbrev pub push : Kind → Shape → Option Shape
push k s = Some (record s { types = k ∷ s.types })

-- puts operands of types in order, the last on top
abbrev pub pushes : List ValType → Shape → Option Shape
pushes ts s = Some (record s { types = map of (reverse ts) ++ s.types })

-- what stands behind an unconditional branch: nothing, with anything below it
abbrev pub stops : Shape → Option Shape
stops s = Some (record s { types = []; any = true })

-- takes an operand of any type, and goes on with it and those below
abbrev pub pop_kind_on : List Kind → Shape → (Kind → Shape → Option Shape) → Option Shape
pop_kind_on [] s go = cond s.any (go Bot s) None
pop_kind_on (k ∷ ks) s go = go k (record s { types = ks })

abbrev pub pop_kind : Shape → (Kind → Shape → Option Shape) → Option Shape
pop_kind s go = pop_kind_on s.types s go

module _ (list : TypeList) where
  -- whether an operand may stand where a type is asked (3.3 Matching, value types)
  abbrev pub suits : Kind → ValType → Bool
  suits (of t) u = is_sub_val list t u
  suits Nothing u = is_ref u
  suits Bot u = true

  abbrev pub pop_on : ValType → List Kind → Shape → Option Shape
  pop_on t [] s = cond s.any (Some s) None
  pop_on t (k ∷ ks) s = cond (suits k t) (Some (record s { types = ks })) None

  -- takes operands of types, the top first
  abbrev pub pops_down : List ValType → Shape → Option Shape
  pops_down [] s = Some s
  pops_down (t ∷ ts) s = pop_on t s.types s >>= pops_down ts

  -- takes operands of types in order, the last of which is on top
  abbrev pub pops : List ValType → Shape → Option Shape
  pops ts s = pops_down (reverse ts) s

  -- what a row does
  abbrev pub type_row : Option Row → Shape → Option Shape
  type_row None s = None
  type_row (Some (goes ts us)) s = pops ts s >>= pushes us
  type_row (Some (leaves ts)) s = pops ts s >>= stops

  abbrev pub empties : Shape → Option Shape → Option Shape
  empties s o = elim s.types [ [] ↦ o | k ∷ ks ↦ None ]

  -- the end of code: operands of these types and no more; then what follows
  abbrev pub ends_with : List ValType → Option Shape → Option Shape → Option Shape
  ends_with ts None o = None
  ends_with ts (Some s) o = pops ts s >>= λ e. empties e o
