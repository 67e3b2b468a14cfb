-- What is kept of types that are looked at one by one, for the limits on them.
use Rattle.std.specs.Prelude.{ℕ, ◌≡◌, List, [], ◌∷◌, ◌++◌, map, length, nat_lt, if◌then◌else◌, Option, Some, None}
use Rattle.std.specs.List.{range_with_len}
use Rattle.gu_types.specs.declared.types.SubType.{SubType}
use Rattle.gu_types.specs.Depth.{depth}
use Rattle.gu_read.specs.declared.seen.Seen as D
use Rattle.gu_read.specs.Limits.{first_above, params_of, results_of, fields_of, first_deeper}

-- what is the first above a limit, where one more number comes behind the others
abbrev pub or_above : (most number at : ℕ) → Option ℕ → Option ℕ
or_above most number at None = if nat_lt most number then Some at else None
or_above most number at (Some first) = Some first

-- a depth, or 64 where it is more than the limit
abbrev pub kept_depth : ℕ → ℕ
kept_depth n = if nat_lt 63 n then 64 else n

-- the depth of each type
abbrev pub depths_in : List SubType → List ℕ
depths_in types = map (depth types) (range_with_len 0 (length types))

-- this is kept of these types
pub record Sees (seen : D.Seen) (types : List SubType) : Type 0 where
  pub depths : seen.depths.items ≡ map kept_depth (depths_in types)
  pub params : seen.params ≡ first_above (λ ty. params_of ty.comp) 1000 types
  pub results : seen.results ≡ first_above (λ ty. results_of ty.comp) 1000 types
  pub fields : seen.fields ≡ first_above (λ ty. fields_of ty.comp) 10000 types
  pub deeper : seen.deeper ≡ first_deeper 63 types

-- and this with one more type behind them, whichever they are
abbrev pub SeesMore : D.Seen → SubType → D.Seen → Type 0
SeesMore before ty after = (types : List SubType) → Sees before types → Sees after (types ++ ty ∷ [])

-- this is kept as the depth of a type behind those of which these are kept
abbrev pub IsDepthBehind : List ℕ → SubType → ℕ → Type 0
IsDepthBehind depths ty d = (types : List SubType) → depths ≡ map kept_depth (depths_in types) → d ≡ kept_depth (depth (types ++ ty ∷ []) (length types))
