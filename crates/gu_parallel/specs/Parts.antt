-- The parts of some work, which lies on places from 0 on.
use Rattle.std.specs.Prelude.{ℕ, ◌≡◌, ◌<◌, List, [], ◌∷◌, ◌++◌, All, Result, Ok, Vec}
use Rattle.std.specs.List.{Contains}
use Rattle.std.specs.declared.alloc.AllocError.{AllocError}
use Rattle.std.specs.declared.alloc.Global.{Global}
use Rattle.gu_parallel.specs.declared.parts.Part.{Part}

-- each part starts where the one before it ends, and the first one at a place
abbrev pub Chained : {X : Type 0} → ℕ → List (Part X) → Type 0
Chained place [] = Unit {0}
Chained place (part ∷ parts) = (part.start ≡ place) × Chained part.end parts

module _ {X : Type 0} (ends : ℕ → ℕ → Type 0) (makes : ℕ → ℕ → X → Type 0) (until : ℕ) where
  -- a part that starts before `until`, may end where it ends, and of which this may be made
  pub record IsPartOf (part : Part X) : Type 0 where
    pub before : part.start < until
    pub end : ends part.start part.end
    pub made : makes part.start part.end part.made

  -- such parts, one behind another from a place on
  pub record Follow (place : ℕ) (parts : List (Part X)) : Type 0 where
    pub chained : Chained place parts
    pub each : All IsPartOf parts

-- parts that are chained from place 0 on, each of which is one of those in both results
abbrev pub Arranges : {X : Type 0} → (own theirs : Result (Vec (Part X) Global) AllocError) → List (Part X) → Type 0
Arranges own theirs all = (a : Vec (Part _) Global) × (b : Vec (Part _) Global) × (own ≡ Ok a) × (theirs ≡ Ok b) × Chained 0 all × All (Contains (a.items ++ b.items)) all
