-- The order of contents: what the first says of values, the second allows.
use Rattle.std.specs.Prelude.{ℕ, ◌+◌, ◌≡◌, Bool, true, false, not, ◌&&◌, ◌||◌, Option, Some, None, nat_eq, nat_le}
use Rattle.gu_rec.specs.Sub.{distance}
use Rattle.gu_contents.specs.declared.content.Core.{Core}
use Rattle.gu_contents.specs.declared.content.Core.TheVariants.{Bottom, Func, Global, Cone}
use Rattle.gu_contents.specs.declared.content.Content.{Content}
use Rattle.gu_contents.specs.declared.content.Content.TheVariants.{Empty, I32, I64, NumGlobal, Many, Ref, Top}
use Rattle.gu_contents.specs.declared.facts.Facts.{Facts}
use Rattle.gu_contents.specs.Contents.{bound, type_of_func}

-- whether there is a distance, and with so many more edges it is at most a depth
abbrev pub reaches : Option ℕ → ℕ → ℕ → Bool
reaches None more depth = false
reaches (Some edges) more depth = nat_le (edges + more) depth

-- whether a cone is at most a core: the core is a cone whose head is the same or above, by so many edges that with the
-- depth of the first they are at most its depth
abbrev pub cone_at_most : Facts → Core → Core → Bool
cone_at_most f Bottom above = true
cone_at_most f (Cone a d) (Cone b e) = reaches (distance f.types b a) d e
cone_at_most f _ above = false

-- Whether a core is at most another. The bottom is the least. A function is at most itself and what the cone of its type
-- alone is at most; a global is at most itself and what its bound is at most
abbrev pub core_at_most : Facts → Core → Core → Bool
core_at_most f (Func g) (Func h) = nat_eq g h
core_at_most f (Func g) above = cone_at_most f (Cone (type_of_func f g) 0) above
core_at_most f (Global g) (Global h) = nat_eq g h
core_at_most f (Global g) above = cone_at_most f (bound f g) above
core_at_most f core above = cone_at_most f core above

-- Whether a content is at most another. `Empty` is least and `Top` greatest; literals and numbers of globals are below
-- `Many`; references are at most others that have null where they have, and whose core is as great
unfoldable pub at_most : Facts → Content → Content → Bool
at_most f Empty b = true
at_most f a Top = true
at_most f (I32 v) (I32 w) = nat_eq v w
at_most f (I64 v) (I64 w) = nat_eq v w
at_most f (NumGlobal g) (NumGlobal h) = nat_eq g h
at_most f (I32 v) Many = true
at_most f (I64 v) Many = true
at_most f (NumGlobal g) Many = true
at_most f Many Many = true
at_most f (Ref n c) (Ref m d) = (not n || m) && core_at_most f c d
at_most f _ _ = false

-- a content is at most another
pub record AtMost (f : Facts) (a b : Content) : Type 0 where
  pub holds : at_most f a b ≡ true
