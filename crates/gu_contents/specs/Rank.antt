-- How high a content stands: each greater one stands higher.
use Rattle.std.specs.Prelude.{ℕ, ◌+◌, if◌then◌else◌}
use Rattle.gu_contents.specs.declared.content.Core.{Core}
use Rattle.gu_contents.specs.declared.content.Core.TheVariants.{Bottom, Func, Global, Cone}
use Rattle.gu_contents.specs.declared.content.Content.{Content}
use Rattle.gu_contents.specs.declared.content.Content.TheVariants.{Empty, I32, I64, NumGlobal, Many, Ref, Top}

abbrev pub core_rank : Core → ℕ
core_rank Bottom = 0
core_rank (Func f) = 1
core_rank (Global g) = 1
core_rank (Cone head depth) = 2 + depth

unfoldable pub rank : Content → ℕ
rank Empty = 0
rank (I32 v) = 1
rank (I64 v) = 1
rank (NumGlobal g) = 1
rank Many = 2
rank (Ref n c) = (if n then 1 else 0) + core_rank c
rank Top = 70
