-- All values of a type, as a content.
use Rattle.std.specs.Prelude.{Option, Some, None}
use Rattle.gu_types.specs.declared.types.Abs.{Abs}
use Rattle.gu_types.specs.declared.types.HeapType.{HeapType}
use Rattle.gu_types.specs.declared.types.ValType.{ValType}
use Rattle.gu_types.specs.declared.types.ValType.TheVariants as V
use Rattle.gu_rec.specs.Sub.{top_over, height}
use Rattle.gu_contents.specs.declared.content.Core.{Core}
use Rattle.gu_contents.specs.declared.content.Core.TheVariants.{Bottom, Cone}
use Rattle.gu_contents.specs.declared.content.Content.{Content}
use Rattle.gu_contents.specs.declared.content.Content.TheVariants.{Many}
use Rattle.gu_contents.specs.declared.facts.Facts.{Facts}
use Rattle.gu_contents.specs.Contents.{least_index, refs}

-- with the top of the tree whose bottom a heap type is, if it is one
abbrev pub whole_under : Facts → HeapType → Option Abs → Core
whole_under f heap None = Cone (least_index f.types heap) (height f.types heap)
whole_under f heap (Some top) = Bottom

-- all references to a heap type that are not null: its whole cone, and none where it is a bottom
abbrev pub whole : Facts → HeapType → Core
whole f heap = whole_under f heap (top_over heap)

-- all values of a type
unfoldable pub all : Facts → ValType → Content
all f V.I32 = Many
all f V.I64 = Many
all f (V.Ref ref) = refs ref.null (whole f ref.heap)
