-- What the types of a module are, as the code has them.
use Rattle.std.specs.Prelude.{Bool, true, List, length, nat_lt}
use Rattle.gu_types.specs.declared.types.HeapType.{HeapType}
use Rattle.gu_types.specs.declared.types.HeapType.TheVariants as H
use Rattle.gu_types.specs.declared.types.SubType.{SubType}
use Rattle.gu_model.specs.Index.{FuncType}
use Rattle.gu_valid.specs.declared.kinds.Signature.{Signature}

abbrev pub function_of : Signature → FuncType
function_of signature = record { params = signature.params.now; results = signature.results.now }

-- a heap type is abstract, or the index of one of these types
abbrev pub is_heap_among : List SubType → HeapType → Bool
is_heap_among types (H.Abs a) = true
is_heap_among types (H.Idx x) = nat_lt x (length types)
