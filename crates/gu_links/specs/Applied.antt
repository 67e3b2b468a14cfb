-- What parts of a link ask for. No public contract speaks of it.
use Rattle.std.specs.Prelude.{ℕ, List, map, All, Contains}
use Rattle.gu_links.specs.declared.link.Link.{Link}
use Rattle.gu_links.specs.declared.link.Link.TheVariants as L
use Rattle.gu_contents.specs.declared.facts.Facts.{Facts}
use Rattle.gu_contents.specs.Belongs.{Belongs}
use Rattle.gu_contents.specs.Numbers.{extend}
use Rattle.gu_links.specs.declared.slots.Get.{Get}
use Rattle.gu_links.specs.declared.slots.Put.{Put}
use Rattle.gu_links.specs.Gives.{Contents, Asked, slot_of, into_slots}
use Rattle.gu_links.specs.Kept.{over_reach, fixed_reads, further_reads}
use Rattle.gu_links.specs.Known.{Item, Has, cells_of}
use Rattle.gu_links.specs.Solutions.{Fits}

-- the content of a slot of each of some types, as it is read
abbrev pub from_slots : Facts → Contents → Get → List ℕ → List Asked
from_slots f x get types = map (λ s. (get.to, extend get.storage get.signed (slot_of f x get.slot s))) types

-- a content for the slot of each type of a reach that has it
abbrev pub put : Facts → Put → List Asked
put f p = into_slots f p.slot p.a (over_reach f p.reach p.slot)

-- what is known is enough for a link that fits a system
pub record IsReady (f : Facts) (longs : List ℕ) (count : ℕ) (links : List Link) (link : Link) (known : List Item) : Type 0 where
  pub fits : Fits f longs count link
  pub belong : All (λ (k : Item). Belongs f k.1) known
  pub fixed : All (Contains (cells_of known)) (fixed_reads link)
  pub further : (x : Contents) → Has known x → All (Contains (cells_of known)) (further_reads f links link x)
  pub some : Contents
  pub has : Has known some

-- a link goes over types or functions, or asks for nothing
abbrev pub GoesOver : Link → Type 0
GoesOver (L.SlotGet object ty slot storage signed to) = Unit {0}
GoesOver (L.SlotSet object ty slot storage from) = Unit {0}
GoesOver (L.SlotFill object ty slot give) = Unit {0}
GoesOver (L.SlotCopy target to_ty source from_ty) = Unit {0}
GoesOver (L.CallBy callee ty operands results) = Unit {0}
GoesOver (L.Callable function) = Unit {0}
GoesOver link = ⊥

-- a link reads slots or calls by reference, or asks for nothing
abbrev pub ReadsOrCalls : Link → Type 0
ReadsOrCalls (L.SlotGet object ty slot storage signed to) = Unit {0}
ReadsOrCalls (L.CallBy callee ty operands results) = Unit {0}
ReadsOrCalls (L.Callable function) = Unit {0}
ReadsOrCalls link = ⊥
