-- What a link asks for, by its kind.
use Rattle.std.proofs.Common.{◌≡◌, ℕ, List, [], ◌∷◌, Result, Ok, Err, map, ap, ap₂, ◌∙◌, subst}
use Rattle.std.specs.Prelude.{All, Contains, IfOk}
use Rattle.std.proofs.lemmas.List.Elements.{All-head, All-tail, All-nil}
use Rattle.gu_contents.specs.declared.content.Content.{Content}
use Rattle.gu_contents.specs.declared.facts.Facts.{Facts}
use Rattle.gu_links.specs.Cells.{slot_cell}
use Rattle.gu_links.specs.declared.link.Link.{Link}
use Rattle.gu_links.specs.declared.link.Link.TheVariants as L
use Rattle.gu_links.specs.Gives.{Contents, Asked, reads}
use Rattle.gu_links.specs.Kept.{fixed_reads, further_reads}
use Rattle.gu_links.proofs.Lists.{all_front, all_back}
use Rattle.gu_links.specs.Applied.{IsReady}
use Rattle.gu_links.specs.Known.{Has, Item, IsKnown, IsEnough, cells_of}
use Rattle.gu_links.specs.Solutions.{Fits}
use Rattle.gu_links.proofs.Walks.{unmapped}

pub if_ok_then : {A E : Type 0} (r : Result A E) (P Q : A → Type 0) → ((a : A) → P a → Q a) → IfOk r P → IfOk r Q
if_ok_then (Ok a) P Q h p = h a p
if_ok_then (Err e) P Q h p = p

-- a content is that of a cell
abbrev pub Reads : List Item → Content → ℕ → Type 0
Reads known a from = (x : Contents) → Has known x → Contains (cells_of known) from → a ≡ x from

-- one join
abbrev pub single : ℕ → Content → List Asked
single to a = (to, a) ∷ []

module _ (known : List Item) where
  -- one content is made of one
  pub unary : (op : Content → Content) (from to : ℕ) (a v : Content) → All (Contains (cells_of known)) (from ∷ []) → Reads known a from → v ≡ op a → (x : Contents) → Has known x → single to v ≡ single to (op (x from))
  unary op from to a v fixed one is x h = ap (single to) (is ∙ ap op (one x h (All-head (Contains (cells_of known)) from [] fixed)))

  -- or of two
  pub binary : (op : Content → Content → Content) (left right to : ℕ) (a b v : Content) → All (Contains (cells_of known)) (left ∷ right ∷ []) → Reads known a left → Reads known b right → v ≡ op a b
      → (x : Contents) → Has known x → single to v ≡ single to (op (x left) (x right))
  binary op left right to a b v fixed one two is x h =
      ap (single to)
      (is ∙ ap₂ op (one x h (All-head (Contains (cells_of known)) left (right ∷ []) fixed)) (two x h (All-head (Contains (cells_of known)) right [] (All-tail (Contains (cells_of known)) left (right ∷ []) fixed))))

-- the slots of types are known
pub slots_known : (f : Facts) (cells : List ℕ) (slot : ℕ) (ts us : List ℕ) → ts ≡ us → All (Contains cells) (map (λ t. slot_cell f t slot) ts) → All (λ t. Contains cells (slot_cell f t slot)) us
slots_known f cells slot ts us e h = unmapped (Contains cells) (λ t. slot_cell f t slot) us (subst (λ (ts : List ℕ). All (Contains cells) (map (λ t. slot_cell f t slot) ts)) e h)

-- a link rests on its fixed cells, and on its further ones
pub reads_fixed : (f : Facts) (links : List Link) (link : Link) (x : Contents) (Q : ℕ → Type 0) → All Q (reads f links link x) → All Q (fixed_reads link)
unfolding reads
reads_fixed f links (L.Root give to) x Q a = a
reads_fixed f links (L.Copy from to) x Q a = a
reads_fixed f links (L.NonNull from to) x Q a = a
reads_fixed f links (L.Filter from by to) x Q a = a
reads_fixed f links (L.Minus from by to) x Q a = a
reads_fixed f links (L.Test from by to) x Q a = a
reads_fixed f links (L.IsNull from to) x Q a = a
reads_fixed f links (L.Equal left right to) x Q a = a
reads_fixed f links (L.Pack storage from to) x Q a = a
reads_fixed f links (L.SlotGet object ty slot storage signed to) x Q a = all_front Q (object ∷ []) _ a
reads_fixed f links (L.SlotSet object ty slot storage from) x Q a = a
reads_fixed f links (L.SlotFill object ty slot give) x Q a = a
reads_fixed f links (L.SlotCopy target to_ty source from_ty) x Q a = all_front Q (target ∷ source ∷ []) _ a
reads_fixed f links (L.CallBy callee ty operands results) x Q a = all_front Q (callee ∷ operands) _ a
reads_fixed f links (L.Internalise from to) x Q a = a
reads_fixed f links (L.Externalise from to) x Q a = a
reads_fixed f links (L.Callable function) x Q a = a

pub reads_further : (f : Facts) (links : List Link) (link : Link) (x : Contents) (Q : ℕ → Type 0) → All Q (reads f links link x) → All Q (further_reads f links link x)
unfolding reads
reads_further f links (L.SlotGet object ty slot storage signed to) x Q a = all_back Q (object ∷ []) _ a
reads_further f links (L.SlotCopy target to_ty source from_ty) x Q a = all_back Q (target ∷ source ∷ []) _ a
reads_further f links (L.CallBy callee ty operands results) x Q a = all_back Q (callee ∷ operands) _ a
reads_further f links link x Q a = All-nil Q

-- what is known of all cells on which a link rests is enough
pub is_ready : (f : Facts) (longs : List ℕ) (count : ℕ) (links : List Link) (link : Link) (known : List Item) → Fits f longs count link → IsKnown f longs links link known → IsEnough f links link known → IsReady f longs count links link known
is_ready f longs count links link known fits is enough = record {
  fits = fits;
  belong = λ k d lt. (is.are_of k d lt).belongs;
  fixed = reads_fixed f links link is.contents (Contains (cells_of known)) (enough.all is.contents is.has);
  further = λ x h. reads_further f links link x (Contains (cells_of known)) (enough.all x h);
  some = is.contents;
  has = is.has;
}
