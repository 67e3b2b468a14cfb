-- Workers before and after their run.
use Rattle.std.specs.Prelude.{ℕ, ◌≡◌, ◌<◌, ◌%◌, true, Bool, Some, List, [], length, slice_get, slice_index_or}
use Rattle.atomic_table.specs.Seated.{TableId}
use Rattle.gu_contents.specs.declared.content.Content.{Content}
use Rattle.gu_contents.specs.declared.facts.Facts.{Facts}
use Rattle.gu_cells.specs.Views.{SeatView, IsSameSeat}
use Rattle.gu_links.specs.declared.link.Link.{Link}
use Rattle.gu_links.specs.declared.link.Link.TheVariants.{Root}
use Rattle.gu_workers.specs.Work.{IsWork}

-- a worker that is one of so many, with a seat of some cells that did nothing yet
pub record IsReady (workers : ℕ) (id : TableId) (of : ℕ) (seat : SeatView) : Type 0 where
  pub of_is : of ≡ workers
  pub seat_of : seat.of ≡ id
  pub empty : seat.entries ≡ []

-- a worker after its run: its number is what it was, and its seat but for the record; if it is done, the record shows its
-- whole work
pub record HasRun (f : Facts) (links : List Link) (workers old_index : ℕ) (old_seat : SeatView) (index : ℕ) (done : Bool) (seat : SeatView) : Type 0 where
  pub index_is : index ≡ old_index
  pub seat_is : IsSameSeat old_seat seat
  pub worked : done ≡ true → IsWork f links old_index workers seat.entries

-- of some workers the first ones, so many, have all root links in their shares
pub record AreBusy (links : List Link) (workers busy : ℕ) : Type 0 where
  pub shares : (number : ℕ) (give : Content) (to : ℕ) → slice_get links number ≡ Some (Root give to) → number % workers < busy

-- at each place of two lists
pub record Pairs {X : Type 0} (R : X → X → Type 0) (xs ys : List X) : Type 0 where
  pub long : length ys ≡ length xs
  pub each : (k : ℕ) (d : X) → k < length xs → R (slice_index_or xs k d) (slice_index_or ys k d)
