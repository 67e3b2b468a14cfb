-- A link is served by what it asks for and the joins that follow.
use Rattle.std.proofs.Common.{ℕ, ◌≡◌, ◌<◌, ◌≤◌, List, [], length, subst, sym}
use Rattle.gu_contents.specs.declared.facts.Facts.{Facts}
use Rattle.gu_cells.specs.declared.record.Entry.{Entry}
use Rattle.gu_links.specs.declared.link.Link.{Link}
use Rattle.gu_links.specs.Gives.{Asked}
use Rattle.gu_links.specs.Known.{link_at}
use Rattle.gu_workers.specs.Work.{AsksGiven}
use Rattle.gu_workers.specs.Steps.{Adds, AreOf, Asks, Makes, Serves, room, weight}
use Rattle.gu_workers.proofs.Records.{adds_twice, adds_as, asks_made, asks_reads, serves, link_listed}
use Rattle.gu_workers.proofs.Room.{weight_same, weight_on}

module _ (f : Facts) (links : List Link) (k : ℕ) (lt : k < length links) (asked shown : List Asked) (same : shown ≡ asked) (old mid new : List Entry) where
  asks_shown : Adds (Asks f links (link_at links k) asked) old mid → Adds (Asks f links (link_at links k) shown) old mid
  asks_shown h = subst (λ (xs : List Asked). Adds (Asks f links (link_at links k) xs) old mid) (sym same) h

  pub step_asks : Adds (Asks f links (link_at links k) asked) old mid → Adds (AreOf f shown) mid new → Adds (AsksGiven f links) old new
  step_asks p q = adds_twice (Asks f links (link_at links k) shown) (AreOf f shown) (AsksGiven f links) old mid new
      (λ js rs h a. asks_made f links (link_at links k) shown js rs (link_listed f links k lt) h a) (asks_shown p) q

  pub step_serves : (Q : List ℕ) → Adds (Asks f links (link_at links k) asked) old mid → Adds (Makes f links Q shown) mid new → Adds (Serves f links Q (link_at links k)) old new
  step_serves Q p q = adds_twice (Asks f links (link_at links k) shown) (Makes f links Q shown) (Serves f links Q (link_at links k)) old mid new
      (λ js rs m a. serves f links Q (link_at links k) shown js rs (link_listed f links k lt) m a) (asks_shown p) q

pub step_weighs : (f : Facts) (cells n : ℕ) (old mid new : List Entry) (p q : ℕ) → room f cells mid ≤ room f cells old → weight f cells n new q ≤ weight f cells n mid p → weight f cells n new q ≤ weight f cells n old p
step_weighs f cells n old mid new p q h k = weight_on f cells n old mid new p p q (weight_same n (room f cells mid) (room f cells old) p h) k

pub reads_ask : (f : Facts) (links : List Link) (old new : List Entry) → Adds (AreOf f []) old new → Adds (AsksGiven f links) old new
reads_ask f links old new h = adds_as (AreOf f []) (AsksGiven f links) old new (asks_reads f links) h
