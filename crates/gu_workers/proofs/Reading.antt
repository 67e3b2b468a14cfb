-- What a worker knows of the cells that it has read for a link.
use Rattle.std.proofs.Common.{ℕ, zero, suc, ◌≡◌, ◌<◌, Bool, true, false, List, [], ◌∷◌, ◌++◌, length, get_or, cond, eqb, sym, refl, ap, ◌∙◌, subst, arith, eq-eqb, ne_eqb}
use Rattle.std.specs.Prelude.{All, Contains}
use Rattle.std.proofs.lemmas.List.Elements.{All-nil, All-push, All-map, All-weaker, All-contains, Contains-append_right}
use Rattle.gu_contents.specs.declared.content.Content.{Content}
use Rattle.gu_contents.specs.declared.content.Content.TheVariants.{Empty}
use Rattle.gu_contents.specs.declared.facts.Facts.{Facts}
use Rattle.gu_contents.specs.Order.{AtMost}
use Rattle.gu_contents.specs.Belongs.{Belongs, IsListed}
use Rattle.gu_contents.proofs.Belonging.{answers_belong}
use Rattle.gu_contents.proofs.Listed.{answers_listed}
use Rattle.gu_cells.specs.declared.record.Entry.{Entry}
use Rattle.gu_cells.specs.declared.record.Entry.TheVariants.{Read}
use Rattle.gu_cells.specs.Record.{at, BelongsTo}
use Rattle.gu_links.specs.declared.link.Link.{Link}
use Rattle.gu_links.specs.Gives.{Contents, Asked, gives, reads}
use Rattle.gu_links.specs.Solutions.{AllBelong, Solves, IsOf, Fits, IsSystem}
use Rattle.gu_links.specs.Known.{Item, cells_of, link_at, IsKnown, IsEnough}
use Rattle.gu_contents.proofs.Law.{lattice}
use Rattle.gu_links.proofs.Given.{belonging_is_kept, listed_is_kept, gives_proper}
use Rattle.gu_links.proofs.Monotone.{gives_down}
use Rattle.gu_workers.specs.Work.{WereRead}
use Rattle.gu_worklist.proofs.Unread.{same_number}
use Rattle.gu_workers.specs.Known.{IsHeld, AreKnown}
use Rattle.gu_workers.specs.Steps.{Adds, AreOf, IsFitting, Asks}
use Rattle.gu_workers.proofs.Splits.{are_of_none, are_of_more}

-- the facts and the literals by another name
pub system_as : (f g : Facts) (longs longs' : List ℕ) (count : ℕ) (links : List Link) → g ≡ f → longs' ≡ longs → IsSystem f longs count links → IsSystem g longs' count links
system_as f g longs longs' count links e d h = subst (λ (x : Facts). IsSystem x longs' count links) (sym e) (subst (λ (xs : List ℕ). IsSystem f xs count links) (sym d) h)

pub known_as : (f g : Facts) (longs longs' : List ℕ) (links : List Link) (link : Link) (known : List Item) → g ≡ f → longs' ≡ longs → IsKnown f longs links link known → IsKnown g longs' links link known
known_as f g longs longs' links link known e d h = subst (λ (x : Facts). IsKnown x longs' links link known) (sym e) (subst (λ (xs : List ℕ). IsKnown f xs links link known) (sym d) h)

pub known_back : (f g : Facts) (longs longs' : List ℕ) (links : List Link) (link : Link) (known : List Item) → g ≡ f → longs' ≡ longs → IsKnown g longs' links link known → IsKnown f longs links link known
known_back f g longs longs' links link known e d h = known_as g f longs' longs links link known (sym e) (sym d) h

pub is_of_as : (f g : Facts) (longs longs' : List ℕ) (a : Content) → g ≡ f → longs' ≡ longs → BelongsTo f longs a → IsOf g longs' a
is_of_as f g longs longs' a e d h = subst (λ (x : Facts). IsOf x longs' a) (sym e) (subst (λ (xs : List ℕ). IsOf f xs a) (sym d) (record { belongs = h.0; listed = h.1 }))

pub gives_back : (f g : Facts) (links : List Link) (link : Link) (x : Contents) (asked : List Asked) → g ≡ f → asked ≡ gives g links link x → asked ≡ gives f links link x
gives_back f g links link x asked e h = h ∙ ap (λ (y : Facts). gives y links link x) e

-- contents that have what is known
module _ (f : Facts) (longs : List ℕ) (ceilings : List Content) where
  pub held_none : IsHeld f longs ceilings []
  held_none = record {
    contents = λ c. Empty;
    has = record { at = All-nil (λ (k : Item). Empty ≡ k.1) };
    belong = λ c. (tt, tt);
    capped = λ c. (lattice f).order.least (at ceilings c);
  }

  held_belongs : (is : Bool) (a b : Content) → BelongsTo f longs a → BelongsTo f longs b → BelongsTo f longs (cond is a b)
  held_belongs true a b p q = p
  held_belongs false a b p q = q

  held_capped : (c d : ℕ) (a b : Content) → AtMost f a (at ceilings c) → AtMost f b (at ceilings d) → (is : Bool) → eqb c d ≡ is → AtMost f (cond is a b) (at ceilings d)
  held_capped c d a b p q true e = subst (λ (k : ℕ). AtMost f a (at ceilings k)) (same_number c d e) p
  held_capped c d a b p q false e = q

  pub held_more : (known : List Item) (c : ℕ) (a : Content) → IsHeld f longs ceilings known → (Contains (cells_of known) c → ⊥) → BelongsTo f longs a → AtMost f a (at ceilings c) → IsHeld f longs ceilings (known ++ (c, a) ∷ [])
  held_more known c a h fresh belongs capped =
      let x = h.contents in
      let y : Contents = λ d. cond (eqb c d) a (x d) in
      let cells : All (λ (k : Item). Contains (cells_of known) k.0) known = λ i d lt. (i, (let e = long known in omega arith), at_place known i d lt) in
      record {
        contents = y;
        has = record {
          at = All-push (λ (k : Item). y k.0 ≡ k.1) known (c, a)
              (λ i d lt. let k : Item = get_or known i d in
              ap (λ (b : Bool). cond b a (x k.0)) (ne_eqb c k.0 (λ e. fresh (subst (Contains (cells_of known)) (sym e) (cells i d lt)))) ∙ h.has.at i d lt)
              (ap (λ (b : Bool). cond b a (x c)) (eq-eqb c c refl));
        };
        belong = λ d. held_belongs (eqb c d) a (x d) belongs (h.belong d);
        capped = λ d. held_capped c d a (x d) capped (h.capped d) (eqb c d) refl;
      }
    where
      long : (ks : List Item) → length (cells_of ks) ≡ length ks
      long [] = refl
      long (k ∷ ks) = ap suc (long ks)

      at_place : (ks : List Item) (i : ℕ) (d : Item) → i < length ks → get_or (cells_of ks) i (get_or ks i d).0 ≡ (get_or ks i d).0
      at_place [] i d lt = absurd (omega arith)
      at_place (k ∷ ks) zero d lt = refl
      at_place (k ∷ ks) (suc i) d lt = at_place ks i d (omega arith)

-- the reads of all that is known
pub known_none : (f : Facts) (old : List Entry) → Adds (AreKnown f []) old old
known_none f old = record { more = []; added = refl; holds = record { reads_alone = are_of_none f []; shown = All-nil (λ (k : Item). Contains [] (Read k.0 k.1)) } }

later : (e : Entry) (entries : List Entry) (d : Entry) → Contains entries d → Contains (e ∷ entries) d
later e entries d at = Contains-append_right (e ∷ []) entries d at

pub known_more : (f : Facts) (known : List Item) (c : ℕ) (a : Content) (old mid new : List Entry) → Adds (AreKnown f known) old mid → new ≡ Read c a ∷ mid → Adds (AreKnown f (known ++ (c, a) ∷ [])) old new
known_more f known c a old mid new h e =
    let more = h.more in record {
      more = Read c a ∷ more;
      added = e ∙ ap (λ (es : List Entry). Read c a ∷ es) h.added;
      holds = record {
        reads_alone = are_of_more f [] (Read c a) more tt h.holds.reads_alone;
        shown = All-push (λ (k : Item). Contains (Read c a ∷ more) (Read k.0 k.1)) known (c, a)
            (All-weaker (λ (k : Item). Contains more (Read k.0 k.1)) (λ (k : Item). Contains (Read c a ∷ more) (Read k.0 k.1)) (λ k at. later (Read c a) more (Read k.0 k.1) at) known h.holds.shown)
            (0, omega arith, refl);
      };
    }

pub reads_of_known : (f : Facts) (known : List Item) (old new : List Entry) → Adds (AreKnown f known) old new → Adds (AreOf f []) old new
reads_of_known f known old new h = record { more = h.more; added = h.added; holds = h.holds.reads_alone }

pub reads_and_one : (f : Facts) (c : ℕ) (a : Content) (old mid new : List Entry) → Adds (AreOf f []) old mid → new ≡ Read c a ∷ mid → Adds (AreOf f []) old new
reads_and_one f c a old mid new h e = record { more = Read c a ∷ h.more; added = e ∙ ap (λ (es : List Entry). Read c a ∷ es) h.added; holds = are_of_more f [] (Read c a) h.more tt h.holds }

-- what a link asks for on what was read
module _ (f : Facts) (longs : List ℕ) (ceilings : List Content) (count : ℕ) (links : List Link) (k : ℕ) (known : List Item) (held : IsHeld f longs ceilings known) where
  were_read : (entries : List Entry) → IsEnough f links (link_at links k) known → AreKnown f known entries → WereRead entries (reads f links (link_at links k) held.contents) held.contents
  were_read entries enough are = record {
    shown = All-weaker (Contains (cells_of known)) (λ c. Contains entries (Read c (held.contents c))) (λ c at. All-contains (λ d. Contains entries (Read d (held.contents d))) (cells_of known) c all at)
        (reads f links (link_at links k) held.contents) (enough.all held.contents held.has);
  }
    where
      all : All (λ c. Contains entries (Read c (held.contents c))) (cells_of known)
      all = All-map (λ c. Contains entries (Read c (held.contents c))) (λ (i : Item). i.0) known
          (λ i d lt. subst (λ (a : Content). Contains entries (Read (get_or known i d).0 a)) (sym (held.has.at i d lt)) (are.shown i d lt))

  pub asks_of : (old new : List Entry) (asked : List Asked) → IsEnough f links (link_at links k) known → Adds (AreKnown f known) old new → asked ≡ gives f links (link_at links k) held.contents → Adds (Asks f links (link_at links k) asked) old new
  asks_of old new asked enough h is = record {
    more = h.more;
    added = h.added;
    holds = record { reads_alone = h.holds.reads_alone; contents = held.contents; were_read = were_read h.more enough h.holds; given = is };
  }

  pub fitting_of : (asked : List Asked) → k < length links → IsSystem f longs count links → AllBelong f (at ceilings) → Solves f links (at ceilings) → asked ≡ gives f links (link_at links k) held.contents → All (IsFitting f longs count ceilings) asked
  fitting_of asked lt system belong solves is =
      let link = link_at links k in
      let x = held.contents in
      let fit : Fits f longs count link = system.fit k _ lt in
      let ones = gives_proper f (Belongs f) (belonging_is_kept f (lattice f) (answers_belong f)) longs count links system (λ a h. h.belongs) x (λ c. (held.belong c).0) link fit in
      let twos = gives_proper f (IsListed longs) (listed_is_kept f longs (lattice f) (answers_belong f) (answers_listed f longs)) longs count links system (λ a h. h.listed) x (λ c. (held.belong c).1) link fit in
      let downs = gives_down f (lattice f) (answers_belong f) longs count links system x (at ceilings) (record { at = λ c. (held.belong c).0 }) belong (record { at = held.capped }) link fit (solves.closed k _ lt).met in
      subst (λ (given : List Asked). All (IsFitting f longs count ceilings) given) (sym is)
      (λ i d h. let one = ones i d h in let two = twos i d h in record { cell = one.0; belongs = (one.1, two.1); capped = downs i d h })
