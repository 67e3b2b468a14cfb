-- What can be reached by joining into cells, one after another, what links ask for.
use Rattle.std.specs.Prelude.{ℕ, List, Contains, nat_eq, if◌then◌else◌}
use Rattle.gu_contents.specs.declared.content.Content.{Content}
use Rattle.gu_contents.specs.declared.content.Content.TheVariants.{Empty}
use Rattle.gu_contents.specs.declared.facts.Facts.{Facts}
use Rattle.gu_contents.specs.Order.{AtMost}
use Rattle.gu_contents.specs.Join.{join}
use Rattle.gu_contents.specs.Belongs.{Belongs}
use Rattle.gu_links.specs.declared.link.Link.{Link}
use Rattle.gu_links.specs.Gives.{Contents, gives}

-- the contents after a content is joined into a cell
abbrev pub raised : Facts → Contents → ℕ → Content → Contents
raised f x to a c = if nat_eq to c then join f (x c) a else x c

-- One event: a link of the system asks for a join on the present contents, and of what it asks for, all or less is joined
-- into the cell
pub record IsEvent (f : Facts) (links : List Link) (x : Contents) (to : ℕ) (a : Content) : Type 0 where
  pub link : Link
  pub listed : Contains links link
  pub whole : Content
  pub given : Contains (gives f links link x) (to, whole)
  pub belongs : Belongs f a
  pub part : AtMost f a whole

-- the contents that some events lead to, one after another, from nothing in every cell
pub data CoreState (f : Facts) (links : List Link) : Contents → Type 0 where
  at_first : CoreState f links (λ c. Empty)
  after : (x : Contents) (to : ℕ) (a : Content) → CoreState f links x → IsEvent f links x to a → CoreState f links (raised f x to a)
