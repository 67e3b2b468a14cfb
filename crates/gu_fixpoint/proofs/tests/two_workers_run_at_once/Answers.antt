use Rattle.std.proofs.Common.{ℕ, ◌∷◌, ◌∙◌, List, [], subst, sym, arith}
use Rattle.std.specs.Prelude.{All}
use Rattle.std.proofs.lemmas.List.Elements.{All-nil, All-cons}
use Rattle.gu_contents.specs.declared.content.Content.TheVariants.{I32}
use Rattle.gu_contents.specs.declared.facts.Facts.{Facts}
use Rattle.gu_links.specs.declared.link.Link.{Link}
use Rattle.gu_links.specs.declared.link.Link.TheVariants.{Root}
use Rattle.gu_links.specs.Solutions.{Fits, IsSystem}
use Rattle.gu_solve.proofs.Nothing.{system_of_nothing}
use Rattle.gu_fixpoint.proofs.tests.two_workers_run_at_once.Goals as goal

roots_fit : (f : Facts) (longs : List ℕ) → All (Fits f longs 2) (Root (I32 5) 0 ∷ Root (I32 7) 1 ∷ [])
roots_fit f longs =
    All-cons (Fits f longs 2) (Root (I32 5) 0) (Root (I32 7) 1 ∷ []) (record { belongs = tt; listed = tt }, omega arith)
    (All-cons (Fits f longs 2) (Root (I32 7) 1) [] (record { belongs = tt; listed = tt }, omega arith) (All-nil (Fits f longs 2)))

pub new-requires-2 : goal.new-requires-2
new-requires-2 g c =
    let f = c.in_ok-facts.facts in
    let longs = c.in_ok-longs.longs in
    subst (λ (links : List Link). IsSystem f longs 2 links) (sym (c.from_vec-links.ensures ∙ c.in_ok-vec.ensures.items))
    (system_of_nothing f longs 2 (Root (I32 5) 0 ∷ Root (I32 7) 1 ∷ []) c.in_ok-facts.ensures.types c.in_ok-facts.ensures.funcs (roots_fit f longs))
