use Rattle.std.proofs.Common.{◌≡◌, ◌+◌, ℕ, List, [], ◌∷◌, length, sym, ap, ap₂, ◌∙◌, subst, arith}
use Rattle.std.specs.Prelude.{All, sum_by}
use Rattle.std.proofs.lemmas.List.Elements.{All-nil, All-cons}
use Rattle.gu_types.specs.Depth.{types_of}
use Rattle.gu_rec.specs.Keys.{run}
use Rattle.gu_contents.specs.declared.content.Content.TheVariants.{I32}
use Rattle.gu_contents.specs.declared.facts.Facts.{Facts}
use Rattle.gu_links.specs.declared.link.Link.{Link}
use Rattle.gu_links.specs.declared.link.Link.TheVariants.{Root, Copy}
use Rattle.gu_links.specs.Cells.{own_cells, own_slots, params_of, results_of}
use Rattle.gu_links.specs.Solutions.{Fits}
use Rattle.gu_links.proofs.system_tests.round.Goals as goal

-- no cells are taken where there are no types and no functions
no_cells : (f : Facts) → types_of f.types ≡ [] → f.funcs ≡ [] → own_cells f ≡ 0
unfolding own_cells
no_cells f types funcs = ap₂ (λ (m n : ℕ). sum_by (own_slots f.types) (run 0 m) + sum_by (λ h. params_of f h + results_of f h) (run 0 n)) (ap length types) (ap length funcs)

all_fit : (f : Facts) (longs : List ℕ) → All (Fits f longs 2) (Root (I32 7) 0 ∷ Copy 0 1 ∷ Copy 1 1 ∷ [])
all_fit f longs =
    All-cons (Fits f longs 2) (Root (I32 7) 0) (Copy 0 1 ∷ Copy 1 1 ∷ []) (record { belongs = tt; listed = tt }, omega arith)
    (All-cons (Fits f longs 2) (Copy 0 1) (Copy 1 1 ∷ []) (omega arith, omega arith)
    (All-cons (Fits f longs 2) (Copy 1 1) [] (omega arith, omega arith) (All-nil (Fits f longs 2))))

pub new-requires-2 : goal.new-requires-2
new-requires-2 c =
    let f = c.args.f.now in
    record {
      room = let none = no_cells f c.requires.types c.requires.funcs in omega arith;
      fit = subst (λ (links : List Link). All (Fits f c.in_ok-longs.longs 2) links) (sym (c.from_vec.ensures ∙ c.in_ok-links.ensures.items)) (all_fit f c.in_ok-longs.longs);
    }
