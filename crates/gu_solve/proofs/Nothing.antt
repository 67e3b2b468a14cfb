-- Cells that are all empty, and a module with nothing in it.
use Rattle.std.proofs.Common.{ℕ, zero, suc, ◌≡◌, ◌+◌, List, [], length, get_or, replicate, sym, refl, ap, ◌∙◌, subst, arith}
use Rattle.std.specs.Prelude.{All, sum_by}
use Rattle.gu_types.specs.Depth.{types_in, types_of}
use Rattle.gu_rec.specs.Keys.{run}
use Rattle.gu_contents.specs.declared.content.Content.{Content}
use Rattle.gu_contents.specs.declared.content.Content.TheVariants.{Empty}
use Rattle.gu_contents.specs.declared.facts.Facts.{Facts}
use Rattle.gu_contents.specs.Order.{AtMost}
use Rattle.gu_contents.proofs.Law.{lattice}
use Rattle.gu_links.specs.declared.link.Link.{Link}
use Rattle.gu_links.specs.Cells.{own_cells, own_slots, params_of, results_of}
use Rattle.gu_links.specs.Solutions.{at, Fits, IsSystem, IsUnderAll}

empty_at : (n c : ℕ) → get_or (replicate n Empty) c Empty ≡ Empty
empty_at zero c = refl
empty_at (suc n) zero = refl
empty_at (suc n) (suc c) = empty_at n c

-- nothing in every cell is at most every solution
pub empty_is_under_all : (f : Facts) (links : List Link) (n : ℕ) (xs : List Content) → xs ≡ replicate n Empty → IsUnderAll f links (at xs)
empty_is_under_all f links n xs e = record {
  at_most = λ y belong solves. record {
    at = λ c. subst (λ (a : Content). AtMost f a (y c)) (sym (ap (λ (ys : List Content). get_or ys c Empty) e ∙ empty_at n c)) ((lattice f).order.least (y c));
  };
}

-- without types and functions no cell has its own number
pub no_own_cells : (f : Facts) → f.types.groups ≡ [] → f.funcs ≡ [] → own_cells f ≡ 0
unfolding own_cells
no_own_cells f types funcs =
    let slots : sum_by (own_slots f.types) (run 0 (length (types_of f.types))) ≡ 0 = ap (λ gs. sum_by (own_slots f.types) (run 0 (length (types_in gs)))) types in
    let rest : sum_by (λ h. params_of f h + results_of f h) (run 0 (length f.funcs)) ≡ 0 = ap (λ gs. sum_by (λ h. params_of f h + results_of f h) (run 0 (length gs))) funcs in
    omega (arith, slots, rest)

-- links that fit make a system there
pub system_of_nothing : (f : Facts) (longs : List ℕ) (count : ℕ) (links : List Link) → f.types.groups ≡ [] → f.funcs ≡ [] → All (Fits f longs count) links → IsSystem f longs count links
system_of_nothing f longs count links types funcs fit = record { room = let none = no_own_cells f types funcs in omega (arith, none); fit = fit }

-- what is equal to a system in all parts is one
pub same_system : (f g : Facts) (longs others : List ℕ) (count number : ℕ) (links more : List Link) → g ≡ f → others ≡ longs → number ≡ count → more ≡ links → IsSystem f longs count links → IsSystem g others number more
same_system f g longs others count number links more facts_are longs_are count_is links_are system =
    subst (λ f'. IsSystem f' others number more) (sym facts_are)
    (subst (λ ls. IsSystem f ls number more) (sym longs_are)
    (subst (λ n. IsSystem f longs n more) (sym count_is) (subst (λ ks. IsSystem f longs count ks) (sym links_are) system)))
