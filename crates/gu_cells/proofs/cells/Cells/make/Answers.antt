use Rattle.std.proofs.Common.{◌≡◌, ℕ, zero, suc, ◌+◌, length, get_or, replicate, ap, ◌∙◌, refl, add-one}
use Rattle.std.proofs.lemmas.List.{length-replicate}
use Rattle.gu_cells.proofs.Lattice.{the_laws}
use Rattle.gu_cells.proofs.Splits.{starts}
use Rattle.gu_cells.proofs.cells.Cells.make.Goals as goal

zeros : (n i : ℕ) → ◌≡◌ {A = ℕ} (get_or (replicate n 0) i 0) 0
zeros zero i = refl
zeros (suc n) zero = refl
zeros (suc n) (suc i) = zeros n i

pub of_words-requires : goal.of_words-requires
of_words-requires g c =
    let n = g.N.Ceilings in
    let count = c.args.sizes.cells + 1 in
    let is : c.as_slice.result.now ≡ replicate count 0 = c.as_slice.ensures.value ∙ c.in_ok-words.ensures.items_if_clones_equal (λ y h. h) in
    starts (the_laws n.facts n.longs) n.ceilings c.args.sizes c.as_slice.result.now (ap length is ∙ (length-replicate count 0 ∙ add-one c.args.sizes.cells)) (λ i. ap (λ xs. get_or xs i 0) is ∙ zeros count i) c.requires.seats
