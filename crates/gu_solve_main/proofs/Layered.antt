-- Where each class is in a higher layer than its supertype, none is deep.
use Rattle.std.proofs.Common.{◌≡◌, ℕ, zero, suc, ◌<◌, ◌≤◌, Bool, true, false, Option, Some, None, List, refl, arith}
use Rattle.std.specs.Prelude.{length, nat_lt, slice_get, if◌then◌else◌}
use Rattle.std.proofs.lemmas.Nat.{mod_below}
use Rattle.std.proofs.lemmas.Option.{slice_get_within}
use Rattle.gu_types.specs.declared.types.SubType.{SubType}
use Rattle.gu_types.specs.Depth.{depth, parent, smaller, first_of, first_super}
use Rattle.gu_rec.proofs.Lines.{along, depth_root, depth_step}
use Rattle.gu_solve_main.specs.Layers.{layer, IsHigher}

-- each of the first classes, so many, is in a higher layer than its supertype
pub record AreHigher (classes : List SubType) (count : ℕ) : Type 0 where
  pub each : (index : ℕ) (class : SubType) → index < count → slice_get classes index ≡ Some class → IsHigher index class

few_layers : (index : ℕ) → layer index ≤ 63
few_layers zero = omega arith
few_layers (suc index) = let low = mod_below index 63 (omega arith) in omega arith

smaller_is : (index super above : ℕ) → smaller index (Some super) ≡ Some above → super ≡ above
smaller_is index super above e = by_test (nat_lt super index) e
  where
    by_test : (b : Bool) → (if b then Some super else None) ≡ Some above → super ≡ above
    by_test true e = let same : Some super ≡ Some above = e in cc
    by_test false e = let none : None ≡ Some above = e in absurd cc

above_lower : (classes : List SubType) (index above : ℕ) → ((class : SubType) → slice_get classes index ≡ Some class → IsHigher index class) → parent classes index ≡ Some above → layer above < layer index
above_lower classes index above h e = by_class (slice_get classes index) h e
  where
    by_super : (o : Option ℕ) → ((super : ℕ) → o ≡ Some super → layer super < layer index) → smaller index o ≡ Some above → layer above < layer index
    by_super None h e = absurd cc
    by_super (Some super) h e = let same = smaller_is index super above e in h above (rw same refl)

    by_class : (o : Option SubType) → ((class : SubType) → o ≡ Some class → IsHigher index class) → smaller index (first_super o) ≡ Some above → layer above < layer index
    by_class None h e = absurd cc
    by_class (Some class) h e = by_super (first_of class.supers) (h class refl) e

pub layered_is_shallow : (classes : List SubType) → AreHigher classes (length classes) → (i : ℕ) → depth classes i ≤ 63
layered_is_shallow classes h i =
    let low = along classes (λ k. depth classes k ≤ layer k)
    (λ k e. let none = depth_root classes k e in omega arith)
    (λ k above e below. let more = depth_step classes k above e in let up = above_lower classes k above (λ class at. h.each k class (slice_get_within classes k class at) at) e in omega arith) i in
    let few = few_layers i in omega arith
