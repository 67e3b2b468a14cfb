-- The facts of a module without types, functions and globals.
use Rattle.std.specs.Prelude.{ℕ, zero, suc, ◌≡◌, ◌≤◌, true, [], refl}
use Rattle.std.proofs.Common.{arith}
use Rattle.gu_types.specs.declared.types.TypeList.{TypeList}
use Rattle.gu_types.specs.Depth.{types_of, depth}
use Rattle.gu_rec.specs.Validity.{indices_hold_at}
use Rattle.gu_contents.specs.declared.facts.Facts.{Facts}

-- no types
abbrev pub no_types : TypeList
no_types = record { groups = [] }

pub no_indices : (i : ℕ) → indices_hold_at no_types i ≡ true
unfolding indices_hold_at
no_indices i = refl

pub no_depth : (i : ℕ) → depth (types_of no_types) i ≤ 63
no_depth zero = omega arith
no_depth (suc i) = omega arith

abbrev pub no_facts : Facts
no_facts = record { types = no_types; funcs = []; globals = []; hold = record { at = no_indices }; shallow = no_depth }
