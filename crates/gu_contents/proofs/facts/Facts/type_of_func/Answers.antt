use Rattle.std.proofs.Common.{List, ℕ, slice_index_or, ap, sym, ◌∙◌, subst}
use Rattle.gu_types.specs.declared.types.HeapType.{HeapType}
use Rattle.gu_types.specs.declared.types.HeapType.TheVariants as H
use Rattle.gu_contents.specs.Belongs.{IsCone}
use Rattle.gu_contents.specs.Contents.{least_index, type_of_func}
use Rattle.gu_contents.proofs.Cones.{func_cone}
use Rattle.gu_contents.proofs.facts.Facts.type_of_func.Goals as goal

pub returns-clause-value : goal.returns-clause-value
unfolding type_of_func
returns-clause-value c = c.least_index.ensures ∙ ap (λ (xs : List ℕ). least_index c.args.self.now.types (H.Idx (slice_index_or xs c.args.func 0))) c.as_slice-types.ensures

pub returns-clause-cone : goal.returns-clause-cone
unfolding type_of_func
returns-clause-cone c = subst (λ (h : HeapType). IsCone c.args.self.now h 0) (sym (c.least_index.ensures ∙ ap (λ (xs : List ℕ). least_index c.args.self.now.types (H.Idx (slice_index_or xs c.args.func 0))) c.as_slice-types.ensures)) (func_cone c.args.self.now c.args.func c.requires)
