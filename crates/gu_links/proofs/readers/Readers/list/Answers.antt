use Rattle.std.proofs.Common.{◌<◌, ◌++◌, ◌∷◌, [], ℕ, List, length, refl, ap, ◌∙◌, subst}
use Rattle.std.proofs.lemmas.List.{length-set, get_or_default}
use Rattle.std.proofs.lemmas.Result.{on_ok_weaker}
use Rattle.std.specs.Vec.{with_item}
use Rattle.gu_links.specs.Listed.{IsListAt}
use Rattle.gu_links.proofs.Putting.{put_here}
use Rattle.gu_links.proofs.Adding.{adds_cell, adds_type}
use Rattle.gu_links.proofs.readers.Readers.list.Goals as goal

pub returns-in-Cell-clause-adds : goal.returns-in-Cell-clause-adds
returns-in-Cell-clause-adds c =
    let old = c.args.self.now in
    let own : ℕ = c.in-Cell.cell in
    let lt : own < length old.at_cells.items = subst (IsListAt old) c.in-Cell.is c.requires in
    on_ok_weaker c.push.result
    (λ e.
    adds_cell c.args.number own old (record { at_cells = with_item old.at_cells own c.push.new.self; at_types = old.at_types })
    (λ h. put_here old.at_cells.items own h c.args.number c.push.new.self lt
    (e ∙ ap (λ (xs : List ℕ). xs ++ c.args.number ∷ []) (c.index_mut.ensures.value ∙ get_or_default old.at_cells.items own c.index_mut.result.now [] lt)))
    (length-set old.at_cells.items own c.push.new.self) refl)
    c.push.ensures.ok

pub returns-in-Type-clause-adds : goal.returns-in-Type-clause-adds
returns-in-Type-clause-adds c =
    let old = c.args.self.now in
    let own : ℕ = c.in-Type.ty in
    let lt : own < length old.at_types.items = subst (IsListAt old) c.in-Type.is c.requires in
    on_ok_weaker c.push-in-Type.result
    (λ e.
    adds_type c.args.number own old (record { at_cells = old.at_cells; at_types = with_item old.at_types own c.push-in-Type.new.self })
    (λ h. put_here old.at_types.items own h c.args.number c.push-in-Type.new.self lt
    (e ∙ ap (λ (xs : List ℕ). xs ++ c.args.number ∷ []) (c.index_mut-in-Type.ensures.value ∙ get_or_default old.at_types.items own c.index_mut-in-Type.result.now [] lt)))
    (length-set old.at_types.items own c.push-in-Type.new.self) refl)
    c.push-in-Type.ensures.ok
