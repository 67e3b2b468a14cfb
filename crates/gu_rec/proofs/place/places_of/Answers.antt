use Rattle.std.proofs.Common.{rules, ◌≡◌, ◌+◌, ◌<◌, ◌^◌, ◌++◌, ◌∷◌, [], ℕ, length, take, refl, ap, sym, ◌∙◌, subst, arith}
use Rattle.gu_types.specs.declared.types.RecGroup.{RecGroup}
use Rattle.gu_types.specs.Depth.{types_in}
use Rattle.gu_rec.specs.Sub.{StandsAt}
use Rattle.gu_rec.specs.Table.{PlacesTo}
use Rattle.gu_rec.proofs.Groups.{Step, step_length, step_fits}
use Rattle.gu_rec.proofs.Standing.{stands, places_next}
use Rattle.gu_rec.proofs.place.places_of.Goals as goal
use Rattle.gu_rec.proofs.place.places_of.Goals.{After-as_slice-types}

-- the walk stands at a group
step_of : (c : After-as_slice-types) → Step c.args.list.now c.as_slice-groups.result.now c.loop-group.group c.index-groups-group.result c.as_slice-types.result.now (length (types_in (take c.loop-group.group c.as_slice-groups.result.now)))
step_of c = record {
  groups_are = c.as_slice-groups.ensures;
  at = omega arith;
  is = c.index-groups-group.is;
  types_are = c.as_slice-types.ensures ∙ ap (λ (g : RecGroup). g.types) (sym c.index-groups-group.is);
  start_is = refl;
}

pub overflow_cast-position : goal.overflow_cast-position
overflow_cast-position c =
    let a = step_fits (step_of ((goal.at.overflow_cast-position c).After-as_slice-types)) in
    let f = c.requires.few in
    let t = c.loop-position-test.true in
    let h : c.loop-position.position < 2 ^ 32 = omega arith in
    search (rules, h)

pub loop-position-preserved : goal.loop-position-preserved
loop-position-preserved c =
    let p = (goal.at.loop-position-preserved c).After-as_slice-types in
    let start : ℕ = length (types_in (take c.loop-group.group c.as_slice-groups.result.now)) in
    let here : StandsAt c.args.list.now (start + c.loop-position.position) c.loop-group.group c.loop-position.position = stands (step_of p) c.loop-position.position (omega arith) in
    let n : start + c.loop-position.position + 1 ≡ start + (c.loop-position.position + 1) = omega arith in
    subst (λ xs. PlacesTo c.args.list.now (start + (c.loop-position.position + 1)) xs) (sym c.in_ok-push.ensures.items)
    (subst (λ m. PlacesTo c.args.list.now m (c.loop-position.places.items ++ record { group = c.loop-group.group; position = c.loop-position.position } ∷ [])) n
    (places_next c.args.list.now (start + c.loop-position.position) c.loop-position.places.items (record { group = c.loop-group.group; position = c.loop-position.position }) c.loop-position.invariant here))

pub loop-group-preserved : goal.loop-group-preserved
loop-group-preserved c =
    let p = (goal.at.loop-group-preserved c).After-as_slice-types in
    let start : ℕ = length (types_in (take c.loop-group.group c.as_slice-groups.result.now)) in
    let l = step_length (step_of p) in
    let a = c.loop-position.auto.position-end in
    let b = c.loop-position-test.false in
    let n : start + c.loop-position.position ≡ length (types_in (take (c.loop-group.group + 1) c.as_slice-groups.result.now)) = omega arith in
    subst (λ m. PlacesTo c.args.list.now m c.loop-position.places.items) n c.loop-position.invariant
