use Rattle.std.proofs.Common.{rules, ◌≡◌, ℕ, ◌+◌, ◌<◌, ◌^◌, length, get_or, ap, sym, ◌∙◌, subst, arith}
use Rattle.gu_types.specs.declared.types.RecGroup.{RecGroup}
use Rattle.gu_rec.specs.Keys.{types_at, run, Chains, FirstIs}
use Rattle.gu_rec.proofs.Groups.{Step, step_fits}
use Rattle.gu_rec.proofs.Chained.{types_at_read, one_more, chains_grow}
use Rattle.gu_rec.proofs.Interned.{starts, length_so_far, numbers_fit, first_fits, kept_next, all_least}
use Rattle.gu_rec.proofs.key.least_indices.Goals as goal
use Rattle.gu_rec.proofs.key.least_indices.Goals.{After-as_slice, After-as_slice-in-loop-group, In_ok-first}

-- the walk stands at a group
step_of : (c : After-as_slice) → Step c.args.list.now c.as_slice-groups.result.now c.loop-group.group c.index-groups-group.result c.as_slice.result.now (length c.loop-group.numbers.items)
step_of c = record {
  groups_are = c.as_slice-groups.ensures;
  at = omega arith;
  is = c.index-groups-group.is;
  types_are = c.as_slice.ensures ∙ ap (λ (g : RecGroup). g.types) (sym c.index-groups-group.is);
  start_is = length_so_far c.loop-group.group c.loop-group.invariant.kept;
}

there : (c : After-as_slice) → types_at c.as_slice-groups.result.now c.loop-group.group ≡ c.as_slice.result.now
there c = let s = step_of c in types_at_read c.as_slice-groups.result.now c.loop-group.group c.index-groups-group.result s.at s.is ∙ sym s.types_are

pub overflow_cast-count : goal.overflow_cast-count
overflow_cast-count c =
    let a = step_fits (step_of c) in
    let f = c.requires.fit in
    let h : length c.as_slice.result.now < 2 ^ 32 = omega arith in
    search (rules, h)

pub first_of-requires-clause-started : goal.first_of-requires-clause-started
first_of-requires-clause-started c =
    let a = step_fits (step_of ((goal.at.first_of-requires-clause-started c).After-as_slice)) in
    let f = c.requires.fit in
    omega (arith, ap length c.as_slice-in-loop-group.ensures.value)

pub first_of-requires-clause-few : goal.first_of-requires-clause-few
first_of-requires-clause-few c =
    let p = (goal.at.first_of-requires-clause-few c).After-as_slice in
    let a = step_fits (step_of p) in
    let f = c.requires.fit in
    omega (arith, ap length (there p))

pub first_of-requires-clause-fit : goal.first_of-requires-clause-fit
first_of-requires-clause-fit c =
    let p = (goal.at.first_of-requires-clause-fit c).After-as_slice in
    subst (λ n. (k : ℕ) → k < length n → get_or n k 0 + length (types_at c.as_slice-groups.result.now c.loop-group.group) < 2 ^ 32) (sym c.as_slice-in-loop-group.ensures.value)
    (subst (λ t. (k : ℕ) → k < length c.loop-group.numbers.items → get_or c.loop-group.numbers.items k 0 + length t < 2 ^ 32) (sym (there p))
    (numbers_fit c.loop-group.group c.loop-group.invariant.kept (step_of p) c.requires.fit))

-- where the first group with the group's key begins
found : (c : In_ok-first) → FirstIs c.as_slice-groups.result.now c.loop-group.numbers.items c.loop-group.table.distinct.items c.loop-group.group c.in_ok-first.first c.first_of.new.self.distinct.items
found c = subst (λ n. FirstIs c.as_slice-groups.result.now n c.loop-group.table.distinct.items c.loop-group.group c.in_ok-first.first c.first_of.new.self.distinct.items) c.as_slice-in-loop-group.ensures.value c.in_ok-first.ensures.first

chained : (c : In_ok-first) → Chains c.as_slice-groups.result.now c.loop-group.numbers.items c.first_of.new.self.distinct.items c.first_of.new.self.lasts.items
chained c = subst (λ n. Chains c.as_slice-groups.result.now n c.first_of.new.self.distinct.items c.first_of.new.self.lasts.items) c.as_slice-in-loop-group.ensures.value c.in_ok-first.ensures.chains

pub push_run-requires : goal.push_run-requires
push_run-requires c =
    first_fits c.loop-group.group c.loop-group.invariant.kept (step_of ((goal.at.push_run-requires c).After-as_slice)) c.requires.fit c.loop-group.invariant.chains (found ((goal.at.push_run-requires c).In_ok-first))

pub loop-group-preserved : goal.loop-group-preserved
loop-group-preserved c =
    let p = (goal.at.loop-group-preserved c).After-as_slice in
    let q = (goal.at.loop-group-preserved c).In_ok-first in
    let more = one_more c.as_slice-groups.result.now c.loop-group.numbers.items c.loop-group.table.distinct.items c.loop-group.group c.in_ok-first.first c.first_of.new.self.distinct.items (found q) in
    let behind = c.loop-group.invariant.behind in
    record {
      kept = kept_next c.loop-group.group c.loop-group.invariant.kept (step_of p) c.requires.fit c.requires.hold (there p) c.loop-group.invariant.chains (found q) c.in_ok-push_run.ensures;
      chains = subst (λ n. Chains c.as_slice-groups.result.now n c.first_of.new.self.distinct.items c.first_of.new.self.lasts.items) (sym c.in_ok-push_run.ensures) (chains_grow (chained q) (run c.in_ok-first.first (length c.as_slice.result.now)));
      behind = omega arith;
    }

pub returns : goal.returns
returns c =
    let kept = c.loop-group.invariant.kept in
    all_least c.args.list.now c.as_slice-groups.result.now c.loop-group.group c.loop-group.numbers.items kept.keys (starts c.loop-group.table.distinct.items) c.as_slice-groups.ensures c.loop-group-test.false kept.seen
