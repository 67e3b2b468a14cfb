use Rattle.std.proofs.Common.{◌≡◌, ◌<◌, ◌||◌, ◌++◌, ◌∷◌, [], ℕ, Bool, List, true, false, cond, length, get_or, ap, sym, rules, arith, ◌∙◌}
use Rattle.std.specs.Prelude.{nat_eq}
use Rattle.std.proofs.lemmas.List.{length-set, get_or_default}
use Rattle.gu_types.specs.Depth.{types_of}
use Rattle.gu_rec.proofs.Lines.{parent_below}
use Rattle.gu_contents.proofs.Heaps.{same_self}
use Rattle.gu_contents.proofs.Heights.{least_is}
use Rattle.gu_links.specs.Kept.{is_below}
use Rattle.gu_links.proofs.Reaching.{and_true}
use Rattle.gu_links.proofs.Putting.{below_root, below_step, below_once, advance, put_here, below_up, or_false}
use Rattle.gu_links.proofs.grouped.put.Goals as goal

pub index_mut-requires : goal.index_mut-requires
index_mut-requires c =
    let l = c.canon-own.ensures.least c.line.at (same_self c.args.f.now.types c.line.at) in
    let r = c.line.invariant.in_range in
    let n = c.line.invariant.long in
    let m = c.requires.long in
    let h : c.canon-own.result < length c.line.lists.items = omega arith in
    search (rules, h)

pub returns-in_default-clause-added : goal.returns-in_default-clause-added
returns-in_default-clause-added c h k least =
    let f = c.args.f.now in
    let own = least_is f.types c.line.at c.canon-own.result c.canon-own.ensures.same c.canon-own.ensures.least in
    let l = c.canon-own.ensures.least c.line.at (same_self f.types c.line.at) in
    let r = c.line.invariant.in_range in
    let n = c.line.invariant.long in
    let m = c.requires.long in
    let lt : c.canon-own.result < length c.line.lists.items = omega arith in
    let e = sym c.parent.ensures ∙ c.in_default.is in
    advance (nat_eq c.canon-own.result h) false (is_below f.types h c.line.at) (is_below f.types h c.args.entry.ty) c.args.entry.item
    (get_or c.args.lists.now.items h []) (get_or c.line.lists.items h []) _
    (below_root f h least c.line.at e ∙ ap (λ (i : ℕ). nat_eq i h) (sym own) ∙ sym (or_false (nat_eq c.canon-own.result h)))
    (λ u. absurd (let bad : false ≡ true = u in cc))
    (c.line.invariant.up h) (c.line.invariant.added h k least)
    (put_here c.line.lists.items c.canon-own.result h c.args.entry.item c.push.new.self lt
    (c.in_ok-push.ensures.ok ∙ ap (λ (xs : List ℕ). xs ++ c.args.entry.item ∷ []) (c.index_mut.ensures.value ∙ get_or_default c.line.lists.items c.canon-own.result c.index_mut.result.now [] lt)))
    ∙ ap (λ (b : Bool). get_or c.args.lists.now.items h [] ++ cond b (c.args.entry.item ∷ []) []) (and_true (is_below f.types h c.args.entry.ty))

pub line-preserved : goal.line-preserved
line-preserved c =
    let f = c.args.f.now in
    let own = least_is f.types c.line.at c.canon-own.result c.canon-own.ensures.same c.canon-own.ensures.least in
    let l = c.canon-own.ensures.least c.line.at (same_self f.types c.line.at) in
    let r = c.line.invariant.in_range in
    let n = c.line.invariant.long in
    let m = c.requires.long in
    let lt : c.canon-own.result < length c.line.lists.items = omega arith in
    let e = sym c.parent.ensures ∙ c.in-Some.is in
    let b = parent_below (types_of f.types) c.line.at c.in-Some.above e in
    record {
      in_range = omega arith;
      long = length-set c.line.lists.items c.canon-own.result c.push.new.self ∙ n;
      up = λ h u. c.line.invariant.up h (below_up f h c.line.at c.in-Some.above e u);
      added = λ h k least.
          advance (nat_eq c.canon-own.result h) (is_below f.types h c.in-Some.above) (is_below f.types h c.line.at) (is_below f.types h c.args.entry.ty) c.args.entry.item
          (get_or c.args.lists.now.items h []) (get_or c.line.lists.items h []) _
          (below_step f h least c.line.at c.in-Some.above e ∙ ap (λ (i : ℕ). nat_eq i h || is_below f.types h c.in-Some.above) (sym own))
          (λ u. ap (λ (i : ℕ). nat_eq i h) own ∙ below_once f h least c.line.at c.in-Some.above e u)
          (c.line.invariant.up h) (c.line.invariant.added h k least)
          (put_here c.line.lists.items c.canon-own.result h c.args.entry.item c.push.new.self lt
          (c.in_ok-push.ensures.ok ∙ ap (λ (xs : List ℕ). xs ++ c.args.entry.item ∷ []) (c.index_mut.ensures.value ∙ get_or_default c.line.lists.items c.canon-own.result c.index_mut.result.now [] lt)));
    }
