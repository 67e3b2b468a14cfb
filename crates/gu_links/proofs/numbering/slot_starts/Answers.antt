use Rattle.std.proofs.Common.{◌≡◌, ◌∙◌, ap, sym, length, arith, rules}
use Rattle.gu_types.specs.Depth.{types_of}
use Rattle.gu_links.specs.Cells.{slots_before}
use Rattle.gu_links.proofs.Within.{starts_more, slots_next}
use Rattle.gu_links.proofs.numbering.slot_starts.Goals as goal

pub types-preserved : goal.types-preserved
types-preserved c = record {
  long = search rules;
  starts = starts_more (slots_before c.args.facts.now) c.types.starts.items c.push.new.self.items c.types.end c.types.invariant.starts
      (c.types.invariant.end ∙ ap (slots_before c.args.facts.now) (sym c.types.invariant.long)) c.in_ok-push.ensures.items;
  end = let e = slots_next c.args.facts.now c.types.ty in let b = c.in_ok-end.ensures in let h = c.types.invariant.end in let o = c.own_slots.ensures in omega arith;
}

pub returns-clause-end : goal.returns-clause-end
returns-clause-end c =
    let all : c.types.ty ≡ length (types_of c.args.facts.now.types) = omega (arith, c.in_ok-types.ensures) in
    c.types.invariant.end ∙ ap (slots_before c.args.facts.now) all
