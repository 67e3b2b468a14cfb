use Rattle.std.proofs.Common.{◌≡◌, List, subst, sym}
use Rattle.std.specs.Prelude.{All, Contains, IfOk, flat_map}
use Rattle.gu_links.specs.declared.reach.Callees.{Callees}
use Rattle.gu_links.specs.Cells.{out_cells}
use Rattle.gu_links.specs.Gives.{Asked, Contents, call}
use Rattle.gu_links.specs.Known.{Has, cells_of}
use Rattle.gu_links.specs.Kept.{callable}
use Rattle.gu_links.proofs.call.call_by.Goals as goal

pub call_reach-requires-clause-outs : goal.call_reach-requires-clause-outs
call_reach-requires-clause-outs c = subst (λ (cs : Callees). All (Contains (cells_of c.args.known.now)) (flat_map (out_cells c.args.s.now.facts.now) (callable c.args.s.now.facts.now c.args.s.now.links cs))) c.in-Under.is c.requires.outs

pub call_one-requires-clause-outs : goal.call_one-requires-clause-outs
call_one-requires-clause-outs c = subst (λ (cs : Callees). All (Contains (cells_of c.args.known.now)) (flat_map (out_cells c.args.s.now.facts.now) (callable c.args.s.now.facts.now c.args.s.now.links cs))) c.in-One.is c.requires.outs

pub returns-in-One : goal.returns-in-One
returns-in-One c =
    subst (λ (cs : Callees). IfOk c.call_one.result (λ (asked : List Asked). (x : Contents) → Has c.args.known.now x → asked ≡ flat_map (call c.args.s.now.facts.now c.args.operands.now c.args.results.now x) (callable c.args.s.now.facts.now c.args.s.now.links cs)))
    (sym c.in-One.is) c.call_one.ensures
