use Rattle.std.proofs.Common.{◌≡◌, ℕ, List, subst, ap, sym, ◌∙◌}
use Rattle.std.specs.Prelude.{All, Contains, IfOk, flat_map}
use Rattle.std.proofs.lemmas.List.Elements.{All-head, All-tail}
use Rattle.gu_links.specs.declared.link.Link.{Link}
use Rattle.gu_links.specs.declared.link.Link.TheVariants.{SlotGet}
use Rattle.gu_links.specs.declared.slots.Get.{Get}
use Rattle.gu_links.specs.Applied.{from_slots}
use Rattle.gu_links.specs.Cells.{out_cells}
use Rattle.gu_links.specs.Gives.{Contents, Asked, gives}
use Rattle.gu_links.specs.Known.{Has, cells_of}
use Rattle.gu_links.specs.Kept.{fixed_reads, further_reads, over_reach}
use Rattle.gu_links.proofs.Applying.{if_ok_then, slots_known}
use Rattle.gu_links.proofs.asked.go_over.Goals as goal

pub from_slots-requires-clause-known : goal.from_slots-requires-clause-known
from_slots-requires-clause-known c =
    slots_known c.args.s.now.facts.now (cells_of c.args.known.now) c.in-SlotGet.slot _ _ (c.reached.ensures.over c.requires.ready.some c.requires.ready.has c.in-SlotGet.slot) (subst (λ (l : Link). All (Contains (cells_of c.args.known.now)) (further_reads c.args.s.now.facts.now c.args.s.now.links l c.requires.ready.some)) c.in-SlotGet.is (c.requires.ready.further c.requires.ready.some c.requires.ready.has))

pub call_by-requires-clause-operands : goal.call_by-requires-clause-operands
call_by-requires-clause-operands c = subst (λ (cells : List ℕ). All (Contains (cells_of c.args.known.now)) cells) (sym c.as_slice-passed.ensures) (All-tail (Contains (cells_of c.args.known.now)) c.in-CallBy.callee c.in-CallBy.operands (subst (λ (l : Link). All (Contains (cells_of c.args.known.now)) (fixed_reads l)) c.in-CallBy.is c.requires.ready.fixed))

pub call_by-requires-clause-outs : goal.call_by-requires-clause-outs
call_by-requires-clause-outs c = subst (λ (gs : List ℕ). All (Contains (cells_of c.args.known.now)) (flat_map (out_cells c.args.s.now.facts.now) gs)) (c.called-callees.ensures.callees c.requires.ready.some c.requires.ready.has) (subst (λ (l : Link). All (Contains (cells_of c.args.known.now)) (further_reads c.args.s.now.facts.now c.args.s.now.links l c.requires.ready.some)) c.in-CallBy.is (c.requires.ready.further c.requires.ready.some c.requires.ready.has))

pub returns-in-SlotGet : goal.returns-in-SlotGet
unfolding gives
returns-in-SlotGet c =
    subst (λ (l : Link). IfOk c.from_slots.result (λ (asked : List Asked). (x : Contents) → Has c.args.known.now x → asked ≡ gives c.args.s.now.facts.now c.args.s.now.links l x)) (sym c.in-SlotGet.is)
    (if_ok_then c.from_slots.result (λ (asked : List Asked). (x : Contents) → Has c.args.known.now x → asked ≡ from_slots c.args.s.now.facts.now x (let get : Get = (record { slot = c.in-SlotGet.slot; storage = c.in-SlotGet.storage; signed = c.in-SlotGet.signed; to = c.in-SlotGet.to }) in get) (over_reach c.args.s.now.facts.now c.reached.result c.in-SlotGet.slot))
    (λ (asked : List Asked). (x : Contents) → Has c.args.known.now x → asked ≡ gives c.args.s.now.facts.now c.args.s.now.links (SlotGet c.in-SlotGet.object c.in-SlotGet.ty c.in-SlotGet.slot c.in-SlotGet.storage c.in-SlotGet.signed c.in-SlotGet.to) x)
    (λ asked p x h. p x h ∙ ap (from_slots c.args.s.now.facts.now x (let get : Get = (record { slot = c.in-SlotGet.slot; storage = c.in-SlotGet.storage; signed = c.in-SlotGet.signed; to = c.in-SlotGet.to }) in get)) (sym (c.reached.ensures.over x h c.in-SlotGet.slot))) c.from_slots.ensures)

pub called-callees-requires-clause-callee : goal.called-callees-requires-clause-callee
called-callees-requires-clause-callee c = All-head (Contains (cells_of c.args.known.now)) c.in-CallBy.callee c.in-CallBy.operands (subst (λ (l : Link). All (Contains (cells_of c.args.known.now)) (fixed_reads l)) c.in-CallBy.is c.requires.ready.fixed)
