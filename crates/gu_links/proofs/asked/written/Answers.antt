use Rattle.std.proofs.Common.{◌≡◌, ◌∷◌, [], subst, ap, ap₂, sym, ◌∙◌}
use Rattle.std.specs.Prelude.{All, Contains}
use Rattle.std.proofs.lemmas.List.Elements.{All-head, All-tail}
use Rattle.gu_contents.specs.Numbers.{pack}
use Rattle.gu_links.specs.declared.link.Link.{Link}
use Rattle.gu_links.specs.declared.slots.Put.{Put}
use Rattle.gu_links.specs.Applied.{put}
use Rattle.gu_links.specs.Gives.{gives, into_slots, joined}
use Rattle.gu_links.specs.Known.{cells_of}
use Rattle.gu_links.specs.Kept.{fixed_reads, further_reads}
use Rattle.gu_links.proofs.Applying.{slots_known}
use Rattle.gu_links.proofs.asked.written.Goals as goal

pub reached-requires-clause-object : goal.reached-requires-clause-object
reached-requires-clause-object c = All-head (Contains (cells_of c.args.known.now)) c.in-SlotSet.object (c.in-SlotSet.from ∷ []) (subst (λ (l : Link). All (Contains (cells_of c.args.known.now)) (fixed_reads l)) c.in-SlotSet.is c.requires.fixed)

pub joined-requires-clause-known : goal.joined-requires-clause-known
joined-requires-clause-known c =
    slots_known c.args.s.now.facts.now (cells_of c.args.known.now) 0 _ _ (c.reached-in-SlotCopy-2.ensures.over c.requires.some c.requires.has 0) (subst (λ (l : Link). All (Contains (cells_of c.args.known.now)) (further_reads c.args.s.now.facts.now c.args.s.now.links l c.requires.some)) c.in-SlotCopy.is (c.requires.further c.requires.some c.requires.has))

pub returns-in-SlotSet-clause-gives : goal.returns-in-SlotSet-clause-gives
unfolding gives
returns-in-SlotSet-clause-gives c x h =
    let f = c.args.s.now.facts.now in
    let p : Put = record { reach = c.reached.result; slot = c.in-SlotSet.slot; a = c.pack.result } in
    let fixed = subst (λ (l : Link). All (Contains (cells_of c.args.known.now)) (fixed_reads l)) c.in-SlotSet.is c.requires.fixed in
    subst (λ (l : Link). put f p ≡ gives f c.args.s.now.links l x) (sym c.in-SlotSet.is)
    (ap₂ (into_slots f c.in-SlotSet.slot)
    (c.pack.ensures ∙ ap (pack c.in-SlotSet.storage) (c.content_at.ensures.value x h (All-head (Contains (cells_of c.args.known.now)) c.in-SlotSet.from [] (All-tail (Contains (cells_of c.args.known.now)) c.in-SlotSet.object (c.in-SlotSet.from ∷ []) fixed))))
    (sym (c.reached.ensures.over x h c.in-SlotSet.slot)))

pub returns-in-SlotCopy-clause-gives : goal.returns-in-SlotCopy-clause-gives
unfolding gives
returns-in-SlotCopy-clause-gives c x h =
    let f = c.args.s.now.facts.now in
    let p : Put = record { reach = c.reached-in-SlotCopy.result; slot = 0; a = c.joined.result } in
    subst (λ (l : Link). put f p ≡ gives f c.args.s.now.links l x) (sym c.in-SlotCopy.is)
    (ap₂ (into_slots f 0)
    (c.joined.ensures x h ∙ ap (joined f x) (sym (c.reached-in-SlotCopy-2.ensures.over x h 0)))
    (sym (c.reached-in-SlotCopy.ensures.over x h 0)))
