use Rattle.std.proofs.Common.{◌≡◌, ◌↔◌, ℕ, IsTrue, List, take, ap, sym, ◌∙◌, subst}
use Rattle.gu_types.specs.declared.types.SubType.{SubType}
use Rattle.gu_types.specs.declared.types.RecGroup.{RecGroup}
use Rattle.gu_rec.specs.Keys.{key, types_at}
use Rattle.gu_rec.proofs.Chained.{same_keys, types_at_read}
use Rattle.gu_rec.proofs.distinct.Distinct.has_key.Goals as goal

pub returns : goal.returns
returns c =
    let numbers : List ℕ = c.args.numbers.now in
    let groups : List RecGroup = c.args.groups.now in
    let types : List SubType = c.args.types.now in
    let earlier : List ℕ = take c.args.self.start numbers in
    let own : c.as_slice-own.result.now ≡ types_at groups c.args.self.group = c.as_slice-own.ensures ∙ (ap (λ (g : RecGroup). g.types) (sym c.index-groups-self.is) ∙ sym (types_at_read groups c.args.self.group c.index-groups-self.result c.requires.at c.index-groups-self.is)) in
    subst (λ o. IsTrue c.same_types.result ↔ (key earlier o ≡ key numbers types)) own (same_keys c.as_slice-own.result.now types earlier numbers c.same_types.result c.same_types.ensures)
