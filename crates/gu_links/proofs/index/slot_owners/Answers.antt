use Rattle.std.proofs.Common.{◌∙◌, ◌≡◌, ◌++◌, ◌∷◌, [], ℕ, List, length, ap, ap₂, sym, rules}
use Rattle.std.specs.Prelude.{replicate}
use Rattle.gu_links.specs.Cells.{own_slots, slots_before}
use Rattle.gu_links.proofs.Owning.{mapped_next, owned_long, owned_next}
use Rattle.gu_links.proofs.index.slot_owners.Goals as goal

pub types-preserved : goal.types-preserved
types-preserved c =
    let f = c.args.f.now in
    let ty : ℕ = c.types.ty in
    let long : c.len.result ≡ length c.types.owners.items = search rules in
    record {
      starts =
          c.in_ok-push.ensures.items
          ∙ ap₂ (λ (xs : List ℕ) (n : ℕ). xs ++ n ∷ []) c.types.invariant.starts (long ∙ ap length c.types.invariant.owners ∙ owned_long (own_slots f.types) ty)
          ∙ sym (mapped_next (slots_before f) ty);
      owners =
          c.in_ok-own.ensures
          ∙ ap₂ (λ (xs : List ℕ) (n : ℕ). xs ++ replicate n ty) c.types.invariant.owners c.own_slots.ensures
          ∙ owned_next (own_slots f.types) [] ty;
    }
