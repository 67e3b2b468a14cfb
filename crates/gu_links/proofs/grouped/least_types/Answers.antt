use Rattle.std.proofs.Common.{◌≡◌, ◌++◌, ◌∷◌, [], List, ap, sym, ◌∙◌}
use Rattle.std.proofs.lemmas.Bool.{eq-eqb}
use Rattle.gu_contents.specs.Contents.{least_of}
use Rattle.gu_contents.proofs.Heights.{least_is}
use Rattle.gu_links.specs.declared.grouped.Typed.{Typed}
use Rattle.gu_links.specs.Cells.{is_least}
use Rattle.gu_links.specs.Listing.{itself}
use Rattle.gu_links.proofs.Reaching.{eq_apart}
use Rattle.gu_links.proofs.Walks.{kept_run, unkept_run}
use Rattle.gu_links.proofs.grouped.least_types.Goals as goal
use Rattle.gu_links.proofs.grouped.least_types.Goals.{then-canon-ty+in_ok-push, else-canon-ty}

pub types-preserved : goal.types-preserved
types-preserved c =
    let e : c.canon.result ≡ least_of c.args.f.now.types c.types.ty = least_is c.args.f.now.types c.types.ty c.canon.result c.canon.ensures.same c.canon.ensures.least in
    elim c.if-canon-ty.branch [
      | then-canon-ty+in_ok-push w ↦
          w.items-is ∙ w.in_ok-push.ensures.ok
          ∙ ap (λ (xs : List Typed). xs ++ itself c.types.ty ∷ []) c.types.invariant
          ∙ sym (kept_run itself (is_least c.args.f.now.types) c.types.ty (eq-eqb (least_of c.args.f.now.types c.types.ty) c.types.ty (sym e ∙ w.if-canon-ty.true)))
      | else-canon-ty w ↦
          w.items-is ∙ c.types.invariant
          ∙ sym (unkept_run itself (is_least c.args.f.now.types) c.types.ty (eq_apart (least_of c.args.f.now.types c.types.ty) c.types.ty (λ same. w.if-canon-ty.false (e ∙ same))))
    ]
