-- What follows an operand that was taken.
use Rattle.std.proofs.Common.{◌≡◌, List, [], ◌∷◌, ◌∙◌, ap, sym, subst, Bool, cond, Option, Some, None, option_map}
use Rattle.gu_model.specs.TypingShape.{Kind, Bot, Shape, pop_kind, pop_kind_on}
use Rattle.gu_valid_code.specs.State.{Did, Took, TookOne, kind_of}
use Rattle.gu_valid_code.specs.declared.state.Operand.{Operand}

took_on : (k : Kind) (ks : List Kind) (old new : Shape) (go : Kind → Shape → Option Shape) → TookOne k ks old new → pop_kind_on ks old go ≡ go k new
took_on k [] old new go h =
    ap (λ b. cond b (go Bot old) None) h.0 ∙ ap (λ (j : Kind). go j old) (sym h.1) ∙ ap (go k) (sym h.2)
took_on k (j ∷ ks) old new go h = ap (λ (i : Kind). go i (record old { types = ks })) (sym h.0) ∙ ap (go k) (sym h.1)

-- what is left to do was done, or can't be done
pub took : (r : Option Operand) (k : Operand) (old new after : Shape) (b : Bool) (go : Kind → Shape → Option Shape) → Took (option_map kind_of r) old new → r ≡ Some k → Did b (go (kind_of k) new) after → Did b (pop_kind old go) after
took None k old new after b go h is done = absurd (let z : ⊥ = cc in z)
took (Some j) k old new after b go h is done =
    let same : j ≡ k = cc in
    let e : go (kind_of k) new ≡ pop_kind old go = ap (λ (i : Operand). go (kind_of i) new) (sym same) ∙ sym (took_on (kind_of j) old.types old new go h) in
    subst (λ (o : Option Shape). Did b o after) e done

pub took_nothing : (r : Option Operand) (old new : Shape) (go : Kind → Shape → Option Shape) → Took (option_map kind_of r) old new → r ≡ None → pop_kind old go ≡ None
took_nothing None old new go h is = ap (λ (ks : List Kind). pop_kind_on ks old go) h.0 ∙ ap (λ b. cond b (go Bot old) None) h.1
took_nothing (Some j) old new go h is = absurd (let z : ⊥ = cc in z)
