-- How operands are taken.
use Rattle.std.proofs.Common.{is_some, length, map, ℕ, zero, suc, ◌≡◌, ◌<◌, ◌≤◌, arith, List, [], ◌∷◌, ◌++◌, ◌∙◌, ap, refl, reverse, replicate, Bool, true, false, cond, ◌&&◌, Option, Some, None}
use Rattle.std.proofs.lemmas.List.{reverse-append}
use Rattle.gu_types.specs.declared.types.TypeList.{TypeList}
use Rattle.gu_types.specs.declared.types.ValType.{ValType}
use Rattle.gu_model.specs.TypingContext.{◌>>=◌}
use Rattle.gu_model.specs.TypingShape.{Kind, Shape, pop_on, pops, pops_down, type_row}
use Rattle.gu_valid_code.specs.State.{Did, is_endless, is_nothing, kind_of}
use Rattle.gu_valid_code.specs.declared.state.Operand.{Operand}
use Rattle.gu_valid_code.specs.Rows.{few_of, below_of, behind, then_of, row_of, follows}
use Rattle.gu_valid_code.specs.declared.row.Few.{Few}
use Rattle.gu_valid_code.specs.declared.row.Few.TheVariants as F
use Rattle.gu_valid_code.specs.declared.row.Then.{Then}
use Rattle.gu_valid_code.specs.declared.row.Then.TheVariants as T
use Rattle.gu_valid_code.specs.declared.row.Row.{Row}

bind_assoc : {X Y Z : Type 0} (o : Option X) (f : X → Option Y) (g : Y → Option Z) → (o >>= f) >>= g ≡ o >>= λ x. f x >>= g
bind_assoc None f g = refl
bind_assoc (Some x) f g = refl

module _ (list : TypeList) where
  -- of lists joined, the first is taken last
  pub pops_down_append : (ts us : List ValType) (s : Shape) → pops_down list (ts ++ us) s ≡ pops_down list ts s >>= pops_down list us
  pops_down_append [] us s = refl
  pops_down_append (t ∷ ts) us s = within (pops_down_append ts us) (pop_on list t s.types s)
    where
      within : ((u : Shape) → pops_down list (ts ++ us) u ≡ pops_down list ts u >>= pops_down list us) → (o : Option Shape) → o >>= pops_down list (ts ++ us) ≡ (o >>= pops_down list ts) >>= pops_down list us
      within rest None = refl
      within rest (Some u) = rest u

  pub pops_append : (ts us : List ValType) (s : Shape) → pops list (ts ++ us) s ≡ pops list us s >>= pops list ts
  pops_append ts us s = ap (λ (vs : List ValType). pops_down list vs s) (reverse-append ts us) ∙ pops_down_append (reverse us) (reverse ts) s

  gives : (t : ValType) (s : Shape) (ks : List Kind) → is_nothing ks && s.any ≡ true → pop_on list t ks s ≡ Some s
  gives t s [] h = ap (λ b. cond b (Some s) None) h
  gives t s (k ∷ ks) h = absurd (let z : ⊥ = cc in z)

  -- where there are no operands and anything stands below, anything is taken
  pub endless : (ts : List ValType) (s : Shape) → is_endless s ≡ true → pops_down list ts s ≡ Some s
  endless [] s h = refl
  endless (t ∷ ts) s h = ap (λ (o : Option Shape). o >>= pops_down list ts) (gives t s s.types h) ∙ endless ts s h

snoc_replicate : {X : Type 0} (n : ℕ) (x : X) → replicate n x ++ x ∷ [] ≡ x ∷ replicate n x
snoc_replicate zero x = refl
snoc_replicate (suc n) x = ap (λ (xs : List _). x ∷ xs) (snoc_replicate n x)

pub reverse_replicate : {X : Type 0} (n : ℕ) (x : X) → reverse (replicate n x) ≡ replicate n x
reverse_replicate zero x = refl
reverse_replicate (suc n) x = reverse-append (x ∷ []) (replicate n x) ∙ ap (λ (xs : List _). xs ++ x ∷ []) (reverse_replicate n x) ∙ snoc_replicate n x

pub did_none : (b : Bool) (o : Option Shape) (new : Shape) → b ≡ false → Did b o new → o ≡ None
did_none true o new h d = absurd (let z : ⊥ = cc in z)
did_none false o new h d = d

pub did_some : (b : Bool) (o : Option Shape) (new : Shape) → b ≡ true → Did b o new → o ≡ Some new
did_some true o new h d = d
did_some false o new h d = absurd (let z : ⊥ = cc in z)

module _ (list : TypeList) where
  pub copies_are : (n : ℕ) (t : ValType) (s : Shape) → pops list (replicate n t) s ≡ pops_down list (replicate n t) s
  copies_are n t s = ap (λ (ts : List ValType). pops_down list ts s) (reverse_replicate n t)

  pub copy_refused : (n : ℕ) (t : ValType) (s : Shape) → 0 < n → pop_on list t s.types s ≡ None → pops_down list (replicate n t) s ≡ None
  copy_refused zero t s h e = absurd (omega (arith, h))
  copy_refused (suc n) t s h e = ap (λ (o : Option Shape). o >>= pops_down list (replicate n t)) e

  pub no_copies : (n : ℕ) (t : ValType) (s : Shape) → n ≤ 0 → pops_down list (replicate n t) s ≡ Some s
  no_copies zero t s h = refl
  no_copies (suc n) t s h = absurd (omega (arith, h))

  pub behind_is : (ts : List ValType) (top : Few) (s : Shape) → pops list (behind ts top) s ≡ pops list (few_of top) s >>= pops list ts
  behind_is ts F.Zero s = refl
  behind_is ts (F.One a) s = pops_append list ts (a ∷ []) s
  behind_is ts (F.Two a b) s = pops_append list ts (a ∷ b ∷ []) s
  behind_is ts (F.Three a b c) s = pops_append list ts (a ∷ b ∷ c ∷ []) s
  behind_is ts (F.Four a b c d) s = pops_append list ts (a ∷ b ∷ c ∷ d ∷ []) s
  behind_is ts (F.Five a b c d e) s = pops_append list ts (a ∷ b ∷ c ∷ d ∷ e ∷ []) s

  then_is : (ts : List ValType) (then : Then) (s : Shape) → type_row list (Some (then_of ts then)) s ≡ pops list ts s >>= follows then
  then_is ts (T.Gives given) s = refl
  then_is ts (T.GivesAll given) s = refl
  then_is ts (T.GivesMore given last) s = refl
  then_is ts T.Leaves s = refl

  row_is : (r : Row) (s : Shape) → type_row list (Some (row_of r)) s ≡ (pops list (few_of r.top) s >>= pops list (below_of r.below)) >>= follows r.then
  row_is r s = then_is (behind (below_of r.below) r.top) r.then s ∙ ap (λ (o : Option Shape). o >>= follows r.then) (behind_is (below_of r.below) r.top s)

  pub no_top : (r : Row) (s : Shape) → pops list (few_of r.top) s ≡ None → type_row list (Some (row_of r)) s ≡ None
  no_top r s h = row_is r s ∙ ap (λ (o : Option Shape). (o >>= pops list (below_of r.below)) >>= follows r.then) h

  pub no_below : (r : Row) (s t : Shape) → pops list (few_of r.top) s ≡ Some t → pops list (below_of r.below) t ≡ None → type_row list (Some (row_of r)) s ≡ None
  no_below r s t h e = row_is r s ∙ ap (λ (o : Option Shape). (o >>= pops list (below_of r.below)) >>= follows r.then) h ∙ ap (λ (o : Option Shape). o >>= follows r.then) e

  pub applied : (r : Row) (s t u v : Shape) → pops list (few_of r.top) s ≡ Some t → pops list (below_of r.below) t ≡ Some u → follows r.then u ≡ Some v → type_row list (Some (row_of r)) s ≡ Some v
  applied r s t u v h e f = row_is r s ∙ ap (λ (o : Option Shape). (o >>= pops list (below_of r.below)) >>= follows r.then) h ∙ ap (λ (o : Option Shape). o >>= follows r.then) e ∙ f

  none_on : (b : Bool) (set : List Bool) (ts : List ValType) (t : ValType) → is_some (pops_down list (t ∷ ts) (record { types = []; any = b; set = set })) ≡ b
  none_on true set ts t = ap is_some (endless list ts (record { types = []; any = true; set = set }) refl)
  none_on false set ts t = refl

  -- where there are no operands, more are there exactly where anything may stand below
  pub none_left : (left before : List ValType) (t : ValType) (s : Shape) (operands : List Operand) → length operands ≡ 0 → left ≡ before ++ t ∷ [] → is_some (pops list left (record s { types = map kind_of (reverse operands) })) ≡ s.any
  none_left left before t s [] h e =
      ap (λ (ts : List ValType). is_some (pops_down list ts (record s { types = [] }))) (ap reverse e ∙ reverse-append before (t ∷ [])) ∙ none_on s.any s.set (reverse before) t
  none_left left before t s (o ∷ operands) h e = absurd (omega (arith, h))
