use Rattle.std.proofs.Common.{refl, sym, ◌∙◌, subst}
use Rattle.gu_types.specs.declared.types.HeapType.{HeapType}
use Rattle.gu_types.specs.declared.types.HeapType.TheVariants as H
use Rattle.gu_types.specs.declared.types.TypeList.{TypeList}
use Rattle.gu_rec.specs.Closed.{SameType}
use Rattle.gu_rec.specs.Sub.{IsSub, itself, onward, same, SameHeap}
use Rattle.gu_rec.specs.Laws.{SameIsEquivalence, SubIsAnOrder}
use Rattle.gu_rec.proofs.Decided.{is_sub_complete}
use Rattle.gu_rec.proofs.Antisymmetric.{antisymmetric}
use Rattle.gu_rec.proofs.laws.types_are_ordered.Goals as goal

equivalence : SameIsEquivalence
unfolding SameType
equivalence = record {
  reflexive = λ list i. refl;
  symmetric = λ one other i j e. sym e;
  transitive = λ one two three i j k e f. e ∙ f;
}

alike : (list : TypeList) (a b : HeapType) → SameHeap list a b → IsSub list a b
alike list (H.Abs k) (H.Abs l) e = subst (λ m. IsSub list (H.Abs k) (H.Abs m)) e (itself (H.Abs k))
alike list (H.Abs k) (H.Idx j) e = absurd e
alike list (H.Idx i) (H.Abs l) e = absurd e
alike list (H.Idx i) (H.Idx j) e = same i j e

order : SubIsAnOrder
order list hold = record {
  reflexive = alike list;
  transitive = λ a b c p q. onward a b c p q;
  antisymmetric = λ a b p q. antisymmetric list hold a b (is_sub_complete list hold p) (is_sub_complete list hold q);
}

pub returns : goal.returns
returns c = record { same = equivalence; order = order }
