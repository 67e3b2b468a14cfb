-- A reach that is no deeper than its head has no other type.
use Rattle.std.proofs.Common.{◌≡◌, ◌∙◌, ℕ, suc, ◌+◌, ◌≤◌, ◌&&◌, Bool, true, false, [], ◌∷◌, Option, Some, None, option_map, length, refl, sym, ap, subst, arith}
use Rattle.std.specs.Prelude.{nat_eq, if◌then◌else◌}
use Rattle.std.specs.List.{filter as keep}
use Rattle.std.proofs.lemmas.Bool.{eq-eqb, eqb-true, leb-true}
use Rattle.std.proofs.lemmas.List.Elements.{filter_agree}
use Rattle.gu_types.specs.declared.types.HeapType.TheVariants as H
use Rattle.gu_types.specs.declared.types.TypeList.{TypeList}
use Rattle.gu_types.specs.Depth.{types_of, parent}
use Rattle.gu_rec.specs.Closed.{SameType}
use Rattle.gu_rec.specs.Keys.{run}
use Rattle.gu_rec.specs.Sub.{distance, line, same_heap}
use Rattle.gu_rec.specs.Tests.{same_type}
use Rattle.gu_rec.proofs.Places.{place_is, index_root, index_step}
use Rattle.gu_rec.proofs.Same.{same_type_decides}
use Rattle.gu_contents.specs.declared.facts.Facts.{Facts}
use Rattle.gu_contents.specs.Contents.{least_of}
use Rattle.gu_contents.specs.Order.{reaches}
use Rattle.gu_contents.proofs.Heights.{least_least}
use Rattle.gu_links.specs.declared.reach.Reach.{Reach}
use Rattle.gu_links.specs.Cells.{is_least}
use Rattle.gu_links.specs.Over.{has_slot}
use Rattle.gu_links.specs.Kept.{in_reach, over_reach}
use Rattle.gu_links.specs.Index.{IsHead}
use Rattle.gu_links.proofs.Reaching.{only}

first_there : (b : Bool) (o : Option ℕ) → (if b then Some 0 else option_map suc o) ≡ Some 0 → b ≡ true
first_there true o e = refl
first_there false None e = absurd cc
first_there false (Some k) e = absurd cc

-- no edge leads to another type
nearest : (list : TypeList) (h s : ℕ) (o : Option ℕ) → parent (types_of list) s ≡ o → distance list (H.Idx h) (H.Idx s) ≡ Some 0 → same_type list h list s ≡ true
unfolding distance
nearest list h s None is e = first_there (same_type list h list s) None (sym (place_is (same_heap list (H.Idx h)) (line list (H.Idx s)) ∙ index_root list h s is) ∙ e)
nearest list h s (Some p) is e = first_there (same_type list h list s) _ (sym (place_is (same_heap list (H.Idx h)) (line list (H.Idx s)) ∙ index_step list h s p is) ∙ e)

same_least : (list : TypeList) (h s : ℕ) → is_least list h ≡ true → is_least list s ≡ true → SameType list h list s → h ≡ s
unfolding SameType
same_least list h s least_h least_s same =
    let a : least_of list h ≡ h = eqb-true (least_of list h) h least_h in
    let b : least_of list s ≡ s = eqb-true (least_of list s) s least_s in
    let c : least_of list h ≤ s = least_least list h s same in
    let d : least_of list s ≤ h = least_least list s h (sym same) in
    omega arith

no_edges : (o : Option ℕ) → reaches o 0 0 ≡ true → o ≡ Some 0
no_edges None e = absurd cc
no_edges (Some k) e = let le : k + 0 ≤ 0 = leb-true (k + 0) 0 e in let z : k ≡ 0 = omega arith in ap (λ (n : ℕ). Some n) z

at_head : (f : Facts) (r : Reach) (s : ℕ) → IsHead f r → r.depth ≡ 0 → is_least f.types s ≡ true → in_reach f (Some r) s ≡ true → r.head ≡ s
at_head f r s head flat least e =
    let near : distance f.types (H.Idx r.head) (H.Idx s) ≡ Some 0 = no_edges _ (subst (λ (d : ℕ). reaches (distance f.types (H.Idx r.head) (H.Idx s)) 0 d ≡ true) flat e) in
    same_least f.types r.head s head.least least ((same_type_decides f.types f.types r.head s).0 (nearest f.types r.head s (parent (types_of f.types) s) refl near))

-- of the tests whether a type has a slot, is the least of its type, stands in a reach and is its head, the last decides
decided : (has least near head : Bool) → (head ≡ true → least ≡ true) → (least ≡ true → near ≡ true → head ≡ true) → (has && (least && near)) ≡ ((has && near) && head)
decided false least near head p q = refl
decided true true true head p q = sym (q refl refl)
decided true true false head p q = refl
decided true false true true p q = p refl
decided true false true false p q = refl
decided true false false head p q = refl

pub head_alone : (f : Facts) (r : Reach) (slot : ℕ) → IsHead f r → r.depth ≡ 0 → keep (λ t. has_slot f slot t && in_reach f (Some r) t) (r.head ∷ []) ≡ over_reach f (Some r) slot
head_alone f r slot head flat =
    let test = λ (t : ℕ). has_slot f slot t && in_reach f (Some r) t in
    sym (filter_agree (λ s. has_slot f slot s && (is_least f.types s && in_reach f (Some r) s)) (λ s. test s && nat_eq r.head s)
    (λ s. decided (has_slot f slot s) (is_least f.types s) (in_reach f (Some r) s) (nat_eq r.head s)
    (λ e. subst (λ (t : ℕ). is_least f.types t ≡ true) (eqb-true r.head s e) head.least)
    (λ least near. eq-eqb r.head s (at_head f r s head flat least near)))
    (run 0 (length (types_of f.types)))
    ∙ only test r.head 0 (length (types_of f.types)) (omega arith) (let lt = head.in_range in omega arith))
