-- Parts that stand one behind another.
use Rattle.std.proofs.Common.{◌≡◌, ◌∙◌, refl, sym, subst, ℕ, List, [], ◌∷◌, ◌++◌, All, Result, Ok, Err, Vec, IfOk, slice_index_or}
use Rattle.std.specs.declared.alloc.AllocError.{AllocError}
use Rattle.std.specs.declared.alloc.Global.{Global}
use Rattle.std.proofs.lemmas.List.Elements.{All-append, All-contains}
use Rattle.gu_parallel.specs.declared.parts.Part.{Part}
use Rattle.gu_parallel.specs.Parts.{Chained, IsPartOf, Follow, Arranges}

-- chained parts from a place, which end at another
abbrev pub ChainedTo : {X : Type 0} → (place end : ℕ) → List (Part X) → Type 0
ChainedTo place end [] = place ≡ end
ChainedTo place end (part ∷ parts) = (part.start ≡ place) × ChainedTo part.end end parts

-- they are chained
pub chained : {X : Type 0} (place end : ℕ) (parts : List (Part X)) → ChainedTo place end parts → Chained place parts
chained place end [] h = tt
chained place end (part ∷ parts) h = (h.0, chained part.end end parts h.1)

-- and one that starts there may follow
pub chained_more : {X : Type 0} (place end : ℕ) (parts : List (Part X)) (part : Part X) → ChainedTo place end parts → part.start ≡ end → ChainedTo place part.end (parts ++ part ∷ [])
chained_more place end [] part h starts = (starts ∙ sym h, refl)
chained_more place end (first ∷ parts) part h starts = (h.0, chained_more first.end end parts part h.1 starts)

-- parts of the work in both results, arranged, follow each other
pub followed : {X : Type 0} (ends : ℕ → ℕ → Type 0) (makes : ℕ → ℕ → X → Type 0) (until : ℕ) (own theirs result : Result (Vec (Part X) Global) AllocError)
    → IfOk own (λ parts. All (IsPartOf ends makes until) parts.items)
    → IfOk theirs (λ parts. All (IsPartOf ends makes until) parts.items)
    → IfOk result (λ parts. Arranges own theirs parts.items)
    → IfOk result (λ parts. Follow ends makes until 0 parts.items)
followed ends makes until own theirs (Err e) a b h = tt
followed {X} ends makes until own theirs (Ok all) a b h =
    let P : Part X → Type 0 = IsPartOf ends makes until in
    let ours = subst (λ r. IfOk r (λ parts. All P parts.items)) h.2 a in
    let others = subst (λ r. IfOk r (λ parts. All P parts.items)) h.3 b in
    let given = h.0.items ++ h.1.items in
    let every = All-append P h.0.items h.1.items ours others in
    record { chained = h.4; each = λ k d lt. All-contains P given (slice_index_or all.items k d) every (h.5 k d lt) }
