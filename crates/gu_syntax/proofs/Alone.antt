-- Groups of types and code entries that are read by themselves.
use Rattle.std.proofs.Common.{ℕ, suc, ◌+◌, ◌≤◌, ◌<◌, List, ◌++◌, ◌≡◌, ap, ◌∙◌, sym, refl, length, arith}
use Rattle.gu_types.specs.declared.types.RecGroup.{RecGroup}
use Rattle.gu_syntax.specs.Parts.{SpellsVector}
use Rattle.gu_syntax.specs.Types.{SpellsGroup}
use Rattle.gu_syntax.specs.Expressions.{Entry, SpellsEntry}
use Rattle.gu_syntax.specs.Nesting.{NestsBody}
use Rattle.gu_syntax.specs.Laws.{BeginsWith}
use Rattle.gu_syntax.specs.Reading.{Fault, FlatOpcode, got, stops, vector_at, group_at, entry_at}
use Rattle.gu_syntax.proofs.Takes.{Takes}
use Rattle.gu_syntax.proofs.Decodes.{Decodes, vector_decodes, got-stops}
use Rattle.gu_syntax.proofs.Types.{group_decodes}
use Rattle.gu_syntax.proofs.Segments.{entry_decodes}
use Rattle.gu_syntax.proofs.Narrow.{Narrows, entry, flat_of}
use Rattle.gu_syntax.proofs.Shallow.{Keeps, keep_entry}

begins_with : (P : List ℕ → Type 0) (text rest : List ℕ) → Takes P text rest → BeginsWith P text rest
begins_with P text rest t = record { front = t.front; back = rest; whole = t.whole; first = t.spells; second = refl }

groups_decode : (bound : ℕ) → Decodes bound (SpellsVector SpellsGroup) (vector_at group_at)
groups_decode bound = vector_decodes bound SpellsGroup group_at (group_decodes bound)

pub groups_again : (groups : List RecGroup) (front rest : List ℕ) → SpellsVector SpellsGroup groups front → vector_at group_at (front ++ rest) ≡ got groups rest
groups_again groups front rest h = (groups_decode (suc (length (front ++ rest)))).again groups front rest h (omega arith)

pub groups_taken : (text rest : List ℕ) (groups : List RecGroup) → vector_at group_at text ≡ got groups rest → BeginsWith (SpellsVector SpellsGroup groups) text rest
groups_taken text rest groups h = begins_with (SpellsVector SpellsGroup groups) text rest ((groups_decode 0).taken text rest groups h)

-- what a text begins with is read from it
groups_there : (text rest : List ℕ) (groups : List RecGroup) → BeginsWith (SpellsVector SpellsGroup groups) text rest → vector_at group_at text ≡ got groups rest
groups_there text rest groups h = ap (vector_at group_at) h.whole ∙ groups_again groups h.front h.back h.first ∙ ap (λ r. got groups r) h.second

pub groups_refused : (text rest : List ℕ) (groups : List RecGroup) (fault : Fault) → vector_at group_at text ≡ stops fault → BeginsWith (SpellsVector SpellsGroup groups) text rest → ⊥
groups_refused text rest groups fault h s = got-stops groups rest fault (sym (groups_there text rest groups s) ∙ h)

pub groups_inside : (text : List ℕ) (fault : Fault) → vector_at group_at text ≡ stops fault → fault.left ≤ length text
groups_inside text fault h = (groups_decode 0).within text fault h

pub entry_again : (room : ℕ) (x : Entry) (front rest : List ℕ) → SpellsEntry x front → length (front ++ rest) < room → entry_at room (front ++ rest) ≡ got x rest
entry_again room x front rest h low = (entry_decodes room room (omega arith)).again x front rest h low

-- with any more room than the text has bytes
entry_wide : (room : ℕ) (text rest : List ℕ) (x : Entry) → BeginsWith (SpellsEntry x) text rest → entry_at (room + suc (length text)) text ≡ got x rest
entry_wide room text rest x h =
    let more = room + suc (length text) in
    ap (entry_at more) h.whole ∙ entry_again more x h.front h.back h.first (omega (arith, ap length h.whole)) ∙ ap (λ r. got x r) h.second

pub entry_shallow : (room : ℕ) (x : Entry) (front rest : List ℕ) → SpellsEntry x front → NestsBody room x.1 → entry_at room (front ++ rest) ≡ got x rest
unfolding Keeps
entry_shallow room x front rest h nests =
    let text = front ++ rest in
    keep_entry room (room + suc (length text)) (omega arith) text rest x (entry_wide room text rest x (record { front = front; back = rest; whole = refl; first = h; second = refl })) (tt, nests)

pub entry_taken : (room : ℕ) (text rest : List ℕ) (x : Entry) → entry_at room text ≡ got x rest → BeginsWith (SpellsEntry x) text rest
entry_taken room text rest x h = begins_with (SpellsEntry x) text rest ((entry_decodes 0 room (omega arith)).taken text rest x h)

pub entry_refused : (room : ℕ) (text rest : List ℕ) (x : Entry) (fault : Fault) → entry_at room text ≡ stops fault → BeginsWith (SpellsEntry x) text rest → (fault.item ≡ FlatOpcode) × (NestsBody room x.1 → ⊥)
unfolding Narrows
entry_refused room text rest x fault h s =
    let more = room + suc (length text) in
    let read = entry_wide room text rest x s in (
      flat_of (entry_at room text) (entry_at more text) x rest fault (entry room more (omega arith) text) h read,
      (λ nests. got-stops x rest fault (sym (ap (λ r. got x r) s.second) ∙ sym (entry_shallow room x s.front s.back s.first nests) ∙ sym (ap (entry_at room) s.whole) ∙ h)),
    )

pub entry_inside : (room : ℕ) (text : List ℕ) (fault : Fault) → entry_at room text ≡ stops fault → fault.left ≤ length text
entry_inside room text fault h = (entry_decodes 0 room (omega arith)).within text fault h
