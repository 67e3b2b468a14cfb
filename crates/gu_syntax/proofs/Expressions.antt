-- Expressions: what is spelled is read, and what is read is spelled.
use Rattle.std.proofs.Common.{ℕ, zero, suc, ◌-◌, ◌≤◌, List, [], ◌∷◌, ◌++◌, ◌≡◌, refl, ap, ◌∙◌, sym, subst, length, arith, nat_eq, Bool, true, false, cond, ◌⊎◌, inl, inr, Option, Some, None}
use Rattle.std.specs.List.{AllByRecursion}
use Rattle.std.proofs.lemmas.Bool.{cases_Bool, cond-true, cond-false}
use Rattle.std.proofs.lemmas.List.{append-nil}
use Rattle.gu_optab.specs.Operators.{operator_with}
use Rattle.gu_optab.specs.declared.op.NumOp.{NumOp}
use Rattle.gu_types.specs.declared.types.HeapType.{HeapType}
use Rattle.gu_types.specs.declared.types.ValType.{ValType}
use Rattle.gu_syntax.specs.Code.{Ins, Code, leaf, block, loop, choice, try_table, done, next, ins_of, code_of, instr_of, list_of}
use Rattle.gu_syntax.specs.declared.instr.BlockType.{BlockType}
use Rattle.gu_syntax.specs.declared.instr.Body.{Body}
use Rattle.gu_syntax.specs.declared.instr.Catch.{Catch}
use Rattle.gu_syntax.specs.declared.instr.Instr.{Instr}
use Rattle.gu_syntax.specs.Parts.{Parts, Begins, SpellsVector, Made}
use Rattle.gu_syntax.specs.declared.instr.BranchTable.{BranchTable}
use Rattle.gu_syntax.specs.declared.instr.CastBranch.{CastBranch}
use Rattle.gu_syntax.specs.Instructions.{SpellsBlockType, SpellsCatch, Form, Alone, Index, Pair, Labels, Const32, Const64, Access, Heap, Types, Cast, Unknown, SpellsForm, labels_of, row_or, form_of, operator_form, plain_rows, aggregate_rows, bulk_rows, SpellsLeaf}
use Rattle.gu_syntax.specs.Expressions.{SpellsUntil, SpellsIns, SpellsBody}
use Rattle.gu_syntax.specs.Reading.{Opcode, FlatOpcode, Read, got, ◌>>=◌, made_at, headed_at, none_at, vector_at, block_type_at, catch_at, leaf_at, opened, Nested, block_at, second_at, if_at, try_at, ins_at, next_of, next_at, until_head, until_at, body_of, body_at}
use Rattle.gu_syntax.proofs.Shapes.{has_code, ins_of-plain, ins_of-Block, ins_of-Loop, ins_of-If, ins_of-TryTable}
use Rattle.gu_syntax.proofs.Back.{list_back}
use Rattle.gu_syntax.proofs.Takes.{Splits}
use Rattle.gu_syntax.proofs.Decodes.{Decodes, Continues, continues_of, continues_chain, decodes_then, Heads, Headed, headed_lower, Row, Nothing, MadeBy, Void, made_heads, made_void, row_void, avoids, decodes_as, none_decodes, made_decodes, left_heads, row_heads, vector_decodes, refused-got, left_is}
use Rattle.gu_syntax.proofs.Types.{fixed, alone}
use Rattle.gu_syntax.proofs.Instructions.{block_type_decodes, catch_decodes, PrefixedIn, CodedBy, LeafBy, leaf_heads, spells_leaf, coded_void, leaf_back}

-- instructions and their end; and whether that is `else`, which may be where they may be split
unfoldable pub Ended : Bool → Code × Bool → List ℕ → Type 0
Ended may_split x text = ((x.1 ≡ false) × SpellsUntil 0x0B x.0 text) ⊎ ((may_split ≡ true) × (x.1 ≡ true) × SpellsUntil 0x05 x.0 text)

not_split : false ≡ true → ⊥
not_split h = cc

-- a block or a loop

unfoldable BlockOf : (BlockType → Code → Ins) → Ins → List ℕ → Type 0
BlockOf make ins text = (ty : BlockType) × (code : Code) × (make ty code ≡ ins) × Parts (SpellsBlockType ty) (SpellsUntil 0x0B code) text

block_close : (make : BlockType → Code → Ins) (ty : BlockType) (ins : Ins) (text : List ℕ) → Parts (SpellsBlockType ty) (Made (Ended false) (λ x. make ty x.0) ins) text → BlockOf make ins text
unfolding BlockOf Ended
block_close make ty ins text p = elim p.second.spelled [
  | inl h ↦ (ty, p.second.value.0, p.second.makes, record { front = p.front; back = p.back; whole = p.whole; first = p.first; second = h.1 })
  | inr h ↦ absurd (not_split h.0)
]

block_splits : (make : BlockType → Code → Ins) → Splits (BlockOf make) SpellsBlockType (λ ty. Made (Ended false) (λ x. make ty x.0))
unfolding BlockOf Ended
block_splits make = record {
  opens = λ ins text h. (h.0, record { front = h.3.front; back = h.3.back; whole = h.3.whole; first = h.3.first; second = record { value = (h.1, false); makes = h.2; spelled = inl (refl, h.3.second) } });
  closes = block_close make;
}

block_decodes : (bound : ℕ) (make : BlockType → Code → Ins) (inside : List ℕ → Read (Code × Bool)) → Decodes bound (Ended false) inside → Decodes bound (BlockOf make) (block_at make inside)
block_decodes bound make inside d = decodes_then bound (BlockOf make) SpellsBlockType (λ ty. Made (Ended false) (λ x. make ty x.0)) block_type_at (λ ty rest. inside rest >>= λ code behind. got (make ty code.0) behind) (block_splits make) (block_type_decodes bound) (λ ty. made_decodes bound (Ended false) inside (λ x. make ty x.0) d)

-- an if

unfoldable Branches : BlockType → Ins → List ℕ → Type 0
Branches ty ins text = (one : Code) × (other : Code) × (choice ty one other ≡ ins) × (((other ≡ done) × SpellsUntil 0x0B one text) ⊎ Parts (SpellsUntil 0x05 one) (SpellsUntil 0x0B other) text)

unfoldable IfOf : Ins → List ℕ → Type 0
IfOf ins text = (ty : BlockType) × Parts (SpellsBlockType ty) (Branches ty ins) text

unfoldable SecondOf : BlockType → Code × Bool → Ins → List ℕ → Type 0
SecondOf ty (one, true) ins text = Made (Ended false) (λ x. choice ty one x.0) ins text
SecondOf ty (one, false) ins text = Nothing (choice ty one done) ins text

second_decodes : (bound : ℕ) (ty : BlockType) (inside : List ℕ → Read (Code × Bool)) → Decodes bound (Ended false) inside → (one : Code × Bool) → Decodes bound (SecondOf ty one) (second_at ty inside one)
unfolding SecondOf
second_decodes bound ty inside d (one, true) = made_decodes bound (Ended false) inside (λ x. choice ty one x.0) d
second_decodes bound ty inside d (one, false) = none_decodes bound (choice ty one done)

branches_open : (ty : BlockType) (ins : Ins) (text : List ℕ) (one other : Code) → choice ty one other ≡ ins → ((other ≡ done) × SpellsUntil 0x0B one text) ⊎ Parts (SpellsUntil 0x05 one) (SpellsUntil 0x0B other) text → (x : Code × Bool) × Parts (Ended true x) (SecondOf ty x ins) text
unfolding SecondOf Ended Nothing
branches_open ty ins text one other is (inl h) = ((one, false), record { front = text; back = []; whole = sym (append-nil text); first = inl (refl, h.1); second = (ap (choice ty one) (sym h.0) ∙ is, refl) })
branches_open ty ins text one other is (inr p) = ((one, true), record { front = p.front; back = p.back; whole = p.whole; first = inr (refl, refl, p.first); second = record { value = (other, false); makes = is; spelled = inl (refl, p.second) } })

no_else : true ≡ false → ⊥
no_else h = cc

branches_close : (ty : BlockType) (x : Code × Bool) (ins : Ins) (text : List ℕ) → Parts (Ended true x) (SecondOf ty x ins) text → Branches ty ins text
unfolding SecondOf Ended Nothing Branches
branches_close ty (one, true) ins text p = elim p.first [
  | inl h ↦ absurd (no_else h.0)
  | inr h ↦ elim p.second.spelled [
    | inl k ↦ (one, p.second.value.0, p.second.makes, inr (record { front = p.front; back = p.back; whole = p.whole; first = h.2; second = k.1 }))
    | inr k ↦ absurd (not_split k.0)
  ]
]
branches_close ty (one, false) ins text p = elim p.first [
  | inl h ↦ (
      let same : p.front ≡ text = sym (append-nil p.front) ∙ ap (λ r. p.front ++ r) (sym p.second.1) ∙ sym p.whole in
      let P : List ℕ → Type 0 = λ t. SpellsUntil 0x0B one t in
      (one, done, p.second.0, inl (refl, subst P same h.1)))
  | inr h ↦ absurd (not_split h.1)
]

branches_decode : (bound : ℕ) (ty : BlockType) (first second : List ℕ → Read (Code × Bool)) → Decodes bound (Ended true) first → Decodes bound (Ended false) second → Decodes bound (Branches ty) (λ text. first text >>= λ one middle. second_at ty second one middle)
unfolding Branches
branches_decode bound ty first second d e = decodes_then bound (Branches ty) (Ended true) (SecondOf ty) first (second_at ty second) (record { opens = λ ins text h. branches_open ty ins text h.0 h.1 h.2 h.3; closes = branches_close ty }) d (second_decodes bound ty second e)

if_decodes : (bound : ℕ) (first second : List ℕ → Read (Code × Bool)) → Decodes bound (Ended true) first → Decodes bound (Ended false) second → Decodes bound IfOf (if_at first second)
unfolding IfOf
if_decodes bound first second d e = decodes_then bound IfOf SpellsBlockType Branches block_type_at (λ ty rest. first rest >>= λ one middle. second_at ty second one middle) (record { opens = λ ins text h. h; closes = λ ty ins text p. (ty, p) }) (block_type_decodes bound) (λ ty. branches_decode bound ty first second d e)

-- a try_table

unfoldable Caught : BlockType → Ins → List ℕ → Type 0
Caught ty ins text = (catches : List Catch) × (code : Code) × (try_table ty catches code ≡ ins) × Parts (SpellsVector SpellsCatch catches) (SpellsUntil 0x0B code) text

unfoldable TryOf : Ins → List ℕ → Type 0
TryOf ins text = (ty : BlockType) × Parts (SpellsBlockType ty) (Caught ty ins) text

caught_close : (ty : BlockType) (catches : List Catch) (ins : Ins) (text : List ℕ) → Parts (SpellsVector SpellsCatch catches) (Made (Ended false) (λ x. try_table ty catches x.0) ins) text → Caught ty ins text
unfolding Caught Ended
caught_close ty catches ins text p = elim p.second.spelled [
  | inl h ↦ (catches, p.second.value.0, p.second.makes, record { front = p.front; back = p.back; whole = p.whole; first = p.first; second = h.1 })
  | inr h ↦ absurd (not_split h.0)
]

caught_decodes : (bound : ℕ) (ty : BlockType) (inside : List ℕ → Read (Code × Bool)) → Decodes bound (Ended false) inside → Decodes bound (Caught ty) (λ text. vector_at catch_at text >>= λ catches middle. inside middle >>= λ code behind. got (try_table ty catches code.0) behind)
unfolding Caught Ended
caught_decodes bound ty inside d = decodes_then bound (Caught ty) (SpellsVector SpellsCatch) (λ catches. Made (Ended false) (λ x. try_table ty catches x.0)) (vector_at catch_at) (λ catches middle. inside middle >>= λ code behind. got (try_table ty catches code.0) behind)
    (record { opens = λ ins text h. (h.0, record { front = h.3.front; back = h.3.back; whole = h.3.whole; first = h.3.first; second = record { value = (h.1, false); makes = h.2; spelled = inl (refl, h.3.second) } }); closes = caught_close ty })
    (vector_decodes bound SpellsCatch catch_at (catch_decodes bound))
    (λ catches. made_decodes bound (Ended false) inside (λ x. try_table ty catches x.0) d)

try_decodes : (bound : ℕ) (inside : List ℕ → Read (Code × Bool)) → Decodes bound (Ended false) inside → Decodes bound TryOf (try_at inside)
unfolding TryOf
try_decodes bound inside d = decodes_then bound TryOf SpellsBlockType Caught block_type_at (λ ty rest. vector_at catch_at rest >>= λ catches middle. inside middle >>= λ code behind. got (try_table ty catches code.0) behind) (record { opens = λ ins text h. h; closes = λ ty ins text p. (ty, p) }) (block_type_decodes bound) (λ ty. caught_decodes bound ty inside d)

-- where a block is opened
opened_continues : {X : Type 0} (bound room : ℕ) (P : X → List ℕ → Type 0) (inside : ℕ → List ℕ → Read X) → bound ≤ room - 1 → ((lower : ℕ) → bound ≤ lower → Decodes bound P (inside lower)) → Continues bound P (opened room inside)
opened_continues {X} bound zero P inside fits d = record {
  again = λ left x front rest h low. absurd (omega (arith, fits, low));
  taken = λ left text rest x h. absurd (refused-got FlatOpcode left x rest h);
  within = λ left text fault h room. let e = left_is {A = X} FlatOpcode left fault h in omega (arith, e);
}
opened_continues bound (suc lower) P inside fits d = continues_of bound P (inside lower) (d lower (omega (arith, fits)))

-- an instruction, by its first byte

unfoldable InsBy : ℕ → Ins → List ℕ → Type 0
InsBy = Row 0x02 (BlockOf block) (Row 0x03 (BlockOf loop) (Row 0x04 IfOf (Row 0x1F TryOf (MadeBy LeafBy leaf))))

-- reading of nested instructions
abbrev Inner : ℕ → Nested → Type 0
Inner bound nested = (lower : ℕ) (may_split : Bool) → bound ≤ lower → Decodes bound (Ended may_split) (nested lower may_split)

ins_heads : (bound room : ℕ) (nested : Nested) → bound ≤ room - 1 → Inner bound nested → Heads bound InsBy (ins_at nested room)
unfolding InsBy
ins_heads bound room nested fits inner =
    let at_block : ℕ → List ℕ → Read Ins = opened room (λ lower rest. block_at block (nested lower false) rest) in
    let at_loop : ℕ → List ℕ → Read Ins = opened room (λ lower rest. block_at loop (nested lower false) rest) in
    let at_if : ℕ → List ℕ → Read Ins = opened room (λ lower rest. if_at (nested lower true) (nested lower false) rest) in
    let at_try : ℕ → List ℕ → Read Ins = opened room (λ lower rest. try_at (nested lower false) rest) in
    left_heads bound 0x02 (BlockOf block) at_block (Row 0x03 (BlockOf loop) (Row 0x04 IfOf (Row 0x1F TryOf (MadeBy LeafBy leaf)))) (λ left c. cond (nat_eq c 0x03) (at_loop left) (cond (nat_eq c 0x04) (at_if left) (cond (nat_eq c 0x1F) (at_try left) (made_at leaf (leaf_at left c)))))
    (opened_continues bound room (BlockOf block) (λ lower rest. block_at block (nested lower false) rest) fits (λ lower h. block_decodes bound block (nested lower false) (inner lower false h)))
    (left_heads bound 0x03 (BlockOf loop) at_loop (Row 0x04 IfOf (Row 0x1F TryOf (MadeBy LeafBy leaf))) (λ left c. cond (nat_eq c 0x04) (at_if left) (cond (nat_eq c 0x1F) (at_try left) (made_at leaf (leaf_at left c))))
    (opened_continues bound room (BlockOf loop) (λ lower rest. block_at loop (nested lower false) rest) fits (λ lower h. block_decodes bound loop (nested lower false) (inner lower false h)))
    (left_heads bound 0x04 IfOf at_if (Row 0x1F TryOf (MadeBy LeafBy leaf)) (λ left c. cond (nat_eq c 0x1F) (at_try left) (made_at leaf (leaf_at left c)))
    (opened_continues bound room IfOf (λ lower rest. if_at (nested lower true) (nested lower false) rest) fits (λ lower h. if_decodes bound (nested lower true) (nested lower false) (inner lower true h) (inner lower false h)))
    (left_heads bound 0x1F TryOf at_try (MadeBy LeafBy leaf) (λ left c. made_at leaf (leaf_at left c))
    (opened_continues bound room TryOf (λ lower rest. try_at (nested lower false) rest) fits (λ lower h. try_decodes bound (nested lower false) (inner lower false h)))
    (made_heads bound LeafBy leaf_at leaf (leaf_heads bound)))))

block_to : (make : BlockType → Code → Ins) (b c : ℕ) (ins : Ins) (back : List ℕ) → ((ty : BlockType) (code : Code) (text : List ℕ) → Begins b (Parts (SpellsBlockType ty) (SpellsUntil 0x0B code)) text → SpellsIns (make ty code) text) → c ≡ b → BlockOf make ins back → SpellsIns ins (c ∷ back)
unfolding BlockOf
block_to make b c ins back f is h =
    let P : Ins → Type 0 = λ i. SpellsIns i (c ∷ back) in
    subst P h.2 (f h.0 h.1 (c ∷ back) (fixed b c (Parts (SpellsBlockType h.0) (SpellsUntil 0x0B h.1)) back (c ∷ back) refl is h.3))

if_to : (c : ℕ) (ins : Ins) (back : List ℕ) → c ≡ 0x04 → IfOf ins back → SpellsIns ins (c ∷ back)
unfolding IfOf Branches
if_to c ins back is h =
    let P : Ins → Type 0 = λ i. SpellsIns i (c ∷ back) in
    let p = h.1 in
    let s = p.second in
    subst P s.2 (record { back = back; whole = ap (λ n. n ∷ back) is; rest = record { front = p.front; back = p.back; whole = p.whole; first = p.first; second = s.3 } })

try_to : (c : ℕ) (ins : Ins) (back : List ℕ) → c ≡ 0x1F → TryOf ins back → SpellsIns ins (c ∷ back)
unfolding TryOf Caught
try_to c ins back is h =
    let P : Ins → Type 0 = λ i. SpellsIns i (c ∷ back) in
    let p = h.1 in
    let s = p.second in
    subst P s.2 (record { back = back; whole = ap (λ n. n ∷ back) is; rest = record { front = p.front; back = p.back; whole = p.whole; first = p.first; second = s.3 } })

ins_to : (c : ℕ) (ins : Ins) (back : List ℕ) → InsBy c ins back → SpellsIns ins (c ∷ back)
unfolding InsBy Row MadeBy
ins_to c ins back (inl h) = block_to block 0x02 c ins back (λ ty code text s. s) h.0 h.1
ins_to c ins back (inr (i0, inl h)) = block_to loop 0x03 c ins back (λ ty code text s. s) h.0 h.1
ins_to c ins back (inr (i0, inr (i1, inl h))) = if_to c ins back h.0 h.1
ins_to c ins back (inr (i0, inr (i1, inr (i2, inl h)))) = try_to c ins back h.0 h.1
ins_to c ins back (inr (i0, inr (i1, inr (i2, inr (i3, h))))) = let P : Ins → Type 0 = λ i. SpellsIns i (c ∷ back) in subst P h.makes (spells_leaf c h.value back h.spelled)

leaf_void : (b : ℕ) → nat_eq b 0xFB ≡ false → nat_eq b 0xFC ≡ false → form_of b ≡ Unknown → Void LeafBy b
unfolding LeafBy
leaf_void b one other none = row_void b 0xFB (PrefixedIn aggregate_rows) (Row 0xFC (PrefixedIn bulk_rows) CodedBy) one (row_void b 0xFC (PrefixedIn bulk_rows) CodedBy other (coded_void b none))

leaf_ins : (instr : Instr) (text : List ℕ) → Headed LeafBy instr text → Headed InsBy (leaf instr) text
unfolding InsBy Row MadeBy
leaf_ins instr text h =
    let not : (b : ℕ) → Void LeafBy b → nat_eq h.code b ≡ false = λ b v. avoids b h.code LeafBy instr h.back v h.rest in
    record {
      code = h.code;
      back = h.back;
      whole = h.whole;
      rest = inr (not 0x02 (leaf_void 0x02 refl refl refl), inr (not 0x03 (leaf_void 0x03 refl refl refl), inr (not 0x04 (leaf_void 0x04 refl refl refl), inr (not 0x1F (leaf_void 0x1F refl refl refl), record { value = instr; makes = refl; spelled = h.rest }))));
    }

ins_back : (ins : Ins) (text : List ℕ) → SpellsIns ins text → Headed InsBy ins text
unfolding InsBy Row BlockOf IfOf Branches TryOf Caught
ins_back (leaf instr) text h = leaf_ins instr text (leaf_back instr text h)
ins_back (block ty code) text h = record { code = 0x02; back = h.back; whole = h.whole; rest = inl (refl, (ty, code, refl, h.rest)) }
ins_back (loop ty code) text h = record { code = 0x03; back = h.back; whole = h.whole; rest = inr (refl, inl (refl, (ty, code, refl, h.rest))) }
ins_back (choice ty one other) text h = record { code = 0x04; back = h.back; whole = h.whole; rest = inr (refl, inr (refl, inl (refl, (ty, record { front = h.rest.front; back = h.rest.back; whole = h.rest.whole; first = h.rest.first; second = (one, other, refl, h.rest.second) })))) }
ins_back (try_table ty catches code) text h = record { code = 0x1F; back = h.back; whole = h.whole; rest = inr (refl, inr (refl, inr (refl, inl (refl, (ty, record { front = h.rest.front; back = h.rest.back; whole = h.rest.whole; first = h.rest.first; second = (catches, code, refl, h.rest.second) }))))) }

ins_void : (b : ℕ) → nat_eq b 0x02 ≡ false → nat_eq b 0x03 ≡ false → nat_eq b 0x04 ≡ false → nat_eq b 0x1F ≡ false → nat_eq b 0xFB ≡ false → nat_eq b 0xFC ≡ false → form_of b ≡ Unknown → Void InsBy b
unfolding InsBy
ins_void b one two three four five six none =
    row_void b 0x02 (BlockOf block) (Row 0x03 (BlockOf loop) (Row 0x04 IfOf (Row 0x1F TryOf (MadeBy LeafBy leaf)))) one
    (row_void b 0x03 (BlockOf loop) (Row 0x04 IfOf (Row 0x1F TryOf (MadeBy LeafBy leaf))) two
    (row_void b 0x04 IfOf (Row 0x1F TryOf (MadeBy LeafBy leaf)) three
    (row_void b 0x1F TryOf (MadeBy LeafBy leaf) four (made_void b LeafBy leaf (leaf_void b five six none)))))

-- instructions, by the first byte

unfoldable NextBy : Bool → ℕ → Code × Bool → List ℕ → Type 0
NextBy may_split op x text = (ins : Ins) × Parts (InsBy op ins) (Made (Ended may_split) (next_of ins) x) text

next_heads : (bound room : ℕ) (may_split : Bool) (nested : Nested) → bound ≤ room - 1 → bound ≤ room → Inner bound nested → Heads bound (NextBy may_split) (next_at nested room may_split)
unfolding Heads NextBy
next_heads bound room may_split nested fits low inner op = continues_chain bound (NextBy may_split op) (InsBy op) (λ ins. Made (Ended may_split) (next_of ins)) (λ left. ins_at nested room left op) (λ left ins rest. made_at (next_of ins) (nested room may_split) rest)
    (record { opens = λ x text h. h; closes = λ ins x text p. (ins, p) })
    (ins_heads bound room nested fits inner op)
    (λ ins. continues_of bound (Made (Ended may_split) (next_of ins)) (made_at (next_of ins) (nested room may_split)) (made_decodes bound (Ended may_split) (nested room may_split) (next_of ins) (inner room may_split low)))

unfoldable UntilBy : Bool → ℕ → Code × Bool → List ℕ → Type 0
UntilBy false = Row 0x0B (Nothing (done, false)) (NextBy false)
UntilBy true = Row 0x0B (Nothing (done, false)) (Row 0x05 (Nothing (done, true)) (NextBy true))

until_heads : (bound room : ℕ) (may_split : Bool) (nested : Nested) → bound ≤ room - 1 → bound ≤ room → Inner bound nested → Heads bound (UntilBy may_split) (until_head nested room may_split)
unfolding UntilBy
until_heads bound room false nested fits low inner =
    row_heads bound 0x0B (Nothing (done, false)) (none_at (done, false)) (NextBy false) (next_at nested room false) (none_decodes bound (done, false)) (next_heads bound room false nested fits low inner)
until_heads bound room true nested fits low inner =
    row_heads bound 0x0B (Nothing (done, false)) (none_at (done, false)) (Row 0x05 (Nothing (done, true)) (NextBy true)) (λ left c. cond (nat_eq c 0x05) (none_at (done, true)) (next_at nested room true left c)) (none_decodes bound (done, false))
    (row_heads bound 0x05 (Nothing (done, true)) (none_at (done, true)) (NextBy true) (next_at nested room true) (none_decodes bound (done, true)) (next_heads bound room true nested fits low inner))

end_to : (may_split : Bool) (c : ℕ) (x : Code × Bool) (back text : List ℕ) → text ≡ c ∷ back → c ≡ 0x0B → Nothing (done, false) x back → Ended may_split x text
unfolding Ended Nothing
end_to may_split c x back text whole is h =
    let P : Code × Bool → Type 0 = λ y. Ended may_split y text in
    subst P h.0 (inl (refl, alone 0x0B c back text whole is h.1))

else_to : (c : ℕ) (x : Code × Bool) (back text : List ℕ) → text ≡ c ∷ back → c ≡ 0x05 → Nothing (done, true) x back → Ended true x text
unfolding Ended Nothing
else_to c x back text whole is h =
    let P : Code × Bool → Type 0 = λ y. Ended true y text in
    subst P h.0 (inr (refl, refl, alone 0x05 c back text whole is h.1))

next_to : (may_split : Bool) (c : ℕ) (x : Code × Bool) (back text : List ℕ) → text ≡ c ∷ back → NextBy may_split c x back → Ended may_split x text
unfolding Ended NextBy
next_to may_split c x back text whole h =
    let p = h.1 in
    let P : Code × Bool → Type 0 = λ y. Ended may_split y text in
    let split : text ≡ (c ∷ p.front) ++ p.back = whole ∙ ap (λ t. c ∷ t) p.whole in
    subst P p.second.makes (elim p.second.spelled [
      | inl k ↦ inl (k.0, record { front = c ∷ p.front; back = p.back; whole = split; first = ins_to c h.0 p.front p.first; second = k.1 })
      | inr k ↦ inr (k.0, k.1, record { front = c ∷ p.front; back = p.back; whole = split; first = ins_to c h.0 p.front p.first; second = k.2 })
    ])

until_to : (may_split : Bool) (c : ℕ) (x : Code × Bool) (back text : List ℕ) → text ≡ c ∷ back → UntilBy may_split c x back → Ended may_split x text
unfolding UntilBy Row
until_to false c x back text whole (inl h) = end_to false c x back text whole h.0 h.1
until_to false c x back text whole (inr (i0, h)) = next_to false c x back text whole h
until_to true c x back text whole (inl h) = end_to true c x back text whole h.0 h.1
until_to true c x back text whole (inr (i0, inl h)) = else_to c x back text whole h.0 h.1
until_to true c x back text whole (inr (i0, inr (i1, h))) = next_to true c x back text whole h

next_rest : (may_split : Bool) (c : ℕ) (x : Code × Bool) (back : List ℕ) → nat_eq c 0x0B ≡ false → nat_eq c 0x05 ≡ false → NextBy may_split c x back → UntilBy may_split c x back
unfolding UntilBy Row
next_rest false c x back end_not else_not n = inr (end_not, n)
next_rest true c x back end_not else_not n = inr (end_not, inr (else_not, n))

end_rest : (may_split : Bool) → UntilBy may_split 0x0B (done, false) []
unfolding UntilBy Row Nothing
end_rest false = inl (refl, (refl, refl))
end_rest true = inl (refl, (refl, refl))

end_back : (may_split e : Bool) (text : List ℕ) → e ≡ false → text ≡ 0x0B ∷ [] → Headed (UntilBy may_split) (done, e) text
end_back may_split e text is whole =
    let P : Bool → Type 0 = λ b. UntilBy may_split 0x0B (done, b) [] in
    record { code = 0x0B; back = []; whole = whole; rest = subst P (sym is) (end_rest may_split) }

else_rest : UntilBy true 0x05 (done, true) []
unfolding UntilBy Row Nothing
else_rest = inr (refl, inl (refl, (refl, refl)))

else_back : (may_split e : Bool) (text : List ℕ) → may_split ≡ true → e ≡ true → text ≡ 0x05 ∷ [] → Headed (UntilBy may_split) (done, e) text
else_back may_split e text split is whole =
    let P : Bool → Type 0 = λ b. UntilBy may_split 0x05 (done, b) [] in
    let Q : Bool → Type 0 = λ b. UntilBy b 0x05 (done, true) [] in
    record { code = 0x05; back = []; whole = whole; rest = subst P (sym is) (subst Q (sym split) else_rest) }

-- an instruction before others, by its first byte
next_back : (may_split : Bool) (x : Code × Bool) (front back text : List ℕ) (ins : Ins) → text ≡ front ++ back → Headed InsBy ins front → Ended may_split x back → Headed (UntilBy may_split) (next_of ins x) text
unfolding NextBy
next_back may_split x front back text ins whole h e =
    let end_not = avoids 0x0B h.code InsBy ins h.back (ins_void 0x0B refl refl refl refl refl refl refl) h.rest in
    let else_not = avoids 0x05 h.code InsBy ins h.back (ins_void 0x05 refl refl refl refl refl refl refl) h.rest in
    let n : NextBy may_split h.code (next_of ins x) (h.back ++ back) = (ins, record { front = h.back; back = back; whole = refl; first = h.rest; second = record { value = x; makes = refl; spelled = e } }) in
    record { code = h.code; back = h.back ++ back; whole = whole ∙ ap (λ t. t ++ back) h.whole; rest = next_rest may_split h.code (next_of ins x) (h.back ++ back) end_not else_not n }

until_back : (may_split : Bool) (code : Code) (e : Bool) (text : List ℕ) → Ended may_split (code, e) text → Headed (UntilBy may_split) (code, e) text
unfolding Ended
until_back may_split done e text (inl h) = end_back may_split e text h.0 h.1
until_back may_split done e text (inr h) = else_back may_split e text h.0 h.1 h.2
until_back may_split (next ins code) e text (inl h) = next_back may_split (code, e) h.1.front h.1.back text ins h.1.whole (ins_back ins h.1.front h.1.first) (inl (h.0, h.1.second))
until_back may_split (next ins code) e text (inr h) = next_back may_split (code, e) h.2.front h.2.back text ins h.2.whole (ins_back ins h.2.front h.2.first) (inr (h.0, h.1, h.2.second))

until_step : (bound room : ℕ) (may_split : Bool) (nested : Nested) → bound - 1 ≤ room - 1 → bound - 1 ≤ room → Inner (bound - 1) nested → Decodes bound (Ended may_split) (headed_at Opcode (until_head nested room may_split))
until_step bound room may_split nested fits low inner = decodes_as bound (Headed (UntilBy may_split)) (Ended may_split) (headed_at Opcode (until_head nested room may_split))
    (λ x text h. until_to may_split h.code x h.back text h.whole h.rest)
    (λ x text h. until_back may_split x.0 x.1 text h)
    (headed_lower bound (bound - 1) Opcode (UntilBy may_split) (until_head nested room may_split) (omega arith) (until_heads (bound - 1) room may_split nested fits low inner))

-- instructions and their end are read, where the fuel and the room are more than the bytes
pub until_decodes : (fuel room bound : ℕ) (may_split : Bool) → bound ≤ fuel → bound ≤ room → Decodes bound (Ended may_split) (until_at fuel room may_split)
until_decodes zero room bound may_split enough fits = record {
  again = λ x front rest h low. absurd (omega (arith, enough, low));
  taken = λ text rest x h. absurd (refused-got Opcode (length text) x rest h);
  within = λ text fault h. let e = left_is {A = Code × Bool} Opcode (length text) fault h in omega (arith, e);
}
until_decodes (suc fuel) room bound may_split enough fits =
    let lower = bound - 1 in
    let nested : Nested = λ room' split rest. until_at fuel room' split rest in
    let low : lower ≤ fuel = omega (arith, enough) in
    let inner : (room' : ℕ) (split : Bool) → lower ≤ room' → Decodes lower (Ended split) (nested room' split) = λ room' split h. until_decodes fuel room' lower split low h in
    until_step bound room may_split nested (omega (arith, fits)) (omega (arith, fits)) inner

-- what is spelled is the tree of a list

unfoldable IsPlainForm : Form → Type 0
IsPlainForm (Alone it) = has_code it ≡ false
IsPlainForm (Index make) = (n : ℕ) → has_code (make n) ≡ false
IsPlainForm (Pair make) = (m n : ℕ) → has_code (make m n) ≡ false
IsPlainForm (Labels make) = (table : BranchTable) → has_code (make table) ≡ false
IsPlainForm (Const32 make) = (z : _) → has_code (make z) ≡ false
IsPlainForm (Const64 make) = (z : _) → has_code (make z) ≡ false
IsPlainForm (Access make) = (arg : _) → has_code (make arg) ≡ false
IsPlainForm (Heap make) = (heap : HeapType) → has_code (make heap) ≡ false
IsPlainForm (Types make) = (types : List ValType) → has_code (make types) ≡ false
IsPlainForm (Cast make) = (arg : CastBranch) → has_code (make arg) ≡ false
IsPlainForm Unknown = Unit {0}

rows_plain : (rows : List (ℕ × Form)) → AllByRecursion (λ row. IsPlainForm row.1) rows → (other : Form) → IsPlainForm other → (code : ℕ) → IsPlainForm (row_or other rows code)
rows_plain [] all other plain code = plain
rows_plain (row ∷ rows) all other plain code = elim (cases_Bool (nat_eq code row.0)) [
  | inl is ↦ subst IsPlainForm (sym (cond-true (nat_eq code row.0) row.1 (row_or other rows code) is)) all.0
  | inr isnt ↦ subst IsPlainForm (sym (cond-false (nat_eq code row.0) row.1 (row_or other rows code) isnt)) (rows_plain rows all.1 other plain code)
]

operator_plain : (o : Option NumOp) → IsPlainForm (operator_form o)
unfolding IsPlainForm
operator_plain None = tt
operator_plain (Some op) = refl

all_plain : AllByRecursion (λ row. IsPlainForm row.1) plain_rows
unfolding IsPlainForm
all_plain = (refl, (refl, ((λ n. refl), (refl, ((λ n. refl), ((λ n. refl), ((λ table. refl), (refl, ((λ n. refl), ((λ m n. refl), ((λ n. refl), ((λ m n. refl), ((λ n. refl), ((λ n. refl), (refl, (refl, ((λ types. refl), ((λ n. refl), ((λ n. refl), ((λ n. refl), ((λ n. refl), ((λ n. refl), ((λ n. refl), ((λ n. refl), ((λ arg. refl), ((λ arg. refl), ((λ arg. refl), ((λ arg. refl), ((λ arg. refl), ((λ arg. refl), ((λ arg. refl), ((λ arg. refl), ((λ arg. refl), ((λ arg. refl), ((λ arg. refl), ((λ arg. refl), ((λ arg. refl), ((λ arg. refl), ((λ arg. refl), ((λ arg. refl), ((λ arg. refl), ((λ arg. refl), ((λ arg. refl), ((λ n. refl), ((λ n. refl), ((λ z. refl), ((λ z. refl), ((λ heap. refl), (refl, ((λ n. refl), (refl, (refl, ((λ n. refl), ((λ n. refl), tt))))))))))))))))))))))))))))))))))))))))))))))))))))))

all_aggregate : AllByRecursion (λ row. IsPlainForm row.1) aggregate_rows
unfolding IsPlainForm
all_aggregate = ((λ n. refl), ((λ n. refl), ((λ m n. refl), ((λ m n. refl), ((λ m n. refl), ((λ m n. refl), ((λ n. refl), ((λ n. refl), ((λ m n. refl), ((λ m n. refl), ((λ m n. refl), ((λ n. refl), ((λ n. refl), ((λ n. refl), ((λ n. refl), (refl, ((λ n. refl), ((λ m n. refl), ((λ m n. refl), ((λ m n. refl), ((λ heap. refl), ((λ heap. refl), ((λ heap. refl), ((λ heap. refl), ((λ arg. refl), ((λ arg. refl), (refl, (refl, (refl, (refl, (refl, tt)))))))))))))))))))))))))))))))

all_bulk : AllByRecursion (λ row. IsPlainForm row.1) bulk_rows
unfolding IsPlainForm
all_bulk = ((λ m n. refl), ((λ n. refl), ((λ m n. refl), ((λ n. refl), ((λ m n. refl), ((λ n. refl), ((λ m n. refl), ((λ n. refl), ((λ n. refl), ((λ n. refl), tt))))))))))

made_plain : (form : Form) (instr : Instr) (text : List ℕ) → IsPlainForm form → SpellsForm form instr text → has_code instr ≡ false
unfolding IsPlainForm
made_plain (Alone it) instr text plain h = ap has_code (sym h.0) ∙ plain
made_plain (Index make) instr text plain h = ap has_code (sym h.makes) ∙ plain h.value
made_plain (Pair make) instr text plain h = ap has_code (sym h.makes) ∙ plain h.value.0 h.value.1
made_plain (Labels make) instr text plain h = ap has_code (sym h.makes) ∙ plain (labels_of h.value)
made_plain (Const32 make) instr text plain h = ap has_code (sym h.makes) ∙ plain h.value
made_plain (Const64 make) instr text plain h = ap has_code (sym h.makes) ∙ plain h.value
made_plain (Access make) instr text plain h = ap has_code (sym h.makes) ∙ plain h.value
made_plain (Heap make) instr text plain h = ap has_code (sym h.makes) ∙ plain h.value
made_plain (Types make) instr text plain h = ap has_code (sym h.makes) ∙ plain h.value
made_plain (Cast make) instr text plain h = ap has_code (sym h.makes) ∙ plain h.value
made_plain Unknown instr text plain h = absurd h

leaf_plain : (instr : Instr) (text : List ℕ) → SpellsLeaf instr text → has_code instr ≡ false
unfolding IsPlainForm
leaf_plain instr text (inl h) = made_plain (form_of h.code) instr h.back (rows_plain plain_rows all_plain (operator_form (operator_with h.code)) (operator_plain (operator_with h.code)) h.code) h.rest
leaf_plain instr text (inr (inl h)) = made_plain (row_or Unknown aggregate_rows h.code) instr h.rest.rest.back (rows_plain aggregate_rows all_aggregate Unknown tt h.code) h.rest.rest.second
leaf_plain instr text (inr (inr h)) = made_plain (row_or Unknown bulk_rows h.code) instr h.rest.rest.back (rows_plain bulk_rows all_bulk Unknown tt h.code) h.rest.rest.second

mutual
  pub tree_back : (code : Code) (end : ℕ) (text : List ℕ) → SpellsUntil end code text → code_of (list_of code) ≡ code
  tree_back done end text h = refl
  tree_back (next ins code) end text h = ap (λ i. next i (code_of (list_of code))) (ins_tree ins h.front h.first) ∙ ap (next ins) (tree_back code end h.back h.second)

  ins_tree : (ins : Ins) (text : List ℕ) → SpellsIns ins text → ins_of (instr_of ins) ≡ ins
  ins_tree (leaf instr) text h = ins_of-plain instr (leaf_plain instr text h)
  ins_tree (block ty code) text h = ins_of-Block (record { ty = ty; body = record { code = list_of code } }) ∙ ap (block ty) (tree_back code 0x0B h.rest.back h.rest.second)
  ins_tree (loop ty code) text h = ins_of-Loop (record { ty = ty; body = record { code = list_of code } }) ∙ ap (loop ty) (tree_back code 0x0B h.rest.back h.rest.second)
  ins_tree (choice ty one other) text h = ins_of-If (record { ty = ty; yes = record { code = list_of one }; no = record { code = list_of other } }) ∙ elim h.rest.second [
    | inl s ↦ (ap (λ c. choice ty c (code_of (list_of other))) (tree_back one 0x0B h.rest.back s.1) ∙ ap (λ c. choice ty one (code_of (list_of c))) s.0 ∙ ap (choice ty one) (sym s.0))
    | inr p ↦ (ap (λ c. choice ty c (code_of (list_of other))) (tree_back one 0x05 p.front p.first) ∙ ap (choice ty one) (tree_back other 0x0B p.back p.second))
  ]
  ins_tree (try_table ty catches code) text h = ins_of-TryTable (record { ty = ty; catches = catches; body = record { code = list_of code } }) ∙ ap (try_table ty catches) (tree_back code 0x0B h.rest.second.back h.rest.second.second)

-- bodies

body_is : (body : Body) → body_of (code_of body.code, false) ≡ body
body_is body = let at : List Instr → Body = λ is. record { code = is } in ap at (list_back body.code)

body_back : (body : Body) (text : List ℕ) → SpellsBody body text → Made (Ended false) body_of body text
unfolding Ended
body_back body text h = record { value = (code_of body.code, false); makes = body_is body; spelled = inl (refl, h) }

body_to : (body : Body) (text : List ℕ) → Made (Ended false) body_of body text → SpellsBody body text
unfolding Ended
body_to body text h = elim h.spelled [
  | inl k ↦ (
      let P : Body → Type 0 = λ b. SpellsBody b text in
      let Q : Code → Type 0 = λ c. SpellsUntil 0x0B c text in
      subst P h.makes (subst Q (sym (tree_back h.value.0 0x0B text k.1)) k.1))
  | inr k ↦ absurd (not_split k.0)
]

pub body_decodes : (bound room : ℕ) → bound ≤ room → Decodes bound SpellsBody (body_at room)
body_decodes bound room fits = record {
  again = λ body front rest h low.
      let size = suc (length (front ++ rest)) in
      let self : size ≤ size = omega arith in
      let under : size ≤ room = omega (arith, low, fits) in
      (made_decodes size (Ended false) (until_at size room false) body_of (until_decodes size room size false self under)).again body front rest (body_back body front h) self;
  taken = λ text rest body h.
      let size = suc (length text) in
      let t = (made_decodes 0 (Ended false) (until_at size room false) body_of (until_decodes size room 0 false (omega arith) (omega arith))).taken text rest body h in
      record { front = t.front; whole = t.whole; spells = body_to body t.front t.spells };
  within = λ text fault h.
      let size = suc (length text) in
      (made_decodes 0 (Ended false) (until_at size room false) body_of (until_decodes size room 0 false (omega arith) (omega arith))).within text fault h;
}
