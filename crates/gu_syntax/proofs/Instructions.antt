-- Instructions that hold no code: what is spelled is read, and what is read is spelled.
use Rattle.std.proofs.Common.{ℕ, ◌+◌, ◌-◌, ◌≤◌, ◌<◌, List, [], ◌∷◌, ◌++◌, ◌≡◌, refl, ap, ◌∙◌, sym, subst, length, arith, nat_eq, nat_lt, Bool, true, false, cond, ◌⊎◌, inl, inr, Option, None, pos, ◌-ℤ◌}
use Rattle.std.proofs.lemmas.Bool.{cases_Bool, cond-true, cond-false}
use Rattle.gu_bytes.specs.Reading.{unsigned_at}
use Rattle.gu_types.specs.declared.types.Abs.{Abs}
use Rattle.gu_types.specs.declared.types.HeapType.{HeapType}
use Rattle.gu_types.specs.declared.types.HeapType.TheVariants as H
use Rattle.gu_types.specs.declared.types.RefType.{RefType}
use Rattle.gu_types.specs.declared.types.ValType.TheVariants as V
use Rattle.gu_syntax.specs.declared.instr.BlockType.{BlockType}
use Rattle.gu_syntax.specs.declared.instr.BlockType.TheVariants as B
use Rattle.gu_syntax.specs.declared.instr.Catch.{Catch}
use Rattle.gu_syntax.specs.declared.instr.Catch.TheVariants as T
use Rattle.gu_syntax.specs.declared.instr.MemArg.{MemArg}
use Rattle.gu_syntax.specs.declared.instr.Instr.{Instr}
use Rattle.gu_syntax.specs.Parts.{Parts, Begins, SpellsU32, SpellsS32, SpellsVector, SpellsS33, SpellsS64, Both, Made, Numbered}
use Rattle.gu_syntax.specs.Types.{null_byte, SpellsHeap, SpellsShort, SpellsRef, SpellsVal}
use Rattle.gu_syntax.specs.declared.instr.CastBranch.{CastBranch}
use Rattle.gu_syntax.specs.Instructions.{SpellsBlockType, SpellsCatch, SpellsMemArg, cast_flags, SpellsCast, Form, Alone, Index, Pair, Labels, Const32, Const64, Access, Heap, Types, Cast, Unknown, SpellsForm, labels_of, row_or, form_of, aggregate_rows, bulk_rows, SpellsLeaf}
use Rattle.gu_syntax.specs.Reading.{Fixed, Number, Opcode, TypeStart, Read, got, refused, number, made_at, both_at, u32_at, s32_at, s64_at, rows_at, none_at, vector_at, abs_with, heap_head, heap_at, val_at, block_of, block_ref, block_head, block_type_at, catch_rows, catch_at, first_memory, any_memory, mem_arg_of, mem_arg_at, cast_of, cast_behind, cast_at, form_at, prefixed_at, leaf_at}
use Rattle.gu_syntax.proofs.Takes.{is_below, not_below, below_not}
use Rattle.gu_syntax.proofs.Decodes.{Decodes, Continues, continues_of, continues_chain, u32_continues, Heads, Headed, NumberedBy, numbered_decodes, Row, NoRow, Nothing, MadeBy, Void, made_heads, avoids, decodes_as, none_decodes, made_decodes, both_decodes, u32_decodes, s32_decodes, s64_decodes, headed_decodes, no_row_heads, row_heads, left_heads, vector_decodes, refused-got, left_is}
use Rattle.gu_syntax.proofs.Types.{fixed, alone, HeapOf, HeapBy, heap_heads, heap_to, heap_back, heap_decodes, val_decodes}

-- block types

unfoldable BlockBy : ℕ → BlockType → List ℕ → Type 0
BlockBy = Row 0x40 (Nothing B.Empty) (Row 0x7F (Nothing (B.Val V.I32)) (Row 0x7E (Nothing (B.Val V.I64)) (Row 0x63 (Made SpellsHeap (block_ref true)) (Row 0x64 (Made SpellsHeap (block_ref false)) (MadeBy HeapBy block_of)))))

block_heads : (bound : ℕ) → Heads bound BlockBy block_head
unfolding BlockBy
block_heads bound =
    row_heads bound 0x40 (Nothing B.Empty) (none_at B.Empty) (Row 0x7F (Nothing (B.Val V.I32)) (Row 0x7E (Nothing (B.Val V.I64)) (Row 0x63 (Made SpellsHeap (block_ref true)) (Row 0x64 (Made SpellsHeap (block_ref false)) (MadeBy HeapBy block_of))))) (λ left c. cond (nat_eq c 0x7F) (none_at (B.Val V.I32)) (cond (nat_eq c 0x7E) (none_at (B.Val V.I64)) (cond (nat_eq c 0x63) (made_at (block_ref true) heap_at) (cond (nat_eq c 0x64) (made_at (block_ref false) heap_at) (made_at block_of (heap_head left c))))))
    (none_decodes bound B.Empty)
    (row_heads bound 0x7F (Nothing (B.Val V.I32)) (none_at (B.Val V.I32)) (Row 0x7E (Nothing (B.Val V.I64)) (Row 0x63 (Made SpellsHeap (block_ref true)) (Row 0x64 (Made SpellsHeap (block_ref false)) (MadeBy HeapBy block_of)))) (λ left c. cond (nat_eq c 0x7E) (none_at (B.Val V.I64)) (cond (nat_eq c 0x63) (made_at (block_ref true) heap_at) (cond (nat_eq c 0x64) (made_at (block_ref false) heap_at) (made_at block_of (heap_head left c)))))
    (none_decodes bound (B.Val V.I32))
    (row_heads bound 0x7E (Nothing (B.Val V.I64)) (none_at (B.Val V.I64)) (Row 0x63 (Made SpellsHeap (block_ref true)) (Row 0x64 (Made SpellsHeap (block_ref false)) (MadeBy HeapBy block_of))) (λ left c. cond (nat_eq c 0x63) (made_at (block_ref true) heap_at) (cond (nat_eq c 0x64) (made_at (block_ref false) heap_at) (made_at block_of (heap_head left c))))
    (none_decodes bound (B.Val V.I64))
    (row_heads bound 0x63 (Made SpellsHeap (block_ref true)) (made_at (block_ref true) heap_at) (Row 0x64 (Made SpellsHeap (block_ref false)) (MadeBy HeapBy block_of)) (λ left c. cond (nat_eq c 0x64) (made_at (block_ref false) heap_at) (made_at block_of (heap_head left c)))
    (made_decodes bound SpellsHeap heap_at (block_ref true) (heap_decodes bound))
    (row_heads bound 0x64 (Made SpellsHeap (block_ref false)) (made_at (block_ref false) heap_at) (MadeBy HeapBy block_of) (λ left c. made_at block_of (heap_head left c))
    (made_decodes bound SpellsHeap heap_at (block_ref false) (heap_decodes bound))
    (made_heads bound HeapBy heap_head block_of (heap_heads bound))))))

block_of_to : (heap : HeapType) (text : List ℕ) → SpellsHeap heap text → SpellsBlockType (block_of heap) text
block_of_to (H.Abs kind) text h = inr h
block_of_to (H.Idx n) text h = h

block_long_to : (null : Bool) (c : ℕ) (ty : BlockType) (back text : List ℕ) → text ≡ c ∷ back → c ≡ null_byte null → Made SpellsHeap (block_ref null) ty back → SpellsBlockType ty text
block_long_to null c ty back text whole is h =
    let P : BlockType → Type 0 = λ x. SpellsBlockType x text in
    subst P h.makes (inl (fixed (null_byte null) c (SpellsHeap h.value) back text whole is h.spelled))

block_to_by : (c : ℕ) (ty : BlockType) (back text : List ℕ) → text ≡ c ∷ back → BlockBy c ty back → SpellsBlockType ty text
unfolding BlockBy Row Nothing MadeBy
block_to_by c ty back text whole (inl h) = let P : BlockType → Type 0 = λ x. SpellsBlockType x text in subst P h.1.0 (alone 0x40 c back text whole h.0 h.1.1)
block_to_by c ty back text whole (inr (i0, inl h)) = let P : BlockType → Type 0 = λ x. SpellsBlockType x text in subst P h.1.0 (alone 0x7F c back text whole h.0 h.1.1)
block_to_by c ty back text whole (inr (i0, inr (i1, inl h))) = let P : BlockType → Type 0 = λ x. SpellsBlockType x text in subst P h.1.0 (alone 0x7E c back text whole h.0 h.1.1)
block_to_by c ty back text whole (inr (i0, inr (i1, inr (i2, inl h)))) = block_long_to true c ty back text whole h.0 h.1
block_to_by c ty back text whole (inr (i0, inr (i1, inr (i2, inr (i3, inl h))))) = block_long_to false c ty back text whole h.0 h.1
block_to_by c ty back text whole (inr (i0, inr (i1, inr (i2, inr (i3, inr (i4, h)))))) =
    let P : BlockType → Type 0 = λ x. SpellsBlockType x text in
    subst P h.makes (block_of_to h.value text (heap_to h.value text (record { code = c; back = back; whole = whole; rest = h.spelled })))

-- no heap type begins with a byte whose s33 is negative, but the abstract ones
negative_not : (b n : ℕ) (back : List ℕ) → 64 ≤ b → b < 128 → (pos n ≡ pos b -ℤ pos 128 → ⊥) → SpellsS33 n (b ∷ back) → ⊥
negative_not b n [] low high not (inl h) = omega (arith, low, h.0)
negative_not b n [] low high not (inr h) = not h.3
negative_not b n (c ∷ back) low high not h = omega (arith, high, h.0)

heap_void : (b : ℕ) → abs_with b ≡ None → 64 ≤ b → b < 128 → ((n : ℕ) → pos n ≡ pos b -ℤ pos 128 → ⊥) → Void HeapBy b
unfolding Void HeapBy HeapOf
heap_void b none low high not heap front h =
    let P : Option Abs → Type 0 = λ o. HeapOf o b heap front in
    let m : Made (λ n back. SpellsS33 n (b ∷ back)) H.Idx heap front = subst P none h in
    negative_not b m.value front low high (not m.value) m.spelled

heap_block : (heap : HeapType) (text : List ℕ) → Headed HeapBy heap text → Headed BlockBy (block_of heap) text
unfolding BlockBy Row MadeBy
heap_block heap text h =
    let not : (b : ℕ) → Void HeapBy b → nat_eq h.code b ≡ false = λ b v. avoids b h.code HeapBy heap h.back v h.rest in
    record {
      code = h.code;
      back = h.back;
      whole = h.whole;
      rest = inr (
        not 0x40 (heap_void 0x40 refl (omega arith) (omega arith) (λ n e. let f : ⊥ = cc in f)),
        inr (
          not 0x7F (heap_void 0x7F refl (omega arith) (omega arith) (λ n e. let f : ⊥ = cc in f)),
          inr (
            not 0x7E (heap_void 0x7E refl (omega arith) (omega arith) (λ n e. let f : ⊥ = cc in f)),
            inr (
              not 0x63 (heap_void 0x63 refl (omega arith) (omega arith) (λ n e. let f : ⊥ = cc in f)),
              inr (
                not 0x64 (heap_void 0x64 refl (omega arith) (omega arith) (λ n e. let f : ⊥ = cc in f)),
                record { value = heap; makes = refl; spelled = h.rest },
              ),
            ),
          ),
        ),
      );
    }

block_long_back : (null : Bool) (heap : HeapType) (text : List ℕ) → Begins (null_byte null) (SpellsHeap heap) text → Headed BlockBy (block_ref null heap) text
unfolding BlockBy Row
block_long_back true heap text h = record { code = 0x63; back = h.back; whole = h.whole; rest = inr (refl, inr (refl, inr (refl, inl (refl, record { value = heap; makes = refl; spelled = h.rest })))) }
block_long_back false heap text h = record { code = 0x64; back = h.back; whole = h.whole; rest = inr (refl, inr (refl, inr (refl, inr (refl, inl (refl, record { value = heap; makes = refl; spelled = h.rest }))))) }

block_short_back : (null : Bool) (heap : HeapType) (text : List ℕ) → SpellsShort null heap text → Headed BlockBy (block_ref null heap) text
block_short_back true (H.Abs kind) text h = heap_block (H.Abs kind) text (heap_back (H.Abs kind) text h)
block_short_back true (H.Idx n) text h = absurd h
block_short_back false heap text h = absurd h

block_ref_back : (ref : RefType) (text : List ℕ) → SpellsRef ref text → Headed BlockBy (B.Val (V.Ref ref)) text
block_ref_back ref text (inl h) = block_long_back ref.null ref.heap text h
block_ref_back ref text (inr h) = block_short_back ref.null ref.heap text h

block_back : (ty : BlockType) (text : List ℕ) → SpellsBlockType ty text → Headed BlockBy ty text
unfolding BlockBy Row Nothing
block_back B.Empty text h = record { code = 0x40; back = []; whole = h; rest = inl (refl, (refl, refl)) }
block_back (B.Val V.I32) text h = record { code = 0x7F; back = []; whole = h; rest = inr (refl, inl (refl, (refl, refl))) }
block_back (B.Val V.I64) text h = record { code = 0x7E; back = []; whole = h; rest = inr (refl, inr (refl, inl (refl, (refl, refl)))) }
block_back (B.Val (V.Ref ref)) text h = block_ref_back ref text h
block_back (B.Idx n) text h = heap_block (H.Idx n) text (heap_back (H.Idx n) text h)

pub block_type_decodes : (bound : ℕ) → Decodes bound SpellsBlockType block_type_at
block_type_decodes bound = decodes_as bound (Headed BlockBy) SpellsBlockType block_type_at (λ ty text h. block_to_by h.code ty h.back text h.whole h.rest) block_back (headed_decodes bound TypeStart BlockBy block_head (block_heads bound))

-- catch clauses

abbrev Two : ℕ × ℕ → List ℕ → Type 0
Two = Both SpellsU32 SpellsU32

two_decodes : (bound : ℕ) → Decodes bound Two (both_at u32_at u32_at)
two_decodes bound = both_decodes bound SpellsU32 SpellsU32 u32_at u32_at (u32_decodes bound Number) (u32_decodes bound Number)

one_of : ℕ × ℕ → Catch
one_of x = T.One x.0 x.1

one_ref_of : ℕ × ℕ → Catch
one_ref_of x = T.OneRef x.0 x.1

unfoldable CatchBy : ℕ → Catch → List ℕ → Type 0
CatchBy = Row 0x00 (Made Two one_of) (Row 0x01 (Made Two one_ref_of) (Row 0x02 (Made SpellsU32 T.All) (Row 0x03 (Made SpellsU32 T.AllRef) NoRow)))

catch_heads : (bound : ℕ) → Heads bound CatchBy (rows_at Fixed catch_rows)
unfolding CatchBy one_of one_ref_of
catch_heads bound =
    row_heads bound 0x00 (Made Two one_of) (made_at one_of (both_at u32_at u32_at)) (Row 0x01 (Made Two one_ref_of) (Row 0x02 (Made SpellsU32 T.All) (Row 0x03 (Made SpellsU32 T.AllRef) NoRow))) (λ left c. cond (nat_eq c 0x01) (made_at one_ref_of (both_at u32_at u32_at)) (cond (nat_eq c 0x02) (made_at T.All u32_at) (cond (nat_eq c 0x03) (made_at T.AllRef u32_at) (λ other. refused Fixed left))))
    (made_decodes bound Two (both_at u32_at u32_at) one_of (two_decodes bound))
    (row_heads bound 0x01 (Made Two one_ref_of) (made_at one_ref_of (both_at u32_at u32_at)) (Row 0x02 (Made SpellsU32 T.All) (Row 0x03 (Made SpellsU32 T.AllRef) NoRow)) (λ left c. cond (nat_eq c 0x02) (made_at T.All u32_at) (cond (nat_eq c 0x03) (made_at T.AllRef u32_at) (λ other. refused Fixed left)))
    (made_decodes bound Two (both_at u32_at u32_at) one_ref_of (two_decodes bound))
    (row_heads bound 0x02 (Made SpellsU32 T.All) (made_at T.All u32_at) (Row 0x03 (Made SpellsU32 T.AllRef) NoRow) (λ left c. cond (nat_eq c 0x03) (made_at T.AllRef u32_at) (λ other. refused Fixed left))
    (made_decodes bound SpellsU32 u32_at T.All (u32_decodes bound Number))
    (row_heads bound 0x03 (Made SpellsU32 T.AllRef) (made_at T.AllRef u32_at) NoRow (λ left c other. refused Fixed left)
    (made_decodes bound SpellsU32 u32_at T.AllRef (u32_decodes bound Number))
    (no_row_heads Catch bound Fixed))))

catch_to_by : (c : ℕ) (x : Catch) (back text : List ℕ) → text ≡ c ∷ back → CatchBy c x back → SpellsCatch x text
unfolding CatchBy Row NoRow one_of one_ref_of
catch_to_by c x back text whole (inl h) = let P : Catch → Type 0 = λ y. SpellsCatch y text in subst P h.1.makes (fixed 0x00 c (Two h.1.value) back text whole h.0 h.1.spelled)
catch_to_by c x back text whole (inr (i0, inl h)) = let P : Catch → Type 0 = λ y. SpellsCatch y text in subst P h.1.makes (fixed 0x01 c (Two h.1.value) back text whole h.0 h.1.spelled)
catch_to_by c x back text whole (inr (i0, inr (i1, inl h))) = let P : Catch → Type 0 = λ y. SpellsCatch y text in subst P h.1.makes (fixed 0x02 c (SpellsU32 h.1.value) back text whole h.0 h.1.spelled)
catch_to_by c x back text whole (inr (i0, inr (i1, inr (i2, inl h)))) = let P : Catch → Type 0 = λ y. SpellsCatch y text in subst P h.1.makes (fixed 0x03 c (SpellsU32 h.1.value) back text whole h.0 h.1.spelled)
catch_to_by c x back text whole (inr (i0, inr (i1, inr (i2, inr (i3, h))))) = absurd h

catch_back : (x : Catch) (text : List ℕ) → SpellsCatch x text → Headed CatchBy x text
unfolding CatchBy Row one_of one_ref_of
catch_back (T.One tag label) text h = record { code = 0x00; back = h.back; whole = h.whole; rest = inl (refl, record { value = (tag, label); makes = refl; spelled = h.rest }) }
catch_back (T.OneRef tag label) text h = record { code = 0x01; back = h.back; whole = h.whole; rest = inr (refl, inl (refl, record { value = (tag, label); makes = refl; spelled = h.rest })) }
catch_back (T.All label) text h = record { code = 0x02; back = h.back; whole = h.whole; rest = inr (refl, inr (refl, inl (refl, record { value = label; makes = refl; spelled = h.rest }))) }
catch_back (T.AllRef label) text h = record { code = 0x03; back = h.back; whole = h.whole; rest = inr (refl, inr (refl, inr (refl, inl (refl, record { value = label; makes = refl; spelled = h.rest })))) }

pub catch_decodes : (bound : ℕ) → Decodes bound SpellsCatch catch_at
catch_decodes bound = decodes_as bound (Headed CatchBy) SpellsCatch catch_at (λ x text h. catch_to_by h.code x h.back text h.whole h.rest) catch_back (headed_decodes bound Fixed CatchBy (rows_at Fixed catch_rows) (catch_heads bound))

-- memory arguments

unfoldable MemBy : ℕ → MemArg → List ℕ → Type 0
MemBy a arg front = ((a < 64) × Made SpellsU32 (first_memory a) arg front) ⊎ ((64 ≤ a) × (a < 128) × Made Two (any_memory (a - 64)) arg front)

mem_again : (bound left a : ℕ) (arg : MemArg) (front rest : List ℕ) → MemBy a arg front → length (front ++ rest) < bound → mem_arg_of left a (front ++ rest) ≡ got arg rest
unfolding MemBy
mem_again bound left a arg front rest (inl h) low =
    cond-true (nat_lt a 64) (made_at (first_memory a) u32_at (front ++ rest)) (cond (nat_lt a 128) (made_at (any_memory (a - 64)) (both_at u32_at u32_at) (front ++ rest)) (refused Number left)) (grind (arith, h.0))
    ∙ (made_decodes bound SpellsU32 u32_at (first_memory a) (u32_decodes bound Number)).again arg front rest h.1 low
mem_again bound left a arg front rest (inr h) low =
    cond-false (nat_lt a 64) (made_at (first_memory a) u32_at (front ++ rest)) (cond (nat_lt a 128) (made_at (any_memory (a - 64)) (both_at u32_at u32_at) (front ++ rest)) (refused Number left)) (below_not a 64 h.0)
    ∙ cond-true (nat_lt a 128) (made_at (any_memory (a - 64)) (both_at u32_at u32_at) (front ++ rest)) (refused Number left) (grind (arith, h.1))
    ∙ (made_decodes bound Two (both_at u32_at u32_at) (any_memory (a - 64)) (two_decodes bound)).again arg front rest h.2 low

mem_heads : (bound : ℕ) → Heads bound MemBy mem_arg_of
unfolding Heads MemBy
mem_heads bound a =
    let first = made_decodes bound SpellsU32 u32_at (first_memory a) (u32_decodes bound Number) in
    let second = made_decodes bound Two (both_at u32_at u32_at) (any_memory (a - 64)) (two_decodes bound) in
    record {
      again = λ left arg front rest h low. mem_again bound left a arg front rest h low;
      taken = λ left text rest arg h. elim (cases_Bool (nat_lt a 64)) [
        | inl is ↦ (let t = first.taken text rest arg (sym (cond-true (nat_lt a 64) (made_at (first_memory a) u32_at text) (cond (nat_lt a 128) (made_at (any_memory (a - 64)) (both_at u32_at u32_at) text) (refused Number left)) is) ∙ h) in record { front = t.front; whole = t.whole; spells = inl (is_below a 64 is, t.spells) })
        | inr isnt ↦ (
            let k = sym (cond-false (nat_lt a 64) (made_at (first_memory a) u32_at text) (cond (nat_lt a 128) (made_at (any_memory (a - 64)) (both_at u32_at u32_at) text) (refused Number left)) isnt) ∙ h in
            elim (cases_Bool (nat_lt a 128)) [
              | inl is ↦ (let t = second.taken text rest arg (sym (cond-true (nat_lt a 128) (made_at (any_memory (a - 64)) (both_at u32_at u32_at) text) (refused Number left) is) ∙ k) in record { front = t.front; whole = t.whole; spells = inr (not_below a 64 isnt, is_below a 128 is, t.spells) })
              | inr isnt' ↦ absurd (refused-got Number left arg rest (sym (cond-false (nat_lt a 128) (made_at (any_memory (a - 64)) (both_at u32_at u32_at) text) (refused Number left) isnt') ∙ k))
            ])
      ];
      within = λ left text fault h room. elim (cases_Bool (nat_lt a 64)) [
        | inl is ↦ (let w = first.within text fault (sym (cond-true (nat_lt a 64) (made_at (first_memory a) u32_at text) (cond (nat_lt a 128) (made_at (any_memory (a - 64)) (both_at u32_at u32_at) text) (refused Number left)) is) ∙ h) in omega (arith, w, room))
        | inr isnt ↦ (
            let k = sym (cond-false (nat_lt a 64) (made_at (first_memory a) u32_at text) (cond (nat_lt a 128) (made_at (any_memory (a - 64)) (both_at u32_at u32_at) text) (refused Number left)) isnt) ∙ h in
            elim (cases_Bool (nat_lt a 128)) [
              | inl is ↦ (let w = second.within text fault (sym (cond-true (nat_lt a 128) (made_at (any_memory (a - 64)) (both_at u32_at u32_at) text) (refused Number left) is) ∙ k) in omega (arith, w, room))
              | inr isnt' ↦ (let e = left_is {A = MemArg} Number left fault (sym (cond-false (nat_lt a 128) (made_at (any_memory (a - 64)) (both_at u32_at u32_at) text) (refused Number left) isnt') ∙ k) in omega (arith, e))
            ])
      ];
    }

mem_to_by : (a : ℕ) (arg : MemArg) (text : List ℕ) → Parts (SpellsU32 a) (MemBy a arg) text → SpellsMemArg arg text
unfolding MemBy
mem_to_by a arg text p = elim p.second [
  | inl h ↦ (
      let P : MemArg → Type 0 = λ x. SpellsMemArg x text in
      subst P h.1.makes (record { exponent = h.0; places = inl (refl, record { front = p.front; back = p.back; whole = p.whole; first = p.first; second = h.1.spelled }) }))
  | inr h ↦ (
      let P : MemArg → Type 0 = λ x. SpellsMemArg x text in
      let Q : ℕ → Type 0 = λ n. SpellsU32 n p.front in
      let same : a ≡ (a - 64) + 64 = omega (arith, h.0) in
      subst P h.2.makes (record { exponent = omega (arith, h.0, h.1); places = inr (record { front = p.front; back = p.back; whole = p.whole; first = subst Q same p.first; second = h.2.spelled }) }))
]

first_is : (arg : MemArg) → arg.memory ≡ 0 → first_memory arg.exponent arg.offset ≡ arg
first_is arg e = let at : ℕ → MemArg = λ n. record { exponent = arg.exponent; memory = n; offset = arg.offset } in ap at (sym e)

any_is : (arg : MemArg) → any_memory ((arg.exponent + 64) - 64) (arg.memory, arg.offset) ≡ arg
any_is arg =
    let same : (arg.exponent + 64) - 64 ≡ arg.exponent = omega arith in
    let at : ℕ → MemArg = λ n. record { exponent = n; memory = arg.memory; offset = arg.offset } in ap at same

mem_back : (arg : MemArg) (text : List ℕ) → SpellsMemArg arg text → NumberedBy MemBy arg text
unfolding MemBy NumberedBy
mem_back arg text h = elim h.places [
  | inl p ↦ (arg.exponent, record { front = p.1.front; back = p.1.back; whole = p.1.whole; first = p.1.first; second = inl (h.exponent, record { value = arg.offset; makes = first_is arg p.0; spelled = p.1.second }) })
  | inr p ↦ (arg.exponent + 64, record { front = p.front; back = p.back; whole = p.whole; first = p.first; second = inr (omega arith, (let e = h.exponent in omega (arith, e)), record { value = (arg.memory, arg.offset); makes = any_is arg; spelled = p.second }) })
]

pub mem_arg_decodes : (bound : ℕ) → Decodes bound SpellsMemArg mem_arg_at
unfolding NumberedBy
mem_arg_decodes bound = decodes_as bound (NumberedBy MemBy) SpellsMemArg mem_arg_at (λ arg text h. mem_to_by h.0 arg text h.1) mem_back (numbered_decodes bound Number MemBy mem_arg_of (mem_heads bound))

-- what a branch on a cast has

abbrev CastParts : ℕ × (HeapType × HeapType) → List ℕ → Type 0
CastParts = Both SpellsU32 (Both SpellsHeap SpellsHeap)

behind_decodes : (bound : ℕ) (of to : Bool) → Decodes bound (Made CastParts (cast_of of to)) (cast_behind of to)
behind_decodes bound of to = made_decodes bound CastParts (both_at u32_at (both_at heap_at heap_at)) (cast_of of to) (both_decodes bound SpellsU32 (Both SpellsHeap SpellsHeap) u32_at (both_at heap_at heap_at) (u32_decodes bound Number) (both_decodes bound SpellsHeap SpellsHeap heap_at heap_at (heap_decodes bound) (heap_decodes bound)))

unfoldable CastBy : ℕ → CastBranch → List ℕ → Type 0
CastBy = Row 0x00 (Made CastParts (cast_of false false)) (Row 0x01 (Made CastParts (cast_of true false)) (Row 0x02 (Made CastParts (cast_of false true)) (Row 0x03 (Made CastParts (cast_of true true)) NoRow)))

abbrev cast_rows : List (ℕ × (List ℕ → Read CastBranch))
cast_rows = (0x00, cast_behind false false) ∷ (0x01, cast_behind true false) ∷ (0x02, cast_behind false true) ∷ (0x03, cast_behind true true) ∷ []

cast_heads : (bound : ℕ) → Heads bound CastBy (rows_at Fixed cast_rows)
unfolding CastBy
cast_heads bound =
    row_heads bound 0x00 (Made CastParts (cast_of false false)) (cast_behind false false) (Row 0x01 (Made CastParts (cast_of true false)) (Row 0x02 (Made CastParts (cast_of false true)) (Row 0x03 (Made CastParts (cast_of true true)) NoRow))) (λ left c. cond (nat_eq c 0x01) (cast_behind true false) (cond (nat_eq c 0x02) (cast_behind false true) (cond (nat_eq c 0x03) (cast_behind true true) (λ other. refused Fixed left))))
    (behind_decodes bound false false)
    (row_heads bound 0x01 (Made CastParts (cast_of true false)) (cast_behind true false) (Row 0x02 (Made CastParts (cast_of false true)) (Row 0x03 (Made CastParts (cast_of true true)) NoRow)) (λ left c. cond (nat_eq c 0x02) (cast_behind false true) (cond (nat_eq c 0x03) (cast_behind true true) (λ other. refused Fixed left)))
    (behind_decodes bound true false)
    (row_heads bound 0x02 (Made CastParts (cast_of false true)) (cast_behind false true) (Row 0x03 (Made CastParts (cast_of true true)) NoRow) (λ left c. cond (nat_eq c 0x03) (cast_behind true true) (λ other. refused Fixed left))
    (behind_decodes bound false true)
    (row_heads bound 0x03 (Made CastParts (cast_of true true)) (cast_behind true true) NoRow (λ left c other. refused Fixed left)
    (behind_decodes bound true true)
    (no_row_heads CastBranch bound Fixed))))

cast_to_of : (of to : Bool) (c : ℕ) (arg : CastBranch) (back text : List ℕ) → text ≡ c ∷ back → c ≡ cast_flags of to → Made CastParts (cast_of of to) arg back → SpellsCast arg text
cast_to_of of to c arg back text whole is h = let P : CastBranch → Type 0 = λ x. SpellsCast x text in subst P h.makes (fixed (cast_flags of to) c (CastParts h.value) back text whole is h.spelled)

cast_to_by : (c : ℕ) (arg : CastBranch) (back text : List ℕ) → text ≡ c ∷ back → CastBy c arg back → SpellsCast arg text
unfolding CastBy Row NoRow
cast_to_by c arg back text whole (inl h) = cast_to_of false false c arg back text whole h.0 h.1
cast_to_by c arg back text whole (inr (i0, inl h)) = cast_to_of true false c arg back text whole h.0 h.1
cast_to_by c arg back text whole (inr (i0, inr (i1, inl h))) = cast_to_of false true c arg back text whole h.0 h.1
cast_to_by c arg back text whole (inr (i0, inr (i1, inr (i2, inl h)))) = cast_to_of true true c arg back text whole h.0 h.1
cast_to_by c arg back text whole (inr (i0, inr (i1, inr (i2, inr (i3, h))))) = absurd h

cast_back_of : (of to : Bool) (label : ℕ) (a b : HeapType) (text : List ℕ) → Begins (cast_flags of to) (CastParts (label, (a, b))) text → Headed CastBy (cast_of of to (label, (a, b))) text
unfolding CastBy Row
cast_back_of false false label a b text h = record { code = 0x00; back = h.back; whole = h.whole; rest = inl (refl, record { value = (label, (a, b)); makes = refl; spelled = h.rest }) }
cast_back_of true false label a b text h = record { code = 0x01; back = h.back; whole = h.whole; rest = inr (refl, inl (refl, record { value = (label, (a, b)); makes = refl; spelled = h.rest })) }
cast_back_of false true label a b text h = record { code = 0x02; back = h.back; whole = h.whole; rest = inr (refl, inr (refl, inl (refl, record { value = (label, (a, b)); makes = refl; spelled = h.rest }))) }
cast_back_of true true label a b text h = record { code = 0x03; back = h.back; whole = h.whole; rest = inr (refl, inr (refl, inr (refl, inl (refl, record { value = (label, (a, b)); makes = refl; spelled = h.rest })))) }

cast_decodes : (bound : ℕ) → Decodes bound SpellsCast cast_at
cast_decodes bound = decodes_as bound (Headed CastBy) SpellsCast cast_at (λ arg text h. cast_to_by h.code arg h.back text h.whole h.rest) (λ arg text h. cast_back_of arg.of.null arg.to.null arg.label arg.of.heap arg.to.heap text h) (headed_decodes bound Fixed CastBy (rows_at Fixed cast_rows) (cast_heads bound))

-- what stands behind a code

refuses : (bound : ℕ) → Continues bound (SpellsForm Unknown) (λ left. form_at left Unknown)
refuses bound = record {
  again = λ left x front rest h low. absurd h;
  taken = λ left text rest x h. absurd (refused-got Opcode left x rest h);
  within = λ left text fault h room. let e = left_is {A = Instr} Opcode left fault h in omega (arith, e);
}

form_continues : (bound : ℕ) (form : Form) → Continues bound (SpellsForm form) (λ left. form_at left form)
unfolding Nothing
form_continues bound (Alone it) = continues_of bound (Nothing it) (none_at it) (none_decodes bound it)
form_continues bound (Index make) = continues_of bound (Made SpellsU32 make) (made_at make u32_at) (made_decodes bound SpellsU32 u32_at make (u32_decodes bound Number))
form_continues bound (Pair make) = continues_of bound (Made Two (λ x. make x.0 x.1)) (made_at (λ x. make x.0 x.1) (both_at u32_at u32_at)) (made_decodes bound Two (both_at u32_at u32_at) (λ x. make x.0 x.1) (two_decodes bound))
form_continues bound (Labels make) = continues_of bound (Made (Both (SpellsVector SpellsU32) SpellsU32) (λ x. make (labels_of x))) (made_at (λ x. make (labels_of x)) (both_at (vector_at u32_at) u32_at)) (made_decodes bound (Both (SpellsVector SpellsU32) SpellsU32) (both_at (vector_at u32_at) u32_at) (λ x. make (labels_of x)) (both_decodes bound (SpellsVector SpellsU32) SpellsU32 (vector_at u32_at) u32_at (vector_decodes bound SpellsU32 u32_at (u32_decodes bound Number)) (u32_decodes bound Number)))
form_continues bound (Const32 make) = continues_of bound (Made SpellsS32 make) (made_at make s32_at) (made_decodes bound SpellsS32 s32_at make (s32_decodes bound))
form_continues bound (Const64 make) = continues_of bound (Made SpellsS64 make) (made_at make s64_at) (made_decodes bound SpellsS64 s64_at make (s64_decodes bound))
form_continues bound (Access make) = continues_of bound (Made SpellsMemArg make) (made_at make mem_arg_at) (made_decodes bound SpellsMemArg mem_arg_at make (mem_arg_decodes bound))
form_continues bound (Heap make) = continues_of bound (Made SpellsHeap make) (made_at make heap_at) (made_decodes bound SpellsHeap heap_at make (heap_decodes bound))
form_continues bound (Types make) = continues_of bound (Made (SpellsVector SpellsVal) make) (made_at make (vector_at val_at)) (made_decodes bound (SpellsVector SpellsVal) (vector_at val_at) make (vector_decodes bound SpellsVal val_at (val_decodes bound)))
form_continues bound (Cast make) = continues_of bound (Made SpellsCast make) (made_at make cast_at) (made_decodes bound SpellsCast cast_at make (cast_decodes bound))
form_continues bound Unknown = refuses bound

-- a number behind a prefix

unfoldable pub PrefixedIn : List (ℕ × Form) → Instr → List ℕ → Type 0
PrefixedIn rows instr text = (code : ℕ) × Parts (SpellsU32 code) (SpellsForm (row_or Unknown rows code) instr) text

prefixed_continues : (bound : ℕ) (rows : List (ℕ × Form)) → Continues bound (PrefixedIn rows) (prefixed_at rows)
unfolding PrefixedIn
prefixed_continues bound rows = continues_chain bound (PrefixedIn rows) SpellsU32 (λ code. SpellsForm (row_or Unknown rows code)) (λ left text. number Opcode left (unsigned_at 32 text)) (λ left code rest. form_at left (row_or Unknown rows code) rest) (record { opens = λ instr text h. h; closes = λ code instr text p. (code, p) }) (u32_continues bound Opcode) (λ code. form_continues bound (row_or Unknown rows code))

-- by a code of one byte

unfoldable pub CodedBy : ℕ → Instr → List ℕ → Type 0
CodedBy c instr front = SpellsForm (form_of c) instr front

coded_heads : (bound : ℕ) → Heads bound CodedBy (λ left c rest. form_at left (form_of c) rest)
unfolding Heads CodedBy
coded_heads bound c = form_continues bound (form_of c)

unfoldable pub LeafBy : ℕ → Instr → List ℕ → Type 0
LeafBy = Row 0xFB (PrefixedIn aggregate_rows) (Row 0xFC (PrefixedIn bulk_rows) CodedBy)

pub leaf_heads : (bound : ℕ) → Heads bound LeafBy leaf_at
unfolding LeafBy
leaf_heads bound =
    left_heads bound 0xFB (PrefixedIn aggregate_rows) (prefixed_at aggregate_rows) (Row 0xFC (PrefixedIn bulk_rows) CodedBy) (λ left c. cond (nat_eq c 0xFC) (prefixed_at bulk_rows left) (λ rest. form_at left (form_of c) rest))
    (prefixed_continues bound aggregate_rows)
    (left_heads bound 0xFC (PrefixedIn bulk_rows) (prefixed_at bulk_rows) CodedBy (λ left c rest. form_at left (form_of c) rest)
    (prefixed_continues bound bulk_rows)
    (coded_heads bound))

leaf_to_by : (c : ℕ) (instr : Instr) (back text : List ℕ) → text ≡ c ∷ back → LeafBy c instr back → SpellsLeaf instr text
unfolding LeafBy Row PrefixedIn CodedBy
leaf_to_by c instr back text whole (inl h) = inr (inl (record { code = h.1.0; rest = fixed 0xFB c (Numbered h.1.0 (SpellsForm (row_or Unknown aggregate_rows h.1.0) instr)) back text whole h.0 h.1.1 }))
leaf_to_by c instr back text whole (inr (i0, inl h)) = inr (inr (record { code = h.1.0; rest = fixed 0xFC c (Numbered h.1.0 (SpellsForm (row_or Unknown bulk_rows h.1.0) instr)) back text whole h.0 h.1.1 }))
leaf_to_by c instr back text whole (inr (i0, inr (i1, h))) = inl (record { code = c; back = back; whole = whole; rest = h })

pub spells_leaf : (c : ℕ) (instr : Instr) (back : List ℕ) → LeafBy c instr back → SpellsLeaf instr (c ∷ back)
spells_leaf c instr back h = leaf_to_by c instr back (c ∷ back) refl h

-- no instruction has one of these codes
pub coded_void : (b : ℕ) → form_of b ≡ Unknown → Void CodedBy b
unfolding Void CodedBy
coded_void b none instr front h = let P : Form → Type 0 = λ f. SpellsForm f instr front in subst P none h

pub leaf_back : (instr : Instr) (text : List ℕ) → SpellsLeaf instr text → Headed LeafBy instr text
unfolding LeafBy Row PrefixedIn CodedBy
leaf_back instr text (inl h) = record { code = h.code; back = h.back; whole = h.whole; rest = inr (avoids 0xFB h.code CodedBy instr h.back (coded_void 0xFB refl) h.rest, inr (avoids 0xFC h.code CodedBy instr h.back (coded_void 0xFC refl) h.rest, h.rest)) }
leaf_back instr text (inr (inl h)) = record { code = 0xFB; back = h.rest.back; whole = h.rest.whole; rest = inl (refl, (h.code, h.rest.rest)) }
leaf_back instr text (inr (inr h)) = record { code = 0xFC; back = h.rest.back; whole = h.rest.whole; rest = inr (refl, inl (refl, (h.code, h.rest.rest))) }
