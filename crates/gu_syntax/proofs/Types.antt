-- Types of the whole format: what is spelled is read, and what is read is spelled.
use Rattle.std.proofs.Common.{ℕ, List, [], ◌∷◌, ◌≡◌, refl, ap, ◌∙◌, sym, subst, arith, nat_eq, Bool, true, false, cond, inl, inr, Option, Some, None, pos, ◌-ℤ◌, ◌≤◌, ◌<◌}
use Rattle.std.proofs.lemmas.Bool.{cases_Bool, cond-true, cond-false}
use Rattle.gu_types.specs.declared.types.Abs.{Abs}
use Rattle.gu_types.specs.declared.types.Abs.TheVariants as A
use Rattle.gu_types.specs.declared.types.HeapType.{HeapType}
use Rattle.gu_types.specs.declared.types.HeapType.TheVariants as H
use Rattle.gu_types.specs.declared.types.RefType.{RefType}
use Rattle.gu_types.specs.declared.types.ValType.{ValType}
use Rattle.gu_types.specs.declared.types.ValType.TheVariants as V
use Rattle.gu_types.specs.declared.types.Storage.{Storage}
use Rattle.gu_types.specs.declared.types.Storage.TheVariants as S
use Rattle.gu_types.specs.declared.types.FieldType.{FieldType}
use Rattle.gu_types.specs.declared.types.Comp.{Comp}
use Rattle.gu_types.specs.declared.types.Comp.TheVariants as C
use Rattle.gu_types.specs.declared.types.SubType.{SubType}
use Rattle.gu_types.specs.declared.types.RecGroup.{RecGroup}
use Rattle.gu_syntax.specs.declared.module.Limits.{Limits}
use Rattle.gu_syntax.specs.Parts.{Parts, Begins, SpellsU32, SpellsVector, SpellsS33, Both, Made}
use Rattle.gu_syntax.specs.Types.{abs_byte, SpellsHeap, null_byte, SpellsShort, SpellsRef, SpellsVal, SpellsMutable, SpellsStorage, SpellsField, SpellsComp, final_byte, SpellsSub, SpellsOne, SpellsGroup, SpellsRange, SpellsLimits}
use Rattle.gu_syntax.specs.Instructions.{ref_to, row_or}
use Rattle.gu_syntax.specs.Reading.{Fixed, Number, LimitsFlag, TypeStart, refused, made_at, both_at, u32_at, s33_head, rows_at, none_at, vector_at, abs_rows, abs_with, heap_or, heap_head, heap_at, short_or, ref_head, ref_at, val_head, val_at, mutable_at, storage_head, storage_at, field_of, field_at, func_of, comp_head, comp_at, sub_of, declared_at, bare_of, sub_head, sub_at, group_of, one_of, group_head, group_at, from_least, between, limits_at}
use Rattle.gu_syntax.proofs.Takes.{is_eq, eq_is}
use Rattle.gu_syntax.proofs.Decodes.{Decodes, Continues, continues_of, made_continues, s33_continues, Heads, Headed, Row, NoRow, Nothing, MadeBy, Void, made_heads, no_row_void, row_void, made_void, avoids, decodes_as, none_decodes, made_decodes, both_decodes, u32_decodes, headed_decodes, no_row_heads, row_heads, vector_decodes, refused-got, left_is}

-- a first byte that is fixed
pub fixed : (b c : ℕ) (Q : List ℕ → Type 0) (back text : List ℕ) → text ≡ c ∷ back → c ≡ b → Q back → Begins b Q text
fixed b c Q back text whole is h = record { back = back; whole = whole ∙ ap (λ n. n ∷ back) is; rest = h }

-- a byte alone
pub alone : (b c : ℕ) (back text : List ℕ) → text ≡ c ∷ back → c ≡ b → back ≡ [] → text ≡ b ∷ []
alone b c back text whole is none = whole ∙ ap (λ n. n ∷ back) is ∙ ap (λ t. b ∷ t) none

-- abstract heap types

pub abs_again : (kind : Abs) → abs_with (abs_byte kind) ≡ Some kind
abs_again A.NoExn = refl
abs_again A.NoFunc = refl
abs_again A.NoExtern = refl
abs_again A.Bot = refl
abs_again A.AnyFunc = refl
abs_again A.Extern = refl
abs_again A.Any = refl
abs_again A.Eq = refl
abs_again A.I31 = refl
abs_again A.AnyStruct = refl
abs_again A.AnyArray = refl
abs_again A.Exn = refl

unfoldable pub IsByteOf : ℕ → Option Abs → Type 0
IsByteOf byte None = Unit {0}
IsByteOf byte (Some kind) = byte ≡ abs_byte kind

AllBytes : List (ℕ × Option Abs) → Type 0
AllBytes [] = Unit {0}
AllBytes (row ∷ rows) = IsByteOf row.0 row.1 × AllBytes rows

abs_found : (rows : List (ℕ × Option Abs)) → AllBytes rows → (byte : ℕ) → IsByteOf byte (row_or None rows byte)
unfolding IsByteOf AllBytes
abs_found [] all byte = tt
abs_found (row ∷ rows) all byte = elim (cases_Bool (nat_eq byte row.0)) [
  | inl is ↦ (
      let P : Option Abs → Type 0 = λ o. IsByteOf byte o in
      let Q : ℕ → Type 0 = λ n. IsByteOf n row.1 in
      subst P (sym (cond-true (nat_eq byte row.0) row.1 (row_or None rows byte) is)) (subst Q (sym (is_eq byte row.0 is)) all.0))
  | inr isnt ↦ (
      let P : Option Abs → Type 0 = λ o. IsByteOf byte o in
      subst P (sym (cond-false (nat_eq byte row.0) row.1 (row_or None rows byte) isnt)) (abs_found rows all.1 byte))
]

pub abs_taken : (byte : ℕ) → IsByteOf byte (abs_with byte)
unfolding IsByteOf AllBytes
abs_taken byte = abs_found abs_rows (refl, (refl, (refl, (refl, (refl, (refl, (refl, (refl, (refl, (refl, (refl, (refl, tt)))))))))))) byte

-- the bytes of abstract heap types lie together

pub abs_range : (kind : Abs) → (0x69 ≤ abs_byte kind) × (abs_byte kind ≤ 0x74)
abs_range A.NoExn = (omega arith, omega arith)
abs_range A.NoFunc = (omega arith, omega arith)
abs_range A.NoExtern = (omega arith, omega arith)
abs_range A.Bot = (omega arith, omega arith)
abs_range A.AnyFunc = (omega arith, omega arith)
abs_range A.Extern = (omega arith, omega arith)
abs_range A.Any = (omega arith, omega arith)
abs_range A.Eq = (omega arith, omega arith)
abs_range A.I31 = (omega arith, omega arith)
abs_range A.AnyStruct = (omega arith, omega arith)
abs_range A.AnyArray = (omega arith, omega arith)
abs_range A.Exn = (omega arith, omega arith)

abs_negative : (kind : Abs) (n : ℕ) → pos n ≡ pos (abs_byte kind) -ℤ pos 128 → ⊥
abs_negative A.NoExn n h = let f : ⊥ = cc in f
abs_negative A.NoFunc n h = let f : ⊥ = cc in f
abs_negative A.NoExtern n h = let f : ⊥ = cc in f
abs_negative A.Bot n h = let f : ⊥ = cc in f
abs_negative A.AnyFunc n h = let f : ⊥ = cc in f
abs_negative A.Extern n h = let f : ⊥ = cc in f
abs_negative A.Any n h = let f : ⊥ = cc in f
abs_negative A.Eq n h = let f : ⊥ = cc in f
abs_negative A.I31 n h = let f : ⊥ = cc in f
abs_negative A.AnyStruct n h = let f : ⊥ = cc in f
abs_negative A.AnyArray n h = let f : ⊥ = cc in f
abs_negative A.Exn n h = let f : ⊥ = cc in f

apart : (a b : ℕ) → b < a → nat_eq a b ≡ false
apart a b h = grind (arith, h)

-- no type index begins with the byte of an abstract heap type
index_not : (c n : ℕ) (back : List ℕ) (kind : Abs) → SpellsS33 n (c ∷ back) → c ≡ abs_byte kind → ⊥
index_not c n [] kind (inl h) is = let r = abs_range kind in omega (arith, h.0, is, r.0)
index_not c n [] kind (inr h) is = abs_negative kind n (h.3 ∙ ap (λ m. pos m -ℤ pos 128) is)
index_not c n (b ∷ back) kind h is = let r = abs_range kind in omega (arith, h.0, is, r.1)

-- heap types

unfoldable pub HeapOf : Option Abs → ℕ → HeapType → List ℕ → Type 0
HeapOf None c heap front = Made (λ n back. SpellsS33 n (c ∷ back)) H.Idx heap front
HeapOf (Some kind) c heap front = Nothing (H.Abs kind) heap front

unfoldable pub HeapBy : ℕ → HeapType → List ℕ → Type 0
HeapBy c heap front = HeapOf (abs_with c) c heap front

heap_or_continues : (bound c : ℕ) (o : Option Abs) → Continues bound (HeapOf o c) (λ left. heap_or o left c)
unfolding HeapOf
heap_or_continues bound c None = made_continues bound (λ n back. SpellsS33 n (c ∷ back)) (λ left. s33_head left c) H.Idx (s33_continues bound c)
heap_or_continues bound c (Some kind) = continues_of bound (Nothing (H.Abs kind)) (none_at (H.Abs kind)) (none_decodes bound (H.Abs kind))

pub heap_heads : (bound : ℕ) → Heads bound HeapBy heap_head
unfolding Heads HeapBy
heap_heads bound c = heap_or_continues bound c (abs_with c)

heap_to_of : (heap : HeapType) (text back : List ℕ) (c : ℕ) (o : Option Abs) → IsByteOf c o → text ≡ c ∷ back → HeapOf o c heap back → SpellsHeap heap text
unfolding HeapOf IsByteOf Nothing
heap_to_of heap text back c None is whole h =
    let P : HeapType → Type 0 = λ x. SpellsHeap x text in
    let Q : List ℕ → Type 0 = λ t. SpellsS33 h.value t in
    subst P h.makes (subst Q (sym whole) h.spelled)
heap_to_of heap text back c (Some kind) is whole h =
    let P : HeapType → Type 0 = λ x. SpellsHeap x text in
    subst P h.0 (alone (abs_byte kind) c back text whole is h.1)

pub heap_to : (heap : HeapType) (text : List ℕ) → Headed HeapBy heap text → SpellsHeap heap text
unfolding HeapBy
heap_to heap text h = heap_to_of heap text h.back h.code (abs_with h.code) (abs_taken h.code) h.whole h.rest

-- the first byte of a type index is that of no abstract heap type
index_byte : (c n : ℕ) (back : List ℕ) → SpellsS33 n (c ∷ back) → (o : Option Abs) → IsByteOf c o → HeapOf o c (H.Idx n) back
unfolding HeapOf IsByteOf
index_byte c n back h None is = record { value = n; makes = refl; spelled = h }
index_byte c n back h (Some kind) is = absurd (index_not c n back kind h is)

heap_back_of : (n : ℕ) (text : List ℕ) → SpellsS33 n text → Headed HeapBy (H.Idx n) text
unfolding HeapBy
heap_back_of n [] h = absurd h
heap_back_of n (c ∷ back) h = record { code = c; back = back; whole = refl; rest = index_byte c n back h (abs_with c) (abs_taken c) }

pub heap_back : (heap : HeapType) (text : List ℕ) → SpellsHeap heap text → Headed HeapBy heap text
unfolding HeapBy HeapOf Nothing
heap_back (H.Abs kind) text h = record { code = abs_byte kind; back = []; whole = h; rest = let P : Option Abs → Type 0 = λ o. HeapOf o (abs_byte kind) (H.Abs kind) [] in subst P (sym (abs_again kind)) (refl, refl) }
heap_back (H.Idx n) text h = heap_back_of n text h

pub heap_decodes : (bound : ℕ) → Decodes bound SpellsHeap heap_at
heap_decodes bound = decodes_as bound (Headed HeapBy) SpellsHeap heap_at heap_to heap_back (headed_decodes bound TypeStart HeapBy heap_head (heap_heads bound))

-- reference types

unfoldable pub ShortOf : Option Abs → RefType → List ℕ → Type 0
ShortOf None ref front = ⊥
ShortOf (Some kind) ref front = Nothing (ref_to true (H.Abs kind)) ref front

unfoldable pub ShortBy : ℕ → RefType → List ℕ → Type 0
ShortBy c ref front = ShortOf (abs_with c) ref front

short_continues : (bound : ℕ) (o : Option Abs) → Continues bound (ShortOf o) (λ left other. short_or o left other)
unfolding ShortOf
short_continues bound None = record {
  again = λ left x front rest h low. absurd h;
  taken = λ left text rest x h. absurd (refused-got TypeStart left x rest h);
  within = λ left text fault h room. let e = left_is {A = RefType} TypeStart left fault h in omega (arith, e);
}
short_continues bound (Some kind) = continues_of bound (Nothing (ref_to true (H.Abs kind))) (none_at (ref_to true (H.Abs kind))) (none_decodes bound (ref_to true (H.Abs kind)))

short_heads : (bound : ℕ) → Heads bound ShortBy (λ left c other. short_or (abs_with c) left other)
unfolding Heads ShortBy
short_heads bound c = short_continues bound (abs_with c)

unfoldable pub RefBy : ℕ → RefType → List ℕ → Type 0
RefBy = Row 0x63 (Made SpellsHeap (ref_to true)) (Row 0x64 (Made SpellsHeap (ref_to false)) ShortBy)

pub ref_heads : (bound : ℕ) → Heads bound RefBy ref_head
unfolding RefBy
ref_heads bound =
    row_heads bound 0x63 (Made SpellsHeap (ref_to true)) (made_at (ref_to true) heap_at) (Row 0x64 (Made SpellsHeap (ref_to false)) ShortBy) (λ left c. cond (nat_eq c 0x64) (made_at (ref_to false) heap_at) (λ other. short_or (abs_with c) left other))
    (made_decodes bound SpellsHeap heap_at (ref_to true) (heap_decodes bound))
    (row_heads bound 0x64 (Made SpellsHeap (ref_to false)) (made_at (ref_to false) heap_at) ShortBy (λ left c other. short_or (abs_with c) left other)
    (made_decodes bound SpellsHeap heap_at (ref_to false) (heap_decodes bound))
    (short_heads bound))

long_to : (null : Bool) (c : ℕ) (ref : RefType) (back text : List ℕ) → text ≡ c ∷ back → c ≡ null_byte null → Made SpellsHeap (ref_to null) ref back → SpellsRef ref text
long_to null c ref back text whole is h =
    let P : RefType → Type 0 = λ r. SpellsRef r text in
    subst P h.makes (inl (fixed (null_byte null) c (SpellsHeap h.value) back text whole is h.spelled))

short_to : (c : ℕ) (ref : RefType) (back text : List ℕ) → text ≡ c ∷ back → (o : Option Abs) → IsByteOf c o → ShortOf o ref back → SpellsRef ref text
unfolding ShortOf IsByteOf Nothing
short_to c ref back text whole None is h = absurd h
short_to c ref back text whole (Some kind) is h =
    let P : RefType → Type 0 = λ r. SpellsRef r text in
    subst P h.0 (inr (alone (abs_byte kind) c back text whole is h.1))

ref_to_by : (c : ℕ) (ref : RefType) (back text : List ℕ) → text ≡ c ∷ back → RefBy c ref back → SpellsRef ref text
unfolding RefBy Row ShortBy
ref_to_by c ref back text whole (inl h) = long_to true c ref back text whole h.0 h.1
ref_to_by c ref back text whole (inr (isnt, inl h)) = long_to false c ref back text whole h.0 h.1
ref_to_by c ref back text whole (inr (isnt, inr (isnt', h))) = short_to c ref back text whole (abs_with c) (abs_taken c) h

pub spells_ref : (ref : RefType) (text : List ℕ) → Headed RefBy ref text → SpellsRef ref text
spells_ref ref text h = ref_to_by h.code ref h.back text h.whole h.rest

long_back : (null : Bool) (heap : HeapType) (text : List ℕ) → Begins (null_byte null) (SpellsHeap heap) text → Headed RefBy (ref_to null heap) text
unfolding RefBy Row
long_back true heap text h = record { code = 0x63; back = h.back; whole = h.whole; rest = inl (refl, record { value = heap; makes = refl; spelled = h.rest }) }
long_back false heap text h = record { code = 0x64; back = h.back; whole = h.whole; rest = inr (refl, inl (refl, record { value = heap; makes = refl; spelled = h.rest })) }

short_byte : (kind : Abs) → RefBy (abs_byte kind) (ref_to true (H.Abs kind)) []
unfolding RefBy Row ShortBy ShortOf Nothing
short_byte kind = inr (apart (abs_byte kind) 0x63 (let r = abs_range kind in omega (arith, r.0)), inr (apart (abs_byte kind) 0x64 (let r = abs_range kind in omega (arith, r.0)), (let P : Option Abs → Type 0 = λ o. ShortOf o (ref_to true (H.Abs kind)) [] in subst P (sym (abs_again kind)) (refl, refl))))

short_back : (null : Bool) (heap : HeapType) (text : List ℕ) → SpellsShort null heap text → Headed RefBy (ref_to null heap) text
short_back true (H.Abs kind) text h = record { code = abs_byte kind; back = []; whole = h; rest = short_byte kind }
short_back true (H.Idx n) text h = absurd h
short_back false heap text h = absurd h

pub ref_back : (ref : RefType) (text : List ℕ) → SpellsRef ref text → Headed RefBy ref text
ref_back ref text (inl h) = long_back ref.null ref.heap text h
ref_back ref text (inr h) = short_back ref.null ref.heap text h

pub ref_decodes : (bound : ℕ) → Decodes bound SpellsRef ref_at
ref_decodes bound = decodes_as bound (Headed RefBy) SpellsRef ref_at spells_ref ref_back (headed_decodes bound TypeStart RefBy ref_head (ref_heads bound))

-- value types

unfoldable pub ValBy : ℕ → ValType → List ℕ → Type 0
ValBy = Row 0x7F (Nothing V.I32) (Row 0x7E (Nothing V.I64) (MadeBy RefBy V.Ref))

pub val_heads : (bound : ℕ) → Heads bound ValBy val_head
unfolding ValBy
val_heads bound =
    row_heads bound 0x7F (Nothing V.I32) (none_at V.I32) (Row 0x7E (Nothing V.I64) (MadeBy RefBy V.Ref)) (λ left c. cond (nat_eq c 0x7E) (none_at V.I64) (made_at V.Ref (ref_head left c)))
    (none_decodes bound V.I32)
    (row_heads bound 0x7E (Nothing V.I64) (none_at V.I64) (MadeBy RefBy V.Ref) (λ left c. made_at V.Ref (ref_head left c))
    (none_decodes bound V.I64)
    (made_heads bound RefBy ref_head V.Ref (ref_heads bound)))

-- a byte of another type is not that of a reference type
pub ref_void : (b : ℕ) → nat_eq b 0x63 ≡ false → nat_eq b 0x64 ≡ false → abs_with b ≡ None → Void RefBy b
unfolding Void RefBy Row ShortBy ShortOf
ref_void b long six none ref front (inl h) = let e : true ≡ false = sym (eq_is b 0x63 h.0) ∙ long in let f : ⊥ = cc in f
ref_void b long six none ref front (inr (isnt, inl h)) = let e : true ≡ false = sym (eq_is b 0x64 h.0) ∙ six in let f : ⊥ = cc in f
ref_void b long six none ref front (inr (isnt, inr (isnt', h))) = let P : Option Abs → Type 0 = λ o. ShortOf o ref front in subst P none h

byte_to : (b c : ℕ) (x ty : ValType) (back text : List ℕ) → text ≡ c ∷ back → c ≡ b → Nothing x ty back → SpellsVal x (b ∷ []) → SpellsVal ty text
unfolding Nothing
byte_to b c x ty back text whole is h s =
    let P : ValType → Type 0 = λ y. SpellsVal y text in
    let Q : List ℕ → Type 0 = λ t. SpellsVal x t in
    subst P h.0 (subst Q (sym (alone b c back text whole is h.1)) s)

val_to_by : (c : ℕ) (ty : ValType) (back text : List ℕ) → text ≡ c ∷ back → ValBy c ty back → SpellsVal ty text
unfolding ValBy Row MadeBy
val_to_by c ty back text whole (inl h) = byte_to 0x7F c V.I32 ty back text whole h.0 h.1 refl
val_to_by c ty back text whole (inr (isnt, inl h)) = byte_to 0x7E c V.I64 ty back text whole h.0 h.1 refl
val_to_by c ty back text whole (inr (isnt, inr (isnt', h))) =
    let P : ValType → Type 0 = λ y. SpellsVal y text in
    subst P h.makes (spells_ref h.value text (record { code = c; back = back; whole = whole; rest = h.spelled }))

pub spells_val : (ty : ValType) (text : List ℕ) → Headed ValBy ty text → SpellsVal ty text
spells_val ty text h = val_to_by h.code ty h.back text h.whole h.rest

ref_val : (ref : RefType) (text : List ℕ) → Headed RefBy ref text → Headed ValBy (V.Ref ref) text
unfolding ValBy Row MadeBy
ref_val ref text h = record {
  code = h.code;
  back = h.back;
  whole = h.whole;
  rest = inr (avoids 0x7F h.code RefBy ref h.back (ref_void 0x7F refl refl refl) h.rest, inr (avoids 0x7E h.code RefBy ref h.back (ref_void 0x7E refl refl refl) h.rest, record { value = ref; makes = refl; spelled = h.rest }));
}

pub val_back : (ty : ValType) (text : List ℕ) → SpellsVal ty text → Headed ValBy ty text
unfolding ValBy Row Nothing
val_back V.I32 text h = record { code = 0x7F; back = []; whole = h; rest = inl (refl, (refl, refl)) }
val_back V.I64 text h = record { code = 0x7E; back = []; whole = h; rest = inr (refl, inl (refl, (refl, refl))) }
val_back (V.Ref ref) text h = ref_val ref text (ref_back ref text h)

pub val_decodes : (bound : ℕ) → Decodes bound SpellsVal val_at
val_decodes bound = decodes_as bound (Headed ValBy) SpellsVal val_at spells_val val_back (headed_decodes bound TypeStart ValBy val_head (val_heads bound))

val_void : (b : ℕ) → nat_eq b 0x7F ≡ false → nat_eq b 0x7E ≡ false → nat_eq b 0x63 ≡ false → nat_eq b 0x64 ≡ false → abs_with b ≡ None → Void ValBy b
unfolding ValBy
val_void b one other long six none = row_void b 0x7F (Nothing V.I32) (Row 0x7E (Nothing V.I64) (MadeBy RefBy V.Ref)) one (row_void b 0x7E (Nothing V.I64) (MadeBy RefBy V.Ref) other (made_void b RefBy V.Ref (ref_void b long six none)))

-- mutability

unfoldable MutableBy : ℕ → Bool → List ℕ → Type 0
MutableBy = Row 0x00 (Nothing false) (Row 0x01 (Nothing true) NoRow)

mutable_heads : (bound : ℕ) → Heads bound MutableBy (rows_at Fixed ((0x00, none_at false) ∷ (0x01, none_at true) ∷ []))
unfolding MutableBy
mutable_heads bound =
    row_heads bound 0x00 (Nothing false) (none_at false) (Row 0x01 (Nothing true) NoRow) (λ left c. cond (nat_eq c 0x01) (none_at true) (λ other. refused Fixed left))
    (none_decodes bound false)
    (row_heads bound 0x01 (Nothing true) (none_at true) NoRow (λ left c other. refused Fixed left) (none_decodes bound true) (no_row_heads Bool bound Fixed))

mutable_to_by : (c : ℕ) (m : Bool) (back text : List ℕ) → text ≡ c ∷ back → MutableBy c m back → SpellsMutable m text
unfolding MutableBy Row NoRow Nothing
mutable_to_by c m back text whole (inl h) = let P : Bool → Type 0 = λ b. SpellsMutable b text in subst P h.1.0 (alone 0x00 c back text whole h.0 h.1.1)
mutable_to_by c m back text whole (inr (isnt, inl h)) = let P : Bool → Type 0 = λ b. SpellsMutable b text in subst P h.1.0 (alone 0x01 c back text whole h.0 h.1.1)
mutable_to_by c m back text whole (inr (isnt, inr (isnt', h))) = absurd h

mutable_back : (m : Bool) (text : List ℕ) → SpellsMutable m text → Headed MutableBy m text
unfolding MutableBy Row Nothing
mutable_back false text h = record { code = 0x00; back = []; whole = h; rest = inl (refl, (refl, refl)) }
mutable_back true text h = record { code = 0x01; back = []; whole = h; rest = inr (refl, inl (refl, (refl, refl))) }

pub mutable_decodes : (bound : ℕ) → Decodes bound SpellsMutable mutable_at
mutable_decodes bound = decodes_as bound (Headed MutableBy) SpellsMutable mutable_at (λ m text h. mutable_to_by h.code m h.back text h.whole h.rest) mutable_back (headed_decodes bound Fixed MutableBy (rows_at Fixed ((0x00, none_at false) ∷ (0x01, none_at true) ∷ [])) (mutable_heads bound))

-- storage and field types

unfoldable StorageBy : ℕ → Storage → List ℕ → Type 0
StorageBy = Row 0x78 (Nothing S.I8) (Row 0x77 (Nothing S.I16) (MadeBy ValBy S.Val))

storage_heads : (bound : ℕ) → Heads bound StorageBy storage_head
unfolding StorageBy
storage_heads bound =
    row_heads bound 0x78 (Nothing S.I8) (none_at S.I8) (Row 0x77 (Nothing S.I16) (MadeBy ValBy S.Val)) (λ left c. cond (nat_eq c 0x77) (none_at S.I16) (made_at S.Val (val_head left c)))
    (none_decodes bound S.I8)
    (row_heads bound 0x77 (Nothing S.I16) (none_at S.I16) (MadeBy ValBy S.Val) (λ left c. made_at S.Val (val_head left c))
    (none_decodes bound S.I16)
    (made_heads bound ValBy val_head S.Val (val_heads bound)))

storage_to_by : (c : ℕ) (ty : Storage) (back text : List ℕ) → text ≡ c ∷ back → StorageBy c ty back → SpellsStorage ty text
unfolding StorageBy Row MadeBy Nothing
storage_to_by c ty back text whole (inl h) = let P : Storage → Type 0 = λ y. SpellsStorage y text in subst P h.1.0 (alone 0x78 c back text whole h.0 h.1.1)
storage_to_by c ty back text whole (inr (isnt, inl h)) = let P : Storage → Type 0 = λ y. SpellsStorage y text in subst P h.1.0 (alone 0x77 c back text whole h.0 h.1.1)
storage_to_by c ty back text whole (inr (isnt, inr (isnt', h))) = let P : Storage → Type 0 = λ y. SpellsStorage y text in subst P h.makes (spells_val h.value text (record { code = c; back = back; whole = whole; rest = h.spelled }))

val_storage : (ty : ValType) (text : List ℕ) → Headed ValBy ty text → Headed StorageBy (S.Val ty) text
unfolding StorageBy Row MadeBy
val_storage ty text h = record {
  code = h.code;
  back = h.back;
  whole = h.whole;
  rest = inr (avoids 0x78 h.code ValBy ty h.back (val_void 0x78 refl refl refl refl refl) h.rest, inr (avoids 0x77 h.code ValBy ty h.back (val_void 0x77 refl refl refl refl refl) h.rest, record { value = ty; makes = refl; spelled = h.rest }));
}

storage_back : (ty : Storage) (text : List ℕ) → SpellsStorage ty text → Headed StorageBy ty text
unfolding StorageBy Row Nothing
storage_back S.I8 text h = record { code = 0x78; back = []; whole = h; rest = inl (refl, (refl, refl)) }
storage_back S.I16 text h = record { code = 0x77; back = []; whole = h; rest = inr (refl, inl (refl, (refl, refl))) }
storage_back (S.Val ty) text h = val_storage ty text (val_back ty text h)

storage_decodes : (bound : ℕ) → Decodes bound SpellsStorage storage_at
storage_decodes bound = decodes_as bound (Headed StorageBy) SpellsStorage storage_at (λ ty text h. storage_to_by h.code ty h.back text h.whole h.rest) storage_back (headed_decodes bound TypeStart StorageBy storage_head (storage_heads bound))

field_to : (field : FieldType) (text : List ℕ) → Made (Both SpellsStorage SpellsMutable) field_of field text → SpellsField field text
field_to field text h = let P : FieldType → Type 0 = λ f. SpellsField f text in subst P h.makes h.spelled

pub field_decodes : (bound : ℕ) → Decodes bound SpellsField field_at
field_decodes bound = decodes_as bound (Made (Both SpellsStorage SpellsMutable) field_of) SpellsField field_at field_to (λ field text h. record { value = (field.storage, field.mutable); makes = refl; spelled = h }) (made_decodes bound (Both SpellsStorage SpellsMutable) (both_at storage_at mutable_at) field_of (both_decodes bound SpellsStorage SpellsMutable storage_at mutable_at (storage_decodes bound) (mutable_decodes bound)))

-- composite types

abbrev FuncParts : List ValType × List ValType → List ℕ → Type 0
FuncParts = Both (SpellsVector SpellsVal) (SpellsVector SpellsVal)

unfoldable CompBy : ℕ → Comp → List ℕ → Type 0
CompBy = Row 0x60 (Made FuncParts func_of) (Row 0x5F (Made (SpellsVector SpellsField) C.Struct) (Row 0x5E (Made SpellsField C.Array) NoRow))

comp_heads : (bound : ℕ) → Heads bound CompBy comp_head
unfolding CompBy
comp_heads bound =
    row_heads bound 0x60 (Made FuncParts func_of) (made_at func_of (both_at (vector_at val_at) (vector_at val_at))) (Row 0x5F (Made (SpellsVector SpellsField) C.Struct) (Row 0x5E (Made SpellsField C.Array) NoRow)) (λ left c. cond (nat_eq c 0x5F) (made_at C.Struct (vector_at field_at)) (cond (nat_eq c 0x5E) (made_at C.Array field_at) (λ other. refused TypeStart left)))
    (made_decodes bound FuncParts (both_at (vector_at val_at) (vector_at val_at)) func_of (both_decodes bound (SpellsVector SpellsVal) (SpellsVector SpellsVal) (vector_at val_at) (vector_at val_at) (vector_decodes bound SpellsVal val_at (val_decodes bound)) (vector_decodes bound SpellsVal val_at (val_decodes bound))))
    (row_heads bound 0x5F (Made (SpellsVector SpellsField) C.Struct) (made_at C.Struct (vector_at field_at)) (Row 0x5E (Made SpellsField C.Array) NoRow) (λ left c. cond (nat_eq c 0x5E) (made_at C.Array field_at) (λ other. refused TypeStart left))
    (made_decodes bound (SpellsVector SpellsField) (vector_at field_at) C.Struct (vector_decodes bound SpellsField field_at (field_decodes bound)))
    (row_heads bound 0x5E (Made SpellsField C.Array) (made_at C.Array field_at) NoRow (λ left c other. refused TypeStart left)
    (made_decodes bound SpellsField field_at C.Array (field_decodes bound))
    (no_row_heads Comp bound TypeStart)))

comp_to_by : (c : ℕ) (comp : Comp) (back text : List ℕ) → text ≡ c ∷ back → CompBy c comp back → SpellsComp comp text
unfolding CompBy Row NoRow
comp_to_by c comp back text whole (inl h) = let P : Comp → Type 0 = λ x. SpellsComp x text in subst P h.1.makes (fixed 0x60 c (FuncParts h.1.value) back text whole h.0 h.1.spelled)
comp_to_by c comp back text whole (inr (isnt, inl h)) = let P : Comp → Type 0 = λ x. SpellsComp x text in subst P h.1.makes (fixed 0x5F c (SpellsVector SpellsField h.1.value) back text whole h.0 h.1.spelled)
comp_to_by c comp back text whole (inr (isnt, inr (isnt', inl h))) = let P : Comp → Type 0 = λ x. SpellsComp x text in subst P h.1.makes (fixed 0x5E c (SpellsField h.1.value) back text whole h.0 h.1.spelled)
comp_to_by c comp back text whole (inr (isnt, inr (isnt', inr (isnt'', h)))) = absurd h

spells_comp : (comp : Comp) (text : List ℕ) → Headed CompBy comp text → SpellsComp comp text
spells_comp comp text h = comp_to_by h.code comp h.back text h.whole h.rest

comp_back : (comp : Comp) (text : List ℕ) → SpellsComp comp text → Headed CompBy comp text
unfolding CompBy Row
comp_back (C.Func params results) text h = record { code = 0x60; back = h.back; whole = h.whole; rest = inl (refl, record { value = (params, results); makes = refl; spelled = h.rest }) }
comp_back (C.Struct fields) text h = record { code = 0x5F; back = h.back; whole = h.whole; rest = inr (refl, inl (refl, record { value = fields; makes = refl; spelled = h.rest })) }
comp_back (C.Array field) text h = record { code = 0x5E; back = h.back; whole = h.whole; rest = inr (refl, inr (refl, inl (refl, record { value = field; makes = refl; spelled = h.rest }))) }

comp_decodes : (bound : ℕ) → Decodes bound SpellsComp comp_at
comp_decodes bound = decodes_as bound (Headed CompBy) SpellsComp comp_at spells_comp comp_back (headed_decodes bound TypeStart CompBy comp_head (comp_heads bound))

comp_void : (b : ℕ) → nat_eq b 0x60 ≡ false → nat_eq b 0x5F ≡ false → nat_eq b 0x5E ≡ false → Void CompBy b
unfolding CompBy
comp_void b one two three = row_void b 0x60 (Made FuncParts func_of) (Row 0x5F (Made (SpellsVector SpellsField) C.Struct) (Row 0x5E (Made SpellsField C.Array) NoRow)) one (row_void b 0x5F (Made (SpellsVector SpellsField) C.Struct) (Row 0x5E (Made SpellsField C.Array) NoRow) two (row_void b 0x5E (Made SpellsField C.Array) NoRow three (no_row_void Comp b)))

-- subtypes

abbrev SubParts : List ℕ × Comp → List ℕ → Type 0
SubParts = Both (SpellsVector SpellsU32) SpellsComp

unfoldable SubBy : ℕ → SubType → List ℕ → Type 0
SubBy = Row 0x50 (Made SubParts (sub_of false)) (Row 0x4F (Made SubParts (sub_of true)) (MadeBy CompBy bare_of))

declared_decodes : (bound : ℕ) (is_final : Bool) → Decodes bound (Made SubParts (sub_of is_final)) (declared_at is_final)
declared_decodes bound is_final = made_decodes bound SubParts (both_at (vector_at u32_at) comp_at) (sub_of is_final) (both_decodes bound (SpellsVector SpellsU32) SpellsComp (vector_at u32_at) comp_at (vector_decodes bound SpellsU32 u32_at (u32_decodes bound Number)) (comp_decodes bound))

sub_heads : (bound : ℕ) → Heads bound SubBy sub_head
unfolding SubBy
sub_heads bound =
    row_heads bound 0x50 (Made SubParts (sub_of false)) (declared_at false) (Row 0x4F (Made SubParts (sub_of true)) (MadeBy CompBy bare_of)) (λ left c. cond (nat_eq c 0x4F) (declared_at true) (made_at bare_of (comp_head left c)))
    (declared_decodes bound false)
    (row_heads bound 0x4F (Made SubParts (sub_of true)) (declared_at true) (MadeBy CompBy bare_of) (λ left c. made_at bare_of (comp_head left c))
    (declared_decodes bound true)
    (made_heads bound CompBy comp_head bare_of (comp_heads bound)))

declared_to : (is_final : Bool) (c : ℕ) (ty : SubType) (back text : List ℕ) → text ≡ c ∷ back → c ≡ final_byte is_final → Made SubParts (sub_of is_final) ty back → SpellsSub ty text
declared_to is_final c ty back text whole is h = let P : SubType → Type 0 = λ x. SpellsSub x text in subst P h.makes (inl (fixed (final_byte is_final) c (SubParts h.value) back text whole is h.spelled))

sub_to_by : (c : ℕ) (ty : SubType) (back text : List ℕ) → text ≡ c ∷ back → SubBy c ty back → SpellsSub ty text
unfolding SubBy Row MadeBy
sub_to_by c ty back text whole (inl h) = declared_to false c ty back text whole h.0 h.1
sub_to_by c ty back text whole (inr (isnt, inl h)) = declared_to true c ty back text whole h.0 h.1
sub_to_by c ty back text whole (inr (isnt, inr (isnt', h))) =
    let P : SubType → Type 0 = λ x. SpellsSub x text in
    subst P h.makes (inr (record { is_final = refl; supers = refl; comp = spells_comp h.value text (record { code = c; back = back; whole = whole; rest = h.spelled }) }))

spells_sub : (ty : SubType) (text : List ℕ) → Headed SubBy ty text → SpellsSub ty text
spells_sub ty text h = sub_to_by h.code ty h.back text h.whole h.rest

declared_back : (is_final : Bool) (supers : List ℕ) (comp : Comp) (text : List ℕ) → Begins (final_byte is_final) (Parts (SpellsVector SpellsU32 supers) (SpellsComp comp)) text → Headed SubBy (record { is_final = is_final; supers = supers; comp = comp }) text
unfolding SubBy Row
declared_back false supers comp text h = record { code = 0x50; back = h.back; whole = h.whole; rest = inl (refl, record { value = (supers, comp); makes = refl; spelled = h.rest }) }
declared_back true supers comp text h = record { code = 0x4F; back = h.back; whole = h.whole; rest = inr (refl, inl (refl, record { value = (supers, comp); makes = refl; spelled = h.rest })) }

bare_is : (ty : SubType) → ty.is_final ≡ true → ty.supers ≡ [] → bare_of ty.comp ≡ ty
bare_is ty f s =
    let at_final : Bool → SubType = λ b. record { is_final = b; supers = []; comp = ty.comp } in
    let at_supers : List ℕ → SubType = λ l. record { is_final = ty.is_final; supers = l; comp = ty.comp } in
    ap at_final (sym f) ∙ ap at_supers (sym s)

bare_back : (ty : SubType) (text : List ℕ) → bare_of ty.comp ≡ ty → Headed CompBy ty.comp text → Headed SubBy ty text
unfolding SubBy Row MadeBy
bare_back ty text same h = record {
  code = h.code;
  back = h.back;
  whole = h.whole;
  rest = inr (avoids 0x50 h.code CompBy ty.comp h.back (comp_void 0x50 refl refl refl) h.rest, inr (avoids 0x4F h.code CompBy ty.comp h.back (comp_void 0x4F refl refl refl) h.rest, record { value = ty.comp; makes = same; spelled = h.rest }));
}

sub_back : (ty : SubType) (text : List ℕ) → SpellsSub ty text → Headed SubBy ty text
sub_back ty text (inl h) = declared_back ty.is_final ty.supers ty.comp text h
sub_back ty text (inr h) = bare_back ty text (bare_is ty h.is_final h.supers) (comp_back ty.comp text h.comp)

sub_decodes : (bound : ℕ) → Decodes bound SpellsSub sub_at
sub_decodes bound = decodes_as bound (Headed SubBy) SpellsSub sub_at spells_sub sub_back (headed_decodes bound TypeStart SubBy sub_head (sub_heads bound))

sub_void : Void SubBy 0x4E
unfolding SubBy
sub_void = row_void 0x4E 0x50 (Made SubParts (sub_of false)) (Row 0x4F (Made SubParts (sub_of true)) (MadeBy CompBy bare_of)) refl (row_void 0x4E 0x4F (Made SubParts (sub_of true)) (MadeBy CompBy bare_of) refl (made_void 0x4E CompBy bare_of (comp_void 0x4E refl refl refl)))

-- recursion groups

unfoldable GroupBy : ℕ → RecGroup → List ℕ → Type 0
GroupBy = Row 0x4E (Made (SpellsVector SpellsSub) group_of) (MadeBy SubBy one_of)

group_heads : (bound : ℕ) → Heads bound GroupBy group_head
unfolding GroupBy
group_heads bound =
    row_heads bound 0x4E (Made (SpellsVector SpellsSub) group_of) (made_at group_of (vector_at sub_at)) (MadeBy SubBy one_of) (λ left c. made_at one_of (sub_head left c))
    (made_decodes bound (SpellsVector SpellsSub) (vector_at sub_at) group_of (vector_decodes bound SpellsSub sub_at (sub_decodes bound)))
    (made_heads bound SubBy sub_head one_of (sub_heads bound))

group_to_by : (c : ℕ) (group : RecGroup) (back text : List ℕ) → text ≡ c ∷ back → GroupBy c group back → SpellsGroup group text
unfolding GroupBy Row MadeBy
group_to_by c group back text whole (inl h) = let P : RecGroup → Type 0 = λ x. SpellsGroup x text in subst P h.1.makes (inl (fixed 0x4E c (SpellsVector SpellsSub h.1.value) back text whole h.0 h.1.spelled))
group_to_by c group back text whole (inr (isnt, h)) = let P : RecGroup → Type 0 = λ x. SpellsGroup x text in subst P h.makes (inr (spells_sub h.value text (record { code = c; back = back; whole = whole; rest = h.spelled })))

one_back : (types : List SubType) (text : List ℕ) → SpellsOne types text → Headed GroupBy (group_of types) text
unfolding GroupBy Row MadeBy
one_back [] text h = absurd h
one_back (ty ∷ []) text h =
    let s = sub_back ty text h in
    record { code = s.code; back = s.back; whole = s.whole; rest = inr (avoids 0x4E s.code SubBy ty s.back sub_void s.rest, record { value = ty; makes = refl; spelled = s.rest }) }
one_back (ty ∷ other ∷ more) text h = absurd h

group_back : (group : RecGroup) (text : List ℕ) → SpellsGroup group text → Headed GroupBy group text
unfolding GroupBy Row
group_back group text (inl h) = record { code = 0x4E; back = h.back; whole = h.whole; rest = inl (refl, record { value = group.types; makes = refl; spelled = h.rest }) }
group_back group text (inr h) = one_back group.types text h

pub group_decodes : (bound : ℕ) → Decodes bound SpellsGroup group_at
group_decodes bound = decodes_as bound (Headed GroupBy) SpellsGroup group_at (λ group text h. group_to_by h.code group h.back text h.whole h.rest) group_back (headed_decodes bound TypeStart GroupBy group_head (group_heads bound))

-- limits

abbrev Bounds : ℕ × ℕ → List ℕ → Type 0
Bounds = Both SpellsU32 SpellsU32

unfoldable LimitsBy : ℕ → Limits → List ℕ → Type 0
LimitsBy = Row 0x00 (Made SpellsU32 from_least) (Row 0x01 (Made Bounds between) NoRow)

limits_heads : (bound : ℕ) → Heads bound LimitsBy (rows_at LimitsFlag ((0x00, made_at from_least u32_at) ∷ (0x01, made_at between (both_at u32_at u32_at)) ∷ []))
unfolding LimitsBy
limits_heads bound =
    row_heads bound 0x00 (Made SpellsU32 from_least) (made_at from_least u32_at) (Row 0x01 (Made Bounds between) NoRow) (λ left c. cond (nat_eq c 0x01) (made_at between (both_at u32_at u32_at)) (λ other. refused LimitsFlag left))
    (made_decodes bound SpellsU32 u32_at from_least (u32_decodes bound Number))
    (row_heads bound 0x01 (Made Bounds between) (made_at between (both_at u32_at u32_at)) NoRow (λ left c other. refused LimitsFlag left)
    (made_decodes bound Bounds (both_at u32_at u32_at) between (both_decodes bound SpellsU32 SpellsU32 u32_at u32_at (u32_decodes bound Number) (u32_decodes bound Number)))
    (no_row_heads Limits bound LimitsFlag))

limits_to_by : (c : ℕ) (limits : Limits) (back text : List ℕ) → text ≡ c ∷ back → LimitsBy c limits back → SpellsLimits limits text
unfolding LimitsBy Row NoRow
limits_to_by c limits back text whole (inl h) = let P : Limits → Type 0 = λ x. SpellsLimits x text in subst P h.1.makes (fixed 0x00 c (SpellsU32 h.1.value) back text whole h.0 h.1.spelled)
limits_to_by c limits back text whole (inr (isnt, inl h)) = let P : Limits → Type 0 = λ x. SpellsLimits x text in subst P h.1.makes (fixed 0x01 c (Bounds h.1.value) back text whole h.0 h.1.spelled)
limits_to_by c limits back text whole (inr (isnt, inr (isnt', h))) = absurd h

range_back : (least : ℕ) (most : Option ℕ) (text : List ℕ) → SpellsRange least most text → Headed LimitsBy (record { least = least; most = most }) text
unfolding LimitsBy Row
range_back least None text h = record { code = 0x00; back = h.back; whole = h.whole; rest = inl (refl, record { value = least; makes = refl; spelled = h.rest }) }
range_back least (Some most) text h = record { code = 0x01; back = h.back; whole = h.whole; rest = inr (refl, inl (refl, record { value = (least, most); makes = refl; spelled = h.rest })) }

pub limits_decodes : (bound : ℕ) → Decodes bound SpellsLimits limits_at
limits_decodes bound = decodes_as bound (Headed LimitsBy) SpellsLimits limits_at (λ limits text h. limits_to_by h.code limits h.back text h.whole h.rest) (λ limits text h. range_back limits.least limits.most text h) (headed_decodes bound LimitsFlag LimitsBy (rows_at LimitsFlag ((0x00, made_at from_least u32_at) ∷ (0x01, made_at between (both_at u32_at u32_at)) ∷ [])) (limits_heads bound))
