-- Names and the items of sections: what is spelled is read, and what is read is spelled.
use Rattle.std.proofs.Common.{ℕ, ◌≤◌, List, [], ◌∷◌, ◌++◌, ◌≡◌, refl, ap, ◌∙◌, sym, subst, length, arith, nat_eq, nat_lt, Bool, cond, inl, inr, take, drop, length-append}
use Rattle.std.specs.Str.{IsUtf8, is_utf8}
use Rattle.std.proofs.lemmas.Bool.{cases_Bool, cond-true, cond-false}
use Rattle.std.proofs.lemmas.List.{take-append-drop, length-take-le, append-nil}
use Rattle.std.proofs.lemmas.Str.{IsUtf8-from_is_utf8, is_utf8-from_IsUtf8}
use Rattle.std.proofs.Math.Seq.{take-append_seam, drop-append_seam}
use Rattle.gu_types.specs.declared.types.RefType.{RefType}
use Rattle.gu_types.specs.declared.types.ValType.{ValType}
use Rattle.gu_syntax.specs.declared.instr.Body.{Body}
use Rattle.gu_syntax.specs.declared.module.Desc.{Desc}
use Rattle.gu_syntax.specs.declared.module.Desc.TheVariants as D
use Rattle.gu_syntax.specs.declared.module.Export.{Export}
use Rattle.gu_syntax.specs.declared.module.Global.{Global}
use Rattle.gu_syntax.specs.declared.module.Import.{Import}
use Rattle.gu_syntax.specs.declared.module.Kind.{Kind}
use Rattle.gu_syntax.specs.declared.module.Kind.TheVariants as K
use Rattle.gu_syntax.specs.declared.module.Limits.{Limits}
use Rattle.gu_syntax.specs.Parts.{Parts, Begins, SpellsU32, SpellsName, Both, Made}
use Rattle.gu_syntax.specs.Types.{SpellsRef, SpellsVal, SpellsMutable, SpellsLimits}
use Rattle.gu_syntax.specs.Expressions.{SpellsBody}
use Rattle.gu_syntax.specs.Sections.{SpellsDesc, SpellsImport, SpellsTag, SpellsGlobal, kind_byte, SpellsExport}
use Rattle.gu_syntax.specs.Reading.{Fixed, Number, Bytes, Fault, got, stops, refused, made_at, both_at, u32_as, u32_at, headed_at, rows_at, after, bytes_of, bytes_at, utf8_of, name_at, ref_at, val_at, mutable_at, limits_at, body_at, desc_rows, desc_at, import_of, import_at, tag_at, global_of, global_at, kind_index, kind_rows, export_of, export_at}
use Rattle.gu_syntax.proofs.Takes.{Takes, Splits, not_below, below_not}
use Rattle.gu_syntax.proofs.Decodes.{Decodes, Continues, decodes_chain, Heads, Headed, Row, NoRow, decodes_as, made_decodes, both_decodes, u32_decodes, after_decodes, headed_decodes, no_row_heads, row_heads, value_is, rest_is, refused-got, got-stops, left_is}
use Rattle.gu_syntax.proofs.Types.{fixed, ref_decodes, val_decodes, mutable_decodes, limits_decodes}
use Rattle.gu_syntax.proofs.Expressions.{body_decodes}

-- bytes with their count

unfoldable BytesOf : ℕ → List ℕ → List ℕ → Type 0
BytesOf size bytes front = (length front ≡ size) × (front ≡ bytes)

unfoldable pub SpellsBytes : List ℕ → List ℕ → Type 0
SpellsBytes bytes text = Parts (SpellsU32 (length bytes)) (λ back. back ≡ bytes) text

bytes_again : (left size : ℕ) (bytes front rest : List ℕ) → BytesOf size bytes front → bytes_of left size (front ++ rest) ≡ got bytes rest
unfolding BytesOf
bytes_again left size bytes front rest h =
    cond-false (nat_lt (length (front ++ rest)) size) (refused Bytes left) (got (take size (front ++ rest)) (drop size (front ++ rest))) (below_not (length (front ++ rest)) size (omega (arith, h.0, length-append front rest)))
    ∙ ap (λ n. got (take n (front ++ rest)) (drop n (front ++ rest))) (sym h.0)
    ∙ ap (λ t. got t (drop (length front) (front ++ rest))) (take-append_seam front rest)
    ∙ ap (λ t. got front t) (drop-append_seam front rest)
    ∙ ap (λ n. got n rest) h.1

bytes_taken : (left size : ℕ) (text rest bytes : List ℕ) → bytes_of left size text ≡ got bytes rest → Takes (BytesOf size bytes) text rest
unfolding BytesOf
bytes_taken left size text rest bytes h = elim (cases_Bool (nat_lt (length text) size)) [
  | inl short ↦ absurd (refused-got Bytes left bytes rest (sym (cond-true (nat_lt (length text) size) (refused Bytes left) (got (take size text) (drop size text)) short) ∙ h))
  | inr enough ↦ (
      let g = sym (cond-false (nat_lt (length text) size) (refused Bytes left) (got (take size text) (drop size text)) enough) ∙ h in
      record {
        front = take size text;
        whole = sym (take-append-drop size text) ∙ ap (λ r. take size text ++ r) (rest_is (take size text) bytes (drop size text) rest g);
        spells = (length-take-le size text (not_below (length text) size enough), value_is (take size text) bytes (drop size text) rest g);
      })
]

bytes_within : (left size : ℕ) (text : List ℕ) (fault : Fault) → bytes_of left size text ≡ stops fault → fault.left ≡ left
bytes_within left size text fault h = elim (cases_Bool (nat_lt (length text) size)) [
  | inl short ↦ sym (left_is {A = List ℕ} Bytes left fault (sym (cond-true (nat_lt (length text) size) (refused Bytes left) (got (take size text) (drop size text)) short) ∙ h))
  | inr enough ↦ absurd (got-stops (take size text) (drop size text) fault (sym (cond-false (nat_lt (length text) size) (refused Bytes left) (got (take size text) (drop size text)) enough) ∙ h))
]

bytes_splits : Splits SpellsBytes SpellsU32 BytesOf
unfolding BytesOf SpellsBytes
bytes_splits = record {
  opens = λ bytes text h. (length bytes, record { front = h.front; back = h.back; whole = h.whole; first = h.first; second = (ap length h.second, h.second) });
  closes = λ n bytes text p. record { front = p.front; back = p.back; whole = p.whole; first = subst (λ m. SpellsU32 m p.front) (sym p.second.0 ∙ ap length p.second.1) p.first; second = p.second.1 };
}

pub bytes_decodes : (bound : ℕ) → Decodes bound SpellsBytes bytes_at
bytes_decodes bound = decodes_chain bound SpellsBytes SpellsU32 BytesOf (u32_as Bytes) (λ left size rest. bytes_of left size rest) bytes_splits (u32_decodes bound Bytes) (λ size. record {
  again = λ left bytes front rest h low. bytes_again left size bytes front rest h;
  taken = λ left text rest bytes h. bytes_taken left size text rest bytes h;
  within = λ left text fault h room. let e = bytes_within left size text fault h in omega (arith, e);
})

-- names

unfoldable Utf8Of : List ℕ → List ℕ → List ℕ → Type 0
Utf8Of bytes name front = (bytes ≡ name) × (front ≡ []) × IsUtf8 bytes

utf8_continues : (bound : ℕ) (bytes : List ℕ) → Continues bound (Utf8Of bytes) (λ left rest. utf8_of left bytes rest)
unfolding Utf8Of
utf8_continues bound bytes = record {
  again = λ left name front rest h low.
      cond-true (is_utf8 bytes) (got bytes (front ++ rest)) (refused Bytes left) (is_utf8-from_IsUtf8 bytes h.2)
      ∙ ap (λ t. got bytes (t ++ rest)) h.1
      ∙ ap (λ n. got n rest) h.0;
  taken = λ left text rest name h. elim (cases_Bool (is_utf8 bytes)) [
    | inl sound ↦ (
        let g = sym (cond-true (is_utf8 bytes) (got bytes text) (refused Bytes left) sound) ∙ h in
        record { front = []; whole = rest_is bytes name text rest g; spells = (value_is bytes name text rest g, refl, IsUtf8-from_is_utf8 bytes sound) })
    | inr unsound ↦ absurd (refused-got Bytes left name rest (sym (cond-false (is_utf8 bytes) (got bytes text) (refused Bytes left) unsound) ∙ h))
  ];
  within = λ left text fault h room. elim (cases_Bool (is_utf8 bytes)) [
    | inl sound ↦ absurd (got-stops bytes text fault (sym (cond-true (is_utf8 bytes) (got bytes text) (refused Bytes left) sound) ∙ h))
    | inr unsound ↦ (let e = left_is {A = List ℕ} Bytes left fault (sym (cond-false (is_utf8 bytes) (got bytes text) (refused Bytes left) unsound) ∙ h) in omega (arith, e))
  ];
}

name_close : (bytes name text : List ℕ) → Parts (SpellsBytes bytes) (Utf8Of bytes name) text → SpellsName name text
unfolding Utf8Of SpellsBytes
name_close bytes name text p =
    let same : p.front ≡ text = sym (append-nil p.front) ∙ ap (λ r. p.front ++ r) (sym p.second.1) ∙ sym p.whole in
    let P : List ℕ → Type 0 = λ n. SpellsName n text in
    let Q : List ℕ → Type 0 = λ t. Parts (SpellsU32 (length bytes)) (λ back. back ≡ bytes) t in
    subst P p.second.0 (record { utf8 = p.second.2; counted = subst Q same p.first })

name_splits : Splits SpellsName SpellsBytes Utf8Of
unfolding Utf8Of SpellsBytes
name_splits = record {
  opens = λ name text h. (name, record { front = text; back = []; whole = sym (append-nil text); first = h.counted; second = (refl, refl, h.utf8) });
  closes = name_close;
}

pub name_decodes : (bound : ℕ) → Decodes bound SpellsName name_at
name_decodes bound = decodes_chain bound SpellsName SpellsBytes Utf8Of bytes_at (λ left bytes rest. utf8_of left bytes rest) name_splits (bytes_decodes bound) (utf8_continues bound)

-- imports

abbrev TableParts : RefType × Limits → List ℕ → Type 0
TableParts = Both SpellsRef SpellsLimits

abbrev GlobalParts : ValType × Bool → List ℕ → Type 0
GlobalParts = Both SpellsVal SpellsMutable

table_desc : RefType × Limits → Desc
table_desc x = D.Table x.0 x.1

global_desc : ValType × Bool → Desc
global_desc x = D.Global x.0 x.1

abbrev SpellsTagType : ℕ → List ℕ → Type 0
SpellsTagType ty text = Begins 0x00 (SpellsU32 ty) text

unfoldable DescBy : ℕ → Desc → List ℕ → Type 0
DescBy = Row 0x00 (Made SpellsU32 D.Func) (Row 0x01 (Made TableParts table_desc) (Row 0x02 (Made SpellsLimits D.Memory) (Row 0x03 (Made GlobalParts global_desc) (Row 0x04 (Made SpellsTagType D.Tag) NoRow))))

desc_heads : (bound : ℕ) → Heads bound DescBy (rows_at Fixed desc_rows)
unfolding DescBy table_desc global_desc
desc_heads bound =
    row_heads bound 0x00 (Made SpellsU32 D.Func) (made_at D.Func u32_at) (Row 0x01 (Made TableParts table_desc) (Row 0x02 (Made SpellsLimits D.Memory) (Row 0x03 (Made GlobalParts global_desc) (Row 0x04 (Made SpellsTagType D.Tag) NoRow)))) (λ left c. cond (nat_eq c 0x01) (made_at table_desc (both_at ref_at limits_at)) (cond (nat_eq c 0x02) (made_at D.Memory limits_at) (cond (nat_eq c 0x03) (made_at global_desc (both_at val_at mutable_at)) (cond (nat_eq c 0x04) (made_at D.Tag (after Fixed 0x00 u32_at)) (λ other. refused Fixed left)))))
    (made_decodes bound SpellsU32 u32_at D.Func (u32_decodes bound Number))
    (row_heads bound 0x01 (Made TableParts table_desc) (made_at table_desc (both_at ref_at limits_at)) (Row 0x02 (Made SpellsLimits D.Memory) (Row 0x03 (Made GlobalParts global_desc) (Row 0x04 (Made SpellsTagType D.Tag) NoRow))) (λ left c. cond (nat_eq c 0x02) (made_at D.Memory limits_at) (cond (nat_eq c 0x03) (made_at global_desc (both_at val_at mutable_at)) (cond (nat_eq c 0x04) (made_at D.Tag (after Fixed 0x00 u32_at)) (λ other. refused Fixed left))))
    (made_decodes bound TableParts (both_at ref_at limits_at) table_desc (both_decodes bound SpellsRef SpellsLimits ref_at limits_at (ref_decodes bound) (limits_decodes bound)))
    (row_heads bound 0x02 (Made SpellsLimits D.Memory) (made_at D.Memory limits_at) (Row 0x03 (Made GlobalParts global_desc) (Row 0x04 (Made SpellsTagType D.Tag) NoRow)) (λ left c. cond (nat_eq c 0x03) (made_at global_desc (both_at val_at mutable_at)) (cond (nat_eq c 0x04) (made_at D.Tag (after Fixed 0x00 u32_at)) (λ other. refused Fixed left)))
    (made_decodes bound SpellsLimits limits_at D.Memory (limits_decodes bound))
    (row_heads bound 0x03 (Made GlobalParts global_desc) (made_at global_desc (both_at val_at mutable_at)) (Row 0x04 (Made SpellsTagType D.Tag) NoRow) (λ left c. cond (nat_eq c 0x04) (made_at D.Tag (after Fixed 0x00 u32_at)) (λ other. refused Fixed left))
    (made_decodes bound GlobalParts (both_at val_at mutable_at) global_desc (both_decodes bound SpellsVal SpellsMutable val_at mutable_at (val_decodes bound) (mutable_decodes bound)))
    (row_heads bound 0x04 (Made SpellsTagType D.Tag) (made_at D.Tag (after Fixed 0x00 u32_at)) NoRow (λ left c other. refused Fixed left)
    (made_decodes bound SpellsTagType (after Fixed 0x00 u32_at) D.Tag (after_decodes bound Fixed 0x00 SpellsU32 u32_at (u32_decodes bound Number)))
    (no_row_heads Desc bound Fixed)))))

desc_to_by : (c : ℕ) (x : Desc) (back text : List ℕ) → text ≡ c ∷ back → DescBy c x back → SpellsDesc x text
unfolding DescBy Row NoRow table_desc global_desc
desc_to_by c x back text whole (inl h) = let P : Desc → Type 0 = λ y. SpellsDesc y text in subst P h.1.makes (fixed 0x00 c (SpellsU32 h.1.value) back text whole h.0 h.1.spelled)
desc_to_by c x back text whole (inr (i0, inl h)) = let P : Desc → Type 0 = λ y. SpellsDesc y text in subst P h.1.makes (fixed 0x01 c (TableParts h.1.value) back text whole h.0 h.1.spelled)
desc_to_by c x back text whole (inr (i0, inr (i1, inl h))) = let P : Desc → Type 0 = λ y. SpellsDesc y text in subst P h.1.makes (fixed 0x02 c (SpellsLimits h.1.value) back text whole h.0 h.1.spelled)
desc_to_by c x back text whole (inr (i0, inr (i1, inr (i2, inl h)))) = let P : Desc → Type 0 = λ y. SpellsDesc y text in subst P h.1.makes (fixed 0x03 c (GlobalParts h.1.value) back text whole h.0 h.1.spelled)
desc_to_by c x back text whole (inr (i0, inr (i1, inr (i2, inr (i3, inl h))))) = let P : Desc → Type 0 = λ y. SpellsDesc y text in subst P h.1.makes (fixed 0x04 c (SpellsTagType h.1.value) back text whole h.0 h.1.spelled)
desc_to_by c x back text whole (inr (i0, inr (i1, inr (i2, inr (i3, inr (i4, h)))))) = absurd h

desc_back : (x : Desc) (text : List ℕ) → SpellsDesc x text → Headed DescBy x text
unfolding DescBy Row table_desc global_desc
desc_back (D.Func ty) text h = record { code = 0x00; back = h.back; whole = h.whole; rest = inl (refl, record { value = ty; makes = refl; spelled = h.rest }) }
desc_back (D.Table elem limits) text h = record { code = 0x01; back = h.back; whole = h.whole; rest = inr (refl, inl (refl, record { value = (elem, limits); makes = refl; spelled = h.rest })) }
desc_back (D.Memory limits) text h = record { code = 0x02; back = h.back; whole = h.whole; rest = inr (refl, inr (refl, inl (refl, record { value = limits; makes = refl; spelled = h.rest }))) }
desc_back (D.Global ty mutable) text h = record { code = 0x03; back = h.back; whole = h.whole; rest = inr (refl, inr (refl, inr (refl, inl (refl, record { value = (ty, mutable); makes = refl; spelled = h.rest })))) }
desc_back (D.Tag ty) text h = record { code = 0x04; back = h.back; whole = h.whole; rest = inr (refl, inr (refl, inr (refl, inr (refl, inl (refl, record { value = ty; makes = refl; spelled = h.rest }))))) }

desc_decodes : (bound : ℕ) → Decodes bound SpellsDesc desc_at
desc_decodes bound = decodes_as bound (Headed DescBy) SpellsDesc desc_at (λ x text h. desc_to_by h.code x h.back text h.whole h.rest) desc_back (headed_decodes bound Fixed DescBy (rows_at Fixed desc_rows) (desc_heads bound))

abbrev ImportParts : List ℕ × (List ℕ × Desc) → List ℕ → Type 0
ImportParts = Both SpellsName (Both SpellsName SpellsDesc)

import_to : (x : Import) (text : List ℕ) → Made ImportParts import_of x text → SpellsImport x text
import_to x text h = let P : Import → Type 0 = λ y. SpellsImport y text in subst P h.makes h.spelled

pub import_decodes : (bound : ℕ) → Decodes bound SpellsImport import_at
import_decodes bound = decodes_as bound (Made ImportParts import_of) SpellsImport import_at import_to (λ x text h. record { value = (x.«module», (x.name, x.desc)); makes = refl; spelled = h })
    (made_decodes bound ImportParts (both_at name_at (both_at name_at desc_at)) import_of (both_decodes bound SpellsName (Both SpellsName SpellsDesc) name_at (both_at name_at desc_at) (name_decodes bound) (both_decodes bound SpellsName SpellsDesc name_at desc_at (name_decodes bound) (desc_decodes bound))))

-- tags, globals and exports

pub tag_decodes : (bound : ℕ) → Decodes bound SpellsTag tag_at
tag_decodes bound = after_decodes bound Fixed 0x00 SpellsU32 u32_at (u32_decodes bound Number)

abbrev FilledGlobal : ValType × (Bool × Body) → List ℕ → Type 0
FilledGlobal = Both SpellsVal (Both SpellsMutable SpellsBody)

global_to : (x : Global) (text : List ℕ) → Made FilledGlobal global_of x text → SpellsGlobal x text
global_to x text h = let P : Global → Type 0 = λ y. SpellsGlobal y text in subst P h.makes h.spelled

pub global_decodes : (bound room : ℕ) → bound ≤ room → Decodes bound SpellsGlobal (global_at room)
global_decodes bound room fits = decodes_as bound (Made FilledGlobal global_of) SpellsGlobal (global_at room) global_to (λ x text h. record { value = (x.ty, (x.mutable, x.init)); makes = refl; spelled = h })
    (made_decodes bound FilledGlobal (both_at val_at (both_at mutable_at (body_at room))) global_of (both_decodes bound SpellsVal (Both SpellsMutable SpellsBody) val_at (both_at mutable_at (body_at room)) (val_decodes bound) (both_decodes bound SpellsMutable SpellsBody mutable_at (body_at room) (mutable_decodes bound) (body_decodes bound room fits))))

unfoldable KindBy : ℕ → Kind × ℕ → List ℕ → Type 0
KindBy = Row 0x00 (Made SpellsU32 (kind_index K.Func)) (Row 0x01 (Made SpellsU32 (kind_index K.Table)) (Row 0x02 (Made SpellsU32 (kind_index K.Memory)) (Row 0x03 (Made SpellsU32 (kind_index K.Global)) (Row 0x04 (Made SpellsU32 (kind_index K.Tag)) NoRow))))

kind_decodes : (bound : ℕ) (kind : Kind) → Decodes bound (Made SpellsU32 (kind_index kind)) (made_at (kind_index kind) u32_at)
kind_decodes bound kind = made_decodes bound SpellsU32 u32_at (kind_index kind) (u32_decodes bound Number)

kind_heads : (bound : ℕ) → Heads bound KindBy (rows_at Fixed kind_rows)
unfolding KindBy
kind_heads bound =
    row_heads bound 0x00 (Made SpellsU32 (kind_index K.Func)) (made_at (kind_index K.Func) u32_at) (Row 0x01 (Made SpellsU32 (kind_index K.Table)) (Row 0x02 (Made SpellsU32 (kind_index K.Memory)) (Row 0x03 (Made SpellsU32 (kind_index K.Global)) (Row 0x04 (Made SpellsU32 (kind_index K.Tag)) NoRow)))) (λ left c. cond (nat_eq c 0x01) (made_at (kind_index K.Table) u32_at) (cond (nat_eq c 0x02) (made_at (kind_index K.Memory) u32_at) (cond (nat_eq c 0x03) (made_at (kind_index K.Global) u32_at) (cond (nat_eq c 0x04) (made_at (kind_index K.Tag) u32_at) (λ other. refused Fixed left))))) (kind_decodes bound K.Func)
    (row_heads bound 0x01 (Made SpellsU32 (kind_index K.Table)) (made_at (kind_index K.Table) u32_at) (Row 0x02 (Made SpellsU32 (kind_index K.Memory)) (Row 0x03 (Made SpellsU32 (kind_index K.Global)) (Row 0x04 (Made SpellsU32 (kind_index K.Tag)) NoRow))) (λ left c. cond (nat_eq c 0x02) (made_at (kind_index K.Memory) u32_at) (cond (nat_eq c 0x03) (made_at (kind_index K.Global) u32_at) (cond (nat_eq c 0x04) (made_at (kind_index K.Tag) u32_at) (λ other. refused Fixed left)))) (kind_decodes bound K.Table)
    (row_heads bound 0x02 (Made SpellsU32 (kind_index K.Memory)) (made_at (kind_index K.Memory) u32_at) (Row 0x03 (Made SpellsU32 (kind_index K.Global)) (Row 0x04 (Made SpellsU32 (kind_index K.Tag)) NoRow)) (λ left c. cond (nat_eq c 0x03) (made_at (kind_index K.Global) u32_at) (cond (nat_eq c 0x04) (made_at (kind_index K.Tag) u32_at) (λ other. refused Fixed left))) (kind_decodes bound K.Memory)
    (row_heads bound 0x03 (Made SpellsU32 (kind_index K.Global)) (made_at (kind_index K.Global) u32_at) (Row 0x04 (Made SpellsU32 (kind_index K.Tag)) NoRow) (λ left c. cond (nat_eq c 0x04) (made_at (kind_index K.Tag) u32_at) (λ other. refused Fixed left)) (kind_decodes bound K.Global)
    (row_heads bound 0x04 (Made SpellsU32 (kind_index K.Tag)) (made_at (kind_index K.Tag) u32_at) NoRow (λ left c other. refused Fixed left) (kind_decodes bound K.Tag)
    (no_row_heads (Kind × ℕ) bound Fixed)))))

abbrev SpellsTarget : Kind × ℕ → List ℕ → Type 0
SpellsTarget x text = Begins (kind_byte x.0) (SpellsU32 x.1) text

target_to_of : (kind : Kind) (c : ℕ) (x : Kind × ℕ) (back text : List ℕ) → text ≡ c ∷ back → c ≡ kind_byte kind → Made SpellsU32 (kind_index kind) x back → SpellsTarget x text
target_to_of kind c x back text whole is h = let P : Kind × ℕ → Type 0 = λ y. SpellsTarget y text in subst P h.makes (fixed (kind_byte kind) c (SpellsU32 h.value) back text whole is h.spelled)

target_to_by : (c : ℕ) (x : Kind × ℕ) (back text : List ℕ) → text ≡ c ∷ back → KindBy c x back → SpellsTarget x text
unfolding KindBy Row NoRow
target_to_by c x back text whole (inl h) = target_to_of K.Func c x back text whole h.0 h.1
target_to_by c x back text whole (inr (i0, inl h)) = target_to_of K.Table c x back text whole h.0 h.1
target_to_by c x back text whole (inr (i0, inr (i1, inl h))) = target_to_of K.Memory c x back text whole h.0 h.1
target_to_by c x back text whole (inr (i0, inr (i1, inr (i2, inl h)))) = target_to_of K.Global c x back text whole h.0 h.1
target_to_by c x back text whole (inr (i0, inr (i1, inr (i2, inr (i3, inl h))))) = target_to_of K.Tag c x back text whole h.0 h.1
target_to_by c x back text whole (inr (i0, inr (i1, inr (i2, inr (i3, inr (i4, h)))))) = absurd h

target_back : (kind : Kind) (index : ℕ) (text : List ℕ) → SpellsTarget (kind, index) text → Headed KindBy (kind, index) text
unfolding KindBy Row
target_back K.Func index text h = record { code = 0x00; back = h.back; whole = h.whole; rest = inl (refl, record { value = index; makes = refl; spelled = h.rest }) }
target_back K.Table index text h = record { code = 0x01; back = h.back; whole = h.whole; rest = inr (refl, inl (refl, record { value = index; makes = refl; spelled = h.rest })) }
target_back K.Memory index text h = record { code = 0x02; back = h.back; whole = h.whole; rest = inr (refl, inr (refl, inl (refl, record { value = index; makes = refl; spelled = h.rest }))) }
target_back K.Global index text h = record { code = 0x03; back = h.back; whole = h.whole; rest = inr (refl, inr (refl, inr (refl, inl (refl, record { value = index; makes = refl; spelled = h.rest })))) }
target_back K.Tag index text h = record { code = 0x04; back = h.back; whole = h.whole; rest = inr (refl, inr (refl, inr (refl, inr (refl, inl (refl, record { value = index; makes = refl; spelled = h.rest }))))) }

target_decodes : (bound : ℕ) → Decodes bound SpellsTarget (headed_at Fixed (rows_at Fixed kind_rows))
target_decodes bound = decodes_as bound (Headed KindBy) SpellsTarget (headed_at Fixed (rows_at Fixed kind_rows)) (λ x text h. target_to_by h.code x h.back text h.whole h.rest) (λ x text h. target_back x.0 x.1 text h) (headed_decodes bound Fixed KindBy (rows_at Fixed kind_rows) (kind_heads bound))

export_to : (x : Export) (text : List ℕ) → Made (Both SpellsName SpellsTarget) export_of x text → SpellsExport x text
export_to x text h = let P : Export → Type 0 = λ y. SpellsExport y text in subst P h.makes h.spelled

pub export_decodes : (bound : ℕ) → Decodes bound SpellsExport export_at
export_decodes bound = decodes_as bound (Made (Both SpellsName SpellsTarget) export_of) SpellsExport export_at export_to (λ x text h. record { value = (x.name, (x.kind, x.index)); makes = refl; spelled = h })
    (made_decodes bound (Both SpellsName SpellsTarget) (both_at name_at (headed_at Fixed (rows_at Fixed kind_rows))) export_of (both_decodes bound SpellsName SpellsTarget name_at (headed_at Fixed (rows_at Fixed kind_rows)) (name_decodes bound) (target_decodes bound)))
