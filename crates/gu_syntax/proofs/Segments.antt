-- Tables, segments and code entries: what is spelled is read, and what is read is spelled.
use Rattle.std.proofs.Common.{ℕ, ◌≤◌, List, [], ◌∷◌, ◌++◌, ◌≡◌, refl, ap, ◌∙◌, sym, subst, nat_eq, cond, inl, inr, Option, Some, None}
use Rattle.gu_types.specs.declared.types.RefType.{RefType}
use Rattle.gu_syntax.specs.declared.instr.Body.{Body}
use Rattle.gu_syntax.specs.declared.module.Elem.{Elem}
use Rattle.gu_syntax.specs.declared.module.ElemMode.{ElemMode}
use Rattle.gu_syntax.specs.declared.module.ElemMode.TheVariants as M
use Rattle.gu_syntax.specs.declared.module.Func.{Func}
use Rattle.gu_syntax.specs.declared.module.Items.{Items}
use Rattle.gu_syntax.specs.declared.module.Items.TheVariants as L
use Rattle.gu_syntax.specs.declared.module.Limits.{Limits}
use Rattle.gu_syntax.specs.declared.module.Seg.{Seg}
use Rattle.gu_syntax.specs.declared.module.SegMode.{SegMode}
use Rattle.gu_syntax.specs.declared.module.SegMode.TheVariants as G
use Rattle.gu_syntax.specs.declared.module.Table.{Table}
use Rattle.gu_syntax.specs.Parts.{Parts, Begins, SpellsU32, SpellsItems, SpellsVector, Both, Made, Numbered}
use Rattle.gu_syntax.specs.Types.{SpellsRef, SpellsVal, SpellsLimits}
use Rattle.gu_syntax.specs.Expressions.{SpellsBody, SpellsRun, merged, SpellsLocals, SpellsEntry, SpellsFunc}
use Rattle.gu_syntax.specs.Sections.{SpellsTableAs, SpellsTable, funcref, SpellsElemAs, SpellsElem, SpellsByte, SpellsSegAs, SpellsSeg}
use Rattle.gu_syntax.specs.Reading.{Fixed, Number, TypeStart, Read, got, refused, ◌>>=◌, made_at, both_at, u32_at, rows_at, after, vector_at, bytes_at, ref_head, ref_at, val_at, limits_at, body_at, table_of, filled_of, table_head, table_at, funcs_at, kind_funcs_at, exprs_at, elem_rows, elem_at, seg_rows, seg_at, run_at, locals_at, entry_of, entry_at, func_at}
use Rattle.gu_syntax.proofs.Decodes.{Decodes, continues_of, continues_chain, Heads, Headed, NumberedBy, numbered_decodes, Row, NoRow, MadeBy, made_heads, avoids, decodes_as, made_decodes, both_decodes, u32_decodes, after_decodes, headed_decodes, no_row_heads, row_heads, vector_decodes, sized_decodes}
use Rattle.gu_syntax.proofs.Types.{RefBy, ref_heads, spells_ref, ref_back, ref_void, ref_decodes, val_decodes, limits_decodes}
use Rattle.gu_syntax.proofs.Expressions.{body_decodes}
use Rattle.gu_syntax.proofs.SectionItems.{SpellsBytes, bytes_decodes}

-- tables

-- a first byte by which one thing is read, and another behind it
unfoldable BothBy : {X Y : Type 0} → (ℕ → X → List ℕ → Type 0) → (Y → List ℕ → Type 0) → ℕ → X × Y → List ℕ → Type 0
BothBy R Q c xy front = Parts (R c xy.0) (Q xy.1) front

both_heads : {X Y : Type 0} (bound : ℕ) (R : ℕ → X → List ℕ → Type 0) (Q : Y → List ℕ → Type 0) (d : ℕ → ℕ → List ℕ → Read X) (second : List ℕ → Read Y) → Heads bound R d → Decodes bound Q second → Heads bound (BothBy R Q) (λ left c. both_at (d left c) second)
unfolding Heads BothBy
both_heads {X} {Y} bound R Q d second heads e c = continues_chain bound (λ xy. Parts (R c xy.0) (Q xy.1)) (R c) (λ x. Made Q (λ y. (x, y))) (λ left. d left c) (λ left x rest. second rest >>= λ y behind. got (x, y) behind)
    (record {
      opens = λ xy text h. (xy.0, record { front = h.front; back = h.back; whole = h.whole; first = h.first; second = record { value = xy.1; makes = refl; spelled = h.second } });
      closes = λ x xy text p. let P : X × Y → Type 0 = λ z. Parts (R c z.0) (Q z.1) text in subst P p.second.makes (record { front = p.front; back = p.back; whole = p.whole; first = p.first; second = p.second.spelled });
    })
    (heads c)
    (λ x. continues_of bound (Made Q (λ y. (x, y))) (made_at (λ y. (x, y)) second) (made_decodes bound Q second (λ y. (x, y)) e))

abbrev FilledParts : RefType × (Limits × Body) → List ℕ → Type 0
FilledParts = Both SpellsRef (Both SpellsLimits SpellsBody)

unfoldable FilledTable : Table → List ℕ → Type 0
FilledTable table text = Begins 0x00 (Made FilledParts filled_of table) text

unfoldable TableBy : ℕ → Table → List ℕ → Type 0
TableBy = Row 0x40 FilledTable (MadeBy (BothBy RefBy SpellsLimits) table_of)

filled_decodes : (bound room : ℕ) → bound ≤ room → Decodes bound FilledTable (after Fixed 0x00 (made_at filled_of (both_at ref_at (both_at limits_at (body_at room)))))
unfolding FilledTable
filled_decodes bound room fits = after_decodes bound Fixed 0x00 (Made FilledParts filled_of) (made_at filled_of (both_at ref_at (both_at limits_at (body_at room)))) (made_decodes bound FilledParts (both_at ref_at (both_at limits_at (body_at room))) filled_of (both_decodes bound SpellsRef (Both SpellsLimits SpellsBody) ref_at (both_at limits_at (body_at room)) (ref_decodes bound) (both_decodes bound SpellsLimits SpellsBody limits_at (body_at room) (limits_decodes bound) (body_decodes bound room fits))))

table_heads : (bound room : ℕ) → bound ≤ room → Heads bound TableBy (table_head room)
unfolding TableBy
table_heads bound room fits =
    row_heads bound 0x40 FilledTable (after Fixed 0x00 (made_at filled_of (both_at ref_at (both_at limits_at (body_at room))))) (MadeBy (BothBy RefBy SpellsLimits) table_of) (λ left c. made_at table_of (both_at (ref_head left c) limits_at))
    (filled_decodes bound room fits)
    (made_heads bound (BothBy RefBy SpellsLimits) (λ left c. both_at (ref_head left c) limits_at) table_of (both_heads bound RefBy SpellsLimits ref_head limits_at (ref_heads bound) (limits_decodes bound)))

table_to_by : (c : ℕ) (x : Table) (back text : List ℕ) → text ≡ c ∷ back → TableBy c x back → SpellsTable x text
unfolding TableBy Row MadeBy BothBy FilledTable
table_to_by c x back text whole (inl h) =
    let P : Table → Type 0 = λ y. SpellsTable y text in
    let f = h.1 in
    subst P f.rest.makes (record { back = back; whole = whole ∙ ap (λ n. n ∷ back) h.0; rest = record { back = f.back; whole = f.whole; rest = f.rest.spelled } })
table_to_by c x back text whole (inr (isnt, h)) =
    let P : Table → Type 0 = λ y. SpellsTable y text in
    let p = h.spelled in
    subst P h.makes (record { front = c ∷ p.front; back = p.back; whole = whole ∙ ap (λ t. c ∷ t) p.whole; first = spells_ref h.value.0 (c ∷ p.front) (record { code = c; back = p.front; whole = refl; rest = p.first }); second = p.second })

plain_back : (elem : RefType) (limits : Limits) (front back text : List ℕ) → text ≡ front ++ back → Headed RefBy elem front → SpellsLimits limits back → Headed TableBy (table_of (elem, limits)) text
unfolding TableBy Row MadeBy BothBy
plain_back elem limits front back text whole h l = record {
  code = h.code;
  back = h.back ++ back;
  whole = whole ∙ ap (λ t. t ++ back) h.whole;
  rest = inr (avoids 0x40 h.code RefBy elem h.back (ref_void 0x40 refl refl refl) h.rest, record { value = (elem, limits); makes = refl; spelled = record { front = h.back; back = back; whole = refl; first = h.rest; second = l } });
}

table_back_as : (elem : RefType) (limits : Limits) (init : Option Body) (text : List ℕ) → SpellsTableAs elem limits init text → Headed TableBy (record { elem = elem; limits = limits; init = init }) text
unfolding TableBy Row FilledTable
table_back_as elem limits None text h = plain_back elem limits h.front h.back text h.whole (ref_back elem h.front h.first) h.second
table_back_as elem limits (Some init) text h = record { code = 0x40; back = h.back; whole = h.whole; rest = inl (refl, record { back = h.rest.back; whole = h.rest.whole; rest = record { value = (elem, (limits, init)); makes = refl; spelled = h.rest.rest } }) }

pub table_decodes : (bound room : ℕ) → bound ≤ room → Decodes bound SpellsTable (table_at room)
table_decodes bound room fits = decodes_as bound (Headed TableBy) SpellsTable (table_at room) (λ x text h. table_to_by h.code x h.back text h.whole h.rest) (λ x text h. table_back_as x.elem x.limits x.init text h) (headed_decodes bound TypeStart TableBy (table_head room) (table_heads bound room fits))

-- element segments

abbrev Funcs : List ℕ → List ℕ → Type 0
Funcs = SpellsVector SpellsU32

abbrev KindFuncs : List ℕ → List ℕ → Type 0
KindFuncs funcs text = Begins 0x00 (Funcs funcs) text

abbrev Exprs : List Body → List ℕ → Type 0
Exprs = SpellsVector SpellsBody

abbrev OffsetFuncs : Body × List ℕ → List ℕ → Type 0
OffsetFuncs = Both SpellsBody Funcs

abbrev TableFuncs : ℕ × (Body × List ℕ) → List ℕ → Type 0
TableFuncs = Both SpellsU32 (Both SpellsBody KindFuncs)

abbrev OffsetExprs : Body × List Body → List ℕ → Type 0
OffsetExprs = Both SpellsBody Exprs

abbrev TypedExprs : RefType × List Body → List ℕ → Type 0
TypedExprs = Both SpellsRef Exprs

abbrev TableExprs : ℕ × (Body × (RefType × List Body)) → List ℕ → Type 0
TableExprs = Both SpellsU32 (Both SpellsBody (Both SpellsRef Exprs))

abbrev first_funcs : Body × List ℕ → Elem
first_funcs x = record { mode = M.Active 0 x.0; items = L.Funcs x.1 }

abbrev passive_funcs : List ℕ → Elem
passive_funcs x = record { mode = M.Passive; items = L.Funcs x }

abbrev active_funcs_of : ℕ × (Body × List ℕ) → Elem
active_funcs_of x = record { mode = M.Active x.0 x.1.0; items = L.Funcs x.1.1 }

abbrev declared_funcs : List ℕ → Elem
declared_funcs x = record { mode = M.Declared; items = L.Funcs x }

abbrev first_exprs : Body × List Body → Elem
first_exprs x = record { mode = M.Active 0 x.0; items = L.Exprs funcref x.1 }

abbrev passive_exprs : RefType × List Body → Elem
passive_exprs x = record { mode = M.Passive; items = L.Exprs x.0 x.1 }

abbrev active_exprs_of : ℕ × (Body × (RefType × List Body)) → Elem
active_exprs_of x = record { mode = M.Active x.0 x.1.0; items = L.Exprs x.1.1.0 x.1.1.1 }

abbrev declared_exprs : RefType × List Body → Elem
declared_exprs x = record { mode = M.Declared; items = L.Exprs x.0 x.1 }

abbrev FromForm7 : ℕ → Elem → List ℕ → Type 0
FromForm7 = Row 7 (Made TypedExprs declared_exprs) NoRow

abbrev FromForm6 : ℕ → Elem → List ℕ → Type 0
FromForm6 = Row 6 (Made TableExprs active_exprs_of) FromForm7

abbrev FromForm5 : ℕ → Elem → List ℕ → Type 0
FromForm5 = Row 5 (Made TypedExprs passive_exprs) FromForm6

abbrev FromForm4 : ℕ → Elem → List ℕ → Type 0
FromForm4 = Row 4 (Made OffsetExprs first_exprs) FromForm5

abbrev FromForm3 : ℕ → Elem → List ℕ → Type 0
FromForm3 = Row 3 (Made KindFuncs declared_funcs) FromForm4

abbrev FromForm2 : ℕ → Elem → List ℕ → Type 0
FromForm2 = Row 2 (Made TableFuncs active_funcs_of) FromForm3

abbrev FromForm1 : ℕ → Elem → List ℕ → Type 0
FromForm1 = Row 1 (Made KindFuncs passive_funcs) FromForm2

unfoldable ElemBy : ℕ → Elem → List ℕ → Type 0
ElemBy = Row 0 (Made OffsetFuncs first_funcs) FromForm1

funcs_decode : (bound : ℕ) → Decodes bound Funcs funcs_at
funcs_decode bound = vector_decodes bound SpellsU32 u32_at (u32_decodes bound Number)

kind_funcs_decode : (bound : ℕ) → Decodes bound KindFuncs kind_funcs_at
kind_funcs_decode bound = after_decodes bound Fixed 0x00 Funcs funcs_at (funcs_decode bound)

exprs_decode : (bound room : ℕ) → bound ≤ room → Decodes bound Exprs (exprs_at room)
exprs_decode bound room fits = vector_decodes bound SpellsBody (body_at room) (body_decodes bound room fits)

elem_heads : (bound room : ℕ) → bound ≤ room → Heads bound ElemBy (rows_at Fixed (elem_rows room))
unfolding ElemBy
elem_heads bound room fits =
    let body = body_decodes bound room fits in
    let funcs = funcs_decode bound in
    let kinds = kind_funcs_decode bound in
    let exprs = exprs_decode bound room fits in
    let u32 = u32_decodes bound Number in
    let ref = ref_decodes bound in
    let a0 = made_at first_funcs (both_at (body_at room) funcs_at) in
    let a1 = made_at passive_funcs kind_funcs_at in
    let a2 = made_at active_funcs_of (both_at u32_at (both_at (body_at room) kind_funcs_at)) in
    let a3 = made_at declared_funcs kind_funcs_at in
    let a4 = made_at first_exprs (both_at (body_at room) (exprs_at room)) in
    let a5 = made_at passive_exprs (both_at ref_at (exprs_at room)) in
    let a6 = made_at active_exprs_of (both_at u32_at (both_at (body_at room) (both_at ref_at (exprs_at room)))) in
    let a7 = made_at declared_exprs (both_at ref_at (exprs_at room)) in
    let d8 : ℕ → ℕ → List ℕ → Read Elem = λ left c other. refused Fixed left in
    let d7 : ℕ → ℕ → List ℕ → Read Elem = λ left c. cond (nat_eq c 7) a7 (d8 left c) in
    let d6 : ℕ → ℕ → List ℕ → Read Elem = λ left c. cond (nat_eq c 6) a6 (d7 left c) in
    let d5 : ℕ → ℕ → List ℕ → Read Elem = λ left c. cond (nat_eq c 5) a5 (d6 left c) in
    let d4 : ℕ → ℕ → List ℕ → Read Elem = λ left c. cond (nat_eq c 4) a4 (d5 left c) in
    let d3 : ℕ → ℕ → List ℕ → Read Elem = λ left c. cond (nat_eq c 3) a3 (d4 left c) in
    let d2 : ℕ → ℕ → List ℕ → Read Elem = λ left c. cond (nat_eq c 2) a2 (d3 left c) in
    let d1 : ℕ → ℕ → List ℕ → Read Elem = λ left c. cond (nat_eq c 1) a1 (d2 left c) in
    row_heads bound 0 (Made OffsetFuncs first_funcs) a0 FromForm1 d1 (made_decodes bound OffsetFuncs (both_at (body_at room) funcs_at) first_funcs (both_decodes bound SpellsBody Funcs (body_at room) funcs_at body funcs))
    (row_heads bound 1 (Made KindFuncs passive_funcs) a1 FromForm2 d2 (made_decodes bound KindFuncs kind_funcs_at passive_funcs kinds)
    (row_heads bound 2 (Made TableFuncs active_funcs_of) a2 FromForm3 d3 (made_decodes bound TableFuncs (both_at u32_at (both_at (body_at room) kind_funcs_at)) active_funcs_of (both_decodes bound SpellsU32 (Both SpellsBody KindFuncs) u32_at (both_at (body_at room) kind_funcs_at) u32 (both_decodes bound SpellsBody KindFuncs (body_at room) kind_funcs_at body kinds)))
    (row_heads bound 3 (Made KindFuncs declared_funcs) a3 FromForm4 d4 (made_decodes bound KindFuncs kind_funcs_at declared_funcs kinds)
    (row_heads bound 4 (Made OffsetExprs first_exprs) a4 FromForm5 d5 (made_decodes bound OffsetExprs (both_at (body_at room) (exprs_at room)) first_exprs (both_decodes bound SpellsBody Exprs (body_at room) (exprs_at room) body exprs))
    (row_heads bound 5 (Made TypedExprs passive_exprs) a5 FromForm6 d6 (made_decodes bound TypedExprs (both_at ref_at (exprs_at room)) passive_exprs (both_decodes bound SpellsRef Exprs ref_at (exprs_at room) ref exprs))
    (row_heads bound 6 (Made TableExprs active_exprs_of) a6 FromForm7 d7 (made_decodes bound TableExprs (both_at u32_at (both_at (body_at room) (both_at ref_at (exprs_at room)))) active_exprs_of (both_decodes bound SpellsU32 (Both SpellsBody (Both SpellsRef Exprs)) u32_at (both_at (body_at room) (both_at ref_at (exprs_at room))) u32 (both_decodes bound SpellsBody (Both SpellsRef Exprs) (body_at room) (both_at ref_at (exprs_at room)) body (both_decodes bound SpellsRef Exprs ref_at (exprs_at room) ref exprs))))
    (row_heads bound 7 (Made TypedExprs declared_exprs) a7 NoRow d8 (made_decodes bound TypedExprs (both_at ref_at (exprs_at room)) declared_exprs (both_decodes bound SpellsRef Exprs ref_at (exprs_at room) ref exprs))
    (no_row_heads Elem bound Fixed))))))))

-- a number that is fixed
numbered : (n m : ℕ) (Q : List ℕ → Type 0) (front back text : List ℕ) → text ≡ front ++ back → SpellsU32 n front → n ≡ m → Q back → Numbered m Q text
numbered n m Q front back text whole u is h = record { front = front; back = back; whole = whole; first = (let P : ℕ → Type 0 = λ k. SpellsU32 k front in subst P is u); second = h }

elem_to_by : (n : ℕ) (x : Elem) (front back text : List ℕ) → text ≡ front ++ back → SpellsU32 n front → ElemBy n x back → SpellsElem x text
unfolding ElemBy Row NoRow
elem_to_by n x front back text whole u (inl h) = let P : Elem → Type 0 = λ y. SpellsElem y text in subst P h.1.makes (inl (refl, numbered n 0 (OffsetFuncs h.1.value) front back text whole u h.0 h.1.spelled))
elem_to_by n x front back text whole u (inr (i0, inl h)) = let P : Elem → Type 0 = λ y. SpellsElem y text in subst P h.1.makes (numbered n 1 (KindFuncs h.1.value) front back text whole u h.0 h.1.spelled)
elem_to_by n x front back text whole u (inr (i0, inr (i1, inl h))) = let P : Elem → Type 0 = λ y. SpellsElem y text in subst P h.1.makes (inr (numbered n 2 (TableFuncs h.1.value) front back text whole u h.0 h.1.spelled))
elem_to_by n x front back text whole u (inr (i0, inr (i1, inr (i2, inl h)))) = let P : Elem → Type 0 = λ y. SpellsElem y text in subst P h.1.makes (numbered n 3 (KindFuncs h.1.value) front back text whole u h.0 h.1.spelled)
elem_to_by n x front back text whole u (inr (i0, inr (i1, inr (i2, inr (i3, inl h))))) = let P : Elem → Type 0 = λ y. SpellsElem y text in subst P h.1.makes (inl (refl, refl, numbered n 4 (OffsetExprs h.1.value) front back text whole u h.0 h.1.spelled))
elem_to_by n x front back text whole u (inr (i0, inr (i1, inr (i2, inr (i3, inr (i4, inl h)))))) = let P : Elem → Type 0 = λ y. SpellsElem y text in subst P h.1.makes (numbered n 5 (TypedExprs h.1.value) front back text whole u h.0 h.1.spelled)
elem_to_by n x front back text whole u (inr (i0, inr (i1, inr (i2, inr (i3, inr (i4, inr (i5, inl h))))))) = let P : Elem → Type 0 = λ y. SpellsElem y text in subst P h.1.makes (inr (numbered n 6 (TableExprs h.1.value) front back text whole u h.0 h.1.spelled))
elem_to_by n x front back text whole u (inr (i0, inr (i1, inr (i2, inr (i3, inr (i4, inr (i5, inr (i6, inl h)))))))) = let P : Elem → Type 0 = λ y. SpellsElem y text in subst P h.1.makes (numbered n 7 (TypedExprs h.1.value) front back text whole u h.0 h.1.spelled)
elem_to_by n x front back text whole u (inr (i0, inr (i1, inr (i2, inr (i3, inr (i4, inr (i5, inr (i6, inr (i7, h))))))))) = absurd h

elem_to : (x : Elem) (text : List ℕ) → NumberedBy ElemBy x text → SpellsElem x text
unfolding NumberedBy
elem_to x text h = elem_to_by h.0 x h.1.front h.1.back text h.1.whole h.1.first h.1.second

-- the number and what stands behind it
by_number : {X : Type 0} (R : ℕ → X → List ℕ → Type 0) (n : ℕ) (x : X) (Q : List ℕ → Type 0) (text : List ℕ) → ((back : List ℕ) → Q back → R n x back) → Numbered n Q text → NumberedBy R x text
unfolding NumberedBy
by_number R n x Q text f h = (n, record { front = h.front; back = h.back; whole = h.whole; first = h.first; second = f h.back h.second })

active_funcs : (table : ℕ) (offset : Body) (funcs : List ℕ) (text : List ℕ) → SpellsElemAs (M.Active table offset) (L.Funcs funcs) text → NumberedBy ElemBy (active_funcs_of (table, (offset, funcs))) text
unfolding ElemBy Row
active_funcs table offset funcs text (inl h) =
    let P : ℕ → Type 0 = λ n. NumberedBy ElemBy (active_funcs_of (n, (offset, funcs))) text in
    subst P (sym h.0) (by_number ElemBy 0 (first_funcs (offset, funcs)) (OffsetFuncs (offset, funcs)) text (λ back q. inl (refl, record { value = (offset, funcs); makes = refl; spelled = q })) h.1)
active_funcs table offset funcs text (inr h) = by_number ElemBy 2 (active_funcs_of (table, (offset, funcs))) (TableFuncs (table, (offset, funcs))) text (λ back q. inr (refl, inr (refl, inl (refl, record { value = (table, (offset, funcs)); makes = refl; spelled = q })))) h

active_exprs : (table : ℕ) (offset : Body) (ty : RefType) (exprs : List Body) (text : List ℕ) → SpellsElemAs (M.Active table offset) (L.Exprs ty exprs) text → NumberedBy ElemBy (active_exprs_of (table, (offset, (ty, exprs)))) text
unfolding ElemBy Row
active_exprs table offset ty exprs text (inl h) =
    let P : ℕ → Type 0 = λ n. NumberedBy ElemBy (active_exprs_of (n, (offset, (ty, exprs)))) text in
    let Q : RefType → Type 0 = λ r. NumberedBy ElemBy (active_exprs_of (0, (offset, (r, exprs)))) text in
    subst P (sym h.0) (subst Q (sym h.1) (by_number ElemBy 4 (first_exprs (offset, exprs)) (OffsetExprs (offset, exprs)) text (λ back q. inr (refl, inr (refl, inr (refl, inr (refl, inl (refl, record { value = (offset, exprs); makes = refl; spelled = q })))))) h.2))
active_exprs table offset ty exprs text (inr h) = by_number ElemBy 6 (active_exprs_of (table, (offset, (ty, exprs)))) (TableExprs (table, (offset, (ty, exprs)))) text (λ back q. inr (refl, inr (refl, inr (refl, inr (refl, inr (refl, inr (refl, inl (refl, record { value = (table, (offset, (ty, exprs))); makes = refl; spelled = q })))))))) h

elem_back_as : (mode : ElemMode) (items : Items) (text : List ℕ) → SpellsElemAs mode items text → NumberedBy ElemBy (record { mode = mode; items = items }) text
unfolding ElemBy Row
elem_back_as (M.Active table offset) (L.Funcs funcs) text h = active_funcs table offset funcs text h
elem_back_as M.Passive (L.Funcs funcs) text h = by_number ElemBy 1 (passive_funcs funcs) (KindFuncs funcs) text (λ back q. inr (refl, inl (refl, record { value = funcs; makes = refl; spelled = q }))) h
elem_back_as M.Declared (L.Funcs funcs) text h = by_number ElemBy 3 (declared_funcs funcs) (KindFuncs funcs) text (λ back q. inr (refl, inr (refl, inr (refl, inl (refl, record { value = funcs; makes = refl; spelled = q }))))) h
elem_back_as (M.Active table offset) (L.Exprs ty exprs) text h = active_exprs table offset ty exprs text h
elem_back_as M.Passive (L.Exprs ty exprs) text h = by_number ElemBy 5 (passive_exprs (ty, exprs)) (TypedExprs (ty, exprs)) text (λ back q. inr (refl, inr (refl, inr (refl, inr (refl, inr (refl, inl (refl, record { value = (ty, exprs); makes = refl; spelled = q }))))))) h
elem_back_as M.Declared (L.Exprs ty exprs) text h = by_number ElemBy 7 (declared_exprs (ty, exprs)) (TypedExprs (ty, exprs)) text (λ back q. inr (refl, inr (refl, inr (refl, inr (refl, inr (refl, inr (refl, inr (refl, inl (refl, record { value = (ty, exprs); makes = refl; spelled = q }))))))))) h

pub elem_decodes : (bound room : ℕ) → bound ≤ room → Decodes bound SpellsElem (elem_at room)
elem_decodes bound room fits = decodes_as bound (NumberedBy ElemBy) SpellsElem (elem_at room) elem_to (λ x text h. elem_back_as x.mode x.items text h) (numbered_decodes bound Fixed ElemBy (rows_at Fixed (elem_rows room)) (elem_heads bound room fits))

-- data segments

-- bytes are themselves
items_bytes : (bytes text : List ℕ) → SpellsItems SpellsByte bytes text → text ≡ bytes
items_bytes [] text h = h
items_bytes (b ∷ bytes) text h = h.whole ∙ ap (λ t. t ++ h.back) h.first ∙ ap (λ t. b ∷ t) (items_bytes bytes h.back h.second)

pub bytes_items : (bytes : List ℕ) → SpellsItems SpellsByte bytes bytes
bytes_items [] = refl
bytes_items (b ∷ bytes) = record { front = b ∷ []; back = bytes; whole = refl; first = refl; second = bytes_items bytes }

abbrev Vector : List ℕ → List ℕ → Type 0
Vector = SpellsVector SpellsByte

vector_to : (bytes text : List ℕ) → SpellsBytes bytes text → Vector bytes text
unfolding SpellsBytes
vector_to bytes text h = record { front = h.front; back = h.back; whole = h.whole; first = h.first; second = (let P : List ℕ → Type 0 = λ t. SpellsItems SpellsByte bytes t in subst P (sym h.second) (bytes_items bytes)) }

vector_back : (bytes text : List ℕ) → Vector bytes text → SpellsBytes bytes text
unfolding SpellsBytes
vector_back bytes text h = record { front = h.front; back = h.back; whole = h.whole; first = h.first; second = items_bytes bytes h.back h.second }

data_decode : (bound : ℕ) → Decodes bound Vector bytes_at
data_decode bound = decodes_as bound SpellsBytes Vector bytes_at vector_to vector_back (bytes_decodes bound)

abbrev OffsetBytes : Body × List ℕ → List ℕ → Type 0
OffsetBytes = Both SpellsBody Vector

abbrev MemoryBytes : ℕ × (Body × List ℕ) → List ℕ → Type 0
MemoryBytes = Both SpellsU32 (Both SpellsBody Vector)

abbrev first_bytes : Body × List ℕ → Seg
first_bytes x = record { mode = G.Active 0 x.0; bytes = x.1 }

abbrev passive_bytes : List ℕ → Seg
passive_bytes x = record { mode = G.Passive; bytes = x }

abbrev active_bytes : ℕ × (Body × List ℕ) → Seg
active_bytes x = record { mode = G.Active x.0 x.1.0; bytes = x.1.1 }

abbrev FromSegForm2 : ℕ → Seg → List ℕ → Type 0
FromSegForm2 = Row 2 (Made MemoryBytes active_bytes) NoRow

abbrev FromSegForm1 : ℕ → Seg → List ℕ → Type 0
FromSegForm1 = Row 1 (Made Vector passive_bytes) FromSegForm2

unfoldable SegBy : ℕ → Seg → List ℕ → Type 0
SegBy = Row 0 (Made OffsetBytes first_bytes) FromSegForm1

seg_heads : (bound room : ℕ) → bound ≤ room → Heads bound SegBy (rows_at Fixed (seg_rows room))
unfolding SegBy
seg_heads bound room fits =
    let body = body_decodes bound room fits in
    let bytes = data_decode bound in
    let a0 = made_at first_bytes (both_at (body_at room) bytes_at) in
    let a1 = made_at passive_bytes bytes_at in
    let a2 = made_at active_bytes (both_at u32_at (both_at (body_at room) bytes_at)) in
    let d3 : ℕ → ℕ → List ℕ → Read Seg = λ left c other. refused Fixed left in
    let d2 : ℕ → ℕ → List ℕ → Read Seg = λ left c. cond (nat_eq c 2) a2 (d3 left c) in
    let d1 : ℕ → ℕ → List ℕ → Read Seg = λ left c. cond (nat_eq c 1) a1 (d2 left c) in
    row_heads bound 0 (Made OffsetBytes first_bytes) a0 FromSegForm1 d1 (made_decodes bound OffsetBytes (both_at (body_at room) bytes_at) first_bytes (both_decodes bound SpellsBody Vector (body_at room) bytes_at body bytes))
    (row_heads bound 1 (Made Vector passive_bytes) a1 FromSegForm2 d2 (made_decodes bound Vector bytes_at passive_bytes bytes)
    (row_heads bound 2 (Made MemoryBytes active_bytes) a2 NoRow d3 (made_decodes bound MemoryBytes (both_at u32_at (both_at (body_at room) bytes_at)) active_bytes (both_decodes bound SpellsU32 (Both SpellsBody Vector) u32_at (both_at (body_at room) bytes_at) (u32_decodes bound Number) (both_decodes bound SpellsBody Vector (body_at room) bytes_at body bytes)))
    (no_row_heads Seg bound Fixed)))

seg_to_by : (n : ℕ) (x : Seg) (front back text : List ℕ) → text ≡ front ++ back → SpellsU32 n front → SegBy n x back → SpellsSeg x text
unfolding SegBy Row NoRow
seg_to_by n x front back text whole u (inl h) = let P : Seg → Type 0 = λ y. SpellsSeg y text in subst P h.1.makes (inl (refl, numbered n 0 (OffsetBytes h.1.value) front back text whole u h.0 h.1.spelled))
seg_to_by n x front back text whole u (inr (i0, inl h)) = let P : Seg → Type 0 = λ y. SpellsSeg y text in subst P h.1.makes (numbered n 1 (Vector h.1.value) front back text whole u h.0 h.1.spelled)
seg_to_by n x front back text whole u (inr (i0, inr (i1, inl h))) = let P : Seg → Type 0 = λ y. SpellsSeg y text in subst P h.1.makes (inr (numbered n 2 (MemoryBytes h.1.value) front back text whole u h.0 h.1.spelled))
seg_to_by n x front back text whole u (inr (i0, inr (i1, inr (i2, h)))) = absurd h

seg_to : (x : Seg) (text : List ℕ) → NumberedBy SegBy x text → SpellsSeg x text
unfolding NumberedBy
seg_to x text h = seg_to_by h.0 x h.1.front h.1.back text h.1.whole h.1.first h.1.second

seg_back_as : (mode : SegMode) (bytes text : List ℕ) → SpellsSegAs mode bytes text → NumberedBy SegBy (record { mode = mode; bytes = bytes }) text
unfolding SegBy Row
seg_back_as (G.Active memory offset) bytes text (inl h) =
    let P : ℕ → Type 0 = λ n. NumberedBy SegBy (active_bytes (n, (offset, bytes))) text in
    subst P (sym h.0) (by_number SegBy 0 (first_bytes (offset, bytes)) (OffsetBytes (offset, bytes)) text (λ back q. inl (refl, record { value = (offset, bytes); makes = refl; spelled = q })) h.1)
seg_back_as (G.Active memory offset) bytes text (inr h) = by_number SegBy 2 (active_bytes (memory, (offset, bytes))) (MemoryBytes (memory, (offset, bytes))) text (λ back q. inr (refl, inr (refl, inl (refl, record { value = (memory, (offset, bytes)); makes = refl; spelled = q })))) h
seg_back_as G.Passive bytes text h = by_number SegBy 1 (passive_bytes bytes) (Vector bytes) text (λ back q. inr (refl, inl (refl, record { value = bytes; makes = refl; spelled = q }))) h

pub seg_decodes : (bound room : ℕ) → bound ≤ room → Decodes bound SpellsSeg (seg_at room)
seg_decodes bound room fits = decodes_as bound (NumberedBy SegBy) SpellsSeg (seg_at room) seg_to (λ x text h. seg_back_as x.mode x.bytes text h) (numbered_decodes bound Fixed SegBy (rows_at Fixed (seg_rows room)) (seg_heads bound room fits))

-- code entries

run_decodes : (bound : ℕ) → Decodes bound SpellsRun run_at
run_decodes bound = both_decodes bound SpellsU32 SpellsVal u32_at val_at (u32_decodes bound Number) (val_decodes bound)

locals_decode : (bound : ℕ) → Decodes bound SpellsLocals locals_at
locals_decode bound = made_decodes bound (SpellsVector SpellsRun) (vector_at run_at) merged (vector_decodes bound SpellsRun run_at (run_decodes bound))

pub entry_decodes : (bound room : ℕ) → bound ≤ room → Decodes bound SpellsEntry (entry_at room)
entry_decodes bound room fits = sized_decodes bound (Both SpellsLocals SpellsBody) (both_at locals_at (body_at room)) (both_decodes bound SpellsLocals SpellsBody locals_at (body_at room) (locals_decode bound) (body_decodes bound room fits))

-- functions of one type

unfoldable pub FuncOf : ℕ → Func → List ℕ → Type 0
FuncOf ty func text = (func.ty ≡ ty) × SpellsFunc func text

func_to : (ty : ℕ) (func : Func) (text : List ℕ) → Made SpellsEntry (entry_of ty) func text → FuncOf ty func text
unfolding FuncOf
func_to ty func text h =
    let P : Func → Type 0 = λ f. (f.ty ≡ ty) × SpellsFunc f text in
    subst P h.makes (refl, h.spelled)

func_is : (ty : ℕ) (func : Func) → func.ty ≡ ty → entry_of ty (func.locals, func.body) ≡ func
func_is ty func e = let at : ℕ → Func = λ n. record { ty = n; locals = func.locals; body = func.body } in ap at (sym e)

func_back : (ty : ℕ) (func : Func) (text : List ℕ) → FuncOf ty func text → Made SpellsEntry (entry_of ty) func text
unfolding FuncOf
func_back ty func text h = record { value = (func.locals, func.body); makes = func_is ty func h.0; spelled = h.1 }

pub func_decodes : (bound room ty : ℕ) → bound ≤ room → Decodes bound (FuncOf ty) (func_at room ty)
func_decodes bound room ty fits = decodes_as bound (Made SpellsEntry (entry_of ty)) (FuncOf ty) (func_at room ty) (func_to ty) (func_back ty) (made_decodes bound SpellsEntry (entry_at room) (entry_of ty) (entry_decodes bound room fits))
