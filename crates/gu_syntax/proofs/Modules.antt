-- Modules of the whole format: what is spelled is read, and what is read is spelled.
use Rattle.std.proofs.Common.{ℕ, suc, ◌≤◌, ◌<◌, List, [], ◌∷◌, ◌++◌, ◌≡◌, refl, ap, ◌∙◌, sym, subst, length, arith, nat_eq, nat_lt, Bool, true, false, cond, inl, inr, Option, Some, None, map, length-append}
use Rattle.std.proofs.lemmas.Bool.{cases_Bool, cond-true, cond-false}
use Rattle.std.proofs.lemmas.List.{append-nil, length-map, nil_from_length}
use Rattle.gu_syntax.specs.declared.module.Elem.{Elem}
use Rattle.gu_syntax.specs.declared.module.Export.{Export}
use Rattle.gu_syntax.specs.declared.module.Func.{Func}
use Rattle.gu_syntax.specs.declared.module.Global.{Global}
use Rattle.gu_syntax.specs.declared.module.Limits.{Limits}
use Rattle.gu_syntax.specs.declared.module.Module.{Module}
use Rattle.gu_syntax.specs.declared.module.Seg.{Seg}
use Rattle.gu_syntax.specs.Parts.{Parts, Begins, SpellsU32, SpellsItems, SpellsVector, Both, Made, SpellsSome}
use Rattle.gu_syntax.specs.Module.{header, Custom, SpellsSection, SpellsList, counted, SpellsSegs, SpellsBodies, SpellsCount, SpellsTables, SpellsFuncs, SpellsImports, SpellsSections, Spells}
use Rattle.gu_syntax.specs.Types.{SpellsGroup, SpellsLimits}
use Rattle.gu_syntax.specs.Expressions.{SpellsFunc}
use Rattle.gu_syntax.specs.Sections.{SpellsImport, SpellsTypeIndex, SpellsTable, SpellsTag, SpellsGlobal, SpellsExport, SpellsElem, SpellsSeg}
use Rattle.gu_syntax.specs.Reading.{HeaderByte, Number, SectionId, Fault, Read, got, stops, refused, ◌>>=◌, made_at, both_at, then_at, u32_at, none_at, fixed_at, items_at, vector_at, group_at, limits_at, import_at, table_at, tag_at, global_at, export_at, elem_at, seg_at, func_at, entries_at, bodies_at, agrees, segs_at, customs_at, section_at, list_at, some, Late, late_at, Middle, middle_at, All, all_at, is_said, module_of, is_missing, is_due, end_at, sections_at, module_at}
use Rattle.gu_syntax.proofs.Takes.{Splits, is_eq, eq_is, not_below, below_not, shorter}
use Rattle.gu_syntax.proofs.Decodes.{Decodes, Continues, decodes_as, decodes_chain, decodes_then, Nothing, none_decodes, made_decodes, u32_decodes, after_decodes, Items, items_decode, vector_decodes, value_is, refused-got, got-stops, left_is, bind_got, bind_stops}
use Rattle.gu_syntax.proofs.Types.{group_decodes, limits_decodes}
use Rattle.gu_syntax.proofs.SectionItems.{import_decodes, tag_decodes, global_decodes, export_decodes}
use Rattle.gu_syntax.proofs.Segments.{table_decodes, elem_decodes, seg_decodes, FuncOf, func_decodes}
use Rattle.gu_syntax.proofs.Sections.{rank, Above, Stands, section_stands, DependsOn, then_stands, both_stands, customs_behind, customs_read, customs_stop}

-- code entries

abbrev indices : List Func → List ℕ
indices funcs = map (λ func. func.ty) funcs

unfoldable Entries : List ℕ → List Func → List ℕ → Type 0
Entries tys funcs text = (indices funcs ≡ tys) × SpellsItems SpellsFunc funcs text

same_head : (a b : ℕ) (xs ys : List ℕ) → a ∷ xs ≡ b ∷ ys → a ≡ b
same_head a b xs ys h = cc

same_tail : (a b : ℕ) (xs ys : List ℕ) → a ∷ xs ≡ b ∷ ys → xs ≡ ys
same_tail a b xs ys h = cc

no-cons : (a : ℕ) (xs : List ℕ) → [] ≡ a ∷ xs → ⊥
no-cons a xs h = cc

cons-no : (a : ℕ) (xs : List ℕ) → a ∷ xs ≡ [] → ⊥
cons-no a xs h = cc

no_entries : (funcs : List Func) (text : List ℕ) → Entries [] funcs text → Nothing [] funcs text
unfolding Entries Nothing
no_entries [] text h = (refl, h.1)
no_entries (func ∷ funcs) text h = absurd (cons-no func.ty (map (λ f. f.ty) funcs) h.0)

entries_none : (funcs : List Func) (text : List ℕ) → Nothing [] funcs text → Entries [] funcs text
unfolding Entries Nothing
entries_none funcs text h = subst (λ (fs : List Func). Entries [] fs text) h.0 (refl, h.1)

entries_open : (ty : ℕ) (tys : List ℕ) (funcs : List Func) (text : List ℕ) → Entries (ty ∷ tys) funcs text → (func : Func) × Parts (FuncOf ty func) (Made (Entries tys) (λ fs. func ∷ fs) funcs) text
unfolding Entries FuncOf
entries_open ty tys [] text h = absurd (no-cons ty tys h.0)
entries_open ty tys (func ∷ funcs) text h =
    let first = same_head func.ty ty (map (λ f. f.ty) funcs) tys h.0 in
    let later = same_tail func.ty ty (map (λ f. f.ty) funcs) tys h.0 in
    (func, record { front = h.1.front; back = h.1.back; whole = h.1.whole; first = (first, h.1.first); second = record { value = funcs; makes = refl; spelled = (later, h.1.second) } })

entries_close : (ty : ℕ) (tys : List ℕ) (func : Func) (funcs : List Func) (text : List ℕ) → Parts (FuncOf ty func) (Made (Entries tys) (λ fs. func ∷ fs) funcs) text → Entries (ty ∷ tys) funcs text
unfolding Entries FuncOf
entries_close ty tys func funcs text p =
    let P : List Func → Type 0 = λ fs. Entries (ty ∷ tys) fs text in
    let heads : ℕ → List ℕ = λ n. n ∷ map (λ (f : Func). f.ty) p.second.value in
    subst P p.second.makes (ap heads p.first.0 ∙ ap (λ (l : List ℕ). ty ∷ l) p.second.spelled.0, record { front = p.front; back = p.back; whole = p.whole; first = p.first.1; second = p.second.spelled.1 })

entries_decode : (bound room : ℕ) → bound ≤ room → (tys : List ℕ) → Decodes bound (Entries tys) (entries_at room tys)
entries_decode bound room fits [] = decodes_as bound (Nothing []) (Entries []) (none_at []) entries_none no_entries (none_decodes bound [])
entries_decode bound room fits (ty ∷ tys) = decodes_then bound (Entries (ty ∷ tys)) (FuncOf ty) (λ func. Made (Entries tys) (λ fs. func ∷ fs)) (func_at room ty) (λ func rest. entries_at room tys rest >>= λ funcs behind. got (func ∷ funcs) behind)
    (record { opens = entries_open ty tys; closes = entries_close ty tys })
    (func_decodes bound room ty fits)
    (λ func. made_decodes bound (Entries tys) (entries_at room tys) (λ fs. func ∷ fs) (entries_decode bound room fits tys))

-- what is read where a test holds
tested : {X : Type 0} (bound : ℕ) (test : Bool) (P : X → List ℕ → Type 0) (at : List ℕ → Read X) → Decodes bound P at → Continues bound (λ x front. (test ≡ true) × P x front) (λ left text. cond test (at text) (refused Number left))
tested {X} bound test P at d = record {
  again = λ left x front rest h low. cond-true test (at (front ++ rest)) (refused Number left) h.0 ∙ d.again x front rest h.1 low;
  taken = λ left text rest x h. elim (cases_Bool test) [
    | inl is ↦ (let t = d.taken text rest x (sym (cond-true test (at text) (refused Number left) is) ∙ h) in record { front = t.front; whole = t.whole; spells = (is, t.spells) })
    | inr isnt ↦ absurd (refused-got Number left x rest (sym (cond-false test (at text) (refused Number left) isnt) ∙ h))
  ];
  within = λ left text fault h room. elim (cases_Bool test) [
    | inl is ↦ (let w = d.within text fault (sym (cond-true test (at text) (refused Number left) is) ∙ h) in omega (arith, w, room))
    | inr isnt ↦ (let e = left_is {A = X} Number left fault (sym (cond-false test (at text) (refused Number left) isnt) ∙ h) in omega (arith, e))
  ];
}

unfoldable Bodies : List ℕ → List Func → List ℕ → Type 0
Bodies tys funcs text = (indices funcs ≡ tys) × SpellsVector SpellsFunc funcs text

as_many : (tys : List ℕ) (funcs : List Func) → indices funcs ≡ tys → length funcs ≡ length tys
as_many tys funcs e = sym (length-map funcs (λ func. func.ty)) ∙ ap length e

abbrev Counted : List ℕ → ℕ → List Func → List ℕ → Type 0
Counted tys count funcs front = (nat_eq count (length tys) ≡ true) × Entries tys funcs front

bodies_splits : (tys : List ℕ) → Splits (Bodies tys) SpellsU32 (Counted tys)
unfolding Bodies Entries
bodies_splits tys = record {
  opens = λ funcs text h. (length funcs, record { front = h.1.front; back = h.1.back; whole = h.1.whole; first = h.1.first; second = (eq_is (length funcs) (length tys) (as_many tys funcs h.0), (h.0, h.1.second)) });
  closes = λ n funcs text p.
      let P : ℕ → Type 0 = λ m. SpellsU32 m p.front in
      (p.second.1.0, record { front = p.front; back = p.back; whole = p.whole; first = subst P (is_eq n (length tys) p.second.0 ∙ sym (as_many tys funcs p.second.1.0)) p.first; second = p.second.1.1 });
}

bodies_decode : (bound room : ℕ) → bound ≤ room → (tys : List ℕ) → Decodes bound (Bodies tys) (bodies_at room tys)
bodies_decode bound room fits tys = decodes_chain bound (Bodies tys) SpellsU32 (Counted tys) u32_at (λ left count rest. cond (nat_eq count (length tys)) (entries_at room tys rest) (refused Number left)) (bodies_splits tys) (u32_decodes bound Number) (λ count. tested bound (nat_eq count (length tys)) (Entries tys) (entries_at room tys) (entries_decode bound room fits tys))

-- data segments, whose number may have been said

unfoldable SegsOf : Option ℕ → List Seg → List ℕ → Type 0
SegsOf said segs text = (agrees said (length segs) ≡ true) × SpellsVector SpellsSeg segs text

abbrev Agreed : Option ℕ → ℕ → List Seg → List ℕ → Type 0
Agreed said count segs front = (agrees said count ≡ true) × Items SpellsSeg count segs front

segs_splits : (said : Option ℕ) → Splits (SegsOf said) SpellsU32 (Agreed said)
unfolding SegsOf Items
segs_splits said = record {
  opens = λ segs text h. (length segs, record { front = h.1.front; back = h.1.back; whole = h.1.whole; first = h.1.first; second = (h.0, (refl, h.1.second)) });
  closes = λ n segs text p.
      let P : ℕ → Type 0 = λ m. SpellsU32 m p.front in
      let Q : ℕ → Type 0 = λ m. agrees said m ≡ true in
      let same : n ≡ length segs = sym p.second.1.0 in
      (subst Q same p.second.0, record { front = p.front; back = p.back; whole = p.whole; first = subst P same p.first; second = p.second.1.1 });
}

segs_decode : (bound room : ℕ) → bound ≤ room → (said : Option ℕ) → Decodes bound (SegsOf said) (segs_at room said)
segs_decode bound room fits said = decodes_chain bound (SegsOf said) SpellsU32 (Agreed said) u32_at (λ left count rest. cond (agrees said count) (items_at (seg_at room) count rest) (refused Number left)) (segs_splits said) (u32_decodes bound Number) (λ count. tested bound (agrees said count) (Items SpellsSeg count) (items_at (seg_at room) count) (items_decode bound SpellsSeg (seg_at room) (seg_decodes bound room fits) count))

-- a number that is there

some_to : (x : Option ℕ) (text : List ℕ) → Made SpellsU32 some x text → SpellsSome x text
some_to x text h = let P : Option ℕ → Type 0 = λ o. SpellsSome o text in subst P h.makes h.spelled

some_back : (x : Option ℕ) (text : List ℕ) → SpellsSome x text → Made SpellsU32 some x text
some_back None text h = absurd h
some_back (Some n) text h = record { value = n; makes = refl; spelled = h }

some_decodes : (bound : ℕ) → Decodes bound SpellsSome (made_at some u32_at)
some_decodes bound = decodes_as bound (Made SpellsU32 some) SpellsSome (made_at some u32_at) some_to some_back (made_decodes bound SpellsU32 u32_at some (u32_decodes bound Number))

-- all sections

list_stands : {X : Type 0} (bound id low place : ℕ) (P : X → List ℕ → Type 0) (item : List ℕ → Read X) → rank id ≡ place → low < place → Decodes bound P item → Decodes 0 P item → Stands bound low place (SpellsList id P) (list_at id item)
list_stands bound id low place P item is under d e = section_stands bound id low place [] (SpellsVector P) (vector_at item) is under (vector_decodes bound P item d) (vector_decodes 0 P item e)

unfoldable LateOf : List ℕ → Late → List ℕ → Type 0
LateOf tys = DependsOn (SpellsSection 12 None SpellsSome) (λ said. Both (SpellsSection 10 [] (Bodies tys)) (SpellsSection 11 [] (SegsOf said)))

late_stands : (bound room : ℕ) → bound ≤ room → (tys : List ℕ) → Stands bound 10 13 (LateOf tys) (late_at room tys)
unfolding LateOf
late_stands bound room fits tys = then_stands bound 10 11 13 (SpellsSection 12 None SpellsSome) (λ said. Both (SpellsSection 10 [] (Bodies tys)) (SpellsSection 11 [] (SegsOf said))) (section_at 12 None (made_at some u32_at)) (λ said. both_at (section_at 10 [] (bodies_at room tys)) (section_at 11 [] (segs_at room said)))
    (section_stands bound 12 10 11 None SpellsSome (made_at some u32_at) refl (omega arith) (some_decodes bound) (some_decodes 0))
    (λ said. both_stands bound 11 12 13 (SpellsSection 10 [] (Bodies tys)) (SpellsSection 11 [] (SegsOf said)) (section_at 10 [] (bodies_at room tys)) (section_at 11 [] (segs_at room said))
    (section_stands bound 10 11 12 [] (Bodies tys) (bodies_at room tys) refl (omega arith) (bodies_decode bound room fits tys) (bodies_decode 0 room (omega arith) tys))
    (section_stands bound 11 12 13 [] (SegsOf said) (segs_at room said) refl (omega arith) (segs_decode bound room fits said) (segs_decode 0 room (omega arith) said)))

abbrev Elems : List ℕ → List Elem × Late → List ℕ → Type 0
Elems tys = Both (SpellsList 9 SpellsElem) (LateOf tys)

abbrev Starts : List ℕ → Option ℕ × (List Elem × Late) → List ℕ → Type 0
Starts tys = Both (SpellsSection 8 None SpellsSome) (Elems tys)

abbrev Exports : List ℕ → List Export × (Option ℕ × (List Elem × Late)) → List ℕ → Type 0
Exports tys = Both (SpellsList 7 SpellsExport) (Starts tys)

abbrev Globals : List ℕ → List Global × (List Export × (Option ℕ × (List Elem × Late))) → List ℕ → Type 0
Globals tys = Both (SpellsList 6 SpellsGlobal) (Exports tys)

abbrev Tags : List ℕ → List ℕ × (List Global × (List Export × (Option ℕ × (List Elem × Late)))) → List ℕ → Type 0
Tags tys = Both (SpellsList 13 SpellsTag) (Globals tys)

abbrev Memories : List ℕ → List Limits × (List ℕ × (List Global × (List Export × (Option ℕ × (List Elem × Late))))) → List ℕ → Type 0
Memories tys = Both (SpellsList 5 SpellsLimits) (Tags tys)

abbrev MiddleOf : List ℕ → Middle → List ℕ → Type 0
MiddleOf tys = Both (SpellsList 4 SpellsTable) (Memories tys)

middle_stands : (bound room : ℕ) → bound ≤ room → (tys : List ℕ) → Stands bound 3 13 (MiddleOf tys) (middle_at room tys)
middle_stands bound room fits tys =
    let none : 0 ≤ room = omega arith in
    let a9 = both_at (list_at 9 (elem_at room)) (late_at room tys) in
    let a8 = both_at (section_at 8 None (made_at some u32_at)) a9 in
    let a7 = both_at (list_at 7 export_at) a8 in
    let a6 = both_at (list_at 6 (global_at room)) a7 in
    let a13 = both_at (list_at 13 tag_at) a6 in
    let a5 = both_at (list_at 5 limits_at) a13 in
    both_stands bound 3 4 13 (SpellsList 4 SpellsTable) (Memories tys) (list_at 4 (table_at room)) a5 (list_stands bound 4 3 4 SpellsTable (table_at room) refl (omega arith) (table_decodes bound room fits) (table_decodes 0 room none))
    (both_stands bound 4 5 13 (SpellsList 5 SpellsLimits) (Tags tys) (list_at 5 limits_at) a13 (list_stands bound 5 4 5 SpellsLimits limits_at refl (omega arith) (limits_decodes bound) (limits_decodes 0))
    (both_stands bound 5 6 13 (SpellsList 13 SpellsTag) (Globals tys) (list_at 13 tag_at) a6 (list_stands bound 13 5 6 SpellsTag tag_at refl (omega arith) (tag_decodes bound) (tag_decodes 0))
    (both_stands bound 6 7 13 (SpellsList 6 SpellsGlobal) (Exports tys) (list_at 6 (global_at room)) a7 (list_stands bound 6 6 7 SpellsGlobal (global_at room) refl (omega arith) (global_decodes bound room fits) (global_decodes 0 room none))
    (both_stands bound 7 8 13 (SpellsList 7 SpellsExport) (Starts tys) (list_at 7 export_at) a8 (list_stands bound 7 7 8 SpellsExport export_at refl (omega arith) (export_decodes bound) (export_decodes 0))
    (both_stands bound 8 9 13 (SpellsSection 8 None SpellsSome) (Elems tys) (section_at 8 None (made_at some u32_at)) a9 (section_stands bound 8 8 9 None SpellsSome (made_at some u32_at) refl (omega arith) (some_decodes bound) (some_decodes 0))
    (both_stands bound 9 10 13 (SpellsList 9 SpellsElem) (LateOf tys) (list_at 9 (elem_at room)) (late_at room tys) (list_stands bound 9 9 10 SpellsElem (elem_at room) refl (omega arith) (elem_decodes bound room fits) (elem_decodes 0 room none))
    (late_stands bound room fits tys)))))))

unfoldable WithFuncs : List ℕ × Middle → List ℕ → Type 0
WithFuncs = DependsOn (SpellsList 3 SpellsU32) MiddleOf

abbrev AllOf : All → List ℕ → Type 0
AllOf = Both (SpellsList 1 SpellsGroup) (Both (SpellsList 2 SpellsImport) WithFuncs)

all_stands : (bound room : ℕ) → bound ≤ room → Stands bound 0 13 AllOf (all_at room)
unfolding WithFuncs
all_stands bound room fits =
    let a3 = then_at (list_at 3 u32_at) (middle_at room) in
    both_stands bound 0 1 13 (SpellsList 1 SpellsGroup) (Both (SpellsList 2 SpellsImport) WithFuncs) (list_at 1 group_at) (both_at (list_at 2 import_at) a3) (list_stands bound 1 0 1 SpellsGroup group_at refl (omega arith) (group_decodes bound) (group_decodes 0))
    (both_stands bound 1 2 13 (SpellsList 2 SpellsImport) WithFuncs (list_at 2 import_at) a3 (list_stands bound 2 1 2 SpellsImport import_at refl (omega arith) (import_decodes bound) (import_decodes 0))
    (then_stands bound 2 3 13 (SpellsList 3 SpellsU32) MiddleOf (list_at 3 u32_at) (middle_at room) (list_stands bound 3 2 3 SpellsU32 u32_at refl (omega arith) (u32_decodes bound Number) (u32_decodes 0 Number))
    (middle_stands bound room fits)))

-- a section whose content another relation takes
section_as : {X : Type 0} (id : ℕ) (nothing : X) (C D : X → List ℕ → Type 0) (x : X) (text : List ℕ) → ((front : List ℕ) → C x front → D x front) → SpellsSection id nothing C x text → SpellsSection id nothing D x text
section_as id nothing C D x text f (inl none) = inl none
section_as id nothing C D x text f (inr there) =
    let s = there.rest.first in
    inr (record { back = there.back; whole = there.whole; rest = record { front = there.rest.front; back = there.rest.back; whole = there.rest.whole; first = record { size = s.size; content = s.content; whole = s.whole; counts = s.counts; inside = f s.content s.inside }; second = there.rest.second } })

-- parts of which others take the same
parts_as : (P Q P' Q' : List ℕ → Type 0) (text : List ℕ) → ((front : List ℕ) → P front → P' front) → ((back : List ℕ) → Q back → Q' back) → Parts P Q text → Parts P' Q' text
parts_as P Q P' Q' text f g p = record { front = p.front; back = p.back; whole = p.whole; first = f p.front p.first; second = g p.back p.second }

behind : (P Q Q' : List ℕ → Type 0) (text : List ℕ) → ((back : List ℕ) → Q back → Q' back) → Parts P Q text → Parts P Q' text
behind P Q Q' text g p = parts_as P Q P Q' text (λ front h. h) g p

chain_as : (A B C D E F G L L' : List ℕ → Type 0) (text : List ℕ) → ((back : List ℕ) → L back → L' back) → Parts A (Parts B (Parts C (Parts D (Parts E (Parts F (Parts G L)))))) text → Parts A (Parts B (Parts C (Parts D (Parts E (Parts F (Parts G L')))))) text
chain_as A B C D E F G L L' text g p =
    behind A (Parts B (Parts C (Parts D (Parts E (Parts F (Parts G L)))))) (Parts B (Parts C (Parts D (Parts E (Parts F (Parts G L')))))) text (λ t.
    behind B (Parts C (Parts D (Parts E (Parts F (Parts G L))))) (Parts C (Parts D (Parts E (Parts F (Parts G L'))))) t (λ t.
    behind C (Parts D (Parts E (Parts F (Parts G L)))) (Parts D (Parts E (Parts F (Parts G L')))) t (λ t.
    behind D (Parts E (Parts F (Parts G L))) (Parts E (Parts F (Parts G L'))) t (λ t.
    behind E (Parts F (Parts G L)) (Parts F (Parts G L')) t (λ t.
    behind F (Parts G L) (Parts G L') t (λ t.
    behind G L L' t g)))))) p

-- the function section, by the indices of types

items_indices : (funcs : List Func) (text : List ℕ) → SpellsItems SpellsTypeIndex funcs text → SpellsItems SpellsU32 (indices funcs) text
items_indices [] text h = h
items_indices (func ∷ funcs) text h = record { front = h.front; back = h.back; whole = h.whole; first = h.first; second = items_indices funcs h.back h.second }

indices_items : (funcs : List Func) (text : List ℕ) → SpellsItems SpellsU32 (indices funcs) text → SpellsItems SpellsTypeIndex funcs text
indices_items [] text h = h
indices_items (func ∷ funcs) text h = record { front = h.front; back = h.back; whole = h.whole; first = h.first; second = indices_items funcs h.back h.second }

no_funcs : (funcs : List Func) → indices funcs ≡ [] → funcs ≡ []
no_funcs [] h = refl
no_funcs (func ∷ funcs) h = absurd (cons-no func.ty (map (λ f. f.ty) funcs) h)

funcs_indices : (funcs : List Func) (text : List ℕ) → SpellsList 3 SpellsTypeIndex funcs text → SpellsList 3 SpellsU32 (indices funcs) text
funcs_indices funcs text (inl none) = inl (ap indices none.0, none.1)
funcs_indices funcs text (inr there) =
    let s = there.rest.first in
    let v = s.inside in
    let P : ℕ → Type 0 = λ n. SpellsU32 n v.front in
    inr (record { back = there.back; whole = there.whole; rest = record { front = there.rest.front; back = there.rest.back; whole = there.rest.whole; first = record { size = s.size; content = s.content; whole = s.whole; counts = s.counts; inside = record { front = v.front; back = v.back; whole = v.whole; first = subst P (as_many (indices funcs) funcs refl) v.first; second = items_indices funcs v.back v.second } }; second = there.rest.second } })

indices_funcs : (funcs : List Func) (text : List ℕ) → SpellsList 3 SpellsU32 (indices funcs) text → SpellsList 3 SpellsTypeIndex funcs text
indices_funcs funcs text (inl none) = inl (no_funcs funcs none.0, none.1)
indices_funcs funcs text (inr there) =
    let s = there.rest.first in
    let v = s.inside in
    let P : ℕ → Type 0 = λ n. SpellsU32 n v.front in
    inr (record { back = there.back; whole = there.whole; rest = record { front = there.rest.front; back = there.rest.back; whole = there.rest.whole; first = record { size = s.size; content = s.content; whole = s.whole; counts = s.counts; inside = record { front = v.front; back = v.back; whole = v.whole; first = subst P (sym (as_many (indices funcs) funcs refl)) v.first; second = indices_items funcs v.back v.second } }; second = there.rest.second } })

-- the sections of a module

late_of : Module → Late
late_of m = (counted m.has_count (length m.segs), (m.funcs, m.segs))

middle_of : Module → Middle
middle_of m = (m.tables, (m.memories, (m.tags, (m.globals, (m.exports, (m.start, (m.elems, late_of m)))))))

all_of : Module → All
all_of m = (m.types.groups, (m.imports, (indices m.funcs, middle_of m)))

agrees_counted : (b : Bool) (n : ℕ) → agrees (counted b n) n ≡ true
agrees_counted false n = refl
agrees_counted true n = eq_is n n refl

said_counted : (b : Bool) (n : ℕ) → is_said (counted b n) ≡ b
said_counted false n = refl
said_counted true n = refl

late_open : (m : Module) (text : List ℕ) → SpellsCount m text → LateOf (indices m.funcs) (late_of m) text
unfolding LateOf DependsOn Bodies SegsOf late_of
late_open m text h = behind (SpellsSection 12 None SpellsSome (counted m.has_count (length m.segs))) (SpellsBodies m) (Both (SpellsSection 10 [] (Bodies (indices m.funcs))) (SpellsSection 11 [] (SegsOf (counted m.has_count (length m.segs)))) (m.funcs, m.segs)) text (λ t.
    parts_as (SpellsList 10 SpellsFunc m.funcs) (SpellsSegs m) (SpellsSection 10 [] (Bodies (indices m.funcs)) m.funcs) (SpellsSection 11 [] (SegsOf (counted m.has_count (length m.segs))) m.segs) t
    (λ front. section_as 10 [] (SpellsVector SpellsFunc) (Bodies (indices m.funcs)) m.funcs front (λ content v. (refl, v)))
    (λ back. section_as 11 [] (SpellsVector SpellsSeg) (SegsOf (counted m.has_count (length m.segs))) m.segs back (λ content v. (agrees_counted m.has_count (length m.segs), v)))) h

all_open : (m : Module) (text : List ℕ) → SpellsSections m text → AllOf (all_of m) text
unfolding WithFuncs DependsOn all_of middle_of
all_open m text h = behind (SpellsList 1 SpellsGroup m.types.groups) (SpellsImports m) (Both (SpellsList 2 SpellsImport) WithFuncs (m.imports, (indices m.funcs, middle_of m))) text (λ t.
    behind (SpellsList 2 SpellsImport m.imports) (SpellsFuncs m) (WithFuncs (indices m.funcs, middle_of m)) t (λ t.
    parts_as (SpellsList 3 SpellsTypeIndex m.funcs) (SpellsTables m) (SpellsList 3 SpellsU32 (indices m.funcs)) (MiddleOf (indices m.funcs) (middle_of m)) t
    (funcs_indices m.funcs)
    (λ t. chain_as (SpellsList 4 SpellsTable m.tables) (SpellsList 5 SpellsLimits m.memories) (SpellsList 13 SpellsTag m.tags) (SpellsList 6 SpellsGlobal m.globals) (SpellsList 7 SpellsExport m.exports) (SpellsSection 8 None SpellsSome m.start) (SpellsList 9 SpellsElem m.elems) (SpellsCount m) (LateOf (indices m.funcs) (late_of m)) t (late_open m)))) h

all_due : (m : Module) → is_due (all_of m) ≡ false
unfolding all_of middle_of late_of
all_due m =
    let few = below_not (length m.funcs) (length (indices m.funcs)) (omega (arith, as_many (indices m.funcs) m.funcs refl)) in
    cond-false (nat_lt (length m.funcs) (length (indices m.funcs))) true (cond (agrees (counted m.has_count (length m.segs)) (length m.segs)) false true) few
    ∙ cond-true (agrees (counted m.has_count (length m.segs)) (length m.segs)) false true (agrees_counted m.has_count (length m.segs))

all_is : (m : Module) → module_of (all_of m) ≡ m
unfolding all_of middle_of late_of
all_is m =
    let at : Bool → Module = λ b. record { types = m.types; imports = m.imports; funcs = m.funcs; tables = m.tables; memories = m.memories; tags = m.tags; globals = m.globals; exports = m.exports; start = m.start; elems = m.elems; has_count = b; segs = m.segs } in
    ap at (said_counted m.has_count (length m.segs))

-- back from what is read

missing_funcs : (tys : List ℕ) (x : Late) → is_missing tys x ≡ false → nat_lt (length x.1.0) (length tys) ≡ false
missing_funcs tys x h = elim (cases_Bool (nat_lt (length x.1.0) (length tys))) [
  | inl is ↦ absurd (let e : true ≡ false = sym (cond-true (nat_lt (length x.1.0) (length tys)) true (cond (agrees x.0 (length x.1.1)) false true) is) ∙ h in let f : ⊥ = cc in f)
  | inr isnt ↦ isnt
]

missing_segs : (tys : List ℕ) (x : Late) → is_missing tys x ≡ false → agrees x.0 (length x.1.1) ≡ true
missing_segs tys x h = elim (cases_Bool (agrees x.0 (length x.1.1))) [
  | inl is ↦ is
  | inr isnt ↦ absurd (
      let e = sym (cond-false (nat_lt (length x.1.0) (length tys)) true (cond (agrees x.0 (length x.1.1)) false true) (missing_funcs tys x h)) ∙ h in
      let g : true ≡ false = sym (cond-false (agrees x.0 (length x.1.1)) false true isnt) ∙ e in
      let f : ⊥ = cc in f)
]

no_types : (tys : List ℕ) (funcs : List Func) → funcs ≡ [] → nat_lt (length funcs) (length tys) ≡ false → indices funcs ≡ tys
no_types tys funcs none due =
    let few = not_below (length funcs) (length tys) due in
    let zero_left : length tys ≡ 0 = omega (arith, few, ap length none) in
    ap indices none ∙ sym (nil_from_length tys zero_left)

all_types : (tys : List ℕ) (funcs : List Func) (text : List ℕ) → SpellsSection 10 [] (Bodies tys) funcs text → nat_lt (length funcs) (length tys) ≡ false → indices funcs ≡ tys
unfolding Bodies
all_types tys funcs text (inl none) due = no_types tys funcs none.0 due
all_types tys funcs text (inr there) due = there.rest.first.inside.0

said_is : (said : Option ℕ) (n : ℕ) → agrees said n ≡ true → said ≡ counted (is_said said) n
said_is None n h = refl
said_is (Some m) n h = ap some (sym (is_eq n m h))

late_close : (tys : List ℕ) (x : Late) (m : Module) (text : List ℕ) → m.funcs ≡ x.1.0 → m.segs ≡ x.1.1 → m.has_count ≡ is_said x.0 → is_missing tys x ≡ false → LateOf tys x text → SpellsCount m text
unfolding LateOf DependsOn Bodies SegsOf
late_close tys x m text funcs segs has h p =
    let same : x.0 ≡ counted m.has_count (length m.segs) = said_is x.0 (length x.1.1) (missing_segs tys x h) ∙ ap (λ b. counted b (length x.1.1)) (sym has) ∙ ap (λ (s : List Seg). counted m.has_count (length s)) (sym segs) in
    let P : Option ℕ → Type 0 = λ o. SpellsSection 12 None SpellsSome o p.front in
    let q = p.second in
    let F : List Func → Type 0 = λ fs. SpellsList 10 SpellsFunc fs q.front in
    let S : List Seg → Type 0 = λ ss. SpellsList 11 SpellsSeg ss q.back in
    record {
      front = p.front;
      back = p.back;
      whole = p.whole;
      first = subst P same p.first;
      second = record {
        front = q.front;
        back = q.back;
        whole = q.whole;
        first = subst F (sym funcs) (section_as 10 [] (Bodies tys) (SpellsVector SpellsFunc) x.1.0 q.front (λ content v. v.1) q.first);
        second = subst S (sym segs) (section_as 11 [] (SegsOf x.0) (SpellsVector SpellsSeg) x.1.1 q.back (λ content v. v.1) q.second);
      };
    }

late_types : (tys : List ℕ) (x : Late) (text : List ℕ) → is_missing tys x ≡ false → LateOf tys x text → indices x.1.0 ≡ tys
unfolding LateOf DependsOn
late_types tys x text h p = all_types tys x.1.0 p.second.front p.second.first (missing_funcs tys x h)

abbrev late_part : Middle → Late
late_part x = x.1.1.1.1.1.1.1

middle_types : (tys : List ℕ) (x : Middle) (text : List ℕ) → is_missing tys (late_part x) ≡ false → MiddleOf tys x text → indices (late_part x).1.0 ≡ tys
middle_types tys x text h p = let q = p.second.second.second.second.second.second in late_types tys (late_part x) q.back h q.second

all_close : (x : All) (text : List ℕ) → is_due x ≡ false → AllOf x text → SpellsSections (module_of x) text
unfolding WithFuncs DependsOn
all_close x text h p =
    let m = module_of x in
    let q = p.second.second in
    let tys = x.1.1.0 in
    let mid = x.1.1.1 in
    let same = middle_types tys mid q.back h q.second in
    let T : List ℕ → Type 0 = λ l. SpellsList 3 SpellsU32 l q.front in
    record {
      front = p.front;
      back = p.back;
      whole = p.whole;
      first = p.first;
      second = record {
        front = p.second.front;
        back = p.second.back;
        whole = p.second.whole;
        first = p.second.first;
        second = record {
          front = q.front;
          back = q.back;
          whole = q.whole;
          first = indices_funcs m.funcs q.front (subst T (sym same) q.first);
          second = chain_as (SpellsList 4 SpellsTable m.tables) (SpellsList 5 SpellsLimits m.memories) (SpellsList 13 SpellsTag m.tags) (SpellsList 6 SpellsGlobal m.globals) (SpellsList 7 SpellsExport m.exports) (SpellsSection 8 None SpellsSome m.start) (SpellsList 9 SpellsElem m.elems) (LateOf tys (late_part mid)) (SpellsCount m) q.back (λ t. late_close tys (late_part mid) m t refl refl refl h) q.second;
        };
      };
    }

-- the header

unfoldable FixedBytes : List ℕ → Unit {0} → List ℕ → Type 0
FixedBytes bytes u front = front ≡ bytes

unit_decodes : (bound : ℕ) → Decodes bound (λ y front. (tt ≡ y) × (front ≡ [])) (none_at {X = Unit {0}} tt)
unfolding Nothing
unit_decodes bound = none_decodes bound tt

fixed_decodes : (bound : ℕ) (bytes : List ℕ) → Decodes bound (FixedBytes bytes) (fixed_at HeaderByte bytes)
unfolding FixedBytes
fixed_decodes bound [] = decodes_as bound (λ y front. (tt ≡ y) × (front ≡ [])) (FixedBytes []) (none_at tt) (λ u front h. h.1) (λ u front h. (refl, h)) (unit_decodes bound)
fixed_decodes bound (b ∷ bytes) = decodes_as bound (λ u. Begins b (FixedBytes bytes u)) (FixedBytes (b ∷ bytes)) (fixed_at HeaderByte (b ∷ bytes))
    (λ u front h. h.whole ∙ ap (λ r. b ∷ r) h.rest)
    (λ u front h. record { back = bytes; whole = h; rest = refl })
    (after_decodes bound HeaderByte b (FixedBytes bytes) (fixed_at HeaderByte bytes) (fixed_decodes bound bytes))

-- modules

end_got : (due : Bool) (m n : Module) (text rest : List ℕ) → end_at due m text ≡ got n rest → (due ≡ false) × (m ≡ n) × (text ≡ [])
end_got due m n [] rest h = elim (cases_Bool due) [
  | inl is ↦ absurd (refused-got SectionId 0 n rest (sym (cond-true due (refused SectionId 0) (got m []) is) ∙ h))
  | inr isnt ↦ (isnt, value_is m n [] rest (sym (cond-false due (refused SectionId 0) (got m []) isnt) ∙ h), refl)
]
end_got due m n (b ∷ text) rest h = absurd (refused-got SectionId (length (b ∷ text)) n rest h)

end_stop : (due : Bool) (m : Module) (text : List ℕ) (fault : Fault) → end_at due m text ≡ stops fault → fault.left ≤ length text
end_stop due m [] fault h = elim (cases_Bool due) [
  | inl is ↦ (let e = left_is {A = Module} SectionId 0 fault (sym (cond-true due (refused SectionId 0) (got m []) is) ∙ h) in omega (arith, e))
  | inr isnt ↦ absurd (got-stops m [] fault (sym (cond-false due (refused SectionId 0) (got m []) isnt) ∙ h))
]
end_stop due m (b ∷ text) fault h = let e = left_is {A = Module} SectionId (length (b ∷ text)) fault h in omega (arith, e)

finish : All → List ℕ → Read Module
finish all rest = end_at (is_due all) (module_of all) rest

sections_again : (bound room : ℕ) → bound ≤ room → (m : Module) (text : List ℕ) → SpellsSections m text → length text < bound → sections_at room text ≡ got m []
unfolding finish
sections_again bound room fits m text h low =
    ap (sections_at room) (sym (append-nil text))
    ∙ ap (λ (r : Read All). r >>= finish) ((all_stands bound room fits).again (all_of m) text [] (all_open m text h) tt (omega (arith, low, length-append text [])))
    ∙ cond-false (is_due (all_of m)) (refused SectionId 0) (got (module_of (all_of m)) []) (all_due m)
    ∙ ap (λ n. got n []) (all_is m)

sections_read : (room : ℕ) (text rest : List ℕ) (m : Module) → sections_at room text ≡ got m rest → SpellsSections m text
unfolding finish
sections_read room text rest m h =
    let b = bind_got (all_at room text) finish m rest h in
    let e = end_got (is_due b.0) (module_of b.0) m b.1 rest b.3 in
    let t = (all_stands 0 room (omega arith)).taken text b.1 b.0 b.2 in
    let same : t.front ≡ text = sym (append-nil t.front) ∙ ap (λ r. t.front ++ r) (sym e.2) ∙ sym t.whole in
    let P : List ℕ → Type 0 = λ s. SpellsSections m s in
    let Q : Module → Type 0 = λ n. SpellsSections n t.front in
    subst P same (subst Q e.1 (all_close b.0 t.front e.0 t.spells))

sections_stop : (room : ℕ) (text : List ℕ) (fault : Fault) → sections_at room text ≡ stops fault → fault.left ≤ length text
unfolding finish
sections_stop room text fault h = elim (bind_stops (all_at room text) finish fault h) [
  | inl first ↦ (all_stands 0 room (omega arith)).within text fault first
  | inr b ↦ (
      let w = end_stop (is_due b.0) (module_of b.0) b.1 fault b.3 in
      let l = shorter (AllOf b.0) text b.1 ((all_stands 0 room (omega arith)).taken text b.1 b.0 b.2) in
      omega (arith, w, l))
]

sections_above : (m : Module) (text : List ℕ) → SpellsSections m text → Above 0 text
sections_above m text h =
    let none : 0 ≤ 0 = omega arith in
    let P : List ℕ → Type 0 = λ t. Above 0 t in
    subst P (append-nil text) ((all_stands 0 0 none).above (all_of m) text [] (all_open m text h) tt)

-- what is read behind the header
body : ℕ → Unit {0} → List ℕ → Read Module
body room start rest = customs_at rest >>= λ customs behind. sections_at room behind

after_customs : ℕ → List Custom → List ℕ → Read Module
after_customs room customs behind = sections_at room behind

-- a module is read from a text that spells it, where as many blocks may be open as the text has bytes
pub module_again : (text : List ℕ) (m : Module) → Spells text m → module_at (suc (length text)) text ≡ got m []
unfolding FixedBytes body after_customs
module_again text m h =
    let room = suc (length text) in
    let p = h.whole in
    let q = p.second in
    let cs = q.first in
    let size = length-append p.front p.back in
    let all : length text ≡ length (p.front ++ p.back) = ap length p.whole in
    let inner : length p.back ≡ length (q.front ++ q.back) = ap length q.whole in
    let sum = length-append q.front q.back in
    let self : room ≤ room = omega arith in
    ap (module_at room) p.whole
    ∙ ap (λ (r : Read (Unit {0})). r >>= body room) ((fixed_decodes room header).again tt p.front p.back p.first (omega (arith, all)))
    ∙ ap (body room tt) q.whole
    ∙ ap (λ (r : Read (List Custom)). r >>= after_customs room) (customs_behind room cs.customs q.front q.back cs.items (sections_above m q.back q.second) (omega (arith, all, size, inner)))
    ∙ sections_again room room self m q.back q.second (omega (arith, all, size, inner, sum))

-- what is read is spelled by the whole text
pub module_read : (room : ℕ) (text rest : List ℕ) (m : Module) → module_at room text ≡ got m rest → Spells text m
unfolding FixedBytes body after_customs
module_read room text rest m h =
    let b = bind_got (fixed_at HeaderByte header text) (body room) m rest h in
    let c = bind_got (customs_at b.1) (after_customs room) m rest b.3 in
    let t = (fixed_decodes 0 header).taken text b.1 b.0 b.2 in
    let u = customs_read b.1 c.1 c.0 c.2 in
    record { whole = record { front = t.front; back = b.1; whole = t.whole; first = t.spells; second = record { front = u.front; back = c.1; whole = u.whole; first = record { customs = c.0; items = u.spells }; second = sections_read room c.1 rest m c.3 } } }

-- reading stops within the text
pub module_within : (room : ℕ) (text : List ℕ) (fault : Fault) → module_at room text ≡ stops fault → fault.left ≤ length text
unfolding FixedBytes body after_customs
module_within room text fault h = elim (bind_stops (fixed_at HeaderByte header text) (body room) fault h) [
  | inl first ↦ (fixed_decodes 0 header).within text fault first
  | inr b ↦ (
      let l = shorter (FixedBytes header b.0) text b.1 ((fixed_decodes 0 header).taken text b.1 b.0 b.2) in
      elim (bind_stops (customs_at b.1) (after_customs room) fault b.3) [
        | inl second ↦ (let w = customs_stop b.1 fault second in omega (arith, w, l))
        | inr c ↦ (
            let u = customs_read b.1 c.1 c.0 c.2 in
            let w = sections_stop room c.1 fault c.3 in
            omega (arith, w, l, ap length u.whole, length-append u.front c.1))
      ])
]

-- a text spells at most one module
pub one_module : (text : List ℕ) (m n : Module) → Spells text m → Spells text n → m ≡ n
one_module text m n a b = value_is m n [] [] (sym (module_again text m a) ∙ module_again text n b)
