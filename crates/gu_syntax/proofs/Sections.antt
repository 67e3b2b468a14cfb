-- Sections in order, with custom sections behind them: what is spelled is read, and what is read is spelled.
use Rattle.std.proofs.Common.{ℕ, zero, suc, ◌≤◌, ◌<◌, List, [], ◌∷◌, ◌++◌, ◌≡◌, refl, ap, ◌∙◌, sym, subst, length, arith, nat_eq, false, inl, inr, append_assoc, length-append}
use Rattle.std.proofs.lemmas.Bool.{cases_Bool, cond-true, cond-false}
use Rattle.gu_syntax.specs.Parts.{Parts, Sized, SpellsItems, SpellsName, Both}
use Rattle.gu_syntax.specs.Instructions.{row_or}
use Rattle.gu_syntax.specs.Module.{Custom, SpellsCustom, SpellsSection}
use Rattle.gu_syntax.specs.Reading.{Fault, Read, got, stops, ◌>>=◌, made_at, both_at, then_at, sized_at, name_at, custom_of, rest_at, customs_of, customs_at, section_at}
use Rattle.gu_syntax.proofs.Takes.{Takes, is_eq, eq_is, shorter}
use Rattle.gu_syntax.proofs.Decodes.{Decodes, Fills, sized_fills, sized_decodes, value_is, rest_is, bind_got, bind_stops, got-stops}
use Rattle.gu_syntax.proofs.SectionItems.{name_decodes}

-- the place of a section in the order of sections, by its id
abbrev pub rank : ℕ → ℕ
rank id = row_or 14 ((0, 0) ∷ (1, 1) ∷ (2, 2) ∷ (3, 3) ∷ (4, 4) ∷ (5, 5) ∷ (13, 6) ∷ (6, 7) ∷ (7, 8) ∷ (8, 9) ∷ (9, 10) ∷ (12, 11) ∷ (10, 12) ∷ (11, 13) ∷ []) id

-- the text is empty, or begins with the id of a later section
abbrev pub Above : ℕ → List ℕ → Type 0
Above place [] = Unit {0}
Above place (b ∷ text) = place < rank b

pub above_lower : (low high : ℕ) (text : List ℕ) → low ≤ high → Above high text → Above low text
above_lower low high [] under h = tt
above_lower low high (b ∷ text) under h = omega (arith, under, h)

above_not : (place id b : ℕ) (text : List ℕ) → rank id ≡ place → Above place (b ∷ text) → nat_eq b id ≡ false
above_not place id b text is h = elim (cases_Bool (nat_eq b id)) [
  | inl same ↦ absurd (let e : rank b ≡ rank id = ap rank (is_eq b id same) in let f : place < rank b = h in omega (arith, e, is, f))
  | inr isnt ↦ isnt
]

-- custom sections

abbrev Inside : Custom → List ℕ → Type 0
Inside custom text = Parts (SpellsName custom.name) (λ back. back ≡ custom.bytes) text

inside_at : List ℕ → Read Custom
inside_at text = made_at custom_of (both_at name_at rest_at) text

pair_at : List ℕ → List ℕ → Read (List ℕ × List ℕ)
pair_at name rest = rest_at rest >>= λ bytes behind. got (name, bytes) behind

inside_again : (bound : ℕ) (custom : Custom) (text : List ℕ) → Inside custom text → length text < bound → inside_at text ≡ got custom []
unfolding inside_at pair_at
inside_again bound custom text h low =
    ap inside_at h.whole
    ∙ ap (λ (r : Read (List ℕ)). (r >>= pair_at) >>= λ x behind. got (custom_of x) behind) ((name_decodes bound).again custom.name h.front h.back h.first (omega (arith, low, ap length h.whole)))
    ∙ ap (λ (t : List ℕ). got (custom_of (custom.name, t)) []) h.second

inside_got : (text rest : List ℕ) (custom : Custom) → inside_at text ≡ got custom rest → (rest ≡ []) × Inside custom text
unfolding inside_at pair_at
inside_got text rest custom h =
    let b = bind_got (name_at text >>= pair_at) (λ x behind. got (custom_of x) behind) custom rest h in
    let c = bind_got (name_at text) pair_at b.0 b.1 b.2 in
    let t = (name_decodes 0).taken text c.1 c.0 c.2 in
    let value : (c.0, c.1) ≡ b.0 = value_is (c.0, c.1) b.0 [] b.1 c.3 in
    let behind : [] ≡ b.1 = rest_is (c.0, c.1) b.0 [] b.1 c.3 in
    let P : Custom → Type 0 = λ x. Inside x text in (
      sym (behind ∙ rest_is (custom_of b.0) custom b.1 rest b.3),
      subst P (ap custom_of value ∙ value_is (custom_of b.0) custom b.1 rest b.3) (record { front = t.front; back = c.1; whole = t.whole; first = t.spells; second = refl }),
    )

inside_within : (text : List ℕ) (fault : Fault) → inside_at text ≡ stops fault → fault.left ≤ length text
unfolding inside_at pair_at
inside_within text fault h = elim (bind_stops (name_at text >>= pair_at) (λ x behind. got (custom_of x) behind) fault h) [
  | inl first ↦ elim (bind_stops (name_at text) pair_at fault first) [
    | inl name ↦ (name_decodes 0).within text fault name
    | inr c ↦ absurd (got-stops (c.0, c.1) [] fault c.3)
  ]
  | inr b ↦ absurd (got-stops (custom_of b.0) b.1 fault b.3)
]

inside_fills : (bound : ℕ) → Fills bound Inside inside_at
inside_fills bound = record {
  again = inside_again bound;
  taken = λ text custom h. (inside_got text [] custom h).1;
  fewer = λ text rest custom h. let e = (inside_got text rest custom h).0 in omega (arith, ap length e);
  within = inside_within;
}

abbrev SizedCustom : Custom → List ℕ → Type 0
SizedCustom custom text = Sized (Inside custom) text

custom_decodes : (bound : ℕ) → Decodes bound SizedCustom (sized_at inside_at)
custom_decodes bound = sized_fills bound Inside inside_at (inside_fills bound)

-- what is read behind the id of a custom section
more_customs : ℕ → Custom → List ℕ → Read (List Custom)
more_customs fuel custom rest = customs_of fuel rest >>= λ customs behind. got (custom ∷ customs) behind

turn : (fuel : ℕ) (text : List ℕ) → customs_of (suc fuel) (0 ∷ text) ≡ (sized_at inside_at text >>= more_customs fuel)
unfolding more_customs inside_at
turn fuel text = refl

no_customs : (fuel : ℕ) (text : List ℕ) → Above 0 text → customs_of fuel text ≡ got [] text
no_customs fuel [] h = refl
no_customs zero (b ∷ text) h = refl
no_customs (suc fuel) (b ∷ text) h = cond-false (nat_eq b 0) (sized_at (made_at custom_of (both_at name_at rest_at)) text >>= λ custom rest. customs_of fuel rest >>= λ customs behind. got (custom ∷ customs) behind) (got [] (b ∷ text)) (above_not 0 0 b text refl h)

customs_again : (bound fuel : ℕ) (customs : List Custom) (front rest : List ℕ) → SpellsItems SpellsCustom customs front → Above 0 rest → length (front ++ rest) < bound → length (front ++ rest) ≤ fuel → customs_of fuel (front ++ rest) ≡ got customs rest
unfolding more_customs inside_at
customs_again bound fuel [] front rest h above low enough = ap (λ t. customs_of fuel (t ++ rest)) h ∙ no_customs fuel rest above
customs_again bound zero (custom ∷ customs) front rest h above low enough = absurd (let e = h.first.whole in omega (arith, enough, ap length h.whole, ap length e, length-append h.front h.back, length-append front rest))
customs_again bound (suc fuel) (custom ∷ customs) front rest h above low enough =
    let c = h.first in
    let split : front ++ rest ≡ 0 ∷ (c.back ++ (h.back ++ rest)) = ap (λ t. t ++ rest) (h.whole ∙ ap (λ t. t ++ h.back) c.whole) ∙ ap (λ t. 0 ∷ t) (append_assoc c.back h.back rest) in
    let size : length (front ++ rest) ≡ suc (length (c.back ++ (h.back ++ rest))) = ap length split in
    let sum = length-append c.back (h.back ++ rest) in
    ap (customs_of (suc fuel)) split
    ∙ turn fuel (c.back ++ (h.back ++ rest))
    ∙ ap (λ r. r >>= more_customs fuel) ((custom_decodes bound).again custom c.back (h.back ++ rest) c.rest (omega (arith, low, size)))
    ∙ ap (λ (r : Read (List Custom)). r >>= λ xs behind. got (custom ∷ xs) behind) (customs_again bound fuel customs h.back rest h.second above (omega (arith, low, size, sum)) (omega (arith, enough, size, sum)))

none_taken : (customs : List Custom) (text rest : List ℕ) → ◌≡◌ {A = Read (List Custom)} (got [] text) (got customs rest) → Takes (SpellsItems SpellsCustom customs) text rest
none_taken customs text rest h =
    let P : List Custom → Type 0 = λ xs. SpellsItems SpellsCustom xs [] in
    record { front = []; whole = rest_is [] customs text rest h; spells = subst P (value_is [] customs text rest h) refl }

customs_taken : (fuel : ℕ) (text rest : List ℕ) (customs : List Custom) → customs_of fuel text ≡ got customs rest → Takes (SpellsItems SpellsCustom customs) text rest
unfolding more_customs inside_at
customs_taken fuel [] rest customs h = none_taken customs [] rest h
customs_taken zero (b ∷ text) rest customs h = none_taken customs (b ∷ text) rest h
customs_taken (suc fuel) (b ∷ text) rest customs h = elim (cases_Bool (nat_eq b 0)) [
  | inl is ↦ (
      let g = sym (cond-true (nat_eq b 0) (sized_at inside_at text >>= more_customs fuel) (got [] (b ∷ text)) is) ∙ h in
      let x = bind_got (sized_at inside_at text) (more_customs fuel) customs rest g in
      let y = bind_got (customs_of fuel x.1) (λ xs behind. got (x.0 ∷ xs) behind) customs rest x.3 in
      let t = (custom_decodes 0).taken text x.1 x.0 x.2 in
      let u = customs_taken fuel x.1 y.1 y.0 y.2 in
      let P : List Custom → Type 0 = λ xs. SpellsItems SpellsCustom xs ((b ∷ t.front) ++ u.front) in
      record {
        front = (b ∷ t.front) ++ u.front;
        whole = ap (λ r. b ∷ r) (t.whole ∙ ap (λ r. t.front ++ r) (u.whole ∙ ap (λ r. u.front ++ r) (rest_is (x.0 ∷ y.0) customs y.1 rest y.3)) ∙ sym (append_assoc t.front u.front rest));
        spells = subst P (value_is (x.0 ∷ y.0) customs y.1 rest y.3) (record { front = b ∷ t.front; back = u.front; whole = refl; first = record { back = t.front; whole = ap (λ n. n ∷ t.front) (is_eq b 0 is); rest = t.spells }; second = u.spells });
      })
  | inr isnt ↦ none_taken customs (b ∷ text) rest (sym (cond-false (nat_eq b 0) (sized_at inside_at text >>= more_customs fuel) (got [] (b ∷ text)) isnt) ∙ h)
]

customs_within : (fuel : ℕ) (text : List ℕ) (fault : Fault) → customs_of fuel text ≡ stops fault → fault.left ≤ length text
unfolding more_customs inside_at
customs_within fuel [] fault h = absurd (got-stops {A = List Custom} [] [] fault h)
customs_within zero (b ∷ text) fault h = absurd (got-stops {A = List Custom} [] (b ∷ text) fault h)
customs_within (suc fuel) (b ∷ text) fault h = elim (cases_Bool (nat_eq b 0)) [
  | inl is ↦ elim (bind_stops (sized_at inside_at text) (more_customs fuel) fault (sym (cond-true (nat_eq b 0) (sized_at inside_at text >>= more_customs fuel) (got [] (b ∷ text)) is) ∙ h)) [
    | inl first ↦ (let w = (custom_decodes 0).within text fault first in omega (arith, w))
    | inr x ↦ elim (bind_stops (customs_of fuel x.1) (λ xs behind. got (x.0 ∷ xs) behind) fault x.3) [
      | inl second ↦ (let w = customs_within fuel x.1 fault second in let l = shorter (SizedCustom x.0) text x.1 ((custom_decodes 0).taken text x.1 x.0 x.2) in omega (arith, w, l))
      | inr y ↦ absurd (got-stops (x.0 ∷ y.0) y.1 fault y.3)
    ]
  ]
  | inr isnt ↦ absurd (got-stops {A = List Custom} [] (b ∷ text) fault (sym (cond-false (nat_eq b 0) (sized_at inside_at text >>= more_customs fuel) (got [] (b ∷ text)) isnt) ∙ h))
]

-- reading of what stands between the sections of two places in the order
pub record Stands {X : Type 0} (bound low high : ℕ) (P : X → List ℕ → Type 0) (at : List ℕ → Read X) : Type 0 where
  pub again : (x : X) (front rest : List ℕ) → P x front → Above high rest → length (front ++ rest) < bound → at (front ++ rest) ≡ got x rest
  pub taken : (text rest : List ℕ) (x : X) → at text ≡ got x rest → Takes (P x) text rest
  pub within : (text : List ℕ) (fault : Fault) → at text ≡ stops fault → fault.left ≤ length text
  pub above : (x : X) (front rest : List ℕ) → P x front → Above high rest → Above low (front ++ rest)

abbrev CustomItems : List Custom → List ℕ → Type 0
CustomItems = SpellsItems SpellsCustom

self_low : (n : ℕ) → n ≤ n
self_low n = omega arith

-- one section and the custom sections behind it

abbrev first_of : {X : Type 0} → X × List Custom → X
first_of x = x.0

absent : {X : Type 0} (id place : ℕ) (nothing : X) (content : List ℕ → Read X) (text : List ℕ) → rank id ≡ place → Above place text → section_at id nothing content text ≡ got nothing text
absent id place nothing content [] is h = refl
absent id place nothing content (b ∷ text) is h = cond-false (nat_eq b id) (made_at first_of (both_at (sized_at content) customs_at) text) (got nothing (b ∷ text)) (above_not place id b text is h)

section_again : {X : Type 0} (bound id place : ℕ) (nothing : X) (C : X → List ℕ → Type 0) (content : List ℕ → Read X) → rank id ≡ place → Decodes bound C content → (x : X) (front rest : List ℕ) → SpellsSection id nothing C x front → Above place rest → length (front ++ rest) < bound → section_at id nothing content (front ++ rest) ≡ got x rest
section_again bound id place nothing C content is d x front rest (inl none) above low = ap (λ t. section_at id nothing content (t ++ rest)) none.1 ∙ absent id place nothing content rest is above ∙ ap (λ y. got y rest) (sym none.0)
section_again {X} bound id place nothing C content is d x front rest (inr there) above low =
    let p = there.rest in
    let cs = p.second in
    let split : front ++ rest ≡ id ∷ (p.front ++ (p.back ++ rest)) = ap (λ t. t ++ rest) (there.whole ∙ ap (λ t. id ∷ t) p.whole) ∙ ap (λ t. id ∷ t) (append_assoc p.front p.back rest) in
    let size : length (front ++ rest) ≡ suc (length (p.front ++ (p.back ++ rest))) = ap length split in
    let sum = length-append p.front (p.back ++ rest) in
    let read : List ℕ → Read X = λ t. made_at first_of (both_at (sized_at content) customs_at) t in
    let zero_low : Above 0 rest = above_lower 0 place rest (omega arith) above in
    ap (section_at id nothing content) split
    ∙ cond-true (nat_eq id id) (read (p.front ++ (p.back ++ rest))) (got nothing (id ∷ (p.front ++ (p.back ++ rest)))) (eq_is id id refl)
    ∙ ap (λ (r : Read X). (r >>= λ y behind. customs_at behind >>= λ ys after. got (y, ys) after) >>= λ z behind. got (first_of z) behind) ((sized_decodes bound C content d).again x p.front (p.back ++ rest) p.first (omega (arith, low, size)))
    ∙ ap (λ (r : Read (List Custom)). (r >>= λ ys after. got (x, ys) after) >>= λ z behind. got (first_of z) behind) (customs_again bound (length (p.back ++ rest)) cs.customs p.back rest cs.items zero_low (omega (arith, low, size, sum)) (self_low (length (p.back ++ rest))))

section_taken : {X : Type 0} (id : ℕ) (nothing : X) (C : X → List ℕ → Type 0) (content : List ℕ → Read X) → Decodes 0 C content → (text rest : List ℕ) (x : X) → section_at id nothing content text ≡ got x rest → Takes (SpellsSection id nothing C x) text rest
section_taken id nothing C content d [] rest x h = record { front = []; whole = rest_is nothing x [] rest h; spells = inl (sym (value_is nothing x [] rest h), refl) }
section_taken id nothing C content d (b ∷ text) rest x h = elim (cases_Bool (nat_eq b id)) [
  | inl is ↦ (
      let g = sym (cond-true (nat_eq b id) (made_at first_of (both_at (sized_at content) customs_at) text) (got nothing (b ∷ text)) is) ∙ h in
      let z = bind_got (both_at (sized_at content) customs_at text) (λ y behind. got (first_of y) behind) x rest g in
      let a = bind_got (sized_at content text) (λ y behind. customs_at behind >>= λ ys after. got (y, ys) after) z.0 z.1 z.2 in
      let c = bind_got (customs_at a.1) (λ ys after. got (a.0, ys) after) z.0 z.1 a.3 in
      let t = (sized_decodes 0 C content d).taken text a.1 a.0 a.2 in
      let u = customs_taken (length a.1) a.1 c.1 c.0 c.2 in
      let value : a.0 ≡ x = ap first_of (value_is (a.0, c.0) z.0 c.1 z.1 c.3) ∙ value_is (first_of z.0) x z.1 rest z.3 in
      let behind : c.1 ≡ rest = rest_is (a.0, c.0) z.0 c.1 z.1 c.3 ∙ rest_is (first_of z.0) x z.1 rest z.3 in
      let P : _ → Type 0 = λ y. SpellsSection id nothing C y ((b ∷ t.front) ++ u.front) in
      record {
        front = (b ∷ t.front) ++ u.front;
        whole = ap (λ r. b ∷ r) (t.whole ∙ ap (λ r. t.front ++ r) (u.whole ∙ ap (λ r. u.front ++ r) behind) ∙ sym (append_assoc t.front u.front rest));
        spells = subst P value (inr (record { back = t.front ++ u.front; whole = ap (λ n. n ∷ (t.front ++ u.front)) (is_eq b id is); rest = record { front = t.front; back = u.front; whole = refl; first = t.spells; second = record { customs = c.0; items = u.spells } } }));
      })
  | inr isnt ↦ (
      let g = sym (cond-false (nat_eq b id) (made_at first_of (both_at (sized_at content) customs_at) text) (got nothing (b ∷ text)) isnt) ∙ h in
      record { front = []; whole = rest_is nothing x (b ∷ text) rest g; spells = inl (sym (value_is nothing x (b ∷ text) rest g), refl) })
]

section_within : {X : Type 0} (id : ℕ) (nothing : X) (C : X → List ℕ → Type 0) (content : List ℕ → Read X) → Decodes 0 C content → (text : List ℕ) (fault : Fault) → section_at id nothing content text ≡ stops fault → fault.left ≤ length text
section_within id nothing C content d [] fault h = absurd (got-stops nothing [] fault h)
section_within id nothing C content d (b ∷ text) fault h = elim (cases_Bool (nat_eq b id)) [
  | inl is ↦ elim (bind_stops (both_at (sized_at content) customs_at text) (λ y behind. got (first_of y) behind) fault (sym (cond-true (nat_eq b id) (made_at first_of (both_at (sized_at content) customs_at) text) (got nothing (b ∷ text)) is) ∙ h)) [
    | inl both ↦ elim (bind_stops (sized_at content text) (λ y behind. customs_at behind >>= λ ys after. got (y, ys) after) fault both) [
      | inl first ↦ (let w = (sized_decodes 0 C content d).within text fault first in omega (arith, w))
      | inr a ↦ elim (bind_stops (customs_at a.1) (λ ys after. got (a.0, ys) after) fault a.3) [
        | inl second ↦ (let w = customs_within (length a.1) a.1 fault second in let l = shorter (λ t. Sized (C a.0) t) text a.1 ((sized_decodes 0 C content d).taken text a.1 a.0 a.2) in omega (arith, w, l))
        | inr c ↦ absurd (got-stops (a.0, c.0) c.1 fault c.3)
      ]
    ]
    | inr z ↦ absurd (got-stops (first_of z.0) z.1 fault z.3)
  ]
  | inr isnt ↦ absurd (got-stops nothing (b ∷ text) fault (sym (cond-false (nat_eq b id) (made_at first_of (both_at (sized_at content) customs_at) text) (got nothing (b ∷ text)) isnt) ∙ h))
]

section_above : {X : Type 0} (id low place : ℕ) (nothing : X) (C : X → List ℕ → Type 0) → rank id ≡ place → low < place → (x : X) (front rest : List ℕ) → SpellsSection id nothing C x front → Above place rest → Above low (front ++ rest)
section_above id low place nothing C is under x front rest (inl none) above = let P : List ℕ → Type 0 = λ t. Above low (t ++ rest) in subst P (sym none.1) (above_lower low place rest (omega (arith, under)) above)
section_above id low place nothing C is under x front rest (inr there) above = let P : List ℕ → Type 0 = λ t. Above low (t ++ rest) in subst P (sym there.whole) (let e : low < rank id = omega (arith, is, under) in e)

pub section_stands : {X : Type 0} (bound id low place : ℕ) (nothing : X) (C : X → List ℕ → Type 0) (content : List ℕ → Read X) → rank id ≡ place → low < place → Decodes bound C content → Decodes 0 C content → Stands bound low place (SpellsSection id nothing C) (section_at id nothing content)
section_stands bound id low place nothing C content is under d e = record {
  again = section_again bound id place nothing C content is d;
  taken = section_taken id nothing C content e;
  within = section_within id nothing C content e;
  above = section_above id low place nothing C is under;
}

-- one behind another, which is read by it

unfoldable pub DependsOn : {X Y : Type 0} → (X → List ℕ → Type 0) → (X → Y → List ℕ → Type 0) → X × Y → List ℕ → Type 0
DependsOn P Q xy text = Parts (P xy.0) (Q xy.0 xy.1) text

pub then_stands : {X Y : Type 0} (bound low middle high : ℕ) (P : X → List ℕ → Type 0) (Q : X → Y → List ℕ → Type 0) (first : List ℕ → Read X) (second : X → List ℕ → Read Y) → Stands bound low middle P first → ((x : X) → Stands bound middle high (Q x) (second x)) → Stands bound low high (DependsOn P Q) (then_at first second)
unfolding DependsOn
then_stands {X} {Y} bound low middle high P Q first second d e = record {
  again = λ xy front rest h above under.
      let split : front ++ rest ≡ h.front ++ (h.back ++ rest) = ap (λ t. t ++ rest) h.whole ∙ append_assoc h.front h.back rest in
      let size : length (front ++ rest) ≡ length (h.front ++ (h.back ++ rest)) = ap length split in
      let sum = length-append h.front (h.back ++ rest) in
      ap (then_at first second) split
      ∙ ap (λ (r : Read X). r >>= λ x more. second x more >>= λ y behind. got (x, y) behind) (d.again xy.0 h.front (h.back ++ rest) h.first ((e xy.0).above xy.1 h.back rest h.second above) (omega (arith, under, size)))
      ∙ ap (λ (r : Read Y). r >>= λ y behind. got (xy.0, y) behind) ((e xy.0).again xy.1 h.back rest h.second above (omega (arith, under, size, sum)));
  taken = λ text rest xy h.
      let a = bind_got (first text) (λ x more. second x more >>= λ y behind. got (x, y) behind) xy rest h in
      let b = bind_got (second a.0 a.1) (λ y behind. got (a.0, y) behind) xy rest a.3 in
      let t = d.taken text a.1 a.0 a.2 in
      let u = (e a.0).taken a.1 b.1 b.0 b.2 in
      let R : X × Y → Type 0 = λ z. Parts (P z.0) (Q z.0 z.1) (t.front ++ u.front) in
      record {
        front = t.front ++ u.front;
        whole = t.whole ∙ ap (λ r. t.front ++ r) (u.whole ∙ ap (λ r. u.front ++ r) (rest_is (a.0, b.0) xy b.1 rest b.3)) ∙ sym (append_assoc t.front u.front rest);
        spells = subst R (value_is (a.0, b.0) xy b.1 rest b.3) (record { front = t.front; back = u.front; whole = refl; first = t.spells; second = u.spells });
      };
  within = λ text fault h. elim (bind_stops (first text) (λ x more. second x more >>= λ y behind. got (x, y) behind) fault h) [
    | inl k ↦ d.within text fault k
    | inr a ↦ elim (bind_stops (second a.0 a.1) (λ y behind. got (a.0, y) behind) fault a.3) [
      | inl k ↦ (let w = (e a.0).within a.1 fault k in let l = shorter (P a.0) text a.1 (d.taken text a.1 a.0 a.2) in omega (arith, w, l))
      | inr b ↦ absurd (got-stops (a.0, b.0) b.1 fault b.3)
    ]
  ];
  above = λ xy front rest h above.
      let R : List ℕ → Type 0 = λ t. Above low t in
      let split : front ++ rest ≡ h.front ++ (h.back ++ rest) = ap (λ t. t ++ rest) h.whole ∙ append_assoc h.front h.back rest in
      subst R (sym split) (d.above xy.0 h.front (h.back ++ rest) h.first ((e xy.0).above xy.1 h.back rest h.second above));
}

pub both_stands : {X Y : Type 0} (bound low middle high : ℕ) (P : X → List ℕ → Type 0) (Q : Y → List ℕ → Type 0) (first : List ℕ → Read X) (second : List ℕ → Read Y) → Stands bound low middle P first → Stands bound middle high Q second → Stands bound low high (Both P Q) (both_at first second)
unfolding DependsOn
both_stands bound low middle high P Q first second d e = then_stands bound low middle high P (λ x. Q) first (λ x. second) d (λ x. e)

pub customs_behind : (bound : ℕ) (customs : List Custom) (front rest : List ℕ) → CustomItems customs front → Above 0 rest → length (front ++ rest) < bound → customs_at (front ++ rest) ≡ got customs rest
customs_behind bound customs front rest h above low = customs_again bound (length (front ++ rest)) customs front rest h above low (self_low (length (front ++ rest)))

pub customs_read : (text rest : List ℕ) (customs : List Custom) → customs_at text ≡ got customs rest → Takes (CustomItems customs) text rest
customs_read text rest customs h = customs_taken (length text) text rest customs h

pub customs_stop : (text : List ℕ) (fault : Fault) → customs_at text ≡ stops fault → fault.left ≤ length text
customs_stop text fault h = customs_within (length text) text fault h
