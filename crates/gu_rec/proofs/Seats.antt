-- Where a type stands in its closed group; so the supertype of a type, closed, is told by the type, closed.
use Rattle.std.proofs.Common.{◌≡◌, ℕ, zero, suc, ◌+◌, ◌-◌, ◌<◌, ◌≤◌, ◌⊎◌, List, [], ◌∷◌, ◌++◌, map, length, slice_get, Option, Some, None, refl, ap, sym, ◌∙◌, inl, inr, arith, append_assoc, append-nil, length-append}
use Rattle.std.proofs.lemmas.Bool.{cases_lt}
use Rattle.std.proofs.lemmas.Option.{slice_get_within, slice_get_past, slice_get-get_or}
use Rattle.gu_types.specs.declared.types.Abs.{Abs}
use Rattle.gu_types.specs.declared.types.Comp.{Comp}
use Rattle.gu_types.specs.declared.types.Comp.TheVariants as C
use Rattle.gu_types.specs.declared.types.SubType.{SubType}
use Rattle.gu_types.specs.declared.types.RecGroup.{RecGroup}
use Rattle.gu_types.specs.declared.types.TypeList.{TypeList}
use Rattle.gu_types.specs.Depth.{types_in, types_of, parent}
use Rattle.gu_rec.specs.Names.{names, blank, comp_names, rename_comp}
use Rattle.gu_rec.specs.Closed.{ClosedGroup, done, entry, References, none, inside, outside, Closed, close_name, close_names, close_group, close_types, close_on, closed_types, closed_type, SameType}
use Rattle.gu_rec.specs.Sub.{kind_of}
use Rattle.gu_rec.specs.Validity.{IndicesHold}
use Rattle.gu_rec.proofs.Numbers.{slice_get-left, slice_get-right, length-positions, slice_get-positions, position_in}
use Rattle.gu_rec.proofs.Groups.{length-close_on}
use Rattle.gu_rec.proofs.Entries.{parent_is}
use Rattle.gu_rec.proofs.Lines.{parent_below}

pub record Item : Type 0 where
  pub type : SubType
  pub refs : References

abbrev pub item_at : ClosedGroup → ℕ → Option Item
item_at done k = None
item_at (entry ty refs group) zero = Some (record { type = ty; refs = refs })
item_at (entry ty refs group) (suc k) = item_at group k

items : (E : List Closed) (ts : List SubType) (k : ℕ) (ty : SubType) → slice_get ts k ≡ Some ty → item_at (close_group E ts) k ≡ Some (record { type = blank ty; refs = close_names E (names ty) })
items E [] k ty e = cc
items E (t ∷ ts) zero ty e = let f : t ≡ ty = cc in ap (λ (x : SubType). Some (let y : Item = record { type = blank x; refs = close_names E (names x) } in y)) f
items E (t ∷ ts) (suc k) ty e = items E ts k ty e

-- the seat of a type in the closed types
record Seat (B : List Closed) (i : ℕ) (ty : SubType) : Type 0 where
  earlier : List Closed
  group : ClosedGroup
  position : ℕ
  at : i ≡ length earlier + position
  closed : slice_get B i ≡ Some (position_in group position)
  item : item_at group position ≡ Some (record { type = blank ty; refs = close_names earlier (names ty) })
  outer : (j : ℕ) → j < length earlier → slice_get earlier j ≡ slice_get B j
  inner : (k : ℕ) → k < position → slice_get B (length earlier + k) ≡ Some (position_in group k)

keeps : (E : List Closed) (gs : List RecGroup) (j : ℕ) → j < length E → slice_get (close_on E gs) j ≡ slice_get E j
keeps E [] j h = refl
keeps E (g ∷ gs) j h = keeps (E ++ close_types E g.types) gs j (let l = length-append E (close_types E g.types) in omega arith) ∙ slice_get-left E (close_types E g.types) j h

seat_here : (E : List Closed) (g : RecGroup) (gs : List RecGroup) (i k : ℕ) (ty : SubType) → i ≡ length E + k → k < length g.types → slice_get g.types k ≡ Some ty → Seat (close_on E (g ∷ gs)) i ty
seat_here E g gs i k ty e h f =
    let X : List Closed = close_types E g.types in
    let size : length (E ++ X) ≡ length E + length g.types = length-append E X ∙ ap (λ n. length E + n) (length-positions (close_group E g.types) 0 (length g.types)) in
    let read : (m : ℕ) → m < length g.types → slice_get (close_on (E ++ X) gs) (length E + m) ≡ Some (position_in (close_group E g.types) m) =
    λ m l. keeps (E ++ X) gs (length E + m) (omega arith) ∙ (slice_get-right E X m ∙ (slice_get-positions (close_group E g.types) 0 (length g.types) m l ∙ ap (λ n. Some (position_in (close_group E g.types) n)) (omega arith))) in
    record {
      earlier = E;
      group = close_group E g.types;
      position = k;
      at = e;
      closed = ap (slice_get (close_on (E ++ X) gs)) e ∙ read k h;
      item = items E g.types k ty f;
      outer = λ j l. sym (keeps E (g ∷ gs) j l);
      inner = λ m l. read m (omega arith);
    }

seat_in : (E : List Closed) (T : List SubType) (gs : List RecGroup) (i : ℕ) (ty : SubType) → length E ≡ length T → length E ≤ i → slice_get (T ++ types_in gs) i ≡ Some ty → Seat (close_on E gs) i ty
seat_in E T [] i ty l h e =
    absurd (let w = slice_get_within (T ++ []) i ty e in let m = ap length (append-nil T) in omega arith)
seat_in E T (g ∷ gs) i ty l h e =
    elim (cases_lt i (length E + length g.types)) as (λ _. Seat (close_on E (g ∷ gs)) i ty) [
      | inl x ↦
          let k : ℕ = i - length E in
          let a : i ≡ length T + k = omega arith in
          let b : k < length g.types = omega arith in
          seat_here E g gs i k ty (omega arith) b
          (sym (slice_get-left g.types (types_in gs) k b) ∙ (sym (slice_get-right T (g.types ++ types_in gs) k) ∙ (ap (slice_get (T ++ (g.types ++ types_in gs))) (sym a) ∙ e)))
      | inr x ↦
          let X : List Closed = close_types E g.types in
          let size : length (E ++ X) ≡ length E + length g.types = length-append E X ∙ ap (λ n. length E + n) (length-positions (close_group E g.types) 0 (length g.types)) in
          let ts = length-append T g.types in
          seat_in (E ++ X) (T ++ g.types) gs i ty (omega arith) (omega arith) (ap (λ t. slice_get t i) (append_assoc T g.types (types_in gs)) ∙ e)
    ]

seat : (list : TypeList) (i : ℕ) (ty : SubType) → slice_get (types_of list) i ≡ Some ty → Seat (closed_types list) i ty
unfolding closed_types
seat list i ty e = seat_in [] [] list.groups i ty refl (omega arith) e

-- the supertype, closed
abbrev pub first_up : ClosedGroup → List ℕ → References → Option Closed
first_up group [] refs = None
first_up group (x ∷ xs) none = None
first_up group (x ∷ xs) (inside k rest) = Some (position_in group k)
first_up group (x ∷ xs) (outside g k rest) = Some (position_in g k)

abbrev pub item_up : ClosedGroup → Option Item → Option Closed
item_up group None = None
item_up group (Some item) = first_up group item.type.supers item.refs

abbrev pub up : Option Closed → Option Closed
up None = None
up (Some c) = item_up c.group (item_at c.group c.position)

abbrev pub item_kind : Option Item → Option Abs
item_kind None = None
item_kind (Some item) = Some (kind_of item.type.comp)

abbrev pub kind_up : Option Closed → Option Abs
kind_up None = None
kind_up (Some c) = item_kind (item_at c.group c.position)

no_first : (group : ClosedGroup) (xs : List ℕ) (refs : References) → slice_get xs 0 ≡ None → first_up group (map (λ _. zero) xs) refs ≡ None
no_first group [] refs e = refl
no_first group (x ∷ xs) refs e = cc

first_is : (group : ClosedGroup) (E : List Closed) (xs rest : List ℕ) (s : ℕ) (c : Closed) → slice_get xs 0 ≡ Some s → ((slice_get E s ≡ Some c) ⊎ ((slice_get E s ≡ None) × (position_in group (s - length E) ≡ c))) → first_up group (map (λ _. zero) xs) (close_names E (xs ++ rest)) ≡ Some c
first_is group E [] rest s c e w = cc
first_is group E (x ∷ xs) rest s c e (inl f) =
    let g : x ≡ s = cc in
    ap (λ o. first_up group (zero ∷ map (λ _. zero) xs) (close_name o (x - length E) (close_names E (xs ++ rest)))) (ap (slice_get E) g ∙ f)
first_is group E (x ∷ xs) rest s c e (inr f) =
    let g : x ≡ s = cc in
    ap (λ o. first_up group (zero ∷ map (λ _. zero) xs) (close_name o (x - length E) (close_names E (xs ++ rest)))) (ap (slice_get E) g ∙ f.0)
    ∙ (ap (λ n. Some (position_in group (n - length E))) g ∙ ap (λ d. Some d) f.1)

item_of_seat : (list : TypeList) (i : ℕ) (ty : SubType) (s : Seat (closed_types list) i ty) → up (closed_type list i) ≡ first_up s.group (map (λ _. zero) ty.supers) (close_names s.earlier (names ty))
unfolding closed_type
item_of_seat list i ty s = ap up s.closed ∙ ap (item_up s.group) s.item

pub up_none : (list : TypeList) → IndicesHold list → (i : ℕ) (ty : SubType) → slice_get (types_of list) i ≡ Some ty → parent (types_of list) i ≡ None → up (closed_type list i) ≡ None
up_none list hold i ty e p =
    let s = seat list i ty e in
    item_of_seat list i ty s ∙ no_first s.group ty.supers (close_names s.earlier (names ty)) (sym (parent_is list hold i ty e) ∙ p)

pub up_some : (list : TypeList) → IndicesHold list → (i p : ℕ) (ty above : SubType) → slice_get (types_of list) i ≡ Some ty → parent (types_of list) i ≡ Some p → slice_get (types_of list) p ≡ Some above → up (closed_type list i) ≡ closed_type list p
unfolding closed_type
up_some list hold i p ty above e q f =
    let s = seat list i ty e in
    let t = seat list p above f in
    let b = parent_below (types_of list) i p q in
    let at = s.at in
    let c : Closed = position_in t.group t.position in
    let found : (slice_get s.earlier p ≡ Some c) ⊎ ((slice_get s.earlier p ≡ None) × (position_in s.group (p - length s.earlier) ≡ c)) =
    elim (cases_lt p (length s.earlier)) as (λ _. (slice_get s.earlier p ≡ Some c) ⊎ ((slice_get s.earlier p ≡ None) × (position_in s.group (p - length s.earlier) ≡ c))) [
      | inl x ↦ inl (s.outer p x ∙ t.closed)
      | inr x ↦
          let k : ℕ = p - length s.earlier in
          let l : p ≡ length s.earlier + k = omega arith in
          let h : Some (position_in s.group k) ≡ Some c = sym (s.inner k (omega arith)) ∙ (ap (slice_get (closed_types list)) (sym l) ∙ t.closed) in
          inr (slice_get_past s.earlier p x, cc)
    ] in
    item_of_seat list i ty s ∙ (first_is s.group s.earlier ty.supers (comp_names ty.comp) p c (sym (parent_is list hold i ty e) ∙ q) found ∙ sym t.closed)

same_kind : (f : ℕ → ℕ) (comp : Comp) → kind_of (rename_comp f comp) ≡ kind_of comp
same_kind f (C.Func ps rs) = refl
same_kind f (C.Struct fs) = refl
same_kind f (C.Array a) = refl

pub kind_is : (list : TypeList) (i : ℕ) (ty : SubType) → slice_get (types_of list) i ≡ Some ty → kind_up (closed_type list i) ≡ Some (kind_of ty.comp)
unfolding closed_type
kind_is list i ty e =
    let s = seat list i ty e in
    ap kind_up s.closed ∙ (ap item_kind s.item ∙ ap (λ k. Some k) (same_kind (λ _. zero) ty.comp))

-- the same type is a type too
pub same_there : (list : TypeList) (i j : ℕ) → i < length (types_of list) → SameType list i list j → j < length (types_of list)
unfolding SameType closed_type closed_types
same_there list i j h s =
    let B : List Closed = close_on [] list.groups in
    let l : length B ≡ length (types_of list) = length-close_on [] list.groups ∙ omega arith in
    elim (cases_lt j (length B)) as (λ _. j < length (types_of list)) [
      | inl x ↦ omega arith
      | inr x ↦ absurd (let z : None ≡ Some _ = sym (slice_get_past B j x) ∙ (sym s ∙ slice_get-get_or B i (position_in done 0) (omega arith)) in cc)
    ]
