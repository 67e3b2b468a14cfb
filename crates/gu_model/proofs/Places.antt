-- Two indices of one type: the types there are written alike, but for indices that name one type too.
use Rattle.std.proofs.Common.{◌≡◌, ℕ, zero, suc, ◌+◌, ◌-◌, ◌<◌, ◌≤◌, Bool, true, false, List, [], ◌∷◌, ◌++◌, length, slice_get, nat_lt, if◌then◌else◌, Option, Some, None, refl, ap, sym, ◌∙◌, subst, arith, append_assoc, append-nil, length-append}
use Rattle.std.proofs.lemmas.Option.{same_Some, none-some, slice_get_within}
use Rattle.gu_types.specs.declared.types.RecGroup.{RecGroup}
use Rattle.gu_types.specs.declared.types.SubType.{SubType}
use Rattle.gu_types.specs.declared.types.TypeList.{TypeList}
use Rattle.gu_types.specs.Depth.{types_in, types_of}
use Rattle.gu_rec.specs.Names.{names, blank}
use Rattle.gu_rec.specs.Closed.{ClosedGroup, References, none, inside, outside, Closed, close_name, close_names, close_group, close_types, close_on, closed_types, closed_type, SameType}
use Rattle.gu_rec.specs.Validity.{group_end, all_below, IndicesHold}
use Rattle.gu_rec.proofs.Entries.{type_holds}
use Rattle.gu_rec.proofs.Numbers.{slice_get-left, slice_get-right, length-positions, slice_get-positions, position_in}
use Rattle.gu_rec.proofs.Same.{left_of, right_of}
use Rattle.gu_rec.proofs.Seats.{Item, item_at}

items : (E : List Closed) (ts : List SubType) (k : ℕ) (ty : SubType) → slice_get ts k ≡ Some ty → item_at (close_group E ts) k ≡ Some (record { type = blank ty; refs = close_names E (names ty) })
items E [] k ty e = absurd (none-some ty e)
items E (t ∷ ts) zero ty e = ap (λ (x : SubType). Some (let y : Item = record { type = blank x; refs = close_names E (names x) } in y)) (same_Some t ty e)
items E (t ∷ ts) (suc k) ty e = items E ts k ty e

-- the place of a type among the closed types, with all of its group
pub record Place (B : List Closed) (end i : ℕ) (ty : SubType) : Type 0 where
  pub earlier : List Closed
  pub group : ClosedGroup
  pub position : ℕ
  pub size : ℕ
  pub last : end ≡ length earlier + size
  pub closed : slice_get B i ≡ Some (position_in group position)
  pub item : item_at group position ≡ Some (record { type = blank ty; refs = close_names earlier (names ty) })
  pub outer : (j : ℕ) → j < length earlier → slice_get earlier j ≡ slice_get B j
  pub inner : (k : ℕ) → k < size → slice_get B (length earlier + k) ≡ Some (position_in group k)

keeps : (E : List Closed) (gs : List RecGroup) (j : ℕ) → j < length E → slice_get (close_on E gs) j ≡ slice_get E j
keeps E [] j h = refl
keeps E (g ∷ gs) j h = keeps (E ++ close_types E g.types) gs j (let l = length-append E (close_types E g.types) in omega arith) ∙ slice_get-left E (close_types E g.types) j h

place_here : (E : List Closed) (g : RecGroup) (gs : List RecGroup) (end i k : ℕ) (ty : SubType) → end ≡ length E + length g.types → i ≡ length E + k → k < length g.types → slice_get g.types k ≡ Some ty → Place (close_on E (g ∷ gs)) end i ty
place_here E g gs end i k ty d e h f =
    let X : List Closed = close_types E g.types in
    let size : length (E ++ X) ≡ length E + length g.types = length-append E X ∙ ap (λ n. length E + n) (length-positions (close_group E g.types) 0 (length g.types)) in
    let read : (m : ℕ) → m < length g.types → slice_get (close_on (E ++ X) gs) (length E + m) ≡ Some (position_in (close_group E g.types) m) =
    λ m l. keeps (E ++ X) gs (length E + m) (omega arith) ∙ (slice_get-right E X m ∙ (slice_get-positions (close_group E g.types) 0 (length g.types) m l ∙ ap (λ n. Some (position_in (close_group E g.types) n)) (omega arith))) in
    record {
      earlier = E;
      group = close_group E g.types;
      position = k;
      size = length g.types;
      last = d;
      closed = ap (slice_get (close_on (E ++ X) gs)) e ∙ read k h;
      item = items E g.types k ty f;
      outer = λ j l. sym (keeps E (g ∷ gs) j l);
      inner = λ m l. read m l;
    }

place_in : (E : List Closed) (T : List SubType) (gs : List RecGroup) (i x : ℕ) (ty : SubType) → length E ≡ length T → i ≡ length E + x → slice_get (T ++ types_in gs) i ≡ Some ty → Place (close_on E gs) (length E + group_end gs x) i ty
place_in E T [] i x ty l h e =
    absurd (let w = slice_get_within (T ++ []) i ty e in let m = ap length (append-nil T) in omega arith)
place_in E T (g ∷ gs) i x ty l h e = by (λ F U y. place_in F U gs i y ty) (nat_lt x (length g.types)) refl
  where
    later : ((F : List Closed) (U : List SubType) (y : ℕ) → length F ≡ length U → i ≡ length F + y → slice_get (U ++ types_in gs) i ≡ Some ty → Place (close_on F gs) (length F + group_end gs y) i ty) → length g.types ≤ x → Place (close_on E (g ∷ gs)) (length E + (length g.types + group_end gs (x - length g.types))) i ty
    later again b =
        let X : List Closed = close_types E g.types in
        let size : length (E ++ X) ≡ length E + length g.types = length-append E X ∙ ap (λ n. length E + n) (length-positions (close_group E g.types) 0 (length g.types)) in
        let ts = length-append T g.types in
        subst (λ n. Place (close_on (E ++ X) gs) n i ty) (let z : length (E ++ X) + group_end gs (x - length g.types) ≡ length E + (length g.types + group_end gs (x - length g.types)) = omega (arith, size) in z)
        (again (E ++ X) (T ++ g.types) (x - length g.types) (omega arith) (omega arith) (ap (λ t. slice_get t i) (append_assoc T g.types (types_in gs)) ∙ e))

    here : x < length g.types → Place (close_on E (g ∷ gs)) (length E + length g.types) i ty
    here b =
        let a : i ≡ length T + x = omega arith in
        place_here E g gs (length E + length g.types) i x ty refl h b
        (sym (slice_get-left g.types (types_in gs) x b) ∙ (sym (slice_get-right T (g.types ++ types_in gs) x) ∙ (ap (slice_get (T ++ (g.types ++ types_in gs))) (sym a) ∙ e)))

    by : ((F : List Closed) (U : List SubType) (y : ℕ) → length F ≡ length U → i ≡ length F + y → slice_get (U ++ types_in gs) i ≡ Some ty → Place (close_on F gs) (length F + group_end gs y) i ty) → (c : Bool) → nat_lt x (length g.types) ≡ c → Place (close_on E (g ∷ gs)) (length E + (if c then length g.types else length g.types + group_end gs (x - length g.types))) i ty
    by again true q = here (let z : x < length g.types = grind (arith, q) in z)
    by again false q = later again (let z : length g.types ≤ x = grind (arith, q) in z)

place : (list : TypeList) (i : ℕ) (ty : SubType) → slice_get (types_of list) i ≡ Some ty → Place (closed_types list) (group_end list.groups i) i ty
unfolding closed_types
place list i ty e = subst (λ n. Place (close_on [] list.groups) n i ty) (let z : 0 + group_end list.groups i ≡ group_end list.groups i = omega arith in z) (place_in [] [] list.groups i i ty refl (let z : i ≡ 0 + i = omega arith in z) e)

-- indices in the same order, that name the same types
abbrev pub Pairs : TypeList → List ℕ → List ℕ → Type 0
Pairs list [] [] = Unit {0}
Pairs list (a ∷ as') (b ∷ bs) = SameType list a list b × Pairs list as' bs
Pairs list _ _ = ⊥

module _ (list : TypeList) (i j : ℕ) (one other : SubType) (p : Place (closed_types list) (group_end list.groups i) i one) (q : Place (closed_types list) (group_end list.groups j) j other) (groups : p.group ≡ q.group) where
  pair : (a b : ℕ) (r s : References) → a < group_end list.groups i → b < group_end list.groups j → (m n : Option Closed) → slice_get p.earlier a ≡ m → slice_get q.earlier b ≡ n → close_name m (a - length p.earlier) r ≡ close_name n (b - length q.earlier) s → SameType list a list b × (r ≡ s)
  unfolding SameType closed_type
  pair a b r s la lb (Some c) (Some d) f g h = (sym (p.outer a (slice_get_within p.earlier a c f)) ∙ f ∙ (λ k. Some (let z : Closed = record { group = (let y : c.group ≡ d.group = cc in y) k; position = (let y : c.position ≡ d.position = cc in y) k } in z)) ∙ sym g ∙ q.outer b (slice_get_within q.earlier b d g), cc)
  pair a b r s la lb None None f g h =
      let n : a - length p.earlier ≡ b - length q.earlier = cc in
      let pa = p.last in let qa = q.last in
      let x : length p.earlier ≤ a = past p.earlier a f in let y : length q.earlier ≤ b = past q.earlier b g in
      (ap (slice_get (closed_types list)) (let z : a ≡ length p.earlier + (a - length p.earlier) = omega arith in z) ∙ p.inner (a - length p.earlier) (let z : a - length p.earlier < p.size = omega arith in z) ∙ (λ k. Some (position_in (groups k) (n k))) ∙ sym (q.inner (b - length q.earlier) (let z : b - length q.earlier < q.size = omega arith in z)) ∙ ap (slice_get (closed_types list)) (let z : length q.earlier + (b - length q.earlier) ≡ b = omega arith in z), cc)
    where
      past : (E : List Closed) (a : ℕ) → slice_get E a ≡ None → length E ≤ a
      past [] a e = omega arith
      past (c ∷ E) zero e = absurd (none-some c (sym e))
      past (c ∷ E) (suc a) e = let z = past E a e in omega arith
  pair a b r s la lb (Some c) None f g h = absurd (apart h)
    where
      apart : outside c.group c.position r ≡ inside (b - length q.earlier) s → ⊥
      apart h = subst (λ (x : References). elim x as (λ _. Type 0) [ none ↦ Unit {0} | inside k rest ↦ ⊥ | outside t k rest ↦ Unit {0} ]) h tt
  pair a b r s la lb None (Some d) f g h = absurd (apart h)
    where
      apart : inside (a - length p.earlier) r ≡ outside d.group d.position s → ⊥
      apart h = subst (λ (x : References). elim x as (λ _. Type 0) [ none ↦ Unit {0} | inside k rest ↦ Unit {0} | outside t k rest ↦ ⊥ ]) h tt

  -- all indices of the two types, in order
  paired : (as' bs : List ℕ) → all_below (group_end list.groups i) as' ≡ true → all_below (group_end list.groups j) bs ≡ true → close_names p.earlier as' ≡ close_names q.earlier bs → Pairs list as' bs
  paired [] [] f g h = tt
  paired [] (b ∷ bs) f g h = absurd (starts (slice_get q.earlier b) h)
    where
      starts : (m : Option Closed) → none ≡ close_name m (b - length q.earlier) (close_names q.earlier bs) → ⊥
      starts None h = subst (λ (x : References). elim x as (λ _. Type 0) [ none ↦ Unit {0} | inside k rest ↦ ⊥ | outside t k rest ↦ ⊥ ]) h tt
      starts (Some c) h = subst (λ (x : References). elim x as (λ _. Type 0) [ none ↦ Unit {0} | inside k rest ↦ ⊥ | outside t k rest ↦ ⊥ ]) h tt
  paired (a ∷ as') [] f g h = absurd (starts (slice_get p.earlier a) h)
    where
      starts : (m : Option Closed) → close_name m (a - length p.earlier) (close_names p.earlier as') ≡ none → ⊥
      starts None h = subst (λ (x : References). elim x as (λ _. Type 0) [ none ↦ ⊥ | inside k rest ↦ Unit {0} | outside t k rest ↦ Unit {0} ]) h tt
      starts (Some c) h = subst (λ (x : References). elim x as (λ _. Type 0) [ none ↦ ⊥ | inside k rest ↦ Unit {0} | outside t k rest ↦ Unit {0} ]) h tt
  paired (a ∷ as') (b ∷ bs) f g h =
      let la : a < group_end list.groups i = (let z = left_of (nat_lt a (group_end list.groups i)) _ f in grind (arith, z)) in
      let lb : b < group_end list.groups j = (let z = left_of (nat_lt b (group_end list.groups j)) _ g in grind (arith, z)) in
      let w = pair a b (close_names p.earlier as') (close_names q.earlier bs) la lb (slice_get p.earlier a) (slice_get q.earlier b) refl refl h in
      (w.0, paired as' bs (right_of (nat_lt a (group_end list.groups i)) _ f) (right_of (nat_lt b (group_end list.groups j)) _ g) w.1)

-- two places of one type
pub record Alike (list : TypeList) (one other : SubType) : Type 0 where
  pub blanks : blank one ≡ blank other
  pub pairs : Pairs list (names one) (names other)

pub alike : (list : TypeList) → IndicesHold list → (i j : ℕ) (one other : SubType) → SameType list i list j → slice_get (types_of list) i ≡ Some one → slice_get (types_of list) j ≡ Some other → Alike list one other
unfolding SameType closed_type
alike list hold i j one other s e f =
    let p = place list i one e in
    let q = place list j other f in
    let c : position_in p.group p.position ≡ position_in q.group q.position = same_Some _ _ (sym p.closed ∙ s ∙ q.closed) in
    let g : p.group ≡ q.group = ap (λ (x : Closed). x.group) c in
    let n : p.position ≡ q.position = ap (λ (x : Closed). x.position) c in
    let at : item_at p.group p.position ≡ item_at q.group q.position = (λ k. item_at (g k) (n k)) in
    let it = same_Some _ _ (sym p.item ∙ at ∙ q.item) in
    record { blanks = ap (λ (x : Item). x.type) it; pairs = paired list i j one other p q g (names one) (names other) (type_holds list hold i one e).names_below (type_holds list hold j other f).names_below (ap (λ (x : Item). x.refs) it) }
