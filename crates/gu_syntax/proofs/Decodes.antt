-- Reading that fits what is spelled, for the whole format: what is spelled is read, whatever follows it; what is read
-- is spelled; and reading stops within the text. Here are the ways to make such reading out of parts.
use Rattle.std.proofs.Common.{ℕ, zero, suc, ◌+◌, ◌≤◌, ◌<◌, List, [], ◌∷◌, ◌++◌, ◌≡◌, refl, ap, ◌∙◌, sym, subst, length, arith, nat_eq, nat_lt, Bool, true, false, cond, append_assoc, length-append, ◌⊎◌, inl, inr, take, drop, Some, None, Option, ℤ, pos, negsuc}
use Rattle.std.proofs.lemmas.Bool.{cases_Bool, cond-true, cond-false}
use Rattle.std.proofs.lemmas.List.{take-append-drop, length-take-le, length-drop, append-nil}
use Rattle.std.proofs.Math.Seq.{take-append_seam, drop-append_seam}
use Rattle.gu_bytes.specs.Numbers.{IsSigned}
use Rattle.gu_bytes.specs.Reading.{unsigned_at, signed_at}
use Rattle.gu_bytes.proofs.Unsigned.{unsigned_again, unsigned_taken}
use Rattle.gu_bytes.proofs.Signed.{signed_again, signed_taken, signed_bytes}
use Rattle.gu_syntax.specs.Parts.{Parts, Begins, SpellsU32, SpellsS32, SpellsItems, SpellsVector, Sized, SpellsS64, SpellsS33, Both, Made}
use Rattle.gu_syntax.specs.Reading.{Item, Number, Size, End, TypeStart, Fault, Read, got, stops, refused, ◌>>=◌, made_at, both_at, number, u32_as, u32_at, s32_at, s64_at, s33_head, natural, not_negative, headed_at, numbered_at, none_at, after, items_at, vector_at, before, whole, content_at, sized_at}
use Rattle.gu_syntax.proofs.Takes.{Takes, is_eq, eq_is, not_below, below_not, shorter, Splits}

-- where the text has fewer than so many bytes: what is spelled is read, whatever follows it. What is read is spelled, and
-- reading stops within the text
pub record Decodes {X : Type 0} (bound : ℕ) (P : X → List ℕ → Type 0) (at : List ℕ → Read X) : Type 0 where
  pub again : (x : X) (front rest : List ℕ) → P x front → length (front ++ rest) < bound → at (front ++ rest) ≡ got x rest
  pub taken : (text rest : List ℕ) (x : X) → at text ≡ got x rest → Takes (P x) text rest
  pub within : (text : List ℕ) (fault : Fault) → at text ≡ stops fault → fault.left ≤ length text

-- the same for a part that may refuse an earlier place, where so many bytes are left
pub record Continues {X : Type 0} (bound : ℕ) (P : X → List ℕ → Type 0) (next : ℕ → List ℕ → Read X) : Type 0 where
  pub again : (left : ℕ) (x : X) (front rest : List ℕ) → P x front → length (front ++ rest) < bound → next left (front ++ rest) ≡ got x rest
  pub taken : (left : ℕ) (text rest : List ℕ) (x : X) → next left text ≡ got x rest → Takes (P x) text rest
  pub within : (left : ℕ) (text : List ℕ) (fault : Fault) → next left text ≡ stops fault → length text ≤ left → fault.left ≤ left

pub value_is : {A : Type 0} (x y : A) (r s : List ℕ) → ◌≡◌ {A = Read A} (got x r) (got y s) → x ≡ y
value_is x y r s h = cc

pub rest_is : {A : Type 0} (x y : A) (r s : List ℕ) → ◌≡◌ {A = Read A} (got x r) (got y s) → r ≡ s
rest_is x y r s h = cc

pub fault_is : {A : Type 0} (k l : Fault) → ◌≡◌ {A = Read A} (stops k) (stops l) → k ≡ l
fault_is k l h = cc

-- a refusal says how many bytes are left
pub left_is : {A : Type 0} (item : Item) (left : ℕ) (fault : Fault) → ◌≡◌ {A = Read A} (refused item left) (stops fault) → left ≡ fault.left
left_is {A} item left fault h = ap (λ (f : Fault). f.left) (fault_is {A = A} (record { item = item; left = left }) fault h)

pub got-stops : {A : Type 0} (x : A) (r : List ℕ) (k : Fault) → ◌≡◌ {A = Read A} (got x r) (stops k) → ⊥
got-stops x r k h = cc

pub stops-got : {A : Type 0} (x : A) (r : List ℕ) (k : Fault) → ◌≡◌ {A = Read A} (stops k) (got x r) → ⊥
stops-got x r k h = cc

pub refused-got : {A : Type 0} (item : Item) (left : ℕ) (x : A) (r : List ℕ) → ◌≡◌ {A = Read A} (refused item left) (got x r) → ⊥
refused-got item left x r h = stops-got x r (record { item = item; left = left }) h

pub bind_got : {A B : Type 0} (r : Read A) (f : A → List ℕ → Read B) (y : B) (rest : List ℕ) → (r >>= f) ≡ got y rest → (x : A) × (mid : List ℕ) × (r ≡ got x mid) × (f x mid ≡ got y rest)
bind_got (got x mid) f y rest h = (x, mid, refl, h)
bind_got (stops k) f y rest h = absurd (stops-got y rest k h)

pub bind_stops : {A B : Type 0} (r : Read A) (f : A → List ℕ → Read B) (k : Fault) → (r >>= f) ≡ stops k → (r ≡ stops k) ⊎ ((x : A) × (mid : List ℕ) × (r ≡ got x mid) × (f x mid ≡ stops k))
bind_stops (got x mid) f k h = inr (x, mid, refl, h)
bind_stops (stops l) f k h = inl (ap stops (fault_is l k h))

-- what one relation takes another takes
pub decodes_as : {X : Type 0} (bound : ℕ) (P Q : X → List ℕ → Type 0) (at : List ℕ → Read X) → ((x : X) (text : List ℕ) → P x text → Q x text) → ((x : X) (text : List ℕ) → Q x text → P x text) → Decodes bound P at → Decodes bound Q at
decodes_as bound P Q at to back d = record {
  again = λ x front rest h. d.again x front rest (back x front h);
  taken = λ text rest x h. let t = d.taken text rest x h in record { front = t.front; whole = t.whole; spells = to x t.front t.spells };
  within = d.within;
}

pub continues_of : {X : Type 0} (bound : ℕ) (P : X → List ℕ → Type 0) (at : List ℕ → Read X) → Decodes bound P at → Continues bound P (λ left. at)
continues_of bound P at d = record {
  again = λ left. d.again;
  taken = λ left. d.taken;
  within = λ left text k h room. let under = d.within text k h in omega (arith, under, room);
}

-- a value, and nothing read
unfoldable pub Nothing : {X : Type 0} → X → X → List ℕ → Type 0
Nothing x y front = (x ≡ y) × (front ≡ [])

pub none_decodes : {X : Type 0} (bound : ℕ) (x : X) → Decodes bound (Nothing x) (none_at x)
unfolding Nothing
none_decodes bound x = record {
  again = λ y front rest h low. ap (λ (t : List ℕ). got x (t ++ rest)) h.1 ∙ ap (λ z. got z rest) h.0;
  taken = λ text rest y h. record { front = []; whole = rest_is x y text rest h; spells = (value_is x y text rest h, refl) };
  within = λ text left h. absurd (got-stops x text left h);
}

-- a value made of what is read
pub made_decodes : {X Y : Type 0} (bound : ℕ) (P : X → List ℕ → Type 0) (at : List ℕ → Read X) (make : X → Y) → Decodes bound P at → Decodes bound (Made P make) (made_at make at)
made_decodes bound P at make d = record {
  again = λ y front rest h low. ap (λ r. r >>= λ x behind. got (make x) behind) (d.again h.value front rest h.spelled low) ∙ ap (λ z. got z rest) h.makes;
  taken = λ text rest y h.
      let b = bind_got (at text) (λ x behind. got (make x) behind) y rest h in
      let t = d.taken text b.1 b.0 b.2 in
      record { front = t.front; whole = t.whole ∙ ap (λ r. t.front ++ r) (rest_is (make b.0) y b.1 rest b.3); spells = record { value = b.0; makes = value_is (make b.0) y b.1 rest b.3; spelled = t.spells } };
  within = λ text left h. elim (bind_stops (at text) (λ x behind. got (make x) behind) left h) [
    | inl first ↦ d.within text left first
    | inr b ↦ absurd (got-stops (make b.0) b.1 left b.3)
  ];
}

pub decodes_chain : {X Y : Type 0} (bound : ℕ) (R : Y → List ℕ → Type 0) (P : X → List ℕ → Type 0) (Q : X → Y → List ℕ → Type 0) (at : List ℕ → Read X) (next : ℕ → X → List ℕ → Read Y) → Splits R P Q → Decodes bound P at → ((x : X) → Continues bound (Q x) (λ left. next left x)) → Decodes bound R (λ text. at text >>= next (length text))
decodes_chain bound R P Q at next s d c = record {
  again = λ y front rest h low.
      let o = s.opens y front h in
      let p = o.1 in
      let split : front ++ rest ≡ p.front ++ (p.back ++ rest) = ap (λ t. t ++ rest) p.whole ∙ append_assoc p.front p.back rest in
      let first : length (p.front ++ (p.back ++ rest)) < bound = omega (arith, low, ap length split) in
      let second : length (p.back ++ rest) < bound = omega (arith, first, length-append p.front (p.back ++ rest)) in
      ap (λ t. at t >>= next (length t)) split
      ∙ ap (λ r. r >>= next (length (p.front ++ (p.back ++ rest)))) (d.again o.0 p.front (p.back ++ rest) p.first first)
      ∙ (c o.0).again (length (p.front ++ (p.back ++ rest))) y p.back rest p.second second;
  taken = λ text rest y h.
      let b = bind_got (at text) (next (length text)) y rest h in
      let t = d.taken text b.1 b.0 b.2 in
      let u = (c b.0).taken (length text) b.1 rest y b.3 in
      record {
        front = t.front ++ u.front;
        whole = t.whole ∙ ap (λ r. t.front ++ r) u.whole ∙ sym (append_assoc t.front u.front rest);
        spells = s.closes b.0 y (t.front ++ u.front) (record { front = t.front; back = u.front; whole = refl; first = t.spells; second = u.spells });
      };
  within = λ text k h. elim (bind_stops (at text) (next (length text)) k h) [
    | inl first ↦ d.within text k first
    | inr b ↦ (c b.0).within (length text) b.1 k b.3 (shorter (P b.0) text b.1 (d.taken text b.1 b.0 b.2))
  ];
}

-- the same behind a place that may be refused
pub continues_chain : {X Y : Type 0} (bound : ℕ) (R : Y → List ℕ → Type 0) (P : X → List ℕ → Type 0) (Q : X → Y → List ℕ → Type 0) (at : ℕ → List ℕ → Read X) (next : ℕ → X → List ℕ → Read Y) → Splits R P Q → Continues bound P at → ((x : X) → Continues bound (Q x) (λ left. next left x)) → Continues bound R (λ left text. at left text >>= next left)
continues_chain bound R P Q at next s d c = record {
  again = λ left y front rest h low.
      let o = s.opens y front h in
      let p = o.1 in
      let split : front ++ rest ≡ p.front ++ (p.back ++ rest) = ap (λ t. t ++ rest) p.whole ∙ append_assoc p.front p.back rest in
      let first : length (p.front ++ (p.back ++ rest)) < bound = omega (arith, low, ap length split) in
      let second : length (p.back ++ rest) < bound = omega (arith, first, length-append p.front (p.back ++ rest)) in
      ap (λ t. at left t >>= next left) split
      ∙ ap (λ r. r >>= next left) (d.again left o.0 p.front (p.back ++ rest) p.first first)
      ∙ (c o.0).again left y p.back rest p.second second;
  taken = λ left text rest y h.
      let b = bind_got (at left text) (next left) y rest h in
      let t = d.taken left text b.1 b.0 b.2 in
      let u = (c b.0).taken left b.1 rest y b.3 in
      record {
        front = t.front ++ u.front;
        whole = t.whole ∙ ap (λ r. t.front ++ r) u.whole ∙ sym (append_assoc t.front u.front rest);
        spells = s.closes b.0 y (t.front ++ u.front) (record { front = t.front; back = u.front; whole = refl; first = t.spells; second = u.spells });
      };
  within = λ left text k h room. elim (bind_stops (at left text) (next left) k h) [
    | inl first ↦ d.within left text k first room
    | inr b ↦ (c b.0).within left b.1 k b.3 (let fewer = shorter (P b.0) text b.1 (d.taken left text b.1 b.0 b.2) in omega (arith, fewer, room))
  ];
}

-- where what follows refuses no earlier place
pub decodes_then : {X Y : Type 0} (bound : ℕ) (R : Y → List ℕ → Type 0) (P : X → List ℕ → Type 0) (Q : X → Y → List ℕ → Type 0) (at : List ℕ → Read X) (next : X → List ℕ → Read Y) → Splits R P Q → Decodes bound P at → ((x : X) → Decodes bound (Q x) (next x)) → Decodes bound R (λ text. at text >>= next)
decodes_then bound R P Q at next s d c = decodes_chain bound R P Q at (λ left. next) s d (λ x. continues_of bound (Q x) (next x) (c x))

-- one value behind another
both_close : {X Y : Type 0} (P : X → List ℕ → Type 0) (Q : Y → List ℕ → Type 0) (x : X) (xy : X × Y) (text : List ℕ) → Parts (P x) (Made Q (λ y. (x, y)) xy) text → Both P Q xy text
both_close {X} {Y} P Q x xy text p =
    let R : X × Y → Type 0 = λ z. Both P Q z text in
    subst R p.second.makes (record { front = p.front; back = p.back; whole = p.whole; first = p.first; second = p.second.spelled })

both_splits : {X Y : Type 0} (P : X → List ℕ → Type 0) (Q : Y → List ℕ → Type 0) → Splits (Both P Q) P (λ x. Made Q (λ y. (x, y)))
both_splits P Q = record {
  opens = λ xy text h. (xy.0, record { front = h.front; back = h.back; whole = h.whole; first = h.first; second = record { value = xy.1; makes = refl; spelled = h.second } });
  closes = both_close P Q;
}

pub both_decodes : {X Y : Type 0} (bound : ℕ) (P : X → List ℕ → Type 0) (Q : Y → List ℕ → Type 0) (first : List ℕ → Read X) (second : List ℕ → Read Y) → Decodes bound P first → Decodes bound Q second → Decodes bound (Both P Q) (both_at first second)
both_decodes bound P Q first second d e = decodes_then bound (Both P Q) P (λ x. Made Q (λ y. (x, y))) first (λ x rest. second rest >>= λ y behind. got (x, y) behind) (both_splits P Q) d (λ x. made_decodes bound Q second (λ y. (x, y)) e)

-- numbers

number_got : {X : Type 0} (item : Item) (left : ℕ) (rest : List ℕ) (n : X) (o : Option (X × List ℕ)) → number item left o ≡ got n rest → o ≡ Some (n, rest)
number_got item left rest n None h = absurd (refused-got item left n rest h)
number_got {X} item left rest n (Some x) h =
    let e = value_is x.0 n x.1 rest h in
    let f = rest_is x.0 n x.1 rest h in
    ap (λ (m : X). Some (m, x.1)) e ∙ ap (λ (r : List ℕ). Some (n, r)) f

number_within : {X : Type 0} (item : Item) (left : ℕ) (fault : Fault) (o : Option (X × List ℕ)) → number item left o ≡ stops fault → fault.left ≡ left
number_within item left fault None h = sym (left_is item left fault h)
number_within item left fault (Some x) h = absurd (got-stops x.0 x.1 fault h)

pub u32_decodes : (bound : ℕ) (item : Item) → Decodes bound SpellsU32 (u32_as item)
u32_decodes bound item = record {
  again = λ n front rest h low. ap (number item (length (front ++ rest))) (unsigned_again 32 front rest n h);
  taken = λ text rest n h. let t = unsigned_taken 32 text rest n (number_got item (length text) rest n (unsigned_at 32 text) h) in record { front = t.0; whole = t.1; spells = t.2 };
  within = λ text fault h. let e = number_within item (length text) fault (unsigned_at 32 text) h in omega (arith, e);
}

pub u32_continues : (bound : ℕ) (item : Item) → Continues bound SpellsU32 (λ left text. number item left (unsigned_at 32 text))
u32_continues bound item = record {
  again = λ left n front rest h low. ap (number item left) (unsigned_again 32 front rest n h);
  taken = λ left text rest n h. let t = unsigned_taken 32 text rest n (number_got item left rest n (unsigned_at 32 text) h) in record { front = t.0; whole = t.1; spells = t.2 };
  within = λ left text fault h room. let e = number_within item left fault (unsigned_at 32 text) h in omega (arith, e);
}

signed_decodes : (bound bits : ℕ) (item : Item) → Decodes bound (λ z text. IsSigned bits text z) (λ text. number item (length text) (signed_at bits text))
signed_decodes bound bits item = record {
  again = λ z front rest h low. ap (number item (length (front ++ rest))) (signed_again bits front rest z h);
  taken = λ text rest z h. let t = signed_taken bits text rest z (number_got item (length text) rest z (signed_at bits text) h) in record { front = t.0; whole = t.1; spells = t.2 };
  within = λ text fault h. let e = number_within item (length text) fault (signed_at bits text) h in omega (arith, e);
}

pub s32_decodes : (bound : ℕ) → Decodes bound SpellsS32 s32_at
s32_decodes bound = signed_decodes bound 32 Number

pub s64_decodes : (bound : ℕ) → Decodes bound SpellsS64 s64_at
s64_decodes bound = signed_decodes bound 64 Number

some_is : {A : Type 0} (x y : A) → ◌≡◌ {A = Option A} (Some x) (Some y) → x ≡ y
some_is x y h = cc

natural_some : (z : ℤ) (behind rest : List ℕ) (n : ℕ) → natural z behind ≡ Some (n, rest) → (z ≡ pos n) × (behind ≡ rest)
natural_some (pos m) behind rest n h =
    let e : (m, behind) ≡ (n, rest) = some_is (m, behind) (n, rest) h in
    (ap (λ (p : ℕ × List ℕ). pos p.0) e, ap (λ (p : ℕ × List ℕ). p.1) e)
natural_some (negsuc m) behind rest n h = absurd (let e : ⊥ = cc in e)

not_negative_some : (o : Option (ℤ × List ℕ)) (rest : List ℕ) (n : ℕ) → not_negative o ≡ Some (n, rest) → o ≡ Some (pos n, rest)
not_negative_some None rest n h = absurd (let e : ⊥ = cc in e)
not_negative_some (Some x) rest n h =
    let s = natural_some x.0 x.1 rest n h in
    ap (λ (z : ℤ). Some (z, x.1)) s.0 ∙ ap (λ (r : List ℕ). Some (pos n, r)) s.1

-- a front that is not empty begins as the text does
pub head_is : (b : ℕ) (text front rest : List ℕ) → b ∷ text ≡ front ++ rest → 0 < length front → (more : List ℕ) × (front ≡ b ∷ more) × (text ≡ more ++ rest)
head_is b text [] rest h long = absurd (omega (arith, long))
head_is b text (c ∷ more) rest h long =
    let same : b ≡ c = cc in
    let behind : text ≡ more ++ rest = cc in
    (more, ap (λ d. d ∷ more) (sym same), behind)

pub s33_continues : (bound byte : ℕ) → Continues bound (λ n front. SpellsS33 n (byte ∷ front)) (λ left. s33_head left byte)
s33_continues bound byte = record {
  again = λ left n front rest h low. ap (λ o. number TypeStart left (not_negative o)) (signed_again 33 (byte ∷ front) rest (pos n) h);
  taken = λ left text rest n h.
      let t = signed_taken 33 (byte ∷ text) rest (pos n) (not_negative_some (signed_at 33 (byte ∷ text)) rest n (number_got TypeStart left rest n (not_negative (signed_at 33 (byte ∷ text))) h)) in
      let f = head_is byte text t.0 rest t.1 (signed_bytes 33 t.0 (pos n) t.2).1 in
      record { front = f.0; whole = f.2; spells = let P : List ℕ → Type 0 = λ r. SpellsS33 n r in subst P f.1 t.2 };
  within = λ left text fault h room. let e = number_within TypeStart left fault (not_negative (signed_at 33 (byte ∷ text))) h in omega (arith, e);
}

-- one fixed byte
after_taken : {X : Type 0} (bound : ℕ) (item : Item) (byte : ℕ) (P : X → List ℕ → Type 0) (at : List ℕ → Read X) → Decodes bound P at → (text rest : List ℕ) (x : X) → after item byte at text ≡ got x rest → Takes (Begins byte (P x)) text rest
after_taken bound item byte P at d [] rest x h = absurd (refused-got item 0 x rest h)
after_taken bound item byte P at d (b ∷ text) rest x h = elim (cases_Bool (nat_eq b byte)) [
  | inl is ↦ (
      let t = d.taken text rest x (sym (cond-true (nat_eq b byte) (at text) (refused item (length (b ∷ text))) is) ∙ h) in
      record { front = b ∷ t.front; whole = ap (λ r. b ∷ r) t.whole; spells = record { back = t.front; whole = ap (λ c. c ∷ t.front) (is_eq b byte is); rest = t.spells } })
  | inr isnt ↦ absurd (refused-got item (length (b ∷ text)) x rest (sym (cond-false (nat_eq b byte) (at text) (refused item (length (b ∷ text))) isnt) ∙ h))
]

after_within : {X : Type 0} (bound : ℕ) (item : Item) (byte : ℕ) (P : X → List ℕ → Type 0) (at : List ℕ → Read X) → Decodes bound P at → (text : List ℕ) (fault : Fault) → after item byte at text ≡ stops fault → fault.left ≤ length text
after_within {X} bound item byte P at d [] k h = omega (arith, left_is {A = X} item 0 k h)
after_within {X} bound item byte P at d (b ∷ text) k h = elim (cases_Bool (nat_eq b byte)) [
  | inl is ↦ (let w = d.within text k (sym (cond-true (nat_eq b byte) (at text) (refused item (length (b ∷ text))) is) ∙ h) in omega (arith, w))
  | inr isnt ↦ (let e = left_is {A = X} item (length (b ∷ text)) k (sym (cond-false (nat_eq b byte) (at text) (refused item (length (b ∷ text))) isnt) ∙ h) in omega (arith, e))
]

after_again : {X : Type 0} (bound : ℕ) (item : Item) (byte : ℕ) (P : X → List ℕ → Type 0) (at : List ℕ → Read X) → Decodes bound P at → (x : X) (front rest : List ℕ) → Begins byte (P x) front → length (front ++ rest) < bound → after item byte at (front ++ rest) ≡ got x rest
after_again bound item byte P at d x front rest h low =
    let split : front ++ rest ≡ byte ∷ (h.back ++ rest) = ap (λ t. t ++ rest) h.whole in
    ap (after item byte at) split
    ∙ cond-true (nat_eq byte byte) (at (h.back ++ rest)) (refused item (length (byte ∷ (h.back ++ rest)))) (eq_is byte byte refl)
    ∙ d.again x h.back rest h.rest (omega (arith, low, ap length split))

pub after_decodes : {X : Type 0} (bound : ℕ) (item : Item) (byte : ℕ) (P : X → List ℕ → Type 0) (at : List ℕ → Read X) → Decodes bound P at → Decodes bound (λ x. Begins byte (P x)) (after item byte at)
after_decodes bound item byte P at d = record {
  again = after_again bound item byte P at d;
  taken = after_taken bound item byte P at d;
  within = after_within bound item byte P at d;
}

-- what is behind a first byte or number, by what that is

unfoldable pub Heads : {X : Type 0} → ℕ → (ℕ → X → List ℕ → Type 0) → (ℕ → ℕ → List ℕ → Read X) → Type 0
Heads bound R d = (c : ℕ) → Continues bound (R c) (λ left. d left c)

-- a first byte, and what R takes of it behind it
pub record Headed {X : Type 0} (R : ℕ → X → List ℕ → Type 0) (x : X) (text : List ℕ) : Type 0 where
  pub code : ℕ
  pub back : List ℕ
  pub whole : text ≡ code ∷ back
  pub rest : R code x back

headed_taken : {X : Type 0} (bound : ℕ) (item : Item) (R : ℕ → X → List ℕ → Type 0) (d : ℕ → ℕ → List ℕ → Read X) → Heads bound R d → (text rest : List ℕ) (x : X) → headed_at item d text ≡ got x rest → Takes (Headed R x) text rest
unfolding Heads
headed_taken bound item R d heads [] rest x h = absurd (refused-got item 0 x rest h)
headed_taken bound item R d heads (b ∷ text) rest x h =
    let t = (heads b).taken (suc (length text)) text rest x h in
    record { front = b ∷ t.front; whole = ap (λ r. b ∷ r) t.whole; spells = record { code = b; back = t.front; whole = refl; rest = t.spells } }

headed_within : {X : Type 0} (bound : ℕ) (item : Item) (R : ℕ → X → List ℕ → Type 0) (d : ℕ → ℕ → List ℕ → Read X) → Heads bound R d → (text : List ℕ) (fault : Fault) → headed_at item d text ≡ stops fault → fault.left ≤ length text
unfolding Heads
headed_within {X} bound item R d heads [] fault h = omega (arith, left_is {A = X} item 0 fault h)
headed_within bound item R d heads (b ∷ text) fault h =
    let room : length text ≤ suc (length text) = omega arith in
    let w = (heads b).within (suc (length text)) text fault h room in omega (arith, w)

headed_again : {X : Type 0} (bound : ℕ) (item : Item) (R : ℕ → X → List ℕ → Type 0) (d : ℕ → ℕ → List ℕ → Read X) → Heads bound R d → (x : X) (front rest : List ℕ) → Headed R x front → length (front ++ rest) < bound → headed_at item d (front ++ rest) ≡ got x rest
unfolding Heads
headed_again bound item R d heads x front rest h low =
    let split : front ++ rest ≡ h.code ∷ (h.back ++ rest) = ap (λ t. t ++ rest) h.whole in
    ap (headed_at item d) split ∙ (heads h.code).again (suc (length (h.back ++ rest))) x h.back rest h.rest (omega (arith, low, ap length split))

pub headed_decodes : {X : Type 0} (bound : ℕ) (item : Item) (R : ℕ → X → List ℕ → Type 0) (d : ℕ → ℕ → List ℕ → Read X) → Heads bound R d → Decodes bound (Headed R) (headed_at item d)
headed_decodes bound item R d heads = record {
  again = headed_again bound item R d heads;
  taken = headed_taken bound item R d heads;
  within = headed_within bound item R d heads;
}

-- what is behind the first byte is shorter
pub headed_lower : {X : Type 0} (bound lower : ℕ) (item : Item) (R : ℕ → X → List ℕ → Type 0) (d : ℕ → ℕ → List ℕ → Read X) → bound ≤ suc lower → Heads lower R d → Decodes bound (Headed R) (headed_at item d)
unfolding Heads
headed_lower bound lower item R d fits heads = record {
  again = λ x front rest h low.
      let split : front ++ rest ≡ h.code ∷ (h.back ++ rest) = ap (λ t. t ++ rest) h.whole in
      ap (headed_at item d) split ∙ (heads h.code).again (suc (length (h.back ++ rest))) x h.back rest h.rest (omega (arith, low, fits, ap length split));
  taken = headed_taken lower item R d heads;
  within = headed_within lower item R d heads;
}

-- a number, and what R takes of it behind it
unfoldable pub NumberedBy : {X : Type 0} → (ℕ → X → List ℕ → Type 0) → X → List ℕ → Type 0
NumberedBy R x text = (n : ℕ) × Parts (SpellsU32 n) (R n x) text

pub numbered_decodes : {X : Type 0} (bound : ℕ) (item : Item) (R : ℕ → X → List ℕ → Type 0) (d : ℕ → ℕ → List ℕ → Read X) → Heads bound R d → Decodes bound (NumberedBy R) (numbered_at item d)
unfolding Heads NumberedBy
numbered_decodes bound item R d heads = decodes_chain bound (NumberedBy R) SpellsU32 R (u32_as item) d (record { opens = λ y text h. h; closes = λ n y text p. (n, p) }) (u32_decodes bound item) heads

-- the first row, or the others
unfoldable pub Row : {X : Type 0} → ℕ → (X → List ℕ → Type 0) → (ℕ → X → List ℕ → Type 0) → ℕ → X → List ℕ → Type 0
Row b P R c x front = ((c ≡ b) × P x front) ⊎ ((nat_eq c b ≡ false) × R c x front)

-- no row is left
unfoldable pub NoRow : {X : Type 0} → ℕ → X → List ℕ → Type 0
NoRow c x front = ⊥

pub no_row_heads : (X : Type 0) (bound : ℕ) (item : Item) → Heads bound (NoRow {X = X}) (λ left c other. refused item left)
unfolding Heads NoRow
no_row_heads X bound item c = record {
  again = λ left x front rest h low. absurd h;
  taken = λ left text rest x h. absurd (refused-got item left x rest h);
  within = λ left text fault h room. let e = left_is {A = X} item left fault h in omega (arith, e);
}

at_true : {X : Type 0} (t : List ℕ) (b : Bool) (p q : List ℕ → Read X) → b ≡ true → cond b p q t ≡ p t
at_true t b p q is = ap (λ f. f t) (cond-true b p q is)

at_false : {X : Type 0} (t : List ℕ) (b : Bool) (p q : List ℕ → Read X) → b ≡ false → cond b p q t ≡ q t
at_false t b p q isnt = ap (λ f. f t) (cond-false b p q isnt)

row_again : {X : Type 0} (bound b : ℕ) (P : X → List ℕ → Type 0) (at : ℕ → List ℕ → Read X) (R : ℕ → X → List ℕ → Type 0) (d : ℕ → ℕ → List ℕ → Read X) → Continues bound P at → Heads bound R d → (c left : ℕ) (x : X) (front rest : List ℕ) → Row b P R c x front → length (front ++ rest) < bound → cond (nat_eq c b) (at left) (d left c) (front ++ rest) ≡ got x rest
unfolding Heads Row
row_again bound b P at R d p heads c left x front rest (inl is) low = at_true (front ++ rest) (nat_eq c b) (at left) (d left c) (eq_is c b is.0) ∙ p.again left x front rest is.1 low
row_again bound b P at R d p heads c left x front rest (inr isnt) low = at_false (front ++ rest) (nat_eq c b) (at left) (d left c) isnt.0 ∙ (heads c).again left x front rest isnt.1 low

-- a row that may refuse the place of the code
pub left_heads : {X : Type 0} (bound b : ℕ) (P : X → List ℕ → Type 0) (at : ℕ → List ℕ → Read X) (R : ℕ → X → List ℕ → Type 0) (d : ℕ → ℕ → List ℕ → Read X) → Continues bound P at → Heads bound R d → Heads bound (Row b P R) (λ left c. cond (nat_eq c b) (at left) (d left c))
unfolding Heads Row
left_heads bound b P at R d p heads c = record {
  again = λ left x front rest h low. row_again bound b P at R d p heads c left x front rest h low;
  taken = λ left text rest x h. elim (cases_Bool (nat_eq c b)) [
    | inl is ↦ (let t = p.taken left text rest x (sym (at_true text (nat_eq c b) (at left) (d left c) is) ∙ h) in record { front = t.front; whole = t.whole; spells = inl (is_eq c b is, t.spells) })
    | inr isnt ↦ (let t = (heads c).taken left text rest x (sym (at_false text (nat_eq c b) (at left) (d left c) isnt) ∙ h) in record { front = t.front; whole = t.whole; spells = inr (isnt, t.spells) })
  ];
  within = λ left text fault h room. elim (cases_Bool (nat_eq c b)) [
    | inl is ↦ p.within left text fault (sym (at_true text (nat_eq c b) (at left) (d left c) is) ∙ h) room
    | inr isnt ↦ (heads c).within left text fault (sym (at_false text (nat_eq c b) (at left) (d left c) isnt) ∙ h) room
  ];
}

pub row_heads : {X : Type 0} (bound b : ℕ) (P : X → List ℕ → Type 0) (at : List ℕ → Read X) (R : ℕ → X → List ℕ → Type 0) (d : ℕ → ℕ → List ℕ → Read X) → Decodes bound P at → Heads bound R d → Heads bound (Row b P R) (λ left c. cond (nat_eq c b) at (d left c))
row_heads bound b P at R d p heads = left_heads bound b P (λ left. at) R d (continues_of bound P at p) heads

-- what is made of what stands behind a first byte or number
pub made_continues : {X Y : Type 0} (bound : ℕ) (P : X → List ℕ → Type 0) (next : ℕ → List ℕ → Read X) (make : X → Y) → Continues bound P next → Continues bound (Made P make) (λ left. made_at make (next left))
made_continues bound P next make d = record {
  again = λ left y front rest h low. ap (λ r. r >>= λ x behind. got (make x) behind) (d.again left h.value front rest h.spelled low) ∙ ap (λ z. got z rest) h.makes;
  taken = λ left text rest y h.
      let b = bind_got (next left text) (λ x behind. got (make x) behind) y rest h in
      let t = d.taken left text b.1 b.0 b.2 in
      record { front = t.front; whole = t.whole ∙ ap (λ r. t.front ++ r) (rest_is (make b.0) y b.1 rest b.3); spells = record { value = b.0; makes = value_is (make b.0) y b.1 rest b.3; spelled = t.spells } };
  within = λ left text fault h room. elim (bind_stops (next left text) (λ x behind. got (make x) behind) fault h) [
    | inl first ↦ d.within left text fault first room
    | inr b ↦ absurd (got-stops (make b.0) b.1 fault b.3)
  ];
}

unfoldable pub MadeBy : {X Y : Type 0} → (ℕ → X → List ℕ → Type 0) → (X → Y) → ℕ → Y → List ℕ → Type 0
MadeBy R make c y front = Made (R c) make y front

pub made_heads : {X Y : Type 0} (bound : ℕ) (R : ℕ → X → List ℕ → Type 0) (d : ℕ → ℕ → List ℕ → Read X) (make : X → Y) → Heads bound R d → Heads bound (MadeBy R make) (λ left c. made_at make (d left c))
unfolding Heads MadeBy
made_heads bound R d make heads c = made_continues bound (R c) (λ left. d left c) make (heads c)

-- nothing has this first byte
unfoldable pub Void : {X : Type 0} → (ℕ → X → List ℕ → Type 0) → ℕ → Type 0
Void {X} R b = (x : X) (front : List ℕ) → R b x front → ⊥

pub no_row_void : (X : Type 0) (b : ℕ) → Void (NoRow {X = X}) b
unfolding Void NoRow
no_row_void X b x front h = h

row_not : (b c : ℕ) → nat_eq b c ≡ false → b ≡ c → ⊥
row_not b c isnt is = let e : true ≡ false = sym (eq_is b c is) ∙ isnt in let f : ⊥ = cc in f

pub row_void : {X : Type 0} (b c : ℕ) (P : X → List ℕ → Type 0) (R : ℕ → X → List ℕ → Type 0) → nat_eq b c ≡ false → Void R b → Void (Row c P R) b
unfolding Void Row
row_void b c P R isnt v x front (inl is) = row_not b c isnt is.0
row_void b c P R isnt v x front (inr h) = v x front h.1

pub made_void : {X Y : Type 0} (b : ℕ) (R : ℕ → X → List ℕ → Type 0) (make : X → Y) → Void R b → Void (MadeBy R make) b
unfolding Void MadeBy
made_void b R make v y front h = v h.value front h.spelled

-- what has a first byte has not this one
pub avoids : {X : Type 0} (b c : ℕ) (R : ℕ → X → List ℕ → Type 0) (x : X) (front : List ℕ) → Void R b → R c x front → nat_eq c b ≡ false
unfolding Void
avoids b c R x front v h = elim (cases_Bool (nat_eq c b)) [
  | inl is ↦ absurd (let P : ℕ → Type 0 = λ n. R n x front in v x front (subst P (is_eq c b is) h))
  | inr isnt ↦ isnt
]

-- so many items
unfoldable pub Items : {X : Type 0} → (X → List ℕ → Type 0) → ℕ → List X → List ℕ → Type 0
Items P n xs text = (length xs ≡ n) × SpellsItems P xs text

items_open : {X : Type 0} (P : X → List ℕ → Type 0) (n : ℕ) (xs : List X) (text : List ℕ) → Items P (suc n) xs text → (x : X) × Parts (P x) (Made (Items P n) (λ ys. x ∷ ys) xs) text
unfolding Items
items_open P n [] text h = absurd (omega (arith, h.0))
items_open P n (x ∷ xs) text h = (x, record { front = h.1.front; back = h.1.back; whole = h.1.whole; first = h.1.first; second = record { value = xs; makes = refl; spelled = (omega (arith, h.0), h.1.second) } })

items_close : {X : Type 0} (P : X → List ℕ → Type 0) (n : ℕ) (x : X) (xs : List X) (text : List ℕ) → Parts (P x) (Made (Items P n) (λ ys. x ∷ ys) xs) text → Items P (suc n) xs text
unfolding Items
items_close P n x xs text p = subst (λ ys. Items P (suc n) ys text) p.second.makes (omega (arith, p.second.spelled.0), record { front = p.front; back = p.back; whole = p.whole; first = p.first; second = p.second.spelled.1 })

none_items : {X : Type 0} (P : X → List ℕ → Type 0) (xs : List X) (text : List ℕ) → Items P 0 xs text → Nothing [] xs text
unfolding Items Nothing
none_items P [] text h = (refl, h.1)
none_items P (x ∷ xs) text h = absurd (omega (arith, h.0))

items_none : {X : Type 0} (P : X → List ℕ → Type 0) (xs : List X) (text : List ℕ) → Nothing [] xs text → Items P 0 xs text
unfolding Items Nothing
items_none P xs text h = subst (λ ys. Items P 0 ys text) h.0 (refl, h.1)

pub items_decode : {X : Type 0} (bound : ℕ) (P : X → List ℕ → Type 0) (item : List ℕ → Read X) → Decodes bound P item → (n : ℕ) → Decodes bound (Items P n) (items_at item n)
items_decode bound P item d zero = decodes_as bound (Nothing []) (Items P 0) (none_at []) (items_none P) (none_items P) (none_decodes bound [])
items_decode bound P item d (suc n) = decodes_then bound (Items P (suc n)) P (λ x. Made (Items P n) (λ ys. x ∷ ys)) item (λ x rest. items_at item n rest >>= λ xs behind. got (x ∷ xs) behind)
    (record { opens = items_open P n; closes = items_close P n })
    d
    (λ x. made_decodes bound (Items P n) (items_at item n) (λ ys. x ∷ ys) (items_decode bound P item d n))

pub vector_splits : {X : Type 0} (P : X → List ℕ → Type 0) → Splits (SpellsVector P) SpellsU32 (Items P)
unfolding Items
vector_splits P = record {
  opens = λ xs text h. (length xs, record { front = h.front; back = h.back; whole = h.whole; first = h.first; second = (refl, h.second) });
  closes = λ n xs text p. let Q : ℕ → Type 0 = λ m. SpellsU32 m p.front in record { front = p.front; back = p.back; whole = p.whole; first = subst Q (sym p.second.0) p.first; second = p.second.1 };
}

pub vector_decodes : {X : Type 0} (bound : ℕ) (P : X → List ℕ → Type 0) (item : List ℕ → Read X) → Decodes bound P item → Decodes bound (SpellsVector P) (vector_at item)
vector_decodes bound P item d = decodes_then bound (SpellsVector P) SpellsU32 (Items P) u32_at (λ count rest. items_at item count rest) (vector_splits P) (u32_decodes bound Number) (items_decode bound P item d)

-- a content of so many bytes
unfoldable pub Content : {X : Type 0} → (X → List ℕ → Type 0) → ℕ → X → List ℕ → Type 0
Content P size x front = (length front ≡ size) × P x front

pub whole_got : {X : Type 0} (behind : List ℕ) (r : Read X) (x : X) (rest : List ℕ) → whole behind r ≡ got x rest → (r ≡ got x []) × (behind ≡ rest)
whole_got behind (got y []) x rest h = (ap (λ z. got z []) (value_is y x behind rest h), rest_is y x behind rest h)
whole_got behind (got y (b ∷ more)) x rest h = absurd (refused-got End (length (b ∷ more) + length behind) x rest h)
whole_got behind (stops k) x rest h = absurd (stops-got x rest (before behind k) h)

whole_stops : {X : Type 0} (behind : List ℕ) (r : Read X) (k : Fault) (n : ℕ) → whole behind r ≡ stops k → ((x : X) (more : List ℕ) → r ≡ got x more → length more ≤ n) → ((l : Fault) → r ≡ stops l → l.left ≤ n) → k.left ≤ n + length behind
whole_stops behind (got y []) k n h f g = absurd (got-stops y behind k h)
whole_stops {X} behind (got y (b ∷ more)) k n h f g = let e = left_is {A = X} End (length (b ∷ more) + length behind) k h in let w = f y (b ∷ more) refl in omega (arith, e, w)
whole_stops {X} behind (stops l) k n h f g = let e = left_is {A = X} l.item (l.left + length behind) k h in let w = g l refl in omega (arith, e, w)

-- reading of a whole content
pub record Fills {X : Type 0} (bound : ℕ) (P : X → List ℕ → Type 0) (at : List ℕ → Read X) : Type 0 where
  pub again : (x : X) (text : List ℕ) → P x text → length text < bound → at text ≡ got x []
  pub taken : (text : List ℕ) (x : X) → at text ≡ got x [] → P x text
  pub fewer : (text rest : List ℕ) (x : X) → at text ≡ got x rest → length rest ≤ length text
  pub within : (text : List ℕ) (fault : Fault) → at text ≡ stops fault → fault.left ≤ length text

pub fills_of : {X : Type 0} (bound : ℕ) (P : X → List ℕ → Type 0) (at : List ℕ → Read X) → Decodes bound P at → Fills bound P at
fills_of bound P at d = record {
  again = λ x text h low. ap at (sym (append-nil text)) ∙ d.again x text [] h (omega (arith, low, length-append text []));
  taken = λ text x h. let t = d.taken text [] x h in subst (P x) (sym (t.whole ∙ append-nil t.front)) t.spells;
  fewer = λ text rest x h. shorter (P x) text rest (d.taken text rest x h);
  within = d.within;
}

content_again : {X : Type 0} (bound : ℕ) (P : X → List ℕ → Type 0) (inside : List ℕ → Read X) (d : Fills bound P inside) (left size : ℕ) (x : X) (front rest : List ℕ) → length front ≡ size → P x front → length (front ++ rest) < bound → content_at inside left size (front ++ rest) ≡ got x rest
content_again bound P inside d left size x front rest e h low =
    cond-false (nat_lt (length (front ++ rest)) size) (refused Size left) (whole (drop size (front ++ rest)) (inside (take size (front ++ rest)))) (below_not (length (front ++ rest)) size (omega (arith, e, length-append front rest)))
    ∙ ap (λ n. whole (drop n (front ++ rest)) (inside (take n (front ++ rest)))) (sym e)
    ∙ ap (λ t. whole t (inside (take (length front) (front ++ rest)))) (drop-append_seam front rest)
    ∙ ap (λ t. whole rest (inside t)) (take-append_seam front rest)
    ∙ ap (whole rest) (d.again x front h (omega (arith, low, length-append front rest)))

content_taken : {X : Type 0} (bound : ℕ) (P : X → List ℕ → Type 0) (inside : List ℕ → Read X) (d : Fills bound P inside) (left size : ℕ) (text rest : List ℕ) (x : X) → content_at inside left size text ≡ got x rest → Takes (Content P size x) text rest
unfolding Content
content_taken bound P inside d left size text rest x h = elim (cases_Bool (nat_lt (length text) size)) [
  | inl short ↦ absurd (refused-got Size left x rest (sym (cond-true (nat_lt (length text) size) (refused Size left) (whole (drop size text) (inside (take size text))) short) ∙ h))
  | inr enough ↦ (
      let w = whole_got (drop size text) (inside (take size text)) x rest (sym (cond-false (nat_lt (length text) size) (refused Size left) (whole (drop size text) (inside (take size text))) enough) ∙ h) in
      record {
        front = take size text;
        whole = sym (take-append-drop size text) ∙ ap (λ r. take size text ++ r) w.1;
        spells = (length-take-le size text (not_below (length text) size enough), d.taken (take size text) x w.0);
      })
]

content_within : {X : Type 0} (bound : ℕ) (P : X → List ℕ → Type 0) (inside : List ℕ → Read X) (d : Fills bound P inside) (left size : ℕ) (text : List ℕ) (k : Fault) → content_at inside left size text ≡ stops k → length text ≤ left → k.left ≤ left
content_within {X} bound P inside d left size text k h room = elim (cases_Bool (nat_lt (length text) size)) [
  | inl short ↦ (let e = left_is {A = X} Size left k (sym (cond-true (nat_lt (length text) size) (refused Size left) (whole (drop size text) (inside (take size text))) short) ∙ h) in omega (arith, e))
  | inr enough ↦ (
      let fits : size ≤ length text = not_below (length text) size enough in
      let w = whole_stops (drop size text) (inside (take size text)) k (length (take size text)) (sym (cond-false (nat_lt (length text) size) (refused Size left) (whole (drop size text) (inside (take size text))) enough) ∙ h)
      (λ x more e. d.fewer (take size text) more x e)
      (λ l e. d.within (take size text) l e) in
      omega (arith, w, room, fits, length-take-le size text fits, length-drop size text))
]

content_continues : {X : Type 0} (bound : ℕ) (P : X → List ℕ → Type 0) (inside : List ℕ → Read X) → Fills bound P inside → (size : ℕ) → Continues bound (Content P size) (λ left. content_at inside left size)
unfolding Content
content_continues bound P inside d size = record {
  again = λ left x front rest h low. content_again bound P inside d left size x front rest h.0 h.1 low;
  taken = λ left. content_taken bound P inside d left size;
  within = λ left. content_within bound P inside d left size;
}

sized_splits : {X : Type 0} (P : X → List ℕ → Type 0) → Splits (λ x. Sized (P x)) SpellsU32 (Content P)
unfolding Content
sized_splits P = record {
  opens = λ x text h. (length h.content, record { front = h.size; back = h.content; whole = h.whole; first = h.counts; second = (refl, h.inside) });
  closes = λ n x text h. record { size = h.front; content = h.back; whole = h.whole; counts = subst (λ m. SpellsU32 m h.front) (sym h.second.0) h.first; inside = h.second.1 };
}

pub sized_fills : {X : Type 0} (bound : ℕ) (P : X → List ℕ → Type 0) (inside : List ℕ → Read X) → Fills bound P inside → Decodes bound (λ x. Sized (P x)) (sized_at inside)
sized_fills bound P inside d = decodes_chain bound (λ x. Sized (P x)) SpellsU32 (Content P) (u32_as Size) (λ left size rest. content_at inside left size rest) (sized_splits P) (u32_decodes bound Size) (content_continues bound P inside d)

pub sized_decodes : {X : Type 0} (bound : ℕ) (P : X → List ℕ → Type 0) (inside : List ℕ → Read X) → Decodes bound P inside → Decodes bound (λ x. Sized (P x)) (sized_at inside)
sized_decodes bound P inside d = sized_fills bound P inside (fills_of bound P inside d)
