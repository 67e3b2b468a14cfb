-- Bytes that move in several pieces, one after the other.
use Rattle.std.proofs.Common.{◌≡◌, ℕ, ◌+◌, ◌<◌, ◌≤◌, List, [], ◌++◌, length, take, drop, Option, Some, None, refl, sym, ap, ◌∙◌, subst, append_assoc, take-add, length-append, arith}
use Rattle.std.proofs.lemmas.Grind.{common_steps}
use Rattle.std.proofs.lemmas.List.{take-append-drop, take-append-le, append-nil, length-take}
use Rattle.std.proofs.Math.Seq.{take-append-add}
use Rattle.gu_outside.specs.Outside.{Taken, TakenAtMost, Moved, IsEnd, Appended, Added, PrefixAdded}

-- nothing was put
pub Appended-nil : (held : Option (List ℕ)) → Appended held held []
Appended-nil None = refl
Appended-nil (Some xs) = grind (arith, common_steps)

-- two appends are one of both
pub Appended-append : (before mid after : Option (List ℕ)) (xs ys : List ℕ) → Appended before mid xs → Appended mid after ys → Appended before after (xs ++ ys)
Appended-append None mid after xs ys p q = subst (λ (o : Option (List ℕ)). Appended o after ys) p q
Appended-append (Some zs) mid after xs ys p q =
    let last : Appended (Some (zs ++ xs)) after ys = subst (λ (o : Option (List ℕ)). Appended o after ys) p q
    in last ∙ ap Some (append_assoc zs xs ys)

-- a beginning of what comes second, behind all of what comes first, is a beginning of both
pub PrefixAdded-append : (before mid after : Option (List ℕ)) (xs ys : List ℕ) → Appended before mid xs → PrefixAdded mid after ys → PrefixAdded before after (xs ++ ys)
PrefixAdded-append before mid after xs ys p q =
    let fewer : length xs + q.0 < length (xs ++ ys) = omega (arith, length-append xs ys, q.1)
    in (length xs + q.0, fewer, rw (take-append-add xs ys q.0) (Appended-append before mid after xs (take q.0 ys) p q.2))

-- a beginning of what comes first is a beginning of both
pub PrefixAdded-more : (before after : Option (List ℕ)) (xs ys : List ℕ) → PrefixAdded before after xs → PrefixAdded before after (xs ++ ys)
PrefixAdded-more before after xs ys p =
    let fewer : p.0 < length (xs ++ ys) = omega (arith, length-append xs ys, p.1)
    in let within : p.0 ≤ length xs = omega (arith, p.1)
    in (p.0, fewer, rw (take-append-le {A = ℕ}) p.2)

-- the first i bytes, and then n bytes of the rest, are the first i + n
pub Added-add : (before mid after : Option (List ℕ)) (bytes : List ℕ) (i n : ℕ) → Added before mid bytes i → Added mid after (drop i bytes) n → Added before after bytes (i + n)
Added-add before mid after bytes i n p q =
    rw (take-add i n bytes) (Appended-append before mid after (take i bytes) (take n (drop i bytes)) p q)

-- nothing was taken
pub Taken-nil : (left : Option (List ℕ)) → Taken left left []
Taken-nil None = refl
Taken-nil (Some xs) = (xs, refl, refl)

-- what moved into a piece was taken
pub Taken-Moved : (before after : Option (List ℕ)) (piece : List ℕ) (n : ℕ) → Moved before after piece n → Taken before after (take n piece)
Taken-Moved None after piece n m = m
Taken-Moved (Some xs) after piece n m = (drop n xs, m.1, rw m.2 (sym (take-append-drop n xs)))

-- what was taken twice was taken in one
pub Taken-append : (before mid after : Option (List ℕ)) (xs ys : List ℕ) → Taken before mid xs → Taken mid after ys → Taken before after (xs ++ ys)
Taken-append None mid after xs ys p q = subst (λ (o : Option (List ℕ)). Taken o after ys) p q
Taken-append (Some zs) mid after xs ys p q =
    let rest : Taken (Some p.0) after ys = subst (λ (o : Option (List ℕ)). Taken o after ys) p.1 q
    in (rest.0, rest.1, p.2 ∙ ap (λ (ws : List ℕ). xs ++ ws) rest.2 ∙ sym (append_assoc xs ys rest.0))

-- at the end all that there was has been taken
pub Taken-end : (xs : List ℕ) (after : Option (List ℕ)) (bytes : List ℕ) → Taken (Some xs) after bytes → IsEnd after → (after ≡ Some []) × (bytes ≡ xs)
Taken-end xs after bytes p e =
    let none : p.0 ≡ [] = subst IsEnd p.1 e
    in (p.1 ∙ ap Some none, sym (p.2 ∙ ap (λ (ws : List ℕ). bytes ++ ws) none ∙ append-nil bytes))

-- no more was taken than there was
pub Taken-length : (xs : List ℕ) (after : Option (List ℕ)) (bytes : List ℕ) → Taken (Some xs) after bytes → length bytes ≤ length xs
Taken-length xs after bytes p = omega (arith, simp length-append at (ap length p.2))

-- a piece that moved behind what was taken
pub Taken-more : (before mid after : Option (List ℕ)) (bytes piece : List ℕ) (n : ℕ) → Taken before mid bytes → Moved mid after piece n → Taken before after (bytes ++ take n piece)
Taken-more before mid after bytes piece n p m =
    Taken-append before mid after bytes (take n piece) p (Taken-Moved mid after piece n m)

-- a piece that moved behind what was taken, within a bound
pub TakenAtMost-more : (before mid after : Option (List ℕ)) (bytes piece : List ℕ) (n most : ℕ) → Taken before mid bytes → Moved mid after piece n → length bytes + n ≤ most → TakenAtMost before after most
TakenAtMost-more before mid after bytes piece n most p m fits =
    let within : length (bytes ++ take n piece) ≤ most = omega (arith, length-append bytes (take n piece), length-take n piece)
    in (bytes ++ take n piece, within, Taken-more before mid after bytes piece n p m)
