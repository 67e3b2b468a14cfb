-- Items that are read one by one.
use Rattle.std.proofs.Common.{ℕ, suc, ◌+◌, ◌-◌, ◌<◌, ◌≡◌, refl, ap, ◌∙◌, sym, List, [], ◌∷◌, ◌++◌, append_assoc, arith}
use Rattle.gu_syntax.specs.Reading.{Read, got, stops, ◌>>=◌, items_at}
use Rattle.gu_read_parts.specs.declared.stop.Stop.{Stop}
use Rattle.gu_read_parts.specs.declared.stop.Stop.TheVariants as S
use Rattle.gu_read_parts.specs.Gives.{Fails}

-- the items so far, before what is read of the others
abbrev pub behind : {X : Type 0} → List X → Read (List X) → Read (List X)
behind xs read = read >>= λ ys rest. got (xs ++ ys) rest

-- one more item
pub behind-more : {X : Type 0} (xs : List X) (x : X) (read : Read (List X)) → behind xs (read >>= λ ys rest. got (x ∷ ys) rest) ≡ behind (xs ++ x ∷ []) read
behind-more xs x (got ys rest) = ap (λ zs. got zs rest) (sym (append_assoc xs (x ∷ []) ys))
behind-more xs x (stops fault) = refl

pub more_read : {X : Type 0} (xs : List X) (x : X) (after : List ℕ) (one : Read X) (others : List ℕ → Read (List X)) → one ≡ got x after → behind xs (one >>= λ y rest. others rest >>= λ ys back. got (y ∷ ys) back) ≡ behind (xs ++ x ∷ []) (others after)
more_read xs x after one others e = ap (λ r. behind xs (r >>= λ y rest. others rest >>= λ ys back. got (y ∷ ys) back)) e ∙ behind-more xs x (others after)

module _ {X : Type 0} (at : List ℕ → Read X) (n : ℕ) (whole : Read (List X)) where
  -- so many items are read, and the others are still to be read
  pub record Reads (xs : List X) (i : ℕ) (rest : List ℕ) : Type 0 where
    pub so_far : behind xs (items_at at (n - i) rest) ≡ whole

  one_more : (i : ℕ) → i < n → n - i ≡ suc (n - (i + 1))
  one_more i h = omega arith

  pub goes_on : (xs : List X) (x : X) (i : ℕ) (rest after : List ℕ) → i < n → at rest ≡ got x after → Reads xs i rest → Reads (xs ++ x ∷ []) (i + 1) after
  goes_on xs x i rest after h e reads = record { so_far = sym (more_read xs x after (at rest) (items_at at (n - (i + 1))) e) ∙ ap (λ k. behind xs (items_at at k rest)) (sym (one_more i h)) ∙ reads.so_far }

  pub fails_on : (stop : Stop) (xs : List X) (i : ℕ) (rest : List ℕ) → i < n → Fails stop (at rest) → Reads xs i rest → Fails stop whole
  fails_on S.NoMemory xs i rest h e reads = tt
  fails_on (S.Refused asked left) xs i rest h e reads = sym reads.so_far ∙ ap (λ k. behind xs (items_at at k rest)) (one_more i h) ∙ ap (λ r. behind xs (r >>= λ y others. items_at at (n - (i + 1)) others >>= λ ys back. got (y ∷ ys) back)) e

-- before the first item
pub behind-none : {X : Type 0} (read : Read (List X)) → behind [] read ≡ read
behind-none (got xs rest) = refl
behind-none (stops fault) = refl

pub items_begin : {X : Type 0} (at : List ℕ → Read X) (n : ℕ) (text : List ℕ) → Reads at n (items_at at n text) [] 0 text
items_begin at n text = let e : n - 0 ≡ n = omega arith in record { so_far = behind-none (items_at at (n - 0) text) ∙ ap (λ k. items_at at k text) e }
