-- Fixed bytes, and custom sections, that are passed.
use Rattle.std.proofs.Common.{ℕ, zero, suc, ◌≤◌, ◌≡◌, refl, ap, ◌∙◌, sym, List, [], ◌∷◌, ◌++◌, length, nat_eq, cond, Bool, true, false, arith}
use Rattle.std.proofs.lemmas.List.{append-nil}
use Rattle.gu_syntax.specs.Module.{Custom}
use Rattle.gu_syntax.specs.Reading.{Item, Size, Read, got, refused, ◌>>=◌, fixed_at, name_at, rest_at, both_at, made_at, whole, sized_at, custom_of, customs_of, customs_at}
use Rattle.gu_read_parts.specs.declared.stop.Stop.{Stop}
use Rattle.gu_read_parts.specs.declared.stop.Stop.TheVariants as S
use Rattle.gu_read_parts.specs.Gives.{Fails, front_as}
use Rattle.gu_read.proofs.Ends.{sized_front}
use Rattle.gu_read_parts.proofs.Vectors.{behind, behind-none, more_read}

-- one fixed byte, and then those that are still due
abbrev passed : Item → Bool → ℕ → List ℕ → Read (Unit {0})
passed item test left rest = cond test (got tt rest) (refused item left)

fixed_then : (item : Item) (others rest : List ℕ) (left : ℕ) (test : Bool) → cond test (fixed_at item others rest) (refused item left) ≡ (passed item test left rest >>= λ u back. fixed_at item others back)
fixed_then item others rest left true = refl
fixed_then item others rest left false = refl

fixed_at-one : (item : Item) (byte : ℕ) (others text : List ℕ) → fixed_at item (byte ∷ others) text ≡ (fixed_at item (byte ∷ []) text >>= λ u back. fixed_at item others back)
fixed_at-one item byte others [] = refl
fixed_at-one item byte others (b ∷ rest) = fixed_then item others rest (length (b ∷ rest)) (nat_eq b byte)

-- these bytes are still due
pub record Passes (item : Item) (full : Read (Unit {0})) (due rest : List ℕ) : Type 0 where
  pub so_far : fixed_at item due rest ≡ full

pub passes_on : (item : Item) (full : Read (Unit {0})) (byte : ℕ) (due others rest after : List ℕ) → due ≡ byte ∷ others → fixed_at item (byte ∷ []) rest ≡ got tt after → Passes item full due rest → Passes item full others after
passes_on item full byte due others rest after split e passes = record { so_far = sym (ap (λ t. fixed_at item t rest) split ∙ fixed_at-one item byte others rest ∙ ap (λ (r : Read (Unit {0})). r >>= λ u back. fixed_at item others back) e) ∙ passes.so_far }

pub passes_fail : (item : Item) (stop : Stop) (full : Read (Unit {0})) (byte : ℕ) (due others rest : List ℕ) → due ≡ byte ∷ others → Fails stop (fixed_at item (byte ∷ []) rest) → Passes item full due rest → Fails stop full
passes_fail item S.NoMemory full byte due others rest split e passes = tt
passes_fail item (S.Refused asked left) full byte due others rest split e passes = sym passes.so_far ∙ ap (λ t. fixed_at item t rest) split ∙ fixed_at-one item byte others rest ∙ ap (λ (r : Read (Unit {0})). r >>= λ u back. fixed_at item others back) e

-- custom sections so far, before those that are still to be passed
pub record Customs (full : Read (List Custom)) (rest : List ℕ) : Type 0 where
  pub front : List Custom
  pub fuel : ℕ
  pub enough : length rest ≤ fuel
  pub so_far : behind front (customs_of fuel rest) ≡ full

pub customs_begin : (text : List ℕ) → Customs (customs_at text) text
customs_begin text = record { front = []; fuel = length text; enough = omega arith; so_far = behind-none (customs_at text) }

abbrev pub custom_at : List ℕ → Read Custom
custom_at text = sized_at (made_at custom_of (both_at name_at rest_at)) text

-- with fuel left, one more
custom_on : (full : Read (List Custom)) (front : List Custom) (fuel : ℕ) (more after : List ℕ) (custom : Custom) → length (0 ∷ more) ≤ fuel → length after ≤ length more → custom_at more ≡ got custom after → behind front (customs_of fuel (0 ∷ more)) ≡ full → Customs full after
custom_on full front zero more after custom enough shorter read h = absurd (omega arith)
custom_on full front (suc fuel) more after custom enough shorter read h = record { front = front ++ custom ∷ []; fuel = fuel; enough = omega arith; so_far = sym (more_read front custom after (custom_at more) (customs_of fuel) read) ∙ h }

pub customs_on : (full : Read (List Custom)) (rest more after : List ℕ) → rest ≡ 0 ∷ more → length after ≤ length more → (custom : Custom) × (custom_at more ≡ got custom after) → Customs full rest → Customs full after
customs_on full rest more after split shorter read h = custom_on full h.front h.fuel more after read.0 (omega (arith, h.enough, ap length split)) shorter read.1 (ap (λ t. behind h.front (customs_of h.fuel t)) (sym split) ∙ h.so_far)

custom_fails : (stop : Stop) (full : Read (List Custom)) (front : List Custom) (fuel : ℕ) (more : List ℕ) → length (0 ∷ more) ≤ fuel → Fails stop (custom_at more) → behind front (customs_of fuel (0 ∷ more)) ≡ full → Fails stop full
custom_fails S.NoMemory full front fuel more enough fails h = tt
custom_fails (S.Refused asked left) full front zero more enough fails h = absurd (omega arith)
custom_fails (S.Refused asked left) full front (suc fuel) more enough fails h = sym h ∙ ap (λ (r : Read Custom). behind front (r >>= λ custom rest. customs_of fuel rest >>= λ customs back. got (custom ∷ customs) back)) fails

pub customs_fail : (stop : Stop) (full : Read (List Custom)) (rest more : List ℕ) → rest ≡ 0 ∷ more → Fails stop (custom_at more) → Customs full rest → Fails stop full
customs_fail stop full rest more split fails h = custom_fails stop full h.front h.fuel more (omega (arith, h.enough, ap length split)) fails (ap (λ t. behind h.front (customs_of h.fuel t)) (sym split) ∙ h.so_far)

-- no custom section stands there
custom_none : (fuel : ℕ) (b : ℕ) (text : List ℕ) → nat_eq b 0 ≡ false → customs_of fuel (b ∷ text) ≡ got [] (b ∷ text)
custom_none zero b text e = refl
custom_none (suc fuel) b text e = ap (λ test. cond test (custom_at text >>= λ custom rest. customs_of fuel rest >>= λ customs behind. got (custom ∷ customs) behind) (got [] (b ∷ text))) e

pub customs_none : (full : Read (List Custom)) (rest : List ℕ) (b : ℕ) (text : List ℕ) → rest ≡ b ∷ text → nat_eq b 0 ≡ false → Customs full rest → (customs : List Custom) × (full ≡ got customs rest)
customs_none full rest b text split e h = (h.front, sym h.so_far ∙ ap (behind h.front) (ap (customs_of h.fuel) split ∙ custom_none h.fuel b text e ∙ ap (got []) (sym split)) ∙ ap (λ cs. got cs rest) (append-nil h.front))

empty_none : (fuel : ℕ) → customs_of fuel [] ≡ got [] []
empty_none zero = refl
empty_none (suc fuel) = refl

pub customs_end : (full : Read (List Custom)) (rest : List ℕ) → rest ≡ [] → Customs full rest → (customs : List Custom) × (full ≡ got customs rest)
customs_end full rest split h = (h.front, sym h.so_far ∙ ap (behind h.front) (ap (customs_of h.fuel) split ∙ empty_none h.fuel ∙ ap (got []) (sym split)) ∙ ap (λ cs. got cs rest) (append-nil h.front))

-- a custom section whose name stands
pub custom_read : (content back name rest : List ℕ) → name_at content ≡ got name rest → (custom : Custom) × (whole back (made_at custom_of (both_at name_at rest_at) content) ≡ got custom back)
custom_read content back name rest e = (custom_of (name, rest), ap (λ (r : Read (List ℕ)). whole back ((r >>= λ n more. rest_at more >>= λ bytes behind. got (n, bytes) behind) >>= λ x behind. got (custom_of x) behind)) e)

pub custom_passed : (text content back name rest : List ℕ) → front_as Size text ≡ got content back → name_at content ≡ got name rest → (custom : Custom) × (custom_at text ≡ got custom back)
custom_passed text content back name rest size e =
    let inner = custom_read content back name rest e in
    (inner.0, sized_front (made_at custom_of (both_at name_at rest_at)) text ∙ ap (λ (r : Read (List ℕ)). r >>= λ content back. whole back (made_at custom_of (both_at name_at rest_at) content)) size ∙ inner.1)
