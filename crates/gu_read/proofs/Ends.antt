-- Where code entries end, by their sizes.
use Rattle.std.proofs.Common.{ℕ, ◌+◌, ◌-◌, ◌<◌, ◌≡◌, ◌≢◌, refl, ap, ◌∙◌, sym, subst, List, [], ◌∷◌, ◌++◌, length, take, drop, nat_lt, cond, Bool, true, false, append_assoc, length-append, arith}
use Rattle.std.proofs.lemmas.List.{take_more, drop_more, take-append-drop, drop_at}
use Rattle.std.proofs.Math.Seq.{take-length}
use Rattle.gu_syntax.specs.declared.module.Func.{Func}
use Rattle.gu_syntax.specs.Reading.{Item, Size, Read, got, stops, refused, ◌>>=◌, u32_as, both_at, whole, content_at, sized_at, locals_at, body_at, entry_of, entry_at, func_at, entries_at}
use Rattle.gu_syntax.proofs.Decodes.{bind_got, rest_is, refused-got, whole_got, u32_decodes}
use Rattle.gu_read_parts.specs.declared.stop.Stop.{Stop}
use Rattle.gu_read_parts.specs.declared.stop.Stop.TheVariants as S
use Rattle.gu_read_parts.specs.Gives.{Fails, item_of, front_of, front_as}
use Rattle.gu_read_parts.proofs.Vectors.{behind, behind-none}
use Rattle.gu_read.specs.Shares.{EndsAt, IsBehind}

-- entries of some types and of others behind them
cons_behind : (f : Func) (fs : List Func) (r : Read (List Func)) → (behind fs r >>= λ gs back. got (f ∷ gs) back) ≡ behind (f ∷ fs) r
cons_behind f fs (got gs back) = refl
cons_behind f fs (stops fault) = refl

first_behind : (f : Func) (r : Read (List Func)) (others : List ℕ → Read (List Func)) → ((r >>= λ fs back. behind fs (others back)) >>= λ gs back. got (f ∷ gs) back) ≡ ((r >>= λ fs back. got (f ∷ fs) back) >>= λ fs back. behind fs (others back))
first_behind f (got fs back) others = cons_behind f fs (others back)
first_behind f (stops fault) others = refl

one_behind : (r : Read Func) (all first others : List ℕ → Read (List Func)) → ((text : List ℕ) → all text ≡ (first text >>= λ fs back. behind fs (others back))) → (r >>= λ f rest. all rest >>= λ fs back. got (f ∷ fs) back) ≡ ((r >>= λ f rest. first rest >>= λ fs back. got (f ∷ fs) back) >>= λ fs back. behind fs (others back))
one_behind (got f rest) all first others h = ap (λ (r : Read (List Func)). r >>= λ fs back. got (f ∷ fs) back) (h rest) ∙ first_behind f (first rest) others
one_behind (stops fault) all first others h = refl

pub entries_append : (a b text : List ℕ) → entries_at 1000 (a ++ b) text ≡ (entries_at 1000 a text >>= λ fs back. behind fs (entries_at 1000 b back))
entries_append [] b text = sym (behind-none (entries_at 1000 b text))
entries_append (ty ∷ a) b text = one_behind (func_at 1000 ty text) (entries_at 1000 (a ++ b)) (entries_at 1000 a) (entries_at 1000 b) (entries_append a b)

-- what is read of a content of a size ends where the content does
sized_test : {X : Type 0} (inside : List ℕ → Read X) (left size : ℕ) (rest : List ℕ) (test : Bool) → cond test (refused Size left) (whole (drop size rest) (inside (take size rest))) ≡ (cond {A = Read (List ℕ)} test (refused Size left) (got (take size rest) (drop size rest)) >>= λ content back. whole back (inside content))
sized_test inside left size rest true = refl
sized_test inside left size rest false = refl

sized_size : {X : Type 0} (inside : List ℕ → Read X) (left : ℕ) (r : Read ℕ) → (r >>= λ size rest. content_at inside left size rest) ≡ ((r >>= λ size rest. front_of Size left size rest) >>= λ content back. whole back (inside content))
sized_size inside left (got size rest) = sized_test inside left size rest (nat_lt (length rest) size)
sized_size inside left (stops fault) = refl

pub sized_front : {X : Type 0} (inside : List ℕ → Read X) (text : List ℕ) → sized_at inside text ≡ (front_as Size text >>= λ content back. whole back (inside content))
sized_front inside text = sized_size inside (length text) (u32_as Size text)

sized_ends : {X : Type 0} (inside : List ℕ → Read X) (text content mid back : List ℕ) (x : X) → front_as Size text ≡ got content mid → sized_at inside text ≡ got x back → back ≡ mid
sized_ends {X} inside text content mid back x e h =
    let k = whole_got mid (inside content) x back (sym (sized_front inside text ∙ ap (λ (r : Read (List ℕ)). r >>= λ content back. whole back (inside content)) e) ∙ h) in sym k.1

sized_fails : {X : Type 0} (inside : List ℕ → Read X) (text back : List ℕ) (x : X) (item : Item) (left : ℕ) → front_as Size text ≡ refused item left → sized_at inside text ≡ got x back → ⊥
sized_fails {X} inside text back x item left e h = refused-got {A = X} item left x back (sym (sized_front inside text ∙ ap (λ (r : Read (List ℕ)). r >>= λ content back. whole back (inside content)) e) ∙ h)

-- a function ends where its entry does
func_ends : (ty : ℕ) (text content mid back : List ℕ) (func : Func) → front_as Size text ≡ got content mid → func_at 1000 ty text ≡ got func back → back ≡ mid
func_ends ty text content mid back func e h =
    let b = bind_got (entry_at 1000 text) (λ x rest. got (entry_of ty x) rest) func back h in
    sym (rest_is (entry_of ty b.0) func b.1 back b.3) ∙ sized_ends (both_at locals_at (body_at 1000)) text content mid b.1 b.0 e b.2

func_fails : (ty : ℕ) (text back : List ℕ) (func : Func) (item : Item) (left : ℕ) → front_as Size text ≡ refused item left → func_at 1000 ty text ≡ got func back → ⊥
func_fails ty text back func item left e h =
    let b = bind_got (entry_at 1000 text) (λ x rest. got (entry_of ty x) rest) func back h in
    sized_fails (both_at locals_at (body_at 1000)) text b.1 b.0 item left e b.2

-- what is behind a content is behind it in the bytes
test_behind : (test : Bool) (left size : ℕ) (mid content rest : List ℕ) → cond {A = Read (List ℕ)} test (refused Size left) (got (take size mid) (drop size mid)) ≡ got content rest → drop size mid ≡ rest
test_behind true left size mid content rest h = absurd (refused-got Size left content rest h)
test_behind false left size mid content rest h = rest_is (take size mid) content (drop size mid) rest h

behind_front : (text front mid : List ℕ) (size : ℕ) → text ≡ front ++ mid → IsBehind (drop size mid) text
behind_front text front mid size whole = (front ++ take size mid, whole ∙ ap (λ (t : List ℕ). front ++ t) (sym (take-append-drop size mid)) ∙ sym (append_assoc front (take size mid) (drop size mid)))

pub content_behind : (text content rest : List ℕ) → front_as Size text ≡ got content rest → IsBehind rest text
content_behind text content rest h =
    let b = bind_got (u32_as Size text) (λ size more. front_of Size (length text) size more) content rest h in
    let took = (u32_decodes 0 Size).taken text b.1 b.0 b.2 in
    subst (λ (t : List ℕ). IsBehind t text) (test_behind (nat_lt (length b.1) b.0) (length text) b.0 b.1 content rest b.3) (behind_front text took.front b.1 b.0 took.whole)

pub behind_on : (text mid rest : List ℕ) → IsBehind mid text → IsBehind rest mid → IsBehind rest text
behind_on text mid rest h k = (h.0 ++ k.0, h.1 ∙ ap (λ (t : List ℕ). h.0 ++ t) k.1 ∙ sym (append_assoc h.0 k.0 rest))

pub behind_dropped : (text rest : List ℕ) → IsBehind rest text → drop (length text - length rest) text ≡ rest
behind_dropped text rest h =
    let sum = ap length h.1 ∙ length-append h.0 rest in
    ap (λ (t : List ℕ). drop (length text - length rest) t) h.1 ∙ drop_at h.0 rest (length text - length rest) (omega (arith, sum))

-- before the first entry
pub ends_begin : (text : List ℕ) → EndsAt [] text text
ends_begin text = record { ends = λ funcs back h. sym (rest_is [] funcs text back h) }

-- one more entry
pub ends_on : (tys : List ℕ) (ty : ℕ) (text mid content rest : List ℕ) → front_as Size mid ≡ got content rest → EndsAt tys text mid → EndsAt (tys ++ ty ∷ []) text rest
ends_on tys ty text mid content rest size ends = record {
  ends = λ funcs back h.
      let a = bind_got (entries_at 1000 tys text) (λ fs back. behind fs (entries_at 1000 (ty ∷ []) back)) funcs back (sym (entries_append tys (ty ∷ []) text) ∙ h) in
      let there : a.1 ≡ mid = ends.ends a.0 a.1 a.2 in
      let b = bind_got (entries_at 1000 (ty ∷ []) a.1) (λ ys rest. got (a.0 ++ ys) rest) funcs back a.3 in
      let d = bind_got (func_at 1000 ty a.1) (λ f rest. got (f ∷ []) rest) b.0 b.1 b.2 in
      let same : d.1 ≡ rest = func_ends ty a.1 content rest d.1 d.0 (ap (front_as Size) there ∙ size) d.2 in
      sym (rest_is (a.0 ++ b.0) funcs b.1 back b.3) ∙ sym (rest_is (d.0 ∷ []) b.0 d.1 b.1 d.3) ∙ same;
}

-- an entry whose size is not there: no entries are read
pub ends_never : (tys : List ℕ) (ty : ℕ) (others text mid rest : List ℕ) (item : Item) (left : ℕ) → front_as Size mid ≡ refused item left → EndsAt tys text mid → EndsAt (tys ++ ty ∷ others) text rest
ends_never tys ty others text mid rest item left size ends = record {
  ends = λ funcs back h.
      let a = bind_got (entries_at 1000 tys text) (λ fs back. behind fs (entries_at 1000 (ty ∷ others) back)) funcs back (sym (entries_append tys (ty ∷ others) text) ∙ h) in
      let there : a.1 ≡ mid = ends.ends a.0 a.1 a.2 in
      let b = bind_got (entries_at 1000 (ty ∷ others) a.1) (λ ys rest. got (a.0 ++ ys) rest) funcs back a.3 in
      let d = bind_got (func_at 1000 ty a.1) (λ f rest. entries_at 1000 others rest >>= λ fs back. got (f ∷ fs) back) b.0 b.1 b.2 in
      absurd (func_fails ty a.1 d.1 d.0 item left (ap (front_as Size) there ∙ size) d.2);
}

-- the same of the first types of a list
pub batch_begins : (tys text : List ℕ) → EndsAt (take 0 tys) text text
batch_begins tys text = ends_begin text

pub batch_on : (tys : List ℕ) (i : ℕ) (text mid content rest : List ℕ) → i < length tys → front_as Size mid ≡ got content rest → EndsAt (take i tys) text mid → EndsAt (take (i + 1) tys) text rest
batch_on tys i text mid content rest below size ends = subst (λ t. EndsAt t text rest) (sym (take_more tys i 0 below)) (ends_on (take i tys) _ text mid content rest size ends)

fails_at : (tys : List ℕ) (i : ℕ) (stop : Stop) (text mid rest : List ℕ) → i < length tys → stop ≢ S.NoMemory → Fails stop (front_as Size mid) → EndsAt (take i tys) text mid → EndsAt tys text rest
fails_at tys i S.NoMemory text mid rest below isnt fails ends = absurd (isnt refl)
fails_at tys i (S.Refused asked left) text mid rest below isnt fails ends = subst (λ t. EndsAt t text rest) (ap (λ t. take i tys ++ t) (sym (drop_more tys i 0 below)) ∙ take-append-drop i tys) (ends_never (take i tys) _ _ text mid rest (item_of asked) left fails ends)

pub batch_fails : (tys : List ℕ) (i : ℕ) (stop : Stop) (text mid rest : List ℕ) → i < length tys → stop ≢ S.NoMemory → Fails stop (front_as Size mid) → EndsAt (take i tys) text mid → EndsAt (take (length tys) tys) text rest
batch_fails tys i stop text mid rest below isnt fails ends = subst (λ t. EndsAt t text rest) (sym (take-length tys)) (fails_at tys i stop text mid rest below isnt fails ends)
