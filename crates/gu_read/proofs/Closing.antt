-- What stands for what is read, through a content of a size and a section.
use Rattle.std.proofs.Common.{ℕ, ◌+◌, ◌≡◌, refl, ap, ◌∙◌, sym, subst, List, [], ◌∷◌, length, Result, Ok, Err}
use Rattle.std.specs.Borrow.{Bor}
use Rattle.gu_syntax.specs.declared.module.Func.{Func}
use Rattle.gu_syntax.specs.Module.{Custom}
use Rattle.gu_syntax.specs.Reading.{Item, Size, End, Fault, Read, got, stops, refused, ◌>>=◌, whole, customs_at, section_at, bodies_at}
use Rattle.gu_syntax.proofs.Decodes.{value_is, rest_is, fault_is, refused-got}
use Rattle.gu_read_parts.specs.declared.stop.Stop.{Stop}
use Rattle.gu_read_parts.specs.declared.stop.Stop.TheVariants as S
use Rattle.gu_read_parts.specs.Gives.{Gives, Fails, item_of, front_as}
use Rattle.gu_read.specs.Standing.{AllStandFor, GivesBy}
use Rattle.gu_read.proofs.Ends.{sized_front}

-- a refusal is one whatever was to be read
refused_as : {X Y : Type 0} (i j : Item) (k l : ℕ) → ◌≡◌ {A = Read X} (refused i k) (refused j l) → ◌≡◌ {A = Read Y} (refused i k) (refused j l)
refused_as {X} {Y} i j k l h = let as_read : Fault → Read Y = λ f. stops f in ap as_read (fault_is {A = X} (record { item = i; left = k }) (record { item = j; left = l }) h)

end_isnt : End ≡ Size → ⊥
end_isnt e = cc

size_isnt : {X : Type 0} (i : Item) (k l n : ℕ) → ◌≡◌ {A = Read X} (refused End k) (refused i n) → ◌≡◌ {A = Read X} (refused Size l) (refused i n) → ⊥
size_isnt {X} i k l n h e =
    let f = fault_is {A = X} (record { item = End; left = k }) (record { item = i; left = n }) h in
    let g = fault_is {A = X} (record { item = Size; left = l }) (record { item = i; left = n }) e in
    end_isnt (ap (λ (r : Fault). r.item) f ∙ sym (ap (λ (r : Fault). r.item) g))

-- what is given for a refusal
given_refused : {X Y : Type 0} (R : X → Y → Type 0) (result : Result (X × Bor (List ℕ)) Stop) (item : Item) (left : ℕ) (read : Read Y) → read ≡ refused item left → Gives result (refused item left) → GivesBy R result read
given_refused R (Ok z) item left read e h = absurd (refused-got item left z.0 z.1.now h)
given_refused R (Err S.NoMemory) item left read e h = tt
given_refused {X} {Y} R (Err (S.Refused asked l)) item left read e h = e ∙ refused_as {X = X} {Y = Y} item (item_of asked) left l h

given_got : {X Y : Type 0} (R : X → Y → Type 0) (result : Result (X × Bor (List ℕ)) Stop) (x : X) (y : Y) (behind : List ℕ) (read : Read Y) → read ≡ got y behind → R x y → Gives result (got x behind) → GivesBy R result read
given_got R (Ok z) x y behind read e r h = (y, subst (λ v. R v y) (value_is x z.0 behind z.1.now h) r, e ∙ ap (got y) (rest_is x z.0 behind z.1.now h))
given_got R (Err S.NoMemory) x y behind read e r h = tt
given_got R (Err (S.Refused asked l)) x y behind read e r h = absurd (refused-got (item_of asked) l x behind (sym h))

given_nothing : {X Y : Type 0} (R : X → Y → Type 0) (result : Result (X × Bor (List ℕ)) Stop) (read : Read Y) (k l : ℕ) → Gives result (refused End k) → Gives result (refused Size l) → GivesBy R result read
given_nothing R (Ok z) read k l h e = absurd (refused-got End k z.0 z.1.now h)
given_nothing R (Err S.NoMemory) read k l h e = tt
given_nothing R (Err (S.Refused asked n)) read k l h e = absurd (size_isnt (item_of asked) k l n h e)

abbrev Closes : {X : Type 0} → Result (X × Bor (List ℕ)) Stop → List ℕ → Result (X × Bor (List ℕ)) Stop → Type 0
Closes {X} inside behind result = (r : Read X) → Gives inside r → Gives result (whole behind r)

closes_got : {X Y : Type 0} (R : X → Y → Type 0) (result : Result (X × Bor (List ℕ)) Stop) (behind rest : List ℕ) (x : X) (y : Y) (read : Read Y) → read ≡ got y rest → R x y → Gives result (whole behind (got x rest)) → GivesBy R result (whole behind read)
closes_got R result behind [] x y read e r h = given_got R result x y behind (whole behind read) (ap (whole behind) e) r h
closes_got R result behind (b ∷ rest) x y read e r h = given_refused R result End (length (b ∷ rest) + length behind) (whole behind read) (ap (whole behind) e) h

pub closes_by : {X Y : Type 0} (R : X → Y → Type 0) (inside result : Result (X × Bor (List ℕ)) Stop) (behind : List ℕ) (read : Read Y) → Closes inside behind result → GivesBy R inside read → GivesBy R result (whole behind read)
closes_by R (Ok x) result behind read closes h = closes_got R result behind x.1.now x.0 h.0 read h.2 h.1 (closes (got x.0 x.1.now) refl)
closes_by R (Err S.NoMemory) result behind read closes h = given_nothing R result (whole behind read) (0 + length behind) (0 + length behind) (closes (refused End 0) tt) (closes (refused Size 0) tt)
closes_by R (Err (S.Refused asked left)) result behind read closes h = given_refused R result (item_of asked) (left + length behind) (whole behind read) (ap (whole behind) h) (closes (refused (item_of asked) left) refl)

-- the code section
abbrev Bodies : List ℕ → List ℕ → Read (List Func)
Bodies tys text = bodies_at 1000 tys text

abbrev after_customs : List Func → Read (List Custom) → Read (List Func × List Custom)
after_customs x r = r >>= λ y behind. got (x, y) behind

abbrev first_only : Read (List Func × List Custom) → Read (List Func)
first_only r = r >>= λ x rest. got x.0 rest

abbrev behind_size : Read (List Func) → Read (List Func)
behind_size r = first_only (r >>= λ x rest. after_customs x (customs_at rest))

section_is : (tys bytes text content back : List ℕ) → bytes ≡ 10 ∷ text → front_as Size text ≡ got content back → section_at 10 [] (bodies_at 1000 tys) bytes ≡ behind_size (whole back (bodies_at 1000 tys content))
section_is tys bytes text content back split size = ap (λ t. section_at 10 [] (bodies_at 1000 tys) t) split ∙ ap behind_size (sized_front (bodies_at 1000 tys) text ∙ ap (λ (r : Read (List ℕ)). r >>= λ content back. whole back (bodies_at 1000 tys content)) size)

pub code_fails : (tys bytes text content back : List ℕ) (stop : Stop) → bytes ≡ 10 ∷ text → front_as Size text ≡ got content back → Fails stop (whole back (bodies_at 1000 tys content)) → Fails stop (section_at 10 [] (bodies_at 1000 tys) bytes)
code_fails tys bytes text content back S.NoMemory split size h = tt
code_fails tys bytes text content back (S.Refused asked left) split size h = section_is tys bytes text content back split size ∙ ap behind_size h

abbrev pub Holds : List Func → Read (List Func) → List ℕ → Type 0
Holds held read rest = (funcs : List Func) × AllStandFor held funcs × (read ≡ got funcs rest)

pub customs_fail_behind : (tys bytes text content back middle : List ℕ) (held : List Func) (stop : Stop) → bytes ≡ 10 ∷ text → front_as Size text ≡ got content back → Holds held (whole back (bodies_at 1000 tys content)) middle → Fails stop (customs_at middle) → Fails stop (section_at 10 [] (bodies_at 1000 tys) bytes)
customs_fail_behind tys bytes text content back middle held S.NoMemory split size h e = tt
customs_fail_behind tys bytes text content back middle held (S.Refused asked left) split size h e = section_is tys bytes text content back split size ∙ ap behind_size h.2 ∙ ap (λ (r : Read (List Custom)). first_only (after_customs h.0 r)) e

pub code_stands : (tys bytes text content back middle rest : List ℕ) (held : List Func) → bytes ≡ 10 ∷ text → front_as Size text ≡ got content back → Holds held (whole back (bodies_at 1000 tys content)) middle → (customs : List Custom) × (customs_at middle ≡ got customs rest) → Holds held (section_at 10 [] (bodies_at 1000 tys) bytes) rest
code_stands tys bytes text content back middle rest held split size h customs = (h.0, h.1, section_is tys bytes text content back split size ∙ ap behind_size h.2 ∙ ap (λ (r : Read (List Custom)). first_only (after_customs h.0 r)) customs.1)
