-- One more instruction of a list is cut, and one more function of a module.
use Rattle.std.proofs.Common.{ℕ, ◌+◌, ◌<◌, ◌≤◌, List, [], ◌∷◌, ◌++◌, ◌≡◌, refl, ap, ◌∙◌, sym, take, drop, length, slice_set, get_or, true, false, cond, arith, map, append_assoc}
use Rattle.std.proofs.lemmas.List.{take_more_set, drop-set-lt, drop_more, at_drop_all, append-nil, take_all}
use Rattle.gu_syntax.specs.declared.instr.Instr as I
use Rattle.gu_syntax.specs.declared.instr.Instr.{Instr, more_of-Structured, more_of-Choice, more_of-Guarded}
use Rattle.gu_syntax.specs.Code.{Ins, Code, leaf, block, loop, choice, try_table, done, next, ins_of, code_of}
use Rattle.gu_model.specs.Cut.{leaves, leaves_ins, cut, cut_ins}

-- the list, and then the code
abbrev pub with_front : List Instr → Code → Code
with_front [] c = c
with_front (i ∷ is) c = next (ins_of i) (with_front is c)

pub leaves_of : (i : Instr) → leaves_ins (ins_of i) ≡ leaves i
unfolding ins_of
leaves_of (I.Block' boxed (more_of-Structured ty s r rest)) = refl
leaves_of (I.Loop' boxed (more_of-Structured ty s r rest)) = refl
leaves_of (I.If' boxed (more_of-Choice ty s r s' r' rest)) = refl
leaves_of (I.TryTable' boxed (more_of-Guarded ty cs s r rest)) = refl
leaves_of i = refl

pub leaves_cut : (i : Ins) → leaves_ins (cut_ins i) ≡ leaves_ins i
leaves_cut (leaf i) = refl
leaves_cut (block ty c) = refl
leaves_cut (loop ty c) = refl
leaves_cut (choice ty c d) = refl
leaves_cut (try_table ty cs c) = refl

with_front-done : (is : List Instr) → with_front is done ≡ code_of is
with_front-done [] = refl
with_front-done (i ∷ is) = ap (next (ins_of i)) (with_front-done is)

with_front-append : (is js : List Instr) (c : Code) → with_front (is ++ js) c ≡ with_front is (with_front js c)
with_front-append [] js c = refl
with_front-append (i ∷ is) js c = ap (next (ins_of i)) (with_front-append is js c)

cut_next : (i : Ins) (y : Instr) (c : Code) → ins_of y ≡ cut_ins i → cut (next i c) ≡ next (ins_of y) (cond (leaves y) done (cut c))
cut_next i y c same = rw (← leaves_cut i, ← same, leaves_of y) refl

-- what stands at one place was cut, and the code goes on behind it or doesn't
step : (is : List Instr) (k : ℕ) (d y : Instr) → k < length is → ins_of y ≡ cut_ins (ins_of (get_or is k d)) → with_front (take (k + 1) (slice_set is k y)) (cond (leaves y) done (cut (code_of (drop (k + 1) (slice_set is k y))))) ≡ with_front (take k is) (cut (code_of (drop k is)))
step is k d y here same =
    rw (take_more_set is k y here, drop-set-lt (k + 1) is k y (omega arith), with_front-append, drop_more is k d here)
    (ap (with_front (take k is)) (sym (cut_next (ins_of (get_or is k d)) y (code_of (drop (k + 1) is)) same)))

-- the first n instructions are cut, and the others would be, with that code as a whole
abbrev pub So : List Instr → ℕ → Code → Type 0
So is n c = with_front (take n is) (cut (code_of (drop n is))) ≡ c

pub goes_on : (is : List Instr) (n k : ℕ) (d y : Instr) (c : Code) → n ≡ k → k < length is → ins_of y ≡ cut_ins (ins_of (get_or is k d)) → false ≡ leaves y → So is n c → So (slice_set is k y) (n + 1) c
goes_on is n k d y c at here same stays so =
    rw at (ap (λ b. with_front (take (k + 1) (slice_set is k y)) (cond b done (cut (code_of (drop (k + 1) (slice_set is k y)))))) stays ∙ step is k d y here same ∙ sym (ap (λ m. with_front (take m is) (cut (code_of (drop m is)))) at) ∙ so)

pub stops : (is : List Instr) (n k : ℕ) (d y : Instr) (c : Code) → n ≡ k → k < length is → ins_of y ≡ cut_ins (ins_of (get_or is k d)) → true ≡ leaves y → So is n c → code_of (take (n + 1) (slice_set is k y)) ≡ c
stops is n k d y c at here same leaves_it so =
    rw at (sym (with_front-done (take (k + 1) (slice_set is k y))) ∙ ap (λ b. with_front (take (k + 1) (slice_set is k y)) (cond b done (cut (code_of (drop (k + 1) (slice_set is k y)))))) leaves_it ∙ step is k d y here same ∙ sym (ap (λ m. with_front (take m is) (cut (code_of (drop m is)))) at) ∙ so)

pub ends : (is : List Instr) (n : ℕ) (c : Code) → length is ≤ n → So is n c → code_of (take n is) ≡ c
ends is n c all so = sym (with_front-done (take n is)) ∙ sym (at_drop_all (λ js. with_front (take n is) (cut (code_of js))) is n all) ∙ so

-- the first n functions are cut, and the others would be, with those functions as a whole
abbrev pub Changed : {X : Type 0} → (X → X) → List X → ℕ → List X → Type 0
Changed f xs n ys = take n xs ++ map f (drop n xs) ≡ ys

pub changes : {X : Type 0} (f : X → X) (xs : List X) (k : ℕ) (d y : X) (ys : List X) → k < length xs → y ≡ f (get_or xs k d) → Changed f xs k ys → Changed f (slice_set xs k y) (k + 1) ys
changes f xs k d y ys here same so =
    rw (take_more_set xs k y here, drop-set-lt (k + 1) xs k y (omega arith), append_assoc)
    (ap (λ z. take k xs ++ z ∷ map f (drop (k + 1) xs)) same ∙ ap (λ zs. take k xs ++ map f zs) (sym (drop_more xs k d here)) ∙ so)

pub changed : {X : Type 0} (f : X → X) (xs : List X) (n : ℕ) (ys : List X) → length xs ≤ n → Changed f xs n ys → xs ≡ ys
changed f xs n ys all so = sym (at_drop_all (λ zs. take n xs ++ map f zs) xs n all ∙ append-nil (take n xs) ∙ take_all n xs all) ∙ so
