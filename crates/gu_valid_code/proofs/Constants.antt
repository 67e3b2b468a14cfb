-- How a constant expression is gone over.
use Rattle.std.proofs.Common.{ℕ, zero, suc, ◌≡◌, ◌≢◌, ◌<◌, ◌+◌, List, [], ◌∷◌, ◌∙◌, ap, sym, refl, Bool, true, false, ◌&&◌, Option, Some, None, is_some, slice_get, take, drop, length, get_or}
use Rattle.std.proofs.lemmas.List.{drop_more}
use Rattle.gu_types.specs.declared.types.ValType.{ValType}
use Rattle.gu_syntax.specs.declared.instr.Instr.{Instr, more_of-Structured, more_of-Choice, more_of-Guarded}
use Rattle.gu_syntax.specs.declared.instr.Instr.TheVariants as I
use Rattle.gu_syntax.specs.declared.instr.Instr as R
use Rattle.gu_syntax.specs.Code.{Ins, Code, leaf, next, ins_of, code_of}
use Rattle.gu_model.specs.TypingContext.{Context, Around, ◌>>=◌}
use Rattle.gu_model.specs.TypingShape.{Shape, ends_with, type_row}
use Rattle.gu_model.specs.TypingRows.{goes}
use Rattle.gu_model.specs.Typing.{type_leaf, type_code}
use Rattle.gu_model.specs.ValidConstants.{is_constant, is_constant_ins, is_constant_leaf, is_immutable, with_globals, nowhere, nothing}
use Rattle.gu_valid_code.specs.Leaf.{sets_local}
use Rattle.gu_valid_code.specs.State.{Did}

-- whether the rest of an expression, begun with these operands, is constant and gives a value of a type
abbrev pub rest_of : Context → ValType → Code → Shape → Bool
rest_of C t c s = is_constant C c && is_some (ends_with C.types (t ∷ []) (type_code C nowhere c s) (Some nothing))

-- what may stand in a constant expression holds no code, and sets no local
pub is_leaf : (C : Context) (i : Instr) → is_constant_ins C (ins_of i) ≡ true → ins_of i ≡ leaf i
unfolding ins_of
is_leaf C (R.Block' boxed (more_of-Structured ty s r rest)) h = absurd (let z : ⊥ = cc in z)
is_leaf C (R.Loop' boxed (more_of-Structured ty s r rest)) h = absurd (let z : ⊥ = cc in z)
is_leaf C (R.If' boxed (more_of-Choice ty s r s' r' rest)) h = absurd (let z : ⊥ = cc in z)
is_leaf C (R.TryTable' boxed (more_of-Guarded ty cs s r rest)) h = absurd (let z : ⊥ = cc in z)
is_leaf C i h = refl

sets_none : (C : Context) (i : Instr) → is_constant_leaf C i ≡ true → sets_local i ≡ false
sets_none C (I.LocalSet x) h = absurd (let z : ⊥ = cc in z)
sets_none C (I.LocalTee x) h = absurd (let z : ⊥ = cc in z)
sets_none C i h = refl

pub sets_no_local : (C : Context) (i : Instr) → is_constant_ins C (ins_of i) ≡ true → sets_local i ≡ false
sets_no_local C i h = sets_none C i (sym (ap (is_constant_ins C) (is_leaf C i h)) ∙ h)

found_in : {X : Type 0} (n : ℕ) (xs : List X) (k : ℕ) (x : X) → slice_get (take n xs) k ≡ Some x → slice_get xs k ≡ Some x
found_in zero xs k x h = absurd (let z : ⊥ = cc in z)
found_in (suc n) [] k x h = absurd (let z : ⊥ = cc in z)
found_in (suc n) (y ∷ ys) zero x h = h
found_in (suc n) (y ∷ ys) (suc k) x h = found_in n ys k x h

same_global : (o p : Option (ValType × Bool)) → is_immutable o ≡ true → ((g : ValType × Bool) → o ≡ Some g → p ≡ Some g) → o ≡ p
same_global None p h both = absurd (let z : ⊥ = cc in z)
same_global (Some g) p h both = sym (both g refl)

-- it is typed alike where there are more globals
same_leaf : (n : ℕ) (C : Context) (a : Around) (i : Instr) (s : Shape) → is_constant_leaf (with_globals n C) i ≡ true → type_leaf (with_globals n C) a i s ≡ type_leaf C a i s
same_leaf n C a (I.GlobalGet x) s h =
    ap (λ (o : Option (ValType × Bool)). type_row C.types (o >>= λ g. Some (goes [] (g.0 ∷ []))) s) (same_global (slice_get (take n C.globals) x) (slice_get C.globals x) h (λ g at. found_in n C.globals x g at))
same_leaf n C a (I.GlobalSet x) s h = absurd (let z : ⊥ = cc in z)
same_leaf n C a i s h = refl

-- an instruction that was passed
pub passed : (n : ℕ) (C : Context) (t : ValType) (i : Instr) (c : Code) (s u : Shape) (b : Bool) (a : Around) → a ≡ nowhere → is_constant_ins (with_globals n C) (ins_of i) ≡ true → Did b (type_leaf C a i s) u → b ≡ true → rest_of (with_globals n C) t (next (ins_of i) c) s ≡ rest_of (with_globals n C) t c u
passed n C t i c s u false a same constant did on = absurd (let z : ⊥ = cc in z)
passed n C t i c s u true a same constant did on =
    let D = with_globals n C in
    let plain : ins_of i ≡ leaf i = is_leaf D i constant in
    let holds : is_constant_leaf D i ≡ true = sym (ap (is_constant_ins D) plain) ∙ constant in
    let typed : type_leaf D nowhere i s ≡ Some u = same_leaf n C nowhere i s holds ∙ ap (λ (b : Around). type_leaf C b i s) (sym same) ∙ did in
    ap (λ (j : Ins). rest_of D t (next j c) s) plain
    ∙ ap (λ (b : Bool). (b && is_constant D c) && is_some (ends_with D.types (t ∷ []) (type_leaf D nowhere i s >>= type_code D nowhere c) (Some nothing))) holds
    ∙ ap (λ (o : Option Shape). is_constant D c && is_some (ends_with D.types (t ∷ []) (o >>= type_code D nowhere c) (Some nothing))) typed

and_false : (a : Bool) → (a && false) ≡ false
and_false true = refl
and_false false = refl

-- one that may not stand there, or is not typed
pub not_constant : (D : Context) (t : ValType) (i : Instr) (c : Code) (s : Shape) → is_constant_ins D (ins_of i) ≡ false → rest_of D t (next (ins_of i) c) s ≡ false
not_constant D t i c s h = ap (λ (b : Bool). (b && is_constant D c) && is_some (ends_with D.types (t ∷ []) (type_code D nowhere (next (ins_of i) c) s) (Some nothing))) h

pub not_typed : (n : ℕ) (C : Context) (t : ValType) (i : Instr) (c : Code) (s u : Shape) (b : Bool) (a : Around) → a ≡ nowhere → is_constant_ins (with_globals n C) (ins_of i) ≡ true → Did b (type_leaf C a i s) u → b ≡ false → rest_of (with_globals n C) t (next (ins_of i) c) s ≡ false
not_typed n C t i c s u true a same constant did off = absurd (let z : ⊥ = cc in z)
not_typed n C t i c s u false a same constant did off =
    let D = with_globals n C in
    let plain : ins_of i ≡ leaf i = is_leaf D i constant in
    let holds : is_constant_leaf D i ≡ true = sym (ap (is_constant_ins D) plain) ∙ constant in
    let typed : type_leaf D nowhere i s ≡ None = same_leaf n C nowhere i s holds ∙ ap (λ (b : Around). type_leaf C b i s) (sym same) ∙ did in
    ap (λ (j : Ins). rest_of D t (next j c) s) plain
    ∙ ap (λ (o : Option Shape). (is_constant_leaf D i && is_constant D c) && is_some (ends_with D.types (t ∷ []) (o >>= type_code D nowhere c) (Some nothing))) typed
    ∙ and_false (is_constant_leaf D i && is_constant D c)

-- what is left of the code at a place
pub code_at : (is : List Instr) (k : ℕ) (i : Instr) → k < length is → i ≡ get_or is k i → code_of (drop k is) ≡ next (ins_of i) (code_of (drop (k + 1) is))
code_at is k i h at = ap code_of (drop_more is k i h ∙ ap (λ (j : Instr). j ∷ drop (k + 1) is) (sym at))

-- the instructions that may not stand in a constant expression
pub other : (C : Context) (i : Instr) → ((n : _) → i ≢ I.I32Const n) → ((n : _) → i ≢ I.I64Const n) → ((o : _) → i ≢ I.Num o) → ((h : _) → i ≢ I.RefNull h) → ((f : _) → i ≢ I.RefFunc f) → i ≢ I.RefI31 → ((x : _) → i ≢ I.StructNew x) → ((x : _) → i ≢ I.StructNewDefault x) → ((x : _) → i ≢ I.ArrayNew x) → ((x : _) → i ≢ I.ArrayNewDefault x) → ((x n : _) → i ≢ I.ArrayNewFixed x n) → i ≢ I.AnyConvertExtern → i ≢ I.ExternConvertAny → ((x : _) → i ≢ I.GlobalGet x) → is_constant_ins C (ins_of i) ≡ false
unfolding ins_of
other C (I.I32Const n) p1 p2 p3 p4 p5 p6 p7 p8 p9 p10 p11 p12 p13 p14 = absurd (p1 n refl)
other C (I.I64Const n) p1 p2 p3 p4 p5 p6 p7 p8 p9 p10 p11 p12 p13 p14 = absurd (p2 n refl)
other C (I.Num o) p1 p2 p3 p4 p5 p6 p7 p8 p9 p10 p11 p12 p13 p14 = absurd (p3 o refl)
other C (I.RefNull h) p1 p2 p3 p4 p5 p6 p7 p8 p9 p10 p11 p12 p13 p14 = absurd (p4 h refl)
other C (I.RefFunc f) p1 p2 p3 p4 p5 p6 p7 p8 p9 p10 p11 p12 p13 p14 = absurd (p5 f refl)
other C I.RefI31 p1 p2 p3 p4 p5 p6 p7 p8 p9 p10 p11 p12 p13 p14 = absurd (p6 refl)
other C (I.StructNew x) p1 p2 p3 p4 p5 p6 p7 p8 p9 p10 p11 p12 p13 p14 = absurd (p7 x refl)
other C (I.StructNewDefault x) p1 p2 p3 p4 p5 p6 p7 p8 p9 p10 p11 p12 p13 p14 = absurd (p8 x refl)
other C (I.ArrayNew x) p1 p2 p3 p4 p5 p6 p7 p8 p9 p10 p11 p12 p13 p14 = absurd (p9 x refl)
other C (I.ArrayNewDefault x) p1 p2 p3 p4 p5 p6 p7 p8 p9 p10 p11 p12 p13 p14 = absurd (p10 x refl)
other C (I.ArrayNewFixed x n) p1 p2 p3 p4 p5 p6 p7 p8 p9 p10 p11 p12 p13 p14 = absurd (p11 x n refl)
other C I.AnyConvertExtern p1 p2 p3 p4 p5 p6 p7 p8 p9 p10 p11 p12 p13 p14 = absurd (p12 refl)
other C I.ExternConvertAny p1 p2 p3 p4 p5 p6 p7 p8 p9 p10 p11 p12 p13 p14 = absurd (p13 refl)
other C (I.GlobalGet x) p1 p2 p3 p4 p5 p6 p7 p8 p9 p10 p11 p12 p13 p14 = absurd (p14 x refl)
other C (R.Block' boxed (more_of-Structured ty s r rest)) p1 p2 p3 p4 p5 p6 p7 p8 p9 p10 p11 p12 p13 p14 = refl
other C (R.Loop' boxed (more_of-Structured ty s r rest)) p1 p2 p3 p4 p5 p6 p7 p8 p9 p10 p11 p12 p13 p14 = refl
other C (R.If' boxed (more_of-Choice ty s r s' r' rest)) p1 p2 p3 p4 p5 p6 p7 p8 p9 p10 p11 p12 p13 p14 = refl
other C (R.TryTable' boxed (more_of-Guarded ty cs s r rest)) p1 p2 p3 p4 p5 p6 p7 p8 p9 p10 p11 p12 p13 p14 = refl
other C i p1 p2 p3 p4 p5 p6 p7 p8 p9 p10 p11 p12 p13 p14 = refl
