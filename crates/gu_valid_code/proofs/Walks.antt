-- What each kind of instruction that holds code comes to.
use Rattle.std.proofs.Common.{ℕ, ◌≡◌, ◌≢◌, List, [], ◌∷◌, ◌++◌, ◌∙◌, ap, sym, refl, Bool, true, false, Option, Some, None, Result, Ok, Err, IfOk, reverse}
use Rattle.std.specs.List.{list_all}
use Rattle.gu_types.specs.declared.types.ValType.{ValType}
use Rattle.gu_types.specs.declared.types.ValType.TheVariants.{I32}
use Rattle.gu_syntax.specs.declared.instr.Catch.{Catch}
use Rattle.gu_syntax.specs.declared.instr.Choice.{Choice}
use Rattle.gu_syntax.specs.declared.instr.Guarded.{Guarded}
use Rattle.gu_syntax.specs.declared.instr.Instr.{Instr}
use Rattle.gu_syntax.specs.declared.instr.Instr.TheVariants as I
use Rattle.gu_syntax.specs.declared.instr.Instr.TheVariants.{Block, Loop, If, TryTable}
use Rattle.gu_syntax.specs.declared.instr.Structured.{Structured}
use Rattle.gu_syntax.specs.Code.{Ins, Code, leaf, ins_of, code_of}
use Rattle.gu_syntax.proofs.Shapes.{ins_of-Block, ins_of-Loop, ins_of-If, ins_of-TryTable, ins_of-leaf}
use Rattle.gu_model.specs.Index.{FuncType}
use Rattle.gu_model.specs.TypingContext.{Context, Around, ◌>>=◌, given, type_of_block}
use Rattle.gu_model.specs.TypingShape.{Kind, Shape, pops, empties, ends_with}
use Rattle.gu_model.specs.Typing.{type_catch, type_ins, type_leaf, type_local_set, type_local_tee, type_code, inside, opened}
use Rattle.gu_valid_code.specs.Body.{unset, enters, leaves, branch_of, nests, first_of, second_of}
use Rattle.gu_valid_code.specs.Leaf.{sets_local}
use Rattle.gu_valid_code.specs.State.{Did}
use Rattle.gu_valid_code.proofs.Sets.{other_keeps}

module _ (C : Context) (a : Around) (s : Shape) (i : Instr) where
  of_ins : (j : Ins) → ins_of i ≡ j → type_ins C a (ins_of i) s ≡ type_ins C a j s
  of_ins j e = ap (λ (k : Ins). type_ins C a k s) e

  pub set_is : (x : ℕ) → i ≡ I.LocalSet x → type_ins C a (ins_of i) s ≡ type_local_set C a x s
  unfolding ins_of
  set_is x e = of_ins (leaf (I.LocalSet x)) (ap ins_of e)

  pub tee_is : (x : ℕ) → i ≡ I.LocalTee x → type_ins C a (ins_of i) s ≡ type_local_tee C a x s
  unfolding ins_of
  tee_is x e = of_ins (leaf (I.LocalTee x)) (ap ins_of e)

  pub leaf_is : ((b : Structured) → i ≢ Block b) → ((b : Structured) → i ≢ Loop b) → ((c : Choice) → i ≢ If c) → ((g : Guarded) → i ≢ TryTable g) → type_ins C a (ins_of i) s ≡ type_leaf C a i s
  leaf_is p q o t = of_ins (leaf i) (ins_of-leaf i p q o t)

  pub block_is : (b : Structured) (is : List Instr) → i ≡ Block b → is ≡ b.body.code → type_ins C a (ins_of i) s ≡ nests C a b.ty false (code_of is) s
  block_is b is e same = of_ins _ (ap ins_of e ∙ ins_of-Block b) ∙ ap (λ (js : List Instr). nests C a b.ty false (code_of js) s) (sym same)

  pub loop_is : (b : Structured) (is : List Instr) → i ≡ Loop b → is ≡ b.body.code → type_ins C a (ins_of i) s ≡ nests C a b.ty true (code_of is) s
  loop_is b is e same = of_ins _ (ap ins_of e ∙ ins_of-Loop b) ∙ ap (λ (js : List Instr). nests C a b.ty true (code_of js) s) (sym same)

  -- both branches of a choice, one after the other
  emptied : (o t : Option Shape) (u : Shape) (p : Shape → Option Shape) (ks : List Kind) → o ≡ p u → elim ks [ [] ↦ o | k ∷ js ↦ None ] ≡ elim ks [ [] ↦ Some u | k ∷ js ↦ None ] >>= p
  emptied o t u p [] e = e
  emptied o t u p (k ∷ ks) e = refl

  popped : (u : Shape) (p : Shape → Option Shape) (q : Option Shape) → q >>= (λ f. empties C.types f (p u)) ≡ (q >>= λ f. empties C.types f (Some u)) >>= p
  popped u p None = refl
  popped u p (Some f) = emptied (p u) None u p f.types refl

  chosen : (ts : List ValType) (o : Option Shape) (u : Shape) (p : Shape → Option Shape) → ends_with C.types ts o (p u) ≡ ends_with C.types ts o (Some u) >>= p
  chosen ts None u p = refl
  chosen ts (Some e) u p = popped u p (pops C.types ts e)

  joined : (t : FuncType) (c : Code) (p : Shape → Option Shape) (q : Option Shape) → q >>= (λ u. ends_with C.types t.results (type_code C (inside a t.results) c (opened t.params u)) (p u)) ≡ (q >>= branch_of C a t c) >>= p
  joined t c p None = refl
  joined t c p (Some u) = chosen t.results (type_code C (inside a t.results) c (opened t.params u)) u p

  both : (c d : Code) (o : Option FuncType) → o >>= (λ t. pops C.types (t.params ++ I32 ∷ []) s >>= λ u. ends_with C.types t.results (type_code C (inside a t.results) c (opened t.params u)) (leaves C a t.results t d u)) ≡ (o >>= λ t. pops C.types (t.params ++ I32 ∷ []) s >>= branch_of C a t c) >>= λ v. o >>= λ t. leaves C a t.results t d v
  both c d None = refl
  both c d (Some t) = joined t c (leaves C a t.results t d) (pops C.types (t.params ++ I32 ∷ []) s)

  choice_is : (c : Choice) → i ≡ If c → type_ins C a (ins_of i) s ≡ first_of C a c.ty (code_of c.yes.code) s >>= second_of C a c.ty (code_of c.no.code)
  choice_is c e = of_ins _ (ap ins_of e ∙ ins_of-If c) ∙ both (code_of c.yes.code) (code_of c.no.code) (type_of_block C.types c.ty)

  -- a choice whose first branch fails
  pub choice_fails : (c : Choice) (is : List Instr) → i ≡ If c → is ≡ c.yes.code → first_of C a c.ty (code_of is) s ≡ None → type_ins C a (ins_of i) s ≡ None
  choice_fails c is e same h =
      choice_is c e
      ∙ ap (λ (js : List Instr). first_of C a c.ty (code_of js) s >>= second_of C a c.ty (code_of c.no.code)) (sym same)
      ∙ ap (λ (o : Option Shape). o >>= second_of C a c.ty (code_of c.no.code)) h

  -- and one whose first branch is typed
  pub choice_goes : (c : Choice) (is js : List Instr) (u : Shape) → i ≡ If c → is ≡ c.yes.code → js ≡ c.no.code → first_of C a c.ty (code_of is) s ≡ Some u → type_ins C a (ins_of i) s ≡ second_of C a c.ty (code_of js) u
  choice_goes c is js u e same same' h =
      choice_is c e
      ∙ ap (λ (ks : List Instr). first_of C a c.ty (code_of ks) s >>= second_of C a c.ty (code_of c.no.code)) (sym same)
      ∙ ap (λ (o : Option Shape). o >>= second_of C a c.ty (code_of c.no.code)) h
      ∙ ap (λ (ks : List Instr). second_of C a c.ty (code_of ks) u) (sym same')

  abbrev never : FuncType → Option Shape
  never t = None

  nothing : (o : Option FuncType) → o >>= never ≡ None
  nothing None = refl
  nothing (Some t) = refl

  try_is : (g : Guarded) (ds : List Catch) → i ≡ TryTable g → ds ≡ g.catches → type_ins C a (ins_of i) s ≡ type_of_block C.types g.ty >>= λ t. given (list_all (type_catch C a) ds) (enters C a t.results t (code_of g.body.code) s)
  try_is g ds e same =
      of_ins _ (ap ins_of e ∙ ins_of-TryTable g)
      ∙ ap (λ (es : List Catch). type_of_block C.types g.ty >>= λ t. given (list_all (type_catch C a) es) (enters C a t.results t (code_of g.body.code) s)) (sym same)

  -- a try_table of which a catch fails
  pub try_fails : (g : Guarded) (ds : List Catch) → i ≡ TryTable g → ds ≡ g.catches → list_all (type_catch C a) ds ≡ false → type_ins C a (ins_of i) s ≡ None
  try_fails g ds e same h =
      try_is g ds e same
      ∙ ap (λ (v : Bool). type_of_block C.types g.ty >>= λ t. given v (enters C a t.results t (code_of g.body.code) s)) h
      ∙ nothing (type_of_block C.types g.ty)

  -- and one of which none does
  pub try_goes : (g : Guarded) (ds : List Catch) (is : List Instr) → i ≡ TryTable g → ds ≡ g.catches → is ≡ g.body.code → list_all (type_catch C a) ds ≡ true → type_ins C a (ins_of i) s ≡ nests C a g.ty false (code_of is) s
  try_goes g ds is e same same' h =
      try_is g ds e same
      ∙ ap (λ (v : Bool). type_of_block C.types g.ty >>= λ t. given v (enters C a t.results t (code_of g.body.code) s)) h
      ∙ ap (λ (js : List Instr). nests C a g.ty false (code_of js) s) (sym same')

-- an instruction that sets no local keeps what there is to be put back
pub kept : {E : Type 0} (C : Context) (a : Around) (i : Instr) (s e : Shape) (here : List ℕ) (r : Result Bool E) → sets_local i ≡ false → IfOk r (λ b. Did b (type_ins C a (ins_of i) s) e) → IfOk r (λ b. b ≡ true → unset (reverse here) e.set ≡ unset (reverse here) s.set)
kept C a i s e here (Err x) p d = tt
kept C a i s e here (Ok true) p d = λ on. ap (unset (reverse here)) (other_keeps C a i s e p d)
kept C a i s e here (Ok false) p d = λ on. absurd (let z : ⊥ = cc in z)

pub sets_none : (i : Instr) → ((x : ℕ) → i ≢ I.LocalSet x) → ((x : ℕ) → i ≢ I.LocalTee x) → sets_local i ≡ false
sets_none (I.LocalSet x) p q = absurd (p x refl)
sets_none (I.LocalTee x) p q = absurd (q x refl)
sets_none i p q = refl

pub stays : {X E : Type 0} (a : Around) (r : Result X E) → IfOk r (λ x. a ≡ a)
stays a (Ok x) = refl
stays a (Err x) = tt
