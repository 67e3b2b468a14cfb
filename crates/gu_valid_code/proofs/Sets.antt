-- Which locals are set: what a block sets is put back, and no other instruction changes it.
use Rattle.std.proofs.Common.{slice_get, ℕ, zero, suc, ◌≡◌, ◌<◌, List, [], ◌∷◌, ◌++◌, ◌∙◌, ap, sym, refl, reverse, length, get_or, Bool, true, false, cond, Option, Some, None, slice_set, arith}
use Rattle.std.proofs.lemmas.List.{reverse-append}
use Rattle.gu_types.specs.declared.types.TypeList.{TypeList}
use Rattle.gu_types.specs.declared.types.ValType.{ValType}
use Rattle.std.specs.List.{list_all}
use Rattle.gu_types.specs.declared.types.Abs.TheVariants as A
use Rattle.gu_types.specs.declared.types.ValType.TheVariants.{I32}
use Rattle.gu_syntax.specs.declared.instr.Instr as J
use Rattle.gu_syntax.specs.declared.instr.Instr.{Instr, more_of-Structured, more_of-Choice, more_of-Guarded}
use Rattle.gu_syntax.specs.declared.instr.Instr.TheVariants as I
use Rattle.gu_syntax.specs.Code.{Ins, Code, leaf, block, loop, choice, try_table, ins_of}
use Rattle.gu_model.specs.TypingContext.{Context, Around, ◌>>=◌, type_of_block, abs_or_null}
use Rattle.gu_model.specs.TypingRows.{Row, goes, leaves}
use Rattle.gu_model.specs.TypingShape.{Kind, Bot, Shape, non_null, push, pushes, stops, pop_kind, pop_kind_on, suits, pop_on, pops, pops_down, type_row, empties, ends_with}
use Rattle.gu_model.specs.Typing.{split_last, inside, opened, if_set, selected, takes, table_branch, null_branch, non_null_branch, control_row, type_leaf, type_catch, type_code, type_ins}
use Rattle.gu_valid_code.specs.Leaf.{sets_local}
use Rattle.gu_valid_code.specs.Body.{unset}
use Rattle.gu_valid_code.specs.State.{Did}

set_back : (set : List Bool) (x : ℕ) (b : Bool) → b ≡ get_or set x b → b ≡ false → x < length set → slice_set (slice_set set x true) x false ≡ set
set_back [] x b is off h = absurd (omega (arith, h))
set_back (c ∷ set) zero b is off h = ap (λ d. d ∷ set) (sym off ∙ is)
set_back (c ∷ set) (suc x) b is off h = ap (λ (ds : List Bool). c ∷ ds) (set_back set x b is off (omega (arith, h)))

-- a local that is set and noted last
pub noted : (here new : List ℕ) (set : List Bool) (x : ℕ) (b : Bool) → new ≡ here ++ x ∷ [] → b ≡ get_or set x b → b ≡ false → x < length set → unset (reverse new) (slice_set set x true) ≡ unset (reverse here) set
noted here new set x b more is off h =
    ap (λ (xs : List ℕ). unset xs (slice_set set x true)) (ap reverse more ∙ reverse-append here (x ∷ [])) ∙ ap (unset (reverse here)) (set_back set x b is off h)

-- what goes on from a step that was made
pub record Bound {X Y : Type 0} (o : Option X) (f : X → Option Y) (y : Y) : Type 0 where
  pub x : X
  pub is : o ≡ Some x
  pub then : f x ≡ Some y

pub bound : {X Y : Type 0} (o : Option X) (f : X → Option Y) (y : Y) → o >>= f ≡ Some y → Bound o f y
bound None f y h = absurd (let z : ⊥ = cc in z)
bound (Some x) f y h = record { x = x; is = refl; then = h }

pub was_given : {X : Type 0} (b : Bool) (o : Option X) (x : X) → cond b o None ≡ Some x → o ≡ Some x
was_given true o x h = h
was_given false o x h = absurd (let z : ⊥ = cc in z)

some_keeps : (s t e : Shape) → t.set ≡ s.set → Some t ≡ Some e → e.set ≡ s.set
some_keeps s t e same h = ap (λ (u : Shape). u.set) (let q : e ≡ t = cc in q) ∙ same

module _ (list : TypeList) where
  pop_keeps : (t : ValType) (ks : List Kind) (s e : Shape) → pop_on list t ks s ≡ Some e → e.set ≡ s.set
  pop_keeps t [] s e h = let same : Some s ≡ Some e = was_given s.any (Some s) e h in ap (λ (u : Shape). u.set) (let q : e ≡ s = cc in q)
  pop_keeps t (k ∷ ks) s e h =
      let below : Shape = record s { types = ks } in
      let same : Some below ≡ Some e = was_given (suits list k t) (Some below) e h in
      ap (λ (u : Shape). u.set) (let q : e ≡ below = cc in q)

  pub down_keeps : (ts : List ValType) (s e : Shape) → pops_down list ts s ≡ Some e → e.set ≡ s.set
  down_keeps [] s e h = ap (λ (u : Shape). u.set) (let q : e ≡ s = cc in q)
  down_keeps (t ∷ ts) s e h =
      let b = bound (pop_on list t s.types s) (pops_down list ts) e h in
      down_keeps ts b.x e b.then ∙ pop_keeps t s.types s b.x b.is

  pub pops_keep : (ts : List ValType) (s e : Shape) → pops list ts s ≡ Some e → e.set ≡ s.set
  pops_keep ts s e h = down_keeps (reverse ts) s e h

  pub did_keep : (ts : List ValType) (b : Bool) (s e : Shape) → Did b (pops list ts s) e → b ≡ true → e.set ≡ s.set
  did_keep ts true s e h on = pops_keep ts s e h
  did_keep ts false s e h on = absurd (let z : ⊥ = cc in z)

  row_keeps : (row : Option Row) (s e : Shape) → type_row list row s ≡ Some e → e.set ≡ s.set
  row_keeps None s e h = absurd (let z : ⊥ = cc in z)
  row_keeps (Some (goes ts us)) s e h =
      let b = bound (pops list ts s) (pushes us) e h in
      some_keeps b.x _ e refl b.then ∙ pops_keep ts s b.x b.is
  row_keeps (Some (leaves ts)) s e h =
      let b = bound (pops list ts s) stops e h in
      some_keeps b.x _ e refl b.then ∙ pops_keep ts s b.x b.is

  empties_keep : (s t e : Shape) (ks : List Kind) → elim ks [ [] ↦ Some t | k ∷ js ↦ None ] ≡ Some e → e ≡ t
  empties_keep s t e [] h = cc
  empties_keep s t e (k ∷ ks) h = absurd (let z : ⊥ = cc in z)

  empty_goes : (ks : List Kind) (o : Option Shape) (e : Shape) → elim ks [ [] ↦ o | k ∷ js ↦ None ] ≡ Some e → o ≡ Some e
  empty_goes [] o e h = h
  empty_goes (k ∷ ks) o e h = absurd (let z : ⊥ = cc in z)

  -- code that ended well goes on with what follows
  pub ends_go : (ts : List ValType) (o : Option Shape) (t e : Shape) → ends_with list ts o (Some t) ≡ Some e → e ≡ t
  ends_go ts None t e h = absurd (let z : ⊥ = cc in z)
  ends_go ts (Some s) t e h = let b = bound (pops list ts s) (λ u. empties list u (Some t)) e h in empties_keep b.x t e b.x.types b.then

  pub choice_ends : (ts : List ValType) (o p : Option Shape) (t e : Shape) → ends_with list ts o (ends_with list ts p (Some t)) ≡ Some e → e ≡ t
  choice_ends ts None p t e h = absurd (let z : ⊥ = cc in z)
  choice_ends ts (Some s) p t e h =
      let b = bound (pops list ts s) (λ u. empties list u (ends_with list ts p (Some t))) e h in
      ends_go ts p t e (empty_goes b.x.types (ends_with list ts p (Some t)) e b.then)

kind_keeps_on : (ks : List Kind) (s e : Shape) (go : Kind → Shape → Option Shape) → ((k : Kind) (u : Shape) → go k u ≡ Some e → e.set ≡ u.set) → pop_kind_on ks s go ≡ Some e → e.set ≡ s.set
kind_keeps_on [] s e go keeps h = keeps Bot s (was_given s.any (go Bot s) e h)
kind_keeps_on (k ∷ ks) s e go keeps h = keeps k (record s { types = ks }) h

kind_keeps : (s e : Shape) (go : Kind → Shape → Option Shape) → ((k : Kind) (u : Shape) → go k u ≡ Some e → e.set ≡ u.set) → pop_kind s go ≡ Some e → e.set ≡ s.set
kind_keeps s e go keeps h = kind_keeps_on s.types s e go keeps h

if_set_keeps : (o : Option Bool) (s t e : Shape) → t.set ≡ s.set → if_set o (Some t) ≡ Some e → e.set ≡ s.set
if_set_keeps None s t e same h = absurd (let z : ⊥ = cc in z)
if_set_keeps (Some true) s t e same h = some_keeps s t e same h
if_set_keeps (Some false) s t e same h = absurd (let z : ⊥ = cc in z)

module _ (C : Context) (a : Around) where
  leaf_keeps : (i : Instr) (s e : Shape) → sets_local i ≡ false → type_leaf C a i s ≡ Some e → e.set ≡ s.set
  leaf_keeps I.Drop s e p h = kind_keeps s e _ (λ k u g. some_keeps u u e refl g) h
  leaf_keeps I.Select s e p h =
      let b = bound (pops C.types (I32 ∷ []) s) _ e h in
      kind_keeps b.x e _ (λ k u g. kind_keeps u e _ (λ j v f. let d = bound (selected j k) (λ r. push r v) e f in some_keeps v _ e refl d.then) g) b.then ∙ pops_keep C.types (I32 ∷ []) s b.x b.is
  leaf_keeps (I.LocalGet x) s e p h =
      let b = bound (slice_get a.locals x) _ e h in
      if_set_keeps (slice_get s.set x) s _ e refl b.then
  leaf_keeps (I.LocalSet x) s e p h = absurd (let z : ⊥ = cc in z)
  leaf_keeps (I.LocalTee x) s e p h = absurd (let z : ⊥ = cc in z)
  leaf_keeps I.RefIsNull s e p h = kind_keeps s e _ (λ k u g. let d = bound (non_null k) (λ r. pushes (I32 ∷ []) u) e g in some_keeps u _ e refl d.then) h
  leaf_keeps I.RefAsNonNull s e p h = kind_keeps s e _ (λ k u g. let d = bound (non_null k) (λ r. push r u) e g in some_keeps u _ e refl d.then) h
  leaf_keeps (I.BrOnNull l) s e p h =
      let b = bound (slice_get a.labels l) _ e h in
      kind_keeps s e _ (λ k u g.
      let d = bound (non_null k) (λ r. null_branch C b.x r u) e g in
      let f = bound (pops C.types b.x u) (λ v. pushes b.x v >>= push d.x) e d.then in
      some_keeps f.x _ e refl f.then ∙ pops_keep C.types b.x u f.x f.is) b.then
  leaf_keeps (I.BrOnNonNull l) s e p h =
      let b = bound (slice_get a.labels l) _ e h in
      let m = bound (split_last b.x) _ e b.then in
      kind_keeps s e _ (λ k u g.
      let d = bound (non_null k) (λ r. non_null_branch C r u m.x) e g in
      let w : pops C.types m.x.0 u >>= pushes m.x.0 ≡ Some e = was_given (suits C.types d.x m.x.1) _ e d.then in
      let f = bound (pops C.types m.x.0 u) (pushes m.x.0) e w in
      some_keeps f.x _ e refl f.then ∙ pops_keep C.types m.x.0 u f.x f.is) m.then
  leaf_keeps (I.BrTable table) s e p h =
      let b = bound (slice_get a.labels table.last) _ e h in
      let d = bound (pops C.types (I32 ∷ []) s) (table_branch C a table.labels b.x) e b.then in
      let w : pops C.types b.x d.x >>= stops ≡ Some e = was_given (list_all (takes C a (length b.x) d.x) table.labels) _ e d.then in
      let f = bound (pops C.types b.x d.x) stops e w in
      some_keeps f.x _ e refl f.then ∙ pops_keep C.types b.x d.x f.x f.is ∙ pops_keep C.types (I32 ∷ []) s d.x d.is
  leaf_keeps I.AnyConvertExtern s e p h = kind_keeps s e _ (λ k u g. some_keeps u _ e refl (was_given (suits C.types k (abs_or_null A.Extern)) _ e g)) h
  leaf_keeps I.ExternConvertAny s e p h = kind_keeps s e _ (λ k u g. some_keeps u _ e refl (was_given (suits C.types k (abs_or_null A.Any)) _ e g)) h
  leaf_keeps i s e p h = row_keeps C.types (control_row C a i) s e h

  -- a block
  block_keeps : (ts us : List ValType) (label : List ValType) (c : Code) (s e : Shape) → pops C.types ts s >>= (λ u. ends_with C.types us (type_code C (inside a label) c (opened ts u)) (pushes us u)) ≡ Some e → e.set ≡ s.set
  block_keeps ts us label c s e h =
      let b = bound (pops C.types ts s) (λ u. ends_with C.types us (type_code C (inside a label) c (opened ts u)) (pushes us u)) e h in
      ap (λ (u : Shape). u.set) (ends_go C.types us _ _ e b.then) ∙ pops_keep C.types ts s b.x b.is

  -- whether an instruction sets a local
  abbrev sets_ins : Ins → Bool
  sets_ins (leaf i) = sets_local i
  sets_ins _ = false

  ins_keeps : (i : Ins) (s e : Shape) → sets_ins i ≡ false → type_ins C a i s ≡ Some e → e.set ≡ s.set
  ins_keeps (leaf i) s e p h = leaf_keeps i s e p h
  ins_keeps (block ty c) s e p h = let b = bound (type_of_block C.types ty) _ e h in block_keeps b.x.params b.x.results b.x.results c s e b.then
  ins_keeps (loop ty c) s e p h = let b = bound (type_of_block C.types ty) _ e h in block_keeps b.x.params b.x.results b.x.params c s e b.then
  ins_keeps (choice ty c d) s e p h =
      let b = bound (type_of_block C.types ty) _ e h in
      let f = bound (pops C.types (b.x.params ++ I32 ∷ []) s) _ e b.then in
      ap (λ (u : Shape). u.set) (choice_ends C.types b.x.results _ _ _ e f.then) ∙ pops_keep C.types (b.x.params ++ I32 ∷ []) s f.x f.is
  ins_keeps (try_table ty cs c) s e p h =
      let b = bound (type_of_block C.types ty) _ e h in
      block_keeps b.x.params b.x.results b.x.results c s e (was_given (list_all (type_catch C a) cs) _ e b.then)

  sets_of : (i : Instr) → sets_local i ≡ false → sets_ins (ins_of i) ≡ false
  unfolding ins_of
  sets_of (J.Block' boxed (more_of-Structured ty s r rest)) h = refl
  sets_of (J.Loop' boxed (more_of-Structured ty s r rest)) h = refl
  sets_of (J.If' boxed (more_of-Choice ty s r s' r' rest)) h = refl
  sets_of (J.TryTable' boxed (more_of-Guarded ty cs s r rest)) h = refl
  sets_of i h = h

  pub other_keeps : (i : Instr) (s e : Shape) → sets_local i ≡ false → type_ins C a (ins_of i) s ≡ Some e → e.set ≡ s.set
  other_keeps i s e p h = ins_keeps (ins_of i) s e (sets_of i p) h
