-- Branches, throw_ref and the instructions on references that are null or not go on as they are typed.
use Rattle.std.proofs.Common.{ℕ, Bool, true, false, cond, not, ◌&&◌, List, [], ◌∷◌, ◌++◌, map, reverse, Option, Some, None, slice_get, ◌≡◌, refl, ap, ◌∙◌, sym, subst, true≢false, inl, inr}
use Rattle.std.proofs.lemmas.Bool.{cases_Bool}
use Rattle.std.proofs.lemmas.List.{reverse-append, reverse-reverse}
use Rattle.std.proofs.lemmas.Option.{same_Some, none-some}
use Rattle.gu_types.specs.declared.types.Abs.{Abs}
use Rattle.gu_types.specs.declared.types.Abs.TheVariants as A
use Rattle.gu_types.specs.declared.types.HeapType.TheVariants as H
use Rattle.gu_types.specs.declared.types.RefType.{RefType}
use Rattle.gu_types.specs.declared.types.ValType.{ValType}
use Rattle.gu_types.specs.declared.types.ValType.TheVariants.{I32, I64, Ref}
use Rattle.gu_rec.specs.Sub.{is_sub, line, is_sub_ref, is_sub_val}
use Rattle.gu_syntax.specs.declared.instr.CastBranch.{CastBranch}
use Rattle.gu_syntax.specs.declared.instr.Instr.{Instr}
use Rattle.gu_syntax.specs.declared.instr.Instr.TheVariants as I
use Rattle.gu_model.specs.Outline.{Outline}
use Rattle.gu_model.specs.Value.{Value, i32, i64, null, i31, struct, array, exception, function, host, host_external, external, Store, Allocated, allocated, heap_type, is_under, fits_ref}
use Rattle.gu_model.specs.Did.{Did, goes, fails, need, need_on}
use Rattle.gu_model.specs.Aggregates.{is_reference, is_null, ref_as_non_null, internal_form, external_form}
use Rattle.gu_model.specs.Act.{act, do_act}
use Rattle.gu_model.specs.State.{Core, State, normal, branch, return, Out, out, with_stack, trapped, pop}
use Rattle.gu_model.specs.Control.{lift, jumps, lacks, land, jumping, with_reference, branch_null, branch_non_null, branch_cast, throw_again}
use Rattle.gu_model.specs.TypingContext.{Context, Around, ◌>>=◌, given}
use Rattle.gu_model.specs.TypingShape.{Kind, of, Nothing, Bot, Shape, non_null, push, pushes, pop_kind, pop_kind_on, pop_on, pops, pops_down, type_row}
use Rattle.gu_model.specs.TypingShape as Y
use Rattle.gu_model.specs.TypingRows as R
use Rattle.gu_num.specs.Numeric.{flag}
use Rattle.gu_model.specs.TypingContext.{abs, abs_or_null, minus, is_valid_ref}
use Rattle.gu_model.specs.Typing.{converts, casts_to, cast_row, split_last, parted, non_null_branch, type_leaf}
use Rattle.gu_model.proofs.GoodTypes.{GoodTypes}
use Rattle.gu_model.proofs.Has.{has_sub, has_suits, bind_some, Has, HasAll, HasKind, pop_goes}
use Rattle.gu_model.proofs.Stores.{StoreFits, later_same}
use Rattle.gu_model.proofs.ActRows.{within_module, one_is}
use Rattle.gu_model.proofs.ActTables.{reference_is}
use Rattle.gu_model.proofs.References.{GoodFuncs}
use Rattle.gu_model.proofs.Moments.{IsSet, keeps_same, Fits, Good, popped}
use Rattle.gu_model.proofs.References.{exception_is, reference_cases, root_false, struct_kind, array_kind, func_kind}
use Rattle.gu_model.proofs.Leaves.{pops_last, given_some, any_taken, pop_one, did_good, on_top, retyped, branches, stays, below_fits, with_below}

-- of the instructions on references
module _ (o : Outline) (good : GoodTypes o.types) (funcs : GoodFuncs o) (gs : List (ValType × Bool)) (ts es : List RefType) (segs : ℕ) (declared : List Bool) where
  abbrev K : Context
  K = within_module o gs ts es segs declared

  abbrev FitsOf : Around → Shape → Core → Type 0
  FitsOf a s c = Fits o good K a s c

  abbrev GoodOf : Around → Core → (Core → Type 0) → Out → Type 0
  GoodOf a b N p = Good o good K a b N p

  -- br, return and unreachable
  pub br_good : (a : Around) (k : ℕ) (st : State) (s e : Shape) → type_leaf K a (I.Br k) s ≡ Some e → FitsOf a s st.core → StoreFits o K st.core.store → GoodOf a st.core (FitsOf a e) (out (branch k) st)
  br_good a k st s e h f sf = by (slice_get a.labels k) refl h
    where
      by : (p : Option (List ValType)) → slice_get a.labels k ≡ p → type_row o.types (p >>= λ us. Some (R.leaves us)) s ≡ Some e → GoodOf a st.core (FitsOf a e) (out (branch k) st)
      by None l q = absurd (none-some e q)
      by (Some us) l q = let b = bind_some (pops o.types us s) Y.stops e q in branches o good funcs gs ts es segs declared a k us s b.mid (FitsOf a e) st l b.first f sf

  pub return_good : (a : Around) (st : State) (s e : Shape) → type_leaf K a I.Return s ≡ Some e → FitsOf a s st.core → StoreFits o K st.core.store → GoodOf a st.core (FitsOf a e) (out return st)
  return_good a st s e h f sf = let b = bind_some (pops o.types a.results s) Y.stops e h in record { later = later_same o K st.core.store sf; is = on_top o good funcs gs ts es segs declared a.results a s b.mid st.core b.first f }

  trap_good : (a : Around) (st : State) (N : Core → Type 0) → StoreFits o K st.core.store → GoodOf a st.core N (trapped st)
  trap_good a st N sf = record { later = later_same o K st.core.store sf; is = tt }

  pub unreachable_good : (a : Around) (st : State) (N : Core → Type 0) → StoreFits o K st.core.store → GoodOf a st.core N (pop 0 st (λ vs below. lift st below (do_act o I.Unreachable st.core.locals st.core.store vs)))
  unfolding do_act
  unreachable_good a st N sf = subst (GoodOf a st.core N) (sym (pop_goes 0 st [] st.core.stack (λ vs below. lift st below (act o I.Unreachable st.core.locals st.core.store vs)) refl refl)) (trap_good a st N sf)

  -- throw_ref
  pub throw_ref_good : (a : Around) (st : State) (s e : Shape) → type_leaf K a I.ThrowRef s ≡ Some e → FitsOf a s st.core → StoreFits o K st.core.store → GoodOf a st.core (FitsOf a e) (jumping 1 throw_again st)
  throw_ref_good a st s e h f sf =
      let b = bind_some (pops o.types (abs_or_null A.Exn ∷ []) s) Y.stops e h in
      popped o good K a st.core (FitsOf a e) (abs_or_null A.Exn ∷ []) 1 st s b.mid _ refl b.first f (λ vs below split hv hb r set.
      one_is o (allocated st.core.store) (λ vs. GoodOf a st.core (FitsOf a e) (land st below (throw_again vs))) vs (abs_or_null A.Exn) hv (λ v hv.
      exception_is o good K st.core.store sf funcs (λ v. GoodOf a st.core (FitsOf a e) (land st below (throw_again (v ∷ [])))) true v (trap_good a st (FitsOf a e) sf)
      (λ x there. record { later = later_same o K st.core.store sf; is = record { there = there; frame = record { locals = f.locals; keeps = keeps_same st.core.locals } } }) hv))

  -- an operand that is a reference
  record RefKind (al : Allocated) (k r : Kind) (v : Value) : Type 0 where
    type : RefType
    is : k ≡ of (Ref type)
    non : r ≡ of (Ref (record { null = false; heap = type.heap }))
    has : fits_ref o al type v ≡ true

  ref_kind : (al : Allocated) (k r : Kind) (v : Value) → HasKind o al k v → non_null k ≡ Some r → RefKind al k r v
  ref_kind al (of I32) r v h q = absurd (none-some r q)
  ref_kind al (of I64) r v h q = absurd (none-some r q)
  ref_kind al (of (Ref t)) r v h q = record { type = t; is = refl; non = sym (same_Some _ _ q); has = h }
  ref_kind al Nothing r v h q = absurd h
  ref_kind al Bot r v h q = absurd h

  -- a reference that isn't null
  record NonNull (al : Allocated) (t : RefType) (v : Value) : Type 0 where
    reference : is_reference v ≡ true
    has : fits_ref o al (record { null = false; heap = t.heap }) v ≡ true

  non_null_ref : (al : Allocated) (t : RefType) (v : Value) → is_null v ≡ false → fits_ref o al t v ≡ true → NonNull al t v
  non_null_ref al t null n h = absurd (true≢false n)
  non_null_ref al t (i32 m) n h = absurd (true≢false (sym h))
  non_null_ref al t (i64 m) n h = absurd (true≢false (sym h))
  non_null_ref al t (i31 m) n h = record { reference = refl; has = h }
  non_null_ref al t (struct m) n h = record { reference = refl; has = h }
  non_null_ref al t (array m) n h = record { reference = refl; has = h }
  non_null_ref al t (exception m) n h = record { reference = refl; has = h }
  non_null_ref al t (function m) n h = record { reference = refl; has = h }
  non_null_ref al t (host m) n h = record { reference = refl; has = h }
  non_null_ref al t (host_external m) n h = record { reference = refl; has = h }
  non_null_ref al t (external m) n h = record { reference = refl; has = h }

  null_is : (P : Value → Type 0) (v : Value) → P null → (is_null v ≡ false → P v) → P v
  null_is P null n k = n
  null_is P (i32 m) n k = k refl
  null_is P (i64 m) n k = k refl
  null_is P (i31 m) n k = k refl
  null_is P (struct m) n k = k refl
  null_is P (array m) n k = k refl
  null_is P (exception m) n k = k refl
  null_is P (function m) n k = k refl
  null_is P (host m) n k = k refl
  null_is P (host_external m) n k = k refl
  null_is P (external m) n k = k refl

  -- the rules on what is not null
  as_non_null_is : (ls : List (Option Value)) (st : Store) (v : Value) → is_null v ≡ false → ref_as_non_null ls st (v ∷ []) ≡ cond (is_reference v) (goes (v ∷ []) ls st) fails
  as_non_null_is ls st null n = absurd (true≢false n)
  as_non_null_is ls st (i32 m) n = refl
  as_non_null_is ls st (i64 m) n = refl
  as_non_null_is ls st (i31 m) n = refl
  as_non_null_is ls st (struct m) n = refl
  as_non_null_is ls st (array m) n = refl
  as_non_null_is ls st (exception m) n = refl
  as_non_null_is ls st (function m) n = refl
  as_non_null_is ls st (host m) n = refl
  as_non_null_is ls st (host_external m) n = refl
  as_non_null_is ls st (external m) n = refl

  branch_null_is : (k : ℕ) (v : Value) → is_null v ≡ false → branch_null k (v ∷ []) ≡ with_reference normal v
  branch_null_is k null n = absurd (true≢false n)
  branch_null_is k (i32 m) n = refl
  branch_null_is k (i64 m) n = refl
  branch_null_is k (i31 m) n = refl
  branch_null_is k (struct m) n = refl
  branch_null_is k (array m) n = refl
  branch_null_is k (exception m) n = refl
  branch_null_is k (function m) n = refl
  branch_null_is k (host m) n = refl
  branch_null_is k (host_external m) n = refl
  branch_null_is k (external m) n = refl

  branch_non_null_is : (k : ℕ) (v : Value) → is_null v ≡ false → branch_non_null k (v ∷ []) ≡ with_reference (branch k) v
  branch_non_null_is k null n = absurd (true≢false n)
  branch_non_null_is k (i32 m) n = refl
  branch_non_null_is k (i64 m) n = refl
  branch_non_null_is k (i31 m) n = refl
  branch_non_null_is k (struct m) n = refl
  branch_non_null_is k (array m) n = refl
  branch_non_null_is k (exception m) n = refl
  branch_non_null_is k (function m) n = refl
  branch_non_null_is k (host m) n = refl
  branch_non_null_is k (host_external m) n = refl
  branch_non_null_is k (external m) n = refl

  -- an operand put back over those below, as another kind
  put_fits : (a : Around) (s u : Shape) (st : State) (k : Kind) (v : Value) (below : List Value) → FitsOf a s st.core → HasKind o (allocated st.core.store) k v → HasAll o (allocated st.core.store) below u.types → u.any ≡ false → u.set ≡ s.set → FitsOf a (record u { types = k ∷ u.types }) (with_stack st (v ∷ below)).core
  put_fits a s u st k v below f hk hb r set = record { reached = r; stack = (hk, hb); locals = f.locals; set = subst (IsSet st.core.locals) (sym set) f.set }

  -- ref.is_null
  pub is_null_good : (a : Around) (st : State) (s e : Shape) → type_leaf K a I.RefIsNull s ≡ Some e → FitsOf a s st.core → StoreFits o K st.core.store → GoodOf a st.core (FitsOf a e) (pop 1 st (λ vs below. lift st below (do_act o I.RefIsNull st.core.locals st.core.store vs)))
  unfolding do_act
  is_null_good a st s e h f sf =
      any_taken o good funcs gs ts es segs declared a s e st.core (λ k u. non_null k >>= λ r. pushes (I32 ∷ []) u) h f (λ k u q w.
      let b = bind_some (non_null k) (λ r. pushes (I32 ∷ []) u) e q in
      let r = ref_kind (allocated st.core.store) k b.mid w.value w.has b.first in
      let z = same_Some _ _ b.then in
      pop_one o good funcs gs ts es segs declared a st s u k (FitsOf a e) (λ vs below. lift st below (act o I.RefIsNull st.core.locals st.core.store vs)) w
      (subst (λ c. GoodOf a st.core (FitsOf a e) (lift st w.below (cond c (goes (i32 (flag (is_null w.value)) ∷ []) st.core.locals st.core.store) fails))) (sym (reference_is o (allocated st.core.store) r.type w.value r.has))
      (did_good o good funcs gs ts es segs declared a s e st (i32 (flag (is_null w.value)) ∷ []) w.below sf f (subst (λ (x : Shape). HasAll o (allocated st.core.store) (i32 (flag (is_null w.value)) ∷ w.below) x.types) z (tt, w.rest)) (subst (λ (x : Shape). x.any ≡ false) z w.reached) (ap (λ (x : Shape). x.set) (sym z) ∙ w.set))))

  -- ref.as_non_null
  pub as_non_null_good : (a : Around) (st : State) (s e : Shape) → type_leaf K a I.RefAsNonNull s ≡ Some e → FitsOf a s st.core → StoreFits o K st.core.store → GoodOf a st.core (FitsOf a e) (pop 1 st (λ vs below. lift st below (do_act o I.RefAsNonNull st.core.locals st.core.store vs)))
  unfolding do_act
  as_non_null_good a st s e h f sf =
      any_taken o good funcs gs ts es segs declared a s e st.core (λ k u. non_null k >>= λ r. push r u) h f (λ k u q w.
      let b = bind_some (non_null k) (λ r. push r u) e q in
      let r = ref_kind (allocated st.core.store) k b.mid w.value w.has b.first in
      let z = same_Some _ _ b.then in
      pop_one o good funcs gs ts es segs declared a st s u k (FitsOf a e) (λ vs below. lift st below (act o I.RefAsNonNull st.core.locals st.core.store vs)) w
      (null_is (λ v. v ≡ w.value → GoodOf a st.core (FitsOf a e) (lift st w.below (ref_as_non_null st.core.locals st.core.store (v ∷ [])))) w.value (λ y. trap_good a st (FitsOf a e) sf) (λ n y.
      let m = non_null_ref (allocated st.core.store) r.type w.value n r.has in
      subst (λ d. GoodOf a st.core (FitsOf a e) (lift st w.below d)) (sym (as_non_null_is st.core.locals st.core.store w.value n ∙ ap (λ c. cond c (goes (w.value ∷ []) st.core.locals st.core.store) fails) m.reference))
      (did_good o good funcs gs ts es segs declared a s e st (w.value ∷ []) w.below sf f (subst (λ (x : Shape). HasAll o (allocated st.core.store) (w.value ∷ w.below) x.types) z (subst (λ k. HasKind o (allocated st.core.store) k w.value) (sym r.non) m.has, w.rest)) (subst (λ (x : Shape). x.any ≡ false) z w.reached) (ap (λ (x : Shape). x.set) (sym z) ∙ w.set))) refl))

  -- br_on_null
  pub on_null_good : (a : Around) (l : ℕ) (st : State) (s e : Shape) → type_leaf K a (I.BrOnNull l) s ≡ Some e → FitsOf a s st.core → StoreFits o K st.core.store → GoodOf a st.core (FitsOf a e) (jumping 1 (branch_null l) st)
  on_null_good a l st s e h f sf =
      let c = bind_some (slice_get a.labels l) (λ us. pop_kind s (λ k u. non_null k >>= λ r. pops o.types us u >>= λ v. pushes us v >>= push r)) e h in
      any_taken o good funcs gs ts es segs declared a s e st.core (λ k u. non_null k >>= λ r. pops o.types c.mid u >>= λ v. pushes c.mid v >>= push r) c.then f (λ k u q w.
      let b = bind_some (non_null k) (λ r. pops o.types c.mid u >>= λ v. pushes c.mid v >>= push r) e q in
      let d = bind_some (pops o.types c.mid u) (λ v. pushes c.mid v >>= push b.mid) e b.then in
      let r = ref_kind (allocated st.core.store) k b.mid w.value w.has b.first in
      let z = same_Some _ _ d.then in
      let g = below_fits o good funcs gs ts es segs declared a s u st w.below f w.rest w.reached w.set in
      pop_one o good funcs gs ts es segs declared a st s u k (FitsOf a e) (λ vs below. land st below (branch_null l vs)) w
      (null_is (λ v. v ≡ w.value → GoodOf a st.core (FitsOf a e) (land st w.below (branch_null l (v ∷ [])))) w.value
      (λ y. with_below o good funcs gs ts es segs declared a st (FitsOf a e) w.below _ (branches o good funcs gs ts es segs declared a l c.mid u d.mid (FitsOf a e) (with_stack st w.below) c.first d.first g sf))
      (λ n y.
      let m = non_null_ref (allocated st.core.store) r.type w.value n r.has in
      subst (λ j. GoodOf a st.core (FitsOf a e) (land st w.below j)) (sym (branch_null_is l w.value n ∙ ap (λ c. cond c (jumps normal (w.value ∷ [])) lacks) m.reference))
      (with_below o good funcs gs ts es segs declared a st (FitsOf a e) (w.value ∷ w.below) _ (stays o good funcs gs ts es segs declared a e (with_stack st (w.value ∷ w.below)) (subst (λ e. FitsOf a e (with_stack st (w.value ∷ w.below)).core) z (over (retyped o good funcs gs ts es segs declared c.mid a u d.mid (with_stack st w.below).core d.first g) (subst (λ k. HasKind o (allocated st.core.store) k w.value) (sym r.non) m.has))) sf))) refl))
    where
      over : {x : Shape} {r : Kind} {v : Value} {below : List Value} → FitsOf a x (with_stack st below).core → HasKind o (allocated st.core.store) r v → FitsOf a (record x { types = r ∷ x.types }) (with_stack st (v ∷ below)).core
      over g h = record { reached = g.reached; stack = (h, g.stack); locals = g.locals; set = g.set }

  -- the last of a label's types
  last_is : (us : List ValType) (ends : List ValType × ValType) → split_last us ≡ Some ends → reverse us ≡ ends.1 ∷ reverse ends.0
  last_is us ends h = by (reverse us) h
    where
      by : (rs : List ValType) → parted rs ≡ Some ends → rs ≡ ends.1 ∷ reverse ends.0
      by [] q = absurd (none-some ends q)
      by (t ∷ rs) q = let z = same_Some _ _ q in ap (λ (p : List ValType × ValType). p.1 ∷ rs) z ∙ ap (λ rs. ends.1 ∷ rs) (sym (reverse-reverse rs) ∙ ap (λ (p : List ValType × ValType). reverse p.0) z)

  -- a branch to a label whose operands are there, with a reference over them
  lands_last : (a : Around) (l : ℕ) (us : List ValType) (ends : List ValType × ValType) (m u : Shape) (N : Core → Type 0) (st : State) (v : Value) (below : List Value) → slice_get a.labels l ≡ Some us → split_last us ≡ Some ends → pops o.types ends.0 m ≡ Some u → FitsOf a m (with_stack st below).core → Has o (allocated st.core.store) ends.1 v → StoreFits o K st.core.store → GoodOf a st.core N (out (branch l) (with_stack st (v ∷ below)))
  lands_last a l us ends m u N st v below q h p f hv sf =
      let t = on_top o good funcs gs ts es segs declared ends.0 a m u (with_stack st below).core p f in
      record { later = later_same o K st.core.store sf; is = record { types = us; found = q; top = record { top = v ∷ t.top; rest = t.rest; split = ap (λ r. v ∷ r) t.split; has = subst (λ rs. HasAll o (allocated st.core.store) (v ∷ t.top) (map of rs)) (sym (last_is us ends h)) (hv, t.has) }; frame = record { locals = f.locals; keeps = keeps_same st.core.locals } } }

  -- br_on_non_null
  pub on_non_null_good : (a : Around) (l : ℕ) (st : State) (s e : Shape) → type_leaf K a (I.BrOnNonNull l) s ≡ Some e → FitsOf a s st.core → StoreFits o K st.core.store → GoodOf a st.core (FitsOf a e) (jumping 1 (branch_non_null l) st)
  on_non_null_good a l st s e h f sf =
      let c = bind_some (slice_get a.labels l) (λ us. split_last us >>= λ ends. pop_kind s (λ k u. non_null k >>= λ r. non_null_branch K r u ends)) e h in
      let t = bind_some (split_last c.mid) (λ ends. pop_kind s (λ k u. non_null k >>= λ r. non_null_branch K r u ends)) e c.then in
      any_taken o good funcs gs ts es segs declared a s e st.core (λ k u. non_null k >>= λ r. non_null_branch K r u t.mid) t.then f (λ k u q w.
      let b = bind_some (non_null k) (λ r. non_null_branch K r u t.mid) e q in
      let y = given_some (Y.suits o.types b.mid t.mid.1) (pops o.types t.mid.0 u >>= pushes t.mid.0) e b.then in
      let d = bind_some (pops o.types t.mid.0 u) (pushes t.mid.0) e y.1 in
      let r = ref_kind (allocated st.core.store) k b.mid w.value w.has b.first in
      let g = below_fits o good funcs gs ts es segs declared a s u st w.below f w.rest w.reached w.set in
      pop_one o good funcs gs ts es segs declared a st s u k (FitsOf a e) (λ vs below. land st below (branch_non_null l vs)) w
      (null_is (λ v. v ≡ w.value → GoodOf a st.core (FitsOf a e) (land st w.below (branch_non_null l (v ∷ [])))) w.value
      (λ z. with_below o good funcs gs ts es segs declared a st (FitsOf a e) w.below _ (stays o good funcs gs ts es segs declared a e (with_stack st w.below) (subst (λ e. FitsOf a e (with_stack st w.below).core) (same_Some _ _ d.then) (retyped o good funcs gs ts es segs declared t.mid.0 a u d.mid (with_stack st w.below).core d.first g)) sf))
      (λ n z.
      let m = non_null_ref (allocated st.core.store) r.type w.value n r.has in
      subst (λ j. GoodOf a st.core (FitsOf a e) (land st w.below j)) (sym (branch_non_null_is l w.value n ∙ ap (λ c. cond c (jumps (branch l) (w.value ∷ [])) lacks) m.reference))
      (lands_last a l c.mid t.mid u d.mid (FitsOf a e) st w.value w.below c.first t.first d.first g (has_suits o good (allocated st.core.store) b.mid t.mid.1 w.value (subst (λ k. HasKind o (allocated st.core.store) k w.value) (sym r.non) m.has) y.0) sf)) refl))

  -- casts that branch

  -- what is of a type and not of another is of the difference
  minus_has : (al : Allocated) (x y : RefType) (v : Value) → fits_ref o al x v ≡ true → fits_ref o al y v ≡ false → fits_ref o al (minus x y) v ≡ true
  minus_has al x y null h n = ap (λ b. b && not y.null) h ∙ ap not n
  minus_has al x y (i32 m) h n = h
  minus_has al x y (i64 m) h n = h
  minus_has al x y (i31 m) h n = h
  minus_has al x y (struct m) h n = h
  minus_has al x y (array m) h n = h
  minus_has al x y (exception m) h n = h
  minus_has al x y (function m) h n = h
  minus_has al x y (host m) h n = h
  minus_has al x y (host_external m) h n = h
  minus_has al x y (external m) h n = h

  -- a cast's row: the label's operands below a reference
  record CastRow (a : Around) (l : ℕ) (x taken left : RefType) (s e : Shape) : Type 0 where
    types : List ValType
    found : slice_get a.labels l ≡ Some types
    ends : List ValType × ValType
    last : split_last types ≡ Some ends
    sub : is_sub_val o.types (Ref taken) ends.1 ≡ true
    mid : Shape
    first : pops o.types (Ref x ∷ []) s ≡ Some mid
    end : Shape
    second : pops o.types ends.0 mid ≡ Some end
    is : record end { types = of (Ref left) ∷ (map of (reverse ends.0) ++ end.types) } ≡ e

  cast_typed : (a : Around) (l : ℕ) (x y taken left : RefType) (s e : Shape) → type_row o.types (casts_to K (slice_get a.labels l) x y taken left) s ≡ Some e → CastRow a l x taken left s e
  cast_typed a l x y taken left s e h = on (is_valid_ref o.types x && is_valid_ref o.types y && is_sub_ref o.types y x) h
    where
      row : (us : List ValType) → slice_get a.labels l ≡ Some us → (ends : List ValType × ValType) → split_last us ≡ Some ends → (b : Bool) → is_sub_val o.types (Ref taken) ends.1 ≡ b → type_row o.types (given b (Some (R.goes (ends.0 ++ Ref x ∷ []) (ends.0 ++ Ref left ∷ [])))) s ≡ Some e → CastRow a l x taken left s e
      row us q ends p false z h = absurd (none-some e h)
      row us q ends p true z h = let b = bind_some (pops o.types (ends.0 ++ Ref x ∷ []) s) (pushes (ends.0 ++ Ref left ∷ [])) e h in let m = pops_last o good funcs gs ts es segs declared ends.0 (Ref x) s b.mid b.first in record { types = us; found = q; ends = ends; last = p; sub = z; mid = m.0; first = m.1; end = b.mid; second = m.2; is = ap (λ rs. record b.mid { types = map of rs ++ b.mid.types }) (sym (reverse-append ends.0 (Ref left ∷ []))) ∙ same_Some _ _ b.then }

      ended : (us : List ValType) → slice_get a.labels l ≡ Some us → (p : Option (List ValType × ValType)) → split_last us ≡ p → type_row o.types (p >>= cast_row K x y taken left) s ≡ Some e → CastRow a l x taken left s e
      ended us q None p h = absurd (none-some e h)
      ended us q (Some ends) p h = row us q ends p (is_sub_val o.types (Ref taken) ends.1) refl h

      labelled : (p : Option (List ValType)) → slice_get a.labels l ≡ p → type_row o.types (p >>= λ us. split_last us >>= cast_row K x y taken left) s ≡ Some e → CastRow a l x taken left s e
      labelled None q h = absurd (none-some e h)
      labelled (Some us) q h = ended us q (split_last us) refl h

      on : (b : Bool) → type_row o.types (given b (slice_get a.labels l >>= λ us. split_last us >>= cast_row K x y taken left)) s ≡ Some e → CastRow a l x taken left s e
      on true h = labelled (slice_get a.labels l) refl h
      on false h = absurd (none-some e h)

  -- the operand goes to the label, or stays over the others
  cast_lands : (a : Around) (l : ℕ) (x taken left : RefType) (st : State) (s e : Shape) (v : Value) (below : List Value) (c : CastRow a l x taken left s e) → FitsOf a c.mid (with_stack st below).core → StoreFits o K st.core.store → fits_ref o (allocated st.core.store) taken v ≡ true → GoodOf a st.core (FitsOf a e) (out (branch l) (with_stack st (v ∷ below)))
  cast_lands a l x taken left st s e v below c g sf h = lands_last a l c.types c.ends c.mid c.end (FitsOf a e) st v below c.found c.last c.second g (has_sub o good (allocated st.core.store) (Ref taken) c.ends.1 v c.sub h) sf

  cast_stays : (a : Around) (l : ℕ) (x taken left : RefType) (st : State) (s e : Shape) (v : Value) (below : List Value) (c : CastRow a l x taken left s e) → FitsOf a c.mid (with_stack st below).core → StoreFits o K st.core.store → fits_ref o (allocated st.core.store) left v ≡ true → GoodOf a st.core (FitsOf a e) (out normal (with_stack st (v ∷ below)))
  cast_stays a l x taken left st s e v below c g sf h = let t = retyped o good funcs gs ts es segs declared c.ends.0 a c.mid c.end (with_stack st below).core c.second g in with_below o good funcs gs ts es segs declared a st (FitsOf a e) (v ∷ below) _ (stays o good funcs gs ts es segs declared a e (with_stack st (v ∷ below)) (subst (λ e. FitsOf a e (with_stack st (v ∷ below)).core) c.is (record { reached = t.reached; stack = (h, t.stack); locals = t.locals; set = t.set })) sf)

  -- br_on_cast and br_on_cast_fail
  pub on_cast_good : (a : Around) (arg : CastBranch) (st : State) (s e : Shape) → type_leaf K a (I.BrOnCast arg) s ≡ Some e → FitsOf a s st.core → StoreFits o K st.core.store → GoodOf a st.core (FitsOf a e) (jumping 1 (branch_cast o arg.of arg.to (branch arg.label) normal (allocated st.core.store)) st)
  on_cast_good a arg st s e h f sf =
      let l = arg.label in
      let x = arg.of in
      let y = arg.to in
      let c = cast_typed a l x y y (minus x y) s e h in
      popped o good K a st.core (FitsOf a e) (Ref x ∷ []) 1 st s c.mid _ refl c.first f (λ vs below split hv hb r set.
      one_is o (allocated st.core.store) (λ vs. GoodOf a st.core (FitsOf a e) (land st below (branch_cast o x y (branch l) normal (allocated st.core.store) vs))) vs (Ref x) hv (λ v hv.
      let g = below_fits o good funcs gs ts es segs declared a s c.mid st below f hb r set in
      subst (λ b. GoodOf a st.core (FitsOf a e) (land st below (cond b (jumps (cond (fits_ref o (allocated st.core.store) y v) (branch l) normal) (v ∷ [])) lacks))) (sym hv)
      (elim (cases_Bool (fits_ref o (allocated st.core.store) y v)) [
        | inl yes' ↦ subst (λ b. GoodOf a st.core (FitsOf a e) (out (cond b (branch l) normal) (with_stack st (v ∷ below)))) (sym yes') (cast_lands a l x y (minus x y) st s e v below c g sf yes')
        | inr no' ↦ subst (λ b. GoodOf a st.core (FitsOf a e) (out (cond b (branch l) normal) (with_stack st (v ∷ below)))) (sym no') (cast_stays a l x y (minus x y) st s e v below c g sf (minus_has (allocated st.core.store) x y v hv no'))
      ])))

  pub on_cast_fail_good : (a : Around) (arg : CastBranch) (st : State) (s e : Shape) → type_leaf K a (I.BrOnCastFail arg) s ≡ Some e → FitsOf a s st.core → StoreFits o K st.core.store → GoodOf a st.core (FitsOf a e) (jumping 1 (branch_cast o arg.of arg.to normal (branch arg.label) (allocated st.core.store)) st)
  on_cast_fail_good a arg st s e h f sf =
      let l = arg.label in
      let x = arg.of in
      let y = arg.to in
      let c = cast_typed a l x y (minus x y) y s e h in
      popped o good K a st.core (FitsOf a e) (Ref x ∷ []) 1 st s c.mid _ refl c.first f (λ vs below split hv hb r set.
      one_is o (allocated st.core.store) (λ vs. GoodOf a st.core (FitsOf a e) (land st below (branch_cast o x y normal (branch l) (allocated st.core.store) vs))) vs (Ref x) hv (λ v hv.
      let g = below_fits o good funcs gs ts es segs declared a s c.mid st below f hb r set in
      subst (λ b. GoodOf a st.core (FitsOf a e) (land st below (cond b (jumps (cond (fits_ref o (allocated st.core.store) y v) normal (branch l)) (v ∷ [])) lacks))) (sym hv)
      (elim (cases_Bool (fits_ref o (allocated st.core.store) y v)) [
        | inl yes' ↦ subst (λ b. GoodOf a st.core (FitsOf a e) (out (cond b normal (branch l)) (with_stack st (v ∷ below)))) (sym yes') (cast_stays a l x (minus x y) y st s e v below c g sf yes')
        | inr no' ↦ subst (λ b. GoodOf a st.core (FitsOf a e) (out (cond b normal (branch l)) (with_stack st (v ∷ below)))) (sym no') (cast_lands a l x (minus x y) y st s e v below c g sf (minus_has (allocated st.core.store) x y v hv no'))
      ])))

  -- external forms: null, a host's reference, and the form of an internal value
  external_is : (st : Store) (sf : StoreFits o K st) (P : Value → Type 0) (v : Value) → P null → ((n : ℕ) → P (host_external n)) → ((w : Value) → is_under o (H.Abs A.Any) (heap_type o (allocated st) w) ≡ true → P (external w)) → fits_ref o (allocated st) (record { null = true; heap = H.Abs A.Extern }) v ≡ true → P v
  unfolding is_sub line
  external_is st sf P v pn ph pe = reference_cases o good K st sf P (record { null = true; heap = H.Abs A.Extern }) v (λ t. pn) (record {
    unboxed = λ k s. absurd (true≢false (sym s));
    structs = λ a u q f s. absurd (true≢false (sym (root_false o good K st sf funcs u.type A.AnyStruct A.Extern (struct_kind o.types u.type f.fields f.found) s)));
    arrays = λ a u q f s. absurd (true≢false (sym (root_false o good K st sf funcs u.type A.AnyArray A.Extern (array_kind o.types u.type f.field f.found) s)));
    exceptions = λ a l s. absurd (true≢false (sym s));
    functions = λ f t q s. absurd (true≢false (sym (root_false o good K st sf funcs t A.AnyFunc A.Extern (func_kind o.types t (funcs.typed f t q).0 (funcs.typed f t q).1) s)));
    hosts = λ k s. absurd (true≢false (sym s));
    externals = λ k s. ph k;
    forms = λ w q s. pe w q;
  })

  -- an internal value has an external form
  record FormOf (al : Allocated) (v : Value) : Type 0 where
    value : Value
    found : external_form v ≡ Some value
    has : fits_ref o al (record { null = false; heap = H.Abs A.Extern }) value ≡ true

  internal_is : (st : Store) (sf : StoreFits o K st) (P : Value → Type 0) (v : Value) → P null → ((v : Value) → FormOf (allocated st) v → P v) → fits_ref o (allocated st) (record { null = true; heap = H.Abs A.Any }) v ≡ true → P v
  unfolding is_sub line
  internal_is st sf P v pn pf h = reference_cases o good K st sf (λ v. fits_ref o (allocated st) (record { null = true; heap = H.Abs A.Any }) v ≡ true → P v) (record { null = true; heap = H.Abs A.Any }) v (λ t e. pn) (record {
    unboxed = λ k s e. pf (i31 k) (form (i31 k) refl e);
    structs = λ a u q f s e. pf (struct a) (form (struct a) refl e);
    arrays = λ a u q f s e. pf (array a) (form (array a) refl e);
    exceptions = λ a l s e. absurd (true≢false (sym s));
    functions = λ f t q s e. absurd (true≢false (sym (root_false o good K st sf funcs t A.AnyFunc A.Any (func_kind o.types t (funcs.typed f t q).0 (funcs.typed f t q).1) s)));
    hosts = λ k s e. pf (host k) (record { value = host_external k; found = refl; has = refl });
    externals = λ k s e. absurd (true≢false (sym s));
    forms = λ w q s e. absurd (true≢false (sym s));
  }) h h
    where
      form : (v : Value) → external_form v ≡ Some (external v) → is_under o (H.Abs A.Any) (heap_type o (allocated st) v) ≡ true → FormOf (allocated st) v
      form v e h = record { value = external v; found = e; has = ap (λ b. is_under o (H.Abs A.Extern) (cond b (Some (H.Abs A.Extern)) None)) h }

  -- a reference that isn't null has the type that null is among too
  or_null : (al : Allocated) (h : Abs) (b : Bool) (v : Value) → fits_ref o al (record { null = false; heap = H.Abs h }) v ≡ true → Has o al (cond b (abs_or_null h) (abs h)) v
  or_null al h false v e = e
  or_null al h true null e = refl
  or_null al h true (i32 n) e = e
  or_null al h true (i64 n) e = e
  or_null al h true (i31 n) e = e
  or_null al h true (struct n) e = e
  or_null al h true (array n) e = e
  or_null al h true (exception n) e = e
  or_null al h true (function n) e = e
  or_null al h true (host n) e = e
  or_null al h true (host_external n) e = e
  or_null al h true (external n) e = e

  nulls_null : (al : Allocated) (k : Kind) → HasKind o al k null → Y.nulls k ≡ true
  nulls_null al (of I32) h = absurd h
  nulls_null al (of I64) h = absurd h
  nulls_null al (of (Ref r)) h = h
  nulls_null al Nothing h = absurd h
  nulls_null al Bot h = absurd h

  null_has : (al : Allocated) (h : Abs) (b : Bool) → b ≡ true → Has o al (cond b (abs_or_null h) (abs h)) null
  null_has al h true e = refl
  null_has al h false e = absurd (true≢false (sym e))

  -- a conversion gives a value of the other tree
  record Converts (rule : List (Option Value) → Store → List Value → Did) (ls : List (Option Value)) (st : Store) (t : ValType) (v : Value) : Type 0 where
    value : Value
    found : rule ls st (v ∷ []) ≡ goes (value ∷ []) ls st
    has : Has o (allocated st) t value

  converted : (a : Around) (i : Instr) (from to : Abs) (st : State) (s e : Shape) → pop_kind s (converts K from to) ≡ Some e → FitsOf a s st.core → StoreFits o K st.core.store → ((k : Kind) (v : Value) → HasKind o (allocated st.core.store) k v → Has o (allocated st.core.store) (abs_or_null from) v → Converts (act o i) st.core.locals st.core.store (cond (Y.nulls k) (abs_or_null to) (abs to)) v) → GoodOf a st.core (FitsOf a e) (pop 1 st (λ vs below. lift st below (act o i st.core.locals st.core.store vs)))
  converted a i from to st s e h f sf rule =
      any_taken o good funcs gs ts es segs declared a s e st.core (converts K from to) h f (λ k u q w.
      let y = given_some (Y.suits o.types k (abs_or_null from)) (push (of (cond (Y.nulls k) (abs_or_null to) (abs to))) u) e q in
      let c = rule k w.value w.has (has_suits o good (allocated st.core.store) k (abs_or_null from) w.value w.has y.0) in
      let z = same_Some _ _ y.1 in
      pop_one o good funcs gs ts es segs declared a st s u k (FitsOf a e) (λ vs below. lift st below (act o i st.core.locals st.core.store vs)) w
      (subst (λ d. GoodOf a st.core (FitsOf a e) (lift st w.below d)) (sym c.found)
      (did_good o good funcs gs ts es segs declared a s e st (c.value ∷ []) w.below sf f (subst (λ (x : Shape). HasAll o (allocated st.core.store) (c.value ∷ w.below) x.types) z (c.has, w.rest)) (subst (λ (x : Shape). x.any ≡ false) z w.reached) (ap (λ (x : Shape). x.set) (sym z) ∙ w.set))))

  need_is : {X : Type 0} (p : Option X) (go : X → Did) (x : X) → p ≡ Some x → need p go ≡ go x
  unfolding need
  need_is p go x e = ap (λ p. need_on p go) e

  -- any.convert_extern and extern.convert_any
  pub to_any_good : (a : Around) (st : State) (s e : Shape) → type_leaf K a I.AnyConvertExtern s ≡ Some e → FitsOf a s st.core → StoreFits o K st.core.store → GoodOf a st.core (FitsOf a e) (pop 1 st (λ vs below. lift st below (do_act o I.AnyConvertExtern st.core.locals st.core.store vs)))
  unfolding do_act is_sub line
  to_any_good a st s e h f sf = converted a I.AnyConvertExtern A.Extern A.Any st s e h f sf (λ k v hk hv. external_is st.core.store sf (λ v. HasKind o (allocated st.core.store) k v → Converts (act o I.AnyConvertExtern) st.core.locals st.core.store (cond (Y.nulls k) (abs_or_null A.Any) (abs A.Any)) v) v
      (λ hk. record { value = null; found = need_is (internal_form null) _ null refl; has = null_has (allocated st.core.store) A.Any (Y.nulls k) (nulls_null (allocated st.core.store) k hk) })
      (λ n hk. record { value = host n; found = need_is (internal_form (host_external n)) _ (host n) refl; has = or_null (allocated st.core.store) A.Any (Y.nulls k) (host n) refl })
      (λ w q hk. record { value = w; found = need_is (internal_form (external w)) _ w refl; has = or_null (allocated st.core.store) A.Any (Y.nulls k) w (under_ref w q) }) hv hk)
    where
      under_ref : (w : Value) → is_under o (H.Abs A.Any) (heap_type o (allocated st.core.store) w) ≡ true → fits_ref o (allocated st.core.store) (record { null = false; heap = H.Abs A.Any }) w ≡ true
      under_ref null q = absurd (true≢false (sym q))
      under_ref (i32 n) q = q
      under_ref (i64 n) q = q
      under_ref (i31 n) q = q
      under_ref (struct n) q = q
      under_ref (array n) q = q
      under_ref (exception n) q = q
      under_ref (function n) q = q
      under_ref (host n) q = q
      under_ref (host_external n) q = q
      under_ref (external n) q = q

  pub to_extern_good : (a : Around) (st : State) (s e : Shape) → type_leaf K a I.ExternConvertAny s ≡ Some e → FitsOf a s st.core → StoreFits o K st.core.store → GoodOf a st.core (FitsOf a e) (pop 1 st (λ vs below. lift st below (do_act o I.ExternConvertAny st.core.locals st.core.store vs)))
  unfolding do_act
  to_extern_good a st s e h f sf = converted a I.ExternConvertAny A.Any A.Extern st s e h f sf (λ k v hk hv. internal_is st.core.store sf (λ v. HasKind o (allocated st.core.store) k v → Converts (act o I.ExternConvertAny) st.core.locals st.core.store (cond (Y.nulls k) (abs_or_null A.Extern) (abs A.Extern)) v) v
      (λ hk. record { value = null; found = need_is (external_form null) _ null refl; has = null_has (allocated st.core.store) A.Extern (Y.nulls k) (nulls_null (allocated st.core.store) k hk) })
      (λ v g hk. record { value = g.value; found = need_is (external_form v) _ g.value g.found; has = or_null (allocated st.core.store) A.Extern (Y.nulls k) g.value g.has }) hv hk)
