-- Instructions on globals, tables and element segments keep to their rows.
use Rattle.std.proofs.Common.{ℕ, zero, suc, Bool, true, false, cond, List, [], ◌∷◌, length, replicate, Option, Some, None, slice_get, slice_set, nat_lt, ◌≡◌, refl, ap, ◌∙◌, sym, subst, true≢false, arith}
use Rattle.std.proofs.lemmas.Option.{same_Some, none-some}
use Rattle.gu_types.specs.declared.types.RefType.{RefType}
use Rattle.gu_types.specs.declared.types.ValType.{ValType}
use Rattle.gu_types.specs.declared.types.ValType.TheVariants.{I32, Ref}
use Rattle.gu_rec.specs.Sub.{is_sub_ref}
use Rattle.gu_syntax.specs.declared.instr.Instr.{Instr}
use Rattle.gu_syntax.specs.declared.instr.Instr.TheVariants as I
use Rattle.gu_model.specs.Outline.{Outline}
use Rattle.gu_model.specs.Value.{Value, i32, i64, Store, Allocated, allocated, fits_ref}
use Rattle.gu_model.specs.Did.{Did, goes, fails, need, within, part, put, with_table, with_elem}
use Rattle.gu_model.specs.Aggregates.{is_reference}
use Rattle.gu_model.specs.Tables.{table_get, table_set, table_size, table_fill, table_copy, table_init, elem_drop}
use Rattle.gu_model.specs.Act.{found, global_in, global_get, global_set, with_global}
use Rattle.gu_model.specs.TypingContext.{Context}
use Rattle.gu_model.specs.TypingShape.{of}
use Rattle.gu_model.specs.TypingReferences.{reference_row}
use Rattle.gu_model.specs.TypingTables as T
use Rattle.gu_model.proofs.GoodTypes.{GoodTypes}
use Rattle.gu_model.proofs.Has.{grown_same, Has, HasAll, HasTop, ref_sub}
use Rattle.gu_model.proofs.Stores.{GlobalsFit, RefsFit, EachHas, StoreFits, Later, later_same, DidGood, need_good, within_good, refs_at, refs_set, each_get, each_part, each_put, each_replicate}
use Rattle.gu_model.proofs.ActRows.{RowGoodAt, bind_row, given_row, none_is, one_is, two_is, three_is, i32_is, i32_one, i32_three}
use Rattle.gu_model.proofs.ActNumbers.{asks}

module _ (o : Outline) where
  -- a reference is no number
  pub reference_is : (al : Allocated) (r : RefType) (v : Value) → fits_ref o al r v ≡ true → is_reference v ≡ true
  reference_is al r (i32 n) h = absurd (true≢false (sym h))
  reference_is al r (i64 n) h = absurd (true≢false (sym h))
  reference_is al r _ h = refl

  pub record GlobalAt (al : Allocated) (cs vs : List (Option Value)) (x : ℕ) (t : ValType) : Type 0 where
    pub value : Value
    pub found : global_in (slice_get cs x) (slice_get vs x) ≡ Some (Some value)
    pub has : Has o al t value

  pub global_at : (al : Allocated) (cs vs : List (Option Value)) (gs : List (ValType × Bool)) (x : ℕ) (g : ValType × Bool) → GlobalsFit o al cs vs gs → slice_get gs x ≡ Some g → GlobalAt al cs vs x g.0
  global_at al cs vs [] x g h e = absurd (none-some g e)
  global_at al [] [] (y ∷ gs) x g h e = absurd h
  global_at al [] (v ∷ vs) (y ∷ gs) x g h e = absurd h
  global_at al (c ∷ cs) [] (y ∷ gs) x g h e = absurd h
  global_at al (Some c ∷ cs) (None ∷ vs) (y ∷ gs) zero g h e = record { value = c; found = refl; has = subst (λ (z : ValType × Bool). Has o al z.0 c) (same_Some _ _ e) h.0.0 }
  global_at al (None ∷ cs) (Some v ∷ vs) (y ∷ gs) zero g h e = record { value = v; found = refl; has = subst (λ (z : ValType × Bool). Has o al z.0 v) (same_Some _ _ e) h.0.0 }
  global_at al (None ∷ cs) (None ∷ vs) (y ∷ gs) zero g h e = absurd h.0
  global_at al (Some c ∷ cs) (Some v ∷ vs) (y ∷ gs) zero g h e = absurd h.0
  global_at al (c ∷ cs) (v ∷ vs) (y ∷ gs) (suc x) g h e = let q = global_at al cs vs gs x g h.1 e in record { value = q.value; found = q.found; has = q.has }

  -- a mutable global holds a value, and may hold another
  pub record VariableAt (al : Allocated) (cs vs : List (Option Value)) (gs : List (ValType × Bool)) (x : ℕ) (v : Value) : Type 0 where
    pub old : Value
    pub found : slice_get vs x ≡ Some (Some old)
    pub set : GlobalsFit o al cs (slice_set vs x (Some v)) gs

  pub variable_set : (al : Allocated) (cs vs : List (Option Value)) (gs : List (ValType × Bool)) (x : ℕ) (g : ValType × Bool) (v : Value) → GlobalsFit o al cs vs gs → slice_get gs x ≡ Some g → g.1 ≡ true → Has o al g.0 v → VariableAt al cs vs gs x v
  variable_set al cs vs [] x g v h e m w = absurd (none-some g e)
  variable_set al [] [] (y ∷ gs) x g v h e m w = absurd h
  variable_set al [] (u ∷ vs) (y ∷ gs) x g v h e m w = absurd h
  variable_set al (c ∷ cs) [] (y ∷ gs) x g v h e m w = absurd h
  variable_set al (Some c ∷ cs) (None ∷ vs) (y ∷ gs) zero g v h e m w = absurd (true≢false (sym m ∙ ap (λ (z : ValType × Bool). z.1) (sym (same_Some _ _ e)) ∙ h.0.1))
  variable_set al (None ∷ cs) (Some u ∷ vs) (y ∷ gs) zero g v h e m w = record { old = u; found = refl; set = ((subst (λ (z : ValType × Bool). Has o al z.0 v) (sym (same_Some _ _ e)) w, h.0.1), h.1) }
  variable_set al (None ∷ cs) (None ∷ vs) (y ∷ gs) zero g v h e m w = absurd h.0
  variable_set al (Some c ∷ cs) (Some u ∷ vs) (y ∷ gs) zero g v h e m w = absurd h.0
  variable_set al (c ∷ cs) (u ∷ vs) (y ∷ gs) (suc x) g v h e m w = let q = variable_set al cs vs gs x g v h.1 e m w in record { old = q.old; found = q.found; set = (h.0, q.set) }

  -- a segment that is there, and what is left of it once it is dropped
  pub refs_drop : (al : Allocated) (vss : List (List Value)) (rs : List RefType) (x : ℕ) → RefsFit o al vss rs → nat_lt x (length rs) ≡ true → ((vs : List Value) × (slice_get vss x ≡ Some vs)) × RefsFit o al (slice_set vss x []) rs
  refs_drop al [] [] x h lt = absurd (let z : ⊥ = grind (arith, lt) in z)
  refs_drop al [] (r ∷ rs) x h lt = absurd h
  refs_drop al (vs ∷ vss) [] x h lt = absurd h
  refs_drop al (vs ∷ vss) (r ∷ rs) zero h lt = ((vs, refl), (tt, h.1))
  refs_drop al (vs ∷ vss) (r ∷ rs) (suc x) h lt = let q = refs_drop al vss rs x h.1 (grind (arith, lt)) in (q.0, (h.0, q.1))

module _ (o : Outline) (good : GoodTypes o.types) (C : Context) where
  pub table_sets : (st : Store) (x : ℕ) (r : RefType) (new : List Value) → StoreFits o C st → slice_get C.tables x ≡ Some r → EachHas o (allocated st) (Ref r) new → Later o C st (with_table st x new)
  table_sets st x r new f e h = record { grown = grown_same (allocated st); fits = record { globals = f.globals; tables = refs_set o (allocated st) st.tables C.tables x r new f.tables e h; elems = f.elems; memories = f.memories; datas = f.datas; tags = f.tags; alike = f.alike; structs = f.structs; arrays = f.arrays; exceptions = f.exceptions } }

  elem_drops : (st : Store) (y : ℕ) → StoreFits o C st → RefsFit o (allocated st) (slice_set st.elems y []) C.elems → Later o C st (with_elem st y [])
  elem_drops st y f h = record { grown = grown_same (allocated st); fits = record { globals = f.globals; tables = f.tables; elems = h; memories = f.memories; datas = f.datas; tags = f.tags; alike = f.alike; structs = f.structs; arrays = f.arrays; exceptions = f.exceptions } }

  pub variable_sets : (st : Store) (x : ℕ) (v : Value) → StoreFits o C st → GlobalsFit o (allocated st) st.constants (slice_set st.variables x (Some v)) C.globals → Later o C st (record st { variables = slice_set st.variables x (Some v) })
  variable_sets st x v f h = record { grown = grown_same (allocated st); fits = record { globals = h; tables = f.tables; elems = f.elems; memories = f.memories; datas = f.datas; tags = f.tags; alike = f.alike; structs = f.structs; arrays = f.arrays; exceptions = f.exceptions } }

  pub each_sub : (al : Allocated) (r u : RefType) (vs : List Value) → is_sub_ref o.types r u ≡ true → EachHas o al (Ref r) vs → EachHas o al (Ref u) vs
  each_sub al r u [] s h = tt
  each_sub al r u (v ∷ vs) s h = (ref_sub o good al r u v s h.0, each_sub al r u vs s h.1)

  module _ (us : List ValType) (ls : List (Option Value)) (st : Store) (f : StoreFits o C st) where
    pub table_good : (x : ℕ) (r : RefType) (go : List Value → Did) → slice_get C.tables x ≡ Some r → ((entries : List Value) → EachHas o (allocated st) (Ref r) entries → DidGood o C us ls st (go entries)) → DidGood o C us ls st (need (slice_get st.tables x) go)
    table_good x r go e g = let q = refs_at o (allocated st) st.tables C.tables x r f.tables e in need_good o C us ls st (slice_get st.tables x) go q.entries q.found (g q.entries q.has)

    pub elem_good : (y : ℕ) (r : RefType) (go : List Value → Did) → slice_get C.elems y ≡ Some r → ((items : List Value) → EachHas o (allocated st) (Ref r) items → DidGood o C us ls st (go items)) → DidGood o C us ls st (need (slice_get st.elems y) go)
    elem_good y r go e g = let q = refs_at o (allocated st) st.elems C.elems y r f.elems e in need_good o C us ls st (slice_get st.elems y) go q.entries q.found (g q.entries q.has)

    -- values that are put into a table
    puts_good : (x : ℕ) (r : RefType) (i : ℕ) (ws entries : List Value) → us ≡ [] → slice_get C.tables x ≡ Some r → EachHas o (allocated st) (Ref r) ws → EachHas o (allocated st) (Ref r) entries → DidGood o C us ls st (within (put i ws entries) (λ new. goes [] ls (with_table st x new)))
    puts_good x r i ws entries u e hw he = within_good o C us ls st (put i ws entries) _ (λ new q. (table_sets st x r new f e (each_put o (allocated st) (Ref r) i ws entries new hw he q), subst (λ us. HasTop o (allocated st) [] us) (sym u) tt, refl))

  get_did : (x : ℕ) (r : RefType) → slice_get C.tables x ≡ Some r → (ls : List (Option Value)) (st : Store) (vs : List Value) → StoreFits o C st → HasAll o (allocated st) vs (of I32 ∷ []) → DidGood o C (Ref r ∷ []) ls st (table_get x ls st vs)
  get_did x r e ls st vs f h = i32_one o (allocated st) (λ vs. DidGood o C (Ref r ∷ []) ls st (table_get x ls st vs)) vs h (λ i. table_good (Ref r ∷ []) ls st f x r _ e (λ entries he. within_good o C (Ref r ∷ []) ls st (slice_get entries i) _ (λ v q. (later_same o C st f, (each_get o (allocated st) (Ref r) entries i v he q, tt), refl))))

  set_did : (x : ℕ) (r : RefType) → slice_get C.tables x ≡ Some r → (ls : List (Option Value)) (st : Store) (vs : List Value) → StoreFits o C st → HasAll o (allocated st) vs (of (Ref r) ∷ of I32 ∷ []) → DidGood o C [] ls st (table_set x ls st vs)
  set_did x r e ls st vs f h = two_is o (allocated st) (λ vs. DidGood o C [] ls st (table_set x ls st vs)) vs (Ref r) I32 h (λ v w hv hw. i32_is o (allocated st) (λ w. DidGood o C [] ls st (table_set x ls st (v ∷ w ∷ []))) w hw (λ i. table_good [] ls st f x r _ e (λ entries he. subst (λ b. DidGood o C [] ls st (cond b (within (put i (v ∷ []) entries) (λ new. goes [] ls (with_table st x new))) fails)) (sym (reference_is o (allocated st) r v hv)) (puts_good [] ls st f x r i (v ∷ []) entries refl e (hv, tt) he))))

  fill_did : (x : ℕ) (r : RefType) → slice_get C.tables x ≡ Some r → (ls : List (Option Value)) (st : Store) (vs : List Value) → StoreFits o C st → HasAll o (allocated st) vs (of I32 ∷ of (Ref r) ∷ of I32 ∷ []) → DidGood o C [] ls st (table_fill x ls st vs)
  fill_did x r e ls st vs f h = three_is o (allocated st) (λ vs. DidGood o C [] ls st (table_fill x ls st vs)) vs I32 (Ref r) I32 h (λ n v i hn hv hi. i32_is o (allocated st) (λ n. DidGood o C [] ls st (table_fill x ls st (n ∷ v ∷ i ∷ []))) n hn (λ n. i32_is o (allocated st) (λ i. DidGood o C [] ls st (table_fill x ls st (i32 n ∷ v ∷ i ∷ []))) i hi (λ i. table_good [] ls st f x r _ e (λ entries he. subst (λ b. DidGood o C [] ls st (cond b (within (put i (replicate n v) entries) (λ new. goes [] ls (with_table st x new))) fails)) (sym (reference_is o (allocated st) r v hv)) (puts_good [] ls st f x r i (replicate n v) entries refl e (each_replicate o (allocated st) (Ref r) n v hv) he)))))

  size_did : (x : ℕ) (r : RefType) → slice_get C.tables x ≡ Some r → (ls : List (Option Value)) (st : Store) (vs : List Value) → StoreFits o C st → HasAll o (allocated st) vs [] → DidGood o C (I32 ∷ []) ls st (table_size x ls st vs)
  size_did x r e ls st vs f h = none_is o (allocated st) (λ vs. DidGood o C (I32 ∷ []) ls st (table_size x ls st vs)) vs h (table_good (I32 ∷ []) ls st f x r _ e (λ entries he. (later_same o C st f, (tt, tt), refl)))

  copy_did : (x y : ℕ) (to from : RefType) → slice_get C.tables x ≡ Some to → slice_get C.tables y ≡ Some from → is_sub_ref o.types from to ≡ true → (ls : List (Option Value)) (st : Store) (vs : List Value) → StoreFits o C st → HasAll o (allocated st) vs (of I32 ∷ of I32 ∷ of I32 ∷ []) → DidGood o C [] ls st (table_copy x y ls st vs)
  copy_did x y to from e d s ls st vs f h = i32_three o (allocated st) (λ vs. DidGood o C [] ls st (table_copy x y ls st vs)) vs h (λ n j i. table_good [] ls st f x to _ e (λ entries he. table_good [] ls st f y from _ d (λ source hs. within_good o C [] ls st (part j n source) _ (λ ws q. puts_good [] ls st f x to i ws entries refl e (each_sub (allocated st) from to ws s (each_part o (allocated st) (Ref from) j n source ws hs q)) he))))

  init_did : (y x : ℕ) (to from : RefType) → slice_get C.tables x ≡ Some to → slice_get C.elems y ≡ Some from → is_sub_ref o.types from to ≡ true → (ls : List (Option Value)) (st : Store) (vs : List Value) → StoreFits o C st → HasAll o (allocated st) vs (of I32 ∷ of I32 ∷ of I32 ∷ []) → DidGood o C [] ls st (table_init y x ls st vs)
  init_did y x to from e d s ls st vs f h = i32_three o (allocated st) (λ vs. DidGood o C [] ls st (table_init y x ls st vs)) vs h (λ n j i. table_good [] ls st f x to _ e (λ entries he. elem_good [] ls st f y from _ d (λ source hs. within_good o C [] ls st (part j n source) _ (λ ws q. puts_good [] ls st f x to i ws entries refl e (each_sub (allocated st) from to ws s (each_part o (allocated st) (Ref from) j n source ws hs q)) he))))

  drop_did : (y : ℕ) → nat_lt y (length C.elems) ≡ true → (ls : List (Option Value)) (st : Store) (vs : List Value) → StoreFits o C st → HasAll o (allocated st) vs [] → DidGood o C [] ls st (elem_drop y ls st vs)
  drop_did y lt ls st vs f h = let q = refs_drop o (allocated st) st.elems C.elems y f.elems lt in none_is o (allocated st) (λ vs. DidGood o C [] ls st (elem_drop y ls st vs)) vs h (need_good o C [] ls st (slice_get st.elems y) _ q.0.0 q.0.1 (elem_drops st y f q.1, tt, refl))

  global_get_did : (x : ℕ) (g : ValType × Bool) → slice_get C.globals x ≡ Some g → (ls : List (Option Value)) (st : Store) (vs : List Value) → StoreFits o C st → HasAll o (allocated st) vs [] → DidGood o C (g.0 ∷ []) ls st (global_get x ls st vs)
  global_get_did x g e ls st vs f h = let q = global_at o (allocated st) st.constants st.variables C.globals x g f.globals e in none_is o (allocated st) (λ vs. DidGood o C (g.0 ∷ []) ls st (global_get x ls st vs)) vs h (subst (λ p. DidGood o C (g.0 ∷ []) ls st (found p ls st)) (sym q.found) (later_same o C st f, (q.has, tt), refl))

  global_set_did : (x : ℕ) (g : ValType × Bool) → slice_get C.globals x ≡ Some g → g.1 ≡ true → (ls : List (Option Value)) (st : Store) (vs : List Value) → StoreFits o C st → HasAll o (allocated st) vs (of g.0 ∷ []) → DidGood o C [] ls st (global_set x ls st vs)
  global_set_did x g e m ls st vs f h = one_is o (allocated st) (λ vs. DidGood o C [] ls st (global_set x ls st vs)) vs g.0 h (λ v hv. let q = variable_set o (allocated st) st.constants st.variables C.globals x g v f.globals e m hv in subst (λ p. DidGood o C [] ls st (with_global x v p ls st)) (sym q.found) (variable_sets st x v f q.set, tt, refl))

  -- instructions that stand in this part of the table keep to their rows, and the others hand on
  pub table_rows : (same : C.types ≡ o.types) (i : Instr) → asks i ≡ false → RowGoodAt o C i (reference_row C i) → RowGoodAt o C i (T.table_row C i)
  table_rows same (I.GlobalGet x) p k = bind_row o C (I.GlobalGet x) (slice_get C.globals x) _ (λ g e. record { count = refl; acts = global_get_did x g e })
  table_rows same (I.GlobalSet x) p k = bind_row o C (I.GlobalSet x) (slice_get C.globals x) _ (λ g e. given_row o C (I.GlobalSet x) g.1 _ (λ m. record { count = refl; acts = global_set_did x g e m }))
  table_rows same (I.TableGet x) p k = bind_row o C (I.TableGet x) (slice_get C.tables x) _ (λ r e. record { count = refl; acts = get_did x r e })
  table_rows same (I.TableSet x) p k = bind_row o C (I.TableSet x) (slice_get C.tables x) _ (λ r e. record { count = refl; acts = set_did x r e })
  table_rows same (I.TableSize x) p k = bind_row o C (I.TableSize x) (slice_get C.tables x) _ (λ r e. record { count = refl; acts = size_did x r e })
  table_rows same (I.TableGrow x) p k = absurd (true≢false p)
  table_rows same (I.TableFill x) p k = bind_row o C (I.TableFill x) (slice_get C.tables x) _ (λ r e. record { count = refl; acts = fill_did x r e })
  table_rows same (I.TableCopy x y) p k = bind_row o C (I.TableCopy x y) (slice_get C.tables y) _ (λ from d. bind_row o C (I.TableCopy x y) (slice_get C.tables x) _ (λ to e. given_row o C (I.TableCopy x y) (is_sub_ref C.types from to) _ (λ s. record { count = refl; acts = copy_did x y to from e d (subst (λ l. is_sub_ref l from to ≡ true) same s) })))
  table_rows same (I.TableInit y x) p k = bind_row o C (I.TableInit y x) (slice_get C.elems y) _ (λ from d. bind_row o C (I.TableInit y x) (slice_get C.tables x) _ (λ to e. given_row o C (I.TableInit y x) (is_sub_ref C.types from to) _ (λ s. record { count = refl; acts = init_did y x to from e d (subst (λ l. is_sub_ref l from to ≡ true) same s) })))
  table_rows same (I.ElemDrop y) p k = given_row o C (I.ElemDrop y) (nat_lt y (length C.elems)) _ (λ g. record { count = refl; acts = drop_did y g })
  table_rows same i p k = k
