-- Instructions on numbers and memories keep to their rows.
use Rattle.std.proofs.Common.{ℕ, zero, suc, ◌<◌, ◌+◌, Bool, true, false, ◌&&◌, ◌||◌, nat_eq, List, [], ◌∷◌, replicate, Option, Some, slice_get, nat_lt, nat_le, ◌≡◌, refl, ap, ◌∙◌, sym, subst, true≢false, arith, inl, inr}
use Rattle.std.specs.Int.{w8, w16, w32, w64}
use Rattle.gu_types.specs.declared.types.ValType.{ValType}
use Rattle.gu_types.specs.declared.types.ValType.TheVariants.{I32, I64}
use Rattle.gu_optab.specs.declared.op.NumOp.{NumOp}
use Rattle.gu_optab.specs.declared.op.NumType.{NumType}
use Rattle.gu_optab.specs.declared.op.NumType.TheVariants as N
use Rattle.gu_optab.specs.Operators.{row_at}
use Rattle.gu_num.specs.Numeric.{numeric, extend_s}
use Rattle.gu_syntax.specs.declared.instr.Instr.{Instr}
use Rattle.gu_syntax.specs.declared.instr.Instr.TheVariants as I
use Rattle.gu_syntax.specs.declared.instr.MemArg.{MemArg}
use Rattle.gu_model.specs.Outline.{Outline}
use Rattle.gu_model.specs.Value.{Value, i32, i64, Store, Allocated, allocated}
use Rattle.gu_model.specs.Did.{Did, goes, need, part, put, with_memory, with_data}
use Rattle.gu_model.specs.Numbers.{number_in, number, computed, operator, load, store, from_bytes, to_bytes, as_it_is, memory_size}
use Rattle.gu_model.specs.Tables.{memory_fill, memory_copy, memory_init, data_drop}
use Rattle.gu_model.specs.Act.{operands, act}
use Rattle.gu_model.specs.TypingContext.{Context}
use Rattle.gu_model.specs.TypingShape.{of}
use Rattle.gu_model.specs.TypingNumbers as T
use Rattle.gu_model.specs.TypingTables.{table_row}
use Rattle.std.proofs.lemmas.Bool.{cases_Bool}
use Rattle.std.proofs.lemmas.List.{length-replicate}
use Rattle.gu_model.proofs.Has.{grown_same, Has, HasAll, HasTop, and_first, and_second}
use Rattle.gu_model.proofs.Stores.{StoreFits, Later, later_same, DidGood, need_good, within_good, there, length_set}
use Rattle.gu_model.proofs.ActRows.{RowGoodAt, given_row, none_is, one_is, two_is, i32_is, i32_one, i32_three}

-- a test of every number below a bound
every : (ℕ → Bool) → ℕ → Bool
every p zero = true
every p (suc n) = p n && every p n

every_at : (p : ℕ → Bool) (n : ℕ) → every p n ≡ true → (k : ℕ) → k < n → p k ≡ true
unfolding every
every_at p zero e k lt = absurd (omega (arith, lt))
every_at p (suc n) e k lt = elim (cases_Bool (nat_eq k n)) [
  | inl y ↦ subst (λ j. p j ≡ true) (let q : n ≡ k = grind (arith, y) in q) (and_first (p n) (every p n) e)
  | inr y ↦ every_at p n (and_second (p n) (every p n) e) k (let q : k < n = grind (arith, y, lt) in q)
]

-- whether an instruction asks the embedder
abbrev pub asks : Instr → Bool
asks (I.MemoryGrow x) = true
asks (I.TableGrow x) = true
asks _ = false

module _ (o : Outline) (C : Context) where
  -- with another memory, or another data segment
  pub memory_set : (st : Store) (x : ℕ) (bytes : List ℕ) → StoreFits o C st → Later o C st (with_memory st x bytes)
  memory_set st x bytes f = record { grown = grown_same (allocated st); fits = record { globals = f.globals; tables = f.tables; elems = f.elems; memories = length_set st.memories x bytes ∙ f.memories; datas = f.datas; tags = f.tags; alike = f.alike; structs = f.structs; arrays = f.arrays; exceptions = f.exceptions } }

  pub data_set : (st : Store) (x : ℕ) (bytes : List ℕ) → StoreFits o C st → Later o C st (with_data st x bytes)
  data_set st x bytes f = record { grown = grown_same (allocated st); fits = record { globals = f.globals; tables = f.tables; elems = f.elems; memories = f.memories; datas = length_set st.datas x bytes ∙ f.datas; tags = f.tags; alike = f.alike; structs = f.structs; arrays = f.arrays; exceptions = f.exceptions } }

  -- a memory that is there
  module _ (us : List ValType) (ls : List (Option Value)) (st : Store) (f : StoreFits o C st) where
    pub memory_good : (x : ℕ) (go : List ℕ → Did) → nat_lt x C.memories ≡ true → ((bytes : List ℕ) → DidGood o C us ls st (go bytes)) → DidGood o C us ls st (need (slice_get st.memories x) go)
    memory_good x go lt g = let b = there st.memories C.memories x f.memories lt in need_good o C us ls st (slice_get st.memories x) go b.0 b.1 (g b.0)

    pub data_good : (x : ℕ) (go : List ℕ → Did) → nat_lt x C.segs ≡ true → ((bytes : List ℕ) → DidGood o C us ls st (go bytes)) → DidGood o C us ls st (need (slice_get st.datas x) go)
    data_good x go lt g = let b = there st.datas C.segs x f.datas lt in need_good o C us ls st (slice_get st.datas x) go b.0 b.1 (g b.0)

  number_has : (al : Allocated) (t : NumType) (n : ℕ) → Has o al (T.number t) (number t n)
  number_has al N.I32 n = tt
  number_has al N.I64 n = tt

  pub record NumberIn (t : NumType) (v : Value) : Type 0 where
    pub value : ℕ
    pub found : number_in t v ≡ Some value

  number_is : (al : Allocated) (t : NumType) (v : Value) → Has o al (T.number t) v → NumberIn t v
  number_is al N.I32 (i32 n) h = record { value = n; found = refl }
  number_is al N.I32 _ h = absurd h
  number_is al N.I64 (i64 n) h = record { value = n; found = refl }
  number_is al N.I64 _ h = absurd h

  -- operators

  computed_good : (op : NumOp) (ns : List ℕ) (ls : List (Option Value)) (st : Store) → StoreFits o C st → DidGood o C (T.number (row_at op.row).result_type ∷ []) ls st (computed op ns ls st)
  computed_good op ns ls st f = within_good o C (T.number (row_at op.row).result_type ∷ []) ls st (numeric op ns) _ (λ n e. (later_same o C st f, (number_has (allocated st) (row_at op.row).result_type n, tt), refl))

  one_or_two : (op : NumOp) → nat_lt op.row 66 ≡ true → (nat_eq (row_at op.row).operand_count 1 || nat_eq (row_at op.row).operand_count 2) ≡ true
  unfolding every
  one_or_two op lt = every_at (λ k. nat_eq (row_at k).operand_count 1 || nat_eq (row_at k).operand_count 2) 66 refl op.row (let e : op.row < 66 = grind (arith, lt) in e)

  abbrev OperatorDid : NumOp → List (Option Value) → Store → List Value → Type 0
  OperatorDid op ls st vs = DidGood o C (T.number (row_at op.row).result_type ∷ []) ls st (operator op ls st vs)

  operator_one : (op : NumOp) (ls : List (Option Value)) (st : Store) (vs : List Value) → StoreFits o C st → HasAll o (allocated st) vs (of (T.number (row_at op.row).operand_type) ∷ []) → OperatorDid op ls st vs
  operator_one op ls st vs f h = one_is o (allocated st) (OperatorDid op ls st) vs (T.number (row_at op.row).operand_type) h (λ v hv. let a = number_is (allocated st) (row_at op.row).operand_type v hv in need_good o C (T.number (row_at op.row).result_type ∷ []) ls st (number_in (row_at op.row).operand_type v) _ a.value a.found (computed_good op (a.value ∷ []) ls st f))

  operator_two : (op : NumOp) (ls : List (Option Value)) (st : Store) (vs : List Value) → StoreFits o C st → HasAll o (allocated st) vs (of (T.number (row_at op.row).operand_type) ∷ of (T.number (row_at op.row).operand_type) ∷ []) → OperatorDid op ls st vs
  operator_two op ls st vs f h = two_is o (allocated st) (OperatorDid op ls st) vs (T.number (row_at op.row).operand_type) (T.number (row_at op.row).operand_type) h (λ w v hw hv. let a = number_is (allocated st) (row_at op.row).operand_type v hv in let b = number_is (allocated st) (row_at op.row).operand_type w hw in need_good o C (T.number (row_at op.row).result_type ∷ []) ls st (number_in (row_at op.row).operand_type v) _ a.value a.found (need_good o C (T.number (row_at op.row).result_type ∷ []) ls st (number_in (row_at op.row).operand_type w) _ b.value b.found (computed_good op (a.value ∷ b.value ∷ []) ls st f)))

  operator_did : (op : NumOp) → nat_lt op.row 66 ≡ true → (ls : List (Option Value)) (st : Store) (vs : List Value) → StoreFits o C st → HasTop o (allocated st) vs (replicate (row_at op.row).operand_count (T.number (row_at op.row).operand_type)) → OperatorDid op ls st vs
  operator_did op lt ls st vs f h = elim (cases_Bool (nat_eq (row_at op.row).operand_count 1)) [
    | inl e ↦ operator_one op ls st vs f (subst (λ n. HasTop o (allocated st) vs (replicate n (T.number (row_at op.row).operand_type))) (let q : (row_at op.row).operand_count ≡ 1 = grind (arith, e) in q) h)
    | inr e ↦ operator_two op ls st vs f (subst (λ n. HasTop o (allocated st) vs (replicate n (T.number (row_at op.row).operand_type))) (let q : (row_at op.row).operand_count ≡ 2 = two (row_at op.row).operand_count e (one_or_two op lt) in q) h)
  ]
    where
      two : (n : ℕ) → nat_eq n 1 ≡ false → (nat_eq n 1 || nat_eq n 2) ≡ true → n ≡ 2
      two n e h = let q : nat_eq n 2 ≡ true = sym (ap (λ b. b || nat_eq n 2) e) ∙ h in grind (arith, q)

  -- loads and stores

  load_did : (t : NumType) (count : ℕ) (read : ℕ → ℕ) (arg : MemArg) → nat_lt arg.memory C.memories ≡ true → (ls : List (Option Value)) (st : Store) (vs : List Value) → StoreFits o C st → HasAll o (allocated st) vs (of I32 ∷ []) → DidGood o C (T.number t ∷ []) ls st (load t count read arg ls st vs)
  load_did t count read arg lt ls st vs f h = i32_one o (allocated st) (λ vs. DidGood o C (T.number t ∷ []) ls st (load t count read arg ls st vs)) vs h (λ n. memory_good (T.number t ∷ []) ls st f arg.memory _ lt (λ bytes. within_good o C (T.number t ∷ []) ls st (part (n + arg.offset) count bytes) _ (λ bs e. (later_same o C st f, (number_has (allocated st) t (read (from_bytes bs)), tt), refl))))

  store_did : (t : NumType) (count : ℕ) (arg : MemArg) → nat_lt arg.memory C.memories ≡ true → (ls : List (Option Value)) (st : Store) (vs : List Value) → StoreFits o C st → HasAll o (allocated st) vs (of (T.number t) ∷ of I32 ∷ []) → DidGood o C [] ls st (store t count arg ls st vs)
  store_did t count arg lt ls st vs f h = two_is o (allocated st) (λ vs. DidGood o C [] ls st (store t count arg ls st vs)) vs (T.number t) I32 h (λ v w hv hw. i32_is o (allocated st) (λ w. DidGood o C [] ls st (store t count arg ls st (v ∷ w ∷ []))) w hw (λ n. let c = number_is (allocated st) t v hv in need_good o C [] ls st (number_in t v) _ c.value c.found (memory_good [] ls st f arg.memory _ lt (λ bytes. within_good o C [] ls st (put (n + arg.offset) (to_bytes count c.value) bytes) _ (λ new e. (memory_set st arg.memory new f, tt, refl))))))

  load_row : (i : Instr) (t : NumType) (width count : ℕ) (read : ℕ → ℕ) (arg : MemArg) → operands o i ≡ 1 → ((ls : List (Option Value)) (st : Store) (vs : List Value) → act o i ls st vs ≡ load t count read arg ls st vs) → RowGoodAt o C i (T.load C arg width (T.number t))
  load_row i t width count read arg e same = given_row o C i (nat_lt arg.memory C.memories && nat_le arg.exponent width) _ (λ g. record { count = e; acts = λ ls st vs f h. subst (DidGood o C (T.number t ∷ []) ls st) (sym (same ls st vs)) (load_did t count read arg (and_first (nat_lt arg.memory C.memories) _ g) ls st vs f h) })

  store_row : (i : Instr) (t : NumType) (width count : ℕ) (arg : MemArg) → operands o i ≡ 2 → ((ls : List (Option Value)) (st : Store) (vs : List Value) → act o i ls st vs ≡ store t count arg ls st vs) → RowGoodAt o C i (T.store C arg width (T.number t))
  store_row i t width count arg e same = given_row o C i (nat_lt arg.memory C.memories && nat_le arg.exponent width) _ (λ g. record { count = e; acts = λ ls st vs f h. subst (DidGood o C [] ls st) (sym (same ls st vs)) (store_did t count arg (and_first (nat_lt arg.memory C.memories) _ g) ls st vs f h) })

  -- bulk operations on memories

  fill_did : (x : ℕ) → nat_lt x C.memories ≡ true → (ls : List (Option Value)) (st : Store) (vs : List Value) → StoreFits o C st → HasAll o (allocated st) vs (of I32 ∷ of I32 ∷ of I32 ∷ []) → DidGood o C [] ls st (memory_fill x ls st vs)
  fill_did x lt ls st vs f h = i32_three o (allocated st) (λ vs. DidGood o C [] ls st (memory_fill x ls st vs)) vs h (λ n b i. memory_good [] ls st f x _ lt (λ bytes. within_good o C [] ls st _ _ (λ new e. (memory_set st x new f, tt, refl))))

  copy_did : (x y : ℕ) → nat_lt x C.memories ≡ true → nat_lt y C.memories ≡ true → (ls : List (Option Value)) (st : Store) (vs : List Value) → StoreFits o C st → HasAll o (allocated st) vs (of I32 ∷ of I32 ∷ of I32 ∷ []) → DidGood o C [] ls st (memory_copy x y ls st vs)
  copy_did x y lx ly ls st vs f h = i32_three o (allocated st) (λ vs. DidGood o C [] ls st (memory_copy x y ls st vs)) vs h (λ n j i. memory_good [] ls st f x _ lx (λ bytes. memory_good [] ls st f y _ ly (λ source. within_good o C [] ls st _ _ (λ bs e. within_good o C [] ls st _ _ (λ new e. (memory_set st x new f, tt, refl))))))

  init_did : (y x : ℕ) → nat_lt x C.memories ≡ true → nat_lt y C.segs ≡ true → (ls : List (Option Value)) (st : Store) (vs : List Value) → StoreFits o C st → HasAll o (allocated st) vs (of I32 ∷ of I32 ∷ of I32 ∷ []) → DidGood o C [] ls st (memory_init y x ls st vs)
  init_did y x lx ly ls st vs f h = i32_three o (allocated st) (λ vs. DidGood o C [] ls st (memory_init y x ls st vs)) vs h (λ n j i. memory_good [] ls st f x _ lx (λ bytes. data_good [] ls st f y _ ly (λ source. within_good o C [] ls st _ _ (λ bs e. within_good o C [] ls st _ _ (λ new e. (memory_set st x new f, tt, refl))))))

  size_did : (x : ℕ) → nat_lt x C.memories ≡ true → (ls : List (Option Value)) (st : Store) (vs : List Value) → StoreFits o C st → HasAll o (allocated st) vs [] → DidGood o C (I32 ∷ []) ls st (memory_size x ls st vs)
  size_did x lt ls st vs f h = none_is o (allocated st) (λ vs. DidGood o C (I32 ∷ []) ls st (memory_size x ls st vs)) vs h (memory_good (I32 ∷ []) ls st f x _ lt (λ bytes. (later_same o C st f, (tt, tt), refl)))

  drop_did : (y : ℕ) → nat_lt y C.segs ≡ true → (ls : List (Option Value)) (st : Store) (vs : List Value) → StoreFits o C st → HasAll o (allocated st) vs [] → DidGood o C [] ls st (data_drop y ls st vs)
  drop_did y lt ls st vs f h = none_is o (allocated st) (λ vs. DidGood o C [] ls st (data_drop y ls st vs)) vs h (data_good [] ls st f y _ lt (λ bytes. (data_set st y [] f, tt, refl)))

  const_32 : (ls : List (Option Value)) (st : Store) (vs : List Value) (n : ℕ) → StoreFits o C st → DidGood o C (I32 ∷ []) ls st (goes (i32 n ∷ []) ls st)
  const_32 ls st vs n f = (later_same o C st f, (tt, tt), refl)

  -- instructions that stand in this part of the table keep to their rows, and the others hand on
  pub number_rows : (i : Instr) → asks i ≡ false → RowGoodAt o C i (table_row C i) → RowGoodAt o C i (T.number_row C i)
  number_rows (I.I32Const z) p k = record { count = refl; acts = λ ls st vs f h. none_is o (allocated st) (λ vs. DidGood o C (I32 ∷ []) ls st (act o (I.I32Const z) ls st vs)) vs h (later_same o C st f, (tt, tt), refl) }
  number_rows (I.I64Const z) p k = record { count = refl; acts = λ ls st vs f h. none_is o (allocated st) (λ vs. DidGood o C (I64 ∷ []) ls st (act o (I.I64Const z) ls st vs)) vs h (later_same o C st f, (tt, tt), refl) }
  number_rows (I.Num op) p k = given_row o C (I.Num op) (nat_lt op.row 66) _ (λ g. record { count = sym (length-replicate (row_at op.row).operand_count (T.number (row_at op.row).operand_type)); acts = operator_did op g })
  number_rows (I.I32Load a) p k = load_row (I.I32Load a) N.I32 2 4 as_it_is a refl (λ ls st vs. refl)
  number_rows (I.I64Load a) p k = load_row (I.I64Load a) N.I64 3 8 as_it_is a refl (λ ls st vs. refl)
  number_rows (I.I32Load8S a) p k = load_row (I.I32Load8S a) N.I32 0 1 (extend_s w8 w32) a refl (λ ls st vs. refl)
  number_rows (I.I32Load8U a) p k = load_row (I.I32Load8U a) N.I32 0 1 as_it_is a refl (λ ls st vs. refl)
  number_rows (I.I32Load16S a) p k = load_row (I.I32Load16S a) N.I32 1 2 (extend_s w16 w32) a refl (λ ls st vs. refl)
  number_rows (I.I32Load16U a) p k = load_row (I.I32Load16U a) N.I32 1 2 as_it_is a refl (λ ls st vs. refl)
  number_rows (I.I64Load8S a) p k = load_row (I.I64Load8S a) N.I64 0 1 (extend_s w8 w64) a refl (λ ls st vs. refl)
  number_rows (I.I64Load8U a) p k = load_row (I.I64Load8U a) N.I64 0 1 as_it_is a refl (λ ls st vs. refl)
  number_rows (I.I64Load16S a) p k = load_row (I.I64Load16S a) N.I64 1 2 (extend_s w16 w64) a refl (λ ls st vs. refl)
  number_rows (I.I64Load16U a) p k = load_row (I.I64Load16U a) N.I64 1 2 as_it_is a refl (λ ls st vs. refl)
  number_rows (I.I64Load32S a) p k = load_row (I.I64Load32S a) N.I64 2 4 (extend_s w32 w64) a refl (λ ls st vs. refl)
  number_rows (I.I64Load32U a) p k = load_row (I.I64Load32U a) N.I64 2 4 as_it_is a refl (λ ls st vs. refl)
  number_rows (I.I32Store a) p k = store_row (I.I32Store a) N.I32 2 4 a refl (λ ls st vs. refl)
  number_rows (I.I64Store a) p k = store_row (I.I64Store a) N.I64 3 8 a refl (λ ls st vs. refl)
  number_rows (I.I32Store8 a) p k = store_row (I.I32Store8 a) N.I32 0 1 a refl (λ ls st vs. refl)
  number_rows (I.I32Store16 a) p k = store_row (I.I32Store16 a) N.I32 1 2 a refl (λ ls st vs. refl)
  number_rows (I.I64Store8 a) p k = store_row (I.I64Store8 a) N.I64 0 1 a refl (λ ls st vs. refl)
  number_rows (I.I64Store16 a) p k = store_row (I.I64Store16 a) N.I64 1 2 a refl (λ ls st vs. refl)
  number_rows (I.I64Store32 a) p k = store_row (I.I64Store32 a) N.I64 2 4 a refl (λ ls st vs. refl)
  number_rows (I.MemoryGrow x) p k = absurd (true≢false p)
  number_rows (I.MemorySize x) p k = given_row o C (I.MemorySize x) (nat_lt x C.memories) _ (λ g. record { count = refl; acts = size_did x g })
  number_rows (I.MemoryFill x) p k = given_row o C (I.MemoryFill x) (nat_lt x C.memories) _ (λ g. record { count = refl; acts = fill_did x g })
  number_rows (I.MemoryCopy x y) p k = given_row o C (I.MemoryCopy x y) (nat_lt x C.memories && nat_lt y C.memories) _ (λ g. record { count = refl; acts = copy_did x y (and_first (nat_lt x C.memories) _ g) (and_second (nat_lt x C.memories) _ g) })
  number_rows (I.MemoryInit y x) p k = given_row o C (I.MemoryInit y x) (nat_lt x C.memories && nat_lt y C.segs) _ (λ g. record { count = refl; acts = init_did y x (and_first (nat_lt x C.memories) _ g) (and_second (nat_lt x C.memories) _ g) })
  number_rows (I.DataDrop y) p k = given_row o C (I.DataDrop y) (nat_lt y C.segs) _ (λ g. record { count = refl; acts = drop_did y g })
  number_rows i p k = k
