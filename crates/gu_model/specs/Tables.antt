-- Tables, segments and bulk operations: each instruction by its rule (core specification 3.0, 4.6 Instructions, Table
-- Instructions and Memory Instructions). A bulk operation tests its whole ranges before it writes anything. Operands
-- stand with the last first.
use Rattle.std.specs.Prelude.{ℕ, ◌%◌, cond, [], ◌∷◌, length, replicate, slice_get}
use Rattle.gu_model.specs.Value.{i32}
use Rattle.gu_model.specs.Did.{goes, fails, Rule, need, within, part, put, with_memory, with_table, with_elem, with_data}
use Rattle.gu_model.specs.Aggregates.{is_reference}

-- table.get x
abbrev pub table_get : (table : ℕ) → Rule
table_get x ls st (i32 i ∷ []) = need (slice_get st.tables x) (λ entries. within (slice_get entries i) (λ v. goes (v ∷ []) ls st))
table_get x ls st _ = fails

-- table.set x
abbrev pub table_set : (table : ℕ) → Rule
table_set x ls st (v ∷ i32 i ∷ []) = need (slice_get st.tables x) (λ entries. cond (is_reference v) (within (put i (v ∷ []) entries) (λ new. goes [] ls (with_table st x new))) fails)
table_set x ls st _ = fails

-- table.size x
abbrev pub table_size : (table : ℕ) → Rule
table_size x ls st [] = need (slice_get st.tables x) (λ entries. goes (i32 (length entries) ∷ []) ls st)
table_size x ls st _ = fails

-- table.fill x
abbrev pub table_fill : (table : ℕ) → Rule
table_fill x ls st (i32 n ∷ v ∷ i32 i ∷ []) = need (slice_get st.tables x) (λ entries. cond (is_reference v) (within (put i (replicate n v) entries) (λ new. goes [] ls (with_table st x new))) fails)
table_fill x ls st _ = fails

-- table.copy x y: to the first from the second
abbrev pub table_copy : (to from : ℕ) → Rule
table_copy x y ls st (i32 n ∷ i32 j ∷ i32 i ∷ []) = need (slice_get st.tables x) (λ entries. need (slice_get st.tables y) (λ source. within (part j n source) (λ vs. within (put i vs entries) (λ new. goes [] ls (with_table st x new)))))
table_copy x y ls st _ = fails

-- table.init x y: to the table from the segment
abbrev pub table_init : (segment table : ℕ) → Rule
table_init y x ls st (i32 n ∷ i32 j ∷ i32 i ∷ []) = need (slice_get st.tables x) (λ entries. need (slice_get st.elems y) (λ source. within (part j n source) (λ vs. within (put i vs entries) (λ new. goes [] ls (with_table st x new)))))
table_init y x ls st _ = fails

-- elem.drop x
abbrev pub elem_drop : (segment : ℕ) → Rule
elem_drop y ls st [] = need (slice_get st.elems y) (λ source. goes [] ls (with_elem st y []))
elem_drop y ls st _ = fails

-- memory.fill x: with the low byte of a number
abbrev pub memory_fill : (memory : ℕ) → Rule
memory_fill x ls st (i32 n ∷ i32 b ∷ i32 i ∷ []) = need (slice_get st.memories x) (λ bytes. within (put i (replicate n (b % 256)) bytes) (λ new. goes [] ls (with_memory st x new)))
memory_fill x ls st _ = fails

-- memory.copy x y: to the first from the second
abbrev pub memory_copy : (to from : ℕ) → Rule
memory_copy x y ls st (i32 n ∷ i32 j ∷ i32 i ∷ []) = need (slice_get st.memories x) (λ bytes. need (slice_get st.memories y) (λ source. within (part j n source) (λ bs. within (put i bs bytes) (λ new. goes [] ls (with_memory st x new)))))
memory_copy x y ls st _ = fails

-- memory.init x y: to the memory from the segment
abbrev pub memory_init : (segment memory : ℕ) → Rule
memory_init y x ls st (i32 n ∷ i32 j ∷ i32 i ∷ []) = need (slice_get st.memories x) (λ bytes. need (slice_get st.datas y) (λ source. within (part j n source) (λ bs. within (put i bs bytes) (λ new. goes [] ls (with_memory st x new)))))
memory_init y x ls st _ = fails

-- data.drop x
abbrev pub data_drop : (segment : ℕ) → Rule
data_drop y ls st [] = need (slice_get st.datas y) (λ source. goes [] ls (with_data st y []))
data_drop y ls st _ = fails
