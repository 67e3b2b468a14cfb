-- What an instruction does that holds no code, branches nowhere, calls nothing, throws nothing and asks nothing: a
-- function of the locals, the store and the operands (core specification 3.0, 4.6 Instructions).
use Rattle.std.specs.Prelude.{ℕ, ◌+◌, cond, List, ◌++◌, length, take, drop, Option, Some, None, slice_set, nat_lt}
use Rattle.gu_model.specs.Value.{Value, Store}

pub data Did : Type 0 where
  -- results, the last first, the locals and the store
  goes : (results : List Value) → (locals : List (Option Value)) → Store → Did
  traps : Did
  -- an operand, a local or what an index names is missing, or of another kind than the instruction needs
  fails : Did

-- the operands are as many as the instruction takes, the last first. A local that is not set is None
abbrev pub Rule : Type 0
Rule = (locals : List (Option Value)) → Store → (operands : List Value) → Did

-- goes on with what has to be there
abbrev pub need_on : {X : Type 0} → Option X → (X → Did) → Did
need_on None go = fails
need_on (Some x) go = go x

unfoldable pub need : {X : Type 0} → Option X → (X → Did) → Did
need o go = need_on o go

-- goes on where a range was not left
abbrev pub within_on : {X : Type 0} → Option X → (X → Did) → Did
within_on None go = traps
within_on (Some x) go = go x

unfoldable pub within : {X : Type 0} → Option X → (X → Did) → Did
within o go = within_on o go

-- so many elements from a place on, where there are as many
abbrev pub part : {X : Type 0} → (start count : ℕ) → List X → Option (List X)
part start count xs = cond (nat_lt (length xs) (start + count)) None (Some (take count (drop start xs)))

-- a list with others written over its elements from a place on, where there is room
abbrev pub put : {X : Type 0} → (start : ℕ) → (written : List X) → List X → Option (List X)
put start ys xs = cond (nat_lt (length xs) (start + length ys)) None (Some (take start xs ++ ys ++ drop (start + length ys) xs))

-- the store with another memory, table or segment at an index
abbrev pub with_memory : Store → (memory : ℕ) → List ℕ → Store
with_memory st x bytes = record st { memories = slice_set st.memories x bytes }

abbrev pub with_table : Store → (table : ℕ) → List Value → Store
with_table st x entries = record st { tables = slice_set st.tables x entries }

abbrev pub with_elem : Store → (segment : ℕ) → List Value → Store
with_elem st x items = record st { elems = slice_set st.elems x items }

abbrev pub with_data : Store → (segment : ℕ) → List ℕ → Store
with_data st x bytes = record st { datas = slice_set st.datas x bytes }

-- the store with other values in an object
abbrev pub with_struct : Store → (address type : ℕ) → List Value → Store
with_struct st a x vs = record st { structs = slice_set st.structs a (record { type = x; values = vs }) }

abbrev pub with_array : Store → (address type : ℕ) → List Value → Store
with_array st a x vs = record st { arrays = slice_set st.arrays a (record { type = x; values = vs }) }
