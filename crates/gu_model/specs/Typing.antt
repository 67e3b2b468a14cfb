-- Which code is typed: the algorithm of the core specification 3.0, appendix, Validation Algorithm, told by recursion
-- on the code. Each instruction is one row, which can be read beside that of 3.4 Instructions. The rows that rest on
-- no operands and no labels stand in TypingNumbers, TypingTables and TypingReferences.
use Rattle.std.specs.Prelude.{ℕ, Bool, true, false, cond, ◌&&◌, List, [], ◌∷◌, ◌++◌, map, reverse, replicate, length, Option, Some, None, is_some, slice_get, slice_set, nat_eq}
use Rattle.std.specs.List.{list_all}
use Rattle.gu_types.specs.declared.types.Abs.{Abs}
use Rattle.gu_types.specs.declared.types.Abs.TheVariants as A
use Rattle.gu_types.specs.declared.types.RefType.{RefType}
use Rattle.gu_types.specs.declared.types.ValType.{ValType}
use Rattle.gu_types.specs.declared.types.ValType.TheVariants.{I32, I64, Ref}
use Rattle.gu_rec.specs.Sub.{is_sub_ref, is_sub_val}
use Rattle.gu_syntax.specs.declared.instr.Catch.{Catch}
use Rattle.gu_syntax.specs.declared.instr.Catch.TheVariants as T
use Rattle.gu_syntax.specs.declared.instr.Instr.{Instr}
use Rattle.gu_syntax.specs.declared.instr.Instr.TheVariants as I
use Rattle.gu_syntax.specs.declared.module.Func.{Func}
use Rattle.gu_syntax.specs.Code.{Ins, Code, leaf, block, loop, choice, try_table, done, next, code_of}
use Rattle.gu_model.specs.Index.{FuncType, func_type, func_type_in}
use Rattle.gu_model.specs.TypingContext.{Context, Around, ◌>>=◌, given, is_valid_val, is_valid_ref, type_of_block, matches, has_default, abs, abs_or_null, idx_or_null, minus}
use Rattle.gu_model.specs.TypingRows.{Row, goes, leaves}
use Rattle.gu_model.specs.TypingReferences.{is_number}
use Rattle.gu_model.specs.TypingNumbers.{number_row}
use Rattle.gu_model.specs.TypingShape.{Kind, of, Bot, Shape, non_null, nulls, push, pushes, stops, pop_kind, suits, pops, type_row, ends_with}

-- labels

-- the types of a label before the last, and the last. None where there are no types
abbrev pub parted : List ValType → Option (List ValType × ValType)
parted [] = None
parted (last ∷ before) = Some (reverse before, last)

abbrev pub split_last : List ValType → Option (List ValType × ValType)
split_last ts = parted (reverse ts)

abbrev pub inside : Around → (label : List ValType) → Around
inside a ts = record a { labels = ts ∷ a.labels }

-- where the code of a block begins: with its parameters alone. The locals that are set are those that were
abbrev pub opened : (params : List ValType) → Shape → Shape
opened ts s = record s { types = map of (reverse ts); any = false }

-- locals

abbrev pub if_set : Option Bool → Option Shape → Option Shape
if_set (Some true) o = o
if_set _ o = None

abbrev pub sets : (local : ℕ) → Shape → Option Shape
sets x s = Some (record s { set = slice_set s.set x true })

abbrev pub type_local_get : Around → (local : ℕ) → Shape → Option Shape
type_local_get a x s = slice_get a.locals x >>= λ t. if_set (slice_get s.set x) (pushes (t ∷ []) s)

-- select without a type: two numbers of one type, where a bottom may stand for either (3.4 Instructions, select)

abbrev pub same_number : ValType → ValType → Bool
same_number I32 I32 = true
same_number I64 I64 = true
same_number _ _ = false

abbrev pub number_of : ValType → Option Kind
number_of t = given (is_number t) (Some (of t))

abbrev pub selected : Kind → Kind → Option Kind
selected (of t) (of u) = given (same_number t u) (Some (of t))
selected (of t) Bot = number_of t
selected Bot (of u) = number_of u
selected Bot Bot = Some Bot
selected _ _ = None

-- the types of the declared locals in order, run by run
abbrev pub spread : List (ℕ × ValType) → List ValType
spread [] = []
spread (run ∷ runs) = replicate run.0 run.1 ++ spread runs

-- round a body stands the label of the function, whose types are the results (3.5 Modules, functions)
abbrev pub around : FuncType → (locals : List ValType) → Around
around t locals = record { labels = t.results ∷ []; results = t.results; locals = t.params ++ locals }

-- it begins without operands. Parameters are set, and so are locals whose types have a default
abbrev pub begins : FuncType → (locals : List ValType) → Shape
begins t locals = record { types = []; any = false; set = map (λ p. true) t.params ++ map has_default locals }

-- a call takes the parameters, besides what names the callee, and puts the results
abbrev pub calls : (callee : List ValType) → FuncType → Option Row
calls callee t = Some (goes (t.params ++ callee) t.results)

module _ (C : Context) where
  abbrev pub func_at : (func : ℕ) → Option FuncType
  func_at f = func_type_in C.types (slice_get C.funcs f)

  abbrev pub tag_at : (tag : ℕ) → Option FuncType
  tag_at t = func_type_in C.types (slice_get C.tags t)

  -- a call in place of returning: the results are below those of the function
  abbrev pub tail_calls : Around → (callee : List ValType) → FuncType → Option Row
  tail_calls a callee t = given (matches C.types t.results a.results) (Some (leaves (t.params ++ callee)))

  -- the type of a function that an entry of a table is called as: the table has functions
  abbrev pub indirect : (type table : ℕ) → Option FuncType
  indirect x t = slice_get C.tables t >>= λ r. given (is_sub_val C.types (Ref r) (abs_or_null A.AnyFunc)) (func_type C.types x)

  -- casts that branch: the second type is below the first, and what goes to the label is below its last type
  abbrev pub cast_row : (from to taken left : RefType) → (List ValType × ValType) → Option Row
  cast_row from to taken left ends = given (is_sub_val C.types (Ref taken) ends.1) (Some (goes (ends.0 ++ Ref from ∷ []) (ends.0 ++ Ref left ∷ [])))

  abbrev pub casts_to : (label : Option (List ValType)) → (from to taken left : RefType) → Option Row
  casts_to label from to taken left = given (is_valid_ref C.types from && is_valid_ref C.types to && is_sub_ref C.types to from) (label >>= λ ts. split_last ts >>= cast_row from to taken left)

  -- a choice of two values of one type
  abbrev pub select_row : List ValType → Option Row
  select_row (t ∷ []) = given (is_valid_val C.types t) (Some (goes (t ∷ t ∷ I32 ∷ []) (t ∷ [])))
  select_row ts = None

  abbrev pub call_row : Around → Instr → Option Row
  call_row a (I.Call f) = func_at f >>= calls []
  call_row a (I.CallIndirect x t) = indirect x t >>= calls (I32 ∷ [])
  call_row a (I.CallRef x) = func_type C.types x >>= calls (idx_or_null x ∷ [])
  call_row a (I.ReturnCall f) = func_at f >>= tail_calls a []
  call_row a (I.ReturnCallIndirect x t) = indirect x t >>= tail_calls a (I32 ∷ [])
  call_row a (I.ReturnCallRef x) = func_type C.types x >>= tail_calls a (idx_or_null x ∷ [])
  call_row a i = number_row C i

  -- control instructions whose rows rest on labels and functions
  abbrev pub control_row : Around → Instr → Option Row
  control_row a I.Nop = Some (goes [] [])
  control_row a I.Unreachable = Some (leaves [])
  control_row a (I.Throw t) = tag_at t >>= λ f. Some (leaves f.params)
  control_row a I.ThrowRef = Some (leaves (abs_or_null A.Exn ∷ []))
  control_row a (I.Br l) = slice_get a.labels l >>= λ ts. Some (leaves ts)
  control_row a (I.BrIf l) = slice_get a.labels l >>= λ ts. Some (goes (ts ++ I32 ∷ []) ts)
  control_row a (I.BrOnCast arg) = casts_to (slice_get a.labels arg.label) arg.of arg.to arg.to (minus arg.of arg.to)
  control_row a (I.BrOnCastFail arg) = casts_to (slice_get a.labels arg.label) arg.of arg.to (minus arg.of arg.to) arg.to
  control_row a I.Return = Some (leaves a.results)
  control_row a (I.SelectOf ts) = select_row ts
  control_row a i = call_row a i

  -- whether each label of a br_table takes as many types as the last one, and could be branched to
  abbrev pub takes : Around → (count : ℕ) → Shape → (label : ℕ) → Bool
  takes a n s l = elim (slice_get a.labels l) [ None ↦ false | Some ts ↦ nat_eq (length ts) n && is_some (pops C.types ts s) ]

  abbrev pub table_branch : Around → (labels : List ℕ) → (last : List ValType) → Shape → Option Shape
  table_branch a ls ts s = given (list_all (takes a (length ts) s) ls) (pops C.types ts s >>= stops)

  abbrev pub type_br_table : Around → (labels : List ℕ) → (last : Option (List ValType)) → Shape → Option Shape
  type_br_table a ls last s = last >>= λ ts. pops C.types (I32 ∷ []) s >>= table_branch a ls ts

  abbrev pub type_select : Shape → Option Shape
  type_select s = pops C.types (I32 ∷ []) s >>= λ t. pop_kind t (λ k u. pop_kind u (λ j v. selected j k >>= λ r. push r v))

  -- a reference of one tree becomes one of another: null is among its values as it was
  abbrev pub converts : (from to : Abs) → Kind → Shape → Option Shape
  converts from to k u = given (suits C.types k (abs_or_null from)) (push (of (cond (nulls k) (abs_or_null to) (abs to))) u)

  -- a branch on null: what goes on is not null
  abbrev pub null_branch : (label : List ValType) → Kind → Shape → Option Shape
  null_branch ts r u = pops C.types ts u >>= λ v. pushes ts v >>= push r

  abbrev pub type_br_on_null : (label : Option (List ValType)) → Shape → Option Shape
  type_br_on_null label s = label >>= λ ts. pop_kind s (λ k u. non_null k >>= λ r. null_branch ts r u)

  -- a branch on what is not null, which suits the label's last type
  abbrev pub non_null_branch : Kind → Shape → (List ValType × ValType) → Option Shape
  non_null_branch r u ends = given (suits C.types r ends.1) (pops C.types ends.0 u >>= pushes ends.0)

  abbrev pub type_br_on_non_null : (label : Option (List ValType)) → Shape → Option Shape
  type_br_on_non_null label s = label >>= λ ts. split_last ts >>= λ ends. pop_kind s (λ k u. non_null k >>= λ r. non_null_branch r u ends)

  abbrev pub type_local_set : Around → (local : ℕ) → Shape → Option Shape
  type_local_set a x s = slice_get a.locals x >>= λ t. pops C.types (t ∷ []) s >>= sets x

  abbrev pub type_local_tee : Around → (local : ℕ) → Shape → Option Shape
  type_local_tee a x s = slice_get a.locals x >>= λ t. pops C.types (t ∷ []) s >>= λ u. sets x u >>= pushes (t ∷ [])

  -- an instruction that holds no code. Those whose results rest on their operands, those on locals and br_table
  -- stand here
  abbrev pub type_leaf : Around → Instr → Shape → Option Shape
  type_leaf a I.Drop s = pop_kind s (λ k u. Some u)
  type_leaf a I.Select s = type_select s
  type_leaf a (I.LocalGet x) s = type_local_get a x s
  type_leaf a (I.LocalSet x) s = type_local_set a x s
  type_leaf a (I.LocalTee x) s = type_local_tee a x s
  type_leaf a I.RefIsNull s = pop_kind s (λ k u. non_null k >>= λ r. pushes (I32 ∷ []) u)
  type_leaf a I.RefAsNonNull s = pop_kind s (λ k u. non_null k >>= λ r. push r u)
  type_leaf a (I.BrOnNull l) s = type_br_on_null (slice_get a.labels l) s
  type_leaf a (I.BrOnNonNull l) s = type_br_on_non_null (slice_get a.labels l) s
  type_leaf a (I.BrTable table) s = type_br_table a table.labels (slice_get a.labels table.last) s
  type_leaf a I.AnyConvertExtern s = pop_kind s (converts A.Extern A.Any)
  type_leaf a I.ExternConvertAny s = pop_kind s (converts A.Any A.Extern)
  type_leaf a i s = type_row C.types (control_row a i) s

  -- the label that a catch branches to, and what goes there (3.4 Instructions, catch clauses). A reference to the
  -- exception is not null
  abbrev pub caught : Catch → Option (ℕ × List ValType)
  caught (T.One t l) = tag_at t >>= λ f. Some (l, f.params)
  caught (T.OneRef t l) = tag_at t >>= λ f. Some (l, f.params ++ abs A.Exn ∷ [])
  caught (T.All l) = Some (l, [])
  caught (T.AllRef l) = Some (l, abs A.Exn ∷ [])

  abbrev pub reaches : Around → Option (ℕ × List ValType) → Bool
  reaches a None = false
  reaches a (Some to) = elim (slice_get a.labels to.0) [ None ↦ false | Some ts ↦ matches C.types to.1 ts ]

  abbrev pub type_catch : Around → Catch → Bool
  type_catch a c = reaches a (caught c)

  abbrev mutual
    -- the operands behind code that is typed (3.4 Instructions, instruction sequences)
    pub type_code : Around → Code → Shape → Option Shape
    type_code a done s = Some s
    type_code a (next i c) s = type_ins a i s >>= type_code a c

    -- behind a block stand its results, over what was below its parameters, and what was set before it is set
    pub type_ins : Around → Ins → Shape → Option Shape
    type_ins a (leaf i) s = type_leaf a i s
    type_ins a (block ty c) s = type_of_block C.types ty >>= λ t. pops C.types t.params s >>= λ u. ends_with C.types t.results (type_code (inside a t.results) c (opened t.params u)) (pushes t.results u)
    type_ins a (loop ty c) s = type_of_block C.types ty >>= λ t. pops C.types t.params s >>= λ u. ends_with C.types t.results (type_code (inside a t.params) c (opened t.params u)) (pushes t.results u)
    type_ins a (choice ty c d) s = type_of_block C.types ty >>= λ t. pops C.types (t.params ++ I32 ∷ []) s >>= λ u. ends_with C.types t.results (type_code (inside a t.results) c (opened t.params u)) (ends_with C.types t.results (type_code (inside a t.results) d (opened t.params u)) (pushes t.results u))
    type_ins a (try_table ty catches c) s = type_of_block C.types ty >>= λ t. given (list_all (type_catch a) catches) (pops C.types t.params s >>= λ u. ends_with C.types t.results (type_code (inside a t.results) c (opened t.params u)) (pushes t.results u))

  -- bodies

  -- code that ends with operands of these types and no more
  abbrev pub is_typed : Around → Code → Shape → (results : List ValType) → Bool
  is_typed a c s ts = is_some (ends_with C.types ts (type_code a c s) (Some s))

  abbrev pub valid_run : ℕ × ValType → Bool
  valid_run run = is_valid_val C.types run.1

  -- a function's body: the types of its locals are valid, and its code is typed
  abbrev pub is_typed_body : FuncType → List (ℕ × ValType) → Code → Bool
  is_typed_body t runs c = list_all valid_run runs && is_typed (around t (spread runs)) c (begins t (spread runs)) t.results

  abbrev pub is_typed_as : Func → Option FuncType → Bool
  is_typed_as f None = false
  is_typed_as f (Some t) = is_typed_body t f.locals (code_of f.body.code)

  -- a function: its type index names a function type, and its body is typed
  abbrev pub is_typed_func : Func → Bool
  is_typed_func f = is_typed_as f (func_type C.types f.ty)
