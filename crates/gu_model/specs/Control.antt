-- Control, calls and exceptions (core specification 3.0, 4.6 Instructions), as an evaluator that goes down the code. What
-- costs a step is handed to a level below, so that as many levels as there are steps suffice. A step is the entry of a
-- function, the entry or a further turn of a loop, or a question to the embedder.
use Rattle.std.specs.Prelude.{ℕ, zero, suc, ◌+◌, ◌*◌, ◌-◌, ◌/◌, ◌^◌, Bool, true, false, cond, List, [], ◌∷◌, ◌++◌, map, length, reverse, replicate, Option, Some, None, option_map, unwrap_or, slice_get, nat_lt}
use Rattle.gu_types.specs.declared.types.HeapType.TheVariants as H
use Rattle.gu_types.specs.declared.types.RefType.{RefType}
use Rattle.gu_types.specs.declared.types.ValType.{ValType}
use Rattle.gu_rec.specs.Sub.{is_sub}
use Rattle.gu_syntax.specs.declared.instr.Catch.{Catch}
use Rattle.gu_syntax.specs.declared.instr.Catch.TheVariants as T
use Rattle.gu_syntax.specs.declared.instr.Instr.{Instr}
use Rattle.gu_syntax.specs.declared.instr.Instr.TheVariants as I
use Rattle.gu_syntax.specs.declared.module.Func.{Func}
use Rattle.gu_syntax.specs.declared.module.Limits.{Limits}
use Rattle.gu_syntax.specs.declared.module.Module.{Module}
use Rattle.gu_syntax.specs.Code.{Ins, Code, leaf, block, loop, choice, try_table, done, next, code_of}
use Rattle.gu_model.specs.Index.{FuncType, block_type, numbers, is_func}
use Rattle.gu_model.specs.Outline.{Outline, type_of_func, type_of_tag}
use Rattle.gu_model.specs.Value.{Value, i32, null, exception, function, Identity, Exception, Store, Allocated, allocated, fits_ref, defaults, is_same_tag}
use Rattle.gu_model.specs.Did.{Did, goes, traps, fails, with_memory, with_table}
use Rattle.gu_model.specs.Numbers.{page}
use Rattle.gu_model.specs.Aggregates.{is_reference}
use Rattle.gu_model.specs.Act.{operands, do_act}
use Rattle.gu_model.specs.Script.{Move, What}
use Rattle.gu_model.specs.Script.{Act}
use Rattle.gu_model.specs.State.{State, How, normal, branch, return, tail, thrown, over, wrong, Out, out, at, with_stack, with_store, trapped, after, spend, pop, with_some}
use Rattle.gu_model.specs.Shown.{givens_of, tell, foul_at}
use Rattle.gu_model.specs.Taken.{written, most_of, most_pages, most_entries}

-- levels

-- what is due while moves come: a call of an export, or also the end of the call of an import with results of types
pub data Due : Type 0 where
  nothing : Due
  results : List ValType → Due

-- what is asked of the level below, where a step was made
pub data Job : Type 0 where
  run : Code → Job
  -- a further turn of a loop with so many parameters and results, over operands that it does not see
  turn : (params results : ℕ) → Code → (below : List Value) → Job
  -- a call of a function, whose arguments alone are on the stack
  enter : (func : ℕ) → Job
  -- the moves that come
  serve : Due → Job

abbrev pub Level : Type 0
Level = Job → State → Out

-- plain instructions

-- the state behind one, over the operands that it left
abbrev pub lift : State → (below : List Value) → Did → Out
lift s below (goes vs ls st) = out normal (record s { core = record { locals = ls; stack = vs ++ below; store = st } })
lift s below traps = trapped s
lift s below fails = out wrong s

-- blocks

-- the end of a block with so many results, whose label takes so many values: a branch to it goes on with these alone
abbrev pub label_on : (results takes : ℕ) → (below : List Value) → (State → Out) → How → State → Out
label_on r n below go normal s = pop r s (λ vs rest. out normal (with_stack s (vs ++ below)))
label_on r n below go (branch zero) s = pop n s (λ vs rest. go (with_stack s vs))
label_on r n below go (branch (suc k)) s = out (branch k) s
label_on r n below go h s = out h s

abbrev pub label : (results takes : ℕ) → (below : List Value) → (State → Out) → Out → Out
label r n below go o = label_on r n below go o.how o.state

-- what follows a block, over the operands below it
abbrev pub over_below : (below : List Value) → State → Out
over_below below s = out normal (with_stack s (s.core.stack ++ below))

-- block and try_table: the code in it sees its operands alone
abbrev pub in_block : Option FuncType → (code : State → Out) → State → Out
in_block ty go s = with_some ty s (λ t. pop (length t.params) s (λ vs below. label (length t.results) (length t.results) below (over_below below) (go (with_stack s vs))))

-- if: an i32 picks the code
abbrev pub chosen : List Value → (yes' no' : State → Out) → State → Out
chosen (i32 zero ∷ []) y n s = n s
chosen (i32 (suc k) ∷ []) y n s = y s
chosen _ y n s = out wrong s

-- branches

-- how an instruction that branches goes on, and what it puts over the operands below its own
pub data Jump : Type 0 where
  jumps : How → (pushed : List Value) → Jump
  stops : Jump
  lacks : Jump

abbrev pub land : State → (below : List Value) → Jump → Out
land s below (jumps h vs) = out h (with_stack s (vs ++ below))
land s below stops = trapped s
land s below lacks = out wrong s

abbrev pub jumping : (operands : ℕ) → (List Value → Jump) → State → Out
jumping n jump s = pop n s (λ vs below. land s below (jump vs))

-- br_if
abbrev pub branch_if : (label : ℕ) → List Value → Jump
branch_if k (i32 zero ∷ []) = jumps normal []
branch_if k (i32 (suc n) ∷ []) = jumps (branch k) []
branch_if k _ = lacks

-- br_table: the label that an i32 picks, or the last one
abbrev pub branch_table : (labels : List ℕ) → (last : ℕ) → List Value → Jump
branch_table ks k (i32 n ∷ []) = jumps (branch (unwrap_or (slice_get ks n) k)) []
branch_table ks k _ = lacks

-- goes on with a reference that is not null
abbrev pub with_reference : How → Value → Jump
with_reference h v = cond (is_reference v) (jumps h (v ∷ [])) lacks

-- br_on_null
abbrev pub branch_null : (label : ℕ) → List Value → Jump
branch_null k (null ∷ []) = jumps (branch k) []
branch_null k (v ∷ []) = with_reference normal v
branch_null k _ = lacks

-- br_on_non_null
abbrev pub branch_non_null : (label : ℕ) → List Value → Jump
branch_non_null k (null ∷ []) = jumps normal []
branch_non_null k (v ∷ []) = with_reference (branch k) v
branch_non_null k _ = lacks

-- br_on_cast and br_on_cast_fail: how it goes on with a reference of the second type, and with another of the first
abbrev pub branch_cast : Outline → (from to : RefType) → (cast kept : How) → Allocated → List Value → Jump
branch_cast o a b h k al (v ∷ []) = cond (fits_ref o al a v) (jumps (cond (fits_ref o al b v) h k) (v ∷ [])) lacks
branch_cast o a b h k al _ = lacks

-- throw_ref
abbrev pub throw_again : List Value → Jump
throw_again (null ∷ []) = stops
throw_again (exception a ∷ []) = jumps (thrown a) []
throw_again _ = lacks

-- exceptions

-- the state with a new exception, and its operands gone
abbrev pub with_exception : State → Exception → State
with_exception s x = with_store (with_stack s []) (record s.core.store { exceptions = s.core.store.exceptions ++ x ∷ [] })

-- a new exception is thrown: its address is the number of those before
abbrev pub raise : Identity → (arguments : List Value) → State → Out
raise id vs s = out (thrown (length s.core.store.exceptions)) (with_exception s (record { tag = id; arguments = vs }))

-- whether a tag is the one of an exception
abbrev pub is_tag_of : Option Identity → Identity → Bool
is_tag_of None id = false
is_tag_of (Some tag) id = is_same_tag tag id

-- the first catch clause that takes an exception: its arguments where it names the tag, and then a reference to it
-- where it wants one. Labels are counted outside the try_table
abbrev pub first_catch : List Catch → (address : ℕ) → Exception → State → Out
first_catch [] a x s = out (thrown a) s
first_catch (T.One t k ∷ cs) a x s = cond (is_tag_of (slice_get s.core.store.tags t) x.tag) (out (branch k) (with_stack s (reverse x.arguments))) (first_catch cs a x s)
first_catch (T.OneRef t k ∷ cs) a x s = cond (is_tag_of (slice_get s.core.store.tags t) x.tag) (out (branch k) (with_stack s (exception a ∷ reverse x.arguments))) (first_catch cs a x s)
first_catch (T.All k ∷ cs) a x s = out (branch k) (with_stack s [])
first_catch (T.AllRef k ∷ cs) a x s = out (branch k) (with_stack s (exception a ∷ []))

-- the end of a try_table
abbrev pub caught_on : List Catch → How → State → Out
caught_on cs (thrown a) s = with_some (slice_get s.core.store.exceptions a) s (λ x. first_catch cs a x s)
caught_on cs h s = out h s

abbrev pub caught : List Catch → Out → Out
caught cs o = caught_on cs o.how o.state

-- questions

-- the answer to a question, behind the move's writes
abbrev pub answer_with : Outline → Act → Option Store → (asked : State) → (moves : List Move) → (Bool → State → Out) → Out
answer_with o (Act.Answer b) (Some st) s ms go = go b (with_store (record s { moves = ms }) st)
answer_with o _ _ s ms go = foul_at o s

abbrev pub answered : Outline → List Move → State → (Bool → State → Out) → Out
answered o [] s go = out over s
answered o (move ∷ ms) s go = answer_with o move.act (written o s.tokens move.writes s.core.store) s ms go

-- asks the embedder, and goes on with its answer
unfoldable pub ask : Outline → What → State → (Bool → State → Out) → Out
ask o what s go = answered o (tell o [] (λ ts. what) s).moves (tell o [] (λ ts. what) s) go

-- what a grow gives: the old size, or 2^32 - 1 where it was refused
abbrev pub refused : ℕ
refused = 2 ^ 32 - 1

abbrev pub grown_on : Option (ℕ × Store) → State → Out
grown_on None s = out wrong s
grown_on (Some g) s = out normal (with_store (with_stack s (i32 g.0 ∷ s.core.stack)) g.1)

-- memory.grow, by pages: an answer of yes counts where the new size is allowed
abbrev pub grow_memory : (memory count : ℕ) → Limits → Bool → Store → List ℕ → ℕ × Store
grow_memory x n limits false st bytes = (refused, st)
grow_memory x n limits true st bytes = cond (nat_lt (most_of most_pages limits) (length bytes / page + n)) (refused, st) (length bytes / page, with_memory st x (bytes ++ replicate (n * page) 0))

abbrev pub memory_grow : Outline → (memory : ℕ) → List Value → State → Out
memory_grow o x (i32 n ∷ []) s = with_some (slice_get o.memories x) s (λ limits. spend s (λ u. ask o (What.AskMemory n) u (λ b v. grown_on (option_map (grow_memory x n limits b v.core.store) (slice_get v.core.store.memories x)) v)))
memory_grow o x _ s = out wrong s

-- table.grow, by entries
abbrev pub grow_table : (table count : ℕ) → Value → Limits → Bool → Store → List Value → ℕ × Store
grow_table x n v limits false st entries = (refused, st)
grow_table x n v limits true st entries = cond (nat_lt (most_of most_entries limits) (length entries + n)) (refused, st) (length entries, with_table st x (entries ++ replicate n v))

abbrev pub reference_or_not : Value → Option Value
reference_or_not v = cond (is_reference v) (Some v) None

abbrev pub table_grow : Outline → (table : ℕ) → List Value → State → Out
table_grow o x (i32 n ∷ v ∷ []) s = with_some (slice_get o.tables x) s (λ t. with_some (reference_or_not v) s (λ w. spend s (λ u. ask o (What.AskTable n) u (λ b y. grown_on (option_map (grow_table x n w t.limits b y.core.store) (slice_get y.core.store.tables x)) y))))
table_grow o x _ s = out wrong s

-- calls

-- back in the caller's frame. The store is never put back
abbrev pub back_on : (locals : List (Option Value)) → (below : List Value) → How → State → Out
back_on locals below normal s = out normal (at s locals (s.core.stack ++ below))
back_on locals below (thrown a) s = out (thrown a) (at s locals [])
back_on locals below h s = out h s

abbrev pub back : (locals : List (Option Value)) → (below : List Value) → Out → Out
back locals below o = back_on locals below o.how o.state

-- what is called by a reference: a function, or null and with call_indirect another type too, which trap
pub data Callee : Type 0 where
  callee : (func : ℕ) → Callee
  none : Callee
  other : Callee

abbrev pub called : Callee → (call : (func : ℕ) → State → Out) → State → Out
called (callee f) call s = call f s
called none call s = trapped s
called other call s = out wrong s

-- a function as one whose type is below another, and what is there of one of another type
abbrev pub callee_of : Outline → (type func : ℕ) → Callee → Option ℕ → Callee
callee_of o x f c None = other
callee_of o x f c (Some t) = cond (is_sub o.types (H.Idx t) (H.Idx x)) (callee f) c

-- call_ref and return_call_ref: validation lets no other type through
abbrev pub by_reference : Outline → (type : ℕ) → List Value → Callee
by_reference o x (null ∷ []) = none
by_reference o x (function f ∷ []) = callee_of o x f other (slice_get o.funcs f)
by_reference o x _ = other

-- call_indirect and return_call_indirect: an index out of range, null and another type trap
abbrev pub entry_named : Outline → (type : ℕ) → Option Value → Callee
entry_named o x None = none
entry_named o x (Some null) = none
entry_named o x (Some (function f)) = callee_of o x f none (slice_get o.funcs f)
entry_named o x _ = other

abbrev pub entry_in : Outline → (type index : ℕ) → Option (List Value) → Callee
entry_in o x i None = other
entry_in o x i (Some entries) = entry_named o x (slice_get entries i)

abbrev pub by_index : Outline → (type table : ℕ) → Store → List Value → Callee
by_index o x y st (i32 i ∷ []) = entry_in o x i (slice_get st.tables y)
by_index o x y st _ = other

module _ (o : Outline) where
  -- return_call x
  abbrev pub do_tail : (func : ℕ) → State → Out
  do_tail f s = with_some (type_of_func o f) s (λ t. pop (length t.params) s (λ vs below. out (tail f) (with_stack s vs)))

  -- throw x: the exception keeps which tag it is
  abbrev pub do_throw : (tag : ℕ) → State → Out
  do_throw x s = with_some (type_of_tag o x) s (λ t. with_some (slice_get s.core.store.tags x) s (λ id. pop (length t.params) s (λ vs below. raise id (reverse vs) s)))

-- `enters` is the call of a function on its arguments alone
module _ (o : Outline) (enters : (func : ℕ) → State → Out) where
  -- call x
  abbrev pub do_call : (func : ℕ) → State → Out
  do_call f s = with_some (type_of_func o f) s (λ t. pop (length t.params) s (λ vs below. back s.core.locals below (enters f (at s [] vs))))

  -- the instructions that hold no code
  abbrev pub exec_leaf : Instr → State → Out
  exec_leaf (I.Br k) s = out (branch k) s
  exec_leaf (I.BrIf k) s = jumping 1 (branch_if k) s
  exec_leaf (I.BrTable table) s = jumping 1 (branch_table table.labels table.last) s
  exec_leaf (I.BrOnNull k) s = jumping 1 (branch_null k) s
  exec_leaf (I.BrOnNonNull k) s = jumping 1 (branch_non_null k) s
  exec_leaf (I.BrOnCast arg) s = jumping 1 (branch_cast o arg.of arg.to (branch arg.label) normal (allocated s.core.store)) s
  exec_leaf (I.BrOnCastFail arg) s = jumping 1 (branch_cast o arg.of arg.to normal (branch arg.label) (allocated s.core.store)) s
  exec_leaf I.Return s = out return s
  exec_leaf (I.Call f) s = do_call f s
  exec_leaf (I.CallRef x) s = pop 1 s (λ vs below. called (by_reference o x vs) do_call (with_stack s below))
  exec_leaf (I.CallIndirect x y) s = pop 1 s (λ vs below. called (by_index o x y s.core.store vs) do_call (with_stack s below))
  exec_leaf (I.ReturnCall f) s = do_tail o f s
  exec_leaf (I.ReturnCallRef x) s = pop 1 s (λ vs below. called (by_reference o x vs) (do_tail o) (with_stack s below))
  exec_leaf (I.ReturnCallIndirect x y) s = pop 1 s (λ vs below. called (by_index o x y s.core.store vs) (do_tail o) (with_stack s below))
  exec_leaf (I.Throw x) s = do_throw o x s
  exec_leaf I.ThrowRef s = jumping 1 throw_again s
  exec_leaf (I.MemoryGrow x) s = pop 1 s (λ vs below. memory_grow o x vs (with_stack s below))
  exec_leaf (I.TableGrow x) s = pop 2 s (λ vs below. table_grow o x vs (with_stack s below))
  exec_leaf i s = pop (operands o i) s (λ vs below. lift s below (do_act o i s.core.locals s.core.store vs))

module _ (o : Outline) (m : Module) (low : Level) where
  -- the end of a function's body: its results alone are left (4.6 Instructions, returning from a function)
  abbrev pub finish_on : (results : ℕ) → How → State → Out
  finish_on r normal s = pop r s (λ vs below. out normal (with_stack s vs))
  finish_on r return s = pop r s (λ vs below. out normal (with_stack s vs))
  finish_on r (branch zero) s = pop r s (λ vs below. out normal (with_stack s vs))
  finish_on r (branch (suc k)) s = out wrong s
  finish_on r (tail f) s = low (enter f) (at s [] s.core.stack)
  finish_on r h s = out h s

  abbrev pub finish : (results : ℕ) → Out → Out
  finish r p = finish_on r p.how p.state

  -- a function runs on its arguments alone, and ends with its results alone; entering it is a step. The call of an
  -- import is shown, and the moves that come end it (4.6 Instructions, invocation of function references)
  abbrev pub enter_import : (number : ℕ) → FuncType → State → Out
  enter_import i t s = spend s (λ u. low (serve (results t.results)) (tell o (reverse u.core.stack) (λ ts. What.CallOut i (givens_of o ts (reverse u.core.stack))) (at u [] [])))

  abbrev pub enter_own : Func → FuncType → State → Out
  enter_own f t s = spend s (λ u. finish (length t.results) (low (run (code_of f.body.code)) (at u (map Some (reverse u.core.stack) ++ defaults f.locals) [])))

  abbrev pub enter_on : (number : Option ℕ) → Option Func → Option FuncType → State → Out
  enter_on (Some i) f (Some t) s = enter_import i t s
  enter_on None (Some f) (Some t) s = enter_own f t s
  enter_on _ _ _ s = out wrong s

  -- the functions that are imported come first
  abbrev pub own_func : (func : ℕ) → Option Func
  own_func f = slice_get m.funcs (f - length (numbers is_func 0 o.imports))

  abbrev pub do_enter : (func : ℕ) → State → Out
  do_enter f s = enter_on (slice_get (numbers is_func 0 o.imports) f) (own_func f) (type_of_func o f) s

module _ (low : Level) where
  -- loop: its label stands before it, and a branch to it is a further turn. Entering it and each turn is a step
  abbrev pub turned : (params results : ℕ) → Code → (below : List Value) → (code : State → Out) → State → Out
  turned p r c below go s = spend s (λ u. label r p below (low (turn p r c below)) (go u))

  abbrev pub in_loop : Option FuncType → Code → (code : State → Out) → State → Out
  in_loop ty c go s = with_some ty s (λ t. pop (length t.params) s (λ vs below. turned (length t.params) (length t.results) c below go (with_stack s vs)))

-- `enters` is the call of a function on its arguments alone
module _ (o : Outline) (enters : (func : ℕ) → State → Out) (low : Level) where
  abbrev mutual
    -- instructions in order
    pub exec : Code → State → Out
    exec done s = out normal s
    exec (next i c) s = after (exec_ins i s) (exec c)

    pub exec_ins : Ins → State → Out
    exec_ins (leaf i) s = exec_leaf o enters i s
    exec_ins (block ty c) s = in_block (block_type o.types ty) (exec c) s
    exec_ins (loop ty c) s = in_loop low (block_type o.types ty) c (exec c) s
    exec_ins (choice ty c d) s = pop 1 s (λ vs below. chosen vs (in_block (block_type o.types ty) (exec c)) (in_block (block_type o.types ty) (exec d)) (with_stack s below))
    exec_ins (try_table ty cs c) s = caught cs (in_block (block_type o.types ty) (exec c) s)
