-- The state of a run, and how code ends (core specification 3.0, 4.2 Runtime Structure).
use Rattle.std.specs.Prelude.{ℕ, zero, suc, cond, List, [], length, take, drop, Option, Some, None, nat_lt}
use Rattle.gu_model.specs.Value.{Value, Store}
use Rattle.gu_model.specs.Script.{Move, Event}

-- the frame of the function that runs, with its operands, the last first (4.2, frames). A local that is not set is None
pub record Core : Type 0 where
  pub locals : List (Option Value)
  pub stack : List Value
  pub store : Store

pub record State : Type 0 where
  pub core : Core
  -- the steps and the moves that are left
  pub steps : ℕ
  pub moves : List Move
  -- the references that were shown by number so far, in order
  pub tokens : List Value
  -- what was shown so far
  pub events : List Event

-- how code ends
pub data How : Type 0 where
  normal : How
  branch : (label : ℕ) → How
  return : How
  -- a function is to be called in place of returning; its arguments alone are on the stack
  tail : (func : ℕ) → How
  thrown : (address : ℕ) → How
  trap : How
  -- no step is left
  spent : How
  -- a move is due, and none is left
  over : How
  -- an operand, a local or what an index names is missing, or of another kind than the instruction needs
  wrong : How
  -- the opening or a move was none that the module allows
  foul : How

pub record Out : Type 0 where
  pub how : How
  pub state : State

abbrev pub out : How → State → Out
out h s = record { how = h; state = s }

-- the state with another frame, and with another store
abbrev pub at : State → (locals : List (Option Value)) → (stack : List Value) → State
at s locals stack = record s { core = record { locals = locals; stack = stack; store = s.core.store } }

abbrev pub with_stack : State → List Value → State
with_stack s stack = at s s.core.locals stack

abbrev pub with_store : State → Store → State
with_store s st = record s { core = record { locals = s.core.locals; stack = s.core.stack; store = st } }

-- a trap leaves the frame cleared
abbrev pub trapped : State → Out
trapped s = out trap (at s [] [])

-- goes on where the outcome is normal
abbrev pub on_normal : How → State → (State → Out) → Out
on_normal normal s go = go s
on_normal h s go = out h s

abbrev pub after : Out → (State → Out) → Out
after o go = on_normal o.how o.state go

-- goes on with a step less, where one is left
abbrev pub spend_from : ℕ → State → (State → Out) → Out
spend_from zero s go = out spent s
spend_from (suc n) s go = go (record s { steps = n })

unfoldable pub spend : State → (State → Out) → Out
spend s go = spend_from s.steps s go

-- takes so many operands; what follows has them and those below
unfoldable pub pop : ℕ → State → ((operands below : List Value) → Out) → Out
pop n s go = cond (nat_lt (length s.core.stack) n) (out wrong s) (go (take n s.core.stack) (drop n s.core.stack))

-- goes on with what has to be there
abbrev pub with_on : {X : Type 0} → Option X → State → (X → Out) → Out
with_on None s go = out wrong s
with_on (Some x) s go = go x

unfoldable pub with_some : {X : Type 0} → Option X → State → (X → Out) → Out
with_some o s go = with_on o s go
