-- The boundary between a module and its embedder: tokens, the open state and events (core specification 3.0, appendix,
-- Embedding). Two references that are shown are told apart by their tokens alone: addresses are not shown.
use Rattle.std.specs.Prelude.{ℕ, suc, Bool, true, false, cond, not, ◌&&◌, List, [], ◌∷◌, ◌++◌, map, length, take, Option, Some, None, option_map, option_and_then, unwrap_or, is_some, slice_get, nat_eq, position}
use Rattle.std.specs.Option.{option_or, option_flatten}
use Rattle.std.specs.List.{list_any}
use Rattle.gu_types.specs.declared.types.ValType.{ValType}
use Rattle.gu_syntax.specs.declared.module.Desc.TheVariants as D
use Rattle.gu_syntax.specs.declared.module.Export.{Export}
use Rattle.gu_syntax.specs.declared.module.Import.{Import}
use Rattle.gu_syntax.specs.declared.module.Kind.{Kind}
use Rattle.gu_syntax.specs.declared.module.Kind.TheVariants as K
use Rattle.gu_model.specs.Index.{numbers, is_func, is_tag}
use Rattle.gu_model.specs.Outline.{Outline}
use Rattle.gu_model.specs.Value.{Value, i32, i64, null, i31, struct, array, exception, function, host, host_external, external, Identity, own, foreign, Exception, Store, is_same, is_same_tag}
use Rattle.gu_model.specs.Script.{Token, Given, TagName, What, Item, Event}
use Rattle.gu_model.specs.Script as S
use Rattle.gu_model.specs.State.{State, Out, out, foul}

-- tokens

-- a reference without its external form
abbrev pub behind : Value → Value
behind (external v) = v
behind (host_external n) = host n
behind v = v

-- whether an export is the thing of a kind with an index
abbrev pub is_kind : Kind → Kind → Bool
is_kind K.Func K.Func = true
is_kind K.Table K.Table = true
is_kind K.Memory K.Memory = true
is_kind K.Global K.Global = true
is_kind K.Tag K.Tag = true
is_kind _ _ = false

abbrev pub exports_it : Kind → (index : ℕ) → Export → Bool
exports_it kind i e = is_kind kind e.kind && nat_eq i e.index

-- the index of what an export names, where it is of a kind
abbrev pub exported : Kind → Option Export → Option ℕ
exported kind None = None
exported kind (Some e) = cond (is_kind kind e.kind) (Some e.index) None

-- whether a tag that there may be is another, and the embedder's number of a tag
abbrev pub is_tag_with : Identity → Option Identity → Bool
is_tag_with id None = false
is_tag_with id (Some other) = is_same_tag id other

abbrev pub tag_host : Identity → Option TagName
tag_host (foreign n) = Some (TagName.Host n)
tag_host (own n) = None

module _ (o : Outline) where
  -- the token that a function has by its import, else by its first export
  abbrev pub function_token : (func : ℕ) → Option Token
  function_token f = option_or (option_map Token.Import (slice_get (numbers is_func 0 o.imports) f)) (option_map Token.Export (position (exports_it K.Func f) o.exports))

  -- whether a reference is shown by a number of its own: each that has no import, no export and no number of the
  -- embedder. Nulls and unboxed numbers are shown as they are
  abbrev pub is_numbered : Value → Bool
  is_numbered (struct a) = true
  is_numbered (array a) = true
  is_numbered (exception a) = true
  is_numbered (function f) = not (is_some (function_token f))
  is_numbered _ = false

  -- the references that are shown by number, behind those that were shown so before
  abbrev pub with_token : List Value → Value → List Value
  with_token ts v = cond (is_numbered v && not (list_any (is_same v) ts)) (ts ++ v ∷ []) ts

  abbrev pub with_tokens : List Value → List Value → List Value
  with_tokens ts [] = ts
  with_tokens ts (v ∷ vs) = with_tokens (with_token ts (behind v)) vs

  abbrev pub shown_token : List Value → Value → Token
  shown_token ts v = Token.Shown (unwrap_or (position (is_same v) ts) 0)

  -- the token of a reference
  abbrev pub token_of : List Value → Value → Token
  token_of ts (host n) = Token.Host n
  token_of ts (function f) = unwrap_or (function_token f) (shown_token ts (function f))
  token_of ts v = shown_token ts v

  -- a value as it is shown
  abbrev pub shown_as : List Value → Value → Given
  shown_as ts (i32 n) = Given.I32 n
  shown_as ts (i64 n) = Given.I64 n
  shown_as ts null = Given.Null
  shown_as ts (i31 n) = Given.I31 n
  shown_as ts v = Given.Ref (token_of ts v)

  abbrev pub given_of : List Value → Value → Given
  given_of ts v = shown_as ts (behind v)

  abbrev pub givens_of : List Value → List Value → List Given
  givens_of ts vs = map (given_of ts) vs

  -- the name of a tag: that of its first import, else of its first export, else the embedder's number
  abbrev pub tag_import : List Identity → Identity → Option TagName
  tag_import tags id = option_map TagName.Import (option_and_then (slice_get (numbers is_tag 0 o.imports)) (position (is_same_tag id) (take (length (numbers is_tag 0 o.imports)) tags)))

  abbrev pub tag_export : List Identity → Identity → Option TagName
  tag_export tags id = option_map TagName.Export (position (λ e. is_kind K.Tag e.kind && is_tag_with id (slice_get tags e.index)) o.exports)

  abbrev pub tag_name : List Identity → Identity → Option TagName
  tag_name tags id = option_or (tag_import tags id) (option_or (tag_export tags id) (tag_host id))

-- the open state

-- a global, a table or a memory, by its index
pub record Thing : Type 0 where
  pub kind : Kind
  pub index : ℕ

abbrev pub thing : Kind → ℕ → Thing
thing k i = record { kind = k; index = i }

-- the things that are open by imports, where so many tables, memories and globals come before
abbrev pub open_imports : (tables memories globals : ℕ) → List Import → List Thing
open_imports t m g [] = []
open_imports t m g (i ∷ is) = elim i.desc [
  | D.Func ty ↦ open_imports t m g is
  | D.Table elem limits ↦ thing K.Table t ∷ open_imports (suc t) m g is
  | D.Memory limits ↦ thing K.Memory m ∷ open_imports t (suc m) g is
  | D.Global ty mutable ↦ cond mutable (thing K.Global g ∷ open_imports t m (suc g) is) (open_imports t m (suc g) is)
  | D.Tag ty ↦ open_imports t m g is
]

abbrev pub is_variable : Option (ValType × Bool) → Bool
is_variable None = false
is_variable (Some g) = g.1

-- whether what is exported is open: a table, a memory or a mutable global
abbrev pub is_open : Outline → Kind → ℕ → Bool
is_open o K.Table i = true
is_open o K.Memory i = true
is_open o K.Global i = is_variable (slice_get o.globals i)
is_open o _ i = false

abbrev pub is_thing : Export → Thing → Bool
is_thing e t = exports_it t.kind t.index e

-- the things that are open by exports too, behind those before, each once
abbrev pub open_exports : Outline → List Thing → List Export → List Thing
open_exports o ts [] = ts
open_exports o ts (e ∷ es) = open_exports o (cond (is_open o e.kind e.index && not (list_any (is_thing e) ts)) (ts ++ thing e.kind e.index ∷ []) ts) es

abbrev pub open_things : Outline → List Thing
open_things o = open_exports o (open_imports 0 0 0 o.imports) o.exports

-- the value of a mutable global, the entries of a table and the bytes of a memory
abbrev pub variable_at : Store → ℕ → Value
variable_at st i = unwrap_or (option_flatten (slice_get st.variables i)) null

abbrev pub entries_at : Store → ℕ → List Value
entries_at st i = unwrap_or (slice_get st.tables i) []

abbrev pub bytes_at : Store → ℕ → List ℕ
bytes_at st i = unwrap_or (slice_get st.memories i) []

-- the values in an open thing, in order
abbrev pub values_in : Store → Kind → ℕ → List Value
values_in st K.Global i = variable_at st i ∷ []
values_in st K.Table i = entries_at st i
values_in st _ i = []

abbrev pub open_values : Store → List Thing → List Value
open_values st [] = []
open_values st (t ∷ ts) = values_in st t.kind t.index ++ open_values st ts

-- the arguments of an exception that are shown: those of a tag that has a name
abbrev pub shown_arguments : Option TagName → List Value → List Value
shown_arguments None vs = []
shown_arguments (Some name) vs = vs

module _ (o : Outline) where
  abbrev pub item : List Value → Store → Kind → ℕ → Item
  item ts st K.Global i = Item.Global (given_of o ts (variable_at st i))
  item ts st K.Table i = Item.Table (givens_of o ts (entries_at st i))
  item ts st _ i = Item.Memory (bytes_at st i)

  abbrev pub items : List Value → Store → List Item
  items ts st = map (λ t. item ts st t.kind t.index) (open_things o)

  -- shows what there is to show of the references that are shown by number, with the open state. New tokens are given
  -- in the order of the event's own values, then of the open state
  abbrev pub tell_with : (tokens : List Value) → (List Value → What) → State → State
  tell_with ts what s = record s { tokens = ts; events = s.events ++ record { what = what ts; state = items ts s.core.store } ∷ [] }

  abbrev pub tell : List Value → (List Value → What) → State → State
  tell vs what s = tell_with (with_tokens o (with_tokens o s.tokens vs) (open_values s.core.store (open_things o))) what s

  -- shows an exception
  abbrev pub tell_thrown_as : (S.Exception → What) → (address : ℕ) → Option TagName → (arguments : List Value) → State → State
  tell_thrown_as what a name vs s = tell (exception a ∷ vs) (λ ts. what (record { token = token_of o ts (exception a); tag = name; arguments = givens_of o ts vs })) s

  abbrev pub tell_exception : (S.Exception → What) → (address : ℕ) → Option Exception → State → State
  tell_exception what a None s = tell_thrown_as what a None [] s
  tell_exception what a (Some x) s = tell_thrown_as what a (tag_name o s.core.store.tags x.tag) (shown_arguments (tag_name o s.core.store.tags x.tag) x.arguments) s

  abbrev pub tell_thrown : (S.Exception → What) → (address : ℕ) → State → State
  tell_thrown what a s = tell_exception what a (slice_get s.core.store.exceptions a) s

  -- a move was none that the module allows: the open state is that before the move
  abbrev pub foul_at : State → Out
  foul_at s = out foul (tell [] (λ ts. What.Foul) s)
