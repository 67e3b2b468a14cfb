-- How what an embedder gives is read: values by tokens, writes to the open state, and openings (core specification 3.0,
-- appendix, Embedding).
use Rattle.std.specs.Prelude.{ℕ, zero, suc, ◌*◌, ◌-◌, ◌/◌, ◌%◌, ◌^◌, Bool, true, false, cond, not, ◌&&◌, ◌||◌, List, [], ◌∷◌, ◌++◌, map, length, replicate, Option, Some, None, option_map, option_and_then, unwrap_or, slice_get, slice_set, nat_eq, nat_lt, position, min}
use Rattle.std.specs.List.{list_all}
use Rattle.gu_types.specs.declared.types.Abs.TheVariants as A
use Rattle.gu_types.specs.declared.types.HeapType.TheVariants as H
use Rattle.gu_types.specs.declared.types.ValType.{ValType}
use Rattle.gu_types.specs.declared.types.ValType.TheVariants as V
use Rattle.gu_rec.specs.Sub.{is_sub}
use Rattle.gu_rec.specs.Tests.{same_type}
use Rattle.gu_syntax.specs.declared.module.Kind.{Kind}
use Rattle.gu_syntax.specs.declared.module.Kind.TheVariants as K
use Rattle.gu_syntax.specs.declared.module.Limits.{Limits}
use Rattle.gu_model.specs.Index.{imported, numbers, TableType, as_table, as_memory, as_tag, as_global, is_func}
use Rattle.gu_model.specs.Outline.{Outline}
use Rattle.gu_model.specs.Value.{Value, i32, i64, null, i31, function, host, Identity, own, foreign, Store, Allocated, allocated, fits}
use Rattle.gu_model.specs.Did.{with_memory, with_table}
use Rattle.gu_model.specs.Numbers.{page}
use Rattle.gu_model.specs.Aggregates.{joined, external_form}
use Rattle.gu_model.specs.Script.{Token, Given, Opening, Write}
use Rattle.gu_model.specs.Shown.{is_kind, exported, Thing, open_things, entries_at, bytes_at}

-- values

module _ (o : Outline) where
  -- the function that an import or an export is
  abbrev pub import_named : (number : ℕ) → Option Value
  import_named i = option_map function (position (nat_eq i) (numbers is_func 0 o.imports))

  abbrev pub export_named : (number : ℕ) → Option Value
  export_named e = option_map function (exported K.Func (slice_get o.exports e))

  -- the reference with a token, where that is known: in the opening, and once the module shows anything
  abbrev pub known_early : Token → Option Value
  known_early (Token.Import i) = import_named i
  known_early (Token.Host n) = Some (host n)
  known_early _ = None

  abbrev pub known : List Value → Token → Option Value
  known ts (Token.Import i) = import_named i
  known ts (Token.Export e) = export_named e
  known ts (Token.Host n) = Some (host n)
  known ts (Token.Shown k) = slice_get ts k

  -- whether a place of a type takes external forms
  abbrev pub is_external : ValType → Bool
  is_external (V.Ref r) = is_sub o.types r.heap (H.Abs A.Extern)
  is_external _ = false

  -- a value in the form that a place of a type takes
  abbrev pub in_form : ValType → Value → Option Value
  in_form t v = cond (is_external t) (external_form v) (Some v)

  abbrev pub fitting : Allocated → ValType → Value → Option Value
  fitting al t v = cond (fits o al t v) (Some v) None

  -- the value that is given for a place of a type, where it fits. `find` gives the references of tokens
  abbrev pub taken : (find : Token → Option Value) → Allocated → ValType → Given → Option Value
  taken find al t (Given.I32 n) = fitting al t (i32 n)
  taken find al t (Given.I64 n) = fitting al t (i64 n)
  taken find al t Given.Null = fitting al t null
  taken find al t (Given.I31 n) = option_and_then (fitting al t) (in_form t (i31 n))
  taken find al t (Given.Ref token) = option_and_then (fitting al t) (option_and_then (in_form t) (find token))

  -- as many values as types
  abbrev pub taken_all : (find : Token → Option Value) → Allocated → List ValType → List Given → Option (List Value)
  taken_all find al [] [] = Some []
  taken_all find al (t ∷ ts) (g ∷ gs) = joined (taken find al t g) (taken_all find al ts gs)
  taken_all find al _ _ = None

  -- as many values of one type as are given
  abbrev pub taken_each : (find : Token → Option Value) → Allocated → ValType → List Given → Option (List Value)
  taken_each find al t [] = Some []
  taken_each find al t (g ∷ gs) = joined (taken find al t g) (taken_each find al t gs)

-- writes

-- the index of the item of the open state with a number, where it is of a kind
abbrev pub item_of : Kind → Option Thing → Option ℕ
item_of kind None = None
item_of kind (Some t) = cond (is_kind kind t.kind) (Some t.index) None

abbrev pub element_type : Option TableType → Option ValType
element_type None = None
element_type (Some t) = Some (V.Ref t.elem)

abbrev pub global_type : Option (ValType × Bool) → Option ValType
global_type None = None
global_type (Some g) = Some g.0

abbrev pub write_byte : (memory address byte : ℕ) → Store → Option Store
write_byte x a b st = cond (nat_lt a (length (bytes_at st x)) && nat_lt b 256) (Some (with_memory st x (slice_set (bytes_at st x) a b))) None

abbrev pub write_entry : (table place : ℕ) → Store → Value → Option Store
write_entry x i st v = cond (nat_lt i (length (entries_at st x))) (Some (with_table st x (slice_set (entries_at st x) i v))) None

abbrev pub write_global_on : (global : ℕ) → Store → Value → Option (Option Value) → Option Store
write_global_on x st v (Some (Some old)) = Some (record st { variables = slice_set st.variables x (Some v) })
write_global_on x st v _ = None

abbrev pub write_global : (global : ℕ) → Store → Value → Option Store
write_global x st v = write_global_on x st v (slice_get st.variables x)

module _ (o : Outline) where
  abbrev pub item_at : Kind → (item : ℕ) → Option ℕ
  item_at kind k = item_of kind (slice_get (open_things o) k)

  -- the store behind a write, where the item and the place are there and the value fits
  abbrev pub written_one : List Value → Store → Write → Option Store
  written_one ts st (Write.Byte k a b) = option_and_then (λ x. write_byte x a b st) (item_at K.Memory k)
  written_one ts st (Write.Entry k i g) = option_and_then (λ x. option_and_then (λ t. option_and_then (write_entry x i st) (taken o (known o ts) (allocated st) t g)) (element_type (slice_get o.tables x))) (item_at K.Table k)
  written_one ts st (Write.Global k g) = option_and_then (λ x. option_and_then (λ t. option_and_then (write_global x st) (taken o (known o ts) (allocated st) t g)) (global_type (slice_get o.globals x))) (item_at K.Global k)

  -- the store behind writes in order, where each can be made
  abbrev pub written : List Value → List Write → Store → Option Store
  written ts [] st = Some st
  written ts (w ∷ ws) st = option_and_then (written ts ws) (written_one ts st w)

-- sizes

-- how much may grow: to at most the declared greatest size, and to at most a bound

abbrev pub most_of : (bound : ℕ) → Limits → ℕ
most_of bound limits = min bound (unwrap_or limits.most bound)

abbrev pub is_size : (bound : ℕ) → Limits → (size : ℕ) → Bool
is_size bound limits n = not (nat_lt n limits.least) && not (nat_lt (most_of bound limits) n)

-- the greatest sizes of a memory, in pages, and of a table, in entries (4.6 Instructions, memory.grow, table.grow)
abbrev pub most_pages : ℕ
most_pages = 65536

abbrev pub most_entries : ℕ
most_entries = 2 ^ 32 - 1

-- what the embedder opens with

-- whether tags that have one number have one type
abbrev pub agrees : Outline → ℕ → ℕ → (types numbers : List ℕ) → Bool
agrees o ty n (t ∷ ts) (k ∷ ks) = (not (nat_eq n k) || same_type o.types ty o.types t) && agrees o ty n ts ks
agrees o ty n _ _ = true

abbrev pub all_agree : Outline → (types numbers : List ℕ) → Bool
all_agree o (t ∷ ts) (k ∷ ks) = agrees o t k ts ks && all_agree o ts ks
all_agree o _ _ = true

-- before anything is allocated
abbrev pub nothing_allocated : Allocated
nothing_allocated = record { structs = []; arrays = []; exceptions = 0 }

-- a list with what is given for each of the types, where as many are given
abbrev pub opened_each : {X Y Z : Type 0} → (X → Y → Option Z) → List X → List Y → Option (List Z)
opened_each f [] [] = Some []
opened_each f (x ∷ xs) (y ∷ ys) = joined (f x y) (opened_each f xs ys)
opened_each f _ _ = None

-- the value of a global in the list in which it stands, and None in the other
abbrev pub as_constant : Bool → Value → Option Value
as_constant true v = None
as_constant false v = Some v

abbrev pub as_variable : Bool → Value → Option Value
as_variable true v = Some v
as_variable false v = None

abbrev pub all_as : (Bool → Value → Option Value) → List (ValType × Bool) → List Value → List (Option Value)
all_as f (g ∷ gs) (v ∷ vs) = f g.1 v ∷ all_as f gs vs
all_as f _ _ = []

-- the tags that the module defines
abbrev pub own_tags : (number count : ℕ) → List Identity
own_tags n zero = []
own_tags n (suc k) = own n ∷ own_tags (suc n) k

-- a memory that the module defines
abbrev pub new_memory : Limits → List ℕ
new_memory limits = replicate (limits.least * page) 0

module _ (o : Outline) where
  abbrev pub opened_global : (ValType × Bool) → Given → Option Value
  opened_global g v = taken o (known_early o) nothing_allocated g.0 v

  abbrev pub opened_table : TableType → List Given → Option (List Value)
  opened_table t gs = cond (is_size most_entries t.limits (length gs)) (taken_each o (known_early o) nothing_allocated (V.Ref t.elem) gs) None

  abbrev pub opened_memory : Limits → List ℕ → Option (List ℕ)
  opened_memory limits bytes = cond (nat_eq (length bytes % page) 0 && is_size most_pages limits (length bytes / page) && list_all (λ b. nat_lt b 256) bytes) (Some bytes) None

  abbrev pub opened_tags : List ℕ → List ℕ → Option (List Identity)
  opened_tags types ns = cond (nat_eq (length types) (length ns) && all_agree o types ns) (Some (map foreign ns)) None

  abbrev pub store_of : (globals : List Value) → (tables : List (List Value)) → (memories : List (List ℕ)) → List Identity → (datas : List (List ℕ)) → (own_memories : List Limits) → (own_count : ℕ) → Store
  store_of gs ts ms ids datas own_memories own_count = record {
    constants = all_as as_constant (imported as_global o.imports) gs;
    variables = all_as as_variable (imported as_global o.imports) gs;
    tables = ts;
    memories = ms ++ map new_memory own_memories;
    tags = ids ++ own_tags 0 own_count;
    elems = [];
    datas = datas;
    structs = [];
    arrays = [];
    exceptions = [];
  }

  -- the store before the initial values of the module's own tables and globals: where the opening has one fitting item
  -- for each import of its kind
  abbrev pub opened : Opening → (datas : List (List ℕ)) → (own_memories : List Limits) → (own_count : ℕ) → Option Store
  opened p datas own_memories own_count =
      option_and_then (λ gs. option_and_then (λ ts. option_and_then (λ ms. option_map (λ ids. store_of gs ts ms ids datas own_memories own_count)
      (opened_tags (imported as_tag o.imports) p.tags))
      (opened_each opened_memory (imported as_memory o.imports) p.memories))
      (opened_each opened_table (imported as_table o.imports) p.tables))
      (opened_each opened_global (imported as_global o.imports) p.globals)
