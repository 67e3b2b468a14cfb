-- Which stores fit what a module says of them, and what a plain instruction may do to one.
use Rattle.std.proofs.Common.{ℕ, zero, suc, ◌+◌, Bool, true, false, cond, List, [], ◌∷◌, ◌++◌, map, length, drop, take, replicate, Option, Some, None, slice_get, slice_set, nat_lt, ◌≡◌, refl, ap, sym, subst, arith}
use Rattle.std.proofs.lemmas.Option.{same_Some, none-some}
use Rattle.gu_types.specs.declared.types.FieldType.{FieldType}
use Rattle.gu_types.specs.declared.types.RefType.{RefType}
use Rattle.gu_types.specs.declared.types.Storage.{Storage}
use Rattle.gu_types.specs.declared.types.Storage.TheVariants as S
use Rattle.gu_types.specs.declared.types.ValType.{ValType}
use Rattle.gu_types.specs.declared.types.ValType.TheVariants as V
use Rattle.gu_model.specs.Index.{FuncType, struct_type, array_type}
use Rattle.gu_model.specs.Outline.{Outline, type_of_tag}
use Rattle.gu_model.specs.Value.{Value, i32, Object, Identity, Exception, Store, Allocated, allocated, is_same_tag}
use Rattle.gu_model.specs.Did.{Did, goes, traps, fails, need, need_on, within, part, put}
use Rattle.gu_model.specs.TypingContext.{Context, matches}
use Rattle.gu_model.specs.TypingShape.{of}
use Rattle.gu_model.proofs.Has.{Grown, grown_same, Has, HasAll, HasTop, has_more, all_more}

module _ (o : Outline) where
  -- values that all have one type
  abbrev pub EachHas : Allocated → ValType → List Value → Type 0
  EachHas al t [] = Unit {0}
  EachHas al t (v ∷ vs) = Has o al t v × EachHas al t vs

  -- what a field or an element holds
  abbrev pub Holds : Allocated → Storage → Value → Type 0
  Holds al (S.Val t) v = Has o al t v
  Holds al _ (i32 n) = Unit {0}
  Holds al _ _ = ⊥

  abbrev pub EachHolds : Allocated → Storage → List Value → Type 0
  EachHolds al s [] = Unit {0}
  EachHolds al s (v ∷ vs) = Holds al s v × EachHolds al s vs

  abbrev pub FieldsHold : Allocated → List FieldType → List Value → Type 0
  FieldsHold al [] [] = Unit {0}
  FieldsHold al (f ∷ fs) (v ∷ vs) = Holds al f.storage v × FieldsHold al fs vs
  FieldsHold al _ _ = ⊥

  abbrev pub GlobalFits : Allocated → Option Value → Option Value → ValType × Bool → Type 0
  GlobalFits al (Some v) None g = Has o al g.0 v × (g.1 ≡ false)
  GlobalFits al None (Some v) g = Has o al g.0 v × (g.1 ≡ true)
  GlobalFits al _ _ g = ⊥

  abbrev pub GlobalsFit : Allocated → (constants variables : List (Option Value)) → List (ValType × Bool) → Type 0
  GlobalsFit al [] [] [] = Unit {0}
  GlobalsFit al (c ∷ cs) (v ∷ vs) (g ∷ gs) = GlobalFits al c v g × GlobalsFit al cs vs gs
  GlobalsFit al _ _ _ = ⊥

  -- tables and element segments
  abbrev pub RefsFit : Allocated → List (List Value) → List RefType → Type 0
  RefsFit al [] [] = Unit {0}
  RefsFit al (vs ∷ vss) (r ∷ rs) = EachHas al (V.Ref r) vs × RefsFit al vss rs
  RefsFit al _ _ = ⊥

  pub record StructFits (al : Allocated) (u : Object) : Type 0 where
    pub fields : List FieldType
    pub found : struct_type o.types u.type ≡ Some fields
    pub hold : FieldsHold al fields u.values

  pub record ArrayFits (al : Allocated) (u : Object) : Type 0 where
    pub field : FieldType
    pub found : array_type o.types u.type ≡ Some field
    pub hold : EachHolds al field.storage u.values

  -- the arguments of an exception, by each tag that is its tag
  pub record ExceptionFits (al : Allocated) (tags : List Identity) (x : Exception) : Type 0 where
    pub hold : (t : ℕ) (id : Identity) (f : FuncType) → slice_get tags t ≡ Some id → is_same_tag id x.tag ≡ true → type_of_tag o t ≡ Some f → HasAll o al x.arguments (map of f.params)

  -- a store that fits a context, but for its numbers' ranges
  pub record StoreFits (C : Context) (st : Store) : Type 0 where
    pub globals : GlobalsFit (allocated st) st.constants st.variables C.globals
    pub tables : RefsFit (allocated st) st.tables C.tables
    pub elems : RefsFit (allocated st) st.elems C.elems
    pub memories : length st.memories ≡ C.memories
    pub datas : length st.datas ≡ C.segs
    pub tags : length st.tags ≡ length o.tags
    pub alike : (t u : ℕ) (i j : Identity) (f g : FuncType) → slice_get st.tags t ≡ Some i → slice_get st.tags u ≡ Some j → is_same_tag i j ≡ true → type_of_tag o t ≡ Some f → type_of_tag o u ≡ Some g → matches o.types g.params f.params ≡ true
    pub structs : (a : ℕ) (u : Object) → slice_get st.structs a ≡ Some u → StructFits (allocated st) u
    pub arrays : (a : ℕ) (u : Object) → slice_get st.arrays a ≡ Some u → ArrayFits (allocated st) u
    pub exceptions : (a : ℕ) (x : Exception) → slice_get st.exceptions a ≡ Some x → ExceptionFits (allocated st) st.tags x

  -- what was there stays, and the store still fits
  pub record Later (C : Context) (st new : Store) : Type 0 where
    pub grown : Grown (allocated st) (allocated new)
    pub fits : StoreFits C new

  pub later_same : (C : Context) (st : Store) → StoreFits C st → Later C st st
  later_same C st f = record { grown = grown_same (allocated st); fits = f }

  -- what a plain instruction did that has such results and leaves the locals
  abbrev pub DidGood : Context → (results : List ValType) → (locals : List (Option Value)) → Store → Did → Type 0
  DidGood C us ls st (goes vs ms new) = Later C st new × HasTop o (allocated new) vs us × (ms ≡ ls)
  DidGood C us ls st traps = Unit {0}
  DidGood C us ls st fails = ⊥

  pub need_good : {X : Type 0} (C : Context) (us : List ValType) (ls : List (Option Value)) (st : Store) (p : Option X) (go : X → Did) (x : X) → p ≡ Some x → DidGood C us ls st (go x) → DidGood C us ls st (need p go)
  unfolding need
  need_good C us ls st p go x e h = subst (λ q. DidGood C us ls st (need_on q go)) (sym e) h

  pub within_good : {X : Type 0} (C : Context) (us : List ValType) (ls : List (Option Value)) (st : Store) (p : Option X) (go : X → Did) → ((x : X) → p ≡ Some x → DidGood C us ls st (go x)) → DidGood C us ls st (within p go)
  unfolding within
  within_good C us ls st None go h = tt
  within_good C us ls st (Some x) go h = h x refl

  -- lists

  pub each_more : (a b : Allocated) (t : ValType) (vs : List Value) → Grown a b → EachHas a t vs → EachHas b t vs
  each_more a b t [] g h = tt
  each_more a b t (v ∷ vs) g h = (has_more o a b t v g h.0, each_more a b t vs g h.1)

  pub holds_more : (a b : Allocated) (s : Storage) (v : Value) → Grown a b → Holds a s v → Holds b s v
  holds_more a b (S.Val t) v g h = has_more o a b t v g h
  holds_more a b S.I8 (i32 n) g h = tt
  holds_more a b S.I8 _ g h = absurd h
  holds_more a b S.I16 (i32 n) g h = tt
  holds_more a b S.I16 _ g h = absurd h

  pub each_holds_more : (a b : Allocated) (s : Storage) (vs : List Value) → Grown a b → EachHolds a s vs → EachHolds b s vs
  each_holds_more a b s [] g h = tt
  each_holds_more a b s (v ∷ vs) g h = (holds_more a b s v g h.0, each_holds_more a b s vs g h.1)

  pub fields_more : (a b : Allocated) (fs : List FieldType) (vs : List Value) → Grown a b → FieldsHold a fs vs → FieldsHold b fs vs
  fields_more a b [] [] g h = tt
  fields_more a b [] (v ∷ vs) g h = absurd h
  fields_more a b (f ∷ fs) [] g h = absurd h
  fields_more a b (f ∷ fs) (v ∷ vs) g h = (holds_more a b f.storage v g h.0, fields_more a b fs vs g h.1)

  pub globals_more : (a b : Allocated) (cs vs : List (Option Value)) (gs : List (ValType × Bool)) → Grown a b → GlobalsFit a cs vs gs → GlobalsFit b cs vs gs
  globals_more a b [] [] [] g h = tt
  globals_more a b (Some c ∷ cs) (None ∷ vs) (x ∷ gs) g h = ((has_more o a b x.0 c g h.0.0, h.0.1), globals_more a b cs vs gs g h.1)
  globals_more a b (None ∷ cs) (Some v ∷ vs) (x ∷ gs) g h = ((has_more o a b x.0 v g h.0.0, h.0.1), globals_more a b cs vs gs g h.1)
  globals_more a b (None ∷ cs) (None ∷ vs) (x ∷ gs) g h = absurd h.0
  globals_more a b (Some c ∷ cs) (Some v ∷ vs) (x ∷ gs) g h = absurd h.0
  globals_more a b [] [] (x ∷ gs) g h = absurd h
  globals_more a b [] (v ∷ vs) gs g h = absurd h
  globals_more a b (c ∷ cs) [] gs g h = absurd h
  globals_more a b (None ∷ cs) (v ∷ vs) [] g h = absurd h
  globals_more a b (Some c ∷ cs) (v ∷ vs) [] g h = absurd h

  pub refs_more : (a b : Allocated) (vss : List (List Value)) (rs : List RefType) → Grown a b → RefsFit a vss rs → RefsFit b vss rs
  refs_more a b [] [] g h = tt
  refs_more a b [] (r ∷ rs) g h = absurd h
  refs_more a b (vs ∷ vss) [] g h = absurd h
  refs_more a b (vs ∷ vss) (r ∷ rs) g h = (each_more a b (V.Ref r) vs g h.0, refs_more a b vss rs g h.1)

  pub struct_more : (a b : Allocated) (u : Object) → Grown a b → StructFits a u → StructFits b u
  struct_more a b u g h = record { fields = h.fields; found = h.found; hold = fields_more a b h.fields u.values g h.hold }

  pub array_more : (a b : Allocated) (u : Object) → Grown a b → ArrayFits a u → ArrayFits b u
  array_more a b u g h = record { field = h.field; found = h.found; hold = each_holds_more a b h.field.storage u.values g h.hold }

  pub exception_more : (a b : Allocated) (ids : List Identity) (x : Exception) → Grown a b → ExceptionFits a ids x → ExceptionFits b ids x
  exception_more a b ids x g h = record { hold = λ t id f e s q. all_more o a b x.arguments (map of f.params) g (h.hold t id f e s q) }

  -- a table or an element segment that is there
  pub record RefsAt (al : Allocated) (vss : List (List Value)) (x : ℕ) (r : RefType) : Type 0 where
    pub entries : List Value
    pub found : slice_get vss x ≡ Some entries
    pub has : EachHas al (V.Ref r) entries

  pub refs_at : (al : Allocated) (vss : List (List Value)) (rs : List RefType) (x : ℕ) (r : RefType) → RefsFit al vss rs → slice_get rs x ≡ Some r → RefsAt al vss x r
  refs_at al vss [] x r h e = absurd (none-some r e)
  refs_at al [] (s ∷ rs) x r h e = absurd h
  refs_at al (vs ∷ vss) (s ∷ rs) zero r h e = record { entries = vs; found = refl; has = subst (λ y. EachHas al (V.Ref y) vs) (same_Some _ _ e) h.0 }
  refs_at al (vs ∷ vss) (s ∷ rs) (suc x) r h e = let q = refs_at al vss rs x r h.1 e in record { entries = q.entries; found = q.found; has = q.has }

  pub refs_set : (al : Allocated) (vss : List (List Value)) (rs : List RefType) (x : ℕ) (r : RefType) (new : List Value) → RefsFit al vss rs → slice_get rs x ≡ Some r → EachHas al (V.Ref r) new → RefsFit al (slice_set vss x new) rs
  refs_set al vss [] x r new h e n = absurd (none-some r e)
  refs_set al [] (s ∷ rs) x r new h e n = absurd h
  refs_set al (vs ∷ vss) (s ∷ rs) zero r new h e n = (subst (λ y. EachHas al (V.Ref y) new) (sym (same_Some _ _ e)) n, h.1)
  refs_set al (vs ∷ vss) (s ∷ rs) (suc x) r new h e n = (h.0, refs_set al vss rs x r new h.1 e n)

  pub each_get : (al : Allocated) (t : ValType) (vs : List Value) (i : ℕ) (v : Value) → EachHas al t vs → slice_get vs i ≡ Some v → Has o al t v
  each_get al t [] i v h e = absurd (none-some v e)
  each_get al t (w ∷ vs) zero v h e = subst (Has o al t) (same_Some _ _ e) h.0
  each_get al t (w ∷ vs) (suc i) v h e = each_get al t vs i v h.1 e

  pub each_append : (al : Allocated) (t : ValType) (vs ws : List Value) → EachHas al t vs → EachHas al t ws → EachHas al t (vs ++ ws)
  each_append al t [] ws h g = g
  each_append al t (v ∷ vs) ws h g = (h.0, each_append al t vs ws h.1 g)

  pub each_take : (al : Allocated) (t : ValType) (n : ℕ) (vs : List Value) → EachHas al t vs → EachHas al t (take n vs)
  each_take al t zero vs h = tt
  each_take al t (suc n) [] h = tt
  each_take al t (suc n) (v ∷ vs) h = (h.0, each_take al t n vs h.1)

  pub each_drop : (al : Allocated) (t : ValType) (n : ℕ) (vs : List Value) → EachHas al t vs → EachHas al t (drop n vs)
  each_drop al t zero vs h = h
  each_drop al t (suc n) [] h = tt
  each_drop al t (suc n) (v ∷ vs) h = each_drop al t n vs h.1

  pub each_replicate : (al : Allocated) (t : ValType) (n : ℕ) (v : Value) → Has o al t v → EachHas al t (replicate n v)
  each_replicate al t zero v h = tt
  each_replicate al t (suc n) v h = (h, each_replicate al t n v h)

  pub each_part : (al : Allocated) (t : ValType) (s n : ℕ) (vs ws : List Value) → EachHas al t vs → part s n vs ≡ Some ws → EachHas al t ws
  each_part al t s n vs ws h e = by (nat_lt (length vs) (s + n)) e
    where
      by : (b : Bool) → cond b None (Some (take n (drop s vs))) ≡ Some ws → EachHas al t ws
      by true e = absurd (none-some ws e)
      by false e = subst (EachHas al t) (same_Some _ _ e) (each_take al t n (drop s vs) (each_drop al t s vs h))

  pub each_put : (al : Allocated) (t : ValType) (s : ℕ) (ys xs zs : List Value) → EachHas al t ys → EachHas al t xs → put s ys xs ≡ Some zs → EachHas al t zs
  each_put al t s ys xs zs hy hx e = by (nat_lt (length xs) (s + length ys)) e
    where
      by : (b : Bool) → cond b None (Some (take s xs ++ ys ++ drop (s + length ys) xs)) ≡ Some zs → EachHas al t zs
      by true e = absurd (none-some zs e)
      by false e = subst (EachHas al t) (same_Some _ _ e) (each_append al t (take s xs ++ ys) (drop (s + length ys) xs) (each_append al t (take s xs) ys (each_take al t s xs hx) hy) (each_drop al t (s + length ys) xs hx))

-- something that is there by its number
pub there : {X : Type 0} (xs : List X) (n x : ℕ) → length xs ≡ n → nat_lt x n ≡ true → (y : X) × (slice_get xs x ≡ Some y)
there [] n x e h = absurd (let z : ⊥ = grind (arith, e, h) in z)
there (y ∷ xs) n zero e h = (y, refl)
there (y ∷ xs) zero (suc x) e h = absurd (let z : ⊥ = grind (arith, e, h) in z)
there (y ∷ xs) (suc n) (suc x) e h = there xs n x (omega (arith, e)) (grind (arith, h))

pub length_set : {X : Type 0} (xs : List X) (x : ℕ) (y : X) → length (slice_set xs x y) ≡ length xs
length_set [] x y = refl
length_set (z ∷ xs) zero y = refl
length_set (z ∷ xs) (suc x) y = ap suc (length_set xs x y)
