-- Which references have a type, by cases: what a reference is where it leads to something below a heap type.
use Rattle.std.proofs.Common.{ℕ, zero, suc, ◌^◌, Bool, true, false, cond, List, [], ◌∷◌, length, Option, Some, None, option_map, slice_get, nat_lt, ◌≡◌, refl, ap, sym, subst, true≢false}
use Rattle.std.proofs.lemmas.Option.{same_Some, none-some}
use Rattle.gu_types.specs.declared.types.Abs.{Abs}
use Rattle.gu_types.specs.declared.types.Abs.TheVariants as A
use Rattle.gu_types.specs.declared.types.Comp.{Comp}
use Rattle.gu_types.specs.declared.types.Comp.TheVariants as C
use Rattle.gu_types.specs.declared.types.FieldType.{FieldType}
use Rattle.gu_types.specs.declared.types.HeapType.{HeapType}
use Rattle.gu_types.specs.declared.types.HeapType.TheVariants as H
use Rattle.gu_types.specs.declared.types.RefType.{RefType}
use Rattle.gu_types.specs.declared.types.SubType.{SubType}
use Rattle.gu_types.specs.declared.types.TypeList.{TypeList}
use Rattle.gu_types.specs.Depth.{types_of}
use Rattle.gu_rec.specs.Sub.{is_sub, line, kind_of}
use Rattle.gu_model.specs.Index.{FuncType, func_type, struct_type, array_type, comp_as, fields_of, elements_of, func_of}
use Rattle.gu_model.specs.Outline.{Outline}
use Rattle.gu_model.specs.Value.{Value, i32, i64, null, i31, struct, array, exception, function, host, host_external, external, Object, Store, allocated, kinds, is_under, heap_type, fits_ref}
use Rattle.gu_model.specs.TypingContext.{Context}
use Rattle.gu_model.proofs.GoodTypes.{GoodTypes}
use Rattle.gu_model.proofs.Stores.{StoreFits, StructFits, ArrayFits}

-- the functions of a module have function types
pub record GoodFuncs (o : Outline) : Type 0 where
  pub typed : (f t : ℕ) → slice_get o.funcs f ≡ Some t → (ft : FuncType) × (func_type o.types t ≡ Some ft)

-- an object by its type
pub kind_at : (xs : List Object) (a t : ℕ) → slice_get (kinds xs) a ≡ Some t → (u : Object) × (slice_get xs a ≡ Some u) × (u.type ≡ t)
kind_at [] a t e = absurd (none-some t e)
kind_at (x ∷ xs) zero t e = (x, refl, same_Some _ _ e)
kind_at (x ∷ xs) (suc a) t e = kind_at xs a t e

pub kind_found : (xs : List Object) (a : ℕ) (u : Object) → slice_get xs a ≡ Some u → slice_get (kinds xs) a ≡ Some u.type
kind_found [] a u e = absurd (none-some u e)
kind_found (x ∷ xs) zero u e = ap (λ (v : Object). Some v.type) (same_Some _ _ e)
kind_found (x ∷ xs) (suc a) u e = kind_found xs a u e

-- a type is of one kind
module _ (list : TypeList) where
  kind_only : {X Y : Type 0} (read : Comp → Option X) (other : Comp → Option Y) (t : ℕ) (x : X) (y : Y) → ((c : Comp) → read c ≡ Some x → other c ≡ Some y → ⊥) → comp_as read (slice_get (types_of list) t) ≡ Some x → comp_as other (slice_get (types_of list) t) ≡ Some y → ⊥
  kind_only read other t x y never = by (slice_get (types_of list) t)
    where
      by : (p : Option SubType) → comp_as read p ≡ Some x → comp_as other p ≡ Some y → ⊥
      by None e f = none-some x e
      by (Some ty) e f = never ty.comp e f

  pub struct_no_array : (t : ℕ) (fs : List FieldType) (f : FieldType) → struct_type list t ≡ Some fs → array_type list t ≡ Some f → ⊥
  struct_no_array t fs f = kind_only fields_of elements_of t fs f never
    where
      never : (c : Comp) → fields_of c ≡ Some fs → elements_of c ≡ Some f → ⊥
      never (C.Struct gs) e h = none-some f h
      never (C.Array g) e h = none-some fs e
      never (C.Func ps rs) e h = none-some fs e

  pub struct_no_func : (t : ℕ) (fs : List FieldType) (f : FuncType) → struct_type list t ≡ Some fs → func_type list t ≡ Some f → ⊥
  struct_no_func t fs f = kind_only fields_of func_of t fs f never
    where
      never : (c : Comp) → fields_of c ≡ Some fs → func_of c ≡ Some f → ⊥
      never (C.Struct gs) e h = none-some f h
      never (C.Array g) e h = none-some fs e
      never (C.Func ps rs) e h = none-some fs e

  pub array_no_func : (t : ℕ) (g : FieldType) (f : FuncType) → array_type list t ≡ Some g → func_type list t ≡ Some f → ⊥
  array_no_func t g f = kind_only elements_of func_of t g f never
    where
      never : (c : Comp) → elements_of c ≡ Some g → func_of c ≡ Some f → ⊥
      never (C.Struct gs) e h = none-some g e
      never (C.Array k) e h = none-some f h
      never (C.Func ps rs) e h = none-some g e

  -- the kind of a type that is read so
  pub record KindAt (t : ℕ) (k : Abs) : Type 0 where
    pub type : SubType
    pub found : slice_get (types_of list) t ≡ Some type
    pub kind : kind_of type.comp ≡ k

  kind_read : {X : Type 0} (read : Comp → Option X) (t : ℕ) (x : X) (k : Abs) → ((c : Comp) → read c ≡ Some x → kind_of c ≡ k) → comp_as read (slice_get (types_of list) t) ≡ Some x → KindAt t k
  kind_read read t x k is = by (slice_get (types_of list) t) refl
    where
      by : (p : Option SubType) → slice_get (types_of list) t ≡ p → comp_as read p ≡ Some x → KindAt t k
      by None q e = absurd (none-some x e)
      by (Some ty) q e = record { type = ty; found = q; kind = is ty.comp e }

  pub struct_kind : (t : ℕ) (fs : List FieldType) → struct_type list t ≡ Some fs → KindAt t A.AnyStruct
  struct_kind t fs = kind_read fields_of t fs A.AnyStruct is
    where
      is : (c : Comp) → fields_of c ≡ Some fs → kind_of c ≡ A.AnyStruct
      is (C.Struct gs) e = refl
      is (C.Array g) e = absurd (none-some fs e)
      is (C.Func ps rs) e = absurd (none-some fs e)

  pub array_kind : (t : ℕ) (f : FieldType) → array_type list t ≡ Some f → KindAt t A.AnyArray
  array_kind t f = kind_read elements_of t f A.AnyArray is
    where
      is : (c : Comp) → elements_of c ≡ Some f → kind_of c ≡ A.AnyArray
      is (C.Struct gs) e = absurd (none-some f e)
      is (C.Array g) e = refl
      is (C.Func ps rs) e = absurd (none-some f e)

  pub func_kind : (t : ℕ) (f : FuncType) → func_type list t ≡ Some f → KindAt t A.AnyFunc
  func_kind t f = kind_read func_of t f A.AnyFunc is
    where
      is : (c : Comp) → func_of c ≡ Some f → kind_of c ≡ A.AnyFunc
      is (C.Struct gs) e = absurd (none-some f e)
      is (C.Array g) e = absurd (none-some f e)
      is (C.Func ps rs) e = refl

module _ (o : Outline) (good : GoodTypes o.types) (K : Context) (st : Store) (fits : StoreFits o K st) where
  -- what a reference is that leads below a heap type
  pub record Cases (P : Value → Type 0) (h : HeapType) : Type 0 where
    pub unboxed : (n : ℕ) → is_sub o.types (H.Abs A.I31) h ≡ true → P (i31 n)
    pub structs : (a : ℕ) (u : Object) → slice_get st.structs a ≡ Some u → StructFits o (allocated st) u → is_sub o.types (H.Idx u.type) h ≡ true → P (struct a)
    pub arrays : (a : ℕ) (u : Object) → slice_get st.arrays a ≡ Some u → ArrayFits o (allocated st) u → is_sub o.types (H.Idx u.type) h ≡ true → P (array a)
    pub exceptions : (a : ℕ) → nat_lt a (length st.exceptions) ≡ true → is_sub o.types (H.Abs A.Exn) h ≡ true → P (exception a)
    pub functions : (f t : ℕ) → slice_get o.funcs f ≡ Some t → is_sub o.types (H.Idx t) h ≡ true → P (function f)
    pub hosts : (n : ℕ) → is_sub o.types (H.Abs A.Any) h ≡ true → P (host n)
    pub externals : (n : ℕ) → is_sub o.types (H.Abs A.Extern) h ≡ true → P (host_external n)
    pub forms : (w : Value) → is_under o (H.Abs A.Any) (heap_type o (allocated st) w) ≡ true → is_sub o.types (H.Abs A.Extern) h ≡ true → P (external w)

  under_cond : (b : Bool) (g h : HeapType) → is_under o h (cond b (Some g) None) ≡ true → (b ≡ true) × (is_sub o.types g h ≡ true)
  under_cond true g h e = (refl, e)
  under_cond false g h e = absurd (true≢false (sym e))

  under_map : (p : Option ℕ) (h : HeapType) → is_under o h (option_map H.Idx p) ≡ true → (t : ℕ) × (p ≡ Some t) × (is_sub o.types (H.Idx t) h ≡ true)
  under_map None h e = absurd (true≢false (sym e))
  under_map (Some t) h e = (t, refl, e)

  pub non_null_is : (P : Value → Type 0) (h : HeapType) (v : Value) → Cases P h → is_under o h (heap_type o (allocated st) v) ≡ true → P v
  non_null_is P h (i32 n) c e = absurd (true≢false (sym e))
  non_null_is P h (i64 n) c e = absurd (true≢false (sym e))
  non_null_is P h null c e = absurd (true≢false (sym e))
  non_null_is P h (i31 n) c e = c.unboxed n (under_cond (nat_lt n (2 ^ 31)) (H.Abs A.I31) h e).1
  non_null_is P h (struct a) c e = let q = under_map (slice_get (kinds st.structs) a) h e in let r = kind_at st.structs a q.0 q.1 in c.structs a r.0 r.1 (fits.structs a r.0 r.1) (subst (λ t. is_sub o.types (H.Idx t) h ≡ true) (sym r.2) q.2)
  non_null_is P h (array a) c e = let q = under_map (slice_get (kinds st.arrays) a) h e in let r = kind_at st.arrays a q.0 q.1 in c.arrays a r.0 r.1 (fits.arrays a r.0 r.1) (subst (λ t. is_sub o.types (H.Idx t) h ≡ true) (sym r.2) q.2)
  non_null_is P h (exception a) c e = let q = under_cond (nat_lt a (length st.exceptions)) (H.Abs A.Exn) h e in c.exceptions a q.0 q.1
  non_null_is P h (function f) c e = let q = under_map (slice_get o.funcs f) h e in c.functions f q.0 q.1 q.2
  non_null_is P h (host n) c e = c.hosts n e
  non_null_is P h (host_external n) c e = c.externals n e
  non_null_is P h (external w) c e = let q = under_cond (is_under o (H.Abs A.Any) (heap_type o (allocated st) w)) (H.Abs A.Extern) h e in c.forms w q.0 q.1

  pub reference_cases : (P : Value → Type 0) (r : RefType) (v : Value) → (r.null ≡ true → P null) → Cases P r.heap → fits_ref o (allocated st) r v ≡ true → P v
  reference_cases P r null n c e = n e
  reference_cases P r v n c e = non_null_is P r.heap v c e

  module _ (funcs : GoodFuncs o) where
    -- a structure whose type is below one of structures, and null
    pub struct_is : (P : Value → Type 0) (x : ℕ) (fs : List FieldType) (n : Bool) (v : Value) → struct_type o.types x ≡ Some fs → P null → ((a : ℕ) (u : Object) → slice_get st.structs a ≡ Some u → StructFits o (allocated st) u → is_sub o.types (H.Idx u.type) (H.Idx x) ≡ true → P (struct a)) → fits_ref o (allocated st) (record { null = n; heap = H.Idx x }) v ≡ true → P v
    struct_is P x fs n v e pn ps = reference_cases P (record { null = n; heap = H.Idx x }) v (λ t. pn) (record {
      unboxed = λ k s. absurd (good.abstract A.I31 x refl s);
      structs = ps;
      arrays = λ a u q f s. absurd (struct_no_array o.types u.type (good.structs u.type x fs s e).fields f.field (good.structs u.type x fs s e).found f.found);
      exceptions = λ a l s. absurd (good.abstract A.Exn x refl s);
      functions = λ f t q s. absurd (struct_no_func o.types t (good.structs t x fs s e).fields (funcs.typed f t q).0 (good.structs t x fs s e).found (funcs.typed f t q).1);
      hosts = λ k s. absurd (good.abstract A.Any x refl s);
      externals = λ k s. absurd (good.abstract A.Extern x refl s);
      forms = λ w q s. absurd (good.abstract A.Extern x refl s);
    })

    pub array_is : (P : Value → Type 0) (x : ℕ) (g : FieldType) (n : Bool) (v : Value) → array_type o.types x ≡ Some g → P null → ((a : ℕ) (u : Object) → slice_get st.arrays a ≡ Some u → ArrayFits o (allocated st) u → is_sub o.types (H.Idx u.type) (H.Idx x) ≡ true → P (array a)) → fits_ref o (allocated st) (record { null = n; heap = H.Idx x }) v ≡ true → P v
    array_is P x g n v e pn ps = reference_cases P (record { null = n; heap = H.Idx x }) v (λ t. pn) (record {
      unboxed = λ k s. absurd (good.abstract A.I31 x refl s);
      structs = λ a u q f s. absurd (struct_no_array o.types u.type f.fields (good.arrays u.type x g s e).field f.found (good.arrays u.type x g s e).found);
      arrays = ps;
      exceptions = λ a l s. absurd (good.abstract A.Exn x refl s);
      functions = λ f t q s. absurd (array_no_func o.types t (good.arrays t x g s e).field (funcs.typed f t q).0 (good.arrays t x g s e).found (funcs.typed f t q).1);
      hosts = λ k s. absurd (good.abstract A.Any x refl s);
      externals = λ k s. absurd (good.abstract A.Extern x refl s);
      forms = λ w q s. absurd (good.abstract A.Extern x refl s);
    })

    -- an unboxed number, any array, and any exception, and null
    pub root_false : (t : ℕ) (k j : Abs) → KindAt o.types t k → is_sub o.types (H.Idx t) (H.Abs j) ≡ true → is_sub o.types (H.Abs k) (H.Abs j) ≡ true
    root_false t k j a s = subst (λ z. is_sub o.types (H.Abs z) (H.Abs j) ≡ true) a.kind (good.roots t a.type j a.found s)

    pub unboxed_is : (P : Value → Type 0) (n : Bool) (v : Value) → P null → ((k : ℕ) → P (i31 k)) → fits_ref o (allocated st) (record { null = n; heap = H.Abs A.I31 }) v ≡ true → P v
    unfolding is_sub line
    unboxed_is P n v pn pu = reference_cases P (record { null = n; heap = H.Abs A.I31 }) v (λ t. pn) (record {
      unboxed = λ k s. pu k;
      structs = λ a u q f s. absurd (true≢false (sym (root_false u.type A.AnyStruct A.I31 (struct_kind o.types u.type f.fields f.found) s)));
      arrays = λ a u q f s. absurd (true≢false (sym (root_false u.type A.AnyArray A.I31 (array_kind o.types u.type f.field f.found) s)));
      exceptions = λ a l s. absurd (true≢false (sym s));
      functions = λ f t q s. absurd (true≢false (sym (root_false t A.AnyFunc A.I31 (func_kind o.types t (funcs.typed f t q).0 (funcs.typed f t q).1) s)));
      hosts = λ k s. absurd (true≢false (sym s));
      externals = λ k s. absurd (true≢false (sym s));
      forms = λ w q s. absurd (true≢false (sym s));
    })

    pub any_array_is : (P : Value → Type 0) (n : Bool) (v : Value) → P null → ((a : ℕ) (u : Object) → slice_get st.arrays a ≡ Some u → P (array a)) → fits_ref o (allocated st) (record { null = n; heap = H.Abs A.AnyArray }) v ≡ true → P v
    unfolding is_sub line
    any_array_is P n v pn pa = reference_cases P (record { null = n; heap = H.Abs A.AnyArray }) v (λ t. pn) (record {
      unboxed = λ k s. absurd (true≢false (sym s));
      structs = λ a u q f s. absurd (true≢false (sym (root_false u.type A.AnyStruct A.AnyArray (struct_kind o.types u.type f.fields f.found) s)));
      arrays = λ a u q f s. pa a u q;
      exceptions = λ a l s. absurd (true≢false (sym s));
      functions = λ f t q s. absurd (true≢false (sym (root_false t A.AnyFunc A.AnyArray (func_kind o.types t (funcs.typed f t q).0 (funcs.typed f t q).1) s)));
      hosts = λ k s. absurd (true≢false (sym s));
      externals = λ k s. absurd (true≢false (sym s));
      forms = λ w q s. absurd (true≢false (sym s));
    })

    pub exception_is : (P : Value → Type 0) (n : Bool) (v : Value) → P null → ((a : ℕ) → nat_lt a (length st.exceptions) ≡ true → P (exception a)) → fits_ref o (allocated st) (record { null = n; heap = H.Abs A.Exn }) v ≡ true → P v
    unfolding is_sub line
    exception_is P n v pn pa = reference_cases P (record { null = n; heap = H.Abs A.Exn }) v (λ t. pn) (record {
      unboxed = λ k s. absurd (true≢false (sym s));
      structs = λ a u q f s. absurd (true≢false (sym (root_false u.type A.AnyStruct A.Exn (struct_kind o.types u.type f.fields f.found) s)));
      arrays = λ a u q f s. absurd (true≢false (sym (root_false u.type A.AnyArray A.Exn (array_kind o.types u.type f.field f.found) s)));
      exceptions = λ a l s. pa a l;
      functions = λ f t q s. absurd (true≢false (sym (root_false t A.AnyFunc A.Exn (func_kind o.types t (funcs.typed f t q).0 (funcs.typed f t q).1) s)));
      hosts = λ k s. absurd (true≢false (sym s));
      externals = λ k s. absurd (true≢false (sym s));
      forms = λ w q s. absurd (true≢false (sym s));
    })

    -- a function of a type below another, and null
    pub function_is : (P : Value → Type 0) (x : ℕ) (ft : FuncType) (n : Bool) (v : Value) → func_type o.types x ≡ Some ft → P null → ((f t : ℕ) → slice_get o.funcs f ≡ Some t → is_sub o.types (H.Idx t) (H.Idx x) ≡ true → P (function f)) → fits_ref o (allocated st) (record { null = n; heap = H.Idx x }) v ≡ true → P v
    function_is P x ft n v e pn pf = reference_cases P (record { null = n; heap = H.Idx x }) v (λ t. pn) (record {
      unboxed = λ k s. absurd (good.abstract A.I31 x refl s);
      structs = λ a u q f s. absurd (struct_no_func o.types u.type f.fields (good.funcs u.type x ft s e).type f.found (good.funcs u.type x ft s e).found);
      arrays = λ a u q f s. absurd (array_no_func o.types u.type f.field (good.funcs u.type x ft s e).type f.found (good.funcs u.type x ft s e).found);
      exceptions = λ a l s. absurd (good.abstract A.Exn x refl s);
      functions = pf;
      hosts = λ k s. absurd (good.abstract A.Any x refl s);
      externals = λ k s. absurd (good.abstract A.Extern x refl s);
      forms = λ w q s. absurd (good.abstract A.Extern x refl s);
    })
