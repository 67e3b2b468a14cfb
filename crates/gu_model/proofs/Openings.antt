-- A store that an opening gives fits what is imported.
use Rattle.std.proofs.Common.{ℕ, zero, suc, ◌+◌, Bool, true, false, not, ◌||◌, ◌&&◌, cond, List, [], ◌∷◌, ◌++◌, map, length, Option, Some, None, slice_get, nat_eq, nat_lt, ◌≡◌, refl, ap, ◌∙◌, sym, subst, true≢false, arith}
use Rattle.std.proofs.lemmas.List.{length-map, length-append}
use Rattle.std.proofs.lemmas.Option.{same_Some, none-some}
use Rattle.gu_types.specs.declared.types.ValType.{ValType}
use Rattle.gu_types.specs.declared.types.ValType.TheVariants.{Ref}
use Rattle.gu_rec.specs.Tests.{same_type}
use Rattle.gu_syntax.specs.declared.module.Limits.{Limits}
use Rattle.gu_model.specs.Index.{FuncType, func_type, func_type_in, TableType, imported, as_global, as_memory, as_table, as_tag}
use Rattle.gu_model.specs.Outline.{Outline, type_of_tag}
use Rattle.gu_model.specs.Value.{Value, Identity, own, foreign, Store, is_same_tag}
use Rattle.gu_model.specs.Script.{Given, Opening}
use Rattle.gu_model.specs.Taken.{known_early, taken, taken_each, agrees, all_agree, nothing_allocated, opened_each, as_constant, as_variable, all_as, own_tags, new_memory, opened_global, opened_table, opened_memory, opened_tags, store_of, opened, is_size, most_entries}
use Rattle.gu_model.specs.TypingContext.{Context, matches}
use Rattle.gu_model.specs.ValidContext.{entries_type}
use Rattle.gu_model.proofs.GoodTypes.{GoodTypes}
use Rattle.gu_model.proofs.Has.{Has, and_first, and_second}
use Rattle.gu_model.proofs.Stores.{StoreFits, EachHas, GlobalsFit, RefsFit}
use Rattle.gu_model.proofs.ActRows.{within_module}
use Rattle.gu_model.proofs.References.{GoodFuncs}
use Rattle.gu_model.proofs.Calls.{matches_self}
use Rattle.gu_model.proofs.Plays.{and_then_some, cond_some, taken_has}
use Rattle.gu_model.proofs.Serves.{joined_some, map_some}

-- the identities of tags, those of the embedder first

own_at : (n count t : ℕ) (i : Identity) → slice_get (own_tags n count) t ≡ Some i → i ≡ own (n + t)
own_at n zero t i e = absurd (none-some i e)
own_at n (suc k) zero i e = sym (same_Some _ _ e) ∙ ap own (let z : n ≡ n + 0 = omega arith in z)
own_at n (suc k) (suc t) i e = own_at (suc n) k t i e ∙ ap own (let z : suc n + t ≡ n + suc t = omega arith in z)

own_length : (n count : ℕ) → length (own_tags n count) ≡ count
own_length n zero = refl
own_length n (suc k) = ap suc (own_length (suc n) k)

data TagAt (ns : List ℕ) (t : ℕ) (i : Identity) : Type 0 where
  outer : (k : ℕ) → slice_get ns t ≡ Some k → i ≡ foreign k → TagAt ns t i
  inner : (k : ℕ) → t ≡ length ns + k → i ≡ own k → TagAt ns t i

tag_at : (ns : List ℕ) (count t : ℕ) (i : Identity) → slice_get (map foreign ns ++ own_tags 0 count) t ≡ Some i → TagAt ns t i
tag_at [] count t i e = inner t (let z : t ≡ 0 + t = omega arith in z) (own_at 0 count t i e ∙ ap own (let z : 0 + t ≡ t = omega arith in z))
tag_at (n ∷ ns) count zero i e = outer n refl (sym (same_Some _ _ e))
tag_at (n ∷ ns) count (suc t) i e = elim (tag_at ns count t i e) as (λ _. TagAt (n ∷ ns) (suc t) i) [
  | outer k f z ↦ outer k f z
  | inner k f z ↦ inner k (let y : suc t ≡ suc (length ns) + k = omega (arith, f) in y) z
]

-- the types of tags with one number
module _ (o : Outline) (flip : (i j : ℕ) → same_type o.types i o.types j ≡ true → same_type o.types j o.types i ≡ true) where
  agrees_at : (ty n : ℕ) (ts ns : List ℕ) (u b : ℕ) → agrees o ty n ts ns ≡ true → slice_get ts u ≡ Some b → slice_get ns u ≡ Some n → same_type o.types ty o.types b ≡ true
  agrees_at ty n [] ns u b h e f = absurd (none-some b e)
  agrees_at ty n (t ∷ ts) [] u b h e f = absurd (none-some n f)
  agrees_at ty n (t ∷ ts) (k ∷ ks) zero b h e f = by (nat_eq n k) (let z : n ≡ k = sym (same_Some _ _ f) in let y : nat_eq n k ≡ true = grind (arith, z) in y) (and_first (not (nat_eq n k) || same_type o.types ty o.types t) _ h)
    where
      by : (c : Bool) → c ≡ true → (not c || same_type o.types ty o.types t) ≡ true → same_type o.types ty o.types b ≡ true
      by true q z = subst (λ b. same_type o.types ty o.types b ≡ true) (same_Some _ _ e) z
      by false q z = absurd (true≢false (sym q))
  agrees_at ty n (t ∷ ts) (k ∷ ks) (suc u) b h e f = agrees_at ty n ts ks u b (and_second (not (nat_eq n k) || same_type o.types ty o.types t) _ h) e f

  -- two different tags with one number
  one_number : (ts ns : List ℕ) (t u a b n : ℕ) → all_agree o ts ns ≡ true → slice_get ts t ≡ Some a → slice_get ts u ≡ Some b → slice_get ns t ≡ Some n → slice_get ns u ≡ Some n → ((t ≡ u → ⊥)) → same_type o.types a o.types b ≡ true
  one_number [] ns t u a b n h e f g k d = absurd (none-some a e)
  one_number (x ∷ ts) [] t u a b n h e f g k d = absurd (none-some n g)
  one_number (x ∷ ts) (y ∷ ns) zero zero a b n h e f g k d = absurd (d refl)
  one_number (x ∷ ts) (y ∷ ns) zero (suc u) a b n h e f g k d = subst (λ a. same_type o.types a o.types b ≡ true) (same_Some _ _ e) (agrees_at x y ts ns u b (and_first (agrees o x y ts ns) _ h) f (k ∙ sym g))
  one_number (x ∷ ts) (y ∷ ns) (suc t) zero a b n h e f g k d = flip b a (subst (λ b. same_type o.types b o.types a ≡ true) (same_Some _ _ f) (agrees_at x y ts ns t a (and_first (agrees o x y ts ns) _ h) e (g ∙ sym k)))
  one_number (x ∷ ts) (y ∷ ns) (suc t) (suc u) a b n h e f g k d = one_number ts ns t u a b n (and_second (agrees o x y ts ns) _ h) e f g k (λ z. d (ap suc z))

module _ (o : Outline) (flip : (i j : ℕ) → same_type o.types i o.types j ≡ true → same_type o.types j o.types i ≡ true) (good : GoodTypes o.types) (funcs : GoodFuncs o) (segs : ℕ) (declared : List Bool) where
  abbrev In : Context
  In = within_module o (imported as_global o.imports) (map entries_type (imported as_table o.imports)) [] segs declared

  -- what is given for each import of a kind

  each_length : {X Y Z : Type 0} (f : X → Y → Option Z) (xs : List X) (ys : List Y) (zs : List Z) → opened_each f xs ys ≡ Some zs → length zs ≡ length xs
  each_length f [] [] zs h = ap length (sym (same_Some _ _ h))
  each_length f [] (y ∷ ys) zs h = absurd (none-some zs h)
  each_length f (x ∷ xs) [] zs h = absurd (none-some zs h)
  each_length f (x ∷ xs) (y ∷ ys) zs h = let j = joined_some (f x y) (opened_each f xs ys) zs h in ap length (sym j.4) ∙ ap suc (each_length f xs ys j.1 j.3)

  global_fits : (g : ValType × Bool) (b : Bool) (v : Value) → g.1 ≡ b → Has o nothing_allocated g.0 v → GlobalsFit o nothing_allocated (as_constant b v ∷ []) (as_variable b v ∷ []) (g ∷ [])
  global_fits g true v e h = ((h, e), tt)
  global_fits g false v e h = ((h, e), tt)

  globals_fit : (gs : List (ValType × Bool)) (given : List Given) (vs : List Value) → opened_each (opened_global o) gs given ≡ Some vs → GlobalsFit o nothing_allocated (all_as as_constant gs vs) (all_as as_variable gs vs) gs
  globals_fit [] [] vs h = subst (λ vs. GlobalsFit o nothing_allocated (all_as as_constant [] vs) (all_as as_variable [] vs) []) (same_Some _ _ h) tt
  globals_fit [] (y ∷ ys) vs h = absurd (none-some vs h)
  globals_fit (g ∷ gs) [] vs h = absurd (none-some vs h)
  globals_fit (g ∷ gs) (y ∷ ys) vs h = let j = joined_some (opened_global o g y) (opened_each (opened_global o) gs ys) vs h in subst (λ vs. GlobalsFit o nothing_allocated (all_as as_constant (g ∷ gs) vs) (all_as as_variable (g ∷ gs) vs) (g ∷ gs)) j.4 (by g.1 refl j.0 (taken_has o good funcs [] segs declared (known_early o) nothing_allocated g.0 y j.0 j.2) j.1 (globals_fit gs ys j.1 j.3))
    where
      by : (b : Bool) → g.1 ≡ b → (v : Value) → Has o nothing_allocated g.0 v → (vs : List Value) → GlobalsFit o nothing_allocated (all_as as_constant gs vs) (all_as as_variable gs vs) gs → GlobalsFit o nothing_allocated (as_constant g.1 v ∷ all_as as_constant gs vs) (as_variable g.1 v ∷ all_as as_variable gs vs) (g ∷ gs)
      by b e v hv vs r = subst (λ c. GlobalsFit o nothing_allocated (as_constant c v ∷ all_as as_constant gs vs) (as_variable c v ∷ all_as as_variable gs vs) (g ∷ gs)) (sym e) (first b (global_fits g b v e hv))
        where
          first : (b : Bool) → GlobalsFit o nothing_allocated (as_constant b v ∷ []) (as_variable b v ∷ []) (g ∷ []) → GlobalsFit o nothing_allocated (as_constant b v ∷ all_as as_constant gs vs) (as_variable b v ∷ all_as as_variable gs vs) (g ∷ gs)
          first true q = (q.0, r)
          first false q = (q.0, r)

  entries_have : (t : ValType) (given : List Given) (vs : List Value) → taken_each o (known_early o) nothing_allocated t given ≡ Some vs → EachHas o nothing_allocated t vs
  entries_have t [] vs h = subst (EachHas o nothing_allocated t) (same_Some _ _ h) tt
  entries_have t (g ∷ gs) vs h = let j = joined_some (taken o (known_early o) nothing_allocated t g) (taken_each o (known_early o) nothing_allocated t gs) vs h in subst (EachHas o nothing_allocated t) j.4 (taken_has o good funcs [] segs declared (known_early o) nothing_allocated t g j.0 j.2, entries_have t gs j.1 j.3)

  table_has : (t : TableType) (given : List Given) (vs : List Value) → opened_table o t given ≡ Some vs → EachHas o nothing_allocated (Ref t.elem) vs
  table_has t given vs h = by (is_size most_entries t.limits (length given)) h
    where
      by : (b : Bool) → cond b (taken_each o (known_early o) nothing_allocated (Ref t.elem) given) None ≡ Some vs → EachHas o nothing_allocated (Ref t.elem) vs
      by true h = entries_have (Ref t.elem) given vs h
      by false h = absurd (none-some vs h)

  tables_fit : (ts : List TableType) (given : List (List Given)) (vss : List (List Value)) → opened_each (opened_table o) ts given ≡ Some vss → RefsFit o nothing_allocated vss (map entries_type ts)
  tables_fit [] [] vss h = subst (λ v. RefsFit o nothing_allocated v []) (same_Some _ _ h) tt
  tables_fit [] (y ∷ ys) vss h = absurd (none-some vss h)
  tables_fit (t ∷ ts) [] vss h = absurd (none-some vss h)
  tables_fit (t ∷ ts) (y ∷ ys) vss h = let j = joined_some (opened_table o t y) (opened_each (opened_table o) ts ys) vss h in subst (λ v. RefsFit o nothing_allocated v (map entries_type (t ∷ ts))) j.4 (table_has t y j.0 j.2, tables_fit ts ys j.1 j.3)

  -- tags

  module _ (own_types : List ℕ) (tags_are : o.tags ≡ imported as_tag o.imports ++ own_types) (ns : List ℕ) (count : length (imported as_tag o.imports) ≡ length ns) (agree : all_agree o (imported as_tag o.imports) ns ≡ true) where
    front : {X : Type 0} (xs ys : List X) (t : ℕ) → nat_lt t (length xs) ≡ true → slice_get (xs ++ ys) t ≡ slice_get xs t
    front [] ys t h = absurd (let z : ⊥ = grind (arith, h) in z)
    front (x ∷ xs) ys zero h = refl
    front (x ∷ xs) ys (suc t) h = front xs ys t (grind (arith, h))

    get_less : {X : Type 0} (xs : List X) (t : ℕ) (x : X) → slice_get xs t ≡ Some x → nat_lt t (length xs) ≡ true
    get_less [] t x e = absurd (none-some x e)
    get_less (y ∷ xs) zero x e = let z : nat_lt 0 (suc (length xs)) ≡ true = grind arith in z
    get_less (y ∷ xs) (suc t) x e = let z = get_less xs t x e in grind (arith, z)

    -- the type of a tag that is imported
    record Outer (t n : ℕ) (f : FuncType) : Type 0 where
      type : ℕ
      found : slice_get (imported as_tag o.imports) t ≡ Some type
      is : func_type o.types type ≡ Some f

    outer_is : (t n : ℕ) (f : FuncType) → slice_get ns t ≡ Some n → type_of_tag o t ≡ Some f → Outer t n f
    outer_is t n f e h = by (slice_get (imported as_tag o.imports) t) refl (sym (ap (func_type_in o.types) (ap (λ l. slice_get l t) tags_are ∙ front (imported as_tag o.imports) own_types t (subst (λ k. nat_lt t k ≡ true) (sym count) (get_less ns t n e)))) ∙ h)
      where
        by : (p : Option ℕ) → slice_get (imported as_tag o.imports) t ≡ p → func_type_in o.types p ≡ Some f → Outer t n f
        by None q z = absurd (none-some f z)
        by (Some y) q z = record { type = y; found = q; is = z }

    itself : (t u : ℕ) (f g : FuncType) → t ≡ u → type_of_tag o t ≡ Some f → type_of_tag o u ≡ Some g → matches o.types g.params f.params ≡ true
    itself t u f g z e h = subst (λ x. matches o.types g.params x.params ≡ true) (same_Some g f (sym h ∙ ap (type_of_tag o) (sym z) ∙ e)) (matches_self o good funcs [] [] [] segs declared g.params)

    outer_alike : (t u n : ℕ) (f g : FuncType) → slice_get ns t ≡ Some n → slice_get ns u ≡ Some n → type_of_tag o t ≡ Some f → type_of_tag o u ≡ Some g → (b : Bool) → nat_eq t u ≡ b → matches o.types g.params f.params ≡ true
    outer_alike t u n f g e h x y true q = itself t u f g (let z : t ≡ u = grind (arith, q) in z) x y
    outer_alike t u n f g e h x y false q =
        let a = outer_is t n f e x in let b = outer_is u n g h y in
        let s = one_number o flip (imported as_tag o.imports) ns t u a.type b.type n agree a.found b.found e h (λ z. let w : ⊥ = grind (arith, q, z) in w) in
        let under = good.funcs a.type b.type g (good.same a.type b.type s) b.is in
        subst (λ x. matches o.types g.params x.params ≡ true) (same_Some under.type f (sym under.found ∙ a.is)) under.params

    tags_alike : (own_count t u : ℕ) (i j : Identity) (f g : FuncType) → slice_get (map foreign ns ++ own_tags 0 own_count) t ≡ Some i → slice_get (map foreign ns ++ own_tags 0 own_count) u ≡ Some j → is_same_tag i j ≡ true → type_of_tag o t ≡ Some f → type_of_tag o u ≡ Some g → matches o.types g.params f.params ≡ true
    tags_alike own_count t u i j f g e h s x y = by (tag_at ns own_count t i e) (tag_at ns own_count u j h)
      where
        by : TagAt ns t i → TagAt ns u j → matches o.types g.params f.params ≡ true
        by (outer k p a) (outer l q b) = let w : is_same_tag (foreign k) (foreign l) ≡ true = sym (ap (λ x. is_same_tag x (foreign l)) a) ∙ sym (ap (is_same_tag i) b) ∙ s in let z : l ≡ k = grind (arith, w) in outer_alike t u k f g p (q ∙ ap Some z) x y (nat_eq t u) refl
        by (outer k p a) (inner l q b) = absurd (true≢false (sym s ∙ ap (is_same_tag i) b ∙ ap (λ x. is_same_tag x (own l)) a))
        by (inner k p a) (outer l q b) = absurd (true≢false (sym s ∙ ap (is_same_tag i) b ∙ ap (λ x. is_same_tag x (foreign l)) a))
        by (inner k p a) (inner l q b) = let w : is_same_tag (own k) (own l) ≡ true = sym (ap (λ x. is_same_tag x (own l)) a) ∙ sym (ap (is_same_tag i) b) ∙ s in let z : k ≡ l = grind (arith, w) in itself t u f g (p ∙ ap (λ k. length ns + k) z ∙ sym q) x y

  -- the store of an opening
  pub opened_fits : (p : Opening) (datas : List (List ℕ)) (own_memories : List Limits) (own_types : List ℕ) (st : Store) → o.tags ≡ imported as_tag o.imports ++ own_types → o.memories ≡ imported as_memory o.imports ++ own_memories → length datas ≡ segs → opened o p datas own_memories (length own_types) ≡ Some st → StoreFits o In st
  opened_fits p datas own_memories own_types st tags_are memories_are count h =
      let gs = and_then_some _ (opened_each (opened_global o) (imported as_global o.imports) p.globals) st h in
      let ts = and_then_some _ (opened_each (opened_table o) (imported as_table o.imports) p.tables) st gs.2 in
      let ms = and_then_some _ (opened_each (opened_memory o) (imported as_memory o.imports) p.memories) st ts.2 in
      let ids = map_some _ (opened_tags o (imported as_tag o.imports) p.tags) st ms.2 in
      let c = cond_some (nat_eq (length (imported as_tag o.imports)) (length p.tags) && all_agree o (imported as_tag o.imports) p.tags) (map foreign p.tags) ids.0 ids.1 in
      fits gs.0 gs.1 ts.0 ts.1 ms.0 ms.1 ids.0 c.1 (and_first (nat_eq (length (imported as_tag o.imports)) (length p.tags)) _ c.0) (and_second (nat_eq (length (imported as_tag o.imports)) (length p.tags)) _ c.0) ids.2
    where
      stored : List Value → List (List Value) → List (List ℕ) → List Identity → Store
      stored gs ts ms ids = store_of o gs ts ms ids datas own_memories (length own_types)

      fits : (gs : List Value) → opened_each (opened_global o) (imported as_global o.imports) p.globals ≡ Some gs → (ts : List (List Value)) → opened_each (opened_table o) (imported as_table o.imports) p.tables ≡ Some ts → (ms : List (List ℕ)) → opened_each (opened_memory o) (imported as_memory o.imports) p.memories ≡ Some ms → (ids : List Identity) → map foreign p.tags ≡ ids → nat_eq (length (imported as_tag o.imports)) (length p.tags) ≡ true → all_agree o (imported as_tag o.imports) p.tags ≡ true → stored gs ts ms ids ≡ st → StoreFits o In st
      fits gs eg ts et ms em ids ei n agree z = subst (StoreFits o In) (ap (stored gs ts ms) ei ∙ z) (record {
        globals = globals_fit (imported as_global o.imports) p.globals gs eg;
        tables = tables_fit (imported as_table o.imports) p.tables ts et;
        elems = tt;
        memories = length-append ms (map new_memory own_memories) ∙ ap (λ k. k + length (map new_memory own_memories)) (each_length (opened_memory o) (imported as_memory o.imports) p.memories ms em) ∙ ap (λ k. length (imported as_memory o.imports) + k) (length-map own_memories new_memory) ∙ sym (length-append (imported as_memory o.imports) own_memories) ∙ ap length (sym memories_are);
        datas = count;
        tags = length-append (map foreign p.tags) (own_tags 0 (length own_types)) ∙ ap (λ k. k + length (own_tags 0 (length own_types))) (length-map p.tags foreign ∙ sym same_count) ∙ ap (λ k. length (imported as_tag o.imports) + k) (own_length 0 (length own_types)) ∙ sym (length-append (imported as_tag o.imports) own_types) ∙ ap length (sym tags_are);
        alike = λ t u i j f g. tags_alike own_types tags_are p.tags same_count agree (length own_types) t u i j f g;
        structs = λ a u e. absurd (none-some u e);
        arrays = λ a u e. absurd (none-some u e);
        exceptions = λ a x e. absurd (none-some x e);
      })
        where
          same_count : length (imported as_tag o.imports) ≡ length p.tags
          same_count = grind (arith, n)
