-- The moves that come end as what is due says, where the level below is good.
use Rattle.std.proofs.Common.{ℕ, zero, suc, Bool, true, false, ◌||◌, cond, List, [], ◌∷◌, map, reverse, Option, Some, None, slice_get, nat_lt, nat_eq, position, ◌≡◌, refl, ap, ◌∙◌, sym, subst, true≢false, arith}
use Rattle.std.proofs.lemmas.Option.{same_Some, none-some}
use Rattle.std.specs.List.{list_any}
use Rattle.std.specs.Option.{option_map}
use Rattle.gu_types.specs.declared.types.Abs.TheVariants as A
use Rattle.gu_types.specs.declared.types.HeapType.TheVariants as H
use Rattle.gu_types.specs.declared.types.RefType.{RefType}
use Rattle.gu_types.specs.declared.types.ValType.{ValType}
use Rattle.gu_syntax.specs.declared.module.Kind.TheVariants as D
use Rattle.gu_model.specs.Index.{FuncType, numbers, is_tag}
use Rattle.gu_model.specs.Outline.{Outline, type_of_func, type_of_tag}
use Rattle.gu_model.specs.Value.{Value, exception, Identity, own, foreign, Exception, Store, Allocated, allocated, is_same_tag, is_under}
use Rattle.gu_model.specs.Aggregates.{joined}
use Rattle.gu_model.specs.Script.{Token, Given, TagName, Move, Act, What}
use Rattle.gu_model.specs.State.{Core, State, How, normal, branch, return, tail, thrown, trap, spent, over, wrong, foul, Out, out, at, with_store}
use Rattle.gu_model.specs.Shown.{exported, tell, tell_exception}
use Rattle.gu_model.specs.Taken.{known, taken, taken_all, written}
use Rattle.gu_model.specs.Control.{Due, nothing, results, Level, serve}
use Rattle.gu_model.specs.Play.{Ended, ended, end_with, raised, an_exception, exception_in, params_of, or_foul, given_for, tag_at, tag_named, thrown_by, ends_call, shown, shown_on, do_export, do_move, do_moves}
use Rattle.gu_model.specs.TypingContext.{Context, matches}
use Rattle.gu_model.specs.TypingShape.{of}
use Rattle.gu_model.specs.ValidContext.{entries_type}
use Rattle.gu_model.proofs.GoodTypes.{GoodTypes}
use Rattle.gu_model.proofs.Has.{Has, HasAll, all_reverse, all_matches}
use Rattle.gu_model.proofs.Stores.{StoreFits, Later, later_same}
use Rattle.gu_model.proofs.ActRows.{within_module}
use Rattle.gu_model.proofs.References.{GoodFuncs}
use Rattle.gu_model.proofs.Calls.{EndHow, GoodEnters, GoodEnd, exception_later, less_append}
use Rattle.gu_model.proofs.Plays.{and_then_some, written_good, taken_has}
use Rattle.gu_model.proofs.Enters.{due_types, GoodLevel}

pub joined_some : {X : Type 0} (p : Option X) (q : Option (List X)) (e : List X) → joined p q ≡ Some e → (x : X) × (xs : List X) × (p ≡ Some x) × (q ≡ Some xs) × (x ∷ xs ≡ e)
joined_some None q e h = absurd (none-some e h)
joined_some (Some x) None e h = absurd (none-some e h)
joined_some (Some x) (Some xs) e h = (x, xs, refl, refl, same_Some _ _ h)

pub map_some : {X Y : Type 0} (f : X → Y) (p : Option X) (y : Y) → option_map f p ≡ Some y → (x : X) × (p ≡ Some x) × (f x ≡ y)
map_some f None y h = absurd (none-some y h)
map_some f (Some x) y h = (x, refl, same_Some _ _ h)

neither : (a b : Bool) → (a || b) ≡ false → (a ≡ false) × (b ≡ false)
neither true b h = absurd (true≢false h)
neither false b h = (refl, h)

-- what a test that nothing passes says of each
none_passes : {X : Type 0} (test : X → Bool) (xs : List X) (i : ℕ) (x : X) → list_any test xs ≡ false → slice_get xs i ≡ Some x → test x ≡ true → ⊥
none_passes test [] i x h e t = none-some x e
none_passes test (y ∷ xs) zero x h e t = true≢false (sym t ∙ ap test (sym (same_Some _ _ e)) ∙ (neither (test y) (list_any test xs) h).0)
none_passes test (y ∷ xs) (suc i) x h e t = none_passes test xs i x (neither (test y) (list_any test xs) h).1 e t

same_back : (id : Identity) (n : ℕ) → is_same_tag id (foreign n) ≡ true → is_same_tag (foreign n) id ≡ true
same_back (own k) n h = absurd (true≢false (sym h))
same_back (foreign k) n h = grind (arith, h)

module _ (o : Outline) (good : GoodTypes o.types) (funcs : GoodFuncs o) (es : List RefType) (segs : ℕ) (declared : List Bool) where
  abbrev K : Context
  K = within_module o o.globals (map entries_type o.tables) es segs declared

  abbrev EndOf : Option (List ValType) → Store → Out → Type 0
  EndOf w b p = GoodEnd o good funcs o.globals (map entries_type o.tables) es segs declared w b p

  abbrev HowOf : Option (List ValType) → How → Core → Type 0
  HowOf w h c = EndHow o good funcs o.globals (map entries_type o.tables) es segs declared w h c

  end_later : (w : Option (List ValType)) (a b : Store) (p : Out) → Later o K a b → EndOf w b p → EndOf w a p
  end_later w a b p l e = record { later = Rattle.gu_model.proofs.Moments.later_then o good K l e.later; is = e.is }

  -- what may always be
  foul_end : (w : Option (List ValType)) (b : Store) (s : State) → Later o K b s.core.store → EndOf w b (out foul s)
  foul_end None b s l = record { later = l; is = tt }
  foul_end (Some us) b s l = record { later = l; is = tt }

  over_end : (w : Option (List ValType)) (b : Store) (s : State) → Later o K b s.core.store → EndOf w b (out over s)
  over_end None b s l = record { later = l; is = tt }
  over_end (Some us) b s l = record { later = l; is = tt }

  spent_end : (w : Option (List ValType)) (b : Store) (s : State) → Later o K b s.core.store → EndOf w b (out spent s)
  spent_end None b s l = record { later = l; is = tt }
  spent_end (Some us) b s l = record { later = l; is = tt }

  or_foul_end : {X : Type 0} (w : Option (List ValType)) (p : Option X) (s : State) (go : X → Out) → StoreFits o K s.core.store → ((x : X) → p ≡ Some x → EndOf w s.core.store (go x)) → EndOf w s.core.store (or_foul o p s go)
  unfolding or_foul
  or_foul_end w None s go sf k = foul_end w s.core.store (tell o [] (λ ts. What.Foul) s) (later_same o K s.core.store sf)
  or_foul_end w (Some x) s go sf k = k x refl

  -- what is given

  taken_all_has : (find : Token → Option Value) (al : Allocated) (us : List ValType) (gs : List Given) (vs : List Value) → taken_all o find al us gs ≡ Some vs → HasAll o al vs (map of us)
  taken_all_has find al [] [] vs h = subst (λ vs. HasAll o al vs []) (same_Some _ _ h) tt
  taken_all_has find al [] (g ∷ gs) vs h = absurd (none-some vs h)
  taken_all_has find al (u ∷ us) [] vs h = absurd (none-some vs h)
  taken_all_has find al (u ∷ us) (g ∷ gs) vs h = let j = joined_some (taken o find al u g) (taken_all o find al us gs) vs h in subst (λ vs. HasAll o al vs (map of (u ∷ us))) j.4 (taken_has o good funcs es segs declared find al u g j.0 j.2, taken_all_has find al us gs j.1 j.3)

  -- arguments for the parameters of a type that is there
  params_given : (p : Option FuncType) (gs : List Given) (tokens : List Value) (st : Store) (vs : List Value) → given_for o (params_of p) gs tokens st ≡ Some vs → (t : FuncType) × (p ≡ Some t) × HasAll o (allocated st) vs (map of t.params)
  params_given None gs tokens st vs h = absurd (none-some vs h)
  params_given (Some t) gs tokens st vs h = (t, refl, taken_all_has (known o tokens) (allocated st) t.params gs vs h)

  -- tags

  -- what a tag takes is below what each tag of the module that is the same takes
  abbrev TagGood : Store → Identity × List ValType → Type 0
  TagGood st tag = (t : ℕ) (id : Identity) (f : FuncType) → slice_get st.tags t ≡ Some id → is_same_tag id tag.0 ≡ true → type_of_tag o t ≡ Some f → matches o.types tag.1 f.params ≡ true

  tag_at_good : (st : Store) (x : ℕ) (tag : Identity × List ValType) → StoreFits o K st → tag_at o st x ≡ Some tag → TagGood st tag
  tag_at_good st x tag sf h = let q = and_then_some (λ id. option_map (λ ts. (id, ts)) (params_of (type_of_tag o x))) (slice_get st.tags x) tag h in by q.0 q.1 (type_of_tag o x) refl q.2
    where
      by : (id : Identity) → slice_get st.tags x ≡ Some id → (p : Option FuncType) → type_of_tag o x ≡ p → option_map (λ ts. (id, ts)) (params_of p) ≡ Some tag → TagGood st tag
      by id q None e z = absurd (none-some tag z)
      by id q (Some g) e z = subst (TagGood st) (same_Some _ _ z) (λ t i f w s y. sf.alike t x i id f g w q s y e)

  named_good : (st : Store) (name : TagName) (tag : Identity × List ValType) → StoreFits o K st → tag_named o st name ≡ Some tag → TagGood st tag
  named_good st (TagName.Import i) tag sf h = let q = and_then_some (tag_at o st) (position (nat_eq i) (numbers is_tag 0 o.imports)) tag h in tag_at_good st q.0 tag sf q.2
  named_good st (TagName.Export e) tag sf h = let q = and_then_some (tag_at o st) (exported D.Tag (slice_get o.exports e)) tag h in tag_at_good st q.0 tag sf q.2
  named_good st (TagName.Host n) tag sf h = by (list_any (is_same_tag (foreign n)) st.tags) refl h
    where
      by : (b : Bool) → list_any (is_same_tag (foreign n)) st.tags ≡ b → cond b None (Some (foreign n, [])) ≡ Some tag → TagGood st tag
      by true q z = absurd (none-some tag z)
      by false q z = subst (TagGood st) (same_Some _ _ z) (λ t id f w s y. absurd (none_passes (is_same_tag (foreign n)) st.tags t id q w (same_back id n s)))

  -- how a move may end the call of an import

  record EndedGood (us : List ValType) (b : Store) (e : Ended) : Type 0 where
    later : Later o K b e.store
    is : HowOf (Some us) e.how (record { locals = []; stack = e.stack; store = e.store })

  raised_good : (us : List ValType) (st : Store) (tag : Identity × List ValType) (vs : List Value) → StoreFits o K st → TagGood st tag → HasAll o (allocated st) vs (map of tag.1) → EndedGood us st (raised st tag.0 vs)
  raised_good us st tag vs sf g h = record {
    later = exception_later o good funcs o.globals (map entries_type o.tables) es segs declared st (record { tag = tag.0; arguments = vs }) sf (record { hold = λ t id f w s y. all_matches o good (allocated st) vs tag.1 f.params (g t id f w s y) h });
    is = less_append o good funcs o.globals (map entries_type o.tables) es segs declared st.exceptions (record { tag = tag.0; arguments = vs });
  }

  exception_there : (al : Allocated) (p : Option Value) (a : ℕ) → ((v : Value) → p ≡ Some v → Has o al an_exception v) → exception_in p ≡ Some a → nat_lt a al.exceptions ≡ true
  exception_there al (Some (exception x)) a k h = by (nat_lt x al.exceptions) refl (k (exception x) refl)
    where
      by : (b : Bool) → nat_lt x al.exceptions ≡ b → is_under o (H.Abs A.Exn) (cond b (Some (H.Abs A.Exn)) None) ≡ true → nat_lt a al.exceptions ≡ true
      by true q z = subst (λ y. nat_lt y al.exceptions ≡ true) (same_Some _ _ h) q
      by false q z = absurd (true≢false (sym z))
  exception_there al p a k h = absurd (none-some a h)

  ended_good : (us : List ValType) (act : Act) (tokens : List Value) (st : Store) (e : Ended) → StoreFits o K st → ends_call o (results us) act tokens st ≡ Some e → EndedGood us st e
  ended_good us (Act.Return gs) tokens st e sf h = let q = map_some (λ vs. ended normal (reverse vs) st) (given_for o (Some us) gs tokens st) e h in subst (EndedGood us st) q.2 (record { later = later_same o K st sf; is = all_reverse o (allocated st) q.0 us (taken_all_has (known o tokens) (allocated st) us gs q.0 q.1) })
  ended_good us Act.Trap tokens st e sf h = subst (EndedGood us st) (same_Some _ _ h) (record { later = later_same o K st sf; is = tt })
  ended_good us (Act.Throw name gs) tokens st e sf h = by (tag_named o st name) refl h
    where
      by : (p : Option (Identity × List ValType)) → tag_named o st name ≡ p → thrown_by o p gs tokens st ≡ Some e → EndedGood us st e
      by None q z = absurd (none-some e z)
      by (Some tag) q z = let r = map_some (raised st tag.0) (given_for o (Some tag.1) gs tokens st) e z in subst (EndedGood us st) r.2 (raised_good us st tag r.0 sf (named_good st name tag sf q) (taken_all_has (known o tokens) (allocated st) tag.1 gs r.0 r.1))
  ended_good us (Act.Again token) tokens st e sf h = let q = map_some (λ a. ended (thrown a) [] st) (exception_in (taken o (known o tokens) (allocated st) an_exception (Given.Ref token))) e h in subst (EndedGood us st) q.2 (record { later = later_same o K st sf; is = exception_there (allocated st) (taken o (known o tokens) (allocated st) an_exception (Given.Ref token)) q.0 (λ v z. taken_has o good funcs es segs declared (known o tokens) (allocated st) an_exception (Given.Ref token) v z) q.1 })
  ended_good us (Act.Call n gs) tokens st e sf h = absurd (none-some e h)
  ended_good us (Act.Answer b) tokens st e sf h = absurd (none-some e h)

  module _ (enters : ℕ → State → Out) (ge : GoodEnters o good funcs o.globals (map entries_type o.tables) es segs declared enters) (low : Level) (level : GoodLevel o good funcs es segs declared low) where
    -- an export's call has ended
    shown_good : (w : Due) (us : List ValType) (b : Store) (p : Out) → EndOf (Some us) b p → EndOf (due_types w) b (shown o enters low w p)
    shown_good w us b p e = by p.how p.state e.later e.is
      where
        told : (x : ℕ) (s : State) → StoreFits o K s.core.store → (p : Option Exception) → EndOf (due_types w) s.core.store (low (serve w) (tell_exception o What.Thrown x p s))
        told x s sf None = level.serves w (tell_exception o What.Thrown x None s) sf
        told x s sf (Some y) = level.serves w (tell_exception o What.Thrown x (Some y) s) sf

        by : (h : How) (v : State) → Later o K b v.core.store → HowOf (Some us) h v.core → EndOf (due_types w) b (shown_on o enters low w h v)
        by normal v l i = end_later (due_types w) b v.core.store _ l (level.serves w _ l.fits)
        by trap v l i = end_later (due_types w) b v.core.store _ l (level.serves w _ l.fits)
        by (thrown x) v l i = end_later (due_types w) b v.core.store _ l (told x (at v [] []) l.fits (slice_get v.core.store.exceptions x))
        by spent v l i = spent_end (due_types w) b v l
        by over v l i = over_end (due_types w) b v l
        by foul v l i = foul_end (due_types w) b v l
        by (branch k) v l i = absurd i
        by return v l i = absurd i
        by (tail f) v l i = absurd i
        by wrong v l i = absurd i

    export_good : (w : Due) (f : Option ℕ) (gs : List Given) (s u : State) → StoreFits o K s.core.store → Later o K s.core.store u.core.store → EndOf (due_types w) s.core.store (do_export o enters low w f gs s u)
    export_good w f gs s u sf l =
        or_foul_end (due_types w) f s (λ g. or_foul o (given_for o (params_of (type_of_func o g)) gs u.tokens u.core.store) s (λ vs. shown o enters low w (enters g (at u [] (reverse vs))))) sf (λ g q.
        or_foul_end (due_types w) (given_for o (params_of (type_of_func o g)) gs u.tokens u.core.store) s (λ vs. shown o enters low w (enters g (at u [] (reverse vs)))) sf (λ vs z.
        let t = params_given (type_of_func o g) gs u.tokens u.core.store vs z in
        end_later (due_types w) s.core.store u.core.store _ l (shown_good w t.0.results u.core.store (enters g (at u [] (reverse vs))) (ge.ends g t.0 (at u [] (reverse vs)) t.1 (all_reverse o (allocated u.core.store) vs t.0.params t.2) l.fits))))

    ends_good : (w : Due) (act : Act) (s u : State) → StoreFits o K s.core.store → Later o K s.core.store u.core.store → EndOf (due_types w) s.core.store (or_foul o (ends_call o w act u.tokens u.core.store) s (end_with u))
    ends_good w act s u sf l = or_foul_end (due_types w) (ends_call o w act u.tokens u.core.store) s (end_with u) sf (λ e z. by w e z)
      where
        by : (w : Due) (e : Ended) → ends_call o w act u.tokens u.core.store ≡ Some e → EndOf (due_types w) s.core.store (end_with u e)
        by nothing e z = absurd (none-some e z)
        by (results us) e z = let g = ended_good us act u.tokens u.core.store e l.fits z in end_later (Some us) s.core.store u.core.store (end_with u e) l (record { later = g.later; is = g.is })

    move_good : (w : Due) (act : Act) (s u : State) → StoreFits o K s.core.store → Later o K s.core.store u.core.store → EndOf (due_types w) s.core.store (do_move o enters low w act s u)
    move_good w (Act.Call e gs) s u sf l = export_good w (exported D.Func (slice_get o.exports e)) gs s u sf l
    move_good w (Act.Return gs) s u sf l = ends_good w (Act.Return gs) s u sf l
    move_good w Act.Trap s u sf l = ends_good w Act.Trap s u sf l
    move_good w (Act.Throw name gs) s u sf l = ends_good w (Act.Throw name gs) s u sf l
    move_good w (Act.Again token) s u sf l = ends_good w (Act.Again token) s u sf l
    move_good w (Act.Answer b) s u sf l = ends_good w (Act.Answer b) s u sf l

    -- the moves that come
    pub moves_good : (w : Due) (ms : List Move) (s : State) → StoreFits o K s.core.store → EndOf (due_types w) s.core.store (do_moves o enters low w ms s)
    moves_good w [] s sf = over_end (due_types w) s.core.store s (later_same o K s.core.store sf)
    moves_good w (move ∷ ms) s sf = or_foul_end (due_types w) (written o s.tokens move.writes s.core.store) s (λ st. do_move o enters low w move.act s (with_store (record s { moves = ms }) st)) sf (λ st z. move_good w move.act s (with_store (record s { moves = ms }) st) sf (written_good o good funcs es segs declared s.tokens move.writes s.core.store st sf z))
