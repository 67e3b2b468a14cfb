-- Joining in all that the links of a system ask for, again and again, ends at the least solution.
use Rattle.std.proofs.Common.{◌≡◌, ◌⊎◌, ℕ, zero, suc, ◌+◌, ◌*◌, ◌<◌, ◌≤◌, Bool, true, false, cond, eqb, List, [], ◌∷◌, get_or, sym, refl, ap, ◌∙◌, subst, inl, inr, ⊎_elim, arith}
use Rattle.std.specs.Prelude.{All, flat_map}
use Rattle.std.proofs.lemmas.Bool.{eqb-true, eq-eqb, ne_eqb, cases_Bool, cases_eq, both_ways}
use Rattle.std.proofs.lemmas.List.Elements.{All-head, All-tail, All-cons, All-nil, All-append}
use Rattle.gu_contents.specs.declared.content.Content.{Content}
use Rattle.gu_contents.specs.declared.content.Content.TheVariants.{Empty}
use Rattle.gu_contents.specs.declared.facts.Facts.{Facts}
use Rattle.gu_contents.specs.Order.{AtMost, at_most}
use Rattle.gu_contents.specs.Join.{join}
use Rattle.gu_contents.specs.Rank.{rank}
use Rattle.gu_contents.specs.Belongs.{Belongs}
use Rattle.gu_contents.specs.Laws.{ContentsAreALattice, AnswersBelong}
use Rattle.gu_links.specs.declared.link.Link.{Link}
use Rattle.gu_links.specs.Gives.{Contents, Asked, gives}
use Rattle.gu_links.specs.Solutions.{AllBelong, IsBelow, IsMet}
use Rattle.gu_links.proofs.Lists.{all_front, all_back}
use Rattle.gu_links.proofs.Given.{IsKept, belonging_is_kept}

pub same_contents : (x y : Contents) → ((c : ℕ) → x c ≡ y c) → x ≡ y
same_contents x y h = λ i c. h c i

pub all_flat : {A B : Type 0} (P : A → Type 0) (Q : B → Type 0) (g : A → List B) → ((a : A) → P a → All Q (g a)) → (xs : List A) → All P xs → All Q (flat_map g xs)
all_flat P Q g h [] p = All-nil Q
all_flat P Q g h (a ∷ xs) p = All-append Q (g a) (flat_map g xs) (h a (All-head P a xs p)) (all_flat P Q g h xs (All-tail P a xs p))

pub all_pieces : {A B : Type 0} (Q : B → Type 0) (g : A → List B) (xs : List A) → All Q (flat_map g xs) → All (λ a. All Q (g a)) xs
all_pieces Q g [] q = All-nil (λ a. All Q (g a))
all_pieces Q g (a ∷ xs) q = All-cons (λ a. All Q (g a)) a xs (all_front Q (g a) (flat_map g xs) q) (all_pieces Q g xs (all_back Q (g a) (flat_map g xs) q))

-- what is asked for at a cell
unfoldable pub pick : ℕ → Asked → Content
pick c asked = cond (eqb asked.0 c) asked.1 Empty

-- the contents after all is joined in that is asked for
unfoldable pub raise : Facts → List Asked → Contents → Contents
raise f [] x c = x c
raise f (p ∷ ps) x c = join f (pick c p) (raise f ps x c)

-- all that the links ask for
unfoldable pub all_given : Facts → List Link → Contents → List Asked
all_given f links x = flat_map (λ link. gives f links link x) links

-- the ranks of the first cells, so many
unfoldable pub ranks : ℕ → Contents → ℕ
ranks zero x = 0
ranks (suc n) x = rank (x n) + ranks n x

module _ (f : Facts) (P : Content → Type 0) (kept : IsKept f P) where
  pick_kept : (b : Bool) (a : Content) → P a → P (cond b a Empty)
  pick_kept true a p = p
  pick_kept false a p = kept.empty_is

  pub raise_kept : (ps : List Asked) (x : Contents) → ((c : ℕ) → P (x c)) → All (λ (asked : Asked). P asked.1) ps → (c : ℕ) → P (raise f ps x c)
  unfolding raise pick
  raise_kept [] x h hs c = h c
  raise_kept (p ∷ ps) x h hs c = kept.join_is (cond (eqb p.0 c) p.1 Empty) (raise f ps x c) (pick_kept (eqb p.0 c) p.1 (All-head (λ (asked : Asked). P asked.1) p ps hs)) (raise_kept ps x h (All-tail (λ (asked : Asked). P asked.1) p ps hs) c)

module _ (f : Facts) (lattice : ContentsAreALattice f) (answers : AnswersBelong f) where
  abbrev HasContent : Asked → Type 0
  HasContent asked = Belongs f asked.1

  pub raise_belongs : (ps : List Asked) (x : Contents) → AllBelong f x → All HasContent ps → AllBelong f (raise f ps x)
  raise_belongs ps x hx hs = record { at = raise_kept f (Belongs f) (belonging_is_kept f lattice answers) ps x hx.at hs }

  picked : (c : ℕ) (p : Asked) → Belongs f p.1 → Belongs f (pick c p)
  unfolding pick
  picked c p h = pick_kept f (Belongs f) (belonging_is_kept f lattice answers) (eqb p.0 c) p.1 h

  pub below_trans : (x y z : Contents) → AllBelong f x → AllBelong f y → AllBelong f z → IsBelow f x y → IsBelow f y z → IsBelow f x z
  below_trans x y z hx hy hz p q = record { at = λ c. lattice.order.transitive (x c) (y c) (z c) (hx.at c) (hy.at c) (hz.at c) (p.at c) (q.at c) }

  pub raise_up : (ps : List Asked) (x : Contents) → AllBelong f x → All HasContent ps → IsBelow f x (raise f ps x)
  unfolding raise
  raise_up [] x hx hs = record { at = λ c. lattice.order.reflexive (x c) }
  raise_up (p ∷ ps) x hx hs =
      let hp = All-head HasContent p ps hs in let rest = All-tail HasContent p ps hs in
      let up = raise_up ps x hx rest in let hr = raise_belongs ps x hx rest in
      record {
        at = λ c. lattice.order.transitive (x c) (raise f ps x c) (join f (pick c p) (raise f ps x c)) (hx.at c) (hr.at c)
            (answers.join_does (pick c p) (raise f ps x c) (picked c p hp) (hr.at c)) (up.at c) (lattice.joins.second (pick c p) (raise f ps x c) (picked c p hp) (hr.at c));
      }

  pick_least : (b : Bool) (a y : Content) → (b ≡ true → AtMost f a y) → AtMost f (cond b a Empty) y
  pick_least true a y h = h refl
  pick_least false a y h = lattice.order.least y

  pub raise_least : (ps : List Asked) (x y : Contents) → AllBelong f x → AllBelong f y → All HasContent ps → IsBelow f x y → All (IsMet f y) ps → IsBelow f (raise f ps x) y
  unfolding raise pick
  raise_least [] x y hx hy hs below met = below
  raise_least (p ∷ ps) x y hx hy hs below met =
      let hp = All-head HasContent p ps hs in let rest = All-tail HasContent p ps hs in
      let lower = raise_least ps x y hx hy rest below (All-tail (IsMet f y) p ps met) in let hr = raise_belongs ps x hx rest in
      record {
        at = λ c. lattice.joins.least (pick c p) (raise f ps x c) (y c) (picked c p hp) (hr.at c) (hy.at c)
            (pick_least (eqb p.0 c) p.1 (y c) (λ e. subst (λ (d : ℕ). AtMost f p.1 (y d)) (eqb-true p.0 c e) (All-head (IsMet f y) p ps met))) (lower.at c);
      }

  met_up : (ps : List Asked) (x y : Contents) → AllBelong f x → AllBelong f y → All HasContent ps → IsBelow f x y → All (IsMet f x) ps → All (IsMet f y) ps
  met_up ps x y hx hy hs below met k d lt =
      let p = get_or ps k d in lattice.order.transitive p.1 (x p.0) (y p.0) (hs k d lt) (hx.at p.0) (hy.at p.0) (met k d lt) (below.at p.0)

  pub raise_met : (ps : List Asked) (x : Contents) → AllBelong f x → All HasContent ps → All (IsMet f (raise f ps x)) ps
  unfolding raise pick
  raise_met [] x hx hs = All-nil (IsMet f x)
  raise_met (p ∷ ps) x hx hs =
      let hp = All-head HasContent p ps hs in let rest = All-tail HasContent p ps hs in
      let r = raise f ps x in let hr = raise_belongs ps x hx rest in
      let up : IsBelow f r (raise f (p ∷ ps) x) = record { at = λ c. lattice.joins.second (pick c p) (r c) (picked c p hp) (hr.at c) } in
      All-cons (IsMet f (raise f (p ∷ ps) x)) p ps
      (subst (λ (b : Bool). AtMost f p.1 (join f (cond b p.1 Empty) (r p.0))) (sym (eq-eqb p.0 p.0 refl)) (lattice.joins.first p.1 (r p.0) hp (hr.at p.0)))
      (met_up ps r (raise f (p ∷ ps) x) hr (raise_belongs (p ∷ ps) x hx hs) rest up (raise_met ps x hx rest))

  -- behind the cells of a system nothing is raised
  pub raise_beyond : (count : ℕ) (ps : List Asked) (x : Contents) → All (λ (asked : Asked). asked.0 < count) ps → (c : ℕ) → count ≤ c → x c ≡ Empty → raise f ps x c ≡ Empty
  unfolding raise pick join
  raise_beyond count [] x h c far e = e
  raise_beyond count (p ∷ ps) x h c far e =
      let lt = All-head (λ (asked : Asked). asked.0 < count) p ps h in
      let ne : eqb p.0 c ≡ false = ne_eqb p.0 c (λ same. absurd (omega arith)) in
      ap (λ (b : Bool). join f (cond b p.1 Empty) (raise f ps x c)) ne ∙ raise_beyond count ps x (All-tail (λ (asked : Asked). asked.0 < count) p ps h) c far e

  -- two contents of which one is at most the other are the same, or the other stands higher
  pub alike : (a b : Content) → Belongs f a → Belongs f b → AtMost f a b → (a ≡ b) ⊎ (rank a < rank b)
  alike a b ha hb le = ⊎_elim
      (λ (e : at_most f b a ≡ true). inl (lattice.order.antisymmetric a b ha hb le (record { holds = e })))
      (λ (e : at_most f b a ≡ false). inr (lattice.ranks.rises a b ha hb le (λ s. both_ways (at_most f b a) e (subst (λ (c : Content). at_most f c a ≡ true) s (lattice.order.reflexive a).holds))))
      (cases_Bool (at_most f b a))

  pub rank_le : (a b : Content) → Belongs f a → Belongs f b → AtMost f a b → rank a ≤ rank b
  rank_le a b ha hb le = ⊎_elim (λ (e : a ≡ b). omega (arith, ap rank e)) (λ (l : rank a < rank b). omega arith) (alike a b ha hb le)

  ranks_le : (n : ℕ) (x y : Contents) → AllBelong f x → AllBelong f y → IsBelow f x y → ranks n x ≤ ranks n y
  unfolding ranks
  ranks_le zero x y hx hy h = omega arith
  ranks_le (suc n) x y hx hy h = omega (arith, rank_le (x n) (y n) (hx.at n) (hy.at n) (h.at n), ranks_le n x y hx hy h)

  pub ranks_most : (n : ℕ) (x : Contents) → AllBelong f x → ranks n x ≤ 70 * n
  unfolding ranks
  ranks_most zero x hx = omega arith
  ranks_most (suc n) x hx = omega (arith, lattice.ranks.most (x n) (hx.at n), ranks_most n x hx)

  pub stays_or_up : (n : ℕ) (x y : Contents) → AllBelong f x → AllBelong f y → IsBelow f x y → ((c : ℕ) → c < n → x c ≡ y c) ⊎ (ranks n x < ranks n y)
  unfolding ranks
  stays_or_up zero x y hx hy h = inl (λ c lt. absurd (omega arith))
  stays_or_up (suc n) x y hx hy h = ⊎_elim
      (λ (e : x n ≡ y n). ⊎_elim
      (λ (s : (c : ℕ) → c < n → x c ≡ y c). inl (λ c lt. ⊎_elim (λ (d : c ≡ n). ap x d ∙ (e ∙ ap y (sym d))) (λ (d : c ≡ n → ⊥). s c (omega arith)) (cases_eq c n)))
      (λ (l : ranks n x < ranks n y). inr (omega (arith, ap rank e)))
      (stays_or_up n x y hx hy h))
      (λ (l : rank (x n) < rank (y n)). inr (omega (arith, ranks_le n x y hx hy h)))
      (alike (x n) (y n) (hx.at n) (hy.at n) (h.at n))
