use Rattle.std.proofs.Common.{rules, ◌≡◌, ℕ, ◌+◌, ◌<◌, ◌^◌, List, [], ◌∷◌, ◌++◌, length, get_or, take, refl, ap, sym, ◌∙◌, subst, inl, inr, arith}
use Rattle.std.proofs.lemmas.List.{take_all}
use Rattle.gu_types.specs.declared.types.RecGroup.{RecGroup}
use Rattle.gu_rec.specs.declared.distinct.Distinct.{Distinct}
use Rattle.gu_rec.specs.Hashes.{hash_of}
use Rattle.gu_rec.specs.Keys.{key, key_at, types_at, bucket_of, Chains, IsFoundAt, IsAbsent}
use Rattle.gu_rec.proofs.Chained.{types_at_read, share_within, chains_push}
use Rattle.gu_rec.proofs.distinct.Table.first_of.Goals as goal
use Rattle.gu_rec.proofs.distinct.Table.first_of.Goals.{After-as_slice-types, In_ok-push}

-- the types that are read are those of the group
own : (c : After-as_slice-types) → c.as_slice-types.result.now ≡ types_at c.args.groups.now c.args.group
own c = c.as_slice-types.ensures ∙ (ap (λ (g : RecGroup). g.types) (sym c.index-groups-group.is) ∙ sym (types_at_read c.args.groups.now c.args.group c.index-groups-group.result c.requires.at c.index-groups-group.is))

few : (c : After-as_slice-types) → length c.as_slice-types.result.now < 2 ^ 32
few c = let f = c.requires.few in omega (arith, ap length (own c))

fit : (c : After-as_slice-types) → (k : ℕ) → k < length c.args.numbers.now → get_or c.args.numbers.now k 0 + length c.as_slice-types.result.now < 2 ^ 32
fit c = subst (λ n. (k : ℕ) → k < length c.args.numbers.now → get_or c.args.numbers.now k 0 + n < 2 ^ 32) (ap length (sym (own c))) c.requires.fit

-- what is kept of the group
entry : (c : In_ok-push) → Distinct
entry c = record { group = c.args.group; before = get_or c.args.self.now.lasts.items (bucket_of (length c.args.self.now.lasts.items) c.hash_types-hash.result) 0; hash = c.hash_types-hash.result; start = length c.args.numbers.now }

pub overflow_cast-types : goal.overflow_cast-types
overflow_cast-types c = let h = few c in search (rules, h)

pub hash_types-hash-requires : goal.hash_types-hash-requires
hash_types-hash-requires c = fit c

pub find-requires-clause-few : goal.find-requires-clause-few
find-requires-clause-few c = few ((goal.at.find-requires-clause-few c).After-as_slice-types)

pub find-requires-clause-fit : goal.find-requires-clause-fit
find-requires-clause-fit c = fit ((goal.at.find-requires-clause-fit c).After-as_slice-types)

pub returns-in-Some-clause-first : goal.returns-in-Some-clause-first
returns-in-Some-clause-first c = inl (subst (λ t. IsFoundAt c.args.groups.now c.args.numbers.now c.args.self.now.distinct.items (key c.args.numbers.now t) c.in-Some.first) (own ((goal.at.returns-in-Some-clause-first c).After-as_slice-types)) c.in-Some.ensures, refl)

pub returns-clause-chains : goal.returns-clause-chains
unfolding entry
returns-clause-chains c =
    let numbers : List ℕ = c.args.numbers.now in
    let groups : List RecGroup = c.args.groups.now in
    let distinct : List Distinct = c.args.self.now.distinct.items in
    let lasts : List ℕ = c.args.self.now.lasts.items in
    let bucket : ℕ = bucket_of (length lasts) c.hash_types-hash.result in
    let e = own ((goal.at.returns-clause-chains c).After-as_slice-types) in
    let front : take (length numbers) numbers ≡ numbers = take_all (length numbers) numbers (omega arith) in
    let hashed : c.hash_types-hash.result ≡ hash_of (key_at groups numbers (entry c)) = c.hash_types-hash.ensures ∙ (λ j. hash_of (key (sym front j) (e j))) in
    subst (λ d. Chains groups numbers d c.push.new.self.lasts.items) (sym c.in_ok-push.ensures.distinct)
    (subst (λ l. Chains groups numbers (distinct ++ entry c ∷ []) l) (sym c.in_ok-push.ensures.lasts)
    (chains_push c.requires.chains (entry c) c.requires.at (omega arith) hashed bucket refl (share_within c.hash_types-hash.result (length lasts) (2 ^ 32) c.requires.chains.some (omega arith)) refl))

pub returns-clause-first : goal.returns-clause-first
unfolding entry
returns-clause-first c = inr (record {
  fresh = subst (λ t. IsAbsent c.args.groups.now c.args.numbers.now c.args.self.now.distinct.items (key c.args.numbers.now t)) (own ((goal.at.returns-clause-first c).After-as_slice-types)) c.in_default.ensures;
  entry = entry c;
  grown = c.in_ok-push.ensures.distinct;
  group_is = refl;
  start_is = refl;
  first_is = refl;
})
