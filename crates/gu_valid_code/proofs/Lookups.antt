-- What a list has at a place.
use Rattle.std.specs.Slice.{IsItemAt}
use Rattle.std.proofs.Common.{true, Bor, ℕ, zero, suc, ◌≡◌, ◌+◌, ◌-◌, ◌<◌, ◌≤◌, List, [], ◌∷◌, ◌++◌, ◌∙◌, ap, sym, refl, length, get_or, slice_get, Some, arith, map, reverse, option_map, replicate, drop, Bool}
use Rattle.std.proofs.lemmas.List.{append_assoc, drop_more, get_or-reverse, length-reverse}
use Rattle.std.proofs.lemmas.Option.{slice_get-get_or, slice_get-map}
use Rattle.gu_types.specs.declared.types.ValType.{ValType}
use Rattle.gu_types.specs.declared.types.ValType.TheVariants.{I32}
use Rattle.gu_model.specs.Typing.{spread}
use Rattle.gu_model.specs.TypingContext.{has_default}

pub item_found : {X : Type 0} (xs : List X) (i : ℕ) (x : Bor X) → IsItemAt xs i (Some x) → Some x.now ≡ slice_get xs i
item_found xs i x h = ap Some h.1 ∙ sym (slice_get-get_or xs i x.now (h.3).0)

-- the k-th item from the end
pub from_end : {A B : Type 0} (f : A → B) (xs : List A) (k place : ℕ) (x : A) → k + 1 ≤ length xs → place ≡ length xs - (k + 1) → x ≡ get_or xs place x → Some (f x) ≡ slice_get (map f (reverse xs)) k
from_end f xs k place x within at is =
    sym (
    slice_get-map f (reverse xs) k
    ∙ ap (option_map f) (
    slice_get-get_or (reverse xs) k x (omega (arith, within, length-reverse xs))
    ∙ ap Some (get_or-reverse xs k x (omega (arith, within)) ∙ ap (λ n. get_or xs n x) (let e : length xs - 1 - k ≡ place = omega (arith, within, at) in e) ∙ sym is)
    )
    )

-- which of so many locals of a type and of those behind them have a default
pub defaults_of : (n : ℕ) (t : ValType) (ts : List ValType) → map has_default (replicate n t ++ ts) ≡ replicate n (has_default t) ++ map has_default ts
defaults_of zero t ts = refl
defaults_of (suc n) t ts = ap (λ (flags : List Bool). has_default t ∷ flags) (defaults_of n t ts)

-- a flag for one more parameter
pub more_set : (flags new : List Bool) (params : List ValType) (k : ℕ) → k < length params → new ≡ flags ++ true ∷ [] → new ++ map (λ p. true) (drop (k + 1) params) ≡ flags ++ map (λ p. true) (drop k params)
more_set flags new params k h is =
    ap (λ (fs : List Bool). fs ++ map (λ p. true) (drop (k + 1) params)) is
    ∙ append_assoc flags (true ∷ []) (map (λ p. true) (drop (k + 1) params))
    ∙ ap (λ (ts : List ValType). flags ++ map (λ p. true) ts) (sym (drop_more params k I32 h))

-- flags for one more run of locals
pub more_defaults : (flags new : List Bool) (runs : List (ℕ × ValType)) (k : ℕ) (b : Bool) → k < length runs → b ≡ has_default (get_or runs k (0, I32)).1 → new ≡ flags ++ replicate (get_or runs k (0, I32)).0 b → new ++ map has_default (spread (drop (k + 1) runs)) ≡ flags ++ map has_default (spread (drop k runs))
more_defaults flags new runs k b h flag is =
    let run = get_or runs k (0, I32) in
    let rest : List ValType = spread (drop (k + 1) runs) in
    ap (λ (fs : List Bool). fs ++ map has_default rest) (is ∙ ap (λ (c : Bool). flags ++ replicate run.0 c) flag)
    ∙ append_assoc flags (replicate run.0 (has_default run.1)) (map has_default rest)
    ∙ ap (λ (fs : List Bool). flags ++ fs) (sym (defaults_of run.0 run.1 rest))
    ∙ ap (λ (rs : List (ℕ × ValType)). flags ++ map has_default (spread rs)) (sym (drop_more runs k (0, I32) h))
