-- A text whose part ends past the limit ends past it as a whole.
use Rattle.std.proofs.Common.{ℕ, ◌+◌, ◌<◌, ◌≡◌, List, ◌++◌, length, get_or, drop, arith, refl, sym, ap, ◌∙◌, length-append, append_assoc}
use Rattle.std.proofs.lemmas.List.{drop_more}
use Rattle.gu_syntax.specs.Encoding.{encode_items}

-- a front of the whole is past the limit
pub front_past : (limit : ℕ) (front back old text : List ℕ) → front ++ back ≡ old ++ text → limit < length front → limit < length old + length text
front_past limit front back old text so past = omega (arith, length-append front back, length-append old text, ap length so)

-- one more item is written
pub item_more : {X : Type 0} (encode : X → List ℕ) (xs : List X) (k : ℕ) (d : X) (whole out new : List ℕ) → k < length xs → out ++ encode_items encode (drop k xs) ≡ whole → new ≡ out ++ encode (get_or xs k d) → new ++ encode_items encode (drop (k + 1) xs) ≡ whole
item_more encode xs k d whole out new h so put = ap (λ bs. bs ++ encode_items encode (drop (k + 1) xs)) put ∙ append_assoc out (encode (get_or xs k d)) (encode_items encode (drop (k + 1) xs)) ∙ ap (λ ys. out ++ encode_items encode ys) (sym (drop_more xs k d h)) ∙ so

-- one item more is past the limit
pub item_past : {X : Type 0} (limit : ℕ) (encode : X → List ℕ) (xs : List X) (k : ℕ) (d : X) (old text out : List ℕ) → k < length xs → out ++ encode_items encode (drop k xs) ≡ old ++ text → limit < length out + length (encode (get_or xs k d)) → limit < length old + length text
item_past limit encode xs k d old text out h so past =
    let item = encode (get_or xs k d) in
    let one = item_more encode xs k d (old ++ text) out (out ++ item) h so refl in
    front_past limit (out ++ item) (encode_items encode (drop (k + 1) xs)) old text one (omega (arith, length-append out item))

-- the items so far are past the limit
pub items_past : {X : Type 0} (limit : ℕ) (encode : X → List ℕ) (xs : List X) (k : ℕ) (item d : X) (old text out new : List ℕ) → k < length xs → item ≡ get_or xs k d → out ++ encode_items encode (drop k xs) ≡ old ++ text → new ≡ out ++ encode item → limit < length new → limit < length old + length text
items_past limit encode xs k item d old text out new h at so put past = front_past limit new (encode_items encode (drop (k + 1) xs)) old text (item_more encode xs k d (old ++ text) out new h so (put ∙ ap (λ x. out ++ encode x) at)) past
