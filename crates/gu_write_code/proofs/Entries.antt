-- Entries whose size alone was appended, and entries whose content is behind room for its size.
use Rattle.std.proofs.Common.{ℕ, ◌+◌, ◌<◌, ◌≡◌, List, [], ◌∷◌, ◌++◌, length, arith, ap, ◌∙◌, append_assoc, length-append}
use Rattle.gu_bytes.specs.Numbers.{least_unsigned}
use Rattle.gu_bytes.specs.Reads.{GrowsByFront}
use Rattle.gu_syntax.specs.Encoding.{sized}
use Rattle.gu_syntax.proofs.Least.{count_long}

-- a front of the size is a front of what stands behind it too
pub front_of_sized : (content old new : List ℕ) → GrowsByFront (least_unsigned (length content)) old new → GrowsByFront (sized content) old new
front_of_sized content old new g = record { front = g.front; behind = g.behind ++ content; whole = ap (λ bs. bs ++ content) g.whole ∙ append_assoc g.front g.behind content; grown = g.grown }

-- a content that would end past the limit behind room of one byte would so behind its size
pub content_past : (limit : ℕ) (content old new : List ℕ) (byte : ℕ) → new ≡ old ++ byte ∷ [] → limit < length new + length content → limit < length old + length (sized content)
content_past limit content old new byte is past = omega (arith, past, ap length is, length-append old (byte ∷ []), length-append (least_unsigned (length content)) content, count_long (length content))
