-- Integers as the binary format spells them: seven bits a byte, the lowest first, and 128 more on each byte but
-- the last (core specification 3.0, 5.2.2 Integers).
use Rattle.std.specs.Prelude.{ℕ, zero, suc, ◌+◌, ◌-◌, ◌*◌, ◌/◌, ◌%◌, ◌^◌, ◌<◌, ◌≤◌, ◌≡◌, List, [], ◌∷◌, ℤ, pos, negsuc, ◌+ℤ◌, ◌-ℤ◌, ◌*ℤ◌, ◌<ℤ◌, ◌≤ℤ◌, ◌⊎◌, nat_lt, if◌then◌else◌}

-- the standard's uN: these bytes spell the unsigned integer n of that many bits. A spelling may be longer than it
-- has to be, up to bits / 7 bytes rounded up, and the unused bits of its last byte are 0
abbrev pub IsUnsigned : (bits : ℕ) → List ℕ → ℕ → Type 0
IsUnsigned bits [] n = ⊥
IsUnsigned bits (b ∷ []) n = (b < 128) × (b < 2 ^ bits) × (n ≡ b)
IsUnsigned bits (b ∷ c ∷ more) n = (128 ≤ b) × (b < 256) × (7 < bits) × ((high : ℕ) × IsUnsigned (bits - 7) (c ∷ more) high × (n ≡ 128 * high + (b - 128)))

-- the standard's sN: these bytes spell the signed integer z of that many bits, in two's complement. A spelling may
-- be longer than it has to be, up to bits / 7 bytes rounded up, and the unused bits of its last byte copy the sign
abbrev pub IsSigned : (bits : ℕ) → List ℕ → ℤ → Type 0
IsSigned bits [] z = ⊥
IsSigned bits (b ∷ []) z = ((b < 64) × (b < 2 ^ (bits - 1)) × (z ≡ pos b)) ⊎ ((64 ≤ b) × (b < 128) × (128 ≤ b + 2 ^ (bits - 1)) × (z ≡ pos b -ℤ pos 128))
IsSigned bits (b ∷ c ∷ more) z = (128 ≤ b) × (b < 256) × (7 < bits) × ((high : ℤ) × IsSigned (bits - 7) (c ∷ more) high × (z ≡ pos 128 *ℤ high +ℤ pos (b - 128)))

-- z is a signed integer of that many bits: from -2 ^ (bits - 1) on, and below 2 ^ (bits - 1)
abbrev pub FitsBits : (bits : ℕ) → ℤ → Type 0
FitsBits bits z = (pos 0 ≤ℤ (z +ℤ pos (2 ^ (bits - 1)))) × (z <ℤ pos (2 ^ (bits - 1)))

-- the least unsigned spelling of n, where so many bytes before the last are enough
abbrev pub shortest : (enough : ℕ) → ℕ → List ℕ
shortest zero n = n ∷ []
shortest (suc more) n = if nat_lt n 128 then n ∷ [] else ((n % 128 + 128) ∷ shortest more (n / 128))

-- the least signed spelling of n
abbrev pub shortest_positive : (enough : ℕ) → ℕ → List ℕ
shortest_positive zero n = n ∷ []
shortest_positive (suc more) n = if nat_lt n 64 then n ∷ [] else ((n % 128 + 128) ∷ shortest_positive more (n / 128))

-- the least signed spelling of -1 - n, whose bits are those of n turned
abbrev pub shortest_negative : (enough : ℕ) → ℕ → List ℕ
shortest_negative zero n = (127 - n) ∷ []
shortest_negative (suc more) n = if nat_lt n 64 then (127 - n) ∷ [] else ((255 - n % 128) ∷ shortest_negative more (n / 128))

-- the least unsigned spelling of a number below 2 ^ 70: ten bytes are then enough
unfoldable pub least_unsigned : ℕ → List ℕ
least_unsigned n = shortest 9 n

-- the least signed spelling of a number from -2 ^ 69 on and below 2 ^ 69: ten bytes are then enough
unfoldable pub least_signed : ℤ → List ℕ
least_signed (pos n) = shortest_positive 9 n
least_signed (negsuc n) = shortest_negative 9 n
