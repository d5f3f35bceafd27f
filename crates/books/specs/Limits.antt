-- How many packages and translators a book may have, and which pairs lie inside its sizes.
use Rattle.std.specs.Prelude.{ℕ, ◌≤◌, Bool, ◌&&◌, nat_le}

abbrev pub Within : ℕ → ℕ → Type 0
Within p t = (1 ≤ p) × (p ≤ 48) × (1 ≤ t) × (t ≤ 64)

abbrev pub within : ℕ → ℕ → Bool
within p t = nat_le 1 p && nat_le p 48 && nat_le 1 t && nat_le t 64

-- packages and translators are numbered from 1
abbrev pub inside : ℕ → ℕ → ℕ → ℕ → Bool
inside p t i j = nat_le 1 i && nat_le i p && nat_le 1 j && nat_le j t
