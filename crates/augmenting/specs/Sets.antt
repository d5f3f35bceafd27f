-- Sets of packages, and the translators that they reach. A set S says of place k whether package
-- k + 1 is a member.
use Rattle.std.specs.Prelude.{◌≡◌, ℕ, ◌+◌, ◌<◌, Bool, true, ◌&&◌, ◌⊎◌, List, length, slice_index}
use Rattle.augmenting.specs.Counting.{count, any}
use Rattle.augmenting.specs.Owners.{seen}

-- translator j + 1 may be matched with at least one member
abbrev pub reached : (ℕ → ℕ → Bool) → ℕ → (ℕ → Bool) → ℕ → Bool
reached C p S j = any (λ k. S k && C (k + 1) (j + 1)) p

-- the members reach exactly one translator fewer than they are
abbrev pub OneFewer : (ℕ → ℕ → Bool) → ℕ → ℕ → (ℕ → Bool) → Type 0
OneFewer C p t S = count (reached C p S) t + 1 ≡ count S p

-- s has package i and the owners of the marked translators, and no other
pub record OwnersAnd (o : List ℕ) (w : List Bool) (i : ℕ) (s : List Bool) : Type 0 where
  pub start : (k : ℕ) → k + 1 ≡ i → k < length s → seen s k ≡ true
  pub owners : (j k : ℕ) → seen w j ≡ true → slice_index o j ≡ k + 1 → k < length s → seen s k ≡ true
  pub only : (k : ℕ) → seen s k ≡ true → (k + 1 ≡ i) ⊎ ((j : ℕ) × (seen w j ≡ true) × (slice_index o j ≡ k + 1))
