-- A note of owners from which a plan can be read off: at place j the number of the package that
-- translator j + 1 has, or 0.
use Rattle.std.specs.Prelude.{◌≡◌, ℕ, ◌+◌, ◌<◌, ◌≤◌, List, slice_index}
use Rattle.augmenting.specs.Owners.{Has}

-- each of p packages owns one translator
pub record EachOnce (p : ℕ) (o : List ℕ) : Type 0 where
  pub all : (k : ℕ) → k < p → Has o (k + 1)
  pub only : (j : ℕ) → slice_index o j ≤ p
  pub apart : (j l : ℕ) → 0 < slice_index o j → slice_index o j ≡ slice_index o l → j ≡ l

-- each package has the number of the translator that it owns
abbrev pub ReadsOff : List ℕ → List ℕ → Type 0
ReadsOff o plan = (j k : ℕ) → slice_index o j ≡ k + 1 → slice_index plan k ≡ j + 1
