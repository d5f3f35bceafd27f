-- A floor under the grades that count, and the highest grade that leads out of a set.
use Rattle.std.specs.Prelude.{◌≡◌, ℕ, ◌+◌, ◌<◌, Bool, true, false, not, List, Some, None, Option}
use Rattle.augmenting.specs.Owners.{seen}
use Rattle.bottleneck.specs.Grades.{passes}

-- without a floor no grade counts yet
abbrev pub from_floor : (ℕ → ℕ → Bool) → Option ℕ → Option ℕ → Bool
from_floor above None grade = false
from_floor above (Some floor) grade = passes (λ code. not (above floor code)) grade

-- a code is higher than any that there is
abbrev pub higher : (ℕ → ℕ → Bool) → ℕ → Option ℕ → Bool
higher above code None = true
higher above code (Some best) = above code best

abbrev pub Valid : (ℕ → Bool) → Option ℕ → Type 0
Valid valid None = Unit {0}
Valid valid (Some code) = valid code ≡ true

-- a grade between a member of s and a translator that is not marked in w
pub record WayOut (G : ℕ → ℕ → Option ℕ) (p t : ℕ) (s w : List Bool) (code : ℕ) : Type 0 where
  pub pkg : ℕ
  pub translator : ℕ
  pub within : (pkg < p) × (translator < t)
  pub member : seen s pkg ≡ true
  pub outside : seen w translator ≡ false
  pub grade : G (pkg + 1) (translator + 1) ≡ Some code

-- the highest grade of a row that leads to a translator not marked in w, or one that was higher
pub record HighestInRow (valid : ℕ → Bool) (above : ℕ → ℕ → Bool) (G : ℕ → ℕ → Option ℕ) (t k : ℕ) (w : List Bool) (before best : Option ℕ) : Type 0 where
  pub right : Valid valid best
  pub kept : (code : ℕ) → valid code ≡ true → higher above code before ≡ false → higher above code best ≡ false
  pub row : (j code : ℕ) → j < t → seen w j ≡ false → G k (j + 1) ≡ Some code → higher above code best ≡ false

-- the highest of all ways out, if there is any
pub record Highest (above : ℕ → ℕ → Bool) (G : ℕ → ℕ → Option ℕ) (p t : ℕ) (s w : List Bool) (best : Option ℕ) : Type 0 where
  pub top : (code : ℕ) → WayOut G p t s w code → higher above code best ≡ false
  pub from : (code : ℕ) → best ≡ Some code → WayOut G p t s w code
