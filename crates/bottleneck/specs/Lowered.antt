-- A floor lowered as little as the package that is left over asks for.
use Rattle.std.specs.Prelude.{◌≡◌, ℕ, ◌<◌, Bool, true, not, List, [], Some, None, Option, slice_index}
use Rattle.augmenting.specs.Counting.{count}
use Rattle.augmenting.specs.Owners.{Closed, Has, Matching, Tried, seen}
use Rattle.augmenting.specs.Sets.{OneFewer}
use Rattle.bottleneck.specs.Codes.{grade_of_code, table_grades}
use Rattle.bottleneck.specs.Floors.{from_floor}
use Rattle.bottleneck.specs.Grades.{graded_above}

-- the pairs of a table that count at a floor
abbrev pub at_floor : (ℕ → ℕ → Bool) → List ℕ → Option ℕ → ℕ → ℕ → Bool
at_floor above codes floor k j = from_floor above floor (table_grades codes k j)

-- the packages before package i have translators, and no other has one
pub record PlacedBefore (C : ℕ → ℕ → Bool) (t i : ℕ) (o : List ℕ) : Type 0 where
  pub matching : Matching C t o
  pub all : (k : ℕ) → 0 < k → k < i → Has o k
  pub below : (j : ℕ) → slice_index o j < i

-- package i is left over: all whom it could have, and on from there, are marked in w
pub record IsLeftOver (C : ℕ → ℕ → Bool) (t i : ℕ) (o : List ℕ) (w : List Bool) : Type 0 where
  pub closed : Closed C t o [] w
  pub tried : Tried C i w t

-- how many cells of a table do not count at a floor
abbrev pub uncounted : (ℕ → ℕ → Bool) → List ℕ → Option ℕ → ℕ
uncounted above codes floor = count (λ x. not (from_floor above floor (grade_of_code (slice_index codes x)))) 3185

-- a valid floor, and a set of packages that reaches by the grades above it one translator fewer
-- than it has members; without a floor nothing is asked
abbrev pub TightAt : (ℕ → Bool) → (ℕ → ℕ → Bool) → (ℕ → ℕ → Option ℕ) → ℕ → ℕ → Option ℕ → List Bool → Type 0
TightAt valid above G p t None s = Unit {0}
TightAt valid above G p t (Some floor) s = (valid floor ≡ true) × OneFewer (graded_above above G floor) p t (seen s)

pub record Lowered (valid : ℕ → Bool) (above : ℕ → ℕ → Bool) (codes : List ℕ) (p t : ℕ) (old new : Option ℕ) (s : List Bool) : Type 0 where
  pub tight : TightAt valid above (table_grades codes) p t new s
  pub grows : (k j : ℕ) → at_floor above codes old k j ≡ true → at_floor above codes new k j ≡ true
  pub fewer : uncounted above codes new < uncounted above codes old
