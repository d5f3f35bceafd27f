-- What the definitions of counting, reaching, tight and short sets say of every set of packages.
use Rattle.std.specs.Prelude.{◌≡◌, ℕ, ◌+◌, ◌<◌, Bool, true, false, List, Some, Option, ◌≢◌}
use Rattle.augmenting.specs.Counting.{count}
use Rattle.augmenting.specs.Sets.{OneFewer, reached}
use Rattle.bottleneck.specs.Grades.{graded, graded_above}
use Rattle.matching.specs.Plans.{FullPlan, ShortSet, TightSet}

-- of the first n places one passes the test, and no other does
pub record ExactlyOne (f : ℕ → Bool) (n : ℕ) : Type 0 where
  pub place : ℕ
  pub within : place < n
  pub passes : f place ≡ true
  pub only : (k : ℕ) → k < n → f k ≡ true → k ≡ place

-- None counts as 0, all as many as there are, and a test that passes one place more counts one more:
-- these determine a count.
pub record Counts : Type 0 where
  pub none : (f : ℕ → Bool) (n : ℕ) → ((k : ℕ) → k < n → f k ≡ false) → count f n ≡ 0
  pub all : (f : ℕ → Bool) (n : ℕ) → ((k : ℕ) → k < n → f k ≡ true) → count f n ≡ n
  pub one_more :
      (f g : ℕ → Bool) (n j : ℕ) → j < n → f j ≡ true → g j ≡ false → ((k : ℕ) → k < n → (k ≢ j) → f k ≡ g k)
      → count f n ≡ count g n + 1
  pub one : (f : ℕ → Bool) (n : ℕ) → (count f n ≡ 1 → ExactlyOne f n) × (ExactlyOne f n → count f n ≡ 1)

-- a translator is reached exactly where some member of the set may have it
abbrev pub ReachedByAMember : Type 0
ReachedByAMember =
    (C : ℕ → ℕ → Bool) (p : ℕ) (S : ℕ → Bool) (j : ℕ)
    → (reached C p S j ≡ true → (k : ℕ) × (k < p) × (S k ≡ true) × (C (k + 1) (j + 1) ≡ true))
    × ((k : ℕ) → k < p → S k ≡ true → C (k + 1) (j + 1) ≡ true → reached C p S j ≡ true)

-- a pair is joined exactly where it has a grade, and for a tight set exactly where it has one above
-- the lowest
abbrev pub JoinedByGrades : Type 0
JoinedByGrades =
    (above : ℕ → ℕ → Bool) (G : ℕ → ℕ → Option ℕ) (k j lowest : ℕ)
    → (graded G k j ≡ true → (code : ℕ) × (G k j ≡ Some code))
    × ((code : ℕ) → G k j ≡ Some code → graded G k j ≡ true)
    × (graded_above above G lowest k j ≡ true → (code : ℕ) × (G k j ≡ Some code) × (above code lowest ≡ true))
    × ((code : ℕ) → G k j ≡ Some code → above code lowest ≡ true → graded_above above G lowest k j ≡ true)

-- the empty set is neither tight nor short
abbrev pub EmptySetsAreNeither : Type 0
EmptySetsAreNeither =
    (above : ℕ → ℕ → Bool) (G : ℕ → ℕ → Option ℕ) (p t lowest : ℕ) (S : ℕ → Bool) → ((k : ℕ) → k < p → S k ≡ false)
    → (TightSet above G p t lowest S → ⊥) × (ShortSet G p t S → ⊥)

-- where there is a full plan, a tight set is not short
abbrev pub TightSetsAreNotShort : Type 0
TightSetsAreNotShort =
    (above : ℕ → ℕ → Bool) (G : ℕ → ℕ → Option ℕ) (p t lowest : ℕ) (plan : List ℕ) (S : ℕ → Bool)
    → FullPlan (graded G) p t plan → TightSet above G p t lowest S → ShortSet G p t S → ⊥

-- what a set has beyond the first p places does not matter
abbrev pub SetsEndAtTheLastPackage : Type 0
SetsEndAtTheLastPackage =
    (C : ℕ → ℕ → Bool) (p t : ℕ) (S T : ℕ → Bool) → ((k : ℕ) → k < p → S k ≡ T k) → OneFewer C p t S → OneFewer C p t T
