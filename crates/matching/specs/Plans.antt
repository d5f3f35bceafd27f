-- Plans, their lowest grades, and sets of packages with too few translators. Packages and
-- translators are numbered from 1; G k j is the grade of package k with translator j, or none. A
-- plan is the list of its translators: entry k, counted from 0, is that of package k + 1.
use Rattle.std.specs.Prelude.{◌≡◌, ℕ, ◌+◌, ◌<◌, ◌≤◌, Bool, true, false, ◌⊎◌, List, length, Some, Option, slice_index}
use Rattle.augmenting.specs.Sets.{OneFewer}
use Rattle.bottleneck.specs.Grades.{graded, graded_above}

-- every package a translator of its own, in a pattern C of pairs that may be matched
pub record FullPlan (C : ℕ → ℕ → Bool) (p t : ℕ) (plan : List ℕ) : Type 0 where
  pub long : length plan ≡ p
  pub within : (k : ℕ) → k < p → (1 ≤ slice_index plan k) × (slice_index plan k ≤ t)
  pub paired : (k : ℕ) → k < p → C (k + 1) (slice_index plan k) ≡ true
  pub apart : (k l : ℕ) → k < p → l < p → slice_index plan k ≡ slice_index plan l → k ≡ l

-- one pair of the plan has this grade, and none has one below it
pub record LowestGrade (above : ℕ → ℕ → Bool) (G : ℕ → ℕ → Option ℕ) (plan : List ℕ) (lowest : ℕ) : Type 0 where
  pub held : (k : ℕ) × (k < length plan) × (G (k + 1) (slice_index plan k) ≡ Some lowest)
  pub none_below : (k code : ℕ) → k < length plan → G (k + 1) (slice_index plan k) ≡ Some code → above lowest code ≡ false

-- where another plan agrees up to a package, this one has the smaller number there, or the same
abbrev pub FirstBefore : List ℕ → List ℕ → Type 0
FirstBefore plan other =
    (k : ℕ) → k < length plan → ((l : ℕ) → l < k → slice_index other l ≡ slice_index plan l) → slice_index plan k ≤ slice_index other k

-- a full plan with the highest lowest grade of any, and the first by translator numbers of those
pub record BestPlan (above : ℕ → ℕ → Bool) (G : ℕ → ℕ → Option ℕ) (p t : ℕ) (plan : List ℕ) (lowest : ℕ) : Type 0 where
  pub full : FullPlan (graded G) p t plan
  pub lowest_grade : LowestGrade above G plan lowest
  pub bottleneck :
      (other : List ℕ) (code : ℕ) → FullPlan (graded G) p t other → LowestGrade above G other code
      → (code ≡ lowest) ⊎ (above lowest code ≡ true)
  pub first :
      (other : List ℕ) → FullPlan (graded G) p t other → LowestGrade above G other lowest → FirstBefore plan other

abbrev pub NoPlan : (ℕ → ℕ → Option ℕ) → ℕ → ℕ → Type 0
NoPlan G p t = (plan : List ℕ) → FullPlan (graded G) p t plan → ⊥

-- The translators with a grade above the lowest for at least one member number one less than the
-- members; and the same with every grade.
abbrev pub TightSet : (ℕ → ℕ → Bool) → (ℕ → ℕ → Option ℕ) → ℕ → ℕ → ℕ → (ℕ → Bool) → Type 0
TightSet above G p t lowest S = OneFewer (graded_above above G lowest) p t S

abbrev pub ShortSet : (ℕ → ℕ → Option ℕ) → ℕ → ℕ → (ℕ → Bool) → Type 0
ShortSet G p t S = OneFewer (graded G) p t S
