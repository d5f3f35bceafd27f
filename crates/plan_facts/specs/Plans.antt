-- What every full plan has, by the definitions of plans alone.
use Rattle.std.specs.Prelude.{◌≡◌, ℕ, ◌+◌, ◌<◌, ◌≤◌, Bool, true, ◌⊎◌, List, length, Some, Option, ◌≢◌, slice_index}
use Rattle.bottleneck.specs.Grades.{AllValid, graded}
use Rattle.grades.specs.Order.{Order}
use Rattle.matching.specs.Plans.{BestPlan, FullPlan, LowestGrade, NoPlan}

-- every full plan by valid grades has a lowest grade, and only one
abbrev pub OneLowestGrade : Type 0
OneLowestGrade =
    (valid : ℕ → Bool) (above : ℕ → ℕ → Bool) → Order valid above → (G : ℕ → ℕ → Option ℕ) → AllValid valid G
    → (p t : ℕ) → 1 ≤ p → (plan : List ℕ) → FullPlan (graded G) p t plan
    → (lowest : ℕ) × LowestGrade above G plan lowest × ((code : ℕ) → LowestGrade above G plan code → code ≡ lowest)

-- the lowest grade of a full plan is the grade of one of its pairs, and that of every other pair is
-- the same or above it
abbrev pub LowestGradeIsBelowTheOthers : Type 0
LowestGradeIsBelowTheOthers =
    (valid : ℕ → Bool) (above : ℕ → ℕ → Bool) → Order valid above → (G : ℕ → ℕ → Option ℕ) → AllValid valid G
    → (p t : ℕ) (plan : List ℕ) (lowest : ℕ) → FullPlan (graded G) p t plan → LowestGrade above G plan lowest
    → ((k : ℕ) × (k < p) × (G (k + 1) (slice_index plan k) ≡ Some lowest))
    × ((k : ℕ) → k < p
    → (code : ℕ) × (G (k + 1) (slice_index plan k) ≡ Some code) × ((code ≡ lowest) ⊎ (above code lowest ≡ true)))

-- either some plan is the best, or there is no full plan at all
abbrev pub BestPlanOrNone : Type 0
BestPlanOrNone =
    (valid : ℕ → Bool) (above : ℕ → ℕ → Bool) → Order valid above → (G : ℕ → ℕ → Option ℕ) → AllValid valid G
    → (p t : ℕ) → 1 ≤ p → ((plan : List ℕ) × (lowest : ℕ) × BestPlan above G p t plan lowest) ⊎ NoPlan G p t

-- with fewer translators than packages there is no full plan, whatever the grades
abbrev pub TooFewTranslators : Type 0
TooFewTranslators = (G : ℕ → ℕ → Option ℕ) (p t : ℕ) → t < p → NoPlan G p t

-- a best plan names for each package one of the translators 1 to t, never 0, and none twice
abbrev pub PlansNameTranslators : Type 0
PlansNameTranslators =
    (above : ℕ → ℕ → Bool) (G : ℕ → ℕ → Option ℕ) (p t : ℕ) (plan : List ℕ) (lowest : ℕ) → BestPlan above G p t plan lowest
    → (length plan ≡ p)
    × ((k : ℕ) → k < p → (1 ≤ slice_index plan k) × (slice_index plan k ≤ t))
    × ((k l : ℕ) → k < l → l < p → slice_index plan k ≢ slice_index plan l)

-- where every grade is still there, the same or higher, and others may have come, the bottleneck is
-- the same or higher
abbrev pub HigherGradesNeverLowerTheBottleneck : Type 0
HigherGradesNeverLowerTheBottleneck =
    (valid : ℕ → Bool) (above : ℕ → ℕ → Bool) → Order valid above
    → (G H : ℕ → ℕ → Option ℕ) → AllValid valid G → AllValid valid H
    → ((k j code : ℕ) → G k j ≡ Some code → (more : ℕ) × (H k j ≡ Some more) × ((more ≡ code) ⊎ (above more code ≡ true)))
    → (p t : ℕ) (plan other : List ℕ) (lowest code : ℕ)
    → BestPlan above G p t plan lowest → BestPlan above H p t other code → (code ≡ lowest) ⊎ (above code lowest ≡ true)
