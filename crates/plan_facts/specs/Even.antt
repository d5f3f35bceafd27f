-- Sheets on which every pair has one and the same grade.
use Rattle.std.specs.Prelude.{◌≡◌, ℕ, zero, suc, ◌+◌, ◌<◌, ◌≤◌, Bool, true, List, [], ◌∷◌, ◌++◌, Some, Option}
use Rattle.bottleneck.specs.Grades.{AllValid}
use Rattle.grades.specs.Order.{Order}
use Rattle.matching.specs.Plans.{BestPlan, ShortSet, TightSet}
use Rattle.plan_facts.specs.Sets.{ExactlyOne}

-- the list 1, 2, .., n
unfoldable pub counted_up : ℕ → List ℕ
counted_up zero = []
counted_up (suc n) = counted_up n ++ suc n ∷ []

abbrev pub AllGraded : (ℕ → ℕ → Option ℕ) → ℕ → ℕ → ℕ → Type 0
AllGraded G p t code = (k j : ℕ) → 1 ≤ k → k ≤ p → 1 ≤ j → j ≤ t → G k j ≡ Some code

-- with translators enough the best plan is 1, 2, .., p with that code, and no other plan is
abbrev pub EvenSheetsCountUp : Type 0
EvenSheetsCountUp =
    (valid : ℕ → Bool) (above : ℕ → ℕ → Bool) → Order valid above → (G : ℕ → ℕ → Option ℕ) → AllValid valid G
    → (p t code : ℕ) → 1 ≤ p → p ≤ t → AllGraded G p t code
    → BestPlan above G p t (counted_up p) code
    × ((plan : List ℕ) (lowest : ℕ) → BestPlan above G p t plan lowest → (plan ≡ counted_up p) × (lowest ≡ code))

-- there the tight sets are those with exactly one member
abbrev pub TightSetsOfEvenSheets : Type 0
TightSetsOfEvenSheets =
    (valid : ℕ → Bool) (above : ℕ → ℕ → Bool) → Order valid above → (G : ℕ → ℕ → Option ℕ)
    → (p t code : ℕ) → valid code ≡ true → AllGraded G p t code → (S : ℕ → Bool)
    → (TightSet above G p t code S → ExactlyOne S p) × (ExactlyOne S p → TightSet above G p t code S)

-- one package more than translators: the set of all packages is short
abbrev pub ShortEvenSheets : Type 0
ShortEvenSheets =
    (G : ℕ → ℕ → Option ℕ) (t code : ℕ) → AllGraded G (t + 1) t code
    → (S : ℕ → Bool) → ((k : ℕ) → k < t + 1 → S k ≡ true) → ShortSet G (t + 1) t S
