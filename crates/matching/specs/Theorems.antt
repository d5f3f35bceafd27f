-- What follows from the definitions of plans and sets alone.
use Rattle.std.specs.Prelude.{◌≡◌, ℕ, Bool, true, List, Option, ◌≢◌}
use Rattle.augmenting.specs.Sets.{OneFewer}
use Rattle.bottleneck.specs.Grades.{AllValid, graded}
use Rattle.grades.specs.Order.{Order}
use Rattle.matching.specs.Plans.{BestPlan, FullPlan, LowestGrade, TightSet}

-- any two best plans by the same valid grades are one plan, with one lowest grade
abbrev pub OneBestPlan : Type 0
OneBestPlan =
    (valid : ℕ → Bool) (above : ℕ → ℕ → Bool) → Order valid above → (G H : ℕ → ℕ → Option ℕ) → AllValid valid G
    → ((k j : ℕ) → G k j ≡ H k j) → (p t : ℕ) (plan other : List ℕ) (lowest code : ℕ)
    → BestPlan above G p t plan lowest → BestPlan above H p t other code → (plan ≡ other) × (lowest ≡ code)

-- a tight set rules out every full plan with a lowest grade above
abbrev pub TightRulesOut : Type 0
TightRulesOut =
    (valid : ℕ → Bool) (above : ℕ → ℕ → Bool) → Order valid above → (G : ℕ → ℕ → Option ℕ) → AllValid valid G
    → (p t lowest : ℕ) (S : ℕ → Bool) → valid lowest ≡ true → TightSet above G p t lowest S
    → (plan : List ℕ) (code : ℕ) → FullPlan (graded G) p t plan → LowestGrade above G plan code → above code lowest ≢ true

-- and so does a short set every full plan, in any pattern of pairs that may be matched
abbrev pub ShortRulesOut : Type 0
ShortRulesOut =
    (C : ℕ → ℕ → Bool) (p t : ℕ) (S : ℕ → Bool) → OneFewer C p t S → (plan : List ℕ) → FullPlan C p t plan → ⊥
