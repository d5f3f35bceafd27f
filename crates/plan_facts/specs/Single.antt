-- Sheets of one package.
use Rattle.std.specs.Prelude.{◌≡◌, ℕ, ◌<◌, ◌≤◌, Bool, true, List, [], ◌∷◌, Some, None, Option, ◌≢◌}
use Rattle.bottleneck.specs.Grades.{AllValid}
use Rattle.grades.specs.Order.{Order}
use Rattle.matching.specs.Plans.{BestPlan, NoPlan, ShortSet, TightSet}

-- The only grade is with the last translator: the best plan names it, and no other plan is best.
-- The set of the one package is tight, and not short.
abbrev pub LastTranslatorCounts : Type 0
LastTranslatorCounts =
    (valid : ℕ → Bool) (above : ℕ → ℕ → Bool) → Order valid above → (G : ℕ → ℕ → Option ℕ) → AllValid valid G
    → (t code : ℕ) → 1 ≤ t → G 1 t ≡ Some code → ((j : ℕ) → 1 ≤ j → j < t → G 1 j ≡ None)
    → BestPlan above G 1 t (t ∷ []) code
    × ((plan : List ℕ) (lowest : ℕ) → BestPlan above G 1 t plan lowest → (plan ≡ t ∷ []) × (lowest ≡ code))
    × ((S : ℕ → Bool) → S 0 ≡ true → TightSet above G 1 t code S)
    × ((S : ℕ → Bool) → ShortSet G 1 t S → ⊥)

-- a grade above all others of the package is the one that is drawn
abbrev pub HigherGradeIsDrawn : Type 0
HigherGradeIsDrawn =
    (valid : ℕ → Bool) (above : ℕ → ℕ → Bool) → Order valid above → (G : ℕ → ℕ → Option ℕ) → AllValid valid G
    → (t best code : ℕ) → 1 ≤ best → best ≤ t → G 1 best ≡ Some code
    → ((j other : ℕ) → 1 ≤ j → j ≤ t → (j ≢ best) → G 1 j ≡ Some other → above code other ≡ true)
    → BestPlan above G 1 t (best ∷ []) code

-- without a grade there is no plan, and the set of the one package is short
abbrev pub UngradedPackageIsShort : Type 0
UngradedPackageIsShort =
    (G : ℕ → ℕ → Option ℕ) (t : ℕ) → ((j : ℕ) → 1 ≤ j → j ≤ t → G 1 j ≡ None)
    → NoPlan G 1 t × ((S : ℕ → Bool) → S 0 ≡ true → ShortSet G 1 t S)
