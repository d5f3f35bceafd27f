-- What it means that a sheet gives its answer, by the definitions of plans and sets.
use Rattle.std.specs.Prelude.{◌≡◌, ℕ, ◌+◌, ◌<◌, ◌≤◌, Bool, false, ◌&&◌, if◌then◌else◌, ◌||◌, ◌⊎◌, List, [], ◌∷◌, Some, None, Option, ◌==◌}
use Rattle.books.specs.Meaning.{Meaning, Sound}
use Rattle.bottleneck.specs.Grades.{AllValid}
use Rattle.grades.specs.Points.{above_points, valid_points}
use Rattle.grades.specs.Ratings.{above_rating, valid_rating}
use Rattle.matching.specs.Plans.{BestPlan, NoPlan, ShortSet, TightSet}
use Rattle.worked_sheets.specs.Sheets.{Answer, Kind, Sheet, planned, points, ratings, sheets, short}

abbrev pub valid_in : Kind → ℕ → Bool
valid_in points = valid_points
valid_in ratings = valid_rating

abbrev pub above_in : Kind → ℕ → ℕ → Bool
above_in points = above_points
above_in ratings = above_rating

-- the grade that a list has for a pair, the first if there are several
abbrev pub grade_in : List (ℕ × ℕ × ℕ) → ℕ → ℕ → Option ℕ
grade_in [] k j = None
grade_in (g ∷ gs) k j = if k == g.0 && j == g.1 then Some g.2 else grade_in gs k j

abbrev pub meaning : Sheet → Meaning
meaning s = record { packages = s.packages; translators = s.translators; grade = grade_in s.grades }

-- a set given by its package numbers, as a test of places: place k is that of package k + 1
abbrev pub listed : List ℕ → ℕ → Bool
listed [] k = false
listed (n ∷ ns) k = k + 1 == n || listed ns k

-- every one of a list, and one of a list
abbrev pub Each : {A : Type 0} → (A → Type 0) → List A → Type 0
Each P [] = Unit {0}
Each P (x ∷ xs) = P x × Each P xs

abbrev pub OneOf : {A : Type 0} → (A → Type 0) → List A → Type 0
OneOf P [] = ⊥
OneOf P (x ∷ xs) = P x ⊎ OneOf P xs

-- of the sets of p packages exactly the named ones are of this sort
pub record Exactly (Is : (ℕ → Bool) → Type 0) (p : ℕ) (sets : List (List ℕ)) : Type 0 where
  pub of_packages : Each (Each (λ n. (1 ≤ n) × (n ≤ p))) sets
  pub each : Each (λ set. Is (listed set)) sets
  pub no_other : (S : ℕ → Bool) → Is S → OneOf (λ set. (k : ℕ) → k < p → S k ≡ listed set k) sets

-- the best plan with its lowest grade, and no other is best
pub record TheBest (above : ℕ → ℕ → Bool) (G : ℕ → ℕ → Option ℕ) (p t : ℕ) (plan : List ℕ) (lowest : ℕ) : Type 0 where
  pub best : BestPlan above G p t plan lowest
  pub only : (other : List ℕ) (code : ℕ) → BestPlan above G p t other code → (other ≡ plan) × (code ≡ lowest)

abbrev pub Gives : (ℕ → ℕ → Bool) → (ℕ → ℕ → Option ℕ) → ℕ → ℕ → Answer → Type 0
Gives above G p t (planned plan lowest tight) = TheBest above G p t plan lowest × Exactly (TightSet above G p t lowest) p tight
Gives above G p t (short sets) = NoPlan G p t × Exactly (ShortSet G p t) p sets

pub record Right (s : Sheet) : Type 0 where
  -- the sizes are allowed, no grade lies outside them, and every grade is valid in the kind
  pub sound : Sound (meaning s)
  pub valid : AllValid (valid_in s.kind) (grade_in s.grades)
  pub gives : Gives (above_in s.kind) (grade_in s.grades) s.packages s.translators s.gives

abbrev pub EverySheetGivesItsAnswer : Type 0
EverySheetGivesItsAnswer = Each Right sheets
