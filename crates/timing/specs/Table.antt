-- A table of codes, row by row: package k with translator j stands at place (k - 1) * t + (j - 1).
-- 0, or a place past the end, is no grade.
use Rattle.std.specs.Prelude.{◌≡◌, ℕ, ◌+◌, ◌-◌, ◌*◌, ◌<◌, ◌≤◌, if◌then◌else◌, List, None, Option, slice_index}
use Rattle.books.specs.Limits.{inside}
use Rattle.books.specs.Meaning.{Meaning, count}
use Rattle.bottleneck.specs.Codes.{grade_of_code}
use Rattle.refusals.specs.declared.refusal.Refusal.{Refusal}
use Rattle.refusals.specs.declared.refusal.Refusal.TheVariants.{Full}

abbrev pub grades_of : ℕ → ℕ → List ℕ → ℕ → ℕ → Option ℕ
grades_of p t codes k j = if inside p t k j then grade_of_code (slice_index codes ((k - 1) * t + (j - 1))) else None

-- what a book of these sizes means when the table is in it
abbrev pub sheet_of : ℕ → ℕ → List ℕ → Meaning
sheet_of p t codes = record { packages = p; translators = t; grade = grades_of p t codes }

-- more grades than the limit
abbrev pub Overfull : ℕ → ℕ → ℕ → List ℕ → Refusal → Type 0
Overfull limit p t codes refusal = (refusal ≡ Full) × (limit < count (sheet_of p t codes))

-- a book that holds the first k rows of the table and l places of the next, and nothing else
pub record Partly (limit : ℕ) (codes : List ℕ) (k l : ℕ) (m : Meaning) : Type 0 where
  pub above : (i j : ℕ) → i ≤ k → m.grade i j ≡ grades_of m.packages m.translators codes i j
  pub left : (j : ℕ) → j ≤ l → m.grade (k + 1) j ≡ grades_of m.packages m.translators codes (k + 1) j
  pub right : (j : ℕ) → l < j → m.grade (k + 1) j ≡ None
  pub below : (i j : ℕ) → k + 1 < i → m.grade i j ≡ None
  pub few : count m ≤ limit
