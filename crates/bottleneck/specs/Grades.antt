-- Which grades count in a kind, and which pairs they join.
use Rattle.std.specs.Prelude.{◌≡◌, ℕ, Bool, true, false, not, if◌then◌else◌, is_some, Some, None, Option}
use Rattle.books.specs.Meaning.{Meaning}

-- a code that is not valid in the kind counts as no grade
abbrev pub counted : (ℕ → Bool) → Option ℕ → Option ℕ
counted valid None = None
counted valid (Some code) = if valid code then Some code else None

abbrev pub valid_grades : (ℕ → Bool) → Meaning → ℕ → ℕ → Option ℕ
valid_grades valid m k j = counted valid (m.grade k j)

-- Of grades G of packages and translators, both numbered from 1: the pairs with a grade, those with
-- one above a given code, and those with that code or one above.
abbrev pub passes : (ℕ → Bool) → Option ℕ → Bool
passes f None = false
passes f (Some code) = f code

abbrev pub graded : (ℕ → ℕ → Option ℕ) → ℕ → ℕ → Bool
graded G k j = is_some (G k j)

abbrev pub graded_above : (ℕ → ℕ → Bool) → (ℕ → ℕ → Option ℕ) → ℕ → ℕ → ℕ → Bool
graded_above above G lowest k j = passes (λ code. above code lowest) (G k j)

abbrev pub graded_from : (ℕ → ℕ → Bool) → (ℕ → ℕ → Option ℕ) → ℕ → ℕ → ℕ → Bool
graded_from above G lowest k j = passes (λ code. not (above lowest code)) (G k j)

-- every grade is valid in the kind
abbrev pub AllValid : (ℕ → Bool) → (ℕ → ℕ → Option ℕ) → Type 0
AllValid valid G = (k j code : ℕ) → G k j ≡ Some code → valid code ≡ true
