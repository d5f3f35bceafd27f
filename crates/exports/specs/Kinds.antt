-- The two kinds by their numbers: 1 for points, 2 for ratings. No codes are right in any other.
use Rattle.std.specs.Prelude.{ℕ, Bool, false, if◌then◌else◌, ◌||◌, List, ◌==◌}
use Rattle.std.specs.List.{list_all}
use Rattle.grades.specs.Points.{valid_points, above_points}
use Rattle.grades.specs.Ratings.{valid_rating, above_rating}

-- each code is 0 or valid
abbrev pub codes_right : (ℕ → Bool) → List ℕ → Bool
codes_right valid codes = list_all (λ code. code == 0 || valid code) codes

abbrev pub right_in : ℕ → List ℕ → Bool
right_in kind codes =
    if kind == 1 then codes_right valid_points codes
    else if kind == 2 then codes_right valid_rating codes
    else false

abbrev pub above_in : ℕ → ℕ → ℕ → Bool
above_in kind = if kind == 1 then above_points else above_rating
