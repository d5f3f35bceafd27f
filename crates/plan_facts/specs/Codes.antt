-- Points and ratings by the numbers that a code stands for.
use Rattle.std.specs.Prelude.{◌≡◌, ℕ, ◌+◌, ◌*◌, ◌<◌, ◌≤◌, true, ◌⊎◌}
use Rattle.grades.specs.Points.{above_points, valid_points}
use Rattle.grades.specs.Ratings.{above_rating, valid_rating}

-- 1 to 1,000, the larger number above
abbrev pub PointsInWords : Type 0
PointsInWords =
    (a b : ℕ)
    → ((1 ≤ a) × (a ≤ 1000) → valid_points a ≡ true) × (valid_points a ≡ true → (1 ≤ a) × (a ≤ 1000))
    × (valid_points a ≡ true → valid_points b ≡ true → b < a → above_points a b ≡ true)
    × (above_points a b ≡ true → b < a)

-- a class of 1 to 4, and 0 to 20,000 days
pub record Rated (class days : ℕ) : Type 0 where
  pub low : 1 ≤ class
  pub high : class ≤ 4
  pub few : days ≤ 20000

-- the smaller class, or the same class and more days
abbrev pub Higher : ℕ → ℕ → ℕ → ℕ → Type 0
Higher class days other more = (class < other) ⊎ ((class ≡ other) × (more < days))

-- the codes of classes and days, no other, in that order
pub record RatingsInWords : Type 0 where
  pub valid : (class days : ℕ) → Rated class days → valid_rating (class + 256 * days) ≡ true
  pub only :
      (code : ℕ) → valid_rating code ≡ true → (class : ℕ) × (days : ℕ) × Rated class days × (code ≡ class + 256 * days)
  pub higher :
      (class days other more : ℕ) → Rated class days → Rated other more → Higher class days other more
      → above_rating (class + 256 * days) (other + 256 * more) ≡ true
  pub only_higher :
      (class days other more : ℕ) → Rated class days → Rated other more
      → above_rating (class + 256 * days) (other + 256 * more) ≡ true → Higher class days other more
