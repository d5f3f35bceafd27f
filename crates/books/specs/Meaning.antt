-- What a book means: its sizes and, for each pair of a package and a translator, one code or none.
-- Every book that keeps `Sound` and the rules of put and take is right; how it stores its grades is
-- its own affair.
use Rattle.std.specs.Prelude.{◌≡◌, ℕ, zero, suc, ◌+◌, false, if◌then◌else◌, ◌&&◌, Some, None, Option, ◌==◌}
use Rattle.books.specs.Limits.{Within, inside}

pub record Meaning : Type 0 where
  pub packages : ℕ
  pub translators : ℕ
  pub grade : ℕ → ℕ → Option ℕ

pub record Sound (m : Meaning) : Type 0 where
  pub sizes : Within m.packages m.translators
  -- a pair outside the sizes has no grade
  pub outside : (i j : ℕ) → inside m.packages m.translators i j ≡ false → m.grade i j ≡ None

abbrev pub Empty : Meaning → Type 0
Empty m = (i j : ℕ) → m.grade i j ≡ None

-- a book as it is made: these sizes, and no grade
pub record Blank (p t : ℕ) (m : Meaning) : Type 0 where
  pub packages : m.packages ≡ p
  pub translators : m.translators ≡ t
  pub empty : Empty m

-- the same grades but for one pair
abbrev pub changed : (ℕ → ℕ → Option ℕ) → ℕ → ℕ → Option ℕ → ℕ → ℕ → Option ℕ
changed f a b v i j = if (i == a && j == b) then v else f i j

abbrev pub with_grade : Meaning → ℕ → ℕ → Option ℕ → Meaning
with_grade m a b v =
    record { packages = m.packages; translators = m.translators; grade = changed m.grade a b v }

abbrev pub one : Option ℕ → ℕ
one None = 0
one (Some code) = 1

-- how many of the numbers 1 to n have a grade in a row
unfoldable pub in_row : (ℕ → Option ℕ) → ℕ → ℕ
in_row f zero = 0
in_row f (suc n) = in_row f n + one (f (suc n))

-- how many pairs of 1 to p and 1 to t have a grade
unfoldable pub standing : (ℕ → ℕ → Option ℕ) → ℕ → ℕ → ℕ
standing f zero t = 0
standing f (suc p) t = standing f p t + in_row (f (suc p)) t

abbrev pub count : Meaning → ℕ
count m = standing m.grade m.packages m.translators
