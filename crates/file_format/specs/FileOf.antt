-- The bytes of a saved file: a kind number, sizes and a partial map determine them.
use Rattle.std.specs.Prelude.{◌≡◌, ℕ, zero, suc, ◌/◌, ◌%◌, ◌^◌, ◌<◌, Bool, true, false, List, [], ◌∷◌, ◌++◌, Some, None, Option}
use Rattle.books.specs.Limits.{Within, inside}
use Rattle.books.specs.Meaning.{changed, standing}
use Rattle.file_format.specs.Layout.{count_in, record_in}

-- the six bytes of the record of a pair
abbrev pub grade_bytes : ℕ → ℕ → ℕ → List ℕ
grade_bytes i j code =
    i ∷ j ∷ code % 256 ∷ code / 256 % 256 ∷ code / 65536 % 256 ∷ code / 16777216 % 256 ∷ []

abbrev pub of_grade : ℕ → ℕ → Option ℕ → List ℕ
of_grade i j None = []
of_grade i j (Some code) = grade_bytes i j code

-- one record for each grade of a package, by rising translator
unfoldable pub row_bytes : ℕ → (ℕ → Option ℕ) → ℕ → List ℕ
row_bytes i f zero = []
row_bytes i f (suc t) = row_bytes i f t ++ of_grade i (suc t) (f (suc t))

-- the records of packages 1 to p, by rising package
unfoldable pub grades_bytes : (ℕ → ℕ → Option ℕ) → ℕ → ℕ → List ℕ
grades_bytes G zero t = []
grades_bytes G (suc p) t = grades_bytes G p t ++ row_bytes (suc p) (G (suc p)) t

-- the first count, the record of section 1, and the second count
abbrev pub head_bytes : ℕ → ℕ → ℕ → ℕ → List ℕ
head_bytes number p t n = 1 ∷ 0 ∷ number ∷ p ∷ t ∷ n % 256 ∷ n / 256 % 256 ∷ []

abbrev pub file_of : ℕ → ℕ → ℕ → (ℕ → ℕ → Option ℕ) → List ℕ
file_of number p t G = head_bytes number p t (standing G p t) ++ grades_bytes G p t

-- Grades that a sheet of a kind may have: sizes within the limits, none outside the sizes, and each
-- a code of 32 bits that is valid in the kind.
pub record Graded (valid : ℕ → Bool) (p t : ℕ) (G : ℕ → ℕ → Option ℕ) : Type 0 where
  pub sizes : Within p t
  pub outside : (i j : ℕ) → inside p t i j ≡ false → G i j ≡ None
  pub codes : (i j code : ℕ) → G i j ≡ Some code → (valid code ≡ true) × (code < 2 ^ 32)

-- The grades in a file: record by record, each gives its pair its code.
unfoldable pub grades_upto : List ℕ → ℕ → ℕ → ℕ → Option ℕ
grades_upto bs zero = λ i j. None
grades_upto bs (suc n) =
    changed (grades_upto bs n) (record_in bs (suc n)).pkg (record_in bs (suc n)).translator (Some (record_in bs (suc n)).code)

abbrev pub grade_in : List ℕ → ℕ → ℕ → Option ℕ
grade_in bs = grades_upto bs (count_in bs)
