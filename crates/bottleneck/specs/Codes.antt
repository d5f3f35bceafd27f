-- Grades as a table of codes with 0 for none: 49 rows of 65, of which row 0 and column 0 are empty,
-- so that a pair stands at its own numbers.
use Rattle.std.specs.Prelude.{ℕ, ◌+◌, ◌*◌, ◌&&◌, if◌then◌else◌, List, Some, None, Option, ◌==◌, nat_le, slice_index}

abbrev pub code_at : List ℕ → ℕ → ℕ → ℕ
code_at codes k j = if nat_le k 48 && nat_le j 64 then slice_index codes (65 * k + j) else 0

abbrev pub grade_of_code : ℕ → Option ℕ
grade_of_code code = if code == 0 then None else Some code

abbrev pub table_grades : List ℕ → ℕ → ℕ → Option ℕ
table_grades codes k j = grade_of_code (code_at codes k j)
