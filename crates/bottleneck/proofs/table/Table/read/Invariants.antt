use Rattle.std.proofs.Common.{◌≡◌, ℕ, ◌+◌, ◌*◌, ◌<◌, ◌≤◌, length, get_or}
use Rattle.bottleneck.proofs.table.Table.read.Given as goal
use Rattle.bottleneck.specs.Codes.{grade_of_code}
use Rattle.bottleneck.specs.Grades.{valid_grades}

abbrev pub invariant-loop-pkg : goal.invariant-loop-pkg
invariant-loop-pkg g l =
    (length l.codes ≡ 3185) × (1 ≤ l.pkg) × (l.pkg ≤ l.packages + 1)
    × ((k j : ℕ) → 1 ≤ k → k < l.pkg → j ≤ 64 → grade_of_code (get_or l.codes (65 * k + j) 0) ≡ valid_grades g.K.Kind.valid (g.R.Reading.meaning l.grades) k j)
    × ((x : ℕ) → x < 65 → get_or l.codes x 0 ≡ 0)
    × ((x : ℕ) → 65 * l.pkg ≤ x → get_or l.codes x 0 ≡ 0)
