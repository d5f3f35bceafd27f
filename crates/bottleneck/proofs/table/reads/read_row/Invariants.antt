use Rattle.std.proofs.Common.{◌≡◌, ℕ, ◌+◌, ◌*◌, ◌<◌, ◌≤◌, get_or}
use Rattle.bottleneck.proofs.table.reads.read_row.Given as goal
use Rattle.bottleneck.specs.Codes.{grade_of_code}
use Rattle.bottleneck.specs.Grades.{valid_grades}

abbrev pub invariant-loop-j : goal.invariant-loop-j
invariant-loop-j g l =
    ((i : ℕ) → i < l.j → grade_of_code (get_or l.codes (65 * l.pkg + (i + 1)) 0) ≡ valid_grades g.K.Kind.valid (g.R.Reading.meaning l.grades) l.pkg (i + 1))
    × ((x : ℕ) → x ≤ 65 * l.pkg → get_or l.codes x 0 ≡ get_or l.initial.codes x 0)
    × ((x : ℕ) → 65 * l.pkg + l.j < x → get_or l.codes x 0 ≡ 0)
