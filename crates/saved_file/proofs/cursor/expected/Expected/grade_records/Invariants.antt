use Rattle.std.proofs.Common.{◌≡◌, ◌-◌, ◌+◌, ◌≤◌}
use Rattle.saved_file.proofs.cursor.expected.Expected.grade_records.Given as goal
use Rattle.file_format.specs.Layout.{start_of, last_of}
use Rattle.file_format.specs.Rules.{RecordsRight}
use Rattle.saved_file.specs.Expecting.{of_kind}

abbrev pub invariant-loop-number : goal.invariant-loop-number
invariant-loop-number g l =
    (l.cursor.file.now ≡ l.initial.cursor.file.now) × (l.cursor.at ≡ start_of l.number) × (1 ≤ l.number)
    × (l.number ≤ l.count + 1)
    × (l.before ≡ last_of l.initial.cursor.file.now (l.number - 1))
    × RecordsRight (of_kind g.K.Kind.NUMBER g.K.Kind.valid l.self) l.initial.cursor.file.now (l.number - 1)
