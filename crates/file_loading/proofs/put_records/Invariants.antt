use Rattle.std.proofs.Common.{◌≡◌, ◌+◌, ◌-◌, ◌≤◌}
use Rattle.file_loading.proofs.put_records.Given as goal
use Rattle.file_loading.specs.Loaded.{with_records}

abbrev pub invariant-loop-number : goal.invariant-loop-number
invariant-loop-number g l =
    (g.B.Reading.meaning l.book
    ≡ with_records g.B.Book.LIMIT (g.B.Reading.meaning l.initial.book) l.file.file.now (l.number - 1))
    × (1 ≤ l.number) × (l.number ≤ l.file.count + 1)
