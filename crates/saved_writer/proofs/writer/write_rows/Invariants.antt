use Rattle.std.proofs.Common.{◌+◌, ◌-◌, ◌≤◌}
use Rattle.saved_writer.proofs.Rows.{Rows}
use Rattle.saved_writer.proofs.writer.write_rows.Given as goal

abbrev pub invariant-loop-pkg : goal.invariant-loop-pkg
invariant-loop-pkg g l =
    Rows (g.R.Reading.meaning l.book).grade l.initial.out (g.R.Reading.meaning l.book).packages (g.R.Reading.meaning l.book).translators (l.pkg - 1) l.at l.out
    × (1 ≤ l.pkg) × (l.pkg ≤ (g.R.Reading.meaning l.book).packages + 1)
