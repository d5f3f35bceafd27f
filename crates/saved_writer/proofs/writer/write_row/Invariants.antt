use Rattle.std.proofs.Common.{◌+◌, ◌-◌, ◌≤◌}
use Rattle.saved_writer.proofs.Rows.{Row}
use Rattle.saved_writer.proofs.writer.write_row.Given as goal

abbrev pub invariant-loop-translator : goal.invariant-loop-translator
invariant-loop-translator g l =
    Row l.pkg ((g.R.Reading.meaning l.book).grade l.pkg) l.initial.out l.at (l.translator - 1) l.end l.out
    × (1 ≤ l.translator) × (l.translator ≤ (g.R.Reading.meaning l.book).translators + 1)
