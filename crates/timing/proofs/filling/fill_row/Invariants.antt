use Rattle.timing.proofs.filling.fill_row.Given as goal
use Rattle.timing.specs.Table.{Partly}
use Rattle.std.proofs.Common.{◌≡◌}

abbrev pub invariant-loop-column : goal.invariant-loop-column
invariant-loop-column g l =
    Partly g.B.Book.LIMIT l.codes l.row l.column (g.B.Reading.meaning l.book)
    × ((g.B.Reading.meaning l.book).packages ≡ (g.B.Reading.meaning l.initial.book).packages)
    × ((g.B.Reading.meaning l.book).translators ≡ (g.B.Reading.meaning l.initial.book).translators)
