use Rattle.timing.proofs.filling.fill.Given as goal
use Rattle.timing.specs.Table.{Partly}
use Rattle.std.proofs.Common.{◌≡◌}

abbrev pub invariant-loop-row : goal.invariant-loop-row
invariant-loop-row g l =
    Partly g.B.Book.LIMIT l.codes l.row 0 (g.B.Reading.meaning l.book)
    × ((g.B.Reading.meaning l.book).packages ≡ (g.B.Reading.meaning l.initial.book).packages)
    × ((g.B.Reading.meaning l.book).translators ≡ (g.B.Reading.meaning l.initial.book).translators)
