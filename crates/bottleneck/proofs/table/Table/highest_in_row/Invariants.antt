use Rattle.std.proofs.Common.{length}
use Rattle.bottleneck.proofs.Tops.{FromRow}
use Rattle.bottleneck.proofs.table.Table.highest_in_row.Given as goal
use Rattle.bottleneck.specs.Codes.{table_grades}
use Rattle.bottleneck.specs.Floors.{HighestInRow}

abbrev pub invariant-loop-code : goal.invariant-loop-code
invariant-loop-code g l =
    HighestInRow g.K.Kind.valid g.K.Kind.above (table_grades l.self.codes) (length l.yielded) l.pkg l.visited l.initial.best l.best
    × FromRow (table_grades l.self.codes) l.self.translators l.pkg l.visited l.initial.best l.best
