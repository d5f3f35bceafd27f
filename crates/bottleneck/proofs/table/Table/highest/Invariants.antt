use Rattle.bottleneck.proofs.table.Table.highest.Given as goal
use Rattle.bottleneck.specs.Codes.{table_grades}
use Rattle.bottleneck.specs.Floors.{Highest, Valid}

abbrev pub invariant-loop-k : goal.invariant-loop-k
invariant-loop-k g l =
    Valid g.K.Kind.valid l.best
    × Highest g.K.Kind.above (table_grades l.self.codes) l.k l.self.translators l.set.places l.visited l.best
