use Rattle.std.proofs.Common.{◌≡◌, ◌+◌, Some}
use Rattle.bottleneck.proofs.floors.match_all.Given as goal
use Rattle.bottleneck.specs.Codes.{table_grades}
use Rattle.bottleneck.specs.Lowered.{PlacedBefore, TightAt, at_floor}

abbrev pub invariant-loop-i : goal.invariant-loop-i
invariant-loop-i g l =
    let table = l.initial.counted.table in
    (l.counted.table ≡ table)
    × (l.counted.floor ≡ Some l.floor.code)
    × TightAt g.K.Kind.valid g.K.Kind.above (table_grades table.codes) table.packages table.translators (Some l.floor.code) l.floor.tight.places
    × PlacedBefore (at_floor g.K.Kind.above l.counted.table.codes (Some l.floor.code)) l.counted.table.translators (l.i + 1) l.owners.places
