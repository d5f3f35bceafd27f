use Rattle.std.proofs.Common.{◌≡◌, Some}
use Rattle.bottleneck.proofs.floors.place.Given as goal
use Rattle.bottleneck.specs.Codes.{table_grades}
use Rattle.bottleneck.specs.Lowered.{PlacedBefore, TightAt, at_floor, uncounted}

abbrev pub invariant-loop-visited : goal.invariant-loop-visited
invariant-loop-visited g l =
    let table = l.initial.counted.table in
    (l.counted.table ≡ table)
    × (l.counted.floor ≡ Some l.floor.code)
    × TightAt g.K.Kind.valid g.K.Kind.above (table_grades table.codes) table.packages table.translators (Some l.floor.code) l.floor.tight.places
    × PlacedBefore (at_floor g.K.Kind.above l.counted.table.codes l.counted.floor) l.counted.table.translators l.pkg l.owners.places

abbrev pub decreases-loop-visited : goal.decreases-loop-visited
decreases-loop-visited g l = uncounted g.K.Kind.above l.counted.table.codes l.counted.floor
