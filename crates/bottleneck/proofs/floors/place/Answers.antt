use Rattle.std.proofs.Common.{◌+◌, false, Some, sym, ap, ◌∙◌}
use Rattle.augmenting.proofs.Arrays.{all_alike}
use Rattle.bottleneck.proofs.Progress.{left_free, left_over, placed_alike, placed_more, still_placed, tight_alike}
use Rattle.bottleneck.proofs.floors.place.Goals as goal
use Rattle.bottleneck.specs.Lowered.{at_floor}

pub returns-then-augment-clause-placed : goal.returns-then-augment-clause-placed
returns-then-augment-clause-placed g c =
    let counted = c.loop-visited.counted in
    let was = c.args.counted.now.table in
    let C = at_floor g.K.Kind.above counted.table.codes counted.floor in
    let e = c.loop-visited.invariant.0 in
    let b = c.loop-visited.invariant.3 in
    placed_alike g.K.Kind.above counted.table.codes was.codes counted.table.translators was.translators (c.args.pkg + 1) counted.floor (Some c.loop-visited.floor.code) c.augment.new.self.places
    (ap (λ x. x.codes) e) (ap (λ x. x.translators) e) c.loop-visited.invariant.1
    (placed_more C counted.table.translators c.args.pkg _ c.loop-visited.owners.places c.augment.new.self.places b
    (c.augment.ensures.found c.if-augment.true c.requires.within.0 b.matching (left_free C counted.table.translators c.args.pkg c.loop-visited.owners.places b)))

pub lower-requires-clause-left : goal.lower-requires-clause-left
lower-requires-clause-left g c =
    let counted = c.loop-visited.counted in
    left_over (at_floor g.K.Kind.above counted.table.codes counted.floor) counted.table.translators c.args.pkg c.loop-visited.owners.places c.augment.new.self.places _ c.augment.new.visited
    (λ j. all_alike 64 j false) (c.augment.ensures.same c.if-augment.false) (c.augment.ensures.closed c.if-augment.false) (c.augment.ensures.tried c.if-augment.false)

pub loop-visited-preserved : goal.loop-visited-preserved
loop-visited-preserved g c =
    let above = g.K.Kind.above in
    let table = c.loop-visited.counted.table in
    let was = c.args.counted.now.table in
    let next = c.lower.new.self in
    let floor = c.in_ok-floor.floor in
    let l = c.in_ok-floor.ensures.set in
    let e = c.loop-visited.invariant.0 in
    let d = c.lower.ensures.table in (
      d ∙ e,
      c.in_ok-floor.ensures.floor,
      tight_alike g.K.Kind.valid above table.codes was.codes table.packages was.packages table.translators was.translators (Some floor.code) floor.tight.places
          (ap (λ x. x.codes) e) (ap (λ x. x.packages) e) (ap (λ x. x.translators) e) l.tight,
      placed_alike above table.codes next.table.codes table.translators next.table.translators c.args.pkg (Some floor.code) next.floor c.augment.new.self.places
          (ap (λ x. x.codes) (sym d)) (ap (λ x. x.translators) (sym d)) (sym c.in_ok-floor.ensures.floor)
          (still_placed g.K.Kind.valid above table.codes table.packages table.translators c.args.pkg c.loop-visited.counted.floor (Some floor.code) floor.tight.places
          c.loop-visited.owners.places c.augment.new.self.places (c.augment.ensures.same c.if-augment.false) l c.loop-visited.invariant.3),
    )
