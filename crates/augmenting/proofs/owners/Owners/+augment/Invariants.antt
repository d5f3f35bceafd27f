use Rattle.augmenting.proofs.Passing.{unseen}
use Rattle.augmenting.proofs.owners.Owners.+augment.Given as goal
use Rattle.augmenting.specs.Owners.{Closed, Needed, Tried}
use Rattle.std.proofs.Common.{◌≡◌}

abbrev pub decreases-augment : goal.decreases-augment
decreases-augment g l = unseen l.visited.now

abbrev pub invariant-loop-j : goal.invariant-loop-j
invariant-loop-j g l =
    (l.self.places ≡ l.initial.self.places)
    × Closed (g.P.Pattern.joins l.pattern) (g.P.Pattern.translators l.pattern) l.self.places l.initial.visited l.visited
    × Tried (g.P.Pattern.joins l.pattern) l.pkg l.visited l.j
    × Needed (g.P.Pattern.joins l.pattern) (g.P.Pattern.translators l.pattern) l.pkg l.initial.self.places l.initial.visited l.visited
