use Rattle.std.proofs.Common.{ℕ, ◌+◌, ◌<◌, ◌≤◌}
use Rattle.augmenting.proofs.owners.Owners.place_all_first.Given as goal
use Rattle.augmenting.specs.Assigned.{Complete, Least}

abbrev pub invariant-loop-pkg : goal.invariant-loop-pkg
invariant-loop-pkg g l =
    (1 ≤ l.pkg) × (l.pkg ≤ l.packages + 1)
    × (Complete (g.P.Pattern.joins l.pattern) l.packages (g.P.Pattern.translators l.pattern) l.initial.self.places
    → Complete (g.P.Pattern.joins l.pattern) l.packages (g.P.Pattern.translators l.pattern) l.self.places
    × ((k : ℕ) → k + 1 < l.pkg → Least (g.P.Pattern.joins l.pattern) l.packages (g.P.Pattern.translators l.pattern) l.self.places k))
