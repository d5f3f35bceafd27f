use Rattle.std.proofs.Common.{◌≡◌, length}
use Rattle.matching.proofs.Numbers.{Noted}
use Rattle.matching.proofs.plan.Plan.of_owners.Given as goal

abbrev pub invariant-loop-j : goal.invariant-loop-j
invariant-loop-j l = (length l.numbers ≡ 48) × Noted l.owner-items l.numbers l.j
