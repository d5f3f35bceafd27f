use Rattle.std.proofs.Common.{◌≡◌, ℕ, ◌<◌, cond, get_or}
use Rattle.augmenting.specs.Owners.{seen}
use Rattle.matching.proofs.into.write_members.Given as goal

abbrev pub invariant-loop-k : goal.invariant-loop-k
invariant-loop-k l = (i : ℕ) → i < l.k → get_or l.mark-items i 0 ≡ cond (seen l.set.places i) 1 0
