use Rattle.std.proofs.Common.{◌≡◌, ℕ, ◌+◌, ◌<◌, true, ◌⊎◌, length, get_or}
use Rattle.augmenting.proofs.members.Members.owners_and.Given as goal
use Rattle.augmenting.specs.Owners.{seen}

abbrev pub invariant-loop-owner : goal.invariant-loop-owner
invariant-loop-owner l =
    ((k : ℕ) → k + 1 ≡ l.pkg → k < 48 → seen l.set.places k ≡ true)
    × ((j k : ℕ) → j < length l.yielded → seen l.visited j ≡ true → get_or l.owners.places j 0 ≡ k + 1 → k < 48 → seen l.set.places k ≡ true)
    × ((k : ℕ) → seen l.set.places k ≡ true → (k + 1 ≡ l.pkg) ⊎ ((j : ℕ) × (seen l.visited j ≡ true) × (get_or l.owners.places j 0 ≡ k + 1)))
