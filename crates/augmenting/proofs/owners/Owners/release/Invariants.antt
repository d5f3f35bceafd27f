use Rattle.std.proofs.Common.{◌≡◌, ℕ, ◌<◌, ◌≤◌, length, get_or}
use Rattle.augmenting.proofs.owners.Owners.release.Given as goal

abbrev pub invariant-loop-owner : goal.invariant-loop-owner
invariant-loop-owner l =
    (length l.owner-items ≡ 64)
    × ((k : ℕ) → k < l.owner-index → get_or l.initial.owner-items k 0 ≡ l.pkg → get_or l.owner-items k 0 ≡ 0)
    × ((k : ℕ) → (get_or l.initial.owner-items k 0 ≡ l.pkg → ⊥) → get_or l.owner-items k 0 ≡ get_or l.initial.owner-items k 0)
    × ((k : ℕ) → l.owner-index ≤ k → get_or l.owner-items k 0 ≡ get_or l.initial.owner-items k 0)
