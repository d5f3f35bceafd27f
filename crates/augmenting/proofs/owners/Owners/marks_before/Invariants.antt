use Rattle.std.proofs.Common.{◌≡◌, ℕ, ◌<◌, false, ◌&&◌, ltb, length, get_or}
use Rattle.augmenting.proofs.owners.Owners.marks_before.Given as goal

abbrev pub invariant-loop-j : goal.invariant-loop-j
invariant-loop-j l = (length l.marks ≡ 64) × ((k : ℕ) → k < l.j → get_or l.marks k false ≡ (ltb 0 (get_or l.self.places k 0) && ltb (get_or l.self.places k 0) l.pkg))
