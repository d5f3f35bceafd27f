-- Whole matchings: every one of p packages has a translator, by a note of owners or by a function
-- from places of packages to places of translators.
use Rattle.std.specs.Prelude.{◌≡◌, ℕ, ◌+◌, ◌<◌, ◌≤◌, Bool, true, List, slice_index}
use Rattle.augmenting.specs.Owners.{Matching, Has}

pub record Complete (C : ℕ → ℕ → Bool) (p t : ℕ) (o : List ℕ) : Type 0 where
  pub matching : Matching C t o
  pub all : (k : ℕ) → k < p → Has o (k + 1)
  pub only : (j : ℕ) → slice_index o j ≤ p

pub record Assigns (C : ℕ → ℕ → Bool) (p t : ℕ) (m : ℕ → ℕ) : Type 0 where
  pub within : (k : ℕ) → k < p → m k < t
  pub joined : (k : ℕ) → k < p → C (k + 1) (m k + 1) ≡ true
  pub apart : (k l : ℕ) → k < p → l < p → m k ≡ m l → k ≡ l

-- no whole matching that gives the packages before package k + 1 the translators they have here
-- gives that package one before its own
abbrev pub Least : (ℕ → ℕ → Bool) → ℕ → ℕ → List ℕ → ℕ → Type 0
Least C p t o k =
    (m : ℕ → ℕ) → Assigns C p t m → ((l : ℕ) → l < k → slice_index o (m l) ≡ l + 1)
    → (j : ℕ) → slice_index o j ≡ k + 1 → j ≤ m k

-- package i has the first translator it can have while the packages before it keep theirs
pub record PlacedFirst (C : ℕ → ℕ → Bool) (p t i : ℕ) (o n : List ℕ) : Type 0 where
  pub complete : Complete C p t n
  pub lower : (j k : ℕ) → 0 < k → k < i → slice_index o j ≡ k → slice_index n j ≡ k
  pub least : (k : ℕ) → k + 1 ≡ i → Least C p t n k
