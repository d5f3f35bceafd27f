-- Who has whom, noted by translator: at place j stands the number of the package that translator
-- j + 1 has, and 0 where it has none. A pattern C says of the numbers of a package and a translator
-- whether the two may be matched.
use Rattle.std.specs.Prelude.{◌≡◌, ℕ, ◌+◌, ◌<◌, Bool, true, false, ◌⊎◌, List, ◌≢◌, slice_index, slice_index_or}

-- of each translator among the first t: whom it has it may have, and nobody else has them
pub record Matching (C : ℕ → ℕ → Bool) (t : ℕ) (o : List ℕ) : Type 0 where
  pub within : (j : ℕ) → 0 < slice_index o j → j < t
  pub joined : (j : ℕ) → 0 < slice_index o j → C (slice_index o j) (j + 1) ≡ true
  pub apart : (j l : ℕ) → 0 < slice_index o j → slice_index o j ≡ slice_index o l → j ≡ l

-- package k has a translator; it has none
abbrev pub Has : List ℕ → ℕ → Type 0
Has o k = (j : ℕ) × (slice_index o j ≡ k)

abbrev pub Free : List ℕ → ℕ → Type 0
Free o k = (j : ℕ) → slice_index o j ≢ k

-- marks on translators
abbrev pub seen : List Bool → ℕ → Bool
seen v j = slice_index_or v j false

-- a marked translator keeps its package
abbrev pub Kept : List Bool → List ℕ → List ℕ → Type 0
Kept v o n = (j : ℕ) → seen v j ≡ true → slice_index n j ≡ slice_index o j

-- What w marks beyond v: translators that have a package, and with them all whom that package may
-- have.
pub record Closed (C : ℕ → ℕ → Bool) (t : ℕ) (o : List ℕ) (v w : List Bool) : Type 0 where
  pub grows : (j : ℕ) → seen v j ≡ true → seen w j ≡ true
  pub owned : (j : ℕ) → seen w j ≡ true → seen v j ≡ false → 0 < slice_index o j
  pub reach :
      (j n : ℕ) → seen w j ≡ true → seen v j ≡ false → n < t → C (slice_index o j) (n + 1) ≡ true → seen w n ≡ true

-- Nothing is marked beyond v without need: a set of packages that has package i, and with each
-- member the owners of all whom it may have and v leaves free, has the owners of all that w marks.
abbrev pub Needed : (ℕ → ℕ → Bool) → ℕ → ℕ → List ℕ → List Bool → List Bool → Type 0
Needed C t i o v w =
    (T : ℕ → Bool) → T i ≡ true
    → ((k j : ℕ) → T k ≡ true → j < t → C k (j + 1) ≡ true → seen v j ≡ false → 0 < slice_index o j → T (slice_index o j) ≡ true)
    → (j : ℕ) → seen w j ≡ true → seen v j ≡ false → T (slice_index o j) ≡ true

-- of the first n translators all whom package k may have are marked
abbrev pub Tried : (ℕ → ℕ → Bool) → ℕ → List Bool → ℕ → Type 0
Tried C k w n = (j : ℕ) → j < n → C k (j + 1) ≡ true → seen w j ≡ true

-- none of the first n translators can be had by package k, while those marked in v stay as they are
pub record RuledOut (C : ℕ → ℕ → Bool) (t : ℕ) (o : List ℕ) (v : List Bool) (k n : ℕ) : Type 0 where
  pub marks : List Bool
  pub closed : Closed C t o v marks
  pub tried : Tried C k marks n

-- package i got a translator, the first that it could have, and every other package kept one
pub record Augmented (C : ℕ → ℕ → Bool) (t : ℕ) (v : List Bool) (i : ℕ) (o n : List ℕ) : Type 0 where
  pub matching : Matching C t n
  pub keeps : (k : ℕ) → 0 < k → Has o k → Has n k
  pub only : (k : ℕ) → 0 < k → Has n k → (k ≡ i) ⊎ Has o k
  pub place : ℕ
  pub placed : slice_index n place ≡ i
  pub first : RuledOut C t o v i place
