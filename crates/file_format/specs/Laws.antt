-- What holds of every file, whoever reads it.
use Rattle.std.specs.Prelude.{◌≡◌, ℕ, ◌<◌, Bool, ◌⊎◌, List, Option, slice_index}
use Rattle.refusals.specs.declared.fault.Fault.{Fault}
use Rattle.books.specs.Limits.{Within}
use Rattle.file_format.specs.FileOf.{Graded, file_of, grade_in}
use Rattle.file_format.specs.Rules.{Expected, Right, Faulty, just}

-- a string of bytes
abbrev pub Bytes : List ℕ → Type 0
Bytes bs = (k : ℕ) → slice_index bs k < 256

-- a file is right or has a fault, never both, and never two faults
abbrev pub RightOrOneFault : Type 0
RightOrOneFault =
    (e : Expected) (bs : List ℕ)
    → (Right e bs ⊎ ((f : Fault) × Faulty e bs f))
    × (Right e bs → (f : Fault) → Faulty e bs f → ⊥)
    × ((f g : Fault) → Faulty e bs f → Faulty e bs g → f ≡ g)

-- a right string of bytes is the file of the grades in it, and these are grades of the kind
abbrev pub RightIsTheFile : Type 0
RightIsTheFile =
    (number : ℕ) (valid : ℕ → Bool) (p t : ℕ) (bs : List ℕ) → Within p t → Bytes bs
    → Right (just number valid p t) bs
    → Graded valid p t (grade_in bs) × (bs ≡ file_of number p t (grade_in bs))

-- the file of grades of a kind is right, and the grades in it are the same
abbrev pub FileIsRight : Type 0
FileIsRight =
    (number : ℕ) (valid : ℕ → Bool) (p t : ℕ) (G : ℕ → ℕ → Option ℕ) → Graded valid p t G
    → Right (just number valid p t) (file_of number p t G)
    × ((i j : ℕ) → grade_in (file_of number p t G) i j ≡ G i j)

-- two right strings of bytes with the same grades are the same bytes
abbrev pub SameGradesSameBytes : Type 0
SameGradesSameBytes =
    (number : ℕ) (valid : ℕ → Bool) (p t : ℕ) (bs cs : List ℕ) → Bytes bs → Bytes cs
    → Right (just number valid p t) bs → Right (just number valid p t) cs
    → ((i j : ℕ) → grade_in bs i j ≡ grade_in cs i j) → bs ≡ cs
