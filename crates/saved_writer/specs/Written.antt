-- What writing into a lent buffer leaves and answers.
use Rattle.std.specs.Prelude.{◌≡◌, ℕ, ◌+◌, ◌^◌, ◌<◌, ◌≤◌, Bool, true, if◌then◌else◌, List, ◌++◌, length, take, drop, Some, Ok, Err, Option, Result, nat_le}
use Rattle.books.specs.Meaning.{Meaning}
use Rattle.file_format.specs.FileOf.{file_of, grade_in}
use Rattle.file_format.specs.Rules.{Right, just}
use Rattle.refusals.specs.declared.refusal.Refusal.{Refusal}
use Rattle.refusals.specs.declared.refusal.Refusal.TheVariants.{Space}

-- a buffer with new bytes from an offset on, and all others as they were
abbrev pub put_at : List ℕ → ℕ → List ℕ → List ℕ
put_at buffer o bytes = take o buffer ++ (bytes ++ drop (o + length bytes) buffer)

-- the file of what a reading means
abbrev pub file_of_meaning : ℕ → Meaning → List ℕ
file_of_meaning number m = file_of number m.packages m.translators m.grade

-- a buffer that is shorter than the file is refused and stays as it was; else the file stands at its
-- start, the later bytes are as they were, and the answer is the length of the file
abbrev pub write_answer : List ℕ → List ℕ → Result ℕ Refusal
write_answer file buffer = if nat_le (length file) (length buffer) then Ok (length file) else Err Space

abbrev pub write_after : List ℕ → List ℕ → List ℕ
write_after file buffer = if nat_le (length file) (length buffer) then file ++ drop (length file) buffer else buffer

-- the code of a pair, the codes of a row and those of a whole book have 32 bits
abbrev pub CodeFits : Option ℕ → Type 0
CodeFits o = (code : ℕ) → o ≡ Some code → code < 2 ^ 32

abbrev pub RowFits : (ℕ → Option ℕ) → ℕ → Type 0
RowFits f t = (j : ℕ) → 1 ≤ j → j ≤ t → CodeFits (f j)

abbrev pub CodesFit : (ℕ → ℕ → Option ℕ) → ℕ → ℕ → Type 0
CodesFit G p t = (i : ℕ) → 1 ≤ i → i ≤ p → RowFits (G i) t

-- where every code is valid in the kind, the file is right and the grades in it are those of the book
abbrev pub ReadsBack : ℕ → (ℕ → Bool) → Meaning → Type 0
ReadsBack number valid m =
    ((i j code : ℕ) → m.grade i j ≡ Some code → valid code ≡ true)
    → Right (just number valid m.packages m.translators) (file_of_meaning number m)
    × ((i j : ℕ) → grade_in (file_of_meaning number m) i j ≡ m.grade i j)
