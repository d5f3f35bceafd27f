-- What a book means after the grade records of a file have been put into it, and that these are the
-- grades of the file where the file is right and the book was empty.
use Rattle.std.specs.Prelude.{◌≡◌, ℕ, zero, suc, ◌≤◌, Bool, false, if◌then◌else◌, List}
use Rattle.books.specs.Changes.{put_after}
use Rattle.books.specs.Meaning.{Empty, Meaning}
use Rattle.file_format.specs.FileOf.{grade_in}
use Rattle.file_format.specs.Laws.{Bytes}
use Rattle.file_format.specs.Layout.{count_in, record_in, start_of, whole}
use Rattle.file_format.specs.Rules.{Right, just}

-- one record, if it stands there whole
abbrev pub with_record : ℕ → Meaning → List ℕ → ℕ → Meaning
with_record limit m bs r =
    if whole bs (start_of r) 6
    then put_after limit m (record_in bs r).pkg (record_in bs r).translator (record_in bs r).code
    else m

-- the first n records, one after the other
unfoldable pub with_records : ℕ → Meaning → List ℕ → ℕ → Meaning
with_records limit m bs zero = m
with_records limit m bs (suc n) = with_record limit (with_records limit m bs n) bs (suc n)

-- every record of a right file is taken by an empty book of its sizes whose limit is not below their
-- number, and then exactly the grades of the file stand
abbrev pub RecordsAreTheGrades : Type 0
RecordsAreTheGrades =
    (number : ℕ) (valid : ℕ → Bool) (limit : ℕ) (m : Meaning) (bs : List ℕ) → Bytes bs
    → Right (just number valid m.packages m.translators) bs → valid 0 ≡ false → Empty m
    → count_in bs ≤ limit
    → with_records limit m bs (count_in bs)
    ≡ record { packages = m.packages; translators = m.translators; grade = grade_in bs }
