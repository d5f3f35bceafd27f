-- What a saved file is to a page: grades that stand are of the kind, a saved file brings them back,
-- and a load takes only what a save writes.
use Rattle.std.specs.Prelude.{◌≡◌, ℕ, ◌≤◌, List, ◌∷◌, None}
use Rattle.books.specs.Meaning.{standing}
use Rattle.file_format.specs.FileOf.{Graded, file_of}
use Rattle.pages.specs.Answers.{Page}
use Rattle.pages.specs.Lines.{Opening, Event, Call, Outcome}
use Rattle.pages.specs.Standing.{grade_at}

-- grades stand inside the sizes only, and their codes are valid
abbrev pub StandingGradesAreOfTheKind : Type 0
StandingGradesAreOfTheKind =
    (o : Opening) (h : List Event) → Page o h → Graded o.valid o.packages o.translators (grade_at h)

-- the file of the grades that stand after a history
abbrev pub file_at : Opening → List Event → List ℕ
file_at o h = file_of o.number o.packages o.translators (grade_at h)

-- two openings of one kind and of the same sizes; limit and tag may differ
pub record SameForm (o q : Opening) : Type 0 where
  pub number : o.number ≡ q.number
  pub valid : o.valid ≡ q.valid
  pub above : o.above ≡ q.above
  pub packages : o.packages ≡ q.packages
  pub translators : o.translators ≡ q.translators

-- The file of one page, loaded by a manager at the end of another on which no grade stands and whose
-- limit is not below the number of records: accepted, and the same grades then stand.
abbrev pub SavedGradesComeBack : Type 0
SavedGradesComeBack =
    (o q : Opening) (h above : List Event) (e : Event) → SameForm o q → Page o h → Page q (e ∷ above)
    → ((i j : ℕ) → grade_at above i j ≡ None) → standing (grade_at h) o.packages o.translators ≤ q.limit
    → e.line.role ≡ 3 → e.line.call ≡ Call.load (file_at o h)
    → (e.answer.outcome ≡ Outcome.done) × ((i j : ℕ) → grade_at (e ∷ above) i j ≡ grade_at h i j)

-- an accepted load is of the file of the grades that then stand
abbrev pub LoadedFilesAreSavedOnes : Type 0
LoadedFilesAreSavedOnes =
    (o : Opening) (above : List Event) (e : Event) (file : List ℕ) → Page o (e ∷ above) → e.line.call ≡ Call.load file
    → e.answer.outcome ≡ Outcome.done → file ≡ file_at o (e ∷ above)
