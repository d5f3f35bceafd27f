-- A file of which nothing is expected beforehand: its kind and sizes are those of its own record of
-- section 1, which has to be of points or of ratings, with sizes within the limits of a book.
use Rattle.std.specs.Prelude.{ℕ, Bool, if◌then◌else◌, List, Ok, Err, Result, ◌==◌}
use Rattle.books.specs.Limits.{within}
use Rattle.file_format.specs.Layout.{sheet_in}
use Rattle.file_format.specs.Rules.{Expected}
use Rattle.file_format.specs.declared.records.SheetRecord.{SheetRecord}
use Rattle.grades.specs.Names.{kind_number, known_kind}
use Rattle.grades.specs.Points.{valid_points}
use Rattle.grades.specs.Ratings.{valid_rating}
use Rattle.refusals.specs.declared.fault.Fault.{Fault}
use Rattle.saved_file.specs.declared.head.Head.{Head}

abbrev pub valid_in : ℕ → ℕ → Bool
valid_in k code = if k == 1 then valid_points code else valid_rating code

abbrev pub by_itself : List ℕ → Expected
by_itself bs =
    record {
      kind = known_kind;
      sizes = within;
      packages = (sheet_in bs).packages;
      translators = (sheet_in bs).translators;
      valid = valid_in (sheet_in bs).kind;
    }

-- what a head tells, as the record of section 1
abbrev pub three_of : Head → SheetRecord
three_of h = record { kind = kind_number h.kind; packages = h.sizes.packages; translators = h.sizes.translators }

abbrev pub told_three : Result Head Fault → Result SheetRecord Fault
told_three (Ok h) = Ok (three_of h)
told_three (Err f) = Err f
