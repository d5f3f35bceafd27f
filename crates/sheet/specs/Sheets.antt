-- What a sheet means: its opening, and what stands on it.
use Rattle.std.specs.Prelude.{◌≡◌, ℕ, Bool, List, length, Some}
use Rattle.books.specs.Meaning.{Meaning}
use Rattle.file_format.specs.FileOf.{file_of}
use Rattle.matching.specs.Written.{numbers_of}
use Rattle.matching.specs.declared.into.Planned.{Planned}
use Rattle.pages.specs.Answers.{Runs, Ran}
use Rattle.pages.specs.Lines.{Opening, Line, Answer, Event}
use Rattle.pages.specs.Standing as page
use Rattle.sheet.specs.declared.sheet.Sheet.{Sheet}
use Rattle.std.specs.Option.{option_map}

abbrev pub drawn_of : Planned → page.Drawn
drawn_of d = record { plan = numbers_of d.plan; lowest = d.lowest }

-- the opening over a book of this meaning
abbrev pub opened_with : ℕ → ℕ → (ℕ → Bool) → (ℕ → ℕ → Bool) → Meaning → ℕ → Opening
opened_with limit number valid above m tag =
    record {
      packages = m.packages;
      translators = m.translators;
      limit = limit;
      number = number;
      valid = valid;
      above = above;
      tag = tag;
    }

-- the limit is the book's, and number, valid codes and order are the kind's
abbrev pub opening_of :
    {B K : Type 0} → ℕ → ℕ → (ℕ → Bool) → (ℕ → ℕ → Bool) → (B → Meaning) → Sheet B K → Opening
opening_of limit number valid above meaning s =
    opened_with limit number valid above (meaning s.book) s.tag

abbrev pub standing_of : {B K : Type 0} → (B → Meaning) → Sheet B K → page.Standing
standing_of meaning s =
    record {
      grade = (meaning s.book).grade;
      out = option_map drawn_of s.out;
      published = option_map drawn_of s.published;
    }

-- a sheet at one moment: how it was opened, and what stood on it
pub record Stood : Type 0 where
  pub opening : Opening
  pub standing : page.Standing

abbrev pub stood_of :
    {B K : Type 0} → ℕ → ℕ → (ℕ → Bool) → (ℕ → ℕ → Bool) → (B → Meaning) → Sheet B K → Stood
stood_of limit number valid above meaning s =
    record { opening = opening_of limit number valid above meaning s; standing = standing_of meaning s }

-- a history led to the sheet
abbrev pub LedTo : Opening → List Event → Stood → Type 0
LedTo o h x = Ran o h x.opening x.standing

-- a line was run on the sheet x and left the sheet y
abbrev pub RanLine : Stood → Stood → Line → Answer → Type 0
RanLine x y l a = Runs x.opening x.standing l a y.opening y.standing

-- the published plan has a translator for each package of the book
abbrev pub Fits : Stood → Type 0
Fits x = (d : page.Drawn) → x.standing.published ≡ Some d → length d.plan ≡ x.opening.packages

-- the file of the grades that stand on a sheet
abbrev pub file_of_sheet : Stood → List ℕ
file_of_sheet x = file_of x.opening.number x.opening.packages x.opening.translators x.standing.grade
