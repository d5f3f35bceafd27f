-- The kinds that there are, as values: the number and the word of each, and which numbers are known.
use Rattle.std.specs.Prelude.{◌≡◌, ℕ, Bool, false, ◌||◌, List, Result, MatchResult, codes, ◌==◌}
use Rattle.grades.specs.declared.kind_name.KindName.{KindName}
use Rattle.grades.specs.declared.kind_name.KindName.TheVariants.{Points, Ratings}
use Rattle.grades.specs.declared.kind_name.UnknownKind.{UnknownKind}

abbrev pub kind_number : KindName → ℕ
kind_number Points = 1
kind_number Ratings = 2

abbrev pub known_kind : ℕ → Bool
known_kind k = k == 1 || k == 2

abbrev pub kind_text : KindName → List ℕ
kind_text Points = codes "points"
kind_text Ratings = codes "ratings"

-- the kind with a number, or an error that tells a number that no kind has
abbrev pub Names : ℕ → Result KindName UnknownKind → Type 0
Names n r = MatchResult r (λ kind. kind_number kind ≡ n) (λ e. (e.0 ≡ n) × (known_kind n ≡ false))
