-- Ratings: the code is class + 256 × days of practice, with a class of 1 to 4 and at most 20,000
-- days. The smaller class is above, and within a class more days are. No other code is above or
-- below a rating.
use Rattle.std.specs.Prelude.{ℕ, ◌/◌, ◌%◌, Bool, false, if◌then◌else◌, ◌&&◌, ◌||◌, is_some, Some, None, Option, ◌==◌, nat_le, nat_lt}
use Rattle.grades.specs.declared.ratings.Rating.{Rating}

abbrev pub rating_of : ℕ → Option Rating
rating_of code =
    if nat_le 1 (code % 256) && nat_le (code % 256) 4 && nat_le (code / 256) 20000
    then Some (record { class = code % 256; days = code / 256 })
    else None

abbrev pub valid_rating : ℕ → Bool
valid_rating code = is_some (rating_of code)

abbrev pub better : Option Rating → Option Rating → Bool
better None b = false
better (Some a) None = false
better (Some a) (Some b) = nat_lt a.class b.class || a.class == b.class && nat_lt b.days a.days

abbrev pub above_rating : ℕ → ℕ → Bool
above_rating a b = better (rating_of a) (rating_of b)
