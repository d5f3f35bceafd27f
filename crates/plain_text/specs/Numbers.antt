-- Numbers in a text: 1 to 9 digits each, and rows of a given length of them.
use Rattle.std.specs.Prelude.{ℕ, ◌&&◌, if◌then◌else◌, ◌==◌, List, [], ◌∷◌, length, Some, None, Option, nat_le}
use Rattle.std.specs.Char.{is_ascii_digit}
use Rattle.std.specs.List.{list_all}
use Rattle.std.specs.Str.Parse.{digits_value}

abbrev pub numeral_of : List ℕ → Option ℕ
numeral_of bs =
    if (nat_le 1 (length bs) && nat_le (length bs) 9) && list_all is_ascii_digit bs then Some (digits_value 10 bs) else None

abbrev pub first_of : Option ℕ → Option (List ℕ) → Option (List ℕ)
first_of None ns = None
first_of (Some n) None = None
first_of (Some n) (Some ns) = Some (n ∷ ns)

-- the numbers that the words are, or none where one is no number
abbrev pub numerals : List (List ℕ) → Option (List ℕ)
numerals [] = Some []
numerals (w ∷ ws) = first_of (numeral_of w) (numerals ws)

-- the numbers, if they are n
abbrev pub exactly : ℕ → Option (List ℕ) → Option (List ℕ)
exactly n None = None
exactly n (Some ns) = if length ns == n then Some ns else None
