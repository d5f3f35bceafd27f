-- Points: the codes 1 to 1,000, of which the larger is above. No other code is above or below one.
use Rattle.std.specs.Prelude.{ℕ, Bool, ◌&&◌, nat_le, nat_lt}

abbrev pub valid_points : ℕ → Bool
valid_points a = nat_le 1 a && nat_le a 1000

abbrev pub above_points : ℕ → ℕ → Bool
above_points a b = valid_points a && valid_points b && nat_lt b a
