-- What every kind of grade keeps: code 0 is no grade, and the valid codes stand in a strict order.
use Rattle.std.specs.Prelude.{◌≡◌, ℕ, ◌^◌, ◌<◌, Bool, true, false, if◌then◌else◌, not, ◌&&◌, ◌==◌}

abbrev pub exactly_one : Bool → Bool → Bool → Bool
exactly_one a b c = if a then not b && not c else if b then not c else c

pub record Order (valid : ℕ → Bool) (above : ℕ → ℕ → Bool) : Type 0 where
  pub no_zero : valid 0 ≡ false
  -- codes have 32 bits
  pub fits : (a : ℕ) → valid a ≡ true → a < 2 ^ 32
  -- of two valid codes the first is above, the second is above, or they are the same code
  pub one_way :
      (a b : ℕ) → valid a ≡ true → valid b ≡ true → exactly_one (above a b) (above b a) (a == b) ≡ true
  -- a code above a second is above all that the second is above
  pub chain :
      (a b c : ℕ) → valid a ≡ true → valid b ≡ true → valid c ≡ true
      → above a b ≡ true → above b c ≡ true → above a c ≡ true
