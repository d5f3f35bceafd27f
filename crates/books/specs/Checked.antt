-- What checking two numbers as the sizes of a book answers: the sizes, or that they are refused.
use Rattle.std.specs.Prelude.{ℕ, if◌then◌else◌, Ok, Err, Result}
use Rattle.books.specs.Limits.{within}
use Rattle.books.specs.declared.sizes.Sizes.{Sizes}
use Rattle.refusals.specs.declared.refusal.Refusal.{Refusal}
use Rattle.refusals.specs.declared.refusal.Refusal.TheVariants.{Size}

-- checked sizes as two numbers
abbrev pub checked : Result Sizes Refusal → Result (ℕ × ℕ) Refusal
checked (Ok s) = Ok (s.packages, s.translators)
checked (Err e) = Err e

abbrev pub sizes_of : ℕ → ℕ → Result (ℕ × ℕ) Refusal
sizes_of p t = if within p t then Ok (p, t) else Err Size
