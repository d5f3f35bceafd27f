-- Where a table keeps the code of a pair, and what a code in a cell stands for.
use Rattle.std.specs.Prelude.{ℕ, ◌+◌, ◌-◌, ◌*◌, if◌then◌else◌, Some, None, Option, ◌==◌}

-- rows of 64, whatever the sizes
abbrev pub place : ℕ → ℕ → ℕ
place i j = (i - 1) * 64 + (j - 1)

-- code 0 means no grade
abbrev pub grade_in : ℕ → Option ℕ
grade_in code = if code == 0 then None else Some code
