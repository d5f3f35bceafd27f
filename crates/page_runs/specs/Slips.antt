-- The slip that the program holds, by its tag.
use Rattle.std.specs.Prelude.{◌≡◌, ℕ, Some, None, Option}
use Rattle.pages.specs.Standing.{Drawn}

-- the slip of a plan that is out bears tag 1
abbrev pub slip_for : Option Drawn → Option ℕ
slip_for None = None
slip_for (Some d) = Some 1

-- a call is given the slip that was held, or none, and what is kept is then none, or what was held
abbrev pub Gives : Option ℕ → Option ℕ → Option ℕ → Type 0
Gives None held kept = kept ≡ held
Gives (Some tag) held kept = (held ≡ Some tag) × (kept ≡ None)
