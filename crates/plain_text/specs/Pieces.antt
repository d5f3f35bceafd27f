-- A text cut at every place where a byte stands: one piece or more, none with that byte.
use Rattle.std.specs.Prelude.{ℕ, List, [], Some, None, Option, ◌==◌}
use Rattle.std.specs.Borrow.{Bor}
use Rattle.std.specs.List.{slice_split}

abbrev pub pieces : ℕ → List ℕ → List (List ℕ)
pieces cut bs = slice_split (λ b. b == cut) bs

-- the pieces of what follows a cut, none where nothing was cut
abbrev pub pieces_in : ℕ → Option (Bor (List ℕ)) → List (List ℕ)
pieces_in cut None = []
pieces_in cut (Some bs) = pieces cut bs.now
