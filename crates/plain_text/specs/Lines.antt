-- The lines of a text. A line ends at byte 10 or at the text's end, and a last byte 10 begins no
-- further line. An empty text is one empty line.
use Rattle.std.specs.Prelude.{ℕ, if◌then◌else◌, List, [], ◌∷◌, Some, None, Option, ◌==◌}
use Rattle.plain_text.specs.declared.lines.Lines.{Lines}
use Rattle.std.specs.Borrow.{Bor}
use Rattle.std.specs.List.{onto_first}

abbrev pub ended : List ℕ → List (List ℕ)
ended [] = []
ended (b ∷ bs) = if b == 10 then [] ∷ ended bs else onto_first b (ended bs)

abbrev pub lines_of : List ℕ → List (List ℕ)
lines_of [] = [] ∷ []
lines_of (b ∷ bs) = ended (b ∷ bs)

abbrev pub lines_in : Option (Bor (List ℕ)) → List (List ℕ)
lines_in None = []
lines_in (Some bs) = lines_of bs.now

-- the lines that are still to come
abbrev pub left_of : Lines → List (List ℕ)
left_of l = lines_in l.rest
