-- Every line of a list of lines with their answers.
use Rattle.pages.specs.Lines.{Event}
use Rattle.std.specs.Prelude.{List, [], ◌∷◌}

abbrev pub Each : (Event → Type 0) → List Event → Type 0
Each P [] = Unit {0}
Each P (e ∷ h) = P e × Each P h
