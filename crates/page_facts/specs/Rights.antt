-- Which role may make which call: 1 reader, 2 editor, 3 manager.
use Rattle.std.specs.Prelude.{◌≡◌, ℕ, Bool, false, ◌||◌, List, [], ◌∷◌, ◌==◌}
use Rattle.pages.specs.Answers.{Page}
use Rattle.pages.specs.Lines.{Opening, Event, Call, Outcome}
use Rattle.refusals.specs.declared.refusal.Refusal.TheVariants as refusal

abbrev pub roles_for : Call → List ℕ
roles_for (Call.grade a b code) = 2 ∷ 3 ∷ []
roles_for (Call.strike a b) = 3 ∷ []
roles_for (Call.load file) = 3 ∷ []
roles_for Call.draw = 2 ∷ 3 ∷ []
roles_for (Call.publish tag) = 3 ∷ []
roles_for (Call.withdraw tag) = 2 ∷ 3 ∷ []
roles_for Call.show = 1 ∷ 2 ∷ 3 ∷ []

abbrev pub among : ℕ → List ℕ → Bool
among r [] = false
among r (x ∷ xs) = r == x || among r xs

-- a line is refused for its role exactly where its role is not listed for its call, whatever else holds
abbrev pub RolesByTheTable : Type 0
RolesByTheTable =
    (o : Opening) (above : List Event) (e : Event) → Page o (e ∷ above)
    → (e.answer.outcome ≡ Outcome.refused refusal.Role → among e.line.role (roles_for e.line.call) ≡ false)
    × (among e.line.role (roles_for e.line.call) ≡ false → e.answer.outcome ≡ Outcome.refused refusal.Role)
