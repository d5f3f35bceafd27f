-- What the definition of the standing grades says of the line just answered, and of whole histories.
use Rattle.std.specs.Prelude.{◌≡◌, ℕ, ◌≤◌, List, ◌∷◌, ◌++◌, Some, None}
use Rattle.books.specs.Meaning.{standing}
use Rattle.file_format.specs.FileOf.{grade_in}
use Rattle.page_facts.specs.Lists.{Each}
use Rattle.pages.specs.Answers.{Page}
use Rattle.pages.specs.Lines.{Opening, Event, Call, Outcome}
use Rattle.pages.specs.Standing.{grade_at}
use Rattle.refusals.specs.declared.refusal.Refusal.{Refusal}

-- on no page do more grades stand than the limit
abbrev pub LimitIsKept : Type 0
LimitIsKept = (o : Opening) (h : List Event) → Page o h → standing (grade_at h) o.packages o.translators ≤ o.limit

-- every pair but this one is as it was above the line
abbrev pub OthersAsBefore : Event → List Event → ℕ → ℕ → Type 0
OthersAsBefore e above a b =
    (i j : ℕ) → ((i ≡ a) × (j ≡ b) → ⊥) → grade_at (e ∷ above) i j ≡ grade_at above i j

-- right after an accepted grade line its code stands for its pair
abbrev pub GradedPairsStand : Type 0
GradedPairsStand =
    (above : List Event) (e : Event) (a b code : ℕ) → e.line.call ≡ Call.grade a b code → e.answer.outcome ≡ Outcome.done
    → (grade_at (e ∷ above) a b ≡ Some code) × OthersAsBefore e above a b

-- an accepted strike is of a pair with a grade, and right after it none stands there
abbrev pub StruckPairsAreFree : Type 0
StruckPairsAreFree =
    (o : Opening) (above : List Event) (e : Event) (a b : ℕ) → Page o (e ∷ above) → e.line.call ≡ Call.strike a b
    → e.answer.outcome ≡ Outcome.done
    → ((code : ℕ) × (grade_at above a b ≡ Some code)) × (grade_at (e ∷ above) a b ≡ None) × OthersAsBefore e above a b

-- right after an accepted load exactly the grades of its file stand
abbrev pub LoadedGradesStand : Type 0
LoadedGradesStand =
    (o : Opening) (above : List Event) (e : Event) (file : List ℕ) → Page o (e ∷ above) → e.line.call ≡ Call.load file
    → e.answer.outcome ≡ Outcome.done → (i j : ℕ) → grade_at (e ∷ above) i j ≡ grade_in file i j

-- a refused line of any call, and any line of the four calls that grade nothing
pub data GradesNothing (e : Event) : Type 0 where
  refused : (r : Refusal) → e.answer.outcome ≡ Outcome.refused r → GradesNothing e
  draw : e.line.call ≡ Call.draw → GradesNothing e
  publish : (tag : ℕ) → e.line.call ≡ Call.publish tag → GradesNothing e
  withdraw : (tag : ℕ) → e.line.call ≡ Call.withdraw tag → GradesNothing e
  show : e.line.call ≡ Call.show → GradesNothing e

abbrev pub OtherLinesLeaveTheGrades : Type 0
OtherLinesLeaveTheGrades =
    (above : List Event) (e : Event) → GradesNothing e → (i j : ℕ) → grade_at (e ∷ above) i j ≡ grade_at above i j

-- a pair that is struck and graded again stands again
abbrev pub RegradedPairsStand : Type 0
RegradedPairsStand =
    (above : List Event) (e f : Event) (a b code : ℕ)
    → e.line.call ≡ Call.strike a b → e.answer.outcome ≡ Outcome.done
    → f.line.call ≡ Call.grade a b code → f.answer.outcome ≡ Outcome.done
    → (grade_at (e ∷ above) a b ≡ None) × (grade_at (f ∷ e ∷ above) a b ≡ Some code)

-- an accepted line that gives the pair i, j this code: a grade line for the pair, or a load of a
-- file that has the pair with the code
pub data Gives (i j code : ℕ) (e : Event) : Type 0 where
  graded : e.line.call ≡ Call.grade i j code → e.answer.outcome ≡ Outcome.done → Gives i j code e
  loaded :
      (file : List ℕ) → e.line.call ≡ Call.load file → grade_in file i j ≡ Some code → e.answer.outcome ≡ Outcome.done
      → Gives i j code e

-- an accepted strike of the pair
pub record Strikes (i j : ℕ) (e : Event) : Type 0 where
  pub call : e.line.call ≡ Call.strike i j
  pub outcome : e.answer.outcome ≡ Outcome.done

pub record Silent (i j : ℕ) (e : Event) : Type 0 where
  pub gives : (code : ℕ) → Gives i j code e → ⊥
  pub strikes : Strikes i j e → ⊥

-- a line that gave the pair the code, after which no line gave or struck the pair
pub record StandsSince (i j code : ℕ) (h : List Event) : Type 0 where
  pub below : List Event
  pub line : Event
  pub above : List Event
  pub is : h ≡ below ++ line ∷ above
  pub gives : Gives i j code line
  pub silent : Each (Silent i j) below

-- a grade stands exactly where it is that of the last accepted line for its pair
abbrev pub LastLineDecides : Type 0
LastLineDecides =
    (h : List Event) (i j code : ℕ)
    → (grade_at h i j ≡ Some code → StandsSince i j code h) × (StandsSince i j code h → grade_at h i j ≡ Some code)
