-- What each outcome tells, on every page: refused, drawn, short and shown lines.
use Rattle.std.specs.Prelude.{◌≡◌, ℕ, true, ◌⊎◌, List, ◌∷◌, take, Some, None, ◌≢◌}
use Rattle.matching.specs.Plans.{FullPlan}
use Rattle.bottleneck.specs.Grades.{graded}
use Rattle.pages.specs.Answers.{Page, Drawing, Lacking, Showing, Untouched, says_done}
use Rattle.pages.specs.Files.{SameForm}
use Rattle.pages.specs.Lines.{Opening, Event, Call, Outcome}
use Rattle.pages.specs.Reasons.{FirstReason, slip_of}
use Rattle.pages.specs.Standing.{Drawn, standing, grade_at, published_at}
use Rattle.refusals.specs.declared.refusal.Refusal.{Refusal}

-- a line is refused exactly for the first reason that holds by the lines above it; its buffers stay
-- as they were, and a slip that it was given is handed back
abbrev pub RefusedForTheFirstReason : Type 0
RefusedForTheFirstReason =
    (o : Opening) (above : List Event) (e : Event) (r : Refusal) → Page o (e ∷ above)
    → (e.answer.outcome ≡ Outcome.refused r
    → FirstReason o (standing o.packages above) e.line r × (e.answer.slip ≡ slip_of e.line.call)
    × Untouched e.line e.answer)
    × (FirstReason o (standing o.packages above) e.line r → e.answer.outcome ≡ Outcome.refused r)

-- drawn: the best plan by the standing grades, its lowest code, a tight set and a slip
abbrev pub DrawnLinesHaveTheBestPlan : Type 0
DrawnLinesHaveTheBestPlan =
    (o : Opening) (above : List Event) (e : Event) (code : ℕ) → Page o (e ∷ above) → e.answer.outcome ≡ Outcome.drawn code
    → (e.line.call ≡ Call.draw) × Drawing o (grade_at above) e.line e.answer code

-- short: no full plan by the standing grades, and a short set
abbrev pub ShortLinesHaveNoPlan : Type 0
ShortLinesHaveNoPlan =
    (o : Opening) (above : List Event) (e : Event) → Page o (e ∷ above) → e.answer.outcome ≡ Outcome.short
    → (e.line.call ≡ Call.draw) × Lacking o (grade_at above) e.line e.answer

-- a draw that is not refused is drawn where there is a full plan, and else short
abbrev pub DrawnWhereThereIsAPlan : Type 0
DrawnWhereThereIsAPlan =
    (o : Opening) (above : List Event) (e : Event) → Page o (e ∷ above) → e.line.call ≡ Call.draw
    → ((r : Refusal) → e.answer.outcome ≢ Outcome.refused r)
    → (((code : ℕ) × (e.answer.outcome ≡ Outcome.drawn code))
    × ((plan : List ℕ) × FullPlan (graded (grade_at above)) o.packages o.translators plan))
    ⊎ ((e.answer.outcome ≡ Outcome.short)
    × ((plan : List ℕ) → FullPlan (graded (grade_at above)) o.packages o.translators plan → ⊥))

-- a show that is not refused gives the plan whose slip the last accepted publish spent, with its
-- lowest code as drawn
abbrev pub ShowsGiveThePublishedPlan : Type 0
ShowsGiveThePublishedPlan =
    (o : Opening) (above : List Event) (e : Event) → Page o (e ∷ above) → e.line.call ≡ Call.show
    → ((r : Refusal) → e.answer.outcome ≢ Outcome.refused r)
    → (d : Drawn) × (published_at o.packages above ≡ Some d) × (e.answer.outcome ≡ Outcome.shown d.lowest)
    × Showing o e.line e.answer d

-- any other call that is not refused is done: it hands out no slip and leaves its buffers as they were
abbrev pub OtherCallsAreDone : Type 0
OtherCallsAreDone =
    (o : Opening) (above : List Event) (e : Event) → Page o (e ∷ above) → says_done e.line.call ≡ true
    → ((r : Refusal) → e.answer.outcome ≢ Outcome.refused r)
    → (e.answer.outcome ≡ Outcome.done) × (e.answer.slip ≡ None) × Untouched e.line e.answer

-- two sheets of one kind and the same sizes on which the same grades stand draw the same
abbrev pub SameGradesSamePlan : Type 0
SameGradesSamePlan =
    (o q : Opening) (above upper : List Event) (e f : Event) → SameForm o q → Page o (e ∷ above) → Page q (f ∷ upper)
    → ((i j : ℕ) → grade_at above i j ≡ grade_at upper i j) → e.line.call ≡ Call.draw → f.line.call ≡ Call.draw
    → ((r : Refusal) → e.answer.outcome ≢ Outcome.refused r) → ((r : Refusal) → f.answer.outcome ≢ Outcome.refused r)
    → (e.answer.outcome ≡ f.answer.outcome)
    × ((code : ℕ) → e.answer.outcome ≡ Outcome.drawn code
    → take o.packages e.answer.plan ≡ take q.packages f.answer.plan)
