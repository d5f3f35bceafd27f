-- What the lines of a page leave in their buffers.
use Rattle.std.specs.Prelude.{◌≡◌, ℕ, ◌+◌, ◌<◌, ◌≤◌, true, ◌⊎◌, List, ◌∷◌, length, Some, Option, ◌≢◌, nat_eq, slice_index}
use Rattle.augmenting.specs.Sets.{OneFewer}
use Rattle.bottleneck.specs.Grades.{graded, graded_above}
use Rattle.pages.specs.Answers.{Page}
use Rattle.pages.specs.Lines.{Opening, Event, Outcome}
use Rattle.pages.specs.Standing.{grade_at}
use Rattle.refusals.specs.declared.refusal.Refusal.{Refusal}

-- the same length, and the same at every place from p on
pub record SameFrom (p : ℕ) (before after : List ℕ) : Type 0 where
  pub long : length after ≡ length before
  pub rest : (k : ℕ) → p ≤ k → slice_index after k ≡ slice_index before k

-- whatever the call and the outcome
abbrev pub LaterPlacesNeverChange : Type 0
LaterPlacesNeverChange =
    (o : Opening) (above : List Event) (e : Event) → Page o (e ∷ above)
    → SameFrom o.packages e.line.plan e.answer.plan × SameFrom o.packages e.line.set e.answer.set

-- a refused or done line leaves both buffers, a short one the plan's and a shown one the set's
pub record WritesLittle : Type 0 where
  pub refused :
      (o : Opening) (above : List Event) (e : Event) (r : Refusal) → Page o (e ∷ above) → e.answer.outcome ≡ Outcome.refused r
      → (e.answer.plan ≡ e.line.plan) × (e.answer.set ≡ e.line.set)
  pub done :
      (o : Opening) (above : List Event) (e : Event) → Page o (e ∷ above) → e.answer.outcome ≡ Outcome.done
      → (e.answer.plan ≡ e.line.plan) × (e.answer.set ≡ e.line.set)
  pub short :
      (o : Opening) (above : List Event) (e : Event) → Page o (e ∷ above) → e.answer.outcome ≡ Outcome.short
      → e.answer.plan ≡ e.line.plan
  pub shown :
      (o : Opening) (above : List Event) (e : Event) (code : ℕ) → Page o (e ∷ above) → e.answer.outcome ≡ Outcome.shown code
      → e.answer.set ≡ e.line.set

-- What a drawn line has written, number by number: translators from 1 to t, none twice, each with a
-- standing grade for its package that is the code answered or above it, and one that is the code; and
-- bytes 0 and 1, of which the 1s are packages with one translator fewer above the code.
pub record DrawnInWords (o : Opening) (g : ℕ → ℕ → Option ℕ) (plan set : List ℕ) (code : ℕ) : Type 0 where
  pub numbers : (k : ℕ) → k < o.packages → (1 ≤ slice_index plan k) × (slice_index plan k ≤ o.translators)
  pub apart : (k l : ℕ) → k < l → l < o.packages → slice_index plan k ≢ slice_index plan l
  pub graded_so :
      (k : ℕ) → k < o.packages
      → (grade : ℕ) × (g (k + 1) (slice_index plan k) ≡ Some grade) × ((grade ≡ code) ⊎ (o.above grade code ≡ true))
  pub lowest : (k : ℕ) × (k < o.packages) × (g (k + 1) (slice_index plan k) ≡ Some code)
  pub bytes : (k : ℕ) → k < o.packages → (slice_index set k ≡ 0) ⊎ (slice_index set k ≡ 1)
  pub tight : OneFewer (graded_above o.above g code) o.packages o.translators (λ k. nat_eq (slice_index set k) 1)

abbrev pub DrawnLinesInWords : Type 0
DrawnLinesInWords =
    (o : Opening) (above : List Event) (e : Event) (code : ℕ) → Page o (e ∷ above) → e.answer.outcome ≡ Outcome.drawn code
    → DrawnInWords o (grade_at above) e.answer.plan e.answer.set code

-- bytes 0 and 1, of which the 1s are packages with one translator fewer
abbrev pub ShortLinesInWords : Type 0
ShortLinesInWords =
    (o : Opening) (above : List Event) (e : Event) → Page o (e ∷ above) → e.answer.outcome ≡ Outcome.short
    → ((k : ℕ) → k < o.packages → (slice_index e.answer.set k ≡ 0) ⊎ (slice_index e.answer.set k ≡ 1))
    × OneFewer (graded (grade_at above)) o.packages o.translators (λ k. nat_eq (slice_index e.answer.set k) 1)
