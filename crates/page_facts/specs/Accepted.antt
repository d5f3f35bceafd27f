-- Which lines are not refused: for each call, all that has to hold.
use Rattle.std.specs.Prelude.{◌≡◌, ℕ, ◌<◌, ◌≤◌, true, ◌⊎◌, List, length, Some, None, ◌≢◌}
use Rattle.books.specs.Limits.{inside}
use Rattle.books.specs.Meaning.{standing}
use Rattle.file_format.specs.Layout.{count_in}
use Rattle.file_format.specs.Rules.{Right}
use Rattle.page_facts.specs.Order.{AtIdle, LetIn}
use Rattle.pages.specs.Lines.{Opening, Event, Call, Outcome}
use Rattle.pages.specs.Reasons.{file_expected}
use Rattle.pages.specs.Standing.{Drawn, grade_at, out_at, published_at}
use Rattle.refusals.specs.declared.refusal.Refusal.{Refusal}

abbrev pub Accepted : Event → Type 0
Accepted e = (r : Refusal) → e.answer.outcome ≢ Outcome.refused r

-- an old pair is graded anew even where as many grades stand as the limit
abbrev pub GoodGrades : Type 0
GoodGrades =
    (o : Opening) (above : List Event) (e : Event) (a b code : ℕ) → AtIdle o above e → e.line.call ≡ Call.grade a b code
    → inside o.packages o.translators a b ≡ true → o.valid code ≡ true
    → ((old : ℕ) × (grade_at above a b ≡ Some old)) ⊎ (standing (grade_at above) o.packages o.translators < o.limit)
    → Accepted e

abbrev pub GoodStrikes : Type 0
GoodStrikes =
    (o : Opening) (above : List Event) (e : Event) (a b code : ℕ) → AtIdle o above e → e.line.call ≡ Call.strike a b
    → inside o.packages o.translators a b ≡ true → grade_at above a b ≡ Some code → Accepted e

-- as many records as the limit are not too many
abbrev pub GoodLoads : Type 0
GoodLoads =
    (o : Opening) (above : List Event) (e : Event) (file : List ℕ) → AtIdle o above e → e.line.call ≡ Call.load file
    → ((i j : ℕ) → grade_at above i j ≡ None) → Right (file_expected o) file → count_in file ≤ o.limit → Accepted e

-- buffers of exactly p places are long enough
abbrev pub GoodDraws : Type 0
GoodDraws =
    (o : Opening) (above : List Event) (e : Event) → AtIdle o above e → e.line.call ≡ Call.draw
    → o.packages ≤ length e.line.plan → o.packages ≤ length e.line.set → Accepted e

-- any slip with the sheet's tag is taken while one is out
abbrev pub GoodSlips : Type 0
GoodSlips =
    (o : Opening) (above : List Event) (e : Event) (d : Drawn) → LetIn o above e → out_at o.packages above ≡ Some d
    → (e.line.call ≡ Call.publish o.tag) ⊎ (e.line.call ≡ Call.withdraw o.tag) → Accepted e

-- also while a slip is out
abbrev pub GoodShows : Type 0
GoodShows =
    (o : Opening) (above : List Event) (e : Event) (d : Drawn) → LetIn o above e → e.line.call ≡ Call.show
    → published_at o.packages above ≡ Some d → o.packages ≤ length e.line.plan → Accepted e
