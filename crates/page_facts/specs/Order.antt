-- Which of several reasons that hold at once a line is refused for.
use Rattle.std.specs.Prelude.{◌≡◌, ℕ, ◌<◌, true, false, ◌⊎◌, List, ◌∷◌, length, Some, None, ◌≢◌}
use Rattle.books.specs.Limits.{inside}
use Rattle.books.specs.Meaning.{standing}
use Rattle.file_format.specs.Rules.{Faulty}
use Rattle.page_facts.specs.Rights.{among, roles_for}
use Rattle.pages.specs.Answers.{Page}
use Rattle.pages.specs.Lines.{Opening, Event, Call, Outcome}
use Rattle.pages.specs.Reasons.{file_expected}
use Rattle.pages.specs.Standing.{Drawn, grade_at, out_at, published_at}
use Rattle.refusals.specs.declared.fault.Fault.{Fault}
use Rattle.refusals.specs.declared.refusal.Refusal.{Refusal}
use Rattle.refusals.specs.declared.refusal.Refusal.TheVariants as refusal

-- a line of a page whose role may make its call
pub record LetIn (o : Opening) (above : List Event) (e : Event) : Type 0 where
  pub page : Page o (e ∷ above)
  pub role : among e.line.role (roles_for e.line.call) ≡ true

-- and no slip is out above it
pub record AtIdle (o : Opening) (above : List Event) (e : Event) : Type 0 where
  pub line : LetIn o above e
  pub idle : out_at o.packages above ≡ None

abbrev pub Answers : Event → Refusal → Type 0
Answers e r = e.answer.outcome ≡ Outcome.refused r

-- grade, strike, load and draw while a slip is out: 3, whatever the place, code, file and buffers
abbrev pub SlipOutFirst : Type 0
SlipOutFirst =
    (o : Opening) (above : List Event) (e : Event) (d : Drawn) → LetIn o above e → out_at o.packages above ≡ Some d
    → ((a b code : ℕ) → e.line.call ≡ Call.grade a b code → Answers e refusal.SlipOut)
    × ((a b : ℕ) → e.line.call ≡ Call.strike a b → Answers e refusal.SlipOut)
    × ((file : List ℕ) → e.line.call ≡ Call.load file → Answers e refusal.SlipOut)
    × (e.line.call ≡ Call.draw → Answers e refusal.SlipOut)

-- publish and withdraw without a slip out, or with a slip of another tag: 4
abbrev pub WrongSlips : Type 0
WrongSlips =
    (o : Opening) (above : List Event) (e : Event) (tag : ℕ) → LetIn o above e
    → (out_at o.packages above ≡ None) ⊎ (tag ≢ o.tag)
    → (e.line.call ≡ Call.publish tag → Answers e refusal.WrongSlip)
    × (e.line.call ≡ Call.withdraw tag → Answers e refusal.WrongSlip)

-- grade outside the sizes: 6, whatever the code; inside with a code that is not valid: 7, also where
-- as many grades stand as the limit; then a new pair at the limit: 11
abbrev pub GradeLinesInOrder : Type 0
GradeLinesInOrder =
    (o : Opening) (above : List Event) (e : Event) (a b code : ℕ) → AtIdle o above e → e.line.call ≡ Call.grade a b code
    → (inside o.packages o.translators a b ≡ false → Answers e refusal.Place)
    × (inside o.packages o.translators a b ≡ true → o.valid code ≡ false → Answers e refusal.Grade)
    × (inside o.packages o.translators a b ≡ true → o.valid code ≡ true → grade_at above a b ≡ None
    → standing (grade_at above) o.packages o.translators ≡ o.limit → Answers e refusal.Full)

-- strike outside the sizes: 6, though no grade stands there; inside without a grade: 8
abbrev pub StrikesInOrder : Type 0
StrikesInOrder =
    (o : Opening) (above : List Event) (e : Event) (a b : ℕ) → AtIdle o above e → e.line.call ≡ Call.strike a b
    → (inside o.packages o.translators a b ≡ false → Answers e refusal.Place)
    × (inside o.packages o.translators a b ≡ true → grade_at above a b ≡ None → Answers e refusal.NothingThere)

-- load into a sheet with a grade: 5, whatever the file; without one a faulty file: 10 with its fault,
-- whatever its count
abbrev pub LoadsInOrder : Type 0
LoadsInOrder =
    (o : Opening) (above : List Event) (e : Event) (file : List ℕ) → AtIdle o above e → e.line.call ≡ Call.load file
    → ((i j code : ℕ) → grade_at above i j ≡ Some code → Answers e refusal.NotEmpty)
    × (((i j : ℕ) → grade_at above i j ≡ None) → (f : Fault) → Faulty (file_expected o) file f → Answers e (refusal.File f))

-- draw with either buffer too short: 9, whether there is a plan or not
abbrev pub DrawsNeedRoom : Type 0
DrawsNeedRoom =
    (o : Opening) (above : List Event) (e : Event) → AtIdle o above e → e.line.call ≡ Call.draw
    → (length e.line.plan < o.packages) ⊎ (length e.line.set < o.packages) → Answers e refusal.Space

-- show before any publish: 8, whatever the buffer; after one a buffer too short: 9, also while a slip is out
abbrev pub ShowsInOrder : Type 0
ShowsInOrder =
    (o : Opening) (above : List Event) (e : Event) → LetIn o above e → e.line.call ≡ Call.show
    → (published_at o.packages above ≡ None → Answers e refusal.NothingThere)
    × ((d : Drawn) → published_at o.packages above ≡ Some d → length e.line.plan < o.packages → Answers e refusal.Space)
