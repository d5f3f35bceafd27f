-- What stands after a history, by the history alone: the grade of each pair, the drawn plan whose
-- slip is out, and the published plan. A history lists its newest line first, so that the lines
-- above a line are the rest of the list.
use Rattle.std.specs.Prelude.{ℕ, if◌then◌else◌, ◌&&◌, List, [], ◌∷◌, take, Some, None, Option, ◌==◌}
use Rattle.pages.specs.Lines.{Line, Answer, Event, Call, Outcome}
use Rattle.file_format.specs.FileOf.{grade_in}

pub record Drawn : Type 0 where
  pub plan : List ℕ
  pub lowest : ℕ

pub record Standing : Type 0 where
  pub grade : ℕ → ℕ → Option ℕ
  pub out : Option Drawn
  pub published : Option Drawn

abbrev pub first_of : Option ℕ → Option ℕ → Option ℕ
first_of (Some code) old = Some code
first_of None old = old

-- what an accepted call makes of the grade of the pair i, j; a load is one grade line for each of
-- its records
abbrev pub regraded : Call → ℕ → ℕ → Option ℕ → Option ℕ
regraded (Call.grade a b code) i j old = if i == a && j == b then Some code else old
regraded (Call.strike a b) i j old = if i == a && j == b then None else old
regraded (Call.load file) i j old = first_of (grade_in file i j) old
regraded Call.draw i j old = old
regraded (Call.publish tag) i j old = old
regraded (Call.withdraw tag) i j old = old
regraded Call.show i j old = old

-- a grade line, a strike and a load are accepted with `done`
abbrev pub grade_by : Outcome → Call → ℕ → ℕ → Option ℕ → Option ℕ
grade_by Outcome.done c i j old = regraded c i j old
grade_by (Outcome.drawn code) c i j old = old
grade_by Outcome.short c i j old = old
grade_by (Outcome.shown code) c i j old = old
grade_by (Outcome.refused r) c i j old = old

abbrev pub grade_at : List Event → ℕ → ℕ → Option ℕ
grade_at [] i j = None
grade_at (e ∷ above) i j = grade_by e.answer.outcome e.line.call i j (grade_at above i j)

-- the drawn plan that an accepted call leaves out: none where it spends the slip
abbrev pub out_by_done : Call → Option Drawn → Option Drawn
out_by_done (Call.grade a b code) old = old
out_by_done (Call.strike a b) old = old
out_by_done (Call.load file) old = old
out_by_done Call.draw old = old
out_by_done (Call.publish tag) old = None
out_by_done (Call.withdraw tag) old = None
out_by_done Call.show old = old

-- the plan that a draw wrote into the first p places, with the code that it answered
abbrev pub out_by : ℕ → Outcome → Call → List ℕ → Option Drawn → Option Drawn
out_by p Outcome.done c plan old = out_by_done c old
out_by p (Outcome.drawn code) c plan old = Some (record { plan = take p plan; lowest = code })
out_by p Outcome.short c plan old = old
out_by p (Outcome.shown code) c plan old = old
out_by p (Outcome.refused r) c plan old = old

-- the plan of the last draw answered drawn, if no accepted publish or withdraw came after it
abbrev pub out_at : ℕ → List Event → Option Drawn
out_at p [] = None
out_at p (e ∷ above) = out_by p e.answer.outcome e.line.call e.answer.plan (out_at p above)

abbrev pub published_by_done : Call → Option Drawn → Option Drawn → Option Drawn
published_by_done (Call.grade a b code) out old = old
published_by_done (Call.strike a b) out old = old
published_by_done (Call.load file) out old = old
published_by_done Call.draw out old = old
published_by_done (Call.publish tag) out old = out
published_by_done (Call.withdraw tag) out old = old
published_by_done Call.show out old = old

abbrev pub published_by : Outcome → Call → Option Drawn → Option Drawn → Option Drawn
published_by Outcome.done c out old = published_by_done c out old
published_by (Outcome.drawn code) c out old = old
published_by Outcome.short c out old = old
published_by (Outcome.shown code) c out old = old
published_by (Outcome.refused r) c out old = old

-- the plan whose slip the last accepted publish spent
abbrev pub published_at : ℕ → List Event → Option Drawn
published_at p [] = None
published_at p (e ∷ above) =
    published_by e.answer.outcome e.line.call (out_at p above) (published_at p above)

-- what one line leaves, with its answer, of what stood above it
abbrev pub next : ℕ → Standing → Line → Answer → Standing
next p s l a =
    record {
      grade = λ i j. grade_by a.outcome l.call i j (s.grade i j);
      out = out_by p a.outcome l.call a.plan s.out;
      published = published_by a.outcome l.call s.out s.published;
    }

abbrev pub standing : ℕ → List Event → Standing
standing p h = record { grade = grade_at h; out = out_at p h; published = published_at p h }
