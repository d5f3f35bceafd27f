-- The right answer to a line, by what stands above it, and a page of lines that are all answered so.
use Rattle.std.specs.Prelude.{◌≡◌, ℕ, ◌≤◌, Bool, true, false, List, [], ◌∷◌, take, drop, Some, None, Option}
use Rattle.books.specs.Limits.{Within}
use Rattle.bottleneck.specs.Grades.{counted}
use Rattle.file_format.specs.Laws.{Bytes}
use Rattle.grades.specs.Order.{Order}
use Rattle.matching.specs.Answers.{member, Marks}
use Rattle.matching.specs.Plans.{BestPlan, NoPlan, ShortSet, TightSet}
use Rattle.pages.specs.Lines.{Opening, Line, Answer, Event, Call, Outcome}
use Rattle.pages.specs.Reasons.{FirstReason, NoReason, slip_of}
use Rattle.pages.specs.Standing.{Standing, Drawn, next, standing}
use Rattle.refusals.specs.declared.refusal.Refusal.{Refusal}

-- both buffers are as they were given
pub record Untouched (l : Line) (a : Answer) : Type 0 where
  pub plan : a.plan ≡ l.plan
  pub set : a.set ≡ l.set

-- A code that is not valid counts as no grade. On a page none such stands.
abbrev pub valid_only : Opening → (ℕ → ℕ → Option ℕ) → ℕ → ℕ → Option ℕ
valid_only o g i j = counted o.valid (g i j)

-- The best plan by these grades stands in the first p places and a tight set in the first p bytes, 1
-- for a member and 0 for any other; beyond p nothing changes. The slip bears the tag of the opening.
pub record Drawing (o : Opening) (g : ℕ → ℕ → Option ℕ) (l : Line) (a : Answer) (code : ℕ) : Type 0 where
  pub best : BestPlan o.above g o.packages o.translators (take o.packages a.plan) code
  pub plan_rest : drop o.packages a.plan ≡ drop o.packages l.plan
  pub tight : TightSet o.above g o.packages o.translators code (member a.set)
  pub marks : Marks o.packages l.set a.set
  pub slip : a.slip ≡ Some o.tag

-- There is no full plan: a short set stands in the first p bytes, and nothing else changes.
pub record Lacking (o : Opening) (g : ℕ → ℕ → Option ℕ) (l : Line) (a : Answer) : Type 0 where
  pub none : NoPlan g o.packages o.translators
  pub short : ShortSet g o.packages o.translators (member a.set)
  pub marks : Marks o.packages l.set a.set
  pub plan : a.plan ≡ l.plan
  pub slip : a.slip ≡ None

-- The published plan stands in the first p places; beyond p nothing changes.
pub record Showing (o : Opening) (l : Line) (a : Answer) (d : Drawn) : Type 0 where
  pub plan : take o.packages a.plan ≡ d.plan
  pub plan_rest : drop o.packages a.plan ≡ drop o.packages l.plan
  pub set : a.set ≡ l.set
  pub slip : a.slip ≡ None

-- the calls that are answered done
abbrev pub says_done : Call → Bool
says_done (Call.grade a b code) = true
says_done (Call.strike a b) = true
says_done (Call.load file) = true
says_done Call.draw = false
says_done (Call.publish tag) = true
says_done (Call.withdraw tag) = true
says_done Call.show = false

-- a file is a string of bytes, as every file that a program is lent is: no condition of acceptance
abbrev pub Given : Call → Type 0
Given (Call.grade a b code) = Unit {0}
Given (Call.strike a b) = Unit {0}
Given (Call.load file) = Bytes file
Given Call.draw = Unit {0}
Given (Call.publish tag) = Unit {0}
Given (Call.withdraw tag) = Unit {0}
Given Call.show = Unit {0}

-- A line is refused, and a slip that it was given is handed back; or no reason holds and it does
-- what it is for.
pub data Right (o : Opening) (s : Standing) (l : Line) (a : Answer) : Type 0 where
  refused :
      (r : Refusal) → a.outcome ≡ Outcome.refused r → FirstReason o s l r → a.slip ≡ slip_of l.call
      → Untouched l a → Right o s l a
  done :
      NoReason o s l → says_done l.call ≡ true → Given l.call → a.outcome ≡ Outcome.done → a.slip ≡ None → Untouched l a
      → Right o s l a
  drawn :
      NoReason o s l → l.call ≡ Call.draw → (code : ℕ) → a.outcome ≡ Outcome.drawn code
      → Drawing o (valid_only o s.grade) l a code → Right o s l a
  short : NoReason o s l → l.call ≡ Call.draw → a.outcome ≡ Outcome.short → Lacking o (valid_only o s.grade) l a → Right o s l a
  shown :
      NoReason o s l → l.call ≡ Call.show → (d : Drawn) → s.published ≡ Some d
      → a.outcome ≡ Outcome.shown d.lowest → Showing o l a d → Right o s l a

-- what an opening of a sheet keeps: the limits of sizes, limit and number, and the order of a kind
pub record Lawful (o : Opening) : Type 0 where
  pub sizes : Within o.packages o.translators
  pub limited : (64 ≤ o.limit) × (o.limit ≤ 3072)
  pub numbered : (1 ≤ o.number) × (o.number ≤ 255)
  pub order : Order o.valid o.above

-- every line is answered right by what stands above it
abbrev pub Page : Opening → List Event → Type 0
Page o [] = Lawful o
Page o (e ∷ above) = Right o (standing o.packages above) e.line e.answer × Page o above

-- One line run: it is answered right by what stood, the opening stays, and what stands afterwards is
-- what the line and its answer leave.
pub record Runs (o : Opening) (s : Standing) (l : Line) (a : Answer) (opening : Opening) (after : Standing) : Type 0 where
  pub right : Right o s l a
  pub opened : opening ≡ o
  pub left : after ≡ next o.packages s l a

-- A sheet that was opened so and has run these lines, with these answers: what stands on it is what
-- the history says.
pub record Ran (o : Opening) (h : List Event) (opening : Opening) (s : Standing) : Type 0 where
  pub page : Page o h
  pub opened : opening ≡ o
  pub stands : s ≡ standing o.packages h
