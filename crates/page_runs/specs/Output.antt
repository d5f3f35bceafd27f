-- Which output an input has, and that no input has two. A history lists its newest line first.
use Rattle.std.specs.Prelude.{◌≡◌, ℕ, ◌<◌, ◌≤◌, Bool, true, false, not, ◌&&◌, List, [], ◌∷◌, ◌++◌, length, is_some, Some, None, Option}
use Rattle.books.specs.Limits.{within}
use Rattle.page_runs.specs.Asks.{opening_with, asks, line_for, sizes_for, told_as, event}
use Rattle.page_text.specs.Commands.{Said, said_by}
use Rattle.page_text.specs.Replies.{Told, line_of}
use Rattle.pages.specs.Answers.{Page}
use Rattle.pages.specs.Lines.{Opening, Line, Answer, Event, Call, Outcome}
use Rattle.pages.specs.Reasons.{slip_of}
use Rattle.pages.specs.Standing.{Drawn, out_at}
use Rattle.plain_text.specs.Lines.{lines_of}
use Rattle.refusals.specs.Refusals.{number_of}
use Rattle.refusals.specs.declared.refusal.Refusal.TheVariants as refusal

-- The program holds a slip while one is out. A line that gives a slip needs one.
abbrev pub lacks_slip : Line → Option Drawn → Bool
lacks_slip l out = is_some (slip_of l.call) && not (is_some out)

-- After the history h a command is told t and leaves the history k: it stands for no call; or it
-- needs a slip, and none is out; or it is one more line of the page, told by its answer.
pub data Tells (o : Opening) (h : List Event) (c : Said) (t : Told) (k : List Event) : Type 0 where
  bad_line : line_for c ≡ None → t ≡ Told.bad_line → k ≡ h → Tells o h c t k
  no_slip :
      (l : Line) → line_for c ≡ Some l → lacks_slip l (out_at o.packages h) ≡ true → t ≡ Told.no_slip → k ≡ h
      → Tells o h c t k
  called :
      (l : Line) (a : Answer) → line_for c ≡ Some l → lacks_slip l (out_at o.packages h) ≡ false
      → Page o (event l a ∷ h) → t ≡ told_as o.packages a.outcome a.plan → k ≡ event l a ∷ h → Tells o h c t k

-- After the last line a slip that is out is withdrawn by a manager, and this is told.
pub data Closes (o : Opening) (h : List Event) (out : List ℕ) : Type 0 where
  idle : is_some (out_at o.packages h) ≡ false → out ≡ [] → Closes o h out
  withdrawn :
      is_some (out_at o.packages h) ≡ true → (a : Answer) → Page o (event (asks 3 (Call.withdraw 1)) a ∷ h)
      → a.outcome ≡ Outcome.done → out ≡ line_of Told.withdrawn → Closes o h out

-- the output of the lines that follow a history
abbrev pub Follows : Opening → List Event → List (List ℕ) → List ℕ → Type 0
Follows o h [] out = Closes o h out
Follows o h (l ∷ ls) out =
    (t : Told) × (k : List Event) × (more : List ℕ) × Tells o h (said_by l) t k × (out ≡ line_of t ++ more) × Follows o k ls more

-- The first line opens the sheet, or ends the run: no later line is looked at.
pub data Starts (c : Said) (ls : List (List ℕ)) (out : List ℕ) : Type 0 where
  bad_line : sizes_for c ≡ None → out ≡ line_of Told.bad_line → Starts c ls out
  refused :
      (p t : ℕ) → sizes_for c ≡ Some (p, t) → within p t ≡ false → out ≡ line_of (Told.refused (number_of refusal.Size))
      → Starts c ls out
  opened :
      (p t : ℕ) → sizes_for c ≡ Some (p, t) → within p t ≡ true → (more : List ℕ) → out ≡ line_of Told.ok ++ more
      → Follows (opening_with p t) [] ls more → Starts c ls out

-- every input has a first line
abbrev pub Begins : List (List ℕ) → List ℕ → Type 0
Begins [] out = out ≡ line_of Told.bad_line
Begins (l ∷ ls) out = Starts (said_by l) ls out

-- the output of an input, both as bytes
pub data Output (input out : List ℕ) : Type 0 where
  too_long : 32768 < length input → out ≡ line_of Told.too_long → Output input out
  read : length input ≤ 32768 → Begins (lines_of input) out → Output input out

abbrev pub RulesDetermineTheOutput : Type 0
RulesDetermineTheOutput = (input out other : List ℕ) → Output input out → Output input other → out ≡ other
