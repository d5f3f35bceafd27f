-- A page as plain data: what a sheet is opened with, the lines that are called on it, and their
-- answers. A history lists its newest line first.
use Rattle.std.specs.Prelude.{ℕ, Bool, List, [], ◌∷◌, Option}
use Rattle.refusals.specs.declared.refusal.Refusal.{Refusal}

-- Sizes, limit, kind and tag, and nothing else: two openings with these the same are the same. The
-- kind is its number, its valid codes and their order.
pub record Opening : Type 0 where
  pub packages : ℕ
  pub translators : ℕ
  pub limit : ℕ
  pub number : ℕ
  pub valid : ℕ → Bool
  pub above : ℕ → ℕ → Bool
  pub tag : ℕ

pub data Call : Type 0 where
  -- package, translator, code
  grade : ℕ → ℕ → ℕ → Call
  -- package, translator
  strike : ℕ → ℕ → Call
  -- the bytes of a file
  load : List ℕ → Call
  draw : Call
  -- the tag of a slip
  publish : ℕ → Call
  withdraw : ℕ → Call
  show : Call

-- one call with all that it is given: a role, and a plan buffer and a set buffer of its own
pub record Line : Type 0 where
  pub role : ℕ
  pub call : Call
  pub plan : List ℕ
  pub set : List ℕ

pub data Outcome : Type 0 where
  done : Outcome
  -- the lowest code of the plan
  drawn : ℕ → Outcome
  short : Outcome
  shown : ℕ → Outcome
  refused : Refusal → Outcome

-- the outcome, the tag of a slip that is handed out or back, and what the buffers hold afterwards
pub record Answer : Type 0 where
  pub outcome : Outcome
  pub slip : Option ℕ
  pub plan : List ℕ
  pub set : List ℕ

pub record Event : Type 0 where
  pub line : Line
  pub answer : Answer

-- the history after more lines, these in the order in which they ran
abbrev pub run_on : List Event → List Event → List Event
run_on h [] = h
run_on h (e ∷ es) = run_on (e ∷ h) es
