-- What a call for a plan from a table of codes says, and what it leaves in the places lent to it.
use Rattle.std.specs.Prelude.{◌≡◌, ℕ, ◌*◌, Bool, if◌then◌else◌, not, ◌&&◌, List, length, take, Some, None, Ok, Err, Option, Result, nat_le}
use Rattle.books.specs.Limits.{within}
use Rattle.exports.specs.Table.{grades_of}
use Rattle.exports.specs.declared.reply.Failure.{Failure}
use Rattle.exports.specs.declared.reply.Failure.TheVariants.{NoMemory, Refused}
use Rattle.exports.specs.declared.reply.Reply.{Reply}
use Rattle.exports.specs.declared.reply.Reply.TheVariants.{Done, Short}
use Rattle.matching.specs.Answers.{PlanWritten, ShortWritten}
use Rattle.refusals.specs.declared.refusal.Refusal.{Refusal}
use Rattle.refusals.specs.declared.refusal.Refusal.TheVariants as refusal

pub record Places : Type 0 where
  pub plan : List ℕ
  pub set : List ℕ
  pub lowest : ℕ

-- The first reason to refuse: bad sizes, codes that are not right in the kind, too few codes or
-- too little room.
abbrev pub reason : Bool → ℕ → ℕ → List ℕ → Places → Option Refusal
reason right p t codes lent =
    if not (within p t) then Some refusal.Size
    else if not right then Some refusal.Grade
    else if nat_le (p * t) (length codes) && nat_le p (length lent.plan) && nat_le p (length lent.set) then None
    else Some refusal.Space

-- The best plan by the table's grades, its code and a tight set; or a short set and nothing else.
-- A refusal leaves all as it was.
abbrev pub PlannedAs : (ℕ → ℕ → Bool) → Bool → ℕ → ℕ → List ℕ → Places → Places → Result Reply Failure → Type 0
PlannedAs above right p t codes lent left (Ok Done) =
    (reason right p t codes lent ≡ None)
    × PlanWritten above (grades_of p t codes) p t lent.plan lent.set left.plan left.set (take p left.plan) left.lowest
PlannedAs above right p t codes lent left (Ok Short) =
    (reason right p t codes lent ≡ None)
    × ShortWritten (grades_of p t codes) p t lent.plan lent.set left.plan left.set
    × (left.lowest ≡ lent.lowest)
PlannedAs above right p t codes lent left (Err NoMemory) = ⊥
PlannedAs above right p t codes lent left (Err (Refused why)) = (reason right p t codes lent ≡ Some why) × (left ≡ lent)
