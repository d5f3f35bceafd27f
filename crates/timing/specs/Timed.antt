-- What a call that draws the plan of a table of codes over a book answers, and what it leaves.
use Rattle.std.specs.Prelude.{◌≡◌, ℕ, Bool, if◌then◌else◌, ◌&&◌, ◌||◌, List, length, Some, None, Ok, Err, Option, Result, ◌==◌, nat_le}
use Rattle.books.specs.Limits.{within}
use Rattle.books.specs.Meaning.{count}
use Rattle.bottleneck.specs.Grades.{valid_grades}
use Rattle.grades.specs.Points.{valid_points, above_points}
use Rattle.grades.specs.Ratings.{valid_rating, above_rating}
use Rattle.matching.specs.Answers.{PlanWritten, ShortWritten}
use Rattle.matching.specs.Written.{numbers_of}
use Rattle.matching.specs.declared.into.Planned.{Planned}
use Rattle.refusals.specs.Refusals.{number_of}
use Rattle.refusals.specs.declared.refusal.Refusal.{Refusal}
use Rattle.refusals.specs.declared.refusal.Refusal.TheVariants as refusal
use Rattle.timing.specs.Table.{sheet_of}

-- kind 1 is points and 2 ratings
abbrev pub known : ℕ → Bool
known kind = kind == 1 || kind == 2

abbrev pub valid_in : ℕ → ℕ → Bool
valid_in kind = if kind == 1 then valid_points else valid_rating

abbrev pub above_in : ℕ → ℕ → ℕ → Bool
above_in kind = if kind == 1 then above_points else above_rating

-- The first reason to refuse: bad sizes, no such kind, more grades than the book's limit, or too
-- little room for the plan or the set.
abbrev pub reason_in_book : ℕ → ℕ → ℕ → List ℕ → List ℕ → List ℕ → Option Refusal
reason_in_book limit p t codes plan set =
    if nat_le (count (sheet_of p t codes)) limit
    then (if nat_le p (length plan) && nat_le p (length set) then None else Some refusal.Space)
    else Some refusal.Full

abbrev pub reason_in_kind : ℕ → ℕ → ℕ → ℕ → List ℕ → List ℕ → List ℕ → Option Refusal
reason_in_kind limit kind p t codes plan set =
    if known kind then reason_in_book limit p t codes plan set else Some refusal.Grade

abbrev pub reason : ℕ → ℕ → ℕ → ℕ → List ℕ → List ℕ → List ℕ → Option Refusal
reason limit kind p t codes plan set =
    if within p t then reason_in_kind limit kind p t codes plan set else Some refusal.Size

-- The best plan by the grades that are valid in the kind and a tight set; or a short set. A refusal
-- has the first reason and leaves both buffers as they were.
abbrev pub DrawnAs :
    (ℕ → Bool) → (ℕ → ℕ → Bool) → Option Refusal → ℕ → ℕ → List ℕ → List ℕ → List ℕ → List ℕ → List ℕ → Result (Option Planned) Refusal → Type 0
DrawnAs valid above why p t codes plan set plan' set' (Ok (Some best)) =
    (why ≡ None) × PlanWritten above (valid_grades valid (sheet_of p t codes)) p t plan set plan' set' (numbers_of best.plan) best.lowest
DrawnAs valid above why p t codes plan set plan' set' (Ok None) =
    (why ≡ None) × ShortWritten (valid_grades valid (sheet_of p t codes)) p t plan set plan' set'
DrawnAs valid above why p t codes plan set plan' set' (Err refusal) = (why ≡ Some refusal) × (plan' ≡ plan) × (set' ≡ set)

-- 0 for a plan, 100 for none, else the number of the refusal
abbrev pub told : Result (Option Planned) Refusal → ℕ
told (Ok (Some best)) = 0
told (Ok None) = 100
told (Err refusal) = number_of refusal

-- the lowest code is written where there is a plan
abbrev pub lowest_after : Result (Option Planned) Refusal → ℕ → ℕ
lowest_after (Ok (Some best)) before = best.lowest
lowest_after (Ok None) before = before
lowest_after (Err refusal) before = before

-- the same with the answer in numbers
abbrev pub Timed :
    ℕ → Option Refusal → ℕ → ℕ → List ℕ → List ℕ → List ℕ → ℕ → List ℕ → List ℕ → ℕ → ℕ → Type 0
Timed kind why p t codes plan set lowest plan' set' lowest' r =
    (outcome : Result (Option Planned) Refusal) × (r ≡ told outcome) × (lowest' ≡ lowest_after outcome lowest)
    × DrawnAs (valid_in kind) (above_in kind) why p t codes plan set plan' set' outcome
