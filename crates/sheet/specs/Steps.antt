-- The answers of the calls, each by the chain of its checks, for the functions behind the calls. What
-- the calls themselves promise is stated without these.
use Rattle.std.specs.Prelude.{ℕ, not, ◌&&◌, List, length, is_some, is_ok, Some, None, Ok, Err, Option, Result, ◌==◌, nat_lt, if◌then◌else◌}
use Rattle.books.specs.Limits.{inside}
use Rattle.books.specs.Meaning as book
use Rattle.matching.specs.Written.{room_for, written}
use Rattle.pages.specs.Reasons.{may}
use Rattle.pages.specs.Standing.{Drawn}
use Rattle.refusals.specs.declared.refusal.Refusal.{Refusal}
use Rattle.refusals.specs.declared.refusal.Refusal.TheVariants as refusal
use Rattle.sheet.specs.Roles.{number_of}
use Rattle.sheet.specs.Sheets.{Stood}
use Rattle.sheet.specs.declared.role.Role.{Role}
use Rattle.sheet.specs.declared.slip.Slip.{Slip}

-- how many grades stand
abbrev pub graded : Stood → ℕ
graded x = book.standing x.standing.grade x.opening.packages x.opening.translators

abbrev pub grade_answer : Stood → ℕ → ℕ → ℕ → ℕ → Result (Unit {0}) Refusal
grade_answer x role a b code =
    if not (may 2 role) then Err refusal.Role
    else if is_some x.standing.out then Err refusal.SlipOut
    else if not (inside x.opening.packages x.opening.translators a b) then Err refusal.Place
    else if not (x.opening.valid code) then Err refusal.Grade
    else if not (is_some (x.standing.grade a b)) && graded x == x.opening.limit then Err refusal.Full
    else Ok tt

abbrev pub strike_answer : Stood → ℕ → ℕ → ℕ → Result (Unit {0}) Refusal
strike_answer x role a b =
    if not (may 3 role) then Err refusal.Role
    else if is_some x.standing.out then Err refusal.SlipOut
    else if not (inside x.opening.packages x.opening.translators a b) then Err refusal.Place
    else if is_some (x.standing.grade a b) then Ok tt
    else Err refusal.NothingThere

-- the same with other grades
abbrev pub with_grades : Stood → (ℕ → ℕ → Option ℕ) → Stood
with_grades x g =
    record {
      opening = x.opening;
      standing = record { grade = g; out = x.standing.out; published = x.standing.published };
    }

-- the same with the grade of one pair changed
abbrev pub with_grade_at : Stood → ℕ → ℕ → Option ℕ → Stood
with_grade_at x a b v =
    with_grades x (λ i j. if i == a && j == b then v else x.standing.grade i j)

-- the same with other plans, out and published
abbrev pub with_plans : Stood → Option Drawn → Option Drawn → Stood
with_plans x out published =
    record {
      opening = x.opening;
      standing = record { grade = x.standing.grade; out = out; published = published };
    }

-- publish and withdraw, by the least role: the plan that was out, or the slip back with the reason
abbrev pub spend_answer : Role → Stood → ℕ → Slip → Result (Option Drawn) (Refusal × Slip)
spend_answer least x role slip =
    if not (may (number_of least) role) then Err (refusal.Role, slip)
    else if not (is_some x.standing.out) then Err (refusal.WrongSlip, slip)
    else if slip.tag == x.opening.tag then Ok x.standing.out
    else Err (refusal.WrongSlip, slip)

-- a plan that has not as many translators as the book has packages does not fit; none such is drawn
abbrev pub show_published : ℕ → Option Drawn → List ℕ → Result ℕ Refusal
show_published p None plan = Err refusal.NothingThere
show_published p (Some d) plan =
    if nat_lt (length plan) p then Err refusal.Space
    else if is_ok (room_for d.plan plan) then Ok d.lowest
    else Err refusal.Space

abbrev pub show_answer : Stood → ℕ → List ℕ → Result ℕ Refusal
show_answer x role plan =
    if not (may 1 role) then Err refusal.Role else show_published x.opening.packages x.standing.published plan

abbrev pub shown_in : Option Drawn → List ℕ → List ℕ
shown_in None plan = plan
shown_in (Some d) plan = written d.plan plan
