-- The two changes of a book: what put and take answer, and what the book means after.
use Rattle.std.specs.Prelude.{ℕ, if◌then◌else◌, not, ◌&&◌, is_some, is_ok, Some, None, Ok, Err, Result, ◌==◌}
use Rattle.books.specs.Limits.{inside}
use Rattle.books.specs.Meaning.{Meaning, with_grade, count}
use Rattle.refusals.specs.declared.refusal.Refusal.{Refusal}
use Rattle.refusals.specs.declared.refusal.Refusal.TheVariants as refusal

-- put: outside the sizes, code 0, or a new pair where as many grades stand as the limit
abbrev pub put_answer : ℕ → Meaning → ℕ → ℕ → ℕ → Result (Unit {0}) Refusal
put_answer limit m a b code =
    if not (inside m.packages m.translators a b) then Err refusal.Place
    else if code == 0 then Err refusal.Grade
    else if not (is_some (m.grade a b)) && count m == limit then Err refusal.Full
    else Ok tt

abbrev pub put_after : ℕ → Meaning → ℕ → ℕ → ℕ → Meaning
put_after limit m a b code =
    if is_ok (put_answer limit m a b code) then with_grade m a b (Some code) else m

-- take: outside the sizes, or a pair without a grade
abbrev pub take_answer : Meaning → ℕ → ℕ → Result (Unit {0}) Refusal
take_answer m a b =
    if not (inside m.packages m.translators a b) then Err refusal.Place
    else if is_some (m.grade a b) then Ok tt
    else Err refusal.NothingThere

abbrev pub take_after : Meaning → ℕ → ℕ → Meaning
take_after m a b = if is_ok (take_answer m a b) then with_grade m a b None else m
