use Rattle.std.proofs.Common.{◌≡◌, ℕ, ◌==◌, MatchBool, sym, ◌∙◌, ⊎_elim}
use Rattle.books.proofs.Standing.{empty_from_count, count_from_empty}
use Rattle.books.proofs.counting.is_empty.Goals as goal
use Rattle.books.specs.Meaning.{Meaning, Sound, Empty, count}
use Rattle.std.proofs.lemmas.Bool.{cases_eq, eq-eqb, ne_eqb}

told : (m : Meaning) → Sound m → (n : ℕ) → n ≡ count m → MatchBool (n == 0) (Empty m) (Empty m → ⊥)
told m s n e =
    ⊎_elim
    (λ z. rw (eq-eqb n 0 z) (empty_from_count m s (sym e ∙ z)))
    (λ d. rw (ne_eqb n 0 d) (λ h. d (e ∙ count_from_empty m h)))
    (cases_eq n 0)

pub returns : goal.returns
returns g c =
    told (g.R.Reading.meaning c.args.book.now) (g.met.R.Reading.sound c.args.book.now)
    c.standing_grades.result c.standing_grades.ensures
