-- How long the bytes of rows are, and that a part of a book has no more grades than the whole.
use Rattle.std.proofs.Common.{◌≡◌, ℕ, zero, suc, ◌+◌, ◌*◌, ◌≤◌, [], ◌++◌, length, Some, None, Option, refl, ap, ⊎_elim, add-one, arith}
use Rattle.books.specs.Meaning.{one, in_row, standing}
use Rattle.file_format.specs.FileOf.{of_grade, row_bytes, grades_bytes}
use Rattle.std.proofs.lemmas.List.{length-append}
use Rattle.std.proofs.lemmas.Bool.{cases_eq}

pub length_grade : (i j : ℕ) (o : Option ℕ) → length (of_grade i j o) ≡ 6 * one o
length_grade i j None = refl
length_grade i j (Some c) = refl

pub length_row : (i : ℕ) (f : ℕ → Option ℕ) (t : ℕ) → length (row_bytes i f t) ≡ 6 * in_row f t
unfolding row_bytes in_row
length_row i f zero = refl
length_row i f (suc t) =
    omega (arith, length-append (row_bytes i f t) (of_grade i (suc t) (f (suc t))), length_row i f t, length_grade i (suc t) (f (suc t)))

pub length_grades : (G : ℕ → ℕ → Option ℕ) (p t : ℕ) → length (grades_bytes G p t) ≡ 6 * standing G p t
unfolding grades_bytes standing
length_grades G zero t = refl
length_grades G (suc p) t =
    omega (arith, length-append (grades_bytes G p t) (row_bytes (suc p) (G (suc p)) t), length_grades G p t, length_row (suc p) (G (suc p)) t)

pub in_row_upto : (f : ℕ → Option ℕ) (j t : ℕ) → j ≤ t → in_row f j ≤ in_row f t
unfolding in_row
in_row_upto f j zero h = let e : j ≡ 0 = omega arith in omega (arith, ap (in_row f) e)
in_row_upto f j (suc t) h =
    ⊎_elim (λ e. omega (arith, ap (in_row f) e)) (λ e. omega (arith, in_row_upto f j t (omega (arith, e)))) (cases_eq j (suc t))

pub standing_upto : (G : ℕ → ℕ → Option ℕ) (i p t : ℕ) → i ≤ p → standing G i t ≤ standing G p t
unfolding standing
standing_upto G i zero t h =
    let e : i ≡ 0 = omega arith in omega (arith, ap (λ n. standing G n t) e)
standing_upto G i (suc p) t h =
    ⊎_elim (λ e. omega (arith, ap (λ n. standing G n t) e)) (λ e. omega (arith, standing_upto G i p t (omega (arith, e)))) (cases_eq i (suc p))

pub row_bytes_none : (i : ℕ) (f : ℕ → Option ℕ) → row_bytes i f 0 ≡ []
unfolding row_bytes
row_bytes_none i f = refl

pub row_bytes_more :
    (i : ℕ) (f : ℕ → Option ℕ) (t : ℕ) → row_bytes i f (t + 1) ≡ row_bytes i f t ++ of_grade i (t + 1) (f (t + 1))
unfolding row_bytes
row_bytes_more i f t = rw add-one refl

pub grades_bytes_none : (G : ℕ → ℕ → Option ℕ) (t : ℕ) → grades_bytes G 0 t ≡ []
unfolding grades_bytes
grades_bytes_none G t = refl

pub grades_bytes_more :
    (G : ℕ → ℕ → Option ℕ) (p t : ℕ)
    → grades_bytes G (p + 1) t ≡ grades_bytes G p t ++ row_bytes (p + 1) (G (p + 1)) t
unfolding grades_bytes
grades_bytes_more G p t = rw add-one refl
