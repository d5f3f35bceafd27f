-- What stands in the buffer after some pairs of a row, and after some rows, and one step of each loop.
use Rattle.std.proofs.Common.{◌≡◌, ℕ, ◌+◌, ◌-◌, ◌*◌, ◌≤◌, List, length, Option, sym, ap, ◌∙◌, subst, arith}
use Rattle.books.proofs.Standing.{in_row_more, standing_more, in_row_none, standing_none}
use Rattle.books.specs.Meaning.{one, in_row, standing}
use Rattle.file_format.specs.FileOf.{of_grade, row_bytes, grades_bytes}
use Rattle.saved_writer.proofs.Lengths.{length_row, length_grades, in_row_upto, standing_upto, row_bytes_none, row_bytes_more, grades_bytes_none, grades_bytes_more}
use Rattle.saved_writer.proofs.Places.{codes_fit_more, codes_fit_none, put_none, put_put, row_fits_more, row_fits_none}
use Rattle.saved_writer.specs.Written.{CodeFits, CodesFit, RowFits, put_at}

one_on : (n : ℕ) → 1 ≤ n → n - 1 + 1 ≡ n
one_on n k = omega arith

module _ (i : ℕ) (f : ℕ → Option ℕ) (l : List ℕ) (at : ℕ) where
  -- the first n pairs of the row have been written, up to an end
  pub record Row (n end : ℕ) (out : List ℕ) : Type 0 where
    pub ends : end ≡ at + 6 * in_row f n
    pub after : out ≡ put_at l at (row_bytes i f n)
    pub codes : RowFits f n

  pub row_start : Row 0 at l
  row_start =
      record {
        ends = omega (arith, in_row_none f);
        after = put_none l at ∙ ap (put_at l at) (sym (row_bytes_none i f));
        codes = row_fits_none f;
      }

  pub row_room :
      (j t end : ℕ) (out : List ℕ) → Row (j - 1) end out → 1 ≤ j → j ≤ t → at + 6 * in_row f t ≤ length l
      → end + 6 * one (f j) ≤ length l
  row_room j t end out w k h r =
      subst (λ m. m ≤ t → end + 6 * one (f m) ≤ length l) (one_on j k)
      (λ m. omega (arith, w.ends, r, in_row_more f (j - 1), in_row_upto f (j - 1 + 1) t m)) h

  row_more :
      (n t end next : ℕ) (out then : List ℕ) → Row n end out → n + 1 ≤ t → at + 6 * in_row f t ≤ length l
      → next ≡ end + 6 * one (f (n + 1)) → then ≡ put_at out end (of_grade i (n + 1) (f (n + 1)))
      → CodeFits (f (n + 1)) → Row (n + 1) next then
  row_more n t end next out then w h r e o c =
      record {
        ends = omega (arith, w.ends, e, in_row_more f n);
        after =
            o ∙ ap (λ ys. put_at ys end (of_grade i (n + 1) (f (n + 1)))) w.after
            ∙ put_put l at end (row_bytes i f n) (of_grade i (n + 1) (f (n + 1)))
            (omega (arith, w.ends, length_row i f n)) (omega (arith, r, length_row i f n, in_row_upto f n t (omega (arith, h))))
            ∙ ap (put_at l at) (sym (row_bytes_more i f n));
        codes = row_fits_more f n w.codes c;
      }

  pub row_step :
      (j t end next : ℕ) (out then : List ℕ) → Row (j - 1) end out → 1 ≤ j → j ≤ t
      → at + 6 * in_row f t ≤ length l → next ≡ end + 6 * one (f j) → then ≡ put_at out end (of_grade i j (f j))
      → CodeFits (f j) → Row j next then
  row_step j t end next out then w k h r =
      subst
      (λ m. m ≤ t → next ≡ end + 6 * one (f m) → then ≡ put_at out end (of_grade i m (f m)) → CodeFits (f m) → Row m next then)
      (one_on j k) (λ m. row_more (j - 1) t end next out then w m r) h

module _ (G : ℕ → ℕ → Option ℕ) (l : List ℕ) (p t : ℕ) where
  -- the first n rows have been written after the head, up to an end
  pub record Rows (n end : ℕ) (out : List ℕ) : Type 0 where
    pub ends : end ≡ 7 + 6 * standing G n t
    pub after : out ≡ put_at l 7 (grades_bytes G n t)
    pub codes : CodesFit G n t

  pub rows_start : Rows 0 7 l
  rows_start =
      record {
        ends = omega (arith, standing_none G t);
        after = put_none l 7 ∙ ap (put_at l 7) (sym (grades_bytes_none G t));
        codes = codes_fit_none G t;
      }

  pub rows_room :
      (i at : ℕ) (out : List ℕ) → Rows (i - 1) at out → 1 ≤ i → i ≤ p → 7 + 6 * standing G p t ≤ length l
      → at + 6 * in_row (G i) t ≤ length l
  rows_room i at out w k h r =
      subst (λ m. m ≤ p → at + 6 * in_row (G m) t ≤ length l) (one_on i k)
      (λ m. omega (arith, w.ends, r, standing_more G (i - 1) t, standing_upto G (i - 1 + 1) p t m)) h

  rows_more :
      (n at next : ℕ) (out then : List ℕ) → Rows n at out → n + 1 ≤ p → 7 + 6 * standing G p t ≤ length l
      → next ≡ at + 6 * in_row (G (n + 1)) t
      → then ≡ put_at out at (row_bytes (n + 1) (G (n + 1)) t) → RowFits (G (n + 1)) t → Rows (n + 1) next then
  rows_more n at next out then w h r e o c =
      record {
        ends = omega (arith, w.ends, e, standing_more G n t);
        after =
            o ∙ ap (λ ys. put_at ys at (row_bytes (n + 1) (G (n + 1)) t)) w.after
            ∙ put_put l 7 at (grades_bytes G n t) (row_bytes (n + 1) (G (n + 1)) t) (omega (arith, w.ends, length_grades G n t))
            (omega (arith, r, length_grades G n t, standing_upto G n p t (omega (arith, h))))
            ∙ ap (put_at l 7) (sym (grades_bytes_more G n t));
        codes = codes_fit_more G n t w.codes c;
      }

  pub rows_step :
      (i at next : ℕ) (out then : List ℕ) → Rows (i - 1) at out → 1 ≤ i → i ≤ p → 7 + 6 * standing G p t ≤ length l
      → next ≡ at + 6 * in_row (G i) t
      → then ≡ put_at out at (row_bytes i (G i) t) → RowFits (G i) t → Rows i next then
  rows_step i at next out then w k h r =
      subst
      (λ m. m ≤ p → next ≡ at + 6 * in_row (G m) t → then ≡ put_at out at (row_bytes m (G m) t) → RowFits (G m) t → Rows m next then)
      (one_on i k) (λ m. rows_more (i - 1) at next out then w m r) h
