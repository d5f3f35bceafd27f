-- Which places of a table have a grade, and that fewer grades are counted as fewer.
use Rattle.std.proofs.Common.{◌≡◌, ℕ, zero, suc, ◌+◌, ◌-◌, ◌*◌, ◌<◌, ◌≤◌, true, false, ◌&&◌, leb, ◌⊎◌, List, get_or, None, Option, ap, ◌∙◌, ⊎_elim, arith}
use Rattle.books.specs.Limits.{inside}
use Rattle.books.specs.Meaning.{in_row, one, standing}
use Rattle.bottleneck.specs.Codes.{grade_of_code}
use Rattle.std.proofs.lemmas.Bool.{and_from, and_left, and_right, cond-false, cond-true, le-leb, lt-leb}
use Rattle.timing.specs.Table.{grades_of}

pub lies_inside : (p t i j : ℕ) → 1 ≤ i → i ≤ p → 1 ≤ j → j ≤ t → inside p t i j ≡ true
lies_inside p t i j a b c d =
    and_from (leb 1 i && leb i p && leb 1 j) (leb j t)
    (and_from (leb 1 i && leb i p) (leb 1 j) (and_from (leb 1 i) (leb i p) (le-leb 1 i a) (le-leb i p b)) (le-leb 1 j c))
    (le-leb j t d)

no_row : (p t i j : ℕ) → leb 1 i && leb i p ≡ false → inside p t i j ≡ false
no_row p t i j e =
    and_left (leb 1 i && leb i p && leb 1 j) (leb j t) (and_left (leb 1 i && leb i p) (leb 1 j) e)

module _ (p t : ℕ) (codes : List ℕ) where
  none_at : (i j : ℕ) → inside p t i j ≡ false → grades_of p t codes i j ≡ None
  none_at i j e = cond-false (inside p t i j) (grade_of_code (get_or codes ((i - 1) * t + (j - 1)) 0)) None e

  pub none_above : (i j : ℕ) → i < 1 → grades_of p t codes i j ≡ None
  none_above i j l = none_at i j (no_row p t i j (and_left (leb 1 i) (leb i p) (lt-leb 1 i l)))

  pub none_below : (i j : ℕ) → p < i → grades_of p t codes i j ≡ None
  none_below i j l = none_at i j (no_row p t i j (and_right (leb 1 i) (leb i p) (lt-leb i p l)))

  pub none_left : (i j : ℕ) → j < 1 → grades_of p t codes i j ≡ None
  none_left i j l =
      none_at i j (and_left (leb 1 i && leb i p && leb 1 j) (leb j t) (and_right (leb 1 i && leb i p) (leb 1 j) (lt-leb 1 j l)))

  pub none_right : (i j : ℕ) → t < j → grades_of p t codes i j ≡ None
  none_right i j l = none_at i j (and_right (leb 1 i && leb i p && leb 1 j) (leb j t) (lt-leb j t l))

  -- the code of row k and column l, both from 0
  pub here : (k l : ℕ) → k < p → l < t → grades_of p t codes (k + 1) (l + 1) ≡ grade_of_code (get_or codes (k * t + l) 0)
  here k l a b =
      cond-true (inside p t (k + 1) (l + 1)) (grade_of_code (get_or codes ((k + 1 - 1) * t + (l + 1 - 1)) 0)) None
      (lies_inside p t (k + 1) (l + 1) (omega arith) (omega arith) (omega arith) (omega arith))
      ∙ ap (λ n. grade_of_code (get_or codes n 0)) place
    where
      place : (k + 1 - 1) * t + (l + 1 - 1) ≡ k * t + l
      place =
          let e : k + 1 - 1 ≡ k = omega arith in
          let f : l + 1 - 1 ≡ l = omega arith in
          ap (λ n. n * t + (l + 1 - 1)) e ∙ ap (λ n. k * t + n) f

-- fewer grades, fewer counted
in_row_mono : (f g : ℕ → Option ℕ) (t : ℕ) → ((j : ℕ) → (f j ≡ None) ⊎ (f j ≡ g j)) → in_row f t ≤ in_row g t
unfolding in_row
in_row_mono f g zero h = omega arith
in_row_mono f g (suc t) h =
    let e : one (f (suc t)) ≤ one (g (suc t)) =
    ⊎_elim (λ n. omega (arith, ap one n)) (λ q. omega (arith, ap one q)) (h (suc t)) in
    omega (arith, in_row_mono f g t h, e)

pub standing_mono :
    (f g : ℕ → ℕ → Option ℕ) (p t : ℕ) → ((i j : ℕ) → (f i j ≡ None) ⊎ (f i j ≡ g i j)) → standing f p t ≤ standing g p t
unfolding standing
standing_mono f g zero t h = omega arith
standing_mono f g (suc p) t h =
    omega (arith, standing_mono f g p t h, in_row_mono (f (suc p)) (g (suc p)) t (h (suc p)))
