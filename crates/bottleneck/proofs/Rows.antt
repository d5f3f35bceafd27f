-- A table read row by row.
use Rattle.std.proofs.Common.{◌≡◌, ℕ, ◌+◌, ◌-◌, ◌*◌, ◌<◌, ◌≤◌, Bool, true, false, ◌&&◌, leb, ◌⊎◌, List, get_or, None, sym, ap, ◌∙◌, inl, inr, ⊎_elim, arith}
use Rattle.books.proofs.Inside.{lies}
use Rattle.books.specs.Limits.{inside}
use Rattle.books.specs.Meaning.{Meaning, Sound}
use Rattle.bottleneck.proofs.Lowering.{cell}
use Rattle.bottleneck.specs.Codes.{code_at, grade_of_code, table_grades}
use Rattle.bottleneck.specs.Grades.{counted, valid_grades}
use Rattle.std.proofs.lemmas.Bool.{and_left, and_right, cases_Bool, cases_eq, cases_lt, cond-false, lt-leb}

pub not_inside : (p t k j : ℕ) → ((1 ≤ k) × (k ≤ p) × (1 ≤ j) × (j ≤ t) → ⊥) → inside p t k j ≡ false
not_inside p t k j d = ⊎_elim (λ e. absurd (within e)) (λ e. e) (cases_Bool (inside p t k j))
  where
    within : inside p t k j ≡ true → ⊥
    within e = let w = lies p t k j e in d (w.row, w.row_most, w.column, w.column_most)

-- outside the sizes no grade counts
pub none_outside :
    (valid : ℕ → Bool) (m : Meaning) → Sound m → (k j : ℕ)
    → ((1 ≤ k) × (k ≤ m.packages) × (1 ≤ j) × (j ≤ m.translators) → ⊥) → valid_grades valid m k j ≡ None
none_outside valid m s k j d = ap (counted valid) (s.outside k j (not_inside m.packages m.translators k j d))

-- an empty cell where no grade counts
pub empty_cell :
    (valid : ℕ → Bool) (m : Meaning) → Sound m → (k j x : ℕ)
    → ((1 ≤ k) × (k ≤ m.packages) × (1 ≤ j) × (j ≤ m.translators) → ⊥) → x ≡ 0
    → grade_of_code x ≡ valid_grades valid m k j
empty_cell valid m s k j x d e = ap grade_of_code e ∙ sym (none_outside valid m s k j d)

pub row_read :
    (valid : ℕ → Bool) (m : Meaning) → Sound m → (k : ℕ) (codes : List ℕ)
    → ((i : ℕ) → i < m.translators → grade_of_code (get_or codes (65 * k + (i + 1)) 0) ≡ valid_grades valid m k (i + 1))
    → get_or codes (65 * k) 0 ≡ 0
    → ((x : ℕ) → 65 * k + m.translators < x → x ≤ 65 * k + 64 → get_or codes x 0 ≡ 0)
    → (j : ℕ) → j ≤ 64 → grade_of_code (get_or codes (65 * k + j) 0) ≡ valid_grades valid m k j
row_read valid m s k codes done first rest j l =
    ⊎_elim
    (λ q.
    let e : 65 * k + j ≡ 65 * k = omega arith in
    empty_cell valid m s k j (get_or codes (65 * k + j) 0) (λ w. let h = w.2 in omega (arith, q, h)) (ap (λ x. get_or codes x 0) e ∙ first))
    (λ d.
    ⊎_elim
    (λ h. empty_cell valid m s k j (get_or codes (65 * k + j) 0) (λ w. let g = w.3 in omega (arith, h, g)) (rest (65 * k + j) (omega arith) (omega arith)))
    (λ h.
    let e : j - 1 + 1 ≡ j = omega arith in
    ap (λ x. grade_of_code (get_or codes (65 * k + x) 0)) (sym e) ∙ done (j - 1) (omega arith) ∙ ap (valid_grades valid m k) e)
    (cases_lt m.translators j))
    (cases_eq j 0)

-- past the rows and columns of a table there is no code
no_code : (codes : List ℕ) (k j : ℕ) → (48 < k) ⊎ (64 < j) → code_at codes k j ≡ 0
no_code codes k j f =
    cond-false (leb k 48 && leb j 64) (get_or codes (65 * k + j) 0) 0
    (⊎_elim (λ l. and_left (leb k 48) (leb j 64) (lt-leb k 48 l)) (λ l. and_right (leb k 48) (leb j 64) (lt-leb j 64 l)) f)

-- the whole table, of which the first p rows are read
pub table_read :
    (valid : ℕ → Bool) (m : Meaning) → Sound m → (codes : List ℕ) (p : ℕ) → m.packages ≡ p
    → ((k j : ℕ) → 1 ≤ k → k ≤ p → j ≤ 64 → grade_of_code (get_or codes (65 * k + j) 0) ≡ valid_grades valid m k j)
    → ((x : ℕ) → x < 65 → get_or codes x 0 ≡ 0) → ((x : ℕ) → 65 * p + 64 < x → get_or codes x 0 ≡ 0)
    → (k j : ℕ) → table_grades codes k j ≡ valid_grades valid m k j
table_read valid m s codes p l rows first rest k j = ⊎_elim inner outer (cases_lt 64 j)
  where
    few : m.packages ≤ 48
    few = s.sizes.1

    less : m.translators ≤ 64
    less = s.sizes.3

    none : code_at codes k j ≡ 0 → ((1 ≤ k) × (k ≤ m.packages) × (1 ≤ j) × (j ≤ m.translators) → ⊥) → table_grades codes k j ≡ valid_grades valid m k j
    none e d = empty_cell valid m s k j (code_at codes k j) d e

    inner : 64 < j → table_grades codes k j ≡ valid_grades valid m k j
    inner b = none (no_code codes k j (inr b)) (λ w. let x = w.3 in omega (arith, x, b, less))

    outer : j ≤ 64 → table_grades codes k j ≡ valid_grades valid m k j
    outer b =
        ⊎_elim
        (λ a. none (no_code codes k j (inl a)) (λ w. let x = w.1 in omega (arith, x, a, few)))
        (λ a.
        cell codes k j a b
        ∙ ⊎_elim
        (λ q. empty_cell valid m s k j (get_or codes (65 * k + j) 0) (λ w. let x = w.0 in omega (arith, x, q)) (first (65 * k + j) (omega (arith, q, b))))
        (λ q.
        ⊎_elim
        (λ r. empty_cell valid m s k j (get_or codes (65 * k + j) 0) (λ w. let x = w.1 in omega (arith, x, r, l)) (rest (65 * k + j) (omega (arith, r))))
        (λ r. rows k j (omega (arith, q)) r b)
        (cases_lt p k))
        (cases_eq k 0))
        (cases_lt 48 k)
