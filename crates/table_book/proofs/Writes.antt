-- What a table book means after its making and after a write to one cell.
use Rattle.std.proofs.Common.{◌≡◌, ℕ, ◌+◌, ◌*◌, ◌<◌, ◌≤◌, Bool, true, false, if◌then◌else◌, not, ◌&&◌, ◌==◌, ◌≢◌, ◌⊎◌, List, length, slice_index, slice_set, replicate, is_some, Some, None, Option, sym, refl, ap, ◌∙◌, inl, inr, ⊎_elim, mul-le-mul, arith}
use Rattle.books.proofs.Inside.{lies, Lies}
use Rattle.books.proofs.Standing.{standing_below, changed_same, changed_other}
use Rattle.books.specs.Limits.{inside, Within}
use Rattle.books.specs.Meaning.{Meaning, changed, with_grade, standing}
use Rattle.std.proofs.lemmas.List.{get_or-replicate, get_or_past, get_or-set_same, get_or-set_other, length-replicate}
use Rattle.std.proofs.lemmas.Bool.{cases_lt, cases_eq, cases_Bool, cond-true, cond-false, ne_eqb}
use Rattle.table_book.specs.Cells.{place, grade_in}
use Rattle.table_book.specs.Table.{table_grade}

zeros : (n i : ℕ) → ◌≡◌ {A = ℕ} (slice_index (replicate n 0) i) 0
zeros n i =
    ⊎_elim
    (λ l. get_or-replicate n i 0 0 l)
    (λ l. get_or_past (replicate n 0) i 0 (rw (length-replicate {A = ℕ} n 0) l))
    (cases_lt i n)

pub table_blank : (p t i j : ℕ) → table_grade p t (replicate 3072 0) i j ≡ None
table_blank p t i j = rw (zeros 3072 (place i j)) (same (inside p t i j))
  where
    same : (b : Bool) → ◌≡◌ {A = Option ℕ} (if b then None else None) None
    same true = refl
    same false = refl

pub place_below : (i j : ℕ) → 1 ≤ i → i ≤ 48 → 1 ≤ j → j ≤ 64 → place i j < 3072
place_below i j a b c d = omega arith

place_apart :
    (a b i j : ℕ) → 1 ≤ a → 1 ≤ b → b ≤ 64 → 1 ≤ i → 1 ≤ j → j ≤ 64
    → ((i ≡ a) × (j ≡ b) → ⊥) → place i j ≢ place a b
place_apart a b i j la lb mb li lj mj n e =
    let r : i ≡ a = omega arith in
    let c : j ≡ b = omega arith in
    n (r, c)

pub table_changed :
    (p t : ℕ) (codes : List ℕ) (a b code : ℕ) → Within p t → length codes ≡ 3072 → inside p t a b ≡ true
    → (i j : ℕ) → table_grade p t (slice_set codes (place a b) code) i j ≡ changed (table_grade p t codes) a b (grade_in code) i j
table_changed p t codes a b code w n e i j = ⊎_elim here (λ k. ⊎_elim (there k) out (cases_Bool (inside p t i j))) pair
  where
    f : ℕ → ℕ → Option ℕ
    f = table_grade p t codes

    at : Lies p t a b
    at = lies p t a b e

    pair : ((i ≡ a) × (j ≡ b)) ⊎ ((i ≡ a) × (j ≡ b) → ⊥)
    pair =
        ⊎_elim
        (λ u. ⊎_elim (λ v. inl (u, v)) (λ v. inr (λ q. v q.1)) (cases_eq j b))
        (λ u. inr (λ q. u q.0))
        (cases_eq i a)

    here : (i ≡ a) × (j ≡ b) → table_grade p t (slice_set codes (place a b) code) i j ≡ changed f a b (grade_in code) i j
    here q =
        let l : place a b < length codes = omega (arith, n, place_below a b at.row (omega (arith, at.row_most, w.1)) at.column (omega (arith, at.column_most, w.3))) in
        let s : slice_index (slice_set codes (place a b) code) (place a b) ≡ code = get_or-set_same codes (place a b) code 0 l in
        let g : table_grade p t (slice_set codes (place a b) code) a b ≡ grade_in code =
        cond-true (inside p t a b) _ _ e ∙ ap grade_in s in
        rw (q.0, q.1) (g ∙ sym (changed_same f a b (grade_in code)))

    there :
        ((i ≡ a) × (j ≡ b) → ⊥) → inside p t i j ≡ true
        → table_grade p t (slice_set codes (place a b) code) i j ≡ changed f a b (grade_in code) i j
    there k y =
        let x = lies p t i j y in
        let d : place i j ≢ place a b =
        place_apart a b i j at.row at.column (omega (arith, at.column_most, w.3)) x.row x.column (omega (arith, x.column_most, w.3)) k in
        ap (λ c. (if inside p t i j then grade_in c else None)) (get_or-set_other codes (place a b) (place i j) code 0 d)
        ∙ sym (changed_other f a b (grade_in code) i j k)

    out : inside p t i j ≡ false → table_grade p t (slice_set codes (place a b) code) i j ≡ changed f a b (grade_in code) i j
    out y = ⊎_elim here (λ k. cond-false (inside p t i j) _ _ y ∙ sym (changed_other f a b (grade_in code) i j k ∙ cond-false (inside p t i j) _ _ y)) pair

abbrev pub meaning_of : ℕ → ℕ → List ℕ → Meaning
meaning_of p t codes = record { packages = p; translators = t; grade = table_grade p t codes }

-- one cell written is one pair changed
pub meaning_changed :
    (p t : ℕ) (codes after : List ℕ) (a b code : ℕ) (o : Option ℕ) → Within p t → length codes ≡ 3072
    → inside p t a b ≡ true → after ≡ slice_set codes (place a b) code → grade_in code ≡ o
    → meaning_of p t after ≡ with_grade (meaning_of p t codes) a b o
meaning_changed p t codes after a b code o w n e s q = λ k. record {
  packages = p;
  translators = t;
  grade = λ i j. each i j k;
}
  where
    each : (i j : ℕ) → table_grade p t after i j ≡ changed (table_grade p t codes) a b o i j
    each i j =
        ap (λ c. table_grade p t c i j) s ∙ table_changed p t codes a b code w n e i j
        ∙ ap (λ v. changed (table_grade p t codes) a b v i j) q

-- a table has a cell for every pair, so a new pair never meets its limit
pub table_room :
    (p t : ℕ) (f : ℕ → ℕ → Option ℕ) (a b : ℕ) → Within p t → inside p t a b ≡ true
    → (not (is_some (f a b)) && standing f p t == 3072) ≡ false
table_room p t f a b w e = room (f a b) refl
  where
    room : (o : Option ℕ) → f a b ≡ o → (not (is_some o) && standing f p t == 3072) ≡ false
    room (Some c) q = refl
    room None q =
        let x = lies p t a b e in
        let s : standing f p t + 1 ≤ p * t = standing_below f p t a b x.row x.row_most x.column x.column_most q in
        let m : p * t ≤ 48 * 64 = mul-le-mul w.1 w.3 in
        ne_eqb (standing f p t) 3072 (λ q. omega (arith, s, m, q))
