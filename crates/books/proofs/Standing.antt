-- Counting the grades that stand: one step of a loop, one changed pair, none, and at most how many.
use Rattle.std.proofs.Common.{◌≡◌, ℕ, zero, suc, ◌+◌, ◌*◌, ◌≤◌, true, false, ◌&&◌, ◌==◌, ◌⊎◌, Some, None, Option, refl, ap, ◌∙◌, inl, inr, ⊎_elim, suc-mul, mul-le-mul, add-one, arith}
use Rattle.books.proofs.Inside.{lies}
use Rattle.books.specs.Limits.{inside}
use Rattle.books.specs.Meaning.{one, in_row, standing, changed, Meaning, Sound, Empty, count}
use Rattle.std.proofs.lemmas.Bool.{cases_eq, cases_Bool, and_parts, eq-eqb, eqb-true, cond-false}

pub one_le : (o : Option ℕ) → one o ≤ 1
one_le None = omega arith
one_le (Some x) = omega arith

pub none_from_one : (o : Option ℕ) → one o ≡ 0 → o ≡ None
none_from_one None e = refl
none_from_one (Some x) e = absurd (omega (arith, e))

pub changed_same : (f : ℕ → ℕ → Option ℕ) (a b : ℕ) (v : Option ℕ) → changed f a b v a b ≡ v
changed_same f a b v = simp (eq-eqb a a refl, eq-eqb b b refl)

pub changed_other :
    (f : ℕ → ℕ → Option ℕ) (a b : ℕ) (v : Option ℕ) (i j : ℕ)
    → ((i ≡ a) × (j ≡ b) → ⊥) → changed f a b v i j ≡ f i j
changed_other f a b v i j n = cond-false (i == a && j == b) v (f i j) (apart (cases_Bool (i == a && j == b)))
  where
    apart : ((i == a && j == b) ≡ true) ⊎ ((i == a && j == b) ≡ false) → (i == a && j == b) ≡ false
    apart (inl e) =
        let w = and_parts (i == a) (j == b) e in
        absurd (n (eqb-true i a w.0, eqb-true j b w.1))
    apart (inr e) = e

pub in_row_none : (f : ℕ → Option ℕ) → in_row f 0 ≡ 0
unfolding in_row
in_row_none f = refl

pub in_row_more : (f : ℕ → Option ℕ) (j : ℕ) → in_row f (j + 1) ≡ in_row f j + one (f (j + 1))
unfolding in_row
in_row_more f j = rw add-one refl

pub standing_none : (f : ℕ → ℕ → Option ℕ) (t : ℕ) → standing f 0 t ≡ 0
unfolding standing
standing_none f t = refl

pub standing_more : (f : ℕ → ℕ → Option ℕ) (i t : ℕ) → standing f (i + 1) t ≡ standing f i t + in_row (f (i + 1)) t
unfolding standing
standing_more f i t = rw add-one refl

pub in_row_le : (f : ℕ → Option ℕ) (t : ℕ) → in_row f t ≤ t
unfolding in_row
in_row_le f zero = omega arith
in_row_le f (suc t) = omega (arith, in_row_le f t, one_le (f (suc t)))

pub standing_le : (f : ℕ → ℕ → Option ℕ) (p t : ℕ) → standing f p t ≤ p * t
unfolding standing
standing_le f zero t = omega arith
standing_le f (suc p) t = omega (arith, standing_le f p t, in_row_le (f (suc p)) t, suc-mul p t)

-- at most 48 rows of 64
pub count_le : (m : Meaning) → Sound m → count m ≤ 3072
count_le m s =
    let w = s.sizes in
    let h : m.packages * m.translators ≤ 48 * 64 = mul-le-mul w.1 w.3 in
    omega (arith, h, standing_le m.grade m.packages m.translators)

-- two rows that agree
pub in_row_same :
    (f g : ℕ → Option ℕ) (t : ℕ) → ((j : ℕ) → 1 ≤ j → j ≤ t → g j ≡ f j) → in_row g t ≡ in_row f t
unfolding in_row
in_row_same f g zero h = refl
in_row_same f g (suc t) h =
    let e : in_row g t ≡ in_row f t = in_row_same f g t (λ j a b. h j a (omega arith)) in
    let k : one (g (suc t)) ≡ one (f (suc t)) = ap one (h (suc t) (omega arith) (omega arith)) in
    omega (arith, e, k)

pub standing_same :
    (f g : ℕ → ℕ → Option ℕ) (p t : ℕ)
    → ((i j : ℕ) → 1 ≤ i → i ≤ p → 1 ≤ j → j ≤ t → g i j ≡ f i j) → standing g p t ≡ standing f p t
unfolding standing
standing_same f g zero t h = refl
standing_same f g (suc p) t h =
    let e : standing g p t ≡ standing f p t = standing_same f g p t (λ i j a b. h i j a (omega arith)) in
    let k : in_row (g (suc p)) t ≡ in_row (f (suc p)) t =
    in_row_same (f (suc p)) (g (suc p)) t (λ j. h (suc p) j (omega arith) (omega arith)) in
    omega (arith, e, k)

-- two rows that agree but at one place
pub in_row_changed :
    (f g : ℕ → Option ℕ) (t b : ℕ) → 1 ≤ b → b ≤ t → ((j : ℕ) → (j ≡ b → ⊥) → g j ≡ f j)
    → in_row g t + one (f b) ≡ in_row f t + one (g b)
unfolding in_row
in_row_changed f g zero b l h e = absurd (omega arith)
in_row_changed f g (suc t) b l h e = ⊎_elim here (there (λ m. in_row_changed f g t b l m e)) (cases_eq (suc t) b)
  where
    here : suc t ≡ b → in_row g (suc t) + one (f b) ≡ in_row f (suc t) + one (g b)
    here q =
        let k : in_row g t ≡ in_row f t = in_row_same f g t (λ j _ m. e j (λ r. omega arith)) in
        let u : one (g (suc t)) ≡ one (g b) = ap (λ n. one (g n)) q in
        let v : one (f (suc t)) ≡ one (f b) = ap (λ n. one (f n)) q in
        omega (arith, k, u, v)

    there :
        (b ≤ t → in_row g t + one (f b) ≡ in_row f t + one (g b)) → (suc t ≡ b → ⊥)
        → in_row g (suc t) + one (f b) ≡ in_row f (suc t) + one (g b)
    there ih n =
        let k : in_row g t + one (f b) ≡ in_row f t + one (g b) = ih (omega arith) in
        let u : one (g (suc t)) ≡ one (f (suc t)) = ap one (e (suc t) n) in
        omega (arith, k, u)

-- two tables that agree but at one pair
pub standing_changed :
    (f g : ℕ → ℕ → Option ℕ) (p t a b : ℕ) → 1 ≤ a → a ≤ p → 1 ≤ b → b ≤ t
    → ((i j : ℕ) → ((i ≡ a) × (j ≡ b) → ⊥) → g i j ≡ f i j)
    → standing g p t + one (f a b) ≡ standing f p t + one (g a b)
unfolding standing
standing_changed f g zero t a b l h m k e = absurd (omega arith)
standing_changed f g (suc p) t a b l h m k e =
    ⊎_elim here (there (λ n. standing_changed f g p t a b l n m k e)) (cases_eq (suc p) a)
  where
    here : suc p ≡ a → standing g (suc p) t + one (f a b) ≡ standing f (suc p) t + one (g a b)
    here q =
        let s : standing g p t ≡ standing f p t = standing_same f g p t (λ i j _ n _ _. e i j (λ r. omega (arith, r.0))) in
        let r : in_row (g a) t + one (f a b) ≡ in_row (f a) t + one (g a b) =
        in_row_changed (f a) (g a) t b m k (λ j d. e a j (λ w. d w.1)) in
        let u : in_row (g (suc p)) t ≡ in_row (g a) t = ap (λ n. in_row (g n) t) q in
        let v : in_row (f (suc p)) t ≡ in_row (f a) t = ap (λ n. in_row (f n) t) q in
        omega (arith, s, r, u, v)

    there :
        (a ≤ p → standing g p t + one (f a b) ≡ standing f p t + one (g a b)) → (suc p ≡ a → ⊥)
        → standing g (suc p) t + one (f a b) ≡ standing f (suc p) t + one (g a b)
    there ih n =
        let s : standing g p t + one (f a b) ≡ standing f p t + one (g a b) = ih (omega arith) in
        let r : in_row (g (suc p)) t ≡ in_row (f (suc p)) t =
        in_row_same (f (suc p)) (g (suc p)) t (λ j _ _. e (suc p) j (λ w. n w.0)) in
        omega (arith, s, r)

-- a pair without a grade leaves room
pub standing_below :
    (f : ℕ → ℕ → Option ℕ) (p t a b : ℕ) → 1 ≤ a → a ≤ p → 1 ≤ b → b ≤ t → f a b ≡ None
    → standing f p t + 1 ≤ p * t
standing_below f p t a b l h m k e =
    let g : ℕ → ℕ → Option ℕ = changed f a b (Some 1) in
    let s : standing g p t + one (f a b) ≡ standing f p t + one (g a b) =
    standing_changed f g p t a b l h m k (changed_other f a b (Some 1)) in
    let u : one (f a b) ≡ 0 = ap one e in
    let v : one (g a b) ≡ 1 = ap one (changed_same f a b (Some 1)) in
    omega (arith, s, u, v, standing_le g p t)

-- nothing stands exactly where no pair has a grade
pub in_row_zero : (f : ℕ → Option ℕ) (t : ℕ) → in_row f t ≡ 0 → (j : ℕ) → 1 ≤ j → j ≤ t → f j ≡ None
unfolding in_row
in_row_zero f zero z j l h = absurd (omega arith)
in_row_zero f (suc t) z j l h =
    ⊎_elim (λ q. none_from_one (f j) (ap (λ n. one (f n)) q ∙ omega (arith, z))) (λ n. in_row_zero f t (omega (arith, z)) j l (omega arith)) (cases_eq j (suc t))

pub standing_zero :
    (f : ℕ → ℕ → Option ℕ) (p t : ℕ) → standing f p t ≡ 0
    → (i j : ℕ) → 1 ≤ i → i ≤ p → 1 ≤ j → j ≤ t → f i j ≡ None
unfolding standing
standing_zero f zero t z i j l h m k = absurd (omega arith)
standing_zero f (suc p) t z i j l h m k =
    ⊎_elim
    (λ q. in_row_zero (f i) t (ap (λ n. in_row (f n) t) q ∙ omega (arith, z)) j m k)
    (λ n. standing_zero f p t (omega (arith, z)) i j l (omega arith) m k)
    (cases_eq i (suc p))

pub in_row_empty : (f : ℕ → Option ℕ) (t : ℕ) → ((j : ℕ) → f j ≡ None) → in_row f t ≡ 0
unfolding in_row
in_row_empty f zero h = refl
in_row_empty f (suc t) h = omega (arith, in_row_empty f t h, ap one (h (suc t)))

pub standing_empty : (f : ℕ → ℕ → Option ℕ) (p t : ℕ) → ((i j : ℕ) → f i j ≡ None) → standing f p t ≡ 0
unfolding standing
standing_empty f zero t h = refl
standing_empty f (suc p) t h = omega (arith, standing_empty f p t h, in_row_empty (f (suc p)) t (h (suc p)))

-- a sound book is empty where nothing stands
pub empty_from_count : (m : Meaning) → Sound m → count m ≡ 0 → Empty m
empty_from_count m s z i j =
    ⊎_elim (λ e. within e) (λ e. s.outside i j e) (cases_Bool (inside m.packages m.translators i j))
  where
    within : inside m.packages m.translators i j ≡ true → m.grade i j ≡ None
    within e =
        let w = lies m.packages m.translators i j e in
        standing_zero m.grade m.packages m.translators z i j w.row w.row_most w.column w.column_most

pub count_from_empty : (m : Meaning) → Empty m → count m ≡ 0
count_from_empty m h = standing_empty m.grade m.packages m.translators h
