-- Counting: one place left out, two tests compared, and the pigeonhole.
use Rattle.std.proofs.Common.{◌≡◌, ℕ, zero, suc, ◌+◌, ◌<◌, ◌≤◌, Bool, true, false, cond, ◌||◌, eqb, ◌⊎◌, sym, refl, ap, ◌∙◌, subst, inl, inr, ⊎_elim, arith}
use Rattle.augmenting.specs.Counting.{count, any}
use Rattle.std.proofs.lemmas.Bool.{cases_eq, both_ways, cases_Bool, eq-eqb, ne_eqb, or_cases, or_left, or_right}

abbrev pub bit : Bool → ℕ
bit b = cond b 1 0

abbrev pub without : (ℕ → Bool) → ℕ → ℕ → Bool
without f j k = cond (eqb k j) false (f k)

pub without_same : (f : ℕ → Bool) (j : ℕ) → without f j j ≡ false
without_same f j = simp (eq-eqb j j refl)

pub without_other : (f : ℕ → Bool) (j k : ℕ) → (k ≡ j → ⊥) → without f j k ≡ f k
without_other f j k d = simp (ne_eqb k j d)

pub count_same : (f g : ℕ → Bool) (n : ℕ) → ((k : ℕ) → k < n → f k ≡ g k) → count f n ≡ count g n
unfolding count
count_same f g zero h = refl
count_same f g (suc n) h =
    let a : bit (f n) ≡ bit (g n) = ap bit (h n (omega arith)) in
    let b : count f n ≡ count g n = count_same f g n (λ k l. h k (omega arith)) in
    omega (arith, a, b)

pub count_le :
    (f g : ℕ → Bool) (n : ℕ) → ((k : ℕ) → k < n → f k ≡ true → g k ≡ true) → count f n ≤ count g n
unfolding count
count_le f g zero h = omega arith
count_le f g (suc n) h = ⊎_elim (here (count_le f g n (λ k l. h k (omega arith)))) (there (count_le f g n (λ k l. h k (omega arith)))) (cases_Bool (f n))
  where
    here : count f n ≤ count g n → f n ≡ true → count f (suc n) ≤ count g (suc n)
    here r e =
        let a : bit (f n) ≡ 1 = ap bit e in
        let b : bit (g n) ≡ 1 = ap bit (h n (omega arith) e) in
        omega (arith, a, b, r)

    there : count f n ≤ count g n → f n ≡ false → count f (suc n) ≤ count g (suc n)
    there r e =
        let a : bit (f n) ≡ 0 = ap bit e in
        omega (arith, a, r)

pub count_without :
    (f : ℕ → Bool) (n j : ℕ) → j < n → f j ≡ true → count f n ≡ count (without f j) n + 1
unfolding count
count_without f zero j l e = absurd (omega arith)
count_without f (suc n) j l e = ⊎_elim here (there (λ h. count_without f n j h e)) (cases_eq n j)
  where
    here : n ≡ j → count f (suc n) ≡ count (without f j) (suc n) + 1
    here q =
        let a : bit (f n) ≡ 1 = ap (λ m. bit (f m)) q ∙ ap bit e in
        let b : bit (without f j n) ≡ 0 = ap (λ m. bit (without f j m)) q ∙ ap bit (without_same f j) in
        let c : count f n ≡ count (without f j) n =
        count_same f (without f j) n (λ k h. sym (without_other f j k (λ r. omega arith))) in
        omega (arith, a, b, c)

    there : (j < n → count f n ≡ count (without f j) n + 1) → (n ≡ j → ⊥) → count f (suc n) ≡ count (without f j) (suc n) + 1
    there ih d =
        let a : bit (without f j n) ≡ bit (f n) = ap bit (without_other f j n d) in
        let c : count f n ≡ count (without f j) n + 1 = ih (omega arith) in
        omega (arith, a, c)

-- a test that passes all that another does, and one place more
pub count_lt :
    (f g : ℕ → Bool) (n j : ℕ) → j < n → f j ≡ false → g j ≡ true → ((k : ℕ) → k < n → f k ≡ true → g k ≡ true)
    → count f n < count g n
count_lt f g n j l e d h =
    let a : count g n ≡ count (without g j) n + 1 = count_without g n j l d in
    let b : count f n ≤ count (without g j) n =
    count_le f (without g j) n
    (λ k m q.
    ⊎_elim
    (λ r. absurd (both_ways (f k) (ap f r ∙ e) q))
    (λ r. without_other g j k r ∙ h k m q)
    (cases_eq k j)) in
    omega (arith, a, b)

-- Members of S among the first p, each with a place of its own among those that N passes: so N
-- passes at least as many.
pub pigeon :
    (S : ℕ → Bool) (t : ℕ) (R : ℕ → ℕ → Type 0) → ((i k j : ℕ) → R i j → R k j → i ≡ k)
    → (p : ℕ) (N : ℕ → Bool)
    → ((i : ℕ) → i < p → S i ≡ true → (j : ℕ) × (j < t) × (N j ≡ true) × R i j)
    → count S p ≤ count N t
unfolding count
pigeon S t R a zero N w = omega arith
pigeon S t R a (suc p) N w = ⊎_elim (taken (λ M. pigeon S t R a p M)) (left (pigeon S t R a p N)) (cases_Bool (S p))
  where
    Into : (ℕ → Bool) → Type 0
    Into M = ((i : ℕ) → i < p → S i ≡ true → (j : ℕ) × (j < t) × (M j ≡ true) × R i j) → count S p ≤ count M t

    taken : ((M : ℕ → Bool) → Into M) → S p ≡ true → count S (suc p) ≤ count N t
    taken ih e =
        let h = w p (omega arith) e in
        let j : ℕ = h.0 in
        let c : count N t ≡ count (without N j) t + 1 = count_without N t j h.1 h.2 in
        let r : count S p ≤ count (without N j) t =
        ih (without N j) (λ i l s.
        let g = w i (omega arith) s in
        (g.0, g.1, without_other N j g.0 (λ q. let z : i ≡ p = a i p j (subst (λ (x : ℕ). R i x) q g.3) h.3 in omega arith) ∙ g.2, g.3)) in
        let b : bit (S p) ≡ 1 = ap bit e in
        omega (arith, b, c, r)

    left : Into N → S p ≡ false → count S (suc p) ≤ count N t
    left ih e =
        let r : count S p ≤ count N t = ih (λ i l s. w i (omega arith) s) in
        let b : bit (S p) ≡ 0 = ap bit e in
        omega (arith, b, r)

-- what any says, both ways
pub any_from : (f : ℕ → Bool) (n k : ℕ) → k < n → f k ≡ true → any f n ≡ true
unfolding any
any_from f zero k l e = absurd (omega arith)
any_from f (suc n) k l e =
    ⊎_elim
    (λ q. or_left (f n) (any f n) (ap f (sym q) ∙ e))
    (λ d. or_right (f n) (any f n) (any_from f n k (omega arith) e))
    (cases_eq k n)

pub from_any : (f : ℕ → Bool) (n : ℕ) → any f n ≡ true → (k : ℕ) × (k < n) × (f k ≡ true)
unfolding any
from_any f zero e = absurd (let z : ◌≡◌ {A = ℕ} 0 1 = ap bit e in omega arith)
from_any f (suc n) e =
    ⊎_elim
    (λ h. (n, omega arith, h))
    (λ h. let w = from_any f n h in (w.0, omega (arith, w.1), w.2))
    (or_cases (f n) (any f n) e)

-- either every one of the first n has the one, or one has the other
pub all_or :
    (P Q : ℕ → Type 0) (n : ℕ) → ((k : ℕ) → k < n → P k ⊎ Q k)
    → ((k : ℕ) → k < n → P k) ⊎ ((k : ℕ) × (k < n) × Q k)
all_or P Q zero h = inl (λ k l. absurd (omega arith))
all_or P Q (suc n) h = ⊎_elim (λ a. ⊎_elim (λ b. inl (both a b)) (λ b. inr (n, omega arith, b)) (h n (omega arith))) (λ w. inr (w.0, omega (arith, w.1), w.2)) (all_or P Q n (λ k l. h k (omega arith)))
  where
    both : ((k : ℕ) → k < n → P k) → P n → (k : ℕ) → k < suc n → P k
    both a b k l = ⊎_elim (λ q. subst P (sym q) b) (λ d. a k (omega arith)) (cases_eq k n)

pub any_same : (f g : ℕ → Bool) (n : ℕ) → ((k : ℕ) → k < n → f k ≡ g k) → any f n ≡ any g n
unfolding any
any_same f g zero h = refl
any_same f g (suc n) h =
    ap (λ b. b || any f n) (h n (omega arith)) ∙ ap (λ b. g n || b) (any_same f g n (λ k l. h k (omega arith)))
