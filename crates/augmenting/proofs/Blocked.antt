-- A closed set of marks rules out whole matchings: those behind the marks and the package that is
-- left over are one more than the translators that they could have.
use Rattle.std.proofs.Common.{◌≡◌, ℕ, ◌+◌, ◌-◌, ◌<◌, ◌≤◌, Bool, true, false, not, ◌&&◌, ◌||◌, eqb, List, get_or, sym, ap, ◌∙◌, ⊎_elim, arith}
use Rattle.augmenting.proofs.Counts.{any_from, from_any, count_without, pigeon, without, without_other}
use Rattle.augmenting.specs.Assigned.{Assigns}
use Rattle.augmenting.specs.Counting.{count, any}
use Rattle.augmenting.specs.Owners.{Closed, Free, Matching, seen}
use Rattle.std.proofs.lemmas.Bool.{and_from, and_parts, eq-eqb, eqb-true, not-true, or_cases, or_left, or_right}

pub blocked :
    (C : ℕ → ℕ → Bool) (p t i : ℕ) (o : List ℕ) (v w : List Bool) (m : ℕ → ℕ)
    → 0 < i → i ≤ p → Matching C t o → Free o i → ((j : ℕ) → get_or o j 0 ≤ p)
    → Closed C t o v w → Assigns C p t m
    → ((j : ℕ) → 0 < get_or o j 0 → seen v j ≡ false → i ≤ get_or o j 0)
    → ((k : ℕ) → k < p → i ≤ k + 1 → seen v (m k) ≡ false)
    → ((k : ℕ) → k + 1 ≡ i → seen w (m k) ≡ true) → ⊥
blocked C p t i o v w m z l g f below c a above avoids hit =
    let x : i - 1 + 1 ≡ i = omega arith in
    let start : S (i - 1) ≡ true = or_left (eqb (i - 1 + 1) i) (any (λ j. N j && eqb (get_or o j 0) (i - 1 + 1)) t) (eq-eqb (i - 1 + 1) i x) in
    let one : count S p ≡ count (without S (i - 1)) p + 1 = count_without S p (i - 1) (omega arith) start in
    let back : count N t ≤ count (without S (i - 1)) p = pigeon N p (λ j k. get_or o j 0 ≡ k + 1) (λ j n k q r. g.apart j n (omega arith) (q ∙ sym r)) t (without S (i - 1)) owner in
    let forth : count S p ≤ count N t = pigeon S t (λ k j. (k < p) × (m k ≡ j)) (λ k n j q r. a.apart k n q.0 r.0 (q.1 ∙ sym r.1)) p N image in
    omega (arith, one, back, forth)
  where
    N : ℕ → Bool
    N j = seen w j && not (seen v j)

    S : ℕ → Bool
    S k = eqb (k + 1) i || any (λ j. N j && eqb (get_or o j 0) (k + 1)) t

    owner : (j : ℕ) → j < t → N j ≡ true → (k : ℕ) × (k < p) × (without S (i - 1) k ≡ true) × (get_or o j 0 ≡ k + 1)
    owner j h e =
        let b = and_parts (seen w j) (not (seen v j)) e in
        let y : 0 < get_or o j 0 = c.owned j b.0 (not-true (seen v j) b.1) in
        let k = get_or o j 0 - 1 in
        let q : get_or o j 0 ≡ k + 1 = omega arith in
        let in-set : S k ≡ true =
        or_right (eqb (k + 1) i) (any (λ n. N n && eqb (get_or o n 0) (k + 1)) t)
        (any_from (λ n. N n && eqb (get_or o n 0) (k + 1)) t j h (and_from (N j) (eqb (get_or o j 0) (k + 1)) e (eq-eqb (get_or o j 0) (k + 1) q))) in
        let other : without S (i - 1) k ≡ S k = without_other S (i - 1) k (λ r. f j (let s : get_or o j 0 ≡ i = omega (arith, q, r) in s)) in
        (k, (let b' = below j in omega (arith, y, b')), other ∙ in-set, q)

    fits : (k : ℕ) → k < p → seen w (m k) ≡ true → i ≤ k + 1 → (j : ℕ) × (j < t) × (N j ≡ true) × ((k < p) × (m k ≡ j))
    fits k h e q = (m k, a.within k h, and_from (seen w (m k)) (not (seen v (m k))) e (ap not (avoids k h q)), (h, λ _. m k))

    image : (k : ℕ) → k < p → S k ≡ true → (j : ℕ) × (j < t) × (N j ≡ true) × ((k < p) × (m k ≡ j))
    image k h e =
        ⊎_elim
        (λ b. let q = eqb-true (k + 1) i b in fits k h (hit k q) (omega (arith, q)))
        (λ b.
        let y = from_any (λ n. N n && eqb (get_or o n 0) (k + 1)) t b in
        let n = y.0 in
        let d = and_parts (N n) (eqb (get_or o n 0) (k + 1)) y.2 in
        let q : get_or o n 0 ≡ k + 1 = eqb-true (get_or o n 0) (k + 1) d.1 in
        let u = and_parts (seen w n) (not (seen v n)) d.0 in
        let s = not-true (seen v n) u.1 in
        let r : C (get_or o n 0) (m k + 1) ≡ true = ap (λ b'. C b' (m k + 1)) q ∙ a.joined k h in
        let low : i ≤ get_or o n 0 = above n (omega (arith, q)) s in
        fits k h (c.reach n (m k) u.0 s (a.within k h) r) (omega (arith, q, low)))
        (or_cases (eqb (k + 1) i) (any (λ n. N n && eqb (get_or o n 0) (k + 1)) t) e)
