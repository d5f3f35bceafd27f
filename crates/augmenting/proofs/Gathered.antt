-- The set of a package that is left over with the owners of the translators tried: one more than
-- these, and in any wider pattern that reaches no others exactly one more than it reaches.
use Rattle.std.proofs.Common.{◌≡◌, ℕ, ◌+◌, ◌-◌, ◌<◌, ◌≤◌, Bool, true, false, ◌&&◌, List, length, get_or, sym, refl, ap, ◌∙◌, ⊎_elim, arith}
use Rattle.augmenting.proofs.Counts.{any_from, any_same, from_any, count_same, count_without, pigeon, without, without_other, without_same}
use Rattle.augmenting.specs.Assigned.{Assigns}
use Rattle.augmenting.specs.Counting.{count}
use Rattle.augmenting.specs.Owners.{Closed, Free, Matching, Tried, seen}
use Rattle.augmenting.specs.Sets.{OneFewer, OwnersAnd, reached}
use Rattle.std.proofs.lemmas.Bool.{and_from, and_parts, cases_eq, both_ways}

-- What is known where package i is left over: a matching of other packages among the first p, marks
-- on all that was tried, and the set.
pub record Stuck (C : ℕ → ℕ → Bool) (p t i : ℕ) (o : List ℕ) (v w s : List Bool) : Type 0 where
  pub some : (0 < i) × (i ≤ p)
  pub matching : Matching C t o
  pub free : Free o i
  pub below : (j : ℕ) → get_or o j 0 ≤ p
  pub fresh : (j : ℕ) → seen v j ≡ false
  pub closed : Closed C t o v w
  pub tried : Tried C i w t
  pub wide : p ≤ length s
  pub set : OwnersAnd o w i s

pub same_bool : (a b : Bool) → (a ≡ true → b ≡ true) → (b ≡ true → a ≡ true) → a ≡ b
same_bool true b f g = sym (f refl)
same_bool false true f g = g refl
same_bool false false f g = refl

-- whom a member may have is marked
pub member_reaches :
    (C : ℕ → ℕ → Bool) (p t i : ℕ) (o : List ℕ) (v w s : List Bool) → Stuck C p t i o v w s
    → (k j : ℕ) → seen s k ≡ true → j < t → C (k + 1) (j + 1) ≡ true → seen w j ≡ true
member_reaches C p t i o v w s h k j e l c =
    ⊎_elim
    (λ q. h.tried j l (ap (λ x. C x (j + 1)) (sym q) ∙ c))
    (λ y. h.closed.reach y.0 j y.1 (h.fresh y.0) l (ap (λ x. C x (j + 1)) y.2 ∙ c))
    (h.set.only k e)

-- a marked translator has an owner, which is a member
pub marked_owner :
    (C : ℕ → ℕ → Bool) (p t i : ℕ) (o : List ℕ) (v w s : List Bool) → Stuck C p t i o v w s
    → (j : ℕ) → seen w j ≡ true → (k : ℕ) × (k < p) × (seen s k ≡ true) × (get_or o j 0 ≡ k + 1)
marked_owner C p t i o v w s h j e =
    let y : 0 < get_or o j 0 = h.closed.owned j e (h.fresh j) in
    let b = h.below j in
    let k = get_or o j 0 - 1 in
    let q : get_or o j 0 ≡ k + 1 = omega arith in
    let l : k < p = omega (arith, y, b) in
    let x = h.wide in
    (k, l, h.set.owners j k e q (omega (arith, l, x)), q)

pub set_size :
    (C : ℕ → ℕ → Bool) (p t i : ℕ) (o : List ℕ) (v w s : List Bool) → Stuck C p t i o v w s
    → count (seen s) p ≡ count (seen w) t + 1
set_size C p t i o v w s h =
    let x = h.wide in
    let z = h.some.0 in
    let u = h.some.1 in
    let start : seen s (i - 1) ≡ true = h.set.start (i - 1) (omega (arith, z)) (omega (arith, z, u, x)) in
    let one : count (seen s) p ≡ count (without (seen s) (i - 1)) p + 1 = count_without (seen s) p (i - 1) (omega (arith, z, u)) start in
    let back : count (seen w) t ≤ count (without (seen s) (i - 1)) p =
    pigeon (seen w) p (λ j k. get_or o j 0 ≡ k + 1) (λ j n k q r. h.matching.apart j n (omega (arith, q)) (q ∙ sym r)) t (without (seen s) (i - 1)) owner in
    let forth : count (without (seen s) (i - 1)) p ≤ count (seen w) t =
    pigeon (without (seen s) (i - 1)) t (λ k j. get_or o j 0 ≡ k + 1) (λ k n j q r. let e : k + 1 ≡ n + 1 = sym q ∙ r in omega (arith, e)) p (seen w) place in
    omega (arith, one, back, forth)
  where
    owner : (j : ℕ) → j < t → seen w j ≡ true → (k : ℕ) × (k < p) × (without (seen s) (i - 1) k ≡ true) × (get_or o j 0 ≡ k + 1)
    owner j l e =
        let y = marked_owner C p t i o v w s h j e in
        let z = h.some.0 in
        let q = y.3 in
        (y.0, y.1, without_other (seen s) (i - 1) y.0 (λ r. h.free j (let d : get_or o j 0 ≡ i = omega (arith, q, r, z) in d)) ∙ y.2, q)

    place : (k : ℕ) → k < p → without (seen s) (i - 1) k ≡ true → (j : ℕ) × (j < t) × (seen w j ≡ true) × (get_or o j 0 ≡ k + 1)
    place k l e =
        ⊎_elim
        (λ q. absurd (both_ways (without (seen s) (i - 1) k) (ap (without (seen s) (i - 1)) q ∙ without_same (seen s) (i - 1)) e))
        (λ d.
        ⊎_elim
        (λ q. absurd (d (let z = h.some.0 in omega (arith, q, z))))
        (λ y. (y.0, h.matching.within y.0 (let q = y.2 in omega (arith, q)), y.1, y.2))
        (h.set.only k (sym (without_other (seen s) (i - 1) k d) ∙ e)))
        (cases_eq k (i - 1))

pub one_fewer :
    (C D : ℕ → ℕ → Bool) (p t i : ℕ) (o : List ℕ) (v w s : List Bool) → Stuck C p t i o v w s
    → ((k j : ℕ) → C k j ≡ true → D k j ≡ true)
    → ((k j : ℕ) → k < p → seen s k ≡ true → j < t → D (k + 1) (j + 1) ≡ true → seen w j ≡ true)
    → OneFewer D p t (seen s)
one_fewer C D p t i o v w s h wider leads =
    let size = set_size C p t i o v w s h in
    let same : count (reached D p (seen s)) t ≡ count (seen w) t = count_same (reached D p (seen s)) (seen w) t (λ j l. same_bool (reached D p (seen s) j) (seen w j) (into j l) (out j l)) in
    omega (arith, size, same)
  where
    into : (j : ℕ) → j < t → reached D p (seen s) j ≡ true → seen w j ≡ true
    into j l e =
        let y = from_any (λ k. seen s k && D (k + 1) (j + 1)) p e in
        let b = and_parts (seen s y.0) (D (y.0 + 1) (j + 1)) y.2 in
        leads y.0 j y.1 b.0 l b.1

    out : (j : ℕ) → j < t → seen w j ≡ true → reached D p (seen s) j ≡ true
    out j l e =
        let y = marked_owner C p t i o v w s h j e in
        let q = y.3 in
        let c : C (y.0 + 1) (j + 1) ≡ true = ap (λ x. C x (j + 1)) (sym q) ∙ h.matching.joined j (omega (arith, q)) in
        any_from (λ k. seen s k && D (k + 1) (j + 1)) p y.0 y.1 (and_from (seen s y.0) (D (y.0 + 1) (j + 1)) y.2 (wider (y.0 + 1) (j + 1) c))

-- a set that reaches one translator fewer than its members rules out every whole matching
pub ruled_out : (C : ℕ → ℕ → Bool) (p t : ℕ) (S : ℕ → Bool) (m : ℕ → ℕ) → OneFewer C p t S → Assigns C p t m → ⊥
ruled_out C p t S m e a =
    let enough : count S p ≤ count (reached C p S) t =
    pigeon S t (λ k j. (k < p) × (m k ≡ j)) (λ k n j q r. a.apart k n q.0 r.0 (q.1 ∙ sym r.1)) p (reached C p S)
    (λ k l s. (m k, a.within k l, any_from (λ n. S n && C (n + 1) (m k + 1)) p k l (and_from (S k) (C (k + 1) (m k + 1)) s (a.joined k l)), (l, λ _. m k))) in
    omega (arith, enough, e)

-- it does not matter what a set says of places past the packages
pub same_members :
    (C : ℕ → ℕ → Bool) (p t : ℕ) (S T : ℕ → Bool) → ((k : ℕ) → k < p → S k ≡ T k) → OneFewer C p t S → OneFewer C p t T
same_members C p t S T h e =
    let a : count S p ≡ count T p = count_same S T p h in
    let b : count (reached C p S) t ≡ count (reached C p T) t =
    count_same (reached C p S) (reached C p T) t
    (λ j _. any_same (λ k. S k && C (k + 1) (j + 1)) (λ k. T k && C (k + 1) (j + 1)) p (λ k l. ap (λ x. x && C (k + 1) (j + 1)) (h k l))) in
    omega (arith, a, b, e)
