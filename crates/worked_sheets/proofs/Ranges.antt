-- Tests that run through the numbers below a bound, a list, all lists of numbers from 1 to t, and
-- all sets of p packages; each passes only where the test passes at every one.
use Rattle.std.proofs.Common.{◌≡◌, ℕ, zero, suc, ◌<◌, ◌≤◌, Bool, true, false, cond, not, ◌&&◌, ◌||◌, List, [], ◌∷◌, length, get_or, sym, refl, ap, ◌∙◌, inl, inr, ⊎_elim, arith}
use Rattle.std.proofs.lemmas.Bool.{and_from, and_parts, both_ways, cases_eq, or_cases, not-true}
use Rattle.worked_sheets.specs.Right.{Each, OneOf}

unfoldable pub implies? : Bool → Bool → Bool
implies? a b = not a || b

pub implied : (a b : Bool) → implies? a b ≡ true → a ≡ true → b ≡ true
unfolding implies?
implied a b e h =
    ⊎_elim (λ q. absurd (both_ways a (not-true a q) h)) (λ q. q) (or_cases (not a) b e)

unfoldable pub same? : Bool → Bool → Bool
same? a b = cond a b (not b)

pub same_from : (a b : Bool) → same? a b ≡ true → a ≡ b
unfolding same?
same_from true b e = sym e
same_from false b e = sym (not-true b e)

unfoldable pub below? : (ℕ → Bool) → ℕ → Bool
below? f zero = true
below? f (suc n) = f n && below? f n

pub below_all : (f : ℕ → Bool) (n : ℕ) → below? f n ≡ true → (k : ℕ) → k < n → f k ≡ true
unfolding below?
below_all f zero e k l = absurd (omega arith)
below_all f (suc n) e k l =
    let h = and_parts (f n) (below? f n) e in
    ⊎_elim (λ q. ap f q ∙ h.0) (λ d. below_all f n h.1 k (omega arith)) (cases_eq k n)

pub all_below : (f : ℕ → Bool) (n : ℕ) → ((k : ℕ) → k < n → f k ≡ true) → below? f n ≡ true
unfolding below?
all_below f zero h = refl
all_below f (suc n) h =
    and_from (f n) (below? f n) (h n (omega arith)) (all_below f n (λ k l. h k (omega arith)))

module _ {A : Type 0} (f : A → Bool) where
  unfoldable pub every? : List A → Bool
  every? [] = true
  every? (x ∷ xs) = f x && every? xs

  unfoldable pub some? : List A → Bool
  some? [] = false
  some? (x ∷ xs) = f x || some? xs

module _ {A : Type 0} (f : A → Bool) (P : A → Type 0) (h : (x : A) → f x ≡ true → P x) where
  pub every_each : (xs : List A) → every? f xs ≡ true → Each P xs
  unfolding every?
  every_each [] e = tt
  every_each (x ∷ xs) e =
      let y = and_parts (f x) (every? f xs) e in
      (h x y.0, every_each xs y.1)

  pub some_one : (xs : List A) → some? f xs ≡ true → OneOf P xs
  unfolding some?
  some_one [] e = absurd (both_ways false refl e)
  some_one (x ∷ xs) e = ⊎_elim (λ q. inl (h x q)) (λ q. inr (some_one xs q)) (or_cases (f x) (some? f xs) e)

unfoldable pub plans? : (List ℕ → Bool) → ℕ → ℕ → Bool
plans? f zero t = f []
plans? f (suc p) t = below? (λ j. plans? (λ plan. f (suc j ∷ plan)) p t) t

pub plans_all :
    (f : List ℕ → Bool) (p t : ℕ) → plans? f p t ≡ true → (plan : List ℕ) → length plan ≡ p
    → ((k : ℕ) → k < p → (1 ≤ get_or plan k 0) × (get_or plan k 0 ≤ t)) → f plan ≡ true
unfolding plans?
plans_all f zero t e [] l w = e
plans_all f zero t e (a ∷ plan) l w = absurd (omega (arith, l))
plans_all f (suc p) t e [] l w = absurd (omega (arith, l))
plans_all f (suc p) t e (zero ∷ plan) l w = absurd (let h = (w 0 (omega arith)).0 in omega (arith, h))
plans_all f (suc p) t e (suc j ∷ plan) l w =
    plans_all (λ rest. f (suc j ∷ rest)) p t
    (below_all (λ i. plans? (λ rest. f (suc i ∷ rest)) p t) t e j (w 0 (omega arith)).1)
    plan (omega (arith, l)) (λ k h. w (suc k) (omega arith))

unfoldable pub sets? : (List Bool → Bool) → ℕ → Bool
sets? f zero = f []
sets? f (suc p) = sets? (λ s. f (true ∷ s)) p && sets? (λ s. f (false ∷ s)) p

pub sets_all : (f : List Bool → Bool) (p : ℕ) → sets? f p ≡ true → (s : List Bool) → length s ≡ p → f s ≡ true
unfolding sets?
sets_all f zero e [] l = e
sets_all f zero e (b ∷ s) l = absurd (omega (arith, l))
sets_all f (suc p) e [] l = absurd (omega (arith, l))
sets_all f (suc p) e (true ∷ s) l =
    sets_all (λ r. f (true ∷ r)) p (and_parts (sets? (λ r. f (true ∷ r)) p) (sets? (λ r. f (false ∷ r)) p) e).0 s (omega (arith, l))
sets_all f (suc p) e (false ∷ s) l =
    sets_all (λ r. f (false ∷ r)) p (and_parts (sets? (λ r. f (true ∷ r)) p) (sets? (λ r. f (false ∷ r)) p) e).1 s (omega (arith, l))

-- the first p places of a set as a list
unfoldable pub firsts : (ℕ → Bool) → ℕ → List Bool
firsts S zero = []
firsts S (suc p) = S 0 ∷ firsts (λ k. S (suc k)) p

pub length_firsts : (S : ℕ → Bool) (p : ℕ) → length (firsts S p) ≡ p
unfolding firsts
length_firsts S zero = refl
length_firsts S (suc p) = ap suc (length_firsts (λ k. S (suc k)) p)

pub at_firsts : (S : ℕ → Bool) (p k : ℕ) → k < p → get_or (firsts S p) k false ≡ S k
unfolding firsts
at_firsts S zero k l = absurd (omega arith)
at_firsts S (suc p) zero l = refl
at_firsts S (suc p) (suc k) l = at_firsts (λ i. S (suc i)) p k (omega arith)
