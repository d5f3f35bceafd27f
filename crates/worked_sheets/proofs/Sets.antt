-- Tests of sets: which reach one translator fewer than they have members, among all sets.
use Rattle.std.proofs.Common.{◌≡◌, ℕ, ◌+◌, ◌<◌, ◌≤◌, Bool, true, ◌&&◌, eqb, leb, List, sym, ap, ◌∙◌}
use Rattle.augmenting.proofs.Counts.{any_same, count_same}
use Rattle.augmenting.specs.Counting.{count}
use Rattle.augmenting.specs.Owners.{seen}
use Rattle.augmenting.specs.Sets.{OneFewer, reached}
use Rattle.std.proofs.lemmas.Bool.{and_parts, eq-eqb, eqb-true, leb-true}
use Rattle.worked_sheets.proofs.Ranges.{at_firsts, below_all, below?, every_each, every?, firsts, implied, implies?, length_firsts, same_from, same?, sets_all, sets?, some_one, some?}
use Rattle.worked_sheets.specs.Right.{Each, Exactly, OneOf, listed}

module _ (C : ℕ → ℕ → Bool) (p t : ℕ) where
  unfoldable pub one_fewer? : (ℕ → Bool) → Bool
  one_fewer? S = eqb (count (reached C p S) t + 1) (count S p)

  -- only places below p matter
  one_fewer_same : (S R : ℕ → Bool) → ((k : ℕ) → k < p → R k ≡ S k) → OneFewer C p t S → OneFewer C p t R
  one_fewer_same S R h e =
      ap (λ n. n + 1) (count_same (reached C p R) (reached C p S) t (λ j l. any_same (λ k. R k && C (k + 1) (j + 1)) (λ k. S k && C (k + 1) (j + 1)) p (λ k g. ap (λ b. b && C (k + 1) (j + 1)) (h k g))))
      ∙ e ∙ sym (count_same R S p h)

  abbrev number? : ℕ → Bool
  number? n = leb 1 n && leb n p

  abbrev agrees? : List Bool → List ℕ → Bool
  agrees? s set = below? (λ k. same? (seen s k) (listed set k)) p

  abbrev named? : List (List ℕ) → List Bool → Bool
  named? sets s = implies? (one_fewer? (seen s)) (some? (agrees? s) sets)

  unfoldable pub exactly? : List (List ℕ) → Bool
  exactly? sets =
      every? (every? number?) sets && (every? (λ set. one_fewer? (listed set)) sets && sets? (named? sets) p)

  pub exactly_from : (sets : List (List ℕ)) → exactly? sets ≡ true → Exactly (OneFewer C p t) p sets
  unfolding exactly? one_fewer?
  exactly_from sets e =
      record {
        of_packages = every_each (every? number?) (Each Number) (every_each number? Number (λ n q. number n q)) sets a.0;
        each = every_each (λ set. one_fewer? (listed set)) (λ set. OneFewer C p t (listed set))
            (λ set q. eqb-true (count (reached C p (listed set)) t + 1) (count (listed set) p) q) sets b.0;
        no_other = no_other;
      }
    where
      a : (every? (every? number?) sets ≡ true) × ((every? (λ set. one_fewer? (listed set)) sets && sets? (named? sets) p) ≡ true)
      a = and_parts (every? (every? number?) sets) (every? (λ set. one_fewer? (listed set)) sets && sets? (named? sets) p) e

      b : (every? (λ set. one_fewer? (listed set)) sets ≡ true) × (sets? (named? sets) p ≡ true)
      b = and_parts (every? (λ set. one_fewer? (listed set)) sets) (sets? (named? sets) p) a.1

      Number : ℕ → Type 0
      Number n = (1 ≤ n) × (n ≤ p)

      number : (n : ℕ) → number? n ≡ true → Number n
      number n q = let y = and_parts (leb 1 n) (leb n p) q in (leb-true 1 n y.0, leb-true n p y.1)

      no_other : (S : ℕ → Bool) → OneFewer C p t S → OneOf (λ set. (k : ℕ) → k < p → S k ≡ listed set k) sets
      no_other S o =
          let same : (k : ℕ) → k < p → seen (firsts S p) k ≡ S k = at_firsts S p in
          let fewer : OneFewer C p t (seen (firsts S p)) = one_fewer_same S (seen (firsts S p)) same o in
          some_one (agrees? (firsts S p)) (λ set. (k : ℕ) → k < p → S k ≡ listed set k)
          (λ set q k l.
          sym (same k l) ∙ same_from (seen (firsts S p) k) (listed set k) (below_all (λ i. same? (seen (firsts S p) i) (listed set i)) p q k l))
          sets
          (implied (one_fewer? (seen (firsts S p))) (some? (agrees? (firsts S p)) sets)
          (sets_all (named? sets) p b.1 (firsts S p) (length_firsts S p))
          (eq-eqb (count (reached C p (seen (firsts S p))) t + 1) (count (seen (firsts S p)) p) fewer))
