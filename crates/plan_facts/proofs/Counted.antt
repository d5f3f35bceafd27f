-- Counting none, all and one; what is reached, and by which grades.
use Rattle.std.proofs.Common.{◌≡◌, ℕ, zero, suc, ◌+◌, ◌-◌, ◌<◌, ◌≤◌, Bool, true, false, ◌&&◌, get_or, is_some, sym, refl, ap, ◌∙◌, ⊎_elim, arith}
use Rattle.augmenting.proofs.Counts.{any_from, any_same, bit, count_same, count_without, from_any, pigeon, without, without_other, without_same}
use Rattle.augmenting.specs.Counting.{count}
use Rattle.augmenting.specs.Sets.{OneFewer, reached}
use Rattle.bottleneck.proofs.Lowering.{some_graded, some_of}
use Rattle.bottleneck.specs.Grades.{graded, graded_above, passes}
use Rattle.matching.proofs.Rules.{assigned, no_full_plan}
use Rattle.plan_facts.specs.Plans.{TooFewTranslators}
use Rattle.plan_facts.specs.Sets.{Counts, EmptySetsAreNeither, ExactlyOne, JoinedByGrades, ReachedByAMember, SetsEndAtTheLastPackage, TightSetsAreNotShort}
use Rattle.std.proofs.lemmas.Bool.{and_from, and_parts, both_ways, cases_Bool, cases_eq}

pub count_none : (f : ℕ → Bool) (n : ℕ) → ((k : ℕ) → k < n → f k ≡ false) → count f n ≡ 0
unfolding count
count_none f zero h = refl
count_none f (suc n) h =
    let a : bit (f n) ≡ 0 = ap bit (h n (omega arith)) in
    let b : count f n ≡ 0 = count_none f n (λ k l. h k (omega arith)) in
    omega (arith, a, b)

pub count_all : (f : ℕ → Bool) (n : ℕ) → ((k : ℕ) → k < n → f k ≡ true) → count f n ≡ n
unfolding count
count_all f zero h = refl
count_all f (suc n) h =
    let a : bit (f n) ≡ 1 = ap bit (h n (omega arith)) in
    let b : count f n ≡ n = count_all f n (λ k l. h k (omega arith)) in
    omega (arith, a, b)

count_more :
    (f g : ℕ → Bool) (n j : ℕ) → j < n → f j ≡ true → g j ≡ false → ((k : ℕ) → k < n → (k ≡ j → ⊥) → f k ≡ g k)
    → count f n ≡ count g n + 1
count_more f g n j l e d h =
    let a : count f n ≡ count (without f j) n + 1 = count_without f n j l e in
    let b : count (without f j) n ≡ count g n =
    count_same (without f j) g n
    (λ k m.
    ⊎_elim
    (λ q. ap (without f j) q ∙ without_same f j ∙ sym d ∙ ap g (sym q))
    (λ q. without_other f j k q ∙ h k m q)
    (cases_eq k j)) in
    omega (arith, a, b)

-- a count that is not 0 has a place
some_place : (f : ℕ → Bool) (n : ℕ) → 0 < count f n → (k : ℕ) × (k < n) × (f k ≡ true)
unfolding count
some_place f zero l = absurd (omega arith)
some_place f (suc n) l =
    ⊎_elim
    (λ e. (n, omega arith, e))
    (λ e. let a : bit (f n) ≡ 0 = ap bit e in let w = some_place f n (omega (arith, a, l)) in (w.0, omega (arith, w.1), w.2))
    (cases_Bool (f n))

pub one_from_count : (f : ℕ → Bool) (n : ℕ) → count f n ≡ 1 → ExactlyOne f n
one_from_count f n c =
    let w = some_place f n (omega (arith, c)) in
    record {
      place = w.0;
      within = w.1;
      passes = w.2;
      only = λ k l e.
          ⊎_elim
          (λ q. q)
          (λ d.
          absurd
          (let a : count f n ≡ count (without f w.0) n + 1 = count_without f n w.0 w.1 w.2 in
          let b : count (without f w.0) n ≡ count (without (without f w.0) k) n + 1 =
          count_without (without f w.0) n k l (without_other f w.0 k d ∙ e) in
          omega (arith, a, b, c)))
          (cases_eq k w.0);
    }

pub count_from_one : (f : ℕ → Bool) (n : ℕ) → ExactlyOne f n → count f n ≡ 1
count_from_one f n w =
    let j : ℕ = w.place in
    let a : count f n ≡ count (without f j) n + 1 = count_without f n j w.within w.passes in
    let b : count (without f j) n ≡ 0 =
    count_none (without f j) n
    (λ k l.
    ⊎_elim
    (λ q. ap (without f j) q ∙ without_same f j)
    (λ d. without_other f j k d ∙ ⊎_elim (λ e. absurd (d (w.only k l e))) (λ e. e) (cases_Bool (f k)))
    (cases_eq k j)) in
    omega (arith, a, b)

pub counts : Counts
counts = record { none = count_none; all = count_all; one_more = count_more; one = λ f n. (one_from_count f n, count_from_one f n) }

pub reached_by_a_member : ReachedByAMember
reached_by_a_member C p S j = (
  λ e. let w = from_any (λ k. S k && C (k + 1) (j + 1)) p e in
      let b = and_parts (S w.0) (C (w.0 + 1) (j + 1)) w.2 in
      (w.0, w.1, b.0, b.1),
  λ k l s c. any_from (λ i. S i && C (i + 1) (j + 1)) p k l (and_from (S k) (C (k + 1) (j + 1)) s c),
)

pub joined_by_grades : JoinedByGrades
joined_by_grades above G k j lowest = (
  λ e. some_graded (G k j) e,
  λ code e. ap is_some e,
  λ e. some_of (λ c. above c lowest) (G k j) e,
  λ code e a. ap (passes (λ c. above c lowest)) e ∙ a,
)

-- nothing is reached where no member of the set may be matched
pub none_reached :
    (C : ℕ → ℕ → Bool) (p t : ℕ) (S : ℕ → Bool) → ((k j : ℕ) → k < p → j < t → C (k + 1) (j + 1) ≡ false) → count (reached C p S) t ≡ 0
none_reached C p t S h =
    count_none (reached C p S) t
    (λ j l.
    ⊎_elim
    (λ e. let w = (reached_by_a_member C p S j).0 e in absurd (both_ways (C (w.0 + 1) (j + 1)) (h w.0 j w.1 l) w.3))
    (λ e. e)
    (cases_Bool (reached C p S j)))

empty_is_neither : (C : ℕ → ℕ → Bool) (p t : ℕ) (S : ℕ → Bool) → ((k : ℕ) → k < p → S k ≡ false) → OneFewer C p t S → ⊥
empty_is_neither C p t S h e = let z = count_none S p h in omega (arith, e, z)

pub empty_sets_are_neither : EmptySetsAreNeither
empty_sets_are_neither above G p t lowest S h =
    (empty_is_neither (graded_above above G lowest) p t S h, empty_is_neither (graded G) p t S h)

pub tight_sets_are_not_short : TightSetsAreNotShort
tight_sets_are_not_short above G p t lowest plan S f tight short = no_full_plan (graded G) p t S short plan f

pub sets_end_at_the_last_package : SetsEndAtTheLastPackage
sets_end_at_the_last_package C p t S T h e =
    let a : count S p ≡ count T p = count_same S T p h in
    let b : count (reached C p S) t ≡ count (reached C p T) t =
    count_same (reached C p S) (reached C p T) t
    (λ j _. any_same (λ k. S k && C (k + 1) (j + 1)) (λ k. T k && C (k + 1) (j + 1)) p (λ k l. ap (λ (x : Bool). x && C (k + 1) (j + 1)) (h k l))) in
    omega (arith, a, b, e)

pub too_few_translators : TooFewTranslators
too_few_translators G p t l plan f =
    let a = assigned (graded G) p t plan f in
    let m : ℕ → ℕ = λ k. get_or plan k 0 - 1 in
    let yes' : ℕ → Bool = λ k. true in
    let b : count yes' p ≤ count yes' t =
    pigeon yes' t (λ k j. (k < p) × (m k ≡ j)) (λ i k j q r. a.apart i k q.0 r.0 (q.1 ∙ sym r.1)) p yes'
    (λ i h _. (m i, a.within i h, refl, (h, refl))) in
    let c = count_all yes' p (λ k _. refl) in
    let d = count_all yes' t (λ k _. refl) in
    omega (arith, b, c, d, l)
