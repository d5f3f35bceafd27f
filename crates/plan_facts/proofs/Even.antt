-- Sheets on which every pair has the same grade.
use Rattle.std.proofs.Common.{◌≡◌, ℕ, zero, suc, ◌+◌, ◌-◌, ◌<◌, ◌≤◌, Bool, true, List, [], ◌∷◌, length, get_or, is_some, Some, Option, sym, refl, ap, ◌∙◌, inl, ⊎_elim, arith}
use Rattle.augmenting.specs.Counting.{count}
use Rattle.augmenting.specs.Sets.{reached}
use Rattle.bottleneck.specs.Grades.{graded, graded_above, passes}
use Rattle.grades.proofs.Laws.{not_itself}
use Rattle.grades.specs.Order.{Order}
use Rattle.matching.proofs.Rules.{one_best}
use Rattle.matching.specs.Plans.{BestPlan, FullPlan, LowestGrade, FirstBefore}
use Rattle.plan_facts.proofs.Counted.{count_all, count_from_one, none_reached, one_from_count, reached_by_a_member}
use Rattle.plan_facts.proofs.Lowest.{same_some}
use Rattle.plan_facts.specs.Even.{AllGraded, EvenSheetsCountUp, ShortEvenSheets, TightSetsOfEvenSheets, counted_up}
use Rattle.std.proofs.lemmas.List.{get_or_append_left, get_or_push, length_push}
use Rattle.std.proofs.lemmas.Bool.{cases_eq, cases_lt}

length_up : (n : ℕ) → length (counted_up n) ≡ n
unfolding counted_up
length_up zero = refl
length_up (suc n) = let a = length_push (counted_up n) (suc n) in let b = length_up n in omega (arith, a, b)

up_at : (n k : ℕ) → k < n → get_or (counted_up n) k 0 ≡ k + 1
unfolding counted_up
up_at zero k l = absurd (omega arith)
up_at (suc n) k l =
    let e = length_up n in
    ⊎_elim
    (λ q. get_or_push (counted_up n) (suc n) 0 k (let z : length (counted_up n) ≡ k = omega (arith, e, q) in z) ∙ omega (arith, q))
    (λ d. get_or_append_left (counted_up n) (suc n ∷ []) 0 k (omega (arith, e, d, l)) ∙ up_at n k (omega (arith, d, l)))
    (cases_eq k n)

module _ (valid : ℕ → Bool) (above : ℕ → ℕ → Bool) (o : Order valid above) (G : ℕ → ℕ → Option ℕ) (p t code : ℕ)
    (right : valid code ≡ true) (some : 1 ≤ p) (wide : p ≤ t) (all : AllGraded G p t code)
  where
    plan_code : (k c : ℕ) → k < p → G (k + 1) (get_or (counted_up p) k 0) ≡ Some c → c ≡ code
    plan_code k c l e =
        same_some c code (sym e ∙ ap (G (k + 1)) (up_at p k l) ∙ all (k + 1) (k + 1) (omega arith) (omega arith) (omega arith) (omega arith))

    full : FullPlan (graded G) p t (counted_up p)
    full =
        record {
          long = length_up p;
          within = λ k l. let e = up_at p k l in (omega (arith, e), omega (arith, e, l, wide));
          paired = λ k l.
              ap (λ (j : ℕ). graded G (k + 1) j) (up_at p k l)
              ∙ ap is_some (all (k + 1) (k + 1) (omega arith) (omega arith) (omega arith) (omega arith));
          apart = λ k l h g e. let a = up_at p k h in let b = up_at p l g in omega (arith, a, b, e);
        }

    lowest : LowestGrade above G (counted_up p) code
    lowest =
        let long = length_up p in
        record {
          held = (0, omega (arith, long, some), ap (G 1) (up_at p 0 some) ∙ all 1 1 (omega arith) some (omega arith) (omega arith));
          none_below = λ k c l e. ap (above code) (plan_code k c (omega (arith, l, long)) e) ∙ not_itself o code right;
        }

    other_code : (other : List ℕ) (c : ℕ) → FullPlan (graded G) p t other → LowestGrade above G other c → c ≡ code
    other_code other c f g =
        let h = g.held in
        let long = f.long in
        let l : h.0 < p = omega (arith, h.1, long) in
        let w = f.within h.0 l in
        same_some c code (sym h.2 ∙ all (h.0 + 1) (get_or other h.0 0) (omega arith) (omega arith) w.0 w.1)

    -- a plan that has 1, 2, .., k for the first k packages has no number up to k for the next
    first : (other : List ℕ) → FullPlan (graded G) p t other → LowestGrade above G other code → FirstBefore (counted_up p) other
    first other f g k l agree =
        let long = length_up p in
        let h : k < p = omega (arith, l, long) in
        let w = (f.within k h).0 in
        let here = up_at p k h in
        ⊎_elim
        (λ small.
        absurd
        (let i : ℕ = get_or other k 0 - 1 in
        let q : i < k = omega (arith, small, w) in
        let e : get_or other i 0 ≡ i + 1 = agree i q ∙ up_at p i (omega (arith, q, h)) in
        let z : i ≡ k = f.apart i k (omega (arith, q, h)) h (let y : get_or other i 0 ≡ get_or other k 0 = omega (arith, e, w) in y) in
        omega (arith, z, q)))
        (λ big. omega (arith, big, here))
        (cases_lt (get_or other k 0) (k + 1))

    pub counts_up : BestPlan above G p t (counted_up p) code
    counts_up =
        record {
          full = full;
          lowest_grade = lowest;
          bottleneck = λ other c f g. inl (other_code other c f g);
          first = first;
        }

pub even_sheets_count_up : EvenSheetsCountUp
even_sheets_count_up valid above o G valids p t code some wide all =
    let right : valid code ≡ true = valids 1 1 code (all 1 1 (omega arith) some (omega arith) (omega arith)) in
    let best : BestPlan above G p t (counted_up p) code = counts_up valid above o G p t code right some wide all in
    (best, λ plan lowest b. one_best valid above o G valids p t plan (counted_up p) lowest code b best)

pub tight_sets_of_even_sheets : TightSetsOfEvenSheets
tight_sets_of_even_sheets valid above o G p t code right all S =
    let none : count (reached (graded_above above G code) p S) t ≡ 0 =
    none_reached (graded_above above G code) p t S
    (λ k j l h.
    ap (passes (λ c. above c code)) (all (k + 1) (j + 1) (omega arith) (omega arith) (omega arith) (omega arith)) ∙ not_itself o code right) in (
      λ e. one_from_count S p (omega (arith, e, none)),
      λ w. let c = count_from_one S p w in omega (arith, c, none),
    )

pub short_even_sheets : ShortEvenSheets
short_even_sheets G t code all S members =
    let a : count S (t + 1) ≡ t + 1 = count_all S (t + 1) members in
    let b : count (reached (graded G) (t + 1) S) t ≡ t =
    count_all (reached (graded G) (t + 1) S) t
    (λ j l.
    (reached_by_a_member (graded G) (t + 1) S j).1 0 (omega arith) (members 0 (omega arith))
    (ap is_some (all 1 (j + 1) (omega arith) (omega arith) (omega arith) (omega arith)))) in
    omega (arith, a, b)
