-- From the owners that were found to the best plan.
use Rattle.std.proofs.Common.{◌≡◌, ℕ, ◌+◌, ◌-◌, ◌<◌, ◌≤◌, Bool, true, false, not, ◌⊎◌, List, length, get_or, take, is_some, Some, Option, sym, ap, ◌∙◌, inl, inr, ⊎_elim, arith}
use Rattle.augmenting.proofs.Counts.{all_or}
use Rattle.augmenting.specs.Assigned.{Complete}
use Rattle.augmenting.specs.Owners.{seen}
use Rattle.bottleneck.proofs.Lowering.{some_graded, some_of}
use Rattle.bottleneck.proofs.Ranks.{compared}
use Rattle.bottleneck.specs.Found.{MatchedFirst}
use Rattle.bottleneck.specs.Grades.{AllValid, graded, graded_above, graded_from, passes}
use Rattle.grades.specs.Order.{Order}
use Rattle.matching.proofs.Rules.{assigned, no_full_plan, repaired, tight_rules}
use Rattle.matching.specs.Owned.{EachOnce, ReadsOff}
use Rattle.matching.specs.Plans.{BestPlan, FirstBefore, FullPlan, LowestGrade}
use Rattle.std.proofs.lemmas.List.{get_or-take, length-take-le}
use Rattle.std.proofs.lemmas.Bool.{both_ways, not-true}

pub each_once : (C : ℕ → ℕ → Bool) (p t : ℕ) (o : List ℕ) → Complete C p t o → EachOnce p o
each_once C p t o c = record { all = c.all; only = c.only; apart = c.matching.apart }

module _ (valid : ℕ → Bool) (above : ℕ → ℕ → Bool) (order : Order valid above) (G : ℕ → ℕ → Option ℕ) (all : AllValid valid G)
    (p t lowest : ℕ) (o : List ℕ) (s : List Bool) (found : MatchedFirst valid above G p t o lowest s)
    (ns : List ℕ) (wide : p ≤ length ns) (reads : ReadsOff o ns) where
  plan : List ℕ
  plan = take p ns

  long : length (take p ns) ≡ p
  long = length-take-le p ns wide

  -- the translator of each package, and where it stands in the note
  entry : (k : ℕ) → k < p → (j : ℕ) × (get_or (take p ns) k 0 ≡ j + 1) × (get_or o j 0 ≡ k + 1)
  entry k l =
      let y = found.complete.all k l in
      (y.0, get_or-take p ns k 0 l ∙ reads y.0 k y.1, y.1)

  from_lowest : FullPlan (graded_from above G lowest) p t (take p ns)
  from_lowest =
      record {
        long = long;
        within = λ k l.
            let y = entry k l in
            let e = y.1 in
            let d = y.2 in
            let w = found.complete.matching.within y.0 (omega (arith, d)) in
            (omega (arith, e), omega (arith, e, w));
        paired = λ k l.
            let y = entry k l in
            let d = y.2 in
            ap (graded_from above G lowest (k + 1)) y.1 ∙ ap (λ x. graded_from above G lowest x (y.0 + 1)) (sym d) ∙ found.complete.matching.joined y.0 (omega (arith, d));
        apart = λ k l h g q.
            let y = entry k h in
            let z = entry l g in
            let a = y.1 in
            let b = z.1 in
            let same : y.0 ≡ z.0 = omega (arith, a, b, q) in
            let e : k + 1 ≡ l + 1 = sym y.2 ∙ ap (λ x. get_or o x 0) same ∙ z.2 in
            omega (arith, e);
      }

  full : FullPlan (graded G) p t (take p ns)
  full =
      repaired (graded_from above G lowest) (graded G) p t (take p ns) from_lowest
      (λ k l. let y = some_of (λ c. not (above lowest c)) (G (k + 1) (get_or (take p ns) k 0)) (from_lowest.paired k l) in ap is_some y.1)

  -- each grade is above the lowest, or the lowest itself
  each : (k : ℕ) → k < p
      → (graded_above above G lowest (k + 1) (get_or (take p ns) k 0) ≡ true) ⊎ (G (k + 1) (get_or (take p ns) k 0) ≡ Some lowest)
  each k l =
      let y = some_of (λ c. not (above lowest c)) (G (k + 1) (get_or (take p ns) k 0)) (from_lowest.paired k l) in
      let n : above lowest y.0 ≡ false = not-true (above lowest y.0) y.2 in
      ⊎_elim
      (λ q. absurd (both_ways (above lowest y.0) n q))
      (λ r.
      ⊎_elim
      (λ q. inl (ap (passes (λ c. above c lowest)) y.1 ∙ q))
      (λ q. inr (y.1 ∙ ap Some (sym q)))
      r)
      (compared valid above order lowest y.0 found.right (all (k + 1) (get_or (take p ns) k 0) y.0 y.1))

  lowest_grade : LowestGrade above G (take p ns) lowest
  lowest_grade =
      record {
        held =
            ⊎_elim
            (λ h. absurd (no_full_plan (graded_above above G lowest) p t (seen s) found.tight (take p ns) (repaired (graded G) (graded_above above G lowest) p t (take p ns) full h)))
            (λ y. (y.0, (let l = y.1 in let e = long in omega (arith, l, e)), y.2))
            (all_or (λ k. graded_above above G lowest (k + 1) (get_or (take p ns) k 0) ≡ true) (λ k. G (k + 1) (get_or (take p ns) k 0) ≡ Some lowest) p each);
        none_below = λ k code l e.
            let m = long in
            let c : graded_from above G lowest (k + 1) (get_or (take p ns) k 0) ≡ true = from_lowest.paired k (omega (arith, l, m)) in
            not-true (above lowest code) (sym (ap (passes (λ x. not (above lowest x))) e) ∙ c);
      }

  first : (other : List ℕ) → FullPlan (graded G) p t other → LowestGrade above G other lowest → FirstBefore (take p ns) other
  first other f g k l agree =
      let m = long in
      let h : k < p = omega (arith, l, m) in
      let from : FullPlan (graded_from above G lowest) p t other =
      repaired (graded G) (graded_from above G lowest) p t other f
      (λ i x.
      let y = some_graded (G (i + 1) (get_or other i 0)) (f.paired i x) in
      let size = f.long in
      ap (passes (λ c. not (above lowest c))) y.1 ∙ ap not (g.none_below i y.0 (omega (arith, x, size)) y.1)) in
      let y = entry k h in
      let e = y.1 in
      let small : y.0 ≤ get_or other k 0 - 1 =
      found.least k h (λ i. get_or other i 0 - 1) (assigned (graded_from above G lowest) p t other from)
      (λ i x.
      let z = entry i (omega (arith, x, h)) in
      let a = z.1 in
      let b = agree i x in
      let q : get_or other i 0 - 1 ≡ z.0 = omega (arith, a, b) in
      ap (λ n. get_or o n 0) q ∙ z.2)
      y.0 y.2 in
      let w = (f.within k h).0 in
      omega (arith, e, small, w)

  pub best_from : BestPlan above G p t (take p ns) lowest
  best_from =
      record {
        full = full;
        lowest_grade = lowest_grade;
        bottleneck = λ other code f g.
            let h = g.held in
            let w : valid code ≡ true = all (h.0 + 1) (get_or other h.0 0) code h.2 in
            ⊎_elim
            (λ q. absurd (tight_rules valid above order G all p t lowest (seen s) found.right found.tight other code f g q))
            (λ r. ⊎_elim (λ q. inr q) (λ q. inl q) r)
            (compared valid above order code lowest w found.right);
        first = first;
      }
