-- The highest so far, one translator on and one row on.
use Rattle.std.proofs.Common.{◌≡◌, ℕ, ◌+◌, ◌<◌, Bool, true, false, cond, not, ◌&&◌, eqb, ◌⊎◌, List, is_some, Some, None, Option, unwrap_or, sym, ap, ◌∙◌, subst, inr, ⊎_elim, arith}
use Rattle.augmenting.specs.Owners.{seen}
use Rattle.bottleneck.proofs.Ranks.{higher_kept}
use Rattle.bottleneck.specs.Codes.{grade_of_code}
use Rattle.bottleneck.specs.Floors.{Highest, HighestInRow, WayOut, higher}
use Rattle.bottleneck.specs.Grades.{AllValid}
use Rattle.grades.proofs.Laws.{not_itself}
use Rattle.grades.specs.Order.{Order}
use Rattle.std.proofs.lemmas.Bool.{both_ways, cases_Bool, cases_eq, true≢false}

pub none_some : (c : ℕ) → ◌≡◌ {A = Option ℕ} None (Some c) → ⊥
none_some c e = true≢false (sym (ap is_some e))

pub some_same : (c d : ℕ) → ◌≡◌ {A = Option ℕ} (Some c) (Some d) → c ≡ d
some_same c d e = ap (λ o. unwrap_or o 0) e

-- what was found of the row so far came from before it, or from the row
abbrev pub FromRow : (ℕ → ℕ → Option ℕ) → ℕ → ℕ → List Bool → Option ℕ → Option ℕ → Type 0
FromRow G t k w before best =
    (code : ℕ) → best ≡ Some code → (before ≡ Some code) ⊎ ((j : ℕ) × (j < t) × (seen w j ≡ false) × (G k (j + 1) ≡ Some code))

-- a translator passed over: no grade, or marked
pub row_over :
    (valid : ℕ → Bool) (above : ℕ → ℕ → Bool) (G : ℕ → ℕ → Option ℕ) (k j : ℕ) (w : List Bool) (before best : Option ℕ)
    → ((code : ℕ) → seen w j ≡ false → G k (j + 1) ≡ Some code → higher above code best ≡ false)
    → HighestInRow valid above G j k w before best → HighestInRow valid above G (j + 1) k w before best
row_over valid above G k j w before best here h =
    record {
      right = h.right;
      kept = h.kept;
      row = λ i code l s e.
          ⊎_elim
          (λ q. here code (ap (seen w) (sym q) ∙ s) (ap (λ x. G k (x + 1)) (sym q) ∙ e))
          (λ d. h.row i code (omega arith) s e)
          (cases_eq i j);
    }

-- a higher grade taken
pub row_taken :
    (valid : ℕ → Bool) (above : ℕ → ℕ → Bool) → Order valid above → (G : ℕ → ℕ → Option ℕ) → AllValid valid G
    → (k j : ℕ) (w : List Bool) (before best : Option ℕ) (code : ℕ)
    → G k (j + 1) ≡ Some code → higher above code best ≡ true
    → HighestInRow valid above G j k w before best → HighestInRow valid above G (j + 1) k w before (Some code)
row_taken valid above o G all k j w before best code e top h =
    let v : valid code ≡ true = all k (j + 1) code e in
    record {
      right = v;
      kept = λ c x y. higher_kept valid above o best h.right c code x v (h.kept c x y) top;
      row = λ i c l s q.
          ⊎_elim
          (λ r.
          let same : c ≡ code = some_same c code (sym q ∙ ap (λ x. G k (x + 1)) r ∙ e) in
          ap (λ x. above x code) same ∙ not_itself o code v)
          (λ d. higher_kept valid above o best h.right c code (all k (i + 1) c q) v (h.row i c (omega arith) s q) top)
          (cases_eq i j);
    }

pub row_more :
    (valid : ℕ → Bool) (above : ℕ → ℕ → Bool) → Order valid above → (G : ℕ → ℕ → Option ℕ) → AllValid valid G
    → (t k j : ℕ) (w : List Bool) (before best : Option ℕ) (code : ℕ) → j < t → seen w j ≡ false
    → G k (j + 1) ≡ grade_of_code code
    → HighestInRow valid above G j k w before best → FromRow G t k w before best
    → (next : Option ℕ) → next ≡ cond (not (eqb code 0) && higher above code best) (Some code) best
    → HighestInRow valid above G (j + 1) k w before next × FromRow G t k w before next
row_more valid above o G all t k j w before best code l s e h f next q =
    ⊎_elim empty full (cases_Bool (eqb code 0))
  where
    over : next ≡ best → ((c : ℕ) → seen w j ≡ false → G k (j + 1) ≡ Some c → higher above c best ≡ false)
        → HighestInRow valid above G (j + 1) k w before next × FromRow G t k w before next
    over p here = (
      subst (λ (x : Option ℕ). HighestInRow valid above G (j + 1) k w before x) (sym p) (row_over valid above G k j w before best here h),
      λ c r. f c (sym p ∙ r),
    )

    empty : eqb code 0 ≡ true → HighestInRow valid above G (j + 1) k w before next × FromRow G t k w before next
    empty z =
        over (q ∙ ap (λ b. cond (not b && higher above code best) (Some code) best) z)
        (λ c _ r. absurd (none_some c (sym (ap (λ b. cond b None (Some code)) z) ∙ sym e ∙ r)))

    full : eqb code 0 ≡ false → HighestInRow valid above G (j + 1) k w before next × FromRow G t k w before next
    full z =
        let g : G k (j + 1) ≡ Some code = e ∙ ap (λ b. cond b None (Some code)) z in
        let p : next ≡ cond (higher above code best) (Some code) best = q ∙ ap (λ b. cond (not b && higher above code best) (Some code) best) z in
        ⊎_elim
        (λ y.
        let n : next ≡ Some code = p ∙ ap (λ b. cond b (Some code) best) y in (
          subst (λ (x : Option ℕ). HighestInRow valid above G (j + 1) k w before x) (sym n) (row_taken valid above o G all k j w before best code g y h),
          λ c r. inr (j, l, s, g ∙ sym n ∙ r),
        ))
        (λ y.
        over (p ∙ ap (λ b. cond b (Some code) best) y)
        (λ c _ r. ap (λ x. higher above x best) (some_same c code (sym r ∙ g)) ∙ y))
        (cases_Bool (higher above code best))

-- a way out of the first rows is one of more rows
pub wider :
    (G : ℕ → ℕ → Option ℕ) (k t : ℕ) (s w : List Bool) (code : ℕ) → WayOut G k t s w code → WayOut G (k + 1) t s w code
wider G k t s w code o =
    let l = o.within.0 in
    record { pkg = o.pkg; translator = o.translator; within = (omega (arith, l), o.within.1); member = o.member; outside = o.outside; grade = o.grade }

-- and the other way, but for the last row
narrower :
    (G : ℕ → ℕ → Option ℕ) (k t : ℕ) (s w : List Bool) (code : ℕ) (o : WayOut G (k + 1) t s w code)
    → (o.pkg ≡ k → ⊥) → WayOut G k t s w code
narrower G k t s w code o d =
    let l = o.within.0 in
    record { pkg = o.pkg; translator = o.translator; within = (omega (arith, l, d), o.within.1); member = o.member; outside = o.outside; grade = o.grade }

pub rows_more :
    (valid : ℕ → Bool) (above : ℕ → ℕ → Bool) (G : ℕ → ℕ → Option ℕ) → AllValid valid G
    → (t k : ℕ) (s w : List Bool) (best next : Option ℕ) → seen s k ≡ true
    → HighestInRow valid above G t (k + 1) w best next → FromRow G t (k + 1) w best next
    → Highest above G k t s w best → Highest above G (k + 1) t s w next
rows_more valid above G all t k s w best next e row from h =
    record {
      top = λ code o.
          ⊎_elim
          (λ q. row.row o.translator code o.within.1 o.outside (ap (λ x. G (x + 1) (o.translator + 1)) (sym q) ∙ o.grade))
          (λ d. row.kept code (all (o.pkg + 1) (o.translator + 1) code o.grade) (h.top code (narrower G k t s w code o d)))
          (cases_eq o.pkg k);
      from = λ code q.
          ⊎_elim
          (λ r. wider G k t s w code (h.from code r))
          (λ r. record { pkg = k; translator = r.0; within = (omega arith, r.1); member = e; outside = r.2; grade = r.3 })
          (from code q);
    }

pub rows_over :
    (above : ℕ → ℕ → Bool) (G : ℕ → ℕ → Option ℕ) (t k : ℕ) (s w : List Bool) (best : Option ℕ) → seen s k ≡ false
    → Highest above G k t s w best → Highest above G (k + 1) t s w best
rows_over above G t k s w best e h =
    record {
      top = λ code o. h.top code (narrower G k t s w code o (λ q. both_ways (seen s k) e (ap (seen s) (sym q) ∙ o.member)));
      from = λ code q. wider G k t s w code (h.from code q);
    }
