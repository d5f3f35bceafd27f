-- Where there is a full plan there is a best plan.
use Rattle.std.proofs.Common.{◌≡◌, ℕ, zero, suc, ◌+◌, ◌<◌, ◌≤◌, Bool, true, ◌⊎◌, List, length, get_or, Option, sym, ap, ◌∙◌, subst, inl, inr, ⊎_elim, arith}
use Rattle.bottleneck.proofs.Ranks.{compared}
use Rattle.bottleneck.specs.Grades.{AllValid, graded}
use Rattle.grades.proofs.Laws.{not_itself}
use Rattle.grades.specs.Order.{Order}
use Rattle.matching.specs.Plans.{BestPlan, FirstBefore, FullPlan, LowestGrade}
use Rattle.plan_facts.proofs.Finite.{Decided, Least, Ordered, decide_all, least}
use Rattle.plan_facts.proofs.Lowest.{lowest_grade, same_lowest}
use Rattle.plan_facts.specs.Plans.{BestPlanOrNone}
use Rattle.std.proofs.lemmas.Bool.{both_ways, cases_Bool, cases_eq, cases_lt}

-- whether a list is a full plan
full_or_not : (C : ℕ → ℕ → Bool) (p t : ℕ) (c : List ℕ) → Decided (FullPlan C p t c)
full_or_not C p t c =
    ⊎_elim
    (λ l.
    ⊎_elim
    (λ w.
    ⊎_elim
    (λ j.
    ⊎_elim
    (λ a. inl (record { long = l; within = w; paired = j; apart = λ k m h g e. a k h m g e }))
    (λ n. inr (λ f. n (λ k h m g e. f.apart k m h g e)))
    apart)
    (λ n. inr (λ f. n f.paired))
    paired)
    (λ n. inr (λ f. n f.within))
    within)
    (λ n. inr (λ f. n f.long))
    (cases_eq (length c) p)
  where
    between : (x : ℕ) → Decided ((1 ≤ x) × (x ≤ t))
    between x =
        ⊎_elim
        (λ h. inr (λ w. omega (arith, w.0, h)))
        (λ h. ⊎_elim (λ k. inr (λ w. omega (arith, w.1, k))) (λ k. inl (h, k)) (cases_lt t x))
        (cases_lt x 1)

    within : Decided ((k : ℕ) → k < p → (1 ≤ get_or c k 0) × (get_or c k 0 ≤ t))
    within = decide_all (λ k. (1 ≤ get_or c k 0) × (get_or c k 0 ≤ t)) p (λ k _. between (get_or c k 0))

    paired : Decided ((k : ℕ) → k < p → C (k + 1) (get_or c k 0) ≡ true)
    paired =
        decide_all (λ k. C (k + 1) (get_or c k 0) ≡ true) p
        (λ k _. ⊎_elim (λ e. inl e) (λ e. inr (λ q. both_ways (C (k + 1) (get_or c k 0)) e q)) (cases_Bool (C (k + 1) (get_or c k 0))))

    pair : (k l : ℕ) → Decided (get_or c k 0 ≡ get_or c l 0 → k ≡ l)
    pair k l =
        ⊎_elim
        (λ q. inl (λ _. q))
        (λ d. ⊎_elim (λ e. inr (λ h. d (h e))) (λ e. inl (λ q. absurd (e q))) (cases_eq (get_or c k 0) (get_or c l 0)))
        (cases_eq k l)

    apart : Decided ((k : ℕ) → k < p → (l : ℕ) → l < p → get_or c k 0 ≡ get_or c l 0 → k ≡ l)
    apart =
        decide_all (λ k. (l : ℕ) → l < p → get_or c k 0 ≡ get_or c l 0 → k ≡ l) p
        (λ k _. decide_all (λ l. get_or c k 0 ≡ get_or c l 0 → k ≡ l) p (λ l _. pair k l))

-- two lists agree at the first n places, or there is a first place at which they differ
agree_or_differ :
    (a b : List ℕ) (n : ℕ)
    → ((l : ℕ) → l < n → get_or a l 0 ≡ get_or b l 0)
    ⊎ ((k : ℕ) × (k < n) × (get_or a k 0 ≡ get_or b k 0 → ⊥) × ((l : ℕ) → l < k → get_or a l 0 ≡ get_or b l 0))
agree_or_differ a b zero = inl (λ l h. absurd (omega arith))
agree_or_differ a b (suc n) =
    ⊎_elim
    (λ h.
    ⊎_elim
    (λ e. inl (λ l m. ⊎_elim (λ q. ap (λ (x : ℕ). get_or a x 0) q ∙ e ∙ ap (λ (x : ℕ). get_or b x 0) (sym q)) (λ d. h l (omega arith)) (cases_eq l n)))
    (λ d. inr (n, omega arith, d, h))
    (cases_eq (get_or a n 0) (get_or b n 0)))
    (λ w. inr (w.0, omega (arith, w.1), w.2, w.3))
    (agree_or_differ a b n)

-- the smaller number at the first difference decides
by_difference :
    (a b : List ℕ) (k : ℕ) → get_or a k 0 < get_or b k 0 → ((l : ℕ) → l < k → get_or a l 0 ≡ get_or b l 0) → FirstBefore a b
by_difference a b k small same m l agree =
    ⊎_elim
    (λ h. let e = same m h in omega (arith, e))
    (λ h.
    ⊎_elim
    (λ q. let e : get_or a m 0 < get_or b m 0 = subst (λ (x : ℕ). get_or a x 0 < get_or b x 0) (sym q) small in omega (arith, e))
    (λ d. absurd (let e = agree k (omega (arith, h, d)) in omega (arith, e, small)))
    (cases_eq m k))
    (cases_lt m k)

before_or_after : (a b : List ℕ) → length a ≡ length b → FirstBefore a b ⊎ FirstBefore b a
before_or_after a b len =
    ⊎_elim
    (λ h. inl (λ k l _. let e = h k l in omega (arith, e)))
    (λ w.
    ⊎_elim
    (λ l. inl (by_difference a b w.0 l w.3))
    (λ l. inr (by_difference b a w.0 (let d = w.2 in omega (arith, l, d)) (λ i h. sym (w.3 i h))))
    (cases_lt (get_or a w.0 0) (get_or b w.0 0)))
    (agree_or_differ a b (length a))

before_chain : (a b c : List ℕ) → length a ≡ length b → FirstBefore a b → FirstBefore b c → FirstBefore a c
before_chain a b c len f g k l agree =
    let same = upto k (omega (arith, l)) agree in
    let x = f k l (λ i h. same i h) in
    let y = g k (omega (arith, l, len)) (λ i h. agree i h ∙ sym (same i h)) in
    omega (arith, x, y)
  where
    upto :
        (n : ℕ) → n ≤ length a → ((i : ℕ) → i < n → get_or c i 0 ≡ get_or a i 0) → (i : ℕ) → i < n → get_or b i 0 ≡ get_or a i 0
    upto zero h ag i m = absurd (omega arith)
    upto (suc n) h ag i m = go (upto n (omega arith) (λ j q. ag j (omega arith)))
      where
        go : ((j : ℕ) → j < n → get_or b j 0 ≡ get_or a j 0) → get_or b i 0 ≡ get_or a i 0
        go ih =
            ⊎_elim
            (λ q.
            let u = f n (omega arith) ih in
            let v = g n (omega (arith, h, len)) (λ j r. ag j (omega arith) ∙ sym (ih j r)) in
            let w = ag n (omega arith) in
            let z : get_or b n 0 ≡ get_or a n 0 = omega (arith, u, v, w) in
            ap (λ (x : ℕ). get_or b x 0) q ∙ z ∙ ap (λ (x : ℕ). get_or a x 0) (sym q))
            (λ d. ih i (omega arith))
            (cases_eq i n)

module _ (valid : ℕ → Bool) (above : ℕ → ℕ → Bool) (o : Order valid above) (G : ℕ → ℕ → Option ℕ) (all : AllValid valid G)
    (p t : ℕ) (some : 1 ≤ p)
  where
    abbrev Full : List ℕ → Type 0
    Full c = FullPlan (graded G) p t c

    -- a higher lowest grade, or the same and first by translator numbers
    record Better (a b : List ℕ) : Type 0 where
      is : (x y : ℕ) → LowestGrade above G a x → LowestGrade above G b y → (above x y ≡ true) ⊎ ((x ≡ y) × FirstBefore a b)

    low : (c : List ℕ) → Full c → (lowest : ℕ) × LowestGrade above G c lowest
    low c f = lowest_grade valid above o G all p t some c f

    is_valid : (c : List ℕ) (x : ℕ) → LowestGrade above G c x → valid x ≡ true
    is_valid c x g = let h = g.held in all (h.0 + 1) (get_or c h.0 0) x h.2

    better_by :
        (a b : List ℕ) (x y : ℕ) → LowestGrade above G a x → LowestGrade above G b y
        → (above x y ≡ true) ⊎ ((x ≡ y) × FirstBefore a b) → Better a b
    better_by a b x y g h r =
        record {
          is = λ u v m n.
              let e : x ≡ u = same_lowest valid above o G all a x u g m in
              let f : y ≡ v = same_lowest valid above o G all b y v h n in
              ⊎_elim
              (λ q. inl (ap (λ (z : ℕ). above z v) (sym e) ∙ ap (above x) (sym f) ∙ q))
              (λ q. inr (sym e ∙ q.0 ∙ f, q.1))
              r;
        }

    ordered : Ordered (λ c. FullPlan (graded G) p t c) Better
    ordered =
        record {
          total = λ a b f g.
              let x = low a f in
              let y = low b g in
              ⊎_elim
              (λ q. inl (better_by a b x.0 y.0 x.1 y.1 (inl q)))
              (λ r.
              ⊎_elim
              (λ q. inr (better_by b a y.0 x.0 y.1 x.1 (inl q)))
              (λ q.
              ⊎_elim
              (λ w. inl (better_by a b x.0 y.0 x.1 y.1 (inr (q, w))))
              (λ w. inr (better_by b a y.0 x.0 y.1 x.1 (inr (sym q, w))))
              (before_or_after a b (f.long ∙ sym g.long)))
              r)
              (compared valid above o x.0 y.0 (is_valid a x.0 x.1) (is_valid b y.0 y.1));
          chain = λ a b c f g h r s.
              let x = low a f in
              let y = low b g in
              let z = low c h in
              let vx = is_valid a x.0 x.1 in
              let vy = is_valid b y.0 y.1 in
              let vz = is_valid c z.0 z.1 in
              better_by a c x.0 z.0 x.1 z.1
              (⊎_elim
              (λ q.
              ⊎_elim
              (λ w. inl (o.chain x.0 y.0 z.0 vx vy vz q w))
              (λ w. inl (ap (above x.0) (sym w.0) ∙ q))
              (s.is y.0 z.0 y.1 z.1))
              (λ q.
              ⊎_elim
              (λ w. inl (ap (λ (n : ℕ). above n z.0) q.0 ∙ w))
              (λ w. inr (q.0 ∙ w.0, before_chain a b c (f.long ∙ sym g.long) q.1 w.1))
              (s.is y.0 z.0 y.1 z.1))
              (r.is x.0 y.0 x.1 y.1));
        }

    best_from : Least (λ c. FullPlan (graded G) p t c) Better → (plan : List ℕ) × (lowest : ℕ) × BestPlan above G p t plan lowest
    best_from m =
        let x = low m.item m.holds in (
          m.item,
          x.0,
          record {
            full = m.holds;
            lowest_grade = x.1;
            bottleneck = λ other code f g.
                ⊎_elim (λ q. inr q) (λ q. inl (sym q.0)) ((m.before other f).is x.0 code x.1 g);
            first = λ other f g.
                ⊎_elim
                (λ q. absurd (both_ways (above x.0 x.0) (not_itself o x.0 (is_valid m.item x.0 x.1)) q))
                (λ q. q.1)
                ((m.before other f).is x.0 x.0 x.1 g);
          },
        )

    pub best_or_none : ((plan : List ℕ) × (lowest : ℕ) × BestPlan above G p t plan lowest) ⊎ ((plan : List ℕ) → FullPlan (graded G) p t plan → ⊥)
    best_or_none =
        ⊎_elim
        (λ m. inl (best_from m))
        (λ n. inr n)
        (least t p (λ c. FullPlan (graded G) p t c) Better (full_or_not (graded G) p t)
        (λ c f. record { long = f.long; within = f.within }) ordered)

pub best_plan_or_none : BestPlanOrNone
best_plan_or_none valid above o G all p t some = best_or_none valid above o G all p t some
