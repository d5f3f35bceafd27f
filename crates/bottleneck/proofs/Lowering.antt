-- What holds when a floor is lowered to the highest grade that leads out of the set.
use Rattle.std.proofs.Common.{◌≡◌, ℕ, ◌+◌, ◌*◌, ◌/◌, ◌%◌, ◌<◌, ◌≤◌, Bool, true, false, not, ◌&&◌, leb, List, [], length, get_or, is_some, Some, None, Option, sym, refl, ap, ◌∙◌, ⊎_elim, arith}
use Rattle.augmenting.proofs.Counts.{count_lt}
use Rattle.augmenting.proofs.Gathered.{Stuck, member_reaches, one_fewer}
use Rattle.augmenting.specs.Owners.{seen}
use Rattle.augmenting.specs.Sets.{OneFewer, OwnersAnd}
use Rattle.bottleneck.proofs.Ranks.{from_above}
use Rattle.bottleneck.specs.Codes.{grade_of_code, table_grades}
use Rattle.bottleneck.specs.Floors.{Highest, Valid, WayOut, from_floor}
use Rattle.bottleneck.specs.Grades.{AllValid, graded, graded_above, passes}
use Rattle.bottleneck.specs.Lowered.{IsLeftOver, Lowered, PlacedBefore, at_floor}
use Rattle.grades.proofs.Laws.{not_itself, strict}
use Rattle.grades.specs.Order.{Order}
use Rattle.std.proofs.lemmas.Bool.{and_from, both_ways, cases_Bool, cond-true, false≢true, le-leb, not-false, not-true, true≢false}

-- the cell of a pair
pub cell : (codes : List ℕ) (k j : ℕ) → k ≤ 48 → j ≤ 64 → table_grades codes k j ≡ grade_of_code (get_or codes (65 * k + j) 0)
cell codes k j l h = ap grade_of_code (cond-true (leb k 48 && leb j 64) (get_or codes (65 * k + j) 0) 0 (and_from (leb k 48) (leb j 64) (le-leb k 48 l) (le-leb j 64 h)))

pub cell_valid :
    (valid : ℕ → Bool) (codes : List ℕ) → AllValid valid (table_grades codes) → (x code : ℕ) → x < 3185
    → grade_of_code (get_or codes x 0) ≡ Some code → valid code ≡ true
cell_valid valid codes all x code l e =
    let k = x / 65 in
    let j = x % 65 in
    let q : 65 * (x / 65) + x % 65 ≡ x = omega arith in
    let a : x / 65 ≤ 48 = omega arith in
    let b : x % 65 ≤ 64 = omega arith in
    all (x / 65) (x % 65) code (cell codes (x / 65) (x % 65) a b ∙ ap (λ n. grade_of_code (get_or codes n 0)) q ∙ e)

-- a grade that counted at the old floor is above the new one, and counts there
pub counted_above :
    (valid : ℕ → Bool) (above : ℕ → ℕ → Bool) → Order valid above → (old : Option ℕ) → Valid valid old
    → (floor : ℕ) → valid floor ≡ true → from_floor above old (Some floor) ≡ false
    → (grade : Option ℕ) → Valid valid grade → from_floor above old grade ≡ true
    → passes (λ code. above code floor) grade ≡ true
counted_above valid above o None r floor v e grade w c = absurd (false≢true c)
counted_above valid above o (Some b) r floor v e None w c = absurd (false≢true c)
counted_above valid above o (Some b) r floor v e (Some code) w c =
    from_above valid above o code b floor w r v (not-true (above b code) c) (not-false (above b floor) e)

pub counts_still :
    (valid : ℕ → Bool) (above : ℕ → ℕ → Bool) → Order valid above → (floor : ℕ) → valid floor ≡ true
    → (grade : Option ℕ) → Valid valid grade → passes (λ code. above code floor) grade ≡ true
    → from_floor above (Some floor) grade ≡ true
counts_still valid above o floor v None w c = absurd (false≢true c)
counts_still valid above o floor v (Some code) w c = ap not (strict o code floor w v c)

pub valid_from : (valid : ℕ → Bool) (grade : Option ℕ) → ((code : ℕ) → grade ≡ Some code → valid code ≡ true) → Valid valid grade
valid_from valid None f = tt
valid_from valid (Some code) f = f code refl

-- a grade as a test of it
pub some_of : (f : ℕ → Bool) (grade : Option ℕ) → passes f grade ≡ true → (code : ℕ) × (grade ≡ Some code) × (f code ≡ true)
some_of f None e = absurd (false≢true e)
some_of f (Some code) e = (code, refl, e)

pub some_graded : (grade : Option ℕ) → is_some grade ≡ true → (code : ℕ) × (grade ≡ Some code)
some_graded None e = absurd (false≢true e)
some_graded (Some code) e = (code, refl)

pub graded_of : (above : ℕ → ℕ → Bool) (floor grade : Option ℕ) → from_floor above floor grade ≡ true → is_some grade ≡ true
graded_of above None grade e = absurd (false≢true e)
graded_of above (Some b) None e = e
graded_of above (Some b) (Some code) e = refl

-- the facts of a package left over, as the set has them
pub stuck :
    (C : ℕ → ℕ → Bool) (p t i : ℕ) (o : List ℕ) (w s : List Bool) → (0 < i) × (i ≤ p) → p ≤ 48 → length s ≡ 48
    → PlacedBefore C t i o → IsLeftOver C t i o w → OwnersAnd o w i s → Stuck C p t i o [] w s
stuck C p t i o w s some few full b f g =
    record {
      some = some;
      matching = b.matching;
      free = λ j e. let x = b.below j in omega (arith, x, e);
      below = λ j. let x = b.below j in let l = some.1 in omega (arith, x, l);
      fresh = λ j. refl;
      closed = f.closed;
      tried = f.tried;
      wide = omega (arith, few, full);
      set = g;
    }

module _ (valid : ℕ → Bool) (above : ℕ → ℕ → Bool) (order : Order valid above) (codes : List ℕ) (all : AllValid valid (table_grades codes))
    (p t i : ℕ) (o : List ℕ) (w s : List Bool) (old : Option ℕ) (right : Valid valid old)
    (h : Stuck (at_floor above codes old) p t i o [] w s) where
  -- no way out: short by all grades
  pub short_set : Highest above (table_grades codes) p t s w None → OneFewer (graded (table_grades codes)) p t (seen s)
  short_set top =
      one_fewer (at_floor above codes old) (graded (table_grades codes)) p t i o [] w s h
      (λ k j e. graded_of above old (table_grades codes k j) e)
      (λ k j l m n e.
      let y = some_graded (table_grades codes (k + 1) (j + 1)) e in
      ⊎_elim
      (λ q. q)
      (λ q. absurd (true≢false (top.top y.0 (record { pkg = k; translator = j; within = (l, n); member = m; outside = q; grade = y.1 }))))
      (cases_Bool (seen w j)))

  pub lowered :
      (floor : ℕ) → p ≤ 48 → t ≤ 64 → Highest above (table_grades codes) p t s w (Some floor)
      → Lowered valid above codes p t old (Some floor) s
  lowered floor few less top =
      let way : WayOut (table_grades codes) p t s w floor = top.from floor refl in
      let v : valid floor ≡ true = all (way.pkg + 1) (way.translator + 1) floor way.grade in
      let out : at_floor above codes old (way.pkg + 1) (way.translator + 1) ≡ false =
      ⊎_elim
      (λ q. absurd (both_ways (seen w way.translator) way.outside (member_reaches (at_floor above codes old) p t i o [] w s h way.pkg way.translator way.member way.within.1 q)))
      (λ q. q)
      (cases_Bool (at_floor above codes old (way.pkg + 1) (way.translator + 1))) in
      let e : from_floor above old (Some floor) ≡ false = ap (from_floor above old) (sym way.grade) ∙ out in
      let wide : (k j : ℕ) → at_floor above codes old k j ≡ true → graded_above above (table_grades codes) floor k j ≡ true =
      λ k j c. counted_above valid above order old right floor v e (table_grades codes k j) (valid_from valid (table_grades codes k j) (all k j)) c in
      record {
        tight = (
          v,
          one_fewer (at_floor above codes old) (graded_above above (table_grades codes) floor) p t i o [] w s h wide
              (λ k j l m n c.
              let y = some_of (λ code. above code floor) (table_grades codes (k + 1) (j + 1)) c in
              ⊎_elim
              (λ q. q)
              (λ q. absurd (both_ways (above y.0 floor) (top.top y.0 (record { pkg = k; translator = j; within = (l, n); member = m; outside = q; grade = y.1 })) y.2))
              (cases_Bool (seen w j))),
        );
        grows = λ k j c. counts_still valid above order floor v (table_grades codes k j) (valid_from valid (table_grades codes k j) (all k j)) (wide k j c);
        fewer =
            let a = way.within.0 in
            let b = way.within.1 in
            let k = way.pkg + 1 in
            let j = way.translator + 1 in
            let g : grade_of_code (get_or codes (65 * (way.pkg + 1) + (way.translator + 1)) 0) ≡ Some floor = sym (cell codes (way.pkg + 1) (way.translator + 1) (omega (arith, a)) (omega (arith, b))) ∙ way.grade in
            count_lt (λ x. not (from_floor above (Some floor) (grade_of_code (get_or codes x 0)))) (λ x. not (from_floor above old (grade_of_code (get_or codes x 0)))) 3185
            (65 * (way.pkg + 1) + (way.translator + 1)) (omega (arith, a, b))
            (ap (λ x. not (from_floor above (Some floor) x)) g ∙ ap (λ x. not (not x)) (not_itself order floor v))
            (ap (λ x. not (from_floor above old x)) g ∙ ap not e)
            (λ x l c.
            let n : from_floor above (Some floor) (grade_of_code (get_or codes x 0)) ≡ false = not-true (from_floor above (Some floor) (grade_of_code (get_or codes x 0))) c in
            let r : Valid valid (grade_of_code (get_or codes x 0)) = valid_from valid (grade_of_code (get_or codes x 0)) (λ code q. cell_valid valid codes all x code l q) in
            ⊎_elim
            (λ q.
            absurd (both_ways (from_floor above (Some floor) (grade_of_code (get_or codes x 0))) n
            (counts_still valid above order floor v (grade_of_code (get_or codes x 0)) r (counted_above valid above order old right floor v e (grade_of_code (get_or codes x 0)) r q))))
            (λ q. ap not q)
            (cases_Bool (from_floor above old (grade_of_code (get_or codes x 0)))));
      }
