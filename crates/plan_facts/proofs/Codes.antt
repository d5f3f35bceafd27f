-- Codes read as points and as classes and days.
use Rattle.std.proofs.Common.{◌≡◌, ℕ, ◌+◌, ◌*◌, ◌/◌, ◌%◌, Bool, true, false, ◌&&◌, ◌||◌, eqb, ltb, leb, is_some, Some, None, sym, ap, ◌∙◌, inl, inr, ⊎_elim, arith}
use Rattle.grades.specs.Points.{valid_points}
use Rattle.grades.specs.Ratings.{above_rating, better, rating_of, valid_rating}
use Rattle.plan_facts.specs.Codes.{PointsInWords, Rated, RatingsInWords}
use Rattle.std.proofs.lemmas.Bool.{and_from, and_parts, both_ways, cases_Bool, cond-false, cond-true, eq-eqb, eqb-true, le-leb, leb-true, lt-ltb, ltb-true, or_cases, or_left, or_right}

pub points_in_words : PointsInWords
points_in_words a b = (
  λ w. and_from (leb 1 a) (leb a 1000) (le-leb 1 a w.0) (le-leb a 1000 w.1),
  λ v. let w = and_parts (leb 1 a) (leb a 1000) v in (leb-true 1 a w.0, leb-true a 1000 w.1),
  λ v w l. and_from (valid_points a && valid_points b) (ltb b a) (and_from (valid_points a) (valid_points b) v w) (lt-ltb b a l),
  λ h. ltb-true b a (and_parts (valid_points a && valid_points b) (ltb b a) h).1,
)

abbrev in_range : ℕ → ℕ → Bool
in_range class days = leb 1 class && leb class 4 && leb days 20000

range_from : (class days : ℕ) → Rated class days → in_range class days ≡ true
range_from class days r =
    and_from (leb 1 class && leb class 4) (leb days 20000)
    (and_from (leb 1 class) (leb class 4) (le-leb 1 class r.low) (le-leb class 4 r.high)) (le-leb days 20000 r.few)

rated_from : (class days : ℕ) → in_range class days ≡ true → Rated class days
rated_from class days h =
    let w = and_parts (leb 1 class && leb class 4) (leb days 20000) h in
    let v = and_parts (leb 1 class) (leb class 4) w.0 in
    record { low = leb-true 1 class v.0; high = leb-true class 4 v.1; few = leb-true days 20000 w.1 }

-- the code of a class and days is read as these
read : (class days : ℕ) → Rated class days → rating_of (class + 256 * days) ≡ Some (record { class = class; days = days })
read class days r =
    let code : ℕ = class + 256 * days in
    let high = r.high in
    let e : code % 256 ≡ class = omega (arith, high) in
    let f : code / 256 ≡ days = omega (arith, high) in
    let h : in_range (code % 256) (code / 256) ≡ true =
    ap (λ (x : ℕ). in_range x (code / 256)) e ∙ ap (in_range class) f ∙ range_from class days r in
    cond-true (in_range (code % 256) (code / 256)) _ _ h ∙ (λ i. Some (record { class = e i; days = f i }))

-- a code out of range is read as none
unread : (code : ℕ) → in_range (code % 256) (code / 256) ≡ false → rating_of code ≡ None
unread code h = cond-false (in_range (code % 256) (code / 256)) _ _ h

compare_is :
    (class days other more : ℕ) → Rated class days → Rated other more
    → above_rating (class + 256 * days) (other + 256 * more) ≡ (ltb class other || eqb class other && ltb more days)
compare_is class days other more r s =
    λ i. better (read class days r i) (read other more s i)

pub ratings_in_words : RatingsInWords
ratings_in_words =
    record {
      valid = λ class days r. ap is_some (read class days r);
      only = λ code v.
          ⊎_elim
          (λ h. (code % 256, code / 256, rated_from (code % 256) (code / 256) h, omega arith))
          (λ h.
          absurd
          (both_ways (valid_rating code)
          (ap is_some (unread code h)) v))
          (cases_Bool (in_range (code % 256) (code / 256)));
      higher = λ class days other more r s h.
          compare_is class days other more r s
          ∙ ⊎_elim
          (λ l. or_left (ltb class other) (eqb class other && ltb more days) (lt-ltb class other l))
          (λ w.
          or_right (ltb class other) (eqb class other && ltb more days)
          (and_from (eqb class other) (ltb more days) (eq-eqb class other w.0) (lt-ltb more days w.1)))
          h;
      only_higher = λ class days other more r s h.
          ⊎_elim
          (λ l. inl (ltb-true class other l))
          (λ l. let w = and_parts (eqb class other) (ltb more days) l in inr (eqb-true class other w.0, ltb-true more days w.1))
          (or_cases (ltb class other) (eqb class other && ltb more days) (sym (compare_is class days other more r s) ∙ h));
    }
