-- Points stand in a strict order.
use Rattle.std.proofs.Common.{◌≡◌, ℕ, ◌<◌, Bool, true, false, ◌&&◌, eqb, ltb, leb, refl, ap, ◌∙◌, ⊎_elim, arith}
use Rattle.grades.specs.Order.{Order, exactly_one}
use Rattle.grades.specs.Points.{above_points, valid_points}
use Rattle.std.proofs.lemmas.Bool.{and_from, and_parts, eq-eqb, le-ltb, leb-true, lt-ltb, ltb-true, ne_eqb, cases_order}

above_is : (a b : ℕ) → valid_points a ≡ true → valid_points b ≡ true → above_points a b ≡ ltb b a
above_is a b v w = ap (λ (x : Bool). x && ltb b a) (and_from (valid_points a) (valid_points b) v w)

greater : (a b : ℕ) → above_points a b ≡ true → b < a
greater a b h = ltb-true b a (and_parts (valid_points a && valid_points b) (ltb b a) h).1

pub points_in_order : Order valid_points above_points
points_in_order =
    record {
      no_zero = refl;
      fits = λ a v. let h = leb-true a 1000 (and_parts (leb 1 a) (leb a 1000) v).1 in omega (arith, h);
      one_way = one_way;
      chain = λ a b c u v w x y.
          above_is a c u w ∙ lt-ltb c a (let g = greater a b x in let h = greater b c y in omega (arith, g, h));
    }
  where
    three : (a b : ℕ) (x y z : Bool) → ltb b a ≡ x → ltb a b ≡ y → eqb a b ≡ z → valid_points a ≡ true → valid_points b ≡ true
        → exactly_one x y z ≡ true → exactly_one (above_points a b) (above_points b a) (eqb a b) ≡ true
    three a b x y z e f g v w h =
        ap (λ (t : Bool). exactly_one t (above_points b a) (eqb a b)) (above_is a b v w ∙ e)
        ∙ ap (λ (t : Bool). exactly_one x t (eqb a b)) (above_is b a w v ∙ f)
        ∙ ap (exactly_one x y) g
        ∙ h

    one_way : (a b : ℕ) → valid_points a ≡ true → valid_points b ≡ true → exactly_one (above_points a b) (above_points b a) (eqb a b) ≡ true
    one_way a b v w =
        ⊎_elim
        (λ q. three a b false false true (le-ltb b a (omega (arith, q))) (le-ltb a b (omega (arith, q))) (eq-eqb a b q) v w refl)
        (λ r.
        ⊎_elim
        (λ l. three a b false true false (le-ltb b a (omega (arith, l))) (lt-ltb a b l) (ne_eqb a b (λ q. omega (arith, l, q))) v w refl)
        (λ l. three a b true false false (lt-ltb b a l) (le-ltb a b (omega (arith, l))) (ne_eqb a b (λ q. omega (arith, l, q))) v w refl)
        r)
        (cases_order a b)
