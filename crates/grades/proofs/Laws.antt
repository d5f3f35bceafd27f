-- What the order of a kind gives: never both ways, never itself, and the same code where neither.
use Rattle.std.proofs.Common.{◌≡◌, ℕ, Bool, true, false, sym, refl, ⊎_elim, ◌==◌}
use Rattle.grades.specs.Order.{Order, exactly_one}
use Rattle.std.proofs.lemmas.Bool.{eqb-true, cases_Bool, both_ways}

not_second : (a b c : Bool) → exactly_one a b c ≡ true → a ≡ true → b ≡ false
not_second true true c e h = sym e
not_second true false c e h = refl
not_second false true c e h = absurd (both_ways true (sym h) refl)
not_second false false c e h = refl

third : (a b c : Bool) → exactly_one a b c ≡ true → a ≡ false → b ≡ false → c ≡ true
third true b c e h k = absurd (both_ways true h refl)
third false true c e h k = absurd (both_ways true k refl)
third false false c e h k = e

module _ {valid : ℕ → Bool} {above : ℕ → ℕ → Bool} (o : Order valid above) where
  pub strict : (a b : ℕ) → valid a ≡ true → valid b ≡ true → above a b ≡ true → above b a ≡ false
  strict a b va vb h = not_second (above a b) (above b a) (a == b) (o.one_way a b va vb) h

  pub exact : (a b : ℕ) → valid a ≡ true → valid b ≡ true → above a b ≡ false → above b a ≡ false → a ≡ b
  exact a b va vb h k = eqb-true a b (third (above a b) (above b a) (a == b) (o.one_way a b va vb) h k)

  pub not_itself : (a : ℕ) → valid a ≡ true → above a a ≡ false
  not_itself a va = ⊎_elim (λ h. strict a a va va h) (λ h. h) (cases_Bool (above a a))
