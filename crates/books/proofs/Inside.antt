-- A pair inside the sizes, as four orders of numbers.
use Rattle.std.proofs.Common.{◌≡◌, ℕ, ◌≤◌, true, ◌&&◌, nat_le, Some, None, Option, sym, ◌∙◌, ⊎_elim, arith}
use Rattle.books.specs.Limits.{inside}
use Rattle.books.specs.Meaning.{Meaning, Sound}
use Rattle.std.proofs.lemmas.Bool.{and_parts, leb-true, cases_Bool}

pub record Lies (p t i j : ℕ) : Type 0 where
  pub row : 1 ≤ i
  pub row_most : i ≤ p
  pub column : 1 ≤ j
  pub column_most : j ≤ t

pub lies : (p t i j : ℕ) → inside p t i j ≡ true → Lies p t i j
lies p t i j e =
    let w = and_parts (nat_le 1 i && nat_le i p && nat_le 1 j) (nat_le j t) e in
    let v = and_parts (nat_le 1 i && nat_le i p) (nat_le 1 j) w.0 in
    let u = and_parts (nat_le 1 i) (nat_le i p) v.0 in
    record {
      row = leb-true 1 i u.0;
      row_most = leb-true i p u.1;
      column = leb-true 1 j v.1;
      column_most = leb-true j t w.1;
    }

-- a pair with a grade lies inside the sizes
pub graded_lies :
    (m : Meaning) → Sound m → (i j code : ℕ) → m.grade i j ≡ Some code → Lies m.packages m.translators i j
graded_lies m s i j code e =
    ⊎_elim (lies m.packages m.translators i j) (λ o. absurd (never (sym (s.outside i j o) ∙ e))) (cases_Bool (inside m.packages m.translators i j))
  where
    never : ◌≡◌ {A = Option ℕ} None (Some code) → ⊥
    never q = let z : ◌≡◌ {A = ℕ} 0 1 = cc in omega arith
