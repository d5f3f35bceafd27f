-- Which way put and take go, and what they leave.
use Rattle.std.proofs.Common.{◌≡◌, ℕ, true, false, if◌then◌else◌, not, ◌&&◌, ◌==◌, is_some, is_ok, Some, None, Ok, Err, Option, Result, ap}
use Rattle.books.specs.Changes.{put_answer, put_after, take_answer, take_after}
use Rattle.books.specs.Limits.{inside}
use Rattle.books.specs.Meaning.{Meaning, with_grade, count}
use Rattle.refusals.specs.declared.refusal.Refusal.TheVariants as refusal
use Rattle.refusals.specs.declared.refusal.Refusal.{Refusal}
use Rattle.std.proofs.lemmas.Bool.{ne_eqb}

pub put_accepted :
    (limit : ℕ) (m : Meaning) (a b code : ℕ) → inside m.packages m.translators a b ≡ true → (code ≡ 0 → ⊥)
    → (not (is_some (m.grade a b)) && count m == limit) ≡ false → put_answer limit m a b code ≡ Ok tt
put_accepted limit m a b code i c f = simp (i, ne_eqb code 0 c, f)

pub put_declined :
    (limit : ℕ) (m : Meaning) (a b code : ℕ) → inside m.packages m.translators a b ≡ true → (code ≡ 0 → ⊥)
    → (not (is_some (m.grade a b)) && count m == limit) ≡ true → put_answer limit m a b code ≡ Err refusal.Full
put_declined limit m a b code i c f = simp (i, ne_eqb code 0 c, f)

pub take_accepted :
    (m : Meaning) (a b : ℕ) → inside m.packages m.translators a b ≡ true → is_some (m.grade a b) ≡ true
    → take_answer m a b ≡ Ok tt
take_accepted m a b i s = simp (i, s)

pub take_declined :
    (m : Meaning) (a b : ℕ) → inside m.packages m.translators a b ≡ true → is_some (m.grade a b) ≡ false
    → take_answer m a b ≡ Err refusal.NothingThere
take_declined m a b i s = simp (i, s)

-- an accepted change is made, and a declined one leaves all as it was
pub put_makes :
    (limit : ℕ) (m : Meaning) (a b code : ℕ) → put_answer limit m a b code ≡ Ok tt
    → put_after limit m a b code ≡ with_grade m a b (Some code)
put_makes limit m a b code e =
    ap (λ (r : Result (Unit {0}) Refusal). (if is_ok r then with_grade m a b (Some code) else m)) e

pub put_leaves :
    (limit : ℕ) (m : Meaning) (a b code : ℕ) (r : Refusal) → put_answer limit m a b code ≡ Err r
    → put_after limit m a b code ≡ m
put_leaves limit m a b code r e =
    ap (λ (s : Result (Unit {0}) Refusal). (if is_ok s then with_grade m a b (Some code) else m)) e

pub take_makes :
    (m : Meaning) (a b : ℕ) → take_answer m a b ≡ Ok tt → take_after m a b ≡ with_grade m a b None
take_makes m a b e = ap (λ (r : Result (Unit {0}) Refusal). (if is_ok r then with_grade m a b None else m)) e

pub take_leaves : (m : Meaning) (a b : ℕ) (r : Refusal) → take_answer m a b ≡ Err r → take_after m a b ≡ m
take_leaves m a b r e = ap (λ (s : Result (Unit {0}) Refusal). (if is_ok s then with_grade m a b None else m)) e

-- grades that are the same pair by pair are the same
pub same_meaning :
    (p t : ℕ) (f g : ℕ → ℕ → Option ℕ) → ((i j : ℕ) → f i j ≡ g i j)
    → ◌≡◌ {A = Meaning} (record { packages = p; translators = t; grade = f }) (record { packages = p; translators = t; grade = g })
same_meaning p t f g h = λ k. record { packages = p; translators = t; grade = λ i j. h i j k }
