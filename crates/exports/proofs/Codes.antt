-- Codes that are right: each is 0 or valid, so that every grade of their table counts in the kind.
use Rattle.std.proofs.Common.{◌≡◌, ℕ, zero, suc, ◌+◌, ◌-◌, ◌*◌, ◌<◌, ◌≤◌, Bool, true, false, if◌then◌else◌, ◌||◌, ◌==◌, List, [], ◌∷◌, slice_index, take, length, min, Some, None, Option, refl, sym, ap, ◌∙◌, subst, ⊎_elim, mul_comm, arith}
use Rattle.books.proofs.Inside.{lies}
use Rattle.books.specs.Limits.{inside}
use Rattle.bottleneck.specs.Codes.{grade_of_code}
use Rattle.bottleneck.specs.Grades.{counted}
use Rattle.exports.specs.Kinds.{codes_right}
use Rattle.exports.specs.Table.{grades_of}
use Rattle.std.proofs.lemmas.Nat.{mul-add-lt}
use Rattle.std.proofs.lemmas.List.{get_or-take, take_all}
use Rattle.std.proofs.lemmas.Bool.{and_parts, cases_lt, cond-true}

right_at :
    (valid : ℕ → Bool) (xs : List ℕ) → codes_right valid xs ≡ true → (i : ℕ)
    → (slice_index xs i == 0 || valid (slice_index xs i)) ≡ true
right_at valid [] e i = refl
right_at valid (x ∷ xs) e zero = (and_parts (x == 0 || valid x) (codes_right valid xs) e).0
right_at valid (x ∷ xs) e (suc i) = right_at valid xs (and_parts (x == 0 || valid x) (codes_right valid xs) e).1 i

-- the first n, or as many as are there
pub take_there : (n m : ℕ) (xs : List ℕ) → m ≡ min n (length xs) → take m xs ≡ take n xs
take_there n m xs e =
    ⊎_elim
    (λ (l : n < length xs). ap (λ (k : ℕ). take k xs) (omega (arith, e)))
    (λ (l : length xs ≤ n). ap (λ (k : ℕ). take k xs) (omega (arith, e)) ∙ take_all (length xs) xs (omega arith) ∙ sym (take_all n xs l))
    (cases_lt n (length xs))

counted_code : (valid : ℕ → Bool) (x : ℕ) (b : Bool) → (b || valid x) ≡ true → counted valid (if b then None else Some x) ≡ (if b then None else Some x)
counted_code valid x true e = refl
counted_code valid x false e = cond-true (valid x) (Some x) None e

place_within : (p t k j : ℕ) → inside p t k j ≡ true → (k - 1) * t + (j - 1) < p * t
place_within p t k j e =
    let i = lies p t k j e in
    let a : k - 1 < p = omega arith in
    let b : j - 1 < t = omega arith in
    omega (arith, mul-add-lt (k - 1) t (j - 1) p a b, mul_comm t p)

counted_pair :
    (valid : ℕ → Bool) (codes : List ℕ) (p t k j : ℕ) → codes_right valid (take (p * t) codes) ≡ true
    → (b : Bool) → inside p t k j ≡ b
    → counted valid (if b then grade_of_code (slice_index codes ((k - 1) * t + (j - 1))) else None)
    ≡ (if b then grade_of_code (slice_index codes ((k - 1) * t + (j - 1))) else None)
counted_pair valid codes p t k j r false e = refl
counted_pair valid codes p t k j r true e =
    let at = (k - 1) * t + (j - 1) in
    let same : slice_index (take (p * t) codes) at ≡ slice_index codes at = get_or-take (p * t) codes at 0 (place_within p t k j e) in
    let P : ℕ → Type 0 = λ x. (x == 0 || valid x) ≡ true in
    counted_code valid (slice_index codes at) (slice_index codes at == 0) (subst P same (right_at valid (take (p * t) codes) r at))

pub all_count :
    (valid : ℕ → Bool) (codes : List ℕ) (p t : ℕ) → codes_right valid (take (p * t) codes) ≡ true
    → ◌≡◌ {A = ℕ → ℕ → Option ℕ} (λ k j. counted valid (grades_of p t codes k j)) (grades_of p t codes)
all_count valid codes p t r = λ i. λ k j. counted_pair valid codes p t k j r (inside p t k j) refl i
