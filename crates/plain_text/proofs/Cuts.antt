-- A text cut at its first byte of a kind.
use Rattle.std.proofs.Common.{◌≡◌, ℕ, ◌+◌, ◌≤◌, Bool, List, [], ◌∷◌, length, take, drop, Some, None, subst, arith}
use Rattle.std.proofs.lemmas.List.Quantifiers.{position-Some}
use Rattle.std.proofs.lemmas.List.Splits.{slice_split_first, slice_split_none}
use Rattle.std.proofs.lemmas.List.Sums.{position_or_len_is, fails_before_first}
use Rattle.std.specs.List.{slice_split, position, position_or_len}

pub split_found :
    (p : ℕ → Bool) (bs : List ℕ) (e : ℕ) → position p bs ≡ Some e
    → slice_split p bs ≡ take e bs ∷ slice_split p (drop (e + 1) bs)
split_found p bs e q =
    let w = position-Some p bs e 0 q in
    let at : position_or_len p bs ≡ e = position_or_len_is p bs e 0 (omega (arith, w.0)) w.2 (λ _. w.1) in
    subst (λ n. slice_split p bs ≡ take n bs ∷ slice_split p (drop (n + 1) bs)) at
    (slice_split_first p bs 0 (omega (arith, at, w.0)))

pub split_none : (p : ℕ → Bool) (bs : List ℕ) → position p bs ≡ None → slice_split p bs ≡ bs ∷ []
split_none p bs q =
    let h : length bs ≤ position_or_len p bs = grind arith in
    slice_split_none p bs (λ k d l. fails_before_first p bs k d (omega (arith, h, l)))
