-- Arrays that start out all alike.
use Rattle.std.proofs.Common.{◌≡◌, ℕ, get_or, replicate, ⊎_elim, arith}
use Rattle.std.proofs.lemmas.Bool.{cases_lt}
use Rattle.std.proofs.lemmas.List.{get_or-replicate, get_or_past, length-replicate}

-- read at its own default, anywhere
pub all_alike : {X : Type 0} (n k : ℕ) (x : X) → get_or (replicate n x) k x ≡ x
all_alike n k x =
    ⊎_elim
    (λ l. get_or-replicate n k x x l)
    (λ l. get_or_past (replicate n x) k x (let e = length-replicate n x in omega (arith, e)))
    (cases_lt k n)
