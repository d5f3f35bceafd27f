-- The order of valid codes, put to use.
use Rattle.std.proofs.Common.{◌≡◌, ℕ, Bool, true, false, ◌⊎◌, Some, None, Option, sym, ap, ◌∙◌, inl, inr, ⊎_elim}
use Rattle.bottleneck.specs.Floors.{Valid, higher}
use Rattle.grades.proofs.Laws.{exact}
use Rattle.grades.specs.Order.{Order}
use Rattle.std.proofs.lemmas.Bool.{both_ways, cases_Bool, true≢false}

pub compared :
    (valid : ℕ → Bool) (above : ℕ → ℕ → Bool) → Order valid above → (a b : ℕ) → valid a ≡ true → valid b ≡ true
    → (above a b ≡ true) ⊎ ((above b a ≡ true) ⊎ (a ≡ b))
compared valid above o a b v w =
    ⊎_elim
    (λ e. inl e)
    (λ e. ⊎_elim (λ f. inr (inl f)) (λ f. inr (inr (exact o a b v w e f))) (cases_Bool (above b a)))
    (cases_Bool (above a b))

-- not above a code, so not above one that is higher still
pub not_above_higher :
    (valid : ℕ → Bool) (above : ℕ → ℕ → Bool) → Order valid above → (c b d : ℕ)
    → valid c ≡ true → valid b ≡ true → valid d ≡ true → above c b ≡ false → above d b ≡ true → above c d ≡ false
not_above_higher valid above o c b d v w x e f =
    ⊎_elim (λ q. absurd (both_ways (above c b) e (o.chain c d b v x w q f))) (λ q. q) (cases_Bool (above c d))

-- not below a floor that is itself above a code: so above that code
pub from_above :
    (valid : ℕ → Bool) (above : ℕ → ℕ → Bool) → Order valid above → (c b d : ℕ)
    → valid c ≡ true → valid b ≡ true → valid d ≡ true → above b c ≡ false → above b d ≡ true → above c d ≡ true
from_above valid above o c b d v w x e f =
    ⊎_elim
    (λ q. absurd (both_ways (above b c) e q))
    (λ r. ⊎_elim (λ q. o.chain c b d v w x q f) (λ q. ap (λ n. above n d) (sym q) ∙ f) r)
    (compared valid above o b c w v)

pub higher_kept :
    (valid : ℕ → Bool) (above : ℕ → ℕ → Bool) → Order valid above → (best : Option ℕ) → Valid valid best
    → (c d : ℕ) → valid c ≡ true → valid d ≡ true → higher above c best ≡ false → higher above d best ≡ true
    → above c d ≡ false
higher_kept valid above o None r c d v w e f = absurd (true≢false e)
higher_kept valid above o (Some b) r c d v w e f = not_above_higher valid above o c b d v r w e f
