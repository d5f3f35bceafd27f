-- Nothing is marked without need, one failed try on.
use Rattle.std.proofs.Common.{◌≡◌, ℕ, ◌+◌, ◌<◌, Bool, true, false, List, length, get_or, set, sym, ap, ◌∙◌, subst, ⊎_elim}
use Rattle.augmenting.specs.Owners.{Closed, Needed, seen}
use Rattle.std.proofs.lemmas.List.{get_or-set_other, get_or-set_same}
use Rattle.std.proofs.lemmas.Bool.{both_ways, cases_Bool, cases_eq}

-- what is not marked now was not marked before
unmarked : (v w : List Bool) → ((a : ℕ) → seen v a ≡ true → seen w a ≡ true) → (a : ℕ) → seen w a ≡ false → seen v a ≡ false
unmarked v w g a e = ⊎_elim (λ q. absurd (both_ways (seen w a) e (g a q))) (λ q. q) (cases_Bool (seen v a))

pub needed_passed :
    (C : ℕ → ℕ → Bool) (t : ℕ) (v w x : List Bool) (o : List ℕ) (j i : ℕ) → j < t → j < length w → 0 < get_or o j 0
    → seen w j ≡ false → C i (j + 1) ≡ true → Closed C t o v w → Needed C t i o v w
    → Needed C t (get_or o j 0) (set o j i) (set w j true) x → Needed C t i o v x
needed_passed C t v w x o j i l h z e c s before there T start closed a m f =
    ⊎_elim (λ q. before T start closed a q f) (λ q. ⊎_elim (λ r. ap (λ b. T (get_or o b 0)) r ∙ holder) (λ r. further r) (cases_eq a j)) (cases_Bool (seen w a))
  where
    holder : T (get_or o j 0) ≡ true
    holder = closed i j start l c (unmarked v w s.grows j e) z

    other : (b : ℕ) → seen (set w j true) b ≡ false → b ≡ j → ⊥
    other b q r = both_ways (seen (set w j true) b) q (ap (seen (set w j true)) r ∙ get_or-set_same w j true false h)

    rule : (k b : ℕ) → T k ≡ true → b < t → C k (b + 1) ≡ true → seen (set w j true) b ≡ false → 0 < get_or (set o j i) b 0
        → T (get_or (set o j i) b 0) ≡ true
    rule k b y g d q n =
        let same : get_or (set o j i) b 0 ≡ get_or o b 0 = get_or-set_other o j b i 0 (other b q) in
        let fresh : seen w b ≡ false = sym (get_or-set_other w j b true false (other b q)) ∙ q in
        ap T same ∙ closed k b y g d (unmarked v w s.grows b fresh) (subst (λ (y' : ℕ). 0 < y') same n)

    further : (a ≡ j → ⊥) → T (get_or o a 0) ≡ true
    further r =
        ⊎_elim
        (λ q. before T start closed a q f)
        (λ q. ap T (sym (get_or-set_other o j a i 0 r)) ∙ there T holder rule a m (get_or-set_other w j a true false r ∙ q))
        (cases_Bool (seen w a))

-- where the note in hand is known to be an earlier one
pub needed_at :
    (C : ℕ → ℕ → Bool) (t : ℕ) (v w x : List Bool) (o a : List ℕ) (j i : ℕ) → o ≡ a → j < t → j < length w → 0 < get_or o j 0
    → seen w j ≡ false → C i (j + 1) ≡ true → Closed C t o v w → Needed C t i a v w
    → Needed C t (get_or o j 0) (set o j i) (set w j true) x → (y : List Bool) → y ≡ x → Needed C t i a v y
needed_at C t v w x o a j i e l h z f c s before there y q =
    subst (λ (b : List Bool). Needed C t i a v b) (sym q)
    (subst (λ (b : List ℕ). Needed C t i b v x) e
    (needed_passed C t v w x o j i l h z f c s (subst (λ (b : List ℕ). Needed C t i b v w) (sym e) before) there))
