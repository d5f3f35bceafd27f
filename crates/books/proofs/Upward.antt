-- The numbers of an inclusive range, as a list that a chain yields, and what counting over it finds.
use Rattle.std.proofs.Common.{◌≡◌, ℕ, zero, suc, ◌+◌, ◌-◌, Bool, true, false, List, [], ◌∷◌, ◌++◌, length, is_some, Some, None, Option, ◌⊎◌, inl, inr, refl, ap, sym, subst, ◌∙◌, add-one, zero-add, arith, length-append}
use Rattle.std.proofs.lemmas.Iterator.{YieldsList}
use Rattle.std.proofs.lemmas.Iterator.Consumers.{YieldsList-from_shown}
use Rattle.std.proofs.lemmas.List.FromFn.{length-range_with_len, map-range_with_len_more}
use Rattle.std.proofs.lemmas.List.{map-id}
use Rattle.std.proofs.lemmas.List.Elements.{filter-append}
use Rattle.std.proofs.lemmas.List.Sums.{sum_by-append}
use Rattle.books.specs.Meaning.{one, in_row, standing}
use Rattle.std.specs.List.{range_with_len, filter, sum_by}
use Rattle.std.specs.Range.{range_inclusive_steps, range_inclusive_left, range_inclusive_len}
use Rattle.std.specs.declared.ops.RangeInclusive.{RangeInclusive}

abbrev pub gap : ℕ → ℕ → ℕ
gap a b = b - a

abbrev pub follows : ℕ → ℕ → Type 0
follows a b = b ≡ a + 1

abbrev pub upward : RangeInclusive ℕ → Option ℕ → RangeInclusive ℕ → Type 0
upward = range_inclusive_steps gap follows

abbrev pub shown : RangeInclusive ℕ → List ℕ
shown s = range_with_len s.start (range_inclusive_left gap s)

going :
    (a n x b m : ℕ) → x ≡ a → m + 1 ≡ n → (m ≡ 0) ⊎ (b ≡ a + 1) → range_with_len a n ≡ x ∷ range_with_len b m
going a n x b m e f (inl z) =
    let g : n ≡ 1 = omega arith in rw (g, e, z) refl
going a n x b m e f (inr u) = rw (← f, e, u, add-one) refl

none_left : (s t : RangeInclusive ℕ) → upward s None t → length (shown s) ≡ 0
none_left s t h = rw (length-range_with_len s.start (range_inclusive_left gap s)) h.1.0

one_more : (s : RangeInclusive ℕ) (x : ℕ) (t : RangeInclusive ℕ) → upward s (Some x) t → shown s ≡ x ∷ shown t
one_more s x t h = going s.start (range_inclusive_left gap s) x t.start (range_inclusive_len gap t.start t.end t.exhausted) h.1.0 h.1.1 (next t.exhausted refl)
  where
    next : (b : Bool) → t.exhausted ≡ b → (range_inclusive_left gap t ≡ 0) ⊎ (t.start ≡ s.start + 1)
    next true e = inl (rw e refl)
    next false e = inr (h.1.2 e)

pub YieldsList-from_range_inclusive :
    {s : RangeInclusive ℕ} (a b n : ℕ) → s ≡ record { start = a; end = b; exhausted = false } → b + 1 - a ≡ n
    → YieldsList upward (λ x. x) s (range_with_len a n)
YieldsList-from_range_inclusive {s = s} a b n e h =
    let k : b - a + 1 - (a - b) ≡ n = omega arith in
    rw (e, ← k) (YieldsList-from_shown upward (λ x. x) shown none_left one_more (record { start = a; end = b; exhausted = false }))

range_more : (n : ℕ) → range_with_len 1 (suc n) ≡ range_with_len 1 n ++ suc n ∷ []
range_more n =
    subst (λ (m : ℕ). range_with_len 1 m ≡ range_with_len 1 n ++ m ∷ []) (add-one n)
    (sym (map-id (range_with_len 1 (n + 1))) ∙ map-range_with_len_more (λ x. x) 1 n (n + 1) (omega arith)
    ∙ ap (λ (xs : List ℕ). xs ++ (n + 1) ∷ []) (map-id (range_with_len 1 n)))

kept : (f : ℕ → Option ℕ) (n : ℕ) (o : Option ℕ) → f n ≡ o → length (filter (λ j. is_some (f j)) (n ∷ [])) ≡ one o
kept f n None e = rw e refl
kept f n (Some x) e = rw e refl

pub in_row-filter : (f : ℕ → Option ℕ) (t : ℕ) → in_row f t ≡ length (filter (λ j. is_some (f j)) (range_with_len 1 t))
unfolding in_row
in_row-filter f zero = refl
in_row-filter f (suc t) =
    let p : ℕ → Bool = λ j. is_some (f j) in
    let e : length (filter p (range_with_len 1 (suc t))) ≡ length (filter p (range_with_len 1 t)) + one (f (suc t)) =
    ap (λ (xs : List ℕ). length (filter p xs)) (range_more t)
    ∙ ap length (filter-append p (range_with_len 1 t) (suc t ∷ []))
    ∙ length-append (filter p (range_with_len 1 t)) (filter p (suc t ∷ []))
    ∙ ap (λ (n : ℕ). length (filter p (range_with_len 1 t)) + n) (kept f (suc t) (f (suc t)) refl) in
    ap (λ (n : ℕ). n + one (f (suc t))) (in_row-filter f t) ∙ sym e

pub standing-sum_by : (f : ℕ → ℕ → Option ℕ) (p t : ℕ) → standing f p t ≡ sum_by (λ i. in_row (f i) t) (range_with_len 1 p)
unfolding standing
standing-sum_by f zero t = refl
standing-sum_by f (suc p) t =
    let g : ℕ → ℕ = λ i. in_row (f i) t in
    let e : sum_by g (range_with_len 1 (suc p)) ≡ sum_by g (range_with_len 1 p) + g (suc p) =
    ap (sum_by g) (range_more p) ∙ sum_by-append g (range_with_len 1 p) (suc p ∷ [])
    ∙ ap (λ (n : ℕ). sum_by g (range_with_len 1 p) + n) (zero-add (g (suc p))) in
    ap (λ (n : ℕ). n + g (suc p)) (standing-sum_by f p t) ∙ sym e
