-- One translator passed on: what a write to the note of owners changes, and what it leaves.
use Rattle.std.proofs.Common.{◌≡◌, ℕ, ◌+◌, ◌<◌, ◌≤◌, Bool, true, false, not, ◌⊎◌, List, length, get_or, set, sym, ap, ◌∙◌, subst, inl, inr, ⊎_elim, arith}
use Rattle.augmenting.proofs.Counts.{without, without_same, without_other, count_le, count_same, count_without}
use Rattle.augmenting.specs.Counting.{count}
use Rattle.augmenting.specs.Owners.{Matching, Has, Free, seen, Kept, Closed, Tried, Augmented}
use Rattle.std.proofs.lemmas.List.{get_or-set_same, get_or-set_other, set-set, set-get_or}
use Rattle.std.proofs.lemmas.Bool.{cases_eq, cases_Bool, both_ways, not-true}

abbrev pub unseen : List Bool → ℕ
unseen v = count (λ j. not (seen v j)) 64

pub unseen_falls :
    (v : List Bool) (j : ℕ) → j < 64 → j < length v → seen v j ≡ false → unseen (set v j true) < unseen v
unseen_falls v j l h e =
    let f : ℕ → Bool = λ k. not (seen v k) in
    let a : count f 64 ≡ count (without f j) 64 + 1 = count_without f 64 j l (ap not e) in
    let b : count (λ k. not (seen (set v j true) k)) 64 ≡ count (without f j) 64 =
    count_same (λ k. not (seen (set v j true) k)) (without f j) 64
    (λ k _.
    ⊎_elim
    (λ q. ap (λ n. not (seen (set v j true) n)) q ∙ ap not (get_or-set_same v j true false h) ∙ sym (without_same f j) ∙ ap (without f j) (sym q))
    (λ d. ap not (get_or-set_other v j k true false d) ∙ sym (without_other f j k d))
    (cases_eq k j)) in
    omega (arith, a, b)

-- a matching stays one where translator j + 1 goes to a package that had none
pub passed_matching :
    (C : ℕ → ℕ → Bool) (t : ℕ) (o : List ℕ) (j i : ℕ) → Matching C t o → Free o i → j < t → j < length o
    → C i (j + 1) ≡ true → Matching C t (set o j i)
passed_matching C t o j i m f l h e = record { within = within; joined = joined; apart = apart }
  where
    here : (a : ℕ) → a ≡ j → get_or (set o j i) a 0 ≡ i
    here a q = ap (λ n. get_or (set o j i) n 0) q ∙ get_or-set_same o j i 0 h

    there : (a : ℕ) → (a ≡ j → ⊥) → get_or (set o j i) a 0 ≡ get_or o a 0
    there a d = get_or-set_other o j a i 0 d

    within : (a : ℕ) → 0 < get_or (set o j i) a 0 → a < t
    within a z = ⊎_elim (λ q. omega arith) (λ d. m.within a (omega (arith, there a d))) (cases_eq a j)

    joined : (a : ℕ) → 0 < get_or (set o j i) a 0 → C (get_or (set o j i) a 0) (a + 1) ≡ true
    joined a z =
        ⊎_elim
        (λ q. ap (λ n. C n (a + 1)) (here a q) ∙ ap (λ n. C i (n + 1)) q ∙ e)
        (λ d. ap (λ n. C n (a + 1)) (there a d) ∙ m.joined a (omega (arith, there a d)))
        (cases_eq a j)

    apart : (a b : ℕ) → 0 < get_or (set o j i) a 0 → get_or (set o j i) a 0 ≡ get_or (set o j i) b 0 → a ≡ b
    apart a b z q =
        ⊎_elim
        (λ x. ⊎_elim (λ y. x ∙ sym y) (λ y. absurd (f b (sym (there b y) ∙ sym q ∙ here a x))) (cases_eq b j))
        (λ x.
        ⊎_elim
        (λ y. absurd (f a (sym (there a x) ∙ q ∙ here b y)))
        (λ y. m.apart a b (omega (arith, there a x)) (sym (there a x) ∙ q ∙ there b y))
        (cases_eq b j))
        (cases_eq a j)

-- whoever had the translator has none then
pub passed_free :
    (C : ℕ → ℕ → Bool) (t : ℕ) (o : List ℕ) (j i : ℕ) → Matching C t o → Free o i → j < length o
    → 0 < get_or o j 0 → Free (set o j i) (get_or o j 0)
passed_free C t o j i m f h z a q =
    ⊎_elim
    (λ x. f j (sym q ∙ ap (λ n. get_or (set o j i) n 0) x ∙ get_or-set_same o j i 0 h))
    (λ x.
    let s : get_or o j 0 ≡ get_or o a 0 = sym q ∙ get_or-set_other o j a i 0 x in
    x (sym (m.apart j a z s)))
    (cases_eq a j)

-- an owner put back
pub put_back : (o : List ℕ) (j i : ℕ) → set (set o j i) j (get_or o j 0) ≡ o
put_back o j i = set-set o j i (get_or o j 0) ∙ set-get_or o j 0

-- every package but the former owner keeps its translator
pub has_passed :
    (o : List ℕ) (j i k : ℕ) → Has o k → (k ≡ get_or o j 0) ⊎ Has (set o j i) k
has_passed o j i k (a, e) =
    ⊎_elim
    (λ q. inl (sym e ∙ ap (λ n. get_or o n 0) q))
    (λ d. inr (a, get_or-set_other o j a i 0 d ∙ e))
    (cases_eq a j)

pub passed_has :
    (o : List ℕ) (j i k : ℕ) → j < length o → Has (set o j i) k → (k ≡ i) ⊎ Has o k
passed_has o j i k h (a, e) =
    ⊎_elim
    (λ q. inl (sym e ∙ ap (λ n. get_or (set o j i) n 0) q ∙ get_or-set_same o j i 0 h))
    (λ d. inr (a, sym (get_or-set_other o j a i 0 d) ∙ e))
    (cases_eq a j)

-- a translator taken whose owner got another
pub handed_on :
    (C : ℕ → ℕ → Bool) (t : ℕ) (v w : List Bool) (o n : List ℕ) (j i : ℕ)
    → j < length o → j < length w → 0 < get_or o j 0
    → Kept (set w j true) (set o j i) n → Augmented C t (set w j true) (get_or o j 0) (set o j i) n
    → Closed C t o v w → Tried C i w j → Augmented C t v i o n
handed_on C t v w o n j i h g z kept a s r =
    record {
      matching = a.matching;
      keeps = λ k p q. ⊎_elim (λ x. (a.place, a.placed ∙ sym x)) (λ x. a.keeps k p x) (has_passed o j i k q);
      only = λ k p q. ⊎_elim (λ x. inr (j, sym x)) (λ x. passed_has o j i k h x) (a.only k p q);
      place = j;
      placed = kept j (get_or-set_same w j true false g) ∙ get_or-set_same o j i 0 h;
      first = record { marks = w; closed = s; tried = r };
    }

pub marks_grow :
    (v w : List Bool) (j : ℕ) → j < length w → ((a : ℕ) → seen v a ≡ true → seen w a ≡ true)
    → (a : ℕ) → seen v a ≡ true → seen (set w j true) a ≡ true
marks_grow v w j h g a e =
    ⊎_elim
    (λ q. ap (λ n. seen (set w j true) n) q ∙ get_or-set_same w j true false h)
    (λ d. get_or-set_other w j a true false d ∙ g a e)
    (cases_eq a j)

-- a failed try leaves a closed set of marks
pub closed_passed :
    (C : ℕ → ℕ → Bool) (t : ℕ) (v w x : List Bool) (o : List ℕ) (j i : ℕ)
    → j < length w → 0 < get_or o j 0 → Closed C t o v w
    → Closed C t (set o j i) (set w j true) x → Tried C (get_or o j 0) x t → Closed C t o v x
closed_passed C t v w x o j i h z s r d =
    record {
      grows = λ a e. r.grows a (marks_grow v w j h s.grows a e);
      owned = λ a e f. ⊎_elim (λ q. subst (λ n. 0 < get_or o n 0) (sym q) z) (λ y. owned a e f y) (cases_eq a j);
      reach = λ a n e f l c.
          ⊎_elim (λ q. d n l (ap (λ b. C (get_or o b 0) (n + 1)) (sym q) ∙ c)) (λ y. reach a n e f l c y) (cases_eq a j);
    }
  where
    marked : (a : ℕ) → (a ≡ j → ⊥) → seen (set w j true) a ≡ seen w a
    marked a y = get_or-set_other w j a true false y

    same : (a : ℕ) → (a ≡ j → ⊥) → get_or (set o j i) a 0 ≡ get_or o a 0
    same a y = get_or-set_other o j a i 0 y

    old : (a : ℕ) → (a ≡ j → ⊥) → seen w a ≡ true → seen x a ≡ true
    old a y e = r.grows a (marked a y ∙ e)

    owned : (a : ℕ) → seen x a ≡ true → seen v a ≡ false → (a ≡ j → ⊥) → 0 < get_or o a 0
    owned a e f y =
        ⊎_elim
        (λ b. s.owned a b f)
        (λ b. subst (λ n. 0 < n) (same a y) (r.owned a e (marked a y ∙ b)))
        (cases_Bool (seen w a))

    into : (n : ℕ) → seen w n ≡ true → seen x n ≡ true
    into n e = ⊎_elim (λ q. r.grows n (ap (seen (set w j true)) q ∙ get_or-set_same w j true false h)) (λ y. old n y e) (cases_eq n j)

    reach : (a n : ℕ) → seen x a ≡ true → seen v a ≡ false → n < t → C (get_or o a 0) (n + 1) ≡ true → (a ≡ j → ⊥) → seen x n ≡ true
    reach a n e f l c y =
        ⊎_elim
        (λ b. into n (s.reach a n b f l c))
        (λ b. r.reach a n e (marked a y ∙ b) l (ap (λ k. C k (n + 1)) (same a y) ∙ c))
        (cases_Bool (seen w a))

-- one more translator tried, marked before or in vain
pub tried_more :
    (C : ℕ → ℕ → Bool) (k : ℕ) (w x : List Bool) (j : ℕ)
    → ((a : ℕ) → seen w a ≡ true → seen x a ≡ true) → (C k (j + 1) ≡ true → seen x j ≡ true)
    → Tried C k w j → Tried C k x (j + 1)
tried_more C k w x j g here r a l c =
    ⊎_elim (λ q. ap (seen x) q ∙ here (ap (λ n. C k (n + 1)) (sym q) ∙ c)) (λ d. g a (r a (omega arith) c)) (cases_eq a j)

-- a free translator taken
pub taken :
    (C : ℕ → ℕ → Bool) (t : ℕ) (v w : List Bool) (o : List ℕ) (j i : ℕ)
    → Matching C t o → Free o i → j < t → j < length o → C i (j + 1) ≡ true → get_or o j 0 ≡ 0
    → Closed C t o v w → Tried C i w j → Augmented C t v i o (set o j i)
taken C t v w o j i m f l h e z s r =
    record {
      matching = passed_matching C t o j i m f l h e;
      keeps = λ k p q. ⊎_elim (λ x. absurd (omega arith)) (λ x. x) (has_passed o j i k q);
      only = λ k p q. passed_has o j i k h q;
      place = j;
      placed = get_or-set_same o j i 0 h;
      first = record { marks = w; closed = s; tried = r };
    }

-- the same, where the note in hand is known to be an earlier one
pub taken_at :
    (C : ℕ → ℕ → Bool) (t : ℕ) (v w : List Bool) (o a : List ℕ) (j i : ℕ) → o ≡ a → Closed C t o v w
    → Tried C i w j → j < t → j < length o → C i (j + 1) ≡ true → get_or o j 0 ≡ 0
    → Matching C t a → Free a i → Augmented C t v i a (set o j i)
taken_at C t v w o a j i e s r l h c z m f =
    subst (λ (x : List ℕ). Augmented C t v i x (set o j i)) e
    (taken C t v w o j i (subst (λ (x : List ℕ). Matching C t x) (sym e) m) (subst (λ (x : List ℕ). Free x i) (sym e) f) l h c z s r)

-- the same, where the note in hand is known to be an earlier one
pub handed_on_at :
    (C : ℕ → ℕ → Bool) (t : ℕ) (v w : List Bool) (o a n : List ℕ) (j i : ℕ) → o ≡ a → Closed C t o v w
    → Tried C i w j → j < t → j < length o → j < length w → C i (j + 1) ≡ true → 0 < get_or o j 0
    → Kept (set w j true) (set o j i) n
    → (Matching C t (set o j i) → Free (set o j i) (get_or o j 0) → Augmented C t (set w j true) (get_or o j 0) (set o j i) n)
    → Matching C t a → Free a i → Augmented C t v i a n
handed_on_at C t v w o a n j i e s r l h g c z kept ih m f =
    let m' : Matching C t o = subst (λ (x : List ℕ). Matching C t x) (sym e) m in
    let f' : Free o i = subst (λ (x : List ℕ). Free x i) (sym e) f in
    subst (λ (x : List ℕ). Augmented C t v i x n) e
    (handed_on C t v w o n j i h g z kept (ih (passed_matching C t o j i m' f' l h c) (passed_free C t o j i m' f' h z)) s r)

pub unseen_le :
    (v w : List Bool) → ((j : ℕ) → seen v j ≡ true → seen w j ≡ true) → unseen w ≤ unseen v
unseen_le v w g =
    count_le (λ j. not (seen w j)) (λ j. not (seen v j)) 64
    (λ j _ e. ⊎_elim (λ q. absurd (both_ways (seen w j) (not-true (seen w j) e) (g j q))) (λ q. ap not q) (cases_Bool (seen v j)))

-- the note and the marks after a failed try: the invariant goes on
pub failed_at :
    (C : ℕ → ℕ → Bool) (t : ℕ) (v w x : List Bool) (o a n : List ℕ) (j i : ℕ) → o ≡ a → Closed C t o v w
    → Tried C i w j → j < length w → 0 < get_or o j 0 → n ≡ set o j i
    → Closed C t (set o j i) (set w j true) x → Tried C (get_or o j 0) x t
    → (u : List ℕ) (y : List Bool) → u ≡ set n j (get_or o j 0) → y ≡ x
    → (u ≡ a) × Closed C t u v y × Tried C i y (j + 1)
failed_at C t v w x o a n j i e s r h z q c d u y p k =
    let back : u ≡ o = p ∙ ap (λ b. set b j (get_or o j 0)) q ∙ put_back o j i in
    let here : seen x j ≡ true = c.grows j (get_or-set_same w j true false h) in
    let grown : (b : ℕ) → seen w b ≡ true → seen x b ≡ true = λ b m. c.grows b (marks_grow w w j h (λ _ m'. m') b m) in
    let whole : Closed C t o v x = closed_passed C t v w x o j i h z s c d in (
      back ∙ e,
      subst (λ (b : List Bool). Closed C t u v b) (sym k) (subst (λ (b : List ℕ). Closed C t b v x) (sym back) whole),
      subst (λ (b : List Bool). Tried C i b (j + 1)) (sym k) (tried_more C i w x j grown (λ _. here) r),
    )

-- and after a translator passed over
pub passed_over :
    (C : ℕ → ℕ → Bool) (t : ℕ) (v w : List Bool) (o a : List ℕ) (j i : ℕ) → o ≡ a → Closed C t o v w
    → Tried C i w j → (C i (j + 1) ≡ true → seen w j ≡ true)
    → (u : List ℕ) (y : List Bool) → u ≡ o → y ≡ w
    → (u ≡ a) × Closed C t u v y × Tried C i y (j + 1)
passed_over C t v w o a j i e s r here u y p k = (
  p ∙ e,
  subst (λ (b : List Bool). Closed C t u v b) (sym k) (subst (λ (b : List ℕ). Closed C t b v w) (sym p) s),
  subst (λ (b : List Bool). Tried C i b (j + 1)) (sym k) (tried_more C i w w j (λ _ m. m) here r),
)
