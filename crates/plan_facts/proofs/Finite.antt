-- Of the lists of n numbers from 1 to t that have a property, one comes before all others in any
-- total order, unless none has the property.
use Rattle.std.proofs.Common.{◌≡◌, ℕ, zero, suc, ◌<◌, ◌≤◌, ◌⊎◌, List, [], ◌∷◌, length, get_or, sym, subst, inl, inr, ⊎_elim, arith}
use Rattle.augmenting.proofs.Counts.{all_or}
use Rattle.std.proofs.lemmas.List.{nil_from_length}
use Rattle.std.proofs.lemmas.Bool.{cases_eq}

abbrev pub Decided : Type 0 → Type 0
Decided P = P ⊎ (P → ⊥)

pub decide_all :
    (P : ℕ → Type 0) (n : ℕ) → ((k : ℕ) → k < n → Decided (P k)) → Decided ((k : ℕ) → k < n → P k)
decide_all P n h = ⊎_elim (λ a. inl a) (λ w. inr (λ a. w.2 (a w.0 w.1))) (all_or P (λ k. P k → ⊥) n h)

-- lists of n numbers from 1 to t
pub record Fits (n t : ℕ) (c : List ℕ) : Type 0 where
  pub long : length c ≡ n
  pub within : (k : ℕ) → k < n → (1 ≤ get_or c k 0) × (get_or c k 0 ≤ t)

pub record Ordered (Q : List ℕ → Type 0) (R : List ℕ → List ℕ → Type 0) : Type 0 where
  pub total : (a b : List ℕ) → Q a → Q b → R a b ⊎ R b a
  pub chain : (a b c : List ℕ) → Q a → Q b → Q c → R a b → R b c → R a c

pub record Least (Q : List ℕ → Type 0) (R : List ℕ → List ℕ → Type 0) : Type 0 where
  pub item : List ℕ
  pub holds : Q item
  pub before : (c : List ℕ) → Q c → R item c

-- among those whose first number is at most h
record LeastUpto (Q : List ℕ → Type 0) (R : List ℕ → List ℕ → Type 0) (h : ℕ) : Type 0 where
  item : List ℕ
  holds : Q item
  before : (c : List ℕ) → Q c → get_or c 0 0 ≤ h → R item c

-- a list whose first number is known
led_by : (n x : ℕ) (P : List ℕ → Type 0) → ((c : List ℕ) → P (x ∷ c)) → (c : List ℕ) → length c ≡ suc n → get_or c 0 0 ≡ x → P c
led_by n x P h [] l e = absurd (omega (arith, l))
led_by n x P h (y ∷ c) l e = subst (λ (z : ℕ). P (z ∷ c)) (sym e) (h c)

-- Which of the lists of n numbers comes first, once that is known of those of one number fewer.
module _ (t n : ℕ)
    (rest :
    (Q : List ℕ → Type 0) (R : List ℕ → List ℕ → Type 0) → ((c : List ℕ) → Decided (Q c))
    → ((c : List ℕ) → Q c → Fits n t c) → Ordered Q R → Least Q R ⊎ ((c : List ℕ) → Q c → ⊥))
    (Q : List ℕ → Type 0) (R : List ℕ → List ℕ → Type 0) (dec : (c : List ℕ) → Decided (Q c))
    (fits : (c : List ℕ) → Q c → Fits (suc n) t c) (ord : Ordered Q R)
  where
    -- the rest of a list that begins with j
    after : (j : ℕ) → 1 ≤ j → j ≤ t → Least (λ c. Q (j ∷ c)) (λ a b. R (j ∷ a) (j ∷ b)) ⊎ ((c : List ℕ) → Q (j ∷ c) → ⊥)
    after j low high =
        rest (λ c. Q (j ∷ c)) (λ a b. R (j ∷ a) (j ∷ b)) (λ c. dec (j ∷ c))
        (λ c w.
        let f = fits (j ∷ c) w in
        let l = f.long in
        record { long = omega (arith, l); within = λ k h. f.within (suc k) (omega arith) })
        (record {
          total = λ a b u v. ord.total (j ∷ a) (j ∷ b) u v;
          chain = λ a b c u v w x y. ord.chain (j ∷ a) (j ∷ b) (j ∷ c) u v w x y;
        })

    abbrev Upto : ℕ → Type 0
    Upto h = LeastUpto Q R h ⊎ ((c : List ℕ) → Q c → get_or c 0 0 ≤ h → ⊥)

    -- one first number more
    both : (h : ℕ) → LeastUpto Q R h → Least (λ c. Q (suc h ∷ c)) (λ a b. R (suc h ∷ a) (suc h ∷ b)) → Upto (suc h)
    both h u v =
        let new : List ℕ = suc h ∷ v.item in
        ⊎_elim
        (λ r.
        inl
        (record {
          item = u.item;
          holds = u.holds;
          before = λ c w l.
              ⊎_elim
              (λ e. ord.chain u.item new c u.holds v.holds w r (last v c w e))
              (λ d. u.before c w (omega (arith, l, d)))
              (cases_eq (get_or c 0 0) (suc h));
        }))
        (λ r.
        inl
        (record {
          item = new;
          holds = v.holds;
          before = λ c w l.
              ⊎_elim
              (λ e. last v c w e)
              (λ d. ord.chain new u.item c v.holds u.holds w r (u.before c w (omega (arith, l, d))))
              (cases_eq (get_or c 0 0) (suc h));
        }))
        (ord.total u.item new u.holds v.holds)
      where
        last : (v' : Least (λ c. Q (suc h ∷ c)) (λ a b. R (suc h ∷ a) (suc h ∷ b))) (c : List ℕ) → Q c → get_or c 0 0 ≡ suc h → R (suc h ∷ v'.item) c
        last v' c w e = led_by n (suc h) (λ z. Q z → R (suc h ∷ v'.item) z) (λ d x. v'.before d x) c (fits c w).long e w

    old_only : (h : ℕ) → LeastUpto Q R h → ((c : List ℕ) → Q (suc h ∷ c) → ⊥) → Upto (suc h)
    old_only h u none =
        inl
        (record {
          item = u.item;
          holds = u.holds;
          before = λ c w l.
              ⊎_elim
              (λ e. absurd (led_by n (suc h) (λ z. Q z → ⊥) none c (fits c w).long e w))
              (λ d. u.before c w (omega (arith, l, d)))
              (cases_eq (get_or c 0 0) (suc h));
        })

    new_only :
        (h : ℕ) → ((c : List ℕ) → Q c → get_or c 0 0 ≤ h → ⊥)
        → Least (λ c. Q (suc h ∷ c)) (λ a b. R (suc h ∷ a) (suc h ∷ b)) → Upto (suc h)
    new_only h none v =
        inl
        (record {
          item = suc h ∷ v.item;
          holds = v.holds;
          before = λ c w l.
              ⊎_elim
              (λ e. led_by n (suc h) (λ z. Q z → R (suc h ∷ v.item) z) (λ d x. v.before d x) c (fits c w).long e w)
              (λ d. absurd (none c w (omega (arith, l, d))))
              (cases_eq (get_or c 0 0) (suc h));
        })

    neither : (h : ℕ) → ((c : List ℕ) → Q c → get_or c 0 0 ≤ h → ⊥) → ((c : List ℕ) → Q (suc h ∷ c) → ⊥) → Upto (suc h)
    neither h none no-new =
        inr
        (λ c w l.
        ⊎_elim
        (λ e. led_by n (suc h) (λ z. Q z → ⊥) no-new c (fits c w).long e w)
        (λ d. none c w (omega (arith, l, d)))
        (cases_eq (get_or c 0 0) (suc h)))

    upto : (h : ℕ) → h ≤ t → Upto h
    upto zero l = inr (λ c w k. let z = ((fits c w).within 0 (omega arith)).0 in omega (arith, z, k))
    upto (suc h) l =
        ⊎_elim
        (λ u. ⊎_elim (both h u) (old_only h u) (after (suc h) (omega arith) l))
        (λ u. ⊎_elim (new_only h u) (neither h u) (after (suc h) (omega arith) l))
        (upto h (omega arith))

    all : Upto t → Least Q R ⊎ ((c : List ℕ) → Q c → ⊥)
    all (inl u) = inl (record { item = u.item; holds = u.holds; before = λ c w. u.before c w ((fits c w).within 0 (omega arith)).1 })
    all (inr none) = inr (λ c w. none c w ((fits c w).within 0 (omega arith)).1)

    longer : Least Q R ⊎ ((c : List ℕ) → Q c → ⊥)
    longer = all (upto t (omega arith))

pub least :
    (t n : ℕ) (Q : List ℕ → Type 0) (R : List ℕ → List ℕ → Type 0) → ((c : List ℕ) → Decided (Q c))
    → ((c : List ℕ) → Q c → Fits n t c) → Ordered Q R → Least Q R ⊎ ((c : List ℕ) → Q c → ⊥)
least t zero Q R dec fits ord =
    ⊎_elim
    (λ q.
    inl
    (record {
      item = [];
      holds = q;
      before = λ c w.
          subst (R []) (sym (nil_from_length c (fits c w).long)) (⊎_elim (λ r. r) (λ r. r) (ord.total [] [] q q));
    }))
    (λ q. inr (λ c w. q (subst Q (nil_from_length c (fits c w).long) w)))
    (dec [])
least t (suc n) Q R dec fits ord = longer t n (λ S T d f u. least t n S T d f u) Q R dec fits ord
