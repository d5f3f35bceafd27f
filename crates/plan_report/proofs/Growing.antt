-- Lines added one after the other.
use Rattle.std.proofs.Common.{◌≡◌, ℕ, zero, suc, ◌+◌, ◌<◌, Bool, cond, List, [], ◌++◌, get_or, codes, decimal, Option, sym, refl, ap, ◌∙◌, append_assoc, append-nil, add-one, arith}
use Rattle.plan_report.specs.Texts.{pair_line, table, members}
use Rattle.std.specs.Prelude.{Result, Ok, Err, IfOk}

-- what holds where a call was right gives another such fact
pub if_ok : {A E : Type 0} (r : Result A E) (P Q : A → Type 0) → ((a : A) → P a → Q a) → IfOk r P → IfOk r Q
if_ok (Ok a) P Q f h = f a h
if_ok (Err e) P Q f h = h

pub two_parts : (start a b first second : List ℕ) → first ≡ start ++ a → second ≡ first ++ b → second ≡ start ++ (a ++ b)
two_parts start a b first second x y = y ∙ ap (λ (w : List ℕ). w ++ b) x ∙ append_assoc start a b

pub table_none : (kind lowest : ℕ) (G : ℕ → ℕ → Option ℕ) (plan before : List ℕ) → before ≡ before ++ table kind lowest G plan 0
unfolding table
table_none kind lowest G plan before = sym (append-nil before)

pub table_more :
    (kind lowest : ℕ) (G : ℕ → ℕ → Option ℕ) (plan start before after : List ℕ) (n : ℕ) → before ≡ start ++ table kind lowest G plan n
    → after ≡ before ++ pair_line kind lowest (n + 1) (get_or plan n 0) (G (n + 1) (get_or plan n 0))
    → after ≡ start ++ table kind lowest G plan (n + 1)
unfolding table
table_more kind lowest G plan start before after n b a =
    two_parts start (table kind lowest G plan n) row before after b a ∙ ap (λ (x : List ℕ). start ++ x) (sym grown)
  where
    row : List ℕ
    row = pair_line kind lowest (n + 1) (get_or plan n 0) (G (n + 1) (get_or plan n 0))

    grown : table kind lowest G plan (n + 1) ≡ table kind lowest G plan n ++ row
    grown = rw add-one refl

pub members_none : (S : ℕ → Bool) (before : List ℕ) → before ≡ before ++ members S 0
unfolding members
members_none S before = sym (append-nil before)

pub members_more :
    (S : ℕ → Bool) (start before after : List ℕ) (n : ℕ) → before ≡ start ++ members S n
    → after ≡ before ++ cond (S n) (codes " " ++ decimal (n + 1)) [] → after ≡ start ++ members S (n + 1)
unfolding members
members_more S start before after n b a =
    two_parts start (members S n) (cond (S n) (codes " " ++ decimal (n + 1)) []) before after b a
    ∙ ap (λ (x : List ℕ). start ++ x) (sym grown)
  where
    grown : members S (n + 1) ≡ members S n ++ cond (S n) (codes " " ++ decimal (n + 1)) []
    grown = rw add-one refl

-- the members of a set among the first places depend on these places alone
pub members_same : (S T : ℕ → Bool) (n : ℕ) → ((k : ℕ) → k < n → S k ≡ T k) → members S n ≡ members T n
unfolding members
members_same S T zero h = refl
members_same S T (suc n) h =
    (λ i. members_same S T n (λ k l. h k (omega arith)) i ++ cond (h n (omega arith) i) (codes " " ++ decimal (suc n)) [])
