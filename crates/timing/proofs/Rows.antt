-- One code after the other goes into a book, until all are in or the limit stops it.
use Rattle.std.proofs.Common.{◌≡◌, ℕ, ◌+◌, ◌*◌, ◌<◌, ◌≤◌, Bool, true, false, cond, not, eqb, ◌⊎◌, List, get_or, is_some, is_ok, IsErrAnd, Some, None, Ok, Err, Option, Result, sym, refl, ap, ◌∙◌, subst, inl, inr, ⊎_elim, arith, MatchResult}
use Rattle.books.proofs.Outcomes.{put_accepted, put_declined, put_makes, same_meaning}
use Rattle.books.proofs.Standing.{changed_other, changed_same, count_from_empty, standing_changed}
use Rattle.books.specs.Changes.{put_after, put_answer}
use Rattle.books.specs.Limits.{inside}
use Rattle.books.specs.Meaning.{Empty, Meaning, changed, count, one, standing, with_grade}
use Rattle.bottleneck.specs.Codes.{grade_of_code}
use Rattle.refusals.specs.declared.refusal.Refusal.TheVariants.{Full}
use Rattle.refusals.specs.declared.refusal.Refusal.{Refusal}
use Rattle.std.proofs.lemmas.Bool.{and_from, and_right, cases_Bool, cases_eq, cases_lt, cond-false, cond-true, eq-eqb, ne_eqb, true≢false}
use Rattle.timing.proofs.Places.{here, lies_inside, none_above, none_below, none_left, none_right, standing_mono}
use Rattle.timing.specs.Table.{Overfull, Partly, grades_of, sheet_of}

pub empty_start : (limit : ℕ) (codes : List ℕ) (m : Meaning) → Empty m → Partly limit codes 0 0 m
empty_start limit codes m e =
    let z = count_from_empty m e in
    record {
      above = λ i j l. e i j ∙ sym (none_above m.packages m.translators codes i j (omega (arith, l)));
      left = λ j l. e (0 + 1) j ∙ sym (none_left m.packages m.translators codes (0 + 1) j (omega (arith, l)));
      right = λ j l. e (0 + 1) j;
      below = λ i j l. e i j;
      few = omega (arith, z);
    }

pub next_row : (limit : ℕ) (codes : List ℕ) (k : ℕ) (m : Meaning) → Partly limit codes k m.translators m → Partly limit codes (k + 1) 0 m
next_row limit codes k m w =
    record {
      above = λ i j l. ⊎_elim (λ a. w.above i j (omega (arith, a))) (λ a. ap (λ n. m.grade n j) (same i l a) ∙ last j ∙ sym (ap (λ n. grades_of m.packages m.translators codes n j) (same i l a))) (cases_lt i (k + 1));
      left = λ j l. w.below (k + 1 + 1) j (omega arith) ∙ sym (none_left m.packages m.translators codes (k + 1 + 1) j (omega (arith, l)));
      right = λ j l. w.below (k + 1 + 1) j (omega arith);
      below = λ i j l. w.below i j (omega (arith, l));
      few = w.few;
    }
  where
    same : (i : ℕ) → i ≤ k + 1 → k + 1 ≤ i → i ≡ k + 1
    same i l a = omega arith

    last : (j : ℕ) → m.grade (k + 1) j ≡ grades_of m.packages m.translators codes (k + 1) j
    last j =
        ⊎_elim (λ a. w.right j a ∙ sym (none_right m.packages m.translators codes (k + 1) j a)) (λ a. w.left j a)
        (cases_lt m.translators j)

pub all_rows : (limit : ℕ) (codes : List ℕ) (m : Meaning) → Partly limit codes m.packages 0 m → m ≡ sheet_of m.packages m.translators codes
all_rows limit codes m w =
    same_meaning m.packages m.translators m.grade (grades_of m.packages m.translators codes)
    (λ i j. ⊎_elim (λ a. outside i j a) (λ a. w.above i j a) (cases_lt m.packages i))
  where
    edge : (j : ℕ) → m.grade (m.packages + 1) j ≡ grades_of m.packages m.translators codes (m.packages + 1) j
    edge j =
        ⊎_elim (λ a. w.right j a ∙ sym (none_below m.packages m.translators codes (m.packages + 1) j (omega arith)))
        (λ a. w.left j a) (cases_lt 0 j)

    outside : (i j : ℕ) → m.packages < i → m.grade i j ≡ grades_of m.packages m.translators codes i j
    outside i j a =
        ⊎_elim
        (λ q. ap (λ n. m.grade n j) q ∙ edge j ∙ sym (ap (λ n. grades_of m.packages m.translators codes n j) q))
        (λ n. w.below i j (omega (arith, a, n)) ∙ sym (none_below m.packages m.translators codes i j a))
        (cases_eq i (m.packages + 1))

-- every grade of such a book is one of the table
partly_part :
    (limit : ℕ) (codes : List ℕ) (k l : ℕ) (m : Meaning) → Partly limit codes k l m → (i j : ℕ)
    → (m.grade i j ≡ None) ⊎ (m.grade i j ≡ grades_of m.packages m.translators codes i j)
partly_part limit codes k l m w i j =
    ⊎_elim (λ a. inl (w.below i j a))
    (λ a. ⊎_elim (λ b. inr (w.above i j (omega (arith, b)))) (λ b. on_edge (omega (arith, a, b)) (cases_lt l j)) (cases_lt i (k + 1)))
    (cases_lt (k + 1) i)
  where
    on_edge : i ≡ k + 1 → (l < j) ⊎ (j ≤ l) → (m.grade i j ≡ None) ⊎ (m.grade i j ≡ grades_of m.packages m.translators codes i j)
    on_edge q (inl b) = inl (ap (λ n. m.grade n j) q ∙ w.right j b)
    on_edge q (inr b) =
        inr (ap (λ n. m.grade n j) q ∙ w.left j b ∙ sym (ap (λ n. grades_of m.packages m.translators codes n j) q))

-- a change at most, and never of the sizes
abbrev changed_or_not : Bool → Bool → Meaning → ℕ → ℕ → ℕ → Meaning
changed_or_not skip ok m a b code = cond skip m (cond ok (with_grade m a b (Some code)) m)

same_packages :
    (skip ok : Bool) (m : Meaning) (a b code : ℕ) → (changed_or_not skip ok m a b code).packages ≡ m.packages
same_packages true ok m a b code = refl
same_packages false true m a b code = refl
same_packages false false m a b code = refl

same_translators :
    (skip ok : Bool) (m : Meaning) (a b code : ℕ) → (changed_or_not skip ok m a b code).translators ≡ m.translators
same_translators true ok m a b code = refl
same_translators false true m a b code = refl
same_translators false false m a b code = refl

pub kept_packages :
    (limit : ℕ) (m m' : Meaning) (a b code : ℕ) → m' ≡ cond (eqb code 0) m (put_after limit m a b code) → m'.packages ≡ m.packages
kept_packages limit m m' a b code e =
    ap (λ (n : Meaning). n.packages) e ∙ same_packages (eqb code 0) (is_ok (put_answer limit m a b code)) m a b code

pub kept_translators :
    (limit : ℕ) (m m' : Meaning) (a b code : ℕ) → m' ≡ cond (eqb code 0) m (put_after limit m a b code)
    → m'.translators ≡ m.translators
kept_translators limit m m' a b code e =
    ap (λ (n : Meaning). n.translators) e ∙ same_translators (eqb code 0) (is_ok (put_answer limit m a b code)) m a b code

-- a refusal is handed on as it is
pub handed_on :
    (P : Type 0) (Q : Refusal → Type 0) (r : Result (Unit {0}) Refusal) (e : Refusal) → IsErrAnd r (λ y. y ≡ e) → Q e
    → MatchResult r (λ _. P) Q
handed_on P Q (Ok x) e h q = absurd h
handed_on P Q (Err y) e h q = subst Q (sym h) q

pub in_sizes :
    (limit p p' t t' : ℕ) (codes : List ℕ) (e : Refusal) → p ≡ p' → t ≡ t' → Overfull limit p t codes e
    → Overfull limit p' t' codes e
in_sizes limit p p' t t' codes e a b o =
    subst (λ n. Overfull limit p' n codes e) b (subst (λ n. Overfull limit n t codes e) a o)

module _ (limit : ℕ) (codes : List ℕ) (k l : ℕ) (m : Meaning) (w : Partly limit codes k l m) (in_rows : k < m.packages) (in-columns : l < m.translators) where
  abbrev G : ℕ → ℕ → Option ℕ
  G = grades_of m.packages m.translators codes

  abbrev code : ℕ
  code = get_or codes (k * m.translators + l) 0

  free : m.grade (k + 1) (l + 1) ≡ None
  free = w.right (l + 1) (omega arith)

  here_is : G (k + 1) (l + 1) ≡ grade_of_code code
  here_is = here m.packages m.translators codes k l in_rows in-columns

  -- no code here
  passed : eqb code 0 ≡ true → Partly limit codes k (l + 1) m
  passed z =
      record {
        above = w.above;
        left = λ j a. ⊎_elim (λ b. w.left j (omega (arith, b))) (λ b. ap (m.grade (k + 1)) (same j a b) ∙ free ∙ sym (here_is ∙ cond-true (eqb code 0) None (Some code) z) ∙ sym (ap (G (k + 1)) (same j a b))) (cases_lt j (l + 1));
        right = λ j a. w.right j (omega (arith, a));
        below = w.below;
        few = w.few;
      }
    where
      same : (j : ℕ) → j ≤ l + 1 → l + 1 ≤ j → j ≡ l + 1
      same j a b = omega arith

  module _ (some : eqb code 0 ≡ false) where
    abbrev after : ℕ → ℕ → Option ℕ
    after = changed m.grade (k + 1) (l + 1) (Some code)

    counted : standing after m.packages m.translators ≡ count m + 1
    counted =
        let s : standing after m.packages m.translators + one (m.grade (k + 1) (l + 1)) ≡ count m + one (after (k + 1) (l + 1)) =
        standing_changed m.grade after m.packages m.translators (k + 1) (l + 1) (omega arith) (omega arith) (omega arith)
        (omega arith) (changed_other m.grade (k + 1) (l + 1) (Some code)) in
        let u : one (m.grade (k + 1) (l + 1)) ≡ 0 = ap one free in
        let v : one (after (k + 1) (l + 1)) ≡ 1 = ap one (changed_same m.grade (k + 1) (l + 1) (Some code)) in
        omega (arith, s, u, v)

    put : (most : ℕ) → count m < most → Partly most codes k (l + 1) (with_grade m (k + 1) (l + 1) (Some code))
    put most room =
        record {
          above = λ i j a. other i j (λ q. omega (arith, a, q.0)) ∙ w.above i j a;
          left = λ j a. ⊎_elim (λ b. other (k + 1) j (λ q. omega (arith, b, q.1)) ∙ w.left j (omega (arith, b))) (λ b. ap (after (k + 1)) (same j a b) ∙ changed_same m.grade (k + 1) (l + 1) (Some code) ∙ sym (here_is ∙ cond-false (eqb code 0) None (Some code) some) ∙ sym (ap (G (k + 1)) (same j a b))) (cases_lt j (l + 1));
          right = λ j a. other (k + 1) j (λ q. omega (arith, a, q.1)) ∙ w.right j (omega (arith, a));
          below = λ i j a. other i j (λ q. omega (arith, a, q.0)) ∙ w.below i j a;
          few = omega (arith, counted, room);
        }
      where
        other : (i j : ℕ) → ((i ≡ k + 1) × (j ≡ l + 1) → ⊥) → after i j ≡ m.grade i j
        other = changed_other m.grade (k + 1) (l + 1) (Some code)

        same : (j : ℕ) → j ≤ l + 1 → l + 1 ≤ j → j ≡ l + 1
        same j a b = omega arith

  inside_here : inside m.packages m.translators (k + 1) (l + 1) ≡ true
  inside_here = lies_inside m.packages m.translators (k + 1) (l + 1) (omega arith) (omega arith) (omega arith) (omega arith)

  abbrev answer : Result (Unit {0}) Refusal
  answer = put_answer limit m (k + 1) (l + 1) code

  some_code : eqb code 0 ≡ false → code ≡ 0 → ⊥
  some_code z q = true≢false (sym (eq-eqb code 0 q) ∙ z)

  declined : eqb code 0 ≡ false → count m ≡ limit → answer ≡ Err Full
  declined z q =
      put_declined limit m (k + 1) (l + 1) code inside_here (some_code z)
      (and_from (not (is_some (m.grade (k + 1) (l + 1)))) (eqb (count m) limit) (ap (λ (o : Option ℕ). not (is_some o)) free) (eq-eqb (count m) limit q))

  accepted : eqb code 0 ≡ false → (count m ≡ limit → ⊥) → answer ≡ Ok tt
  accepted z n =
      put_accepted limit m (k + 1) (l + 1) code inside_here (some_code z)
      (and_right (not (is_some (m.grade (k + 1) (l + 1)))) (eqb (count m) limit) (ne_eqb (count m) limit n))

  ok_not_err : (r : Result (Unit {0}) Refusal) (e : Refusal) → r ≡ Ok tt → r ≡ Err e → ⊥
  ok_not_err r e p q = let z : ◌≡◌ {A = ℕ} 0 1 = cc in omega arith

  same_err : (r : Result (Unit {0}) Refusal) (e f : Refusal) → r ≡ Err e → r ≡ Err f → f ≡ e
  same_err r e f p q = cc

  pub one_more :
      (m' : Meaning) → cond (eqb code 0) (Ok tt) answer ≡ Ok tt
      → m' ≡ cond (eqb code 0) m (put_after limit m (k + 1) (l + 1) code) → Partly limit codes k (l + 1) m'
  one_more m' ok e = ⊎_elim skipped taken (cases_Bool (eqb code 0))
    where
      skipped : eqb code 0 ≡ true → Partly limit codes k (l + 1) m'
      skipped z =
          subst (λ (n : Meaning). Partly limit codes k (l + 1) n)
          (sym (e ∙ cond-true (eqb code 0) m (put_after limit m (k + 1) (l + 1) code) z)) (passed z)

      taken : eqb code 0 ≡ false → Partly limit codes k (l + 1) m'
      taken z =
          let a : answer ≡ Ok tt = sym (cond-false (eqb code 0) (Ok tt) answer z) ∙ ok in
          let n : count m ≡ limit → ⊥ = λ q. ok_not_err answer Full a (declined z q) in
          let f = w.few in
          subst (λ (n : Meaning). Partly limit codes k (l + 1) n)
          (sym (e ∙ cond-false (eqb code 0) m (put_after limit m (k + 1) (l + 1) code) z ∙ put_makes limit m (k + 1) (l + 1) code a))
          (put z limit (omega (arith, n, f)))

  pub overfull : (e : Refusal) → cond (eqb code 0) (Ok tt) answer ≡ Err e → Overfull limit m.packages m.translators codes e
  overfull e bad = ⊎_elim (λ z. absurd (ok_not_err (cond (eqb code 0) (Ok tt) answer) e (cond-true (eqb code 0) (Ok tt) answer z) bad)) refused (cases_Bool (eqb code 0))
    where
      refused : eqb code 0 ≡ false → Overfull limit m.packages m.translators codes e
      refused z =
          let a : answer ≡ Err e = sym (cond-false (eqb code 0) (Ok tt) answer z) ∙ bad in
          ⊎_elim (λ q. (same_err answer Full e (declined z q) a, more z q)) (λ n. absurd (ok_not_err answer e (accepted z n) a)) (cases_eq (count m) limit)
        where
          more : eqb code 0 ≡ false → count m ≡ limit → limit < count (sheet_of m.packages m.translators codes)
          more z q =
              let c = counted z in
              let s =
              standing_mono (after z) G m.packages m.translators
              (partly_part (count m + 1) codes k (l + 1) (with_grade m (k + 1) (l + 1) (Some code)) (put z (count m + 1) (omega arith))) in
              omega (arith, c, s, q)

  -- the same of a code as the program has it
  module _ (t c : ℕ) (sizes : t ≡ m.translators) (read : c ≡ get_or codes (k * t + l) 0) where
    code_is : c ≡ code
    code_is = read ∙ ap (λ n. get_or codes (k * n + l) 0) sizes

    pub put_more :
        (m' : Meaning) (r : Result (Unit {0}) Refusal) → r ≡ cond (eqb c 0) (Ok tt) (put_answer limit m (k + 1) (l + 1) c) → r ≡ Ok tt
        → m' ≡ cond (eqb c 0) m (put_after limit m (k + 1) (l + 1) c) → Partly limit codes k (l + 1) m'
    put_more m' r told ok e =
        one_more m' (sym (told ∙ ap (λ n. cond (eqb n 0) (Ok tt) (put_answer limit m (k + 1) (l + 1) n)) code_is) ∙ ok)
        (e ∙ ap (λ n. cond (eqb n 0) m (put_after limit m (k + 1) (l + 1) n)) code_is)

    pub put_overfull :
        (r : Result (Unit {0}) Refusal) (e : Refusal) → r ≡ cond (eqb c 0) (Ok tt) (put_answer limit m (k + 1) (l + 1) c) → r ≡ Err e
        → Overfull limit m.packages m.translators codes e
    put_overfull r e told bad =
        overfull e (sym (told ∙ ap (λ n. cond (eqb n 0) (Ok tt) (put_answer limit m (k + 1) (l + 1) n)) code_is) ∙ bad)
