-- What buffers hold after a plan and a set are written into them.
use Rattle.std.proofs.Common.{◌≡◌, ℕ, ◌+◌, ◌<◌, ◌≤◌, Bool, true, false, cond, eqb, leb, ◌⊎◌, List, ◌++◌, length, get_or, take, drop, Some, None, Option, sym, ap, ◌∙◌, inl, inr, ⊎_elim, arith}
use Rattle.augmenting.specs.Owners.{seen}
use Rattle.bottleneck.proofs.Tops.{none_some, some_same}
use Rattle.bottleneck.specs.Grades.{AllValid, counted, valid_grades}
use Rattle.books.specs.Meaning.{Meaning}
use Rattle.matching.specs.Answers.{Marks, member}
use Rattle.matching.specs.Written.{written}
use Rattle.std.proofs.lemmas.List.{drop_at, ext_get_or, get_or-drop, length-drop, take_at}
use Rattle.std.proofs.lemmas.Bool.{cases_Bool, cond-true, le-leb}

pub counted_valid : (valid : ℕ → Bool) (g : Option ℕ) (code : ℕ) → counted valid g ≡ Some code → valid code ≡ true
counted_valid valid None code e = absurd (none_some code e)
counted_valid valid (Some c) code e =
    ⊎_elim
    (λ v. ap valid (sym (some_same c code (sym (ap (λ b. cond b (Some c) None) v) ∙ e))) ∙ v)
    (λ v. absurd (none_some code (sym (ap (λ b. cond b (Some c) None) v) ∙ e)))
    (cases_Bool (valid c))

pub all_counted : (valid : ℕ → Bool) (m : Meaning) → AllValid valid (valid_grades valid m)
all_counted valid m k j code e = counted_valid valid (m.grade k j) code e

pub written_is : (xs ys : List ℕ) (p : ℕ) → length xs ≡ p → p ≤ length ys → written xs ys ≡ xs ++ drop (length xs) ys
written_is xs ys p e l =
    cond-true (leb (length xs) (length ys)) (xs ++ drop (length xs) ys) ys (le-leb (length xs) (length ys) (omega arith))

pub front_written : (xs ys zs : List ℕ) (p : ℕ) → length xs ≡ p → p ≤ length ys → zs ≡ written xs ys → take p zs ≡ xs
front_written xs ys zs p e l q = ap (take p) (q ∙ written_is xs ys p e l) ∙ take_at xs (drop (length xs) ys) p e

pub rest_written : (xs ys zs : List ℕ) (p : ℕ) → length xs ≡ p → p ≤ length ys → zs ≡ written xs ys → drop p zs ≡ drop p ys
rest_written xs ys zs p e l q =
    ap (drop p) (q ∙ written_is xs ys p e l) ∙ drop_at xs (drop (length xs) ys) p e ∙ ap (λ n. drop n ys) e

pub rest_same :
    (xs ys : List ℕ) (p : ℕ) → length xs ≡ length ys → ((k : ℕ) → p ≤ k → get_or xs k 0 ≡ get_or ys k 0) → drop p xs ≡ drop p ys
rest_same xs ys p e h =
    let a = length-drop p xs in
    let b = length-drop p ys in
    ext_get_or 0 (drop p xs) (drop p ys) (omega (arith, a, b, e))
    (λ i _. get_or-drop p xs i 0 ∙ h (p + i) (omega arith) ∙ sym (get_or-drop p ys i 0))

bit_exact : (b : Bool) (x : ℕ) → x ≡ cond b 1 0 → (x ≡ 0) ⊎ (x ≡ 1)
bit_exact true x e = inr e
bit_exact false x e = inl e

bit_member : (b : Bool) (x : ℕ) → x ≡ cond b 1 0 → b ≡ eqb x 1
bit_member true x e = ap (λ n. eqb n 1) (sym e)
bit_member false x e = ap (λ n. eqb n 1) (sym e)

pub marks_written :
    (s : List Bool) (p : ℕ) (before after : List ℕ) → length after ≡ length before
    → ((k : ℕ) → k < p → get_or after k 0 ≡ cond (seen s k) 1 0) → ((k : ℕ) → p ≤ k → get_or after k 0 ≡ get_or before k 0)
    → Marks p before after
marks_written s p before after e first rest =
    record { exact = λ k l. bit_exact (seen s k) (get_or after k 0) (first k l); rest = rest_same after before p e rest; long = e }

pub members_written :
    (s : List Bool) (p : ℕ) (after : List ℕ) → ((k : ℕ) → k < p → get_or after k 0 ≡ cond (seen s k) 1 0)
    → (k : ℕ) → k < p → seen s k ≡ member after k
members_written s p after first k l = bit_member (seen s k) (get_or after k 0) (first k l)
