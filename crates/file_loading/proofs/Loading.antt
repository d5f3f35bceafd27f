-- Each record of a right file is taken, and after the last the grades of the file stand.
use Rattle.std.proofs.Common.{◌≡◌, ℕ, zero, suc, ◌+◌, ◌≤◌, Bool, false, not, if◌then◌else◌, ◌&&◌, ◌==◌, nat_le, ◌-◌, List, length, is_some, Ok, sym, refl, ap, ◌∙◌, add-one, subst, arith}
use Rattle.books.proofs.Outcomes.{put_accepted, put_makes}
use Rattle.books.specs.Changes.{put_after, put_answer}
use Rattle.books.specs.Meaning.{Empty, Meaning, count}
use Rattle.file_format.proofs.Decoded.{good_record, upto_all}
use Rattle.file_format.specs.FileOf.{grades_upto}
use Rattle.file_format.specs.Laws.{Bytes}
use Rattle.file_format.specs.Layout.{count_in, record_in, start_of, whole}
use Rattle.file_format.specs.Rules.{Right, grade_record, just}
use Rattle.file_loading.specs.Loaded.{RecordsAreTheGrades, with_record, with_records}
use Rattle.std.proofs.lemmas.Bool.{and_from, and_right, cond-true, le-leb, ne_eqb, true≢false}

pub with_none : (limit : ℕ) (m : Meaning) (bs : List ℕ) → m ≡ with_records limit m bs 0
unfolding with_records
with_none limit m bs = refl

pub with_more :
    (limit : ℕ) (m : Meaning) (bs : List ℕ) (n : ℕ)
    → with_records limit m bs (n + 1) ≡ with_record limit (with_records limit m bs n) bs (n + 1)
unfolding with_records
with_more limit m bs n = rw add-one refl

module _ (number : ℕ) (valid : ℕ → Bool) (limit : ℕ) (m : Meaning) (bs : List ℕ) (B : Bytes bs) (R : Right (just number valid m.packages m.translators) bs) (z : valid 0 ≡ false) (E : Empty m) (h : count_in bs ≤ limit) where
  abbrev listed : ℕ → Meaning
  listed n = record { packages = m.packages; translators = m.translators; grade = grades_upto bs n }

  one_more : (n : ℕ) → suc n ≤ count_in bs → with_record limit (listed n) bs (suc n) ≡ listed (suc n)
  unfolding grades_upto
  one_more n l =
      let w = good_record number valid m.packages m.translators bs (suc n) (R (grade_record (suc n)) (omega arith, l)) in
      let u =
      upto_all number valid m.packages m.translators bs B n (λ r a b. R (grade_record r) (a, omega (arith, b))) in
      let a = (record_in bs (suc n)).pkg in
      let b = (record_in bs (suc n)).translator in
      let c = (record_in bs (suc n)).code in
      let room : (not (is_some (grades_upto bs n a b)) && (count (listed n) == limit)) ≡ false =
      and_right (not (is_some (grades_upto bs n a b))) (count (listed n) == limit)
      (ne_eqb (count (listed n)) limit (λ e. omega (arith, e, u.stand, l, h))) in
      let ok : put_answer limit (listed n) a b c ≡ Ok tt =
      put_accepted limit (listed n) a b c w.placed (λ e. true≢false (sym w.coded ∙ ap valid e ∙ z)) room in
      cond-true (whole bs (start_of (suc n)) 6) (put_after limit (listed n) a b c) (listed n)
      (le-leb (start_of (suc n) + 6) (length bs) w.whole_in)
      ∙ put_makes limit (listed n) a b c ok

  upto : (n : ℕ) → n ≤ count_in bs → with_records limit m bs n ≡ listed n
  unfolding with_records grades_upto
  upto zero l = λ k. record { packages = m.packages; translators = m.translators; grade = λ i j. E i j k }
  upto (suc n) l = ap (λ q. with_record limit q bs (suc n)) (upto n (omega arith)) ∙ one_more n l

  all : with_records limit m bs (count_in bs) ≡ listed (count_in bs)
  all = upto (count_in bs) (omega arith)

pub records_are_the_grades : RecordsAreTheGrades
records_are_the_grades number valid limit m bs B R z E h = all number valid limit m bs B R z E h

pub one_step :
    (limit : ℕ) (m : Meaning) (bs : List ℕ) (n c : ℕ) (q r : Meaning) → q ≡ with_records limit m bs (n - 1)
    → 1 ≤ n → n ≤ c → r ≡ (if nat_le 1 n && nat_le n c then with_record limit q bs n else q)
    → r ≡ with_records limit m bs n
one_step limit m bs n c q r e l k h =
    let same : n - 1 + 1 ≡ n = omega arith in
    h
    ∙ cond-true (nat_le 1 n && nat_le n c) (with_record limit q bs n) q
    (and_from (nat_le 1 n) (nat_le n c) (le-leb 1 n l) (le-leb n c k))
    ∙ ap (λ x. with_record limit x bs n) e
    ∙ sym (subst (λ i. with_records limit m bs i ≡ with_record limit (with_records limit m bs (n - 1)) bs i) same (with_more limit m bs (n - 1)))
