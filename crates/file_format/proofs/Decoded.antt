-- A right string of bytes is the file of the grades in it.
use Rattle.std.proofs.Common.{◌≡◌, ℕ, zero, suc, ◌+◌, ◌-◌, ◌*◌, ◌^◌, ◌<◌, ◌≤◌, Bool, true, false, cond, ◌&&◌, eqb, leb, List, ◌++◌, length, get_or, take, drop, Some, None, Option, sym, refl, ap, ◌∙◌, subst, ⊎_elim, arith, take-add}
use Rattle.books.proofs.Standing.{changed_same, changed_other, standing_changed, standing_empty}
use Rattle.books.specs.Limits.{Within, inside}
use Rattle.books.specs.Meaning.{one, changed, standing}
use Rattle.file_format.proofs.Bytes.{six_exact, head_exact, four_below}
use Rattle.books.proofs.Inside.{Lies, lies}
use Rattle.file_format.proofs.Orders.{Before, before_true, before_chain, before_apart, not_before}
use Rattle.file_format.proofs.Pushed.{grades_push, grades_none}
use Rattle.file_format.specs.FileOf.{grade_bytes, grades_bytes, grades_upto, grade_in, head_bytes, file_of, Graded}
use Rattle.file_format.specs.Layout.{after, last_of, record_in, start_of, whole, count_in, sheet_in, two_bytes}
use Rattle.file_format.specs.Laws.{Bytes}
use Rattle.file_format.specs.Rules.{just, Right, RightPart, RecordsRight, first_count, sheet_record, second_count, grade_record, the_end}
use Rattle.refusals.specs.declared.fault.Cause.{Cause}
use Rattle.std.proofs.lemmas.List.{get_or-drop, drop-drop, length-drop, take-append-drop, take_all}
use Rattle.std.proofs.lemmas.Bool.{and_parts, leb-true, eqb-true, cases_Bool, cond-false, cond-true, ne_eqb, true≢false}

-- the first rule is kept, and so are the others
kept : (b : Bool) (x : Option Cause) (c : Cause) → cond b x (Some c) ≡ None → (b ≡ true) × (x ≡ None)
kept true x c h = (refl, h)
kept false x c h = absurd (let z : ◌≡◌ {A = ℕ} 0 1 = cc in omega arith)

-- what the rules say of one grade record
pub record Good (valid : ℕ → Bool) (p t : ℕ) (bs : List ℕ) (r : ℕ) : Type 0 where
  pub whole_in : start_of r + 6 ≤ length bs
  pub placed : inside p t (record_in bs r).pkg (record_in bs r).translator ≡ true
  pub coded : valid (record_in bs r).code ≡ true
  pub next : after (last_of bs (r - 1)) (record_in bs r) ≡ true

pub good_record :
    (number : ℕ) (valid : ℕ → Bool) (p t : ℕ) (bs : List ℕ) (r : ℕ)
    → RightPart (just number valid p t) bs (grade_record r) → Good valid p t bs r
good_record number valid p t bs r h =
    let a = kept (whole bs (start_of r) 6) _ _ h in
    let b = kept (inside p t (record_in bs r).pkg (record_in bs r).translator) _ _ a.1 in
    let c = kept (valid (record_in bs r).code) _ _ b.1 in
    let d = kept (after (last_of bs (r - 1)) (record_in bs r)) _ _ c.1 in
    record {
      whole_in = leb-true (start_of r + 6) (length bs) a.0;
      placed = b.0;
      coded = c.0;
      next = d.0;
    }

-- the record before, where there is one
next_before :
    (bs : List ℕ) (n : ℕ) (i j : ℕ) (code : ℕ) → 1 ≤ n
    → after (last_of bs n) (record { pkg = i; translator = j; code = code }) ≡ true
    → Before (record_in bs n).pkg (record_in bs n).translator i j
next_before bs n i j code l h =
    before_true (record_in bs n).pkg (record_in bs n).translator i j
    (subst (λ o. after o (record { pkg = i; translator = j; code = code }) ≡ true)
    (cond-false (eqb n 0) None (Some (record_in bs n)) (ne_eqb n 0 (λ z. omega (arith, z)))) h)

-- what holds of the first n records of a file
pub record Upto (valid : ℕ → Bool) (p t : ℕ) (bs : List ℕ) (n : ℕ) : Type 0 where
  pub bytes : grades_bytes (grades_upto bs n) p t ≡ take (6 * n) (drop 7 bs)
  pub stand : standing (grades_upto bs n) p t ≡ n
  -- a pair after the last record has no grade
  pub later :
      (i j : ℕ) → (1 ≤ n → Before (record_in bs n).pkg (record_in bs n).translator i j)
      → grades_upto bs n i j ≡ None
  pub outside : (i j : ℕ) → inside p t i j ≡ false → grades_upto bs n i j ≡ None
  pub codes : (i j code : ℕ) → grades_upto bs n i j ≡ Some code → (valid code ≡ true) × (code < 2 ^ 32)

upto_none : (valid : ℕ → Bool) (p t : ℕ) (bs : List ℕ) → Upto valid p t bs 0
unfolding grades_upto
upto_none valid p t bs =
    record {
      bytes = grades_none (λ i j. None) p t (λ i j. refl);
      stand = standing_empty (λ i j. None) p t (λ i j. refl);
      later = λ i j h. refl;
      outside = λ i j h. refl;
      codes = λ i j code h. absurd (let z : ◌≡◌ {A = ℕ} 0 1 = cc in omega arith);
    }

module _ (valid : ℕ → Bool) (p t : ℕ) (bs : List ℕ) (B : Bytes bs) (n : ℕ) (U : Upto valid p t bs n) (W : Good valid p t bs (suc n)) where
  abbrev F : ℕ → ℕ → Option ℕ
  F = grades_upto bs n

  abbrev o : ℕ
  o = start_of (suc n)

  abbrev a : ℕ
  a = (record_in bs (suc n)).pkg

  abbrev b : ℕ
  b = (record_in bs (suc n)).translator

  abbrev c : ℕ
  c = (record_in bs (suc n)).code

  placed_in : Lies p t a b
  placed_in = lies p t a b W.placed

  bytes_from : (k : ℕ) → get_or (drop o bs) k 0 < 256
  bytes_from k = let e = get_or-drop o bs k 0 in let l = B (o + k) in omega (arith, e, l)

  last_before : 1 ≤ n → Before (record_in bs n).pkg (record_in bs n).translator a b
  last_before l =
      let e : suc n - 1 ≡ n = omega arith in
      next_before bs n a b c l (subst (λ m. after (last_of bs m) (record_in bs (suc n)) ≡ true) e W.next)

  free : (i j : ℕ) → (Before i j a b → ⊥) → F i j ≡ None
  free i j h =
      U.later i j
      (λ l. ⊎_elim
      (λ e. subst (λ y. Before (record_in bs n).pkg (record_in bs n).translator i y) e.1
      (subst (λ x. Before (record_in bs n).pkg (record_in bs n).translator x b) e.0 (last_before l)))
      (λ q. before_chain (record_in bs n).pkg (record_in bs n).translator a b i j (last_before l) q)
      (not_before i j a b h))

  free_here : F a b ≡ None
  free_here = free a b (λ q. before_apart a b a b q (refl, refl))

  more_bytes : grades_bytes (changed F a b (Some c)) p t ≡ take (6 * suc n) (drop 7 bs)
  more_bytes =
      let w = placed_in in
      let x =
      grades_push a b c F (changed F a b (Some c)) p t w.row w.row_most w.column
      w.column_most (changed_other F a b (Some c)) (changed_same F a b (Some c)) free in
      let len : 6 ≤ length (drop o bs) = omega (arith, length-drop o bs, W.whole_in) in
      let y : take 6 (drop o bs) ≡ grade_bytes a b c = six_exact (drop o bs) len bytes_from in
      let d : drop (6 * n) (drop 7 bs) ≡ drop o bs =
      drop-drop (6 * n) 7 bs ∙ ap (λ m. drop m bs) (omega arith) in
      let z : take (6 * suc n) (drop 7 bs) ≡ take (6 * n) (drop 7 bs) ++ take 6 (drop (6 * n) (drop 7 bs)) =
      ap (λ m. take m (drop 7 bs)) (omega arith) ∙ take-add (6 * n) 6 (drop 7 bs) in
      x ∙ ap (λ ys. ys ++ grade_bytes a b c) U.bytes
      ∙ ap (λ ys. take (6 * n) (drop 7 bs) ++ ys) (sym y ∙ ap (take 6) (sym d)) ∙ sym z

  more_stand : standing (changed F a b (Some c)) p t ≡ suc n
  more_stand =
      let w = placed_in in
      let s =
      standing_changed F (changed F a b (Some c)) p t a b w.row w.row_most w.column
      w.column_most (changed_other F a b (Some c)) in
      let u : one (F a b) ≡ 0 = ap one free_here in
      let v : one (changed F a b (Some c) a b) ≡ 1 = ap one (changed_same F a b (Some c)) in
      omega (arith, s, u, v, U.stand)

  more_codes :
      (i j code : ℕ) → changed F a b (Some c) i j ≡ Some code → (valid code ≡ true) × (code < 2 ^ 32)
  more_codes i j code h = ⊎_elim here there (cases_Bool (eqb i a && eqb j b))
    where
      here : (eqb i a && eqb j b) ≡ true → (valid code ≡ true) × (code < 2 ^ 32)
      here e =
          let k : Some c ≡ Some code = sym (cond-true (eqb i a && eqb j b) (Some c) (F i j) e) ∙ h in
          let q : c ≡ code = cc in
          subst (λ x. (valid x ≡ true) × (x < 2 ^ 32)) q (
            W.coded,
            four_below (get_or (drop o bs) 2 0) (get_or (drop o bs) 3 0) (get_or (drop o bs) 4 0) (get_or (drop o bs) 5 0)
                (bytes_from 2) (bytes_from 3) (bytes_from 4) (bytes_from 5),
          )

      there : (eqb i a && eqb j b) ≡ false → (valid code ≡ true) × (code < 2 ^ 32)
      there e = U.codes i j code (sym (cond-false (eqb i a && eqb j b) (Some c) (F i j) e) ∙ h)

  upto_more : Upto valid p t bs (suc n)
  unfolding grades_upto
  upto_more =
      record {
        bytes = more_bytes;
        stand = more_stand;
        later =
            λ i j h.
            let q : Before a b i j = h (omega arith) in
            changed_other F a b (Some c) i j (before_apart a b i j q)
            ∙ U.later i j
            (λ l. before_chain (record_in bs n).pkg (record_in bs n).translator a b i j (last_before l) q);
        outside =
            λ i j h.
            changed_other F a b (Some c) i j
            (λ e. true≢false (sym W.placed ∙ ap (λ x. inside p t x b) (sym e.0) ∙ ap (inside p t i) (sym e.1) ∙ h))
            ∙ U.outside i j h;
        codes = more_codes;
      }

pub upto_all :
    (number : ℕ) (valid : ℕ → Bool) (p t : ℕ) (bs : List ℕ) → Bytes bs → (n : ℕ)
    → RecordsRight (just number valid p t) bs n → Upto valid p t bs n
upto_all number valid p t bs B zero h = upto_none valid p t bs
upto_all number valid p t bs B (suc n) h =
    upto_more valid p t bs B n (upto_all number valid p t bs B n (λ r l m. h r l (omega arith)))
    (good_record number valid p t bs (suc n) (h (suc n) (omega arith) (omega arith)))

-- what the rules say of the first seven bytes and of the length
pub record Framed (number p t : ℕ) (bs : List ℕ) : Type 0 where
  pub long : 7 ≤ length bs
  pub one_record : two_bytes bs ≡ 1
  pub kind_is : (sheet_in bs).kind ≡ number
  pub packages_are : (sheet_in bs).packages ≡ p
  pub translators_are : (sheet_in bs).translators ≡ t
  pub no_more : length bs ≤ start_of (count_in bs + 1)

pub framed :
    (number : ℕ) (valid : ℕ → Bool) (p t : ℕ) (bs : List ℕ) → Right (just number valid p t) bs
    → Framed number p t bs
framed number valid p t bs R =
    let a = kept (whole bs 0 2) _ _ (R first_count tt) in
    let b = kept (eqb (two_bytes bs) 1) _ _ a.1 in
    let c = kept (whole bs 2 3) _ _ (R sheet_record tt) in
    let d = kept (eqb (sheet_in bs).kind number) _ _ c.1 in
    let e = kept (eqb (sheet_in bs).packages p && eqb (sheet_in bs).translators t) _ _ d.1 in
    let f = and_parts (eqb (sheet_in bs).packages p) (eqb (sheet_in bs).translators t) e.0 in
    let g = kept (whole bs 5 2) _ _ (R second_count tt) in
    let h = kept (leb (length bs) (start_of (count_in bs + 1))) _ _ (R the_end tt) in
    record {
      long = leb-true 7 (length bs) g.0;
      one_record = eqb-true (two_bytes bs) 1 b.0;
      kind_is = eqb-true (sheet_in bs).kind number d.0;
      packages_are = eqb-true (sheet_in bs).packages p f.0;
      translators_are = eqb-true (sheet_in bs).translators t f.1;
      no_more = leb-true (length bs) (start_of (count_in bs + 1)) h.0;
    }

pub right_upto :
    (number : ℕ) (valid : ℕ → Bool) (p t : ℕ) (bs : List ℕ) → Bytes bs → Right (just number valid p t) bs
    → Upto valid p t bs (count_in bs)
right_upto number valid p t bs B R = upto_all number valid p t bs B (count_in bs) (λ r l m. R (grade_record r) (l, m))

pub right_file :
    (number : ℕ) (valid : ℕ → Bool) (p t : ℕ) (bs : List ℕ) → Bytes bs → Right (just number valid p t) bs
    → bs ≡ file_of number p t (grade_in bs)
right_file number valid p t bs B R =
    let w = framed number valid p t bs R in
    let u = right_upto number valid p t bs B R in
    let h : take 7 bs ≡ head_bytes number p t (count_in bs) =
    head_exact bs number p t w.long B w.one_record w.kind_is w.packages_are w.translators_are in
    let k : drop 7 bs ≡ grades_bytes (grade_in bs) p t =
    sym (take_all (6 * count_in bs) (drop 7 bs) (omega (arith, length-drop 7 bs, w.no_more))) ∙ sym u.bytes in
    sym (take-append-drop 7 bs) ∙ ap (λ ys. ys ++ drop 7 bs) (h ∙ ap (head_bytes number p t) (sym u.stand))
    ∙ ap (λ ys. head_bytes number p t (standing (grade_in bs) p t) ++ ys) k

pub right_graded :
    (number : ℕ) (valid : ℕ → Bool) (p t : ℕ) (bs : List ℕ) → Within p t → Bytes bs
    → Right (just number valid p t) bs → Graded valid p t (grade_in bs)
right_graded number valid p t bs W B R =
    let u = right_upto number valid p t bs B R in
    record { sizes = W; outside = u.outside; codes = u.codes }
