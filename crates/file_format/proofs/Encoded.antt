-- The file of grades of a kind is right, and its records give the grades back.
use Rattle.std.proofs.Common.{◌≡◌, ℕ, zero, suc, ◌+◌, ◌-◌, ◌≤◌, Bool, true, false, cond, ◌&&◌, eqb, leb, List, [], ◌++◌, length, Some, None, Option, sym, refl, ap, ◌∙◌, subst, inl, inr, ⊎_elim, arith}
use Rattle.books.proofs.Standing.{standing_le}
use Rattle.books.specs.Limits.{inside}
use Rattle.books.specs.Meaning.{one, in_row, standing}
use Rattle.file_format.proofs.Bytes.{two_again}
use Rattle.books.proofs.Inside.{Lies, lies}
use Rattle.file_format.proofs.Orders.{Before, inside_from}
use Rattle.file_format.specs.FileOf.{grade_bytes, of_grade, row_bytes, grades_bytes, grades_upto, grade_in, head_bytes, file_of, Graded}
use Rattle.file_format.specs.Layout.{after, last_of, record_in, start_of, whole, count_in}
use Rattle.file_format.specs.Rules.{just, Right, first_count, sheet_record, second_count, grade_record, the_end}
use Rattle.std.proofs.lemmas.List.{append_assoc, append-nil}
use Rattle.std.proofs.lemmas.Bool.{cases_Bool, cond-true, eq-eqb, le-leb, and_from}
use Rattle.refusals.specs.declared.fault.Cause.{Cause}
use Rattle.std.proofs.lemmas.Nat.{mul-le}
use Rattle.file_format.proofs.Listed.{Listed, skip, push, turn}

module _ (valid : ℕ → Bool) (p t : ℕ) (G : ℕ → ℕ → Option ℕ) (A : Graded valid p t G) where
  one_pair :
      (bs : List ℕ) (n x y : ℕ) → inside p t x y ≡ true → Listed valid p t G bs n x y
      → Listed valid p t G (bs ++ of_grade x y (G x y)) (n + one (G x y)) x (suc y)
  one_pair bs n x y w L = go (G x y) refl
    where
      go : (o : Option ℕ) → G x y ≡ o → Listed valid p t G (bs ++ of_grade x y o) (n + one o) x (suc y)
      go None e =
          subst (λ m. Listed valid p t G (bs ++ []) m x (suc y)) (omega arith)
          (subst (λ ys. Listed valid p t G ys n x (suc y)) (sym (append-nil bs)) (skip valid p t G bs n x y L e))
      go (Some c) e =
          let k = A.codes x y c e in
          subst (λ m. Listed valid p t G (bs ++ grade_bytes x y c) m x (suc y)) (omega arith)
          (push valid p t G bs n x y L c e w k.0 k.1)

  one_row :
      (bs : List ℕ) (n x : ℕ) → 1 ≤ x → x ≤ p → Listed valid p t G bs n x 1 → (u : ℕ) → u ≤ t
      → Listed valid p t G (bs ++ row_bytes x (G x) u) (n + in_row (G x) u) x (suc u)
  unfolding row_bytes in_row
  one_row bs n x l m L zero h =
      subst (λ k. Listed valid p t G (bs ++ []) k x 1) (omega arith)
      (subst (λ ys. Listed valid p t G ys n x 1) (sym (append-nil bs)) L)
  one_row bs n x l m L (suc u) h =
      let w : inside p t x (suc u) ≡ true =
      inside_from p t x (suc u)
      (record { row = l; row_most = m; column = omega arith; column_most = h }) in
      subst (λ k. Listed valid p t G (bs ++ (row_bytes x (G x) u ++ of_grade x (suc u) (G x (suc u)))) k x (suc (suc u)))
      (omega arith)
      (subst (λ ys. Listed valid p t G ys (n + in_row (G x) u + one (G x (suc u))) x (suc (suc u)))
      (append_assoc bs (row_bytes x (G x) u) (of_grade x (suc u) (G x (suc u))))
      (one_pair (bs ++ row_bytes x (G x) u) (n + in_row (G x) u) x (suc u) w (one_row bs n x l m L u (omega arith))))

  pub all_rows :
      (bs : List ℕ) → Listed valid p t G bs 0 1 1 → (q : ℕ) → q ≤ p
      → Listed valid p t G (bs ++ grades_bytes G q t) (standing G q t) (suc q) 1
  unfolding grades_bytes standing
  all_rows bs L zero h = subst (λ ys. Listed valid p t G ys 0 1 1) (sym (append-nil bs)) L
  all_rows bs L (suc q) h =
      subst (λ ys. Listed valid p t G ys (standing G q t + in_row (G (suc q)) t) (suc (suc q)) 1)
      (append_assoc bs (grades_bytes G q t) (row_bytes (suc q) (G (suc q)) t))
      (turn valid p t G ((bs ++ grades_bytes G q t) ++ row_bytes (suc q) (G (suc q)) t)
      (standing G q t + in_row (G (suc q)) t) (suc q)
      (one_row (bs ++ grades_bytes G q t) (standing G q t) (suc q) (omega arith) h
      (all_rows bs L q (omega arith)) t (omega arith)))

  -- seven bytes, and no record as yet
  start : (bs : List ℕ) → length bs ≡ 7 → Listed valid p t G bs 0 1 1
  unfolding grades_upto
  start bs h =
      record {
        long = h;
        good = λ r a b. absurd (omega arith);
        last = λ l. absurd (omega arith);
        listed = λ i j b w. absurd (none i j b (lies p t i j w));
        unlisted = λ i j b. refl;
        outside = λ i j b. refl;
      }
    where
      none : (i j : ℕ) → Before i j 1 1 → Lies p t i j → ⊥
      none i j (inl a) w = omega (arith, w.row)
      none i j (inr a) w = omega (arith, a.1, w.column)

  few : standing G p t ≤ 3072
  few =
      let w = A.sizes in
      omega (arith, standing_le G p t, mul-le p t 48 64 w.1 w.3)

  pub whole_file : (number : ℕ) → Listed valid p t G (file_of number p t G) (standing G p t) (suc p) 1
  whole_file number =
      all_rows (head_bytes number p t (standing G p t)) (start (head_bytes number p t (standing G p t)) refl) p (omega arith)

  pub file_count : (number : ℕ) → count_in (file_of number p t G) ≡ standing G p t
  file_count number = two_again (standing G p t) (omega (arith, few))

  pub file_grades : (number i j : ℕ) → grade_in (file_of number p t G) i j ≡ G i j
  file_grades number i j =
      ap (λ n. grades_upto (file_of number p t G) n i j) (file_count number)
      ∙ ⊎_elim within beyond (cases_Bool (inside p t i j))
    where
      within : inside p t i j ≡ true → grades_upto (file_of number p t G) (standing G p t) i j ≡ G i j
      within e = (whole_file number).listed i j (inl (omega (arith, (lies p t i j e).row_most))) e

      beyond : inside p t i j ≡ false → grades_upto (file_of number p t G) (standing G p t) i j ≡ G i j
      beyond e = (whole_file number).outside i j e ∙ sym (A.outside i j e)

  keeps : (b : Bool) (x : Option Cause) (c : Cause) → b ≡ true → x ≡ None → cond b x (Some c) ≡ None
  keeps b x c h k = cond-true b x (Some c) h ∙ k

  pub file_right : (number : ℕ) → Right (just number valid p t) (file_of number p t G)
  file_right number first_count u =
      keeps (leb 2 (length (file_of number p t G))) _ _ (le-leb 2 (length (file_of number p t G)) (omega (arith, (whole_file number).long)))
      refl
  file_right number sheet_record u =
      keeps (leb 5 (length (file_of number p t G))) _ _ (le-leb 5 (length (file_of number p t G)) (omega (arith, (whole_file number).long)))
      (keeps (eqb number number) _ _ (eq-eqb number number refl)
      (keeps (eqb p p && eqb t t) _ _ (and_from (eqb p p) (eqb t t) (eq-eqb p p refl) (eq-eqb t t refl)) refl))
  file_right number second_count u =
      keeps (leb 7 (length (file_of number p t G))) _ _ (le-leb 7 (length (file_of number p t G)) (omega (arith, (whole_file number).long)))
      (keeps (leb (count_in (file_of number p t G)) 3072) _ _
      (le-leb (count_in (file_of number p t G)) 3072 (omega (arith, few, file_count number))) refl)
  file_right number (grade_record r) u =
      let bs = file_of number p t G in
      let g = (whole_file number).good r u.0 (omega (arith, u.1, file_count number)) in
      keeps (whole bs (start_of r) 6) _ _ (le-leb (start_of r + 6) (length bs) g.whole_in)
      (keeps (inside p t (record_in bs r).pkg (record_in bs r).translator) _ _ g.placed
      (keeps (valid (record_in bs r).code) _ _ g.coded
      (keeps (after (last_of bs (r - 1)) (record_in bs r)) _ _ g.next refl)))
  file_right number the_end u =
      keeps (leb (length (file_of number p t G)) (start_of (count_in (file_of number p t G) + 1))) _ _
      (le-leb (length (file_of number p t G)) (start_of (count_in (file_of number p t G) + 1))
      (omega (arith, (whole_file number).long, file_count number))) refl
