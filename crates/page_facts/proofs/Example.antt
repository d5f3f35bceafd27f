-- The worked file, by computing.
use Rattle.std.proofs.Common.{◌≡◌, ℕ, zero, suc, ◌^◌, ◌<◌, true, false, ◌&&◌, eqb, ◌⊎◌, List, [], ◌∷◌, ◌++◌, take, Some, None, Option, sym, refl, ap, ◌∙◌, subst, inl, inr, ⊎_elim, arith}
use Rattle.books.proofs.Standing.{changed_other, standing_empty}
use Rattle.books.specs.Limits.{inside}
use Rattle.books.specs.Meaning.{changed, in_row, standing}
use Rattle.file_format.proofs.Once.{right_or_one_fault}
use Rattle.file_format.proofs.RoundTrip.{file_is_right}
use Rattle.file_format.specs.FileOf.{Graded, file_of, grade_in, grades_bytes, head_bytes, row_bytes}
use Rattle.file_format.specs.Rules.{Faulty, Part, Right, RightPart, There, rank}
use Rattle.grades.specs.Points.{valid_points}
use Rattle.page_facts.specs.Example.{BytesInTheirPlaces, OneFault, Tells, WorkedFile, example_bytes, example_grades, example_sheet}
use Rattle.pages.proofs.Calls.{never_some, same_some}
use Rattle.refusals.specs.Faults.{fault_at}
use Rattle.refusals.specs.declared.fault.Cause.TheVariants as cause
use Rattle.refusals.specs.declared.fault.Fault.{Fault}
use Rattle.std.proofs.lemmas.Bool.{both_ways, cases_Bool, cond-false, cond-true}

the_file : file_of 1 2 2 example_grades ≡ example_bytes
unfolding standing in_row grades_bytes row_bytes
the_file = refl

-- a changed table has the new value or the old
either : (f : ℕ → ℕ → Option ℕ) (a b : ℕ) (v : Option ℕ) (i j : ℕ) → (changed f a b v i j ≡ v) ⊎ (changed f a b v i j ≡ f i j)
either f a b v i j =
    ⊎_elim
    (λ h. inl (cond-true (eqb i a && eqb j b) v (f i j) h))
    (λ h. inr (cond-false (eqb i a && eqb j b) v (f i j) h))
    (cases_Bool (eqb i a && eqb j b))

abbrev none : ℕ → ℕ → Option ℕ
none i j = None

abbrev first : ℕ → ℕ → Option ℕ
first = changed none 1 1 (Some 700)

abbrev second : ℕ → ℕ → Option ℕ
second = changed first 1 2 (Some 400)

a_point : (x code : ℕ) → Some x ≡ Some code → valid_points x ≡ true → x < 2 ^ 32 → (valid_points code ≡ true) × (code < 2 ^ 32)
a_point x code e v l =
    let q : x ≡ code = same_some x code e in
    (sym (ap valid_points q) ∙ v, subst (λ (n : ℕ). n < 2 ^ 32) q l)

graded : Graded valid_points 2 2 example_grades
graded = record { sizes = (omega arith, omega arith, omega arith, omega arith); outside = outside; codes = codes }
  where
    apart : (i j a b : ℕ) → inside 2 2 i j ≡ false → inside 2 2 a b ≡ true → (i ≡ a) × (j ≡ b) → ⊥
    apart i j a b h k q = both_ways (inside 2 2 a b) (sym (ap (λ (n : ℕ). inside 2 2 n j) q.0 ∙ ap (inside 2 2 a) q.1) ∙ h) k

    outside : (i j : ℕ) → inside 2 2 i j ≡ false → example_grades i j ≡ None
    outside i j h =
        changed_other second 2 1 (Some 650) i j (apart i j 2 1 h refl)
        ∙ changed_other first 1 2 (Some 400) i j (apart i j 1 2 h refl)
        ∙ changed_other none 1 1 (Some 700) i j (apart i j 1 1 h refl)

    codes : (i j code : ℕ) → example_grades i j ≡ Some code → (valid_points code ≡ true) × (code < 2 ^ 32)
    codes i j code e =
        ⊎_elim
        (λ q. a_point 650 code (sym q ∙ e) refl (omega arith))
        (λ q.
        ⊎_elim
        (λ r. a_point 400 code (sym (q ∙ r) ∙ e) refl (omega arith))
        (λ r.
        ⊎_elim
        (λ s. a_point 700 code (sym (q ∙ r ∙ s) ∙ e) refl (omega arith))
        (λ s. absurd (never_some code (sym (q ∙ r ∙ s) ∙ e)))
        (either none 1 1 (Some 700) i j))
        (either first 1 2 (Some 400) i j))
        (either second 2 1 (Some 650) i j)

-- one fault is every fault
pub only :
    (bs : List ℕ) (cause section number offset : ℕ) (f : Fault) → Faulty example_sheet bs f → Tells cause section number offset f
    → OneFault bs cause section number offset
only bs c s n o f w t = ((f, w), λ g v. subst (Tells c s n o) ((right_or_one_fault example_sheet bs).2 f g w v) t)

cut : OneFault (take 24 example_bytes) 1 2 3 19
cut = only (take 24 example_bytes) 1 2 3 19 (fault_at cause.NotWhole 2 3 19) faulty (record { cause_is = refl; section_is = refl; number_is = refl; offset_is = refl })
  where
    earlier : (q : Part) → There (take 24 example_bytes) q → rank (take 24 example_bytes) q < 5 → RightPart example_sheet (take 24 example_bytes) q
    earlier Part.first_count w l = refl
    earlier Part.sheet_record w l = refl
    earlier Part.second_count w l = refl
    earlier (Part.grade_record zero) w l = absurd (omega (arith, w.0))
    earlier (Part.grade_record (suc zero)) w l = refl
    earlier (Part.grade_record (suc (suc zero))) w l = refl
    earlier (Part.grade_record (suc (suc (suc r)))) w l = absurd (omega arith)
    earlier Part.the_end w l = absurd (omega arith)

    faulty : Faulty example_sheet (take 24 example_bytes) (fault_at cause.NotWhole 2 3 19)
    faulty =
        record {
          part = Part.grade_record 3;
          there = (omega arith, omega arith);
          earlier = earlier;
          broken = cause.NotWhole;
          first = refl;
          told = refl;
        }

longer : (byte : ℕ) → OneFault (example_bytes ++ byte ∷ []) 8 0 0 25
longer byte = only (example_bytes ++ byte ∷ []) 8 0 0 25 (fault_at cause.LeftOver 0 0 25) faulty (record { cause_is = refl; section_is = refl; number_is = refl; offset_is = refl })
  where
    earlier :
        (q : Part) → There (example_bytes ++ byte ∷ []) q → rank (example_bytes ++ byte ∷ []) q < 6
        → RightPart example_sheet (example_bytes ++ byte ∷ []) q
    earlier Part.first_count w l = refl
    earlier Part.sheet_record w l = refl
    earlier Part.second_count w l = refl
    earlier (Part.grade_record zero) w l = absurd (omega (arith, w.0))
    earlier (Part.grade_record (suc zero)) w l = refl
    earlier (Part.grade_record (suc (suc zero))) w l = refl
    earlier (Part.grade_record (suc (suc (suc zero)))) w l = refl
    earlier (Part.grade_record (suc (suc (suc (suc r))))) w l = absurd (omega (arith, w.1))
    earlier Part.the_end w l = absurd (omega arith)

    faulty : Faulty example_sheet (example_bytes ++ byte ∷ []) (fault_at cause.LeftOver 0 0 25)
    faulty =
        record { part = Part.the_end; there = tt; earlier = earlier; broken = cause.LeftOver; first = refl; told = refl }

nothing : OneFault [] 1 1 0 0
nothing = only [] 1 1 0 0 (fault_at cause.NotWhole 1 0 0) faulty (record { cause_is = refl; section_is = refl; number_is = refl; offset_is = refl })
  where
    faulty : Faulty example_sheet [] (fault_at cause.NotWhole 1 0 0)
    faulty =
        record { part = Part.first_count; there = tt; earlier = λ q w l. absurd (omega (arith, l)); broken = cause.NotWhole; first = refl; told = refl }

pub worked_file : WorkedFile
worked_file =
    let w = file_is_right 1 valid_points 2 2 example_grades graded in
    record {
      file = the_file;
      right = subst (Right example_sheet) the_file w.0;
      grades = λ i j. ap (λ (bs : List ℕ). grade_in bs i j) (sym the_file) ∙ w.1 i j;
      cut = cut;
      longer = longer;
      nothing = nothing;
    }

-- no grade, no record
no_row : (i t : ℕ) → row_bytes i (λ j. None) t ≡ []
unfolding row_bytes
no_row i zero = refl
no_row i (suc t) = ap (λ (bs : List ℕ). bs ++ []) (no_row i t)

no_record : (p t : ℕ) → grades_bytes (λ i j. None) p t ≡ []
unfolding grades_bytes
no_record zero t = refl
no_record (suc p) t = ap (λ (bs : List ℕ). bs ++ row_bytes (suc p) (λ j. None) t) (no_record p t) ∙ no_row (suc p) t

no_grade : (number p t : ℕ) → file_of number p t (λ i j. None) ≡ 1 ∷ 0 ∷ number ∷ p ∷ t ∷ 0 ∷ 0 ∷ []
no_grade number p t =
    ap (λ (n : ℕ). head_bytes number p t n ++ grades_bytes (λ i j. None) p t) (standing_empty (λ i j. None) p t (λ i j. refl))
    ∙ ap (λ (bs : List ℕ). head_bytes number p t 0 ++ bs) (no_record p t)

one_grade :
    file_of 9 6 8 (changed (λ i j. None) 5 7 (Some 0x04030211))
    ≡ 1 ∷ 0 ∷ 9 ∷ 6 ∷ 8 ∷ 1 ∷ 0 ∷ 5 ∷ 7 ∷ 0x11 ∷ 0x02 ∷ 0x03 ∷ 0x04 ∷ []
unfolding standing in_row grades_bytes row_bytes
one_grade = refl

pub bytes_in_their_places : BytesInTheirPlaces
bytes_in_their_places = record { none = no_grade; one = one_grade }
