-- From what the reader of one part answers to the fault of the file, or to a part that is right.
use Rattle.std.proofs.Common.{◌≡◌, ℕ, ◌+◌, ◌-◌, ◌<◌, Bool, ◌==◌, ◌≤◌, List, drop, Some, None, Ok, Err, Option, sym, refl, ap, ◌∙◌, subst, ⊎_elim, arith}
use Rattle.refusals.specs.declared.fault.Cause.{Cause}
use Rattle.refusals.specs.declared.fault.Fault.{Fault}
use Rattle.file_format.proofs.Once.{right_or_one_fault}
use Rattle.file_format.proofs.RoundTrip.{file_is_right}
use Rattle.file_format.specs.FileOf.{Graded, file_of}
use Rattle.file_format.specs.Layout.{count_in, start_of, last_of, record_in, six_bytes}
use Rattle.file_format.specs.Rules.{just, Expected, Part, Faulty, There, Right, RightPart, RecordsRight, rank, rules, first_broken, section_of, number_of, offset_of, answer, first_count, sheet_record, second_count, grade_record, the_end, grade_rules, end_rules}
use Rattle.file_format.specs.declared.records.GradeRecord.{GradeRecord}
use Rattle.std.proofs.lemmas.Bool.{cases_eq, cond-false, ne_eqb}

abbrev pub Before : Expected → List ℕ → Part → Type 0
Before e bs q = (o : Part) → There bs o → rank bs o < rank bs q → RightPart e bs o

pub fault_here :
    {A : Type 0} (e : Expected) (bs : List ℕ) (q : Part) → There bs q → Before e bs q
    → (x : A) (f : Fault)
    → Err f ≡ answer (first_broken (rules e bs q)) (section_of q) (number_of q) (offset_of bs q) x
    → Faulty e bs f
fault_here {A} e bs q t b x f h = go (first_broken (rules e bs q)) refl h
  where
    go :
        (v : Option Cause) → first_broken (rules e bs q) ≡ v
        → Err f ≡ answer v (section_of q) (number_of q) (offset_of bs q) x → Faulty e bs f
    go None k j = absurd (let z : ◌≡◌ {A = ℕ} 0 1 = cc in omega arith)
    go (Some c) k j =
        record { part = q; there = t; earlier = b; broken = c; first = k; told = cc }

pub right_here :
    {A : Type 0} (e : Expected) (bs : List ℕ) (q : Part) (x y : A)
    → Ok y ≡ answer (first_broken (rules e bs q)) (section_of q) (number_of q) (offset_of bs q) x
    → RightPart e bs q
right_here {A} e bs q x y h = go (first_broken (rules e bs q)) h
  where
    go : (v : Option Cause) → Ok y ≡ answer v (section_of q) (number_of q) (offset_of bs q) x → v ≡ None
    go None j = refl
    go (Some c) j = absurd (let z : ◌≡◌ {A = ℕ} 0 1 = cc in omega arith)

-- what stands before a grade record, and before the end
pub before_grade_record :
    (e : Expected) (bs : List ℕ) (r : ℕ) → RightPart e bs first_count → RightPart e bs sheet_record
    → RightPart e bs second_count → RecordsRight e bs (r - 1) → 1 ≤ r → r ≤ count_in bs
    → Before e bs (grade_record r)
before_grade_record e bs r a b c d l m first_count t k = a
before_grade_record e bs r a b c d l m sheet_record t k = b
before_grade_record e bs r a b c d l m second_count t k = c
before_grade_record e bs r a b c d l m (grade_record q) t k = d q t.0 (omega arith)
before_grade_record e bs r a b c d l m the_end t k = absurd (omega arith)

pub before_the_end :
    (e : Expected) (bs : List ℕ) → RightPart e bs first_count → RightPart e bs sheet_record
    → RightPart e bs second_count → RecordsRight e bs (count_in bs) → Before e bs the_end
before_the_end e bs a b c d first_count t l = a
before_the_end e bs a b c d sheet_record t l = b
before_the_end e bs a b c d second_count t l = c
before_the_end e bs a b c d (grade_record r) t l = d r t.0 t.1
before_the_end e bs a b c d the_end t l = absurd (omega arith)

-- The faults of these parts. The reader has come there with bytes cs, which are those of the file.
grade_part :
    (bs cs : List ℕ) (o at : ℕ) (before last : Option GradeRecord) → cs ≡ bs → at ≡ o → last ≡ before
    → (P : List ℕ → ℕ → Option GradeRecord → Type 0) → P cs at last → P bs o before
grade_part bs cs o at before last s u l P h =
    subst (P bs o) l (subst (λ x. P bs x last) u (subst (λ ys. P ys at last) s h))

pub in_grade_record :
    (e : Expected) (bs cs : List ℕ) (r at : ℕ) (last : Option GradeRecord) → cs ≡ bs → at ≡ start_of r
    → last ≡ last_of bs (r - 1) → RightPart e bs first_count → RightPart e bs sheet_record
    → RightPart e bs second_count → RecordsRight e bs (r - 1) → 1 ≤ r → r ≤ count_in bs → (f : Fault)
    → Err f ≡ answer (first_broken (grade_rules e cs at last)) 2 r at (six_bytes (drop at cs))
    → Faulty e bs f
in_grade_record e bs cs r at last s u l a b c d m n f h =
    fault_here e bs (grade_record r) (m, n) (before_grade_record e bs r a b c d m n) (record_in bs r) f
    (grade_part bs cs (start_of r) at (last_of bs (r - 1)) last s u l
    (λ ys o q. Err f ≡ answer (first_broken (grade_rules e ys o q)) 2 r o (six_bytes (drop o ys))) h)

pub right_grade_record :
    (e : Expected) (bs cs : List ℕ) (r at : ℕ) (last : Option GradeRecord) → cs ≡ bs → at ≡ start_of r
    → last ≡ last_of bs (r - 1) → 1 ≤ r → (y : GradeRecord)
    → Ok y ≡ answer (first_broken (grade_rules e cs at last)) 2 r at (six_bytes (drop at cs))
    → RightPart e bs (grade_record r) × (Some y ≡ last_of bs r)
right_grade_record e bs cs r at last s u l m y h =
    (right_here e bs (grade_record r) (record_in bs r) y k, (ap Some (read (first_broken (rules e bs (grade_record r))) k)) ∙ sym (cond-false (r == 0) None (Some (record_in bs r)) (ne_eqb r 0 (λ z. omega (arith, z)))))
  where
    k : Ok y ≡ answer (first_broken (rules e bs (grade_record r))) 2 r (start_of r) (record_in bs r)
    k =
        grade_part bs cs (start_of r) at (last_of bs (r - 1)) last s u l
        (λ ys o q. Ok y ≡ answer (first_broken (grade_rules e ys o q)) 2 r o (six_bytes (drop o ys))) h

    read : (v : Option Cause) → Ok y ≡ answer v 2 r (start_of r) (record_in bs r) → y ≡ record_in bs r
    read None j = cc
    read (Some c) j = absurd (let z : ◌≡◌ {A = ℕ} 0 1 = cc in omega arith)

pub records_more :
    (e : Expected) (bs : List ℕ) (r : ℕ) → RecordsRight e bs (r - 1) → RightPart e bs (grade_record r)
    → RecordsRight e bs r
records_more e bs r d h q l m =
    ⊎_elim (λ k. subst (λ k. RightPart e bs (grade_record k)) (sym k) h) (λ k. d q l (omega arith)) (cases_eq q r)

pub in_the_end :
    (e : Expected) (bs cs : List ℕ) → cs ≡ bs → RightPart e bs first_count → RightPart e bs sheet_record
    → RightPart e bs second_count → RecordsRight e bs (count_in bs) → (f : Fault)
    → Err f ≡ answer {A = Unit {0}} (first_broken (end_rules cs)) 0 0 (start_of (count_in cs + 1)) tt → Faulty e bs f
in_the_end e bs cs s a b c d f h =
    fault_here e bs the_end tt (before_the_end e bs a b c d) tt f
    (subst (λ ys. Err f ≡ answer {A = Unit {0}} (first_broken (end_rules ys)) 0 0 (start_of (count_in ys + 1)) tt) s h)

-- a file with a fault is no file of grades of the kind
pub not_a_file :
    (number : ℕ) (valid : ℕ → Bool) (p t : ℕ) (bs : List ℕ) (f : Fault) → Faulty (just number valid p t) bs f
    → (G : ℕ → ℕ → Option ℕ) → Graded valid p t G → bs ≡ file_of number p t G → ⊥
not_a_file number valid p t bs f w G A e =
    (right_or_one_fault (just number valid p t) bs).1
    (subst (Right (just number valid p t)) (sym e) (file_is_right number valid p t G A).0) f w
