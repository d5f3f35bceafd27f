-- What is told of a right file is its report.
use Rattle.std.proofs.Common.{◌≡◌, ℕ, ◌≤◌, true, false, ◌&&◌, eqb, List, [], ◌∷◌, ◌++◌, length, take, IfOk, Some, None, Ok, Err, string_bytes, Option, Result, String, sym, refl, ap, ◌∙◌, subst, append_assoc, eq-eqb}
use Rattle.books.specs.Limits.{within}
use Rattle.books.specs.Meaning.{Blank, Meaning, standing}
use Rattle.file_format.proofs.Encoded.{file_count}
use Rattle.file_format.proofs.RoundTrip.{right_is_the_file}
use Rattle.file_format.specs.FileOf.{grade_in}
use Rattle.file_format.specs.Laws.{Bytes}
use Rattle.file_format.specs.Layout.{count_in, sheet_in, whole}
use Rattle.file_format.specs.Rules as rules
use Rattle.file_format.specs.declared.records.SheetRecord.{SheetRecord}
use Rattle.file_loading.specs.Loaded.{RecordsAreTheGrades, with_records}
use Rattle.matching.specs.Answers.{member}
use Rattle.plan_report.proofs.Agreeing.{three_kept}
use Rattle.plan_report.proofs.Drawing.{few_records}
use Rattle.plan_report.proofs.Growing.{members_same}
use Rattle.plan_report.specs.Offices.{Settled, named_by}
use Rattle.plan_report.specs.Reports.{above_in, Holds, Report, Tells}
use Rattle.plan_report.specs.Texts.{fault_text, head_line, lowest_line, no_plan_line, set_line, short_words, table, tight_words}
use Rattle.refusals.specs.declared.fault.Cause.TheVariants as cause
use Rattle.refusals.specs.declared.fault.Fault.{Fault}
use Rattle.grades.specs.Names.{kind_number, known_kind}
use Rattle.saved_file.specs.ByItself.{by_itself, three_of, valid_in}
use Rattle.saved_file.specs.declared.head.Head.{Head}
use Rattle.grades.specs.declared.kind_name.KindName.{KindName}
use Rattle.grades.specs.declared.kind_name.KindName.TheVariants.{Points, Ratings}
use Rattle.std.proofs.lemmas.List.{get_or-take, length-take-le}
use Rattle.std.specs.declared.alloc.AllocError.{AllocError}
use Rattle.std.specs.declared.alloc.Global.{Global}

-- the members that are told are those of the whole buffer
named_same : (words set : List ℕ) (p : ℕ) → p ≤ length set → set_line words (member (take p set)) (length (take p set)) ≡ set_line words (member set) p
named_same words set p h =
    ap (λ (n : ℕ). set_line words (member (take p set)) n) (length-take-le p set h)
    ∙ ap (λ (x : List ℕ). (words ++ x) ++ (10 ∷ []))
    (members_same (member (take p set)) (member set) p (λ k l. ap (λ (x : ℕ). eqb x 1) (get_or-take p set k 0 l)))

grouped : (a b c d : List ℕ) → a ++ (b ++ (c ++ d)) ≡ (a ++ (b ++ c)) ++ d
grouped a b c d = simp append_assoc

module _
    (kind p t : ℕ) (G : ℕ → ℕ → Option ℕ) (plan set start text : List ℕ) (n : ℕ) (sized : n ≡ p) (room : p ≤ length set)
    (begun : start ≡ head_line kind p t (standing G p t))
  where
    pub plan_told :
        (H : ℕ → ℕ → Option ℕ) (lowest : ℕ) → H ≡ G → Settled (above_in kind) G p t plan set (Some lowest)
        → text ≡ start ++ (table kind lowest H (take n plan) (length (take n plan)) ++ (lowest_line kind lowest ++ set_line tight_words (member (take n set)) (length (take n set))))
        → Tells kind p t G text
    plan_told H lowest same w is =
        Tells.planned (take p plan) lowest (member set) w.0 w.1
        (is ∙ (λ i. begun i ++ (rows i ++ (lowest_line kind lowest ++ named i)))
        ∙ grouped (head_line kind p t (standing G p t)) (table kind lowest G (take p plan) p) (lowest_line kind lowest) (set_line tight_words (member set) p))
      where
        rows : table kind lowest H (take n plan) (length (take n plan)) ≡ table kind lowest G (take p plan) p
        rows =
            (λ i. table kind lowest (same i) (take (sized i) plan) (length (take (sized i) plan)))
            ∙ ap (table kind lowest G (take p plan)) w.0.full.long

        named : set_line tight_words (member (take n set)) (length (take n set)) ≡ set_line tight_words (member set) p
        named =
            (λ i. set_line tight_words (member (take (sized i) set)) (length (take (sized i) set))) ∙ named_same tight_words set p room

    pub short_told :
        Settled (above_in kind) G p t plan set None
        → text ≡ start ++ (no_plan_line ++ set_line short_words (member (take n set)) (length (take n set)))
        → Tells kind p t G text
    short_told w is =
        Tells.short (member set) w.0 w.1
        (is ∙ (λ i. begun i ++ (no_plan_line ++ named i))
        ∙ sym (append_assoc (head_line kind p t (standing G p t)) no_plan_line (set_line short_words (member set) p)))
      where
        named : set_line short_words (member (take n set)) (length (take n set)) ≡ set_line short_words (member set) p
        named =
            (λ i. set_line short_words (member (take (sized i) set)) (length (take (sized i) set))) ∙ named_same short_words set p room

-- a file that is right by itself is right by the head that it names
abbrev expected_at : SheetRecord → rules.Expected
expected_at x =
    record {
      kind = known_kind;
      sizes = λ a b. true;
      packages = x.packages;
      translators = x.translators;
      valid = valid_in x.kind;
    }

both : (a b c d : ℕ) → a ≡ b → c ≡ d → (eqb a b && eqb c d) ≡ true
both a b c d x y = λ i. eq-eqb a b x i && eq-eqb c d y i

pub own_right : (h : Head) (bs : List ℕ) → three_of h ≡ sheet_in bs → rules.Right (by_itself bs) bs → rules.Right (named_by h) bs
own_right h bs e right rules.first_count u = right rules.first_count u
own_right h bs e right rules.sheet_record u =
    three_kept (whole bs 2 3) (known_kind (sheet_in bs).kind) (within (sheet_in bs).packages (sheet_in bs).translators) (eqb (sheet_in bs).kind (kind_number h.kind))
    (eqb (sheet_in bs).packages h.sizes.packages && eqb (sheet_in bs).translators h.sizes.translators) cause.NotWhole cause.Kind
    cause.Sizes (right rules.sheet_record u)
    (eq-eqb (sheet_in bs).kind (kind_number h.kind) (ap (λ (x : SheetRecord). x.kind) (sym e)))
    (both (sheet_in bs).packages h.sizes.packages (sheet_in bs).translators h.sizes.translators
    (ap (λ (x : SheetRecord). x.packages) (sym e)) (ap (λ (x : SheetRecord). x.translators) (sym e)))
own_right h bs e right rules.second_count u = right rules.second_count u
own_right h bs e right (rules.grade_record r) u =
    subst (λ (x : SheetRecord). rules.RightPart (expected_at x) bs (rules.grade_record r)) (sym e) (right (rules.grade_record r) u)
own_right h bs e right rules.the_end u = right rules.the_end u

known : (k : KindName) → known_kind (kind_number k) ≡ true
known Points = refl
known Ratings = refl

no_zero : (k : KindName) → valid_in (kind_number k) 0 ≡ false
no_zero Points = refl
no_zero Ratings = refl

module _ (h : Head) (bs : List ℕ) (bytes : Bytes bs) (right : rules.Right (named_by h) bs) where
  pub held : Holds bs (kind_number h.kind) h.sizes.packages h.sizes.translators (grade_in bs)
  held =
      let w = right_is_the_file (kind_number h.kind) (valid_in (kind_number h.kind)) h.sizes.packages h.sizes.translators bs h.sizes.within bytes right in
      record { known = known h.kind; graded = w.0; same = w.1 }

  pub counted : count_in bs ≡ standing (grade_in bs) h.sizes.packages h.sizes.translators
  counted =
      ap count_in held.same
      ∙ file_count (valid_in (kind_number h.kind)) h.sizes.packages h.sizes.translators (grade_in bs) held.graded (kind_number h.kind)

  pub grades_read :
      (m after : Meaning) (count : ℕ) → Blank h.sizes.packages h.sizes.translators m → count ≡ count_in bs
      → after ≡ with_records 3072 m bs count → RecordsAreTheGrades → after.grade ≡ grade_in bs
  grades_read m after count blank c is grades =
      ap (λ (x : Meaning). x.grade)
      (is ∙ ap (with_records 3072 m bs) c
      ∙ grades (kind_number h.kind) (valid_in (kind_number h.kind)) 3072 m bs bytes
      (subst (λ (x : ℕ). rules.Right (rules.just (kind_number h.kind) (valid_in (kind_number h.kind)) m.packages x) bs) (sym blank.translators)
      (subst (λ (x : ℕ). rules.Right (rules.just (kind_number h.kind) (valid_in (kind_number h.kind)) x h.sizes.translators) bs) (sym blank.packages) right))
      (no_zero h.kind) blank.empty (few_records (named_by h) bs right))

pub fault_told :
    (file : List ℕ) (f : Fault) → rules.Faulty (by_itself file) file f → (r : Result (String Global) AllocError)
    → IfOk r (λ (s : String Global). string_bytes s ≡ fault_text f) → IfOk r (λ (s : String Global). Report file (string_bytes s))
fault_told file f w (Ok s) m = Report.faulty f w m
fault_told file f w (Err e) m = tt
