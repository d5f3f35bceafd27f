-- The lines that an office runs: a load, a draw and a withdraw. None of them is refused.
use Rattle.std.proofs.Common.{◌≡◌, ℕ, ◌≤◌, Bool, true, false, cond, leb, List, [], ◌∷◌, length, Some, None, Ok, Err, Option, Result, refl, subst, arith}
use Rattle.file_format.proofs.Once.{right_or_one_fault}
use Rattle.file_format.specs.FileOf.{grade_in}
use Rattle.file_format.specs.Layout.{count_in, whole}
use Rattle.file_format.specs.Rules as rules
use Rattle.pages.proofs.Calls.{same_some}
use Rattle.pages.proofs.Clear.{all_clear}
use Rattle.pages.proofs.Clears.{load_clear, draw_clear, spend_clear}
use Rattle.pages.proofs.Told.{refused_for_the_first_reason, drawn_lines_have_the_best_plan, short_lines_have_no_plan}
use Rattle.pages.specs.Answers.{Page}
use Rattle.pages.specs.Lines.{Opening, Event, Call, Answer}
use Rattle.pages.specs.Reasons.{file_expected}
use Rattle.pages.specs.Standing.{first_of, grade_at, standing}
use Rattle.pages.proofs.Runs.{ran_more}
use Rattle.plan_report.specs.Offices.{RanOn, Settled, opening_for}
use Rattle.refusals.specs.declared.fault.Cause.{Cause}
use Rattle.refusals.specs.declared.fault.Cause.TheVariants as cause
use Rattle.refusals.specs.declared.refusal.Refusal.{Refusal}
use Rattle.sheet.specs.Sheets.{RanLine, Stood, stood_of}
use Rattle.sheet.specs.Told.{asked, told_done, told_draw, told_spent}
use Rattle.sheet.specs.declared.sheet.drawing.Draw.{Draw}
use Rattle.sheet.specs.declared.sheet.Sheet.{Sheet}
use Rattle.sheet.specs.declared.slip.Slip.{Slip}
use Rattle.std.proofs.lemmas.Bool.{leb-true}
use Rattle.table_book.specs.Table.{table_meaning}
use Rattle.table_book.specs.declared.table_book.TableBook.{TableBook}

abbrev loading : List ℕ → Result (Unit {0}) Refusal → Event
loading file r = record { line = asked 3 (Call.load file) [] []; answer = told_done r [] [] }

abbrev drawing : List ℕ → List ℕ → Result (Option Draw) Refusal → List ℕ → List ℕ → Event
drawing plan set r plan' set' = record { line = asked 3 Call.draw plan set; answer = told_draw r plan' set' }

abbrev spending : ℕ → Result (Unit {0}) (Refusal × Slip) → Event
spending tag r = record { line = asked 3 (Call.withdraw tag) [] []; answer = told_spent r [] [] }

-- a line run by a number that is a manager's
pub as_manager :
    {x y : Stood} (role : ℕ) (call : Call) (plan set : List ℕ) (answer : Answer) → role ≡ 3
    → RanLine x y (asked role call plan set) answer → RanLine x y (asked 3 call plan set) answer
as_manager {x = x} {y = y} role call plan set answer is ran =
    subst (λ (n : ℕ). RanLine x y (asked n call plan set) answer) is ran

-- a right file has no more records than a sheet has pairs
second_kept :
    (a b : Bool) (x y : Cause) → cond a (cond b None (Some y)) (Some x) ≡ None → b ≡ true
second_kept true true x y e = refl
second_kept true false x y e = absurd (let z : ◌≡◌ {A = ℕ} 0 1 = clash e in omega arith)
  where
    clash : Some y ≡ None → ◌≡◌ {A = ℕ} 0 1
    clash e = cc
second_kept false b x y e = absurd (let z : ◌≡◌ {A = ℕ} 0 1 = clash e in omega arith)
  where
    clash : Some x ≡ None → ◌≡◌ {A = ℕ} 0 1
    clash e = cc

pub few_records : (e : rules.Expected) (file : List ℕ) → rules.Right e file → count_in file ≤ 3072
few_records e file right =
    leb-true (count_in file) 3072
    (second_kept (whole file 5 2) (leb (count_in file) 3072) cause.NotWhole cause.Count (right rules.second_count tt))

itself : (x : Option ℕ) → first_of x None ≡ x
itself None = refl
itself (Some c) = refl

module _ (o : Opening) (file : List ℕ) (limit : o.limit ≡ 3072) (right : rules.Right (file_expected o) file) where
  load_accepted : (r : Refusal) → Page o (loading file (Err r) ∷ []) → ⊥
  load_accepted r page =
      all_clear o (standing o.packages []) (asked 3 (Call.load file) [] [])
      (load_clear o (standing o.packages []) 3 [] [] 12 file (λ _. refl) (λ _. refl) (λ _ i j. refl)
      (λ _ f w. (right_or_one_fault (file_expected o) file).1 right f w)
      (λ _. omega (arith, limit, few_records (file_expected o) file right)))
      r ((refused_for_the_first_reason o [] (loading file (Err r)) r page).0 refl).0.holds

module _ (o : Opening) (file plan set plan' set' : List ℕ) where
  abbrev loaded : List Event
  loaded = loading file (Ok tt) ∷ []

  draw_accepted :
      (r : Refusal) → o.packages ≤ length plan → o.packages ≤ length set
      → Page o (drawing plan set (Err r) plan' set' ∷ loaded) → ⊥
  draw_accepted r a b page =
      all_clear o (standing o.packages loaded) (asked 3 Call.draw plan set)
      (draw_clear o (standing o.packages loaded) 3 plan set 12 (λ _. refl) (λ _. refl) (λ _. a) (λ _. b))
      r ((refused_for_the_first_reason o loaded (drawing plan set (Err r) plan' set') r page).0 refl).0.holds

  at_draw : (d e : Option Draw) → d ≡ e → Page o (drawing plan set (Ok d) plan' set' ∷ loaded) → Page o (drawing plan set (Ok e) plan' set' ∷ loaded)
  at_draw d e is page = subst (λ (x : Option Draw). Page o (drawing plan set (Ok x) plan' set' ∷ loaded)) is page

  spend_accepted :
      (d : Option Draw) (lowest : ℕ) (slip : Slip) (back : Refusal × Slip) → d ≡ Some (record { lowest = lowest; slip = slip })
      → Page o (spending slip.tag (Err back) ∷ drawing plan set (Ok d) plan' set' ∷ loaded) → ⊥
  spend_accepted d lowest slip back is given =
      let page : Page o (spending slip.tag (Err back) ∷ drawing plan set (Ok (Some (record { lowest = lowest; slip = slip }))) plan' set' ∷ loaded) =
      subst (λ (x : Option Draw). Page o (spending slip.tag (Err back) ∷ drawing plan set (Ok x) plan' set' ∷ loaded)) is given in
      let h = drawing plan set (Ok (Some (record { lowest = lowest; slip = slip }))) plan' set' ∷ loaded in
      let own = (drawn_lines_have_the_best_plan o loaded (drawing plan set (Ok (Some (record { lowest = lowest; slip = slip }))) plan' set') lowest page.1 refl).1.slip in
      all_clear o (standing o.packages h) (asked 3 (Call.withdraw slip.tag) [] [])
      (spend_clear o (standing o.packages h) 3 [] [] 12 (Call.withdraw slip.tag) slip.tag refl refl refl refl (omega arith)
      (omega arith) (λ _. refl) (λ _. (refl, same_some slip.tag o.tag own)))
      back.0 ((refused_for_the_first_reason o h (spending slip.tag (Err back)) back.0 page).0 refl).0.holds

  same_grades : grade_at loaded ≡ grade_in file
  same_grades = λ k i j. itself (grade_in file i j) k

  drawn_settled :
      (d : Option Draw) (lowest : ℕ) (slip : Slip) → d ≡ Some (record { lowest = lowest; slip = slip }) → Page o (drawing plan set (Ok d) plan' set' ∷ loaded)
      → Settled o.above (grade_in file) o.packages o.translators plan' set' (Some lowest)
  drawn_settled d lowest slip is page =
      let e = drawing plan set (Ok (Some (record { lowest = lowest; slip = slip }))) plan' set' in
      let w = (drawn_lines_have_the_best_plan o loaded e lowest (at_draw d (Some (record { lowest = lowest; slip = slip })) is page) refl).1 in
      subst (λ (G : ℕ → ℕ → Option ℕ). Settled o.above G o.packages o.translators plan' set' (Some lowest)) same_grades
      (w.best, w.tight)

  short_settled :
      (d : Option Draw) → d ≡ None → Page o (drawing plan set (Ok d) plan' set' ∷ loaded)
      → Settled o.above (grade_in file) o.packages o.translators plan' set' None
  short_settled d is page =
      let w = (short_lines_have_no_plan o loaded (drawing plan set (Ok None) plan' set') (at_draw d None is page) refl).1 in
      subst (λ (G : ℕ → ℕ → Option ℕ). Settled o.above G o.packages o.translators plan' set' None) same_grades
      (w.none, w.short)

-- The same by what the calls on the sheet of an office promise, one after the other.
module _
    {K : Type 0} (number : ℕ) (valid : ℕ → Bool) (above : ℕ → ℕ → Bool) (p t : ℕ) (s0 s1 : Sheet TableBook K) (file : List ℕ)
    (opened : RanOn number valid above p t [] s0)
  where
    abbrev o : Opening
    o = opening_for number valid above p t

    abbrev meant : Sheet TableBook K → Stood
    meant s = stood_of 3072 number valid above table_meaning s

    abbrev RanBetween : Sheet TableBook K → Sheet TableBook K → Event → Type 0
    RanBetween x y e = RanLine (meant x) (meant y) e.line e.answer

    grown : (h : List Event) (x y : Sheet TableBook K) (e : Event) → RanOn number valid above p t h x → RanBetween x y e → RanOn number valid above p t (e ∷ h) y
    grown h x y e a b =
        ran_more o (meant x).opening h (meant x).standing e.line e.answer (meant y).opening (meant y).standing a b

    pub load_ends : (r : Refusal) → rules.Right (rules.just number valid p t) file → RanBetween s0 s1 (loading file (Err r)) → ⊥
    load_ends r right a = load_accepted o file refl right r (grown [] s0 s1 (loading file (Err r)) opened a).page

    module _ (load : RanBetween s0 s1 (loading file (Ok tt))) (s2 : Sheet TableBook K) (plan set plan' set' : List ℕ) where
      loaded_on : RanOn number valid above p t (loading file (Ok tt) ∷ []) s1
      loaded_on = grown [] s0 s1 (loading file (Ok tt)) opened load

      drawn_on : (r : Result (Option Draw) Refusal) → RanBetween s1 s2 (drawing plan set r plan' set') → RanOn number valid above p t (drawing plan set r plan' set' ∷ loading file (Ok tt) ∷ []) s2
      drawn_on r a = grown (loading file (Ok tt) ∷ []) s1 s2 (drawing plan set r plan' set') loaded_on a

      pub draw_ends : (r : Refusal) → p ≤ length plan → p ≤ length set → RanBetween s1 s2 (drawing plan set (Err r) plan' set') → ⊥
      draw_ends r x y a = draw_accepted o file plan set plan' set' r x y (drawn_on (Err r) a).page

      module _ (d : Option Draw) (draws : RanBetween s1 s2 (drawing plan set (Ok d) plan' set')) where
        pub spend_ends :
            (lowest : ℕ) (slip : Slip) (back : Refusal × Slip) (s3 : Sheet TableBook K) → d ≡ Some (record { lowest = lowest; slip = slip })
            → RanBetween s2 s3 (spending slip.tag (Err back)) → ⊥
        spend_ends lowest slip back s3 is a =
            spend_accepted o file plan set plan' set' d lowest slip back is
            (grown (drawing plan set (Ok d) plan' set' ∷ loading file (Ok tt) ∷ []) s2 s3 (spending slip.tag (Err back)) (drawn_on (Ok d) draws) a).page

        pub plan_drawn :
            (lowest : ℕ) (slip : Slip) → d ≡ Some (record { lowest = lowest; slip = slip }) → Settled above (grade_in file) p t plan' set' (Some lowest)
        plan_drawn lowest slip is = drawn_settled o file plan set plan' set' d lowest slip is (drawn_on (Ok d) draws).page

        pub none_drawn : d ≡ None → Settled above (grade_in file) p t plan' set' None
        none_drawn is = short_settled o file plan set plan' set' d is (drawn_on (Ok d) draws).page
