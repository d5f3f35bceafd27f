-- Load as a line of a page.
use Rattle.std.proofs.Common.{◌≡◌, ℕ, ◌<◌, ◌⊎◌, List, Some, None, Ok, Err, Option, Result, sym, refl, ap, ◌∙◌, inl, inr, lit≤, subst}
use Rattle.file_format.proofs.Once.{right_or_one_fault}
use Rattle.file_format.specs.FileOf.{grade_in}
use Rattle.file_format.specs.Layout.{count_in}
use Rattle.file_format.specs.Rules as rules
use Rattle.pages.proofs.Clear.{Clear, all_clear}
use Rattle.pages.proofs.Clears.{load_clear}
use Rattle.pages.specs.Answers.{Right}
use Rattle.pages.specs.Lines.{Opening, Line, Call, Outcome}
use Rattle.pages.specs.Reasons.{Reason, file_expected}
use Rattle.pages.specs.Standing.{Standing, first_of}
use Rattle.refusals.specs.Refusals.{number_of}
use Rattle.refusals.specs.declared.fault.Fault.{Fault}
use Rattle.refusals.specs.declared.refusal.Refusal.{Refusal}
use Rattle.refusals.specs.declared.refusal.Refusal.TheVariants as refusal
use Rattle.sheet.proofs.Answered.{never, kept_off, ran_to}
use Rattle.sheet.specs.Files.{LoadGate, LoadsNow}
use Rattle.sheet.specs.Sheets.{Stood, RanLine}
use Rattle.sheet.specs.Steps.{with_grades}
use Rattle.sheet.specs.Told.{asked, told, told_done}

module _ (x : Stood) (role : ℕ) (file plan set : List ℕ) where
  abbrev o : Opening
  o = x.opening

  abbrev s : Standing
  s = x.standing

  abbrev line : Line
  line = asked role (Call.load file) plan set

  declined :
      (r q : Refusal) → q ≡ r → Reason o s line r → Clear o s line (number_of r)
      → Right o s line (told (Outcome.refused q) None plan set)
  declined r q e why clear =
      subst (λ (z : Refusal). Right o s line (told (Outcome.refused z) None plan set)) (sym e)
      (kept_off o s line r None why clear refl)

  pub load_refused :
      (r : Refusal) → LoadGate x role (Err r) → RanLine x x line (told (Outcome.refused r) None plan set)
  load_refused r w = record { right = by_reason w; opened = refl; left = refl }
    where
      by_reason : LoadGate x role (Err r) → Right o s line (told (Outcome.refused r) None plan set)
      by_reason (inl (e, m)) =
          declined refusal.Role r e (Reason.lacks_the_right m)
          (load_clear o s role plan set 2 file (never (lit≤ tt)) (never (lit≤ tt)) (never (lit≤ tt)) (never (lit≤ tt)) (never (lit≤ tt)))
      by_reason (inr (inl (e, m, out))) =
          declined refusal.SlipOut r e (Reason.slip_is_out refl out)
          (load_clear o s role plan set 3 file (λ _. m) (never (lit≤ tt)) (never (lit≤ tt)) (never (lit≤ tt)) (never (lit≤ tt)))
      by_reason (inr (inr (e, m, idle, n))) =
          declined refusal.NotEmpty r e (Reason.sheet_has_a_grade file refl n)
          (load_clear o s role plan set 5 file (λ _. m) (λ _. idle) (never (lit≤ tt)) (never (lit≤ tt)) (never (lit≤ tt)))

  module _ (y : Stood) (gate : LoadGate x role (Ok tt)) where
    not_loaded :
        (r : Refusal)
        → ((f : Fault) × (r ≡ refusal.File f) × rules.Faulty (file_expected o) file f)
        ⊎ ((r ≡ refusal.Full) × rules.Right (file_expected o) file × (o.limit < count_in file))
        → Right o s line (told (Outcome.refused r) None plan set)
    not_loaded r (inl (f, e, w)) =
        declined (refusal.File f) r e (Reason.faulty_file file f refl w)
        (load_clear o s role plan set 10 file (λ _. gate.0) (λ _. gate.1) (λ _. gate.2) (never (lit≤ tt)) (never (lit≤ tt)))
    not_loaded r (inr (e, w, few)) =
        declined refusal.Full r e (Reason.more_records_than_the_limit file refl few)
        (load_clear o s role plan set 11 file (λ _. gate.0) (λ _. gate.1) (λ _. gate.2)
        (λ _ f z. (right_or_one_fault (file_expected o) file).1 w f z) (never (lit≤ tt)))

    itself : (v : Option ℕ) → v ≡ first_of v None
    itself None = refl
    itself (Some c) = refl

    pub load_runs :
        (r : Result (Unit {0}) Refusal) → LoadsNow x file r y → RanLine x y line (told_done r plan set)
    load_runs (Ok u) (w, few, bytes, e) =
        ran_to x y (with_grades x (grade_in file)) line (told_done (Ok u) plan set)
        (Right.done
        (all_clear o s line
        (load_clear o s role plan set 12 file (λ _. gate.0) (λ _. gate.1) (λ _. gate.2)
        (λ _ f z. (right_or_one_fault (file_expected o) file).1 w f z) (λ _. few)))
        refl bytes refl refl (record { plan = refl; set = refl }))
        e refl
        (λ k. record {
          grade = λ i j. (itself (grade_in file i j) ∙ ap (first_of (grade_in file i j)) (sym (gate.2 i j))) k;
          out = s.out;
          published = s.published;
        })
    load_runs (Err r) (w, e) = ran_to x y x line (told_done (Err r) plan set) (not_loaded r w) e refl refl
