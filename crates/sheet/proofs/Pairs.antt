-- Grade and strike as lines of a page.
use Rattle.std.proofs.Common.{◌≡◌, ℕ, Bool, true, false, not, ◌&&◌, List, is_some, is_ok, Some, None, Ok, Err, Result, if◌then◌else◌, ◌==◌, sym, refl, ap, subst, lit≤}
use Rattle.books.specs.Limits.{inside}
use Rattle.pages.proofs.Clear.{all_clear}
use Rattle.pages.proofs.Clears.{grade_clear, strike_clear}
use Rattle.pages.specs.Answers.{Right}
use Rattle.pages.specs.Lines.{Opening, Line, Call}
use Rattle.pages.specs.Reasons.{Reason, may}
use Rattle.pages.specs.Standing.{Standing, next}
use Rattle.refusals.specs.declared.refusal.Refusal.{Refusal}
use Rattle.refusals.specs.declared.refusal.Refusal.TheVariants as refusal
use Rattle.sheet.proofs.Answered.{never, kept_off, ran_to}
use Rattle.sheet.specs.Sheets.{Stood, RanLine}
use Rattle.sheet.specs.Steps.{graded, grade_answer, strike_answer, with_grade_at}
use Rattle.sheet.specs.Told.{asked, told_done}
use Rattle.std.proofs.lemmas.Bool.{and_parts, and_from, not-true, eqb-true, eq-eqb, both_ways}

module _ (x : Stood) (role a b : ℕ) (plan set : List ℕ) where
  abbrev o : Opening
  o = x.opening

  abbrev s : Standing
  s = x.standing

  module _ (code : ℕ) where
    abbrev graded_line : Line
    graded_line = asked role (Call.grade a b code) plan set

    abbrev fresh : Bool
    fresh = not (is_some (s.grade a b))

    full : fresh && graded x == o.limit ≡ true → (is_some (s.grade a b) ≡ false) × (graded x ≡ o.limit)
    full f =
        let w = and_parts fresh (graded x == o.limit) f in
        (not-true (is_some (s.grade a b)) w.0, eqb-true (graded x) o.limit w.1)

    room : fresh && graded x == o.limit ≡ false → is_some (s.grade a b) ≡ false → graded x ≡ o.limit → ⊥
    room f g c =
        both_ways (fresh && graded x == o.limit) f
        (and_from fresh (graded x == o.limit) (ap not g) (eq-eqb (graded x) o.limit c))

    right_grade :
        (m : Bool) → may 2 role ≡ m → (out : Bool) → is_some s.out ≡ out
        → (i : Bool) → inside o.packages o.translators a b ≡ i → (v : Bool) → o.valid code ≡ v
        → (f : Bool) → fresh && graded x == o.limit ≡ f
        → Right o s graded_line
        (told_done (if not m then Err refusal.Role else (if out then Err refusal.SlipOut else
        (if not i then Err refusal.Place else (if not v then Err refusal.Grade else
        (if f then Err refusal.Full else Ok tt))))) plan set)
    right_grade false em out eo i ei v ev f ef =
        kept_off o s graded_line refusal.Role _ (Reason.lacks_the_right em)
        (grade_clear o s role plan set 2 a b code (never (lit≤ tt)) (never (lit≤ tt)) (never (lit≤ tt)) (never (lit≤ tt)) (never (lit≤ tt)))
        refl
    right_grade true em true eo i ei v ev f ef =
        kept_off o s graded_line refusal.SlipOut _ (Reason.slip_is_out refl eo)
        (grade_clear o s role plan set 3 a b code (λ _. em) (never (lit≤ tt)) (never (lit≤ tt)) (never (lit≤ tt)) (never (lit≤ tt)))
        refl
    right_grade true em false eo false ei v ev f ef =
        kept_off o s graded_line refusal.Place _ (Reason.outside_the_sizes a b refl ei)
        (grade_clear o s role plan set 6 a b code (λ _. em) (λ _. eo) (never (lit≤ tt)) (never (lit≤ tt)) (never (lit≤ tt)))
        refl
    right_grade true em false eo true ei false ev f ef =
        kept_off o s graded_line refusal.Grade _ (Reason.code_not_valid a b code refl ev)
        (grade_clear o s role plan set 7 a b code (λ _. em) (λ _. eo) (λ _. ei) (never (lit≤ tt)) (never (lit≤ tt)))
        refl
    right_grade true em false eo true ei true ev true ef =
        kept_off o s graded_line refusal.Full _ (Reason.new_pair_at_the_limit a b code refl (full ef).0 (full ef).1)
        (grade_clear o s role plan set 11 a b code (λ _. em) (λ _. eo) (λ _. ei) (λ _. ev) (never (lit≤ tt)))
        refl
    right_grade true em false eo true ei true ev false ef =
        Right.done
        (all_clear o s graded_line (grade_clear o s role plan set 12 a b code (λ _. em) (λ _. eo) (λ _. ei) (λ _. ev) (λ _. room ef)))
        refl tt refl refl (record { plan = refl; set = refl })

    pub grade_runs :
        (r : Result (Unit {0}) Refusal) (y : Stood) → r ≡ grade_answer x role a b code
        → y ≡ (if is_ok r then with_grade_at x a b (Some code) else x) → RanLine x y graded_line (told_done r plan set)
    grade_runs r y e f =
        ran_to x y (if is_ok r then with_grade_at x a b (Some code) else x) graded_line (told_done r plan set)
        (subst (λ (z : Result (Unit {0}) Refusal). Right o s graded_line (told_done z plan set)) (sym e)
        (right_grade (may 2 role) refl (is_some s.out) refl (inside o.packages o.translators a b) refl (o.valid code) refl
        (fresh && graded x == o.limit) refl))
        f (opened r) (left r)
      where
        opened : (z : Result (Unit {0}) Refusal) → (if is_ok z then with_grade_at x a b (Some code) else x).opening ≡ o
        opened (Ok u) = refl
        opened (Err w) = refl

        left : (z : Result (Unit {0}) Refusal) → (if is_ok z then with_grade_at x a b (Some code) else x).standing
            ≡ next o.packages s graded_line (told_done z plan set)
        left (Ok u) = refl
        left (Err w) = refl

  abbrev struck_line : Line
  struck_line = asked role (Call.strike a b) plan set

  right_strike :
      (m : Bool) → may 3 role ≡ m → (out : Bool) → is_some s.out ≡ out
      → (i : Bool) → inside o.packages o.translators a b ≡ i → (g : Bool) → is_some (s.grade a b) ≡ g
      → Right o s struck_line
      (told_done (if not m then Err refusal.Role else (if out then Err refusal.SlipOut else
      (if not i then Err refusal.Place else (if g then Ok tt else Err refusal.NothingThere)))) plan set)
  right_strike false em out eo i ei g eg =
      kept_off o s struck_line refusal.Role _ (Reason.lacks_the_right em)
      (strike_clear o s role plan set 2 a b (never (lit≤ tt)) (never (lit≤ tt)) (never (lit≤ tt)) (never (lit≤ tt)))
      refl
  right_strike true em true eo i ei g eg =
      kept_off o s struck_line refusal.SlipOut _ (Reason.slip_is_out refl eo)
      (strike_clear o s role plan set 3 a b (λ _. em) (never (lit≤ tt)) (never (lit≤ tt)) (never (lit≤ tt)))
      refl
  right_strike true em false eo false ei g eg =
      kept_off o s struck_line refusal.Place _ (Reason.outside_the_sizes a b refl ei)
      (strike_clear o s role plan set 6 a b (λ _. em) (λ _. eo) (never (lit≤ tt)) (never (lit≤ tt)))
      refl
  right_strike true em false eo true ei false eg =
      kept_off o s struck_line refusal.NothingThere _ (Reason.no_grade_to_take a b refl eg)
      (strike_clear o s role plan set 8 a b (λ _. em) (λ _. eo) (λ _. ei) (never (lit≤ tt)))
      refl
  right_strike true em false eo true ei true eg =
      Right.done (all_clear o s struck_line (strike_clear o s role plan set 12 a b (λ _. em) (λ _. eo) (λ _. ei) (λ _. eg)))
      refl tt refl refl (record { plan = refl; set = refl })

  pub strike_runs :
      (r : Result (Unit {0}) Refusal) (y : Stood) → r ≡ strike_answer x role a b
      → y ≡ (if is_ok r then with_grade_at x a b None else x) → RanLine x y struck_line (told_done r plan set)
  strike_runs r y e f =
      ran_to x y (if is_ok r then with_grade_at x a b None else x) struck_line (told_done r plan set)
      (subst (λ (z : Result (Unit {0}) Refusal). Right o s struck_line (told_done z plan set)) (sym e)
      (right_strike (may 3 role) refl (is_some s.out) refl (inside o.packages o.translators a b) refl (is_some (s.grade a b)) refl))
      f (opened r) (left r)
    where
      opened : (z : Result (Unit {0}) Refusal) → (if is_ok z then with_grade_at x a b None else x).opening ≡ o
      opened (Ok u) = refl
      opened (Err w) = refl

      left : (z : Result (Unit {0}) Refusal) → (if is_ok z then with_grade_at x a b None else x).standing
          ≡ next o.packages s struck_line (told_done z plan set)
      left (Ok u) = refl
      left (Err w) = refl
