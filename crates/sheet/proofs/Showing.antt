-- Show as a line of a page.
use Rattle.std.proofs.Common.{◌≡◌, ℕ, ◌≤◌, Bool, true, false, not, nat_lt, List, length, is_some, is_ok, Some, None, Ok, Err, Option, Result, if◌then◌else◌, nat_le, sym, refl, ap, subst, arith, lit≤}
use Rattle.matching.proofs.Buffers.{front_written, rest_written}
use Rattle.matching.specs.Written.{written}
use Rattle.pages.proofs.Clear.{all_clear}
use Rattle.pages.proofs.Clears.{show_clear}
use Rattle.pages.specs.Answers.{Right}
use Rattle.pages.specs.Lines.{Opening, Line, Call}
use Rattle.pages.specs.Reasons.{Reason, may}
use Rattle.pages.specs.Standing.{Standing, Drawn, next}
use Rattle.refusals.specs.declared.refusal.Refusal.{Refusal}
use Rattle.refusals.specs.declared.refusal.Refusal.TheVariants as refusal
use Rattle.sheet.proofs.Answered.{never, kept_off}
use Rattle.sheet.specs.Sheets.{Stood, RanLine, Fits}
use Rattle.sheet.specs.Steps.{show_published, show_answer, shown_in}
use Rattle.sheet.specs.Told.{asked, told_show}
use Rattle.std.proofs.lemmas.Bool.{ltb-true, ltb-false, le-leb}

module _ (x : Stood) (role : ℕ) (plan set : List ℕ) (fits : Fits x) where
  abbrev o : Opening
  o = x.opening

  abbrev s : Standing
  s = x.standing

  abbrev line : Line
  line = asked role Call.show plan set

  -- the answer, and what the buffer holds with it
  abbrev Shows : Result ℕ Refusal → Type 0
  Shows r = Right o s line (told_show r (if is_ok r then shown_in s.published plan else plan) set)

  by_plan :
      may 1 role ≡ true → (p : Option Drawn) → s.published ≡ p → (b : Bool) → nat_lt (length plan) o.packages ≡ b
      → Shows (show_published o.packages p plan)
  by_plan em None ep b eb =
      kept_off o s line refusal.NothingThere None (Reason.nothing_published refl (ap is_some ep))
      (show_clear o s role plan set 8 (λ _. em) (never (lit≤ tt)) (never (lit≤ tt))) refl
  by_plan em (Some d) ep true eb =
      rw eb
      (kept_off o s line refusal.Space None (Reason.plan_buffer_short refl (ltb-true (length plan) o.packages eb))
      (show_clear o s role plan set 9 (λ _. em) (λ _. ap is_some ep) (never (lit≤ tt))) refl)
  by_plan em (Some d) ep false eb =
      let l : o.packages ≤ length plan = ltb-false (length plan) o.packages eb in
      let n : length d.plan ≡ o.packages = fits d ep in
      let k : nat_le (length d.plan) (length plan) ≡ true = le-leb (length d.plan) (length plan) (omega (arith, l, n)) in
      let at : shown_in s.published plan ≡ written d.plan plan = ap (λ (z : Option Drawn). shown_in z plan) ep in
      rw (eb, k)
      (Right.shown
      (all_clear o s line (show_clear o s role plan set 12 (λ _. em) (λ _. ap is_some ep) (λ _. l)))
      refl d ep refl
      (record {
        plan = front_written d.plan plan (shown_in s.published plan) o.packages n l at;
        plan_rest = rest_written d.plan plan (shown_in s.published plan) o.packages n l at;
        set = refl;
        slip = refl;
      }))

  shows :
      (m : Bool) → may 1 role ≡ m
      → Shows (if not m then Err refusal.Role else show_published o.packages s.published plan)
  shows false em =
      kept_off o s line refusal.Role None (Reason.lacks_the_right em)
      (show_clear o s role plan set 2 (never (lit≤ tt)) (never (lit≤ tt)) (never (lit≤ tt))) refl
  shows true em = by_plan em s.published refl (nat_lt (length plan) o.packages) refl

  pub show_runs :
      (r : Result ℕ Refusal) (plan' : List ℕ) → r ≡ show_answer x role plan
      → plan' ≡ (if is_ok r then shown_in s.published plan else plan) → RanLine x x line (told_show r plan' set)
  show_runs r plan' e f =
      record {
        right =
            subst (λ (z : List ℕ). Right o s line (told_show r z set)) (sym f)
            (subst Shows (sym e) (shows (may 1 role) refl));
        opened = refl;
        left = same r;
      }
    where
      same : (z : Result ℕ Refusal) → s ≡ next o.packages s line (told_show z plan' set)
      same (Ok u) = refl
      same (Err w) = refl
