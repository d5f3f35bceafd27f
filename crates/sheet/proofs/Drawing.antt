-- Draw as a line of a page.
use Rattle.std.proofs.Common.{◌≡◌, ℕ, ◌≤◌, Bool, true, false, List, length, is_some, Some, None, Ok, Err, Option, Result, if◌then◌else◌, sym, refl, ap, ◌∙◌, subst, ⊎_elim, lit≤}
use Rattle.matching.specs.Answers.{NoRoom, Answered}
use Rattle.matching.specs.Plans.{BestPlan}
use Rattle.matching.specs.Written.{numbers_of}
use Rattle.matching.specs.declared.into.Planned.{Planned}
use Rattle.pages.proofs.Clear.{all_clear}
use Rattle.pages.proofs.Clears.{draw_clear}
use Rattle.pages.specs.Answers.{Right, valid_only}
use Rattle.pages.specs.Lines.{Opening, Line, Call, Outcome}
use Rattle.pages.specs.Reasons.{Reason, NoReason, may}
use Rattle.pages.specs.Standing.{Standing, Drawn}
use Rattle.refusals.specs.declared.refusal.Refusal.{Refusal}
use Rattle.refusals.specs.declared.refusal.Refusal.TheVariants as refusal
use Rattle.sheet.proofs.Answered.{never, kept_off, ran_to}
use Rattle.sheet.specs.Admission.{admission, gate, after}
use Rattle.sheet.specs.Draws.{DrawsNow}
use Rattle.sheet.specs.Sheets.{Stood, RanLine, drawn_of}
use Rattle.sheet.specs.Steps.{with_plans}
use Rattle.sheet.specs.Told.{asked, told, told_draw}
use Rattle.sheet.specs.declared.role.Role.TheVariants as role
use Rattle.sheet.specs.declared.sheet.admission.Incoming.TheVariants as incoming
use Rattle.sheet.specs.declared.sheet.admission.Next.{Next}
use Rattle.sheet.specs.declared.sheet.admission.Next.TheVariants as next
use Rattle.sheet.specs.declared.sheet.drawing.Draw.{Draw}
use Rattle.std.proofs.lemmas.Bool.{cases_lt}
use Rattle.std.specs.Option.{option_map}

same_ok : (x y : Next) → ◌≡◌ {A = Result Next Refusal} (Ok x) (Ok y) → x ≡ y
same_ok x y e = cc

same_err : (x y : Refusal) → ◌≡◌ {A = Result Next Refusal} (Err x) (Err y) → x ≡ y
same_err x y e = cc

-- a draw that is let in
pub record LetIn (out : Option Drawn) (given : ℕ) (n : Next) : Type 0 where
  pub role : may 2 given ≡ true
  pub idle : out ≡ None
  pub next : n ≡ next.SlipOutIfDrawn

let_in :
    (out : Option Drawn) (tag given : ℕ) (n : Next) (m : Bool) → may 2 given ≡ m
    → Ok n ≡ (if m then admission out tag incoming.Draw else Err refusal.Role) → LetIn out given n
let_in out tag given n false e x = absurd cc
let_in None tag given n true e x = record { role = e; idle = refl; next = same_ok n next.SlipOutIfDrawn x }
let_in (Some d) tag given n true e x = absurd cc

module _ (x : Stood) (given : ℕ) (plan set : List ℕ) where
  abbrev o : Opening
  o = x.opening

  abbrev s : Standing
  s = x.standing

  abbrev line : Line
  line = asked given Call.draw plan set

  declined :
      (r : Refusal) (m : Bool) → may 2 given ≡ m → (out : Option Drawn) → s.out ≡ out
      → Err r ≡ (if m then admission out o.tag incoming.Draw else Err refusal.Role)
      → Right o s line (told (Outcome.refused r) None plan set)
  declined r false em out eo e =
      subst (λ (z : Refusal). Right o s line (told (Outcome.refused z) None plan set)) (sym (same_err r refusal.Role e))
      (kept_off o s line refusal.Role None (Reason.lacks_the_right em)
      (draw_clear o s given plan set 2 (never (lit≤ tt)) (never (lit≤ tt)) (never (lit≤ tt)) (never (lit≤ tt))) refl)
  declined r true em None eo e = absurd cc
  declined r true em (Some d) eo e =
      subst (λ (z : Refusal). Right o s line (told (Outcome.refused z) None plan set)) (sym (same_err r refusal.SlipOut e))
      (kept_off o s line refusal.SlipOut None (Reason.slip_is_out refl (ap is_some eo))
      (draw_clear o s given plan set 3 (λ _. em) (never (lit≤ tt)) (never (lit≤ tt)) (never (lit≤ tt))) refl)

  pub draw_refused :
      (r : Refusal) → Err r ≡ gate role.Editor given s.out o.tag incoming.Draw
      → RanLine x x line (told (Outcome.refused r) None plan set)
  draw_refused r e =
      record { right = declined r (may 2 given) refl s.out refl e; opened = refl; left = refl }

  module _ (n : Next) (plan' set' : List ℕ) (y : Stood) (gate : Ok n ≡ gate role.Editor given s.out o.tag incoming.Draw) where
    in_now : LetIn s.out given n
    in_now = let_in s.out o.tag given n (may 2 given) refl gate

    idle_now : is_some s.out ≡ false
    idle_now = ap is_some in_now.idle

    free : (o.packages ≤ length plan) × (o.packages ≤ length set) → NoReason o s line
    free w =
        all_clear o s line (draw_clear o s given plan set 12 (λ _. in_now.role) (λ _. idle_now) (λ _. w.0) (λ _. w.1))

    no_room : (r : Refusal) → NoRoom o.packages plan set plan' set' r → Right o s line (told (Outcome.refused r) None plan' set')
    no_room r w =
        subst (λ (z : List ℕ). Right o s line (told (Outcome.refused r) None z set')) (sym w.same_plan)
        (subst (λ (z : List ℕ). Right o s line (told (Outcome.refused r) None plan z)) (sym w.same_set)
        (subst (λ (z : Refusal). Right o s line (told (Outcome.refused z) None plan set)) (sym w.reason)
        (kept_off o s line refusal.Space None
        (⊎_elim (λ l. Reason.plan_buffer_short refl l)
        (λ l. ⊎_elim (λ k. Reason.set_buffer_short refl k) (λ k. absurd (w.room (l, k))) (cases_lt (length set) o.packages))
        (cases_lt (length plan) o.packages))
        (draw_clear o s given plan set 9 (λ _. in_now.role) (λ _. idle_now) (never (lit≤ tt)) (never (lit≤ tt))) refl)))

    pub draw_runs :
        (r : Result (Option Draw) Refusal) → DrawsNow x n plan set plan' set' r y → RanLine x y line (told_draw r plan' set')
    draw_runs (Ok (Some d)) (best, w, tag, e) =
        ran_to x y (after x next.SlipOutIfDrawn (Some (record { plan = best; lowest = d.lowest }))) line
        (told_draw (Ok (Some d)) plan' set')
        (Right.drawn (free w.room) refl d.lowest refl
        (record {
          best =
              subst (λ (z : List ℕ). BestPlan o.above (valid_only o s.grade) o.packages o.translators z d.lowest)
              (sym w.value) w.planned;
          plan_rest = w.rest;
          tight = w.tight;
          marks = w.marks;
          slip = ap Some tag;
        }))
        (e ∙ ap (λ (z : Next). after x z (Some (record { plan = best; lowest = d.lowest }))) in_now.next) refl
        (ap (λ (z : List ℕ). (with_plans x (Some (record { plan = z; lowest = d.lowest })) s.published).standing) (sym w.value))
    draw_runs (Ok None) (w, e) =
        ran_to x y x line (told_draw (Ok None) plan' set')
        (Right.short (free w.room) refl refl
        (record { none = w.none; short = w.short; marks = w.marks; plan = w.same; slip = refl }))
        (e ∙ ap (λ (z : Next). after x z None) in_now.next ∙ ap (λ (z : Option Drawn). with_plans x z s.published) (sym in_now.idle))
        refl refl
    draw_runs (Err r) (w, e) = ran_to x y x line (told_draw (Err r) plan' set') (no_room r w) e refl refl

-- what is handed out for a plan
abbrev pub hand_out : ℕ → Planned → Draw
hand_out tag p = record { lowest = p.lowest; slip = record { tag = tag; spent = false } }

pub draws_now :
    (x y : Stood) (n : Next) (plan set plan' set' : List ℕ) (drawn : Option Planned)
    → Answered x.opening.above (valid_only x.opening x.standing.grade) x.opening.packages x.opening.translators plan set plan' set' (Ok drawn)
    → y ≡ after x n (option_map drawn_of drawn) → DrawsNow x n plan set plan' set' (Ok (option_map (hand_out x.opening.tag) drawn)) y
draws_now x y n plan set plan' set' (Some p) w e = (numbers_of p.plan, w, refl, e)
draws_now x y n plan set plan' set' None w e = (w, e)
