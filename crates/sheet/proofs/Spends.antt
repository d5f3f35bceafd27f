-- Publish and withdraw as lines of a page.
use Rattle.std.proofs.Common.{◌≡◌, ℕ, ◌≤◌, Bool, true, false, not, List, is_some, Some, None, Ok, Err, Option, Result, if◌then◌else◌, ◌==◌, sym, refl, ap, ◌∙◌, subst, lit≤}
use Rattle.pages.proofs.Calls.{ordinal}
use Rattle.pages.proofs.Clear.{Clear, all_clear}
use Rattle.pages.proofs.Clears.{spend_clear}
use Rattle.pages.specs.Answers.{Right, Given, says_done}
use Rattle.pages.specs.Lines.{Opening, Line, Call, Outcome}
use Rattle.pages.specs.Reasons.{Reason, may, least_role, wants_idle, slip_of, pair_of, writes_plan}
use Rattle.pages.specs.Standing.{Standing, Drawn}
use Rattle.refusals.specs.Refusals.{number_of}
use Rattle.refusals.specs.declared.refusal.Refusal.{Refusal}
use Rattle.refusals.specs.declared.refusal.Refusal.TheVariants as refusal
use Rattle.sheet.proofs.Answered.{never, kept_off, ran_to}
use Rattle.sheet.specs.Roles.{number_of as role_number}
use Rattle.sheet.specs.Sheets.{Stood, RanLine}
use Rattle.sheet.specs.Steps.{spend_answer, with_plans}
use Rattle.sheet.specs.Told.{asked, told, told_spent}
use Rattle.sheet.specs.declared.role.Role.{Role}
use Rattle.sheet.specs.declared.role.Role.TheVariants as role
use Rattle.sheet.specs.declared.slip.Slip.{Slip}
use Rattle.std.proofs.lemmas.Bool.{eqb-true, eqb-false}

-- what publish and withdraw have in common
pub record Spending (c : Call) (tag : ℕ) : Type 0 where
  pub slip : slip_of c ≡ Some tag
  pub any_time : wants_idle c ≡ false
  pub lone : pair_of c ≡ None
  pub dry : writes_plan c ≡ false
  pub low : 4 ≤ ordinal c
  pub high : ordinal c ≤ 5
  pub done : says_done c ≡ true
  pub given : Given c

pub publishing : (tag : ℕ) → Spending (Call.publish tag) tag
publishing tag =
    record { slip = refl; any_time = refl; lone = refl; dry = refl; low = lit≤ tt; high = lit≤ tt; done = refl; given = tt }

pub withdrawing : (tag : ℕ) → Spending (Call.withdraw tag) tag
withdrawing tag =
    record { slip = refl; any_time = refl; lone = refl; dry = refl; low = lit≤ tt; high = lit≤ tt; done = refl; given = tt }

module _
    (x : Stood) (given : ℕ) (c : Call) (slip : Slip) (is : Spending c slip.tag) (plan set : List ℕ)
  where
    abbrev o : Opening
    o = x.opening

    abbrev s : Standing
    s = x.standing

    abbrev line : Line
    line = asked given c plan set

    -- what is handed out is the plan that was out
    abbrev IsAnswered : Result (Option Drawn) (Refusal × Slip) → Type 0
    IsAnswered (Ok drawn) = Right o s line (told Outcome.done None plan set) × (drawn ≡ s.out)
    IsAnswered (Err back) = Right o s line (told_spent (Err back) plan set)

    declined : (r : Refusal) → Reason o s line r → Clear o s line (number_of r) → IsAnswered (Err (r, slip))
    declined r why clear = kept_off o s line r (Some slip.tag) why clear (sym is.slip)

    spent :
        (m : Bool) → may (least_role c) given ≡ m → (out : Bool) → is_some s.out ≡ out
        → (e : Bool) → slip.tag == o.tag ≡ e
        → IsAnswered (if not m then Err (refusal.Role, slip) else (if not out then Err (refusal.WrongSlip, slip) else
        (if e then Ok s.out else Err (refusal.WrongSlip, slip))))
    spent false em out eo e ee =
        declined refusal.Role (Reason.lacks_the_right em)
        (spend_clear o s given plan set 2 c slip.tag is.slip is.any_time is.lone is.dry is.low is.high (never (lit≤ tt)) (never (lit≤ tt)))
    spent true em false eo e ee =
        declined refusal.WrongSlip (Reason.no_slip_is_out slip.tag is.slip eo)
        (spend_clear o s given plan set 4 c slip.tag is.slip is.any_time is.lone is.dry is.low is.high (λ _. em) (never (lit≤ tt)))
    spent true em true eo false ee =
        declined refusal.WrongSlip (Reason.slip_of_another_tag slip.tag is.slip (eqb-false slip.tag o.tag ee))
        (spend_clear o s given plan set 4 c slip.tag is.slip is.any_time is.lone is.dry is.low is.high (λ _. em) (never (lit≤ tt)))
    spent true em true eo true ee = (
      Right.done
          (all_clear o s line
          (spend_clear o s given plan set 12 c slip.tag is.slip is.any_time is.lone is.dry is.low is.high (λ _. em)
          (λ _. (eo, eqb-true slip.tag o.tag ee))))
          is.done is.given refl refl (record { plan = refl; set = refl }),
      refl,
    )

    pub answered :
        (least : Role) → role_number least ≡ least_role c → (r : Result (Option Drawn) (Refusal × Slip))
        → r ≡ spend_answer least x given slip → IsAnswered r
    answered least same r e =
        subst IsAnswered (sym e)
        (spent (may (role_number least) given) (ap (λ (n : ℕ). may n given) (sym same)) (is_some s.out) refl
        (slip.tag == o.tag) refl)

module _ (x y : Stood) (given : ℕ) (slip : Slip) (plan set : List ℕ) where
  pub not_spent :
      (c : Call) (is : Spending c slip.tag) (least : Role) → role_number least ≡ least_role c → (back : Refusal × Slip)
      → Err back ≡ spend_answer least x given slip → y ≡ x → RanLine x y (asked given c plan set) (told_spent (Err back) plan set)
  not_spent c is least same back e f =
      ran_to x y x (asked given c plan set) (told_spent (Err back) plan set)
      (answered x given c slip is plan set least same (Err back) e) f refl refl

  -- the drawn plan is recorded after the slip is spent
  pub published :
      (drawn : Option Drawn) → Ok drawn ≡ spend_answer role.Manager x given slip
      → y ≡ with_plans x None x.standing.published
      → RanLine x (with_plans y y.standing.out drawn) (asked given (Call.publish slip.tag) plan set) (told_spent (Ok tt) plan set)
  published drawn e f =
      let w = answered x given (Call.publish slip.tag) slip (publishing slip.tag) plan set role.Manager refl (Ok drawn) e in
      ran_to x (with_plans y y.standing.out drawn) (with_plans x None x.standing.out)
      (asked given (Call.publish slip.tag) plan set) (told_spent (Ok tt) plan set) w.0
      (ap (λ (z : Stood). with_plans z z.standing.out drawn) f ∙ ap (with_plans x None) w.1) refl refl

  pub withdrawn :
      (drawn : Option Drawn) → Ok drawn ≡ spend_answer role.Editor x given slip
      → y ≡ with_plans x None x.standing.published
      → RanLine x y (asked given (Call.withdraw slip.tag) plan set) (told_spent (Ok tt) plan set)
  withdrawn drawn e f =
      ran_to x y (with_plans x None x.standing.published) (asked given (Call.withdraw slip.tag) plan set) (told_spent (Ok tt) plan set)
      (answered x given (Call.withdraw slip.tag) slip (withdrawing slip.tag) plan set role.Editor refl (Ok drawn) e).0 f refl refl
