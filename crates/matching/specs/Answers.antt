-- What matching answers: a best plan with a tight set exactly where there is a full plan, and else
-- a short set.
use Rattle.std.specs.Prelude.{◌≡◌, ℕ, ◌<◌, ◌≤◌, Bool, ◌⊎◌, List, length, take, drop, Some, None, Ok, Err, Option, Result, ◌==◌, slice_index}
use Rattle.augmenting.specs.Owners.{seen}
use Rattle.matching.specs.Plans.{BestPlan, NoPlan, ShortSet, TightSet}
use Rattle.matching.specs.Written.{numbers_of}
use Rattle.augmenting.specs.declared.members.Members.{Members}
use Rattle.matching.specs.declared.best.BestPlan.{BestPlan as BestAndSet}
use Rattle.matching.specs.declared.into.Planned.{Planned}
use Rattle.refusals.specs.declared.refusal.Refusal.{Refusal}
use Rattle.refusals.specs.declared.refusal.Refusal.TheVariants.{Space}

abbrev pub Right : (ℕ → ℕ → Bool) → (ℕ → ℕ → Option ℕ) → ℕ → ℕ → Result BestAndSet Members → Type 0
Right above G p t (Ok best) =
    BestPlan above G p t (numbers_of best.plan) best.lowest × TightSet above G p t best.lowest (seen best.tight.places)
Right above G p t (Err short) = NoPlan G p t × ShortSet G p t (seen short.places)

-- a set of packages in a buffer of bytes: 1 for a member, 0 for any other
abbrev pub member : List ℕ → ℕ → Bool
member set k = (slice_index set k) == 1

-- the first p bytes are 0 or 1, and the others are as they were
pub record Marks (p : ℕ) (before after : List ℕ) : Type 0 where
  pub exact : (k : ℕ) → k < p → (slice_index after k ≡ 0) ⊎ (slice_index after k ≡ 1)
  pub rest : drop p after ≡ drop p before
  pub long : length after ≡ length before

abbrev pub Room : ℕ → List ℕ → List ℕ → Type 0
Room p plan set = (p ≤ length plan) × (p ≤ length set)

-- In buffers for a plan and a set: both too short or one of them is refused, and both stay as they
-- were. Places beyond the packages never change, nor does the plan buffer where there is no plan.
pub record PlanWritten (above : ℕ → ℕ → Bool) (G : ℕ → ℕ → Option ℕ) (p t : ℕ) (plan set plan' set' best : List ℕ) (lowest : ℕ) : Type 0 where
  pub room : Room p plan set
  pub value : take p plan' ≡ best
  pub planned : BestPlan above G p t best lowest
  pub rest : drop p plan' ≡ drop p plan
  pub tight : TightSet above G p t lowest (member set')
  pub marks : Marks p set set'

pub record ShortWritten (G : ℕ → ℕ → Option ℕ) (p t : ℕ) (plan set plan' set' : List ℕ) : Type 0 where
  pub room : Room p plan set
  pub none : NoPlan G p t
  pub same : plan' ≡ plan
  pub short : ShortSet G p t (member set')
  pub marks : Marks p set set'

pub record NoRoom (p : ℕ) (plan set plan' set' : List ℕ) (refusal : Refusal) : Type 0 where
  pub reason : refusal ≡ Space
  pub room : Room p plan set → ⊥
  pub same_plan : plan' ≡ plan
  pub same_set : set' ≡ set

abbrev pub Answered :
    (ℕ → ℕ → Bool) → (ℕ → ℕ → Option ℕ) → ℕ → ℕ → List ℕ → List ℕ → List ℕ → List ℕ → Result (Option Planned) Refusal → Type 0
Answered above G p t plan set plan' set' (Ok (Some best)) = PlanWritten above G p t plan set plan' set' (numbers_of best.plan) best.lowest
Answered above G p t plan set plan' set' (Ok None) = ShortWritten G p t plan set plan' set'
Answered above G p t plan set plan' set' (Err refusal) = NoRoom p plan set plan' set' refusal
