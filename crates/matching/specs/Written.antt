-- What a plan tells, and what it leaves in a buffer that it is written into.
use Rattle.std.specs.Prelude.{ℕ, ◌-◌, ◌&&◌, if◌then◌else◌, List, ◌++◌, length, take, drop, Some, None, Ok, Err, Option, Result, nat_le, slice_index}
use Rattle.matching.specs.declared.plan.Plan.{Plan}
use Rattle.refusals.specs.declared.refusal.Refusal.{Refusal}
use Rattle.refusals.specs.declared.refusal.Refusal.TheVariants.{Space}

-- its translators in the order of the packages
abbrev pub numbers_of : Plan → List ℕ
numbers_of plan = take plan.packages plan.numbers

abbrev pub number_at : List ℕ → ℕ → Option ℕ
number_at plan pkg = if nat_le 1 pkg && nat_le pkg (length plan) then Some (slice_index plan (pkg - 1)) else None

-- a buffer too short is refused and stays as it was; in a longer one the later places do
abbrev pub room_for : List ℕ → List ℕ → Result (Unit {0}) Refusal
room_for plan buffer = if nat_le (length plan) (length buffer) then Ok tt else Err Space

abbrev pub written : List ℕ → List ℕ → List ℕ
written plan buffer = if nat_le (length plan) (length buffer) then plan ++ drop (length plan) buffer else buffer
