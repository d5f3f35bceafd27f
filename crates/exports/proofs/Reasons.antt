-- Which reason holds in sizes that are within the limits, and what is written where none does.
use Rattle.std.proofs.Common.{◌≡◌, ℕ, ◌*◌, ◌≤◌, Bool, true, if◌then◌else◌, not, ◌&&◌, nat_le, List, length, take, Some, None, Ok, Option, sym, ap, ◌∙◌, subst}
use Rattle.books.specs.Limits.{Within, within}
use Rattle.exports.specs.Planning.{Places, reason}
use Rattle.matching.specs.Answers.{Answered, PlanWritten, Room, ShortWritten}
use Rattle.matching.specs.Written.{numbers_of}
use Rattle.matching.specs.declared.into.Planned.{Planned}
use Rattle.refusals.specs.declared.refusal.Refusal.{Refusal}
use Rattle.refusals.specs.declared.refusal.Refusal.TheVariants as refusal
use Rattle.std.proofs.lemmas.Bool.{and_from, le-leb}

-- the reason by the three tests
abbrev by_tests : Bool → Bool → Bool → Option Refusal
by_tests sizes right room =
    (if not sizes then Some refusal.Size
    else (if not right then Some refusal.Grade else (if room then None else Some refusal.Space)))

abbrev has_room : ℕ → ℕ → List ℕ → Places → Bool
has_room p t codes lent = nat_le (p * t) (length codes) && nat_le p (length lent.plan) && nat_le p (length lent.set)

is_within : (p t : ℕ) → Within p t → within p t ≡ true
is_within p t w =
    and_from _ _ (and_from _ _ (and_from _ _ (le-leb 1 p w.0) (le-leb p 48 w.1)) (le-leb 1 t w.2)) (le-leb t 64 w.3)

by_room :
    (right : Bool) (p t : ℕ) (codes : List ℕ) (lent : Places) → Within p t
    → reason right p t codes lent ≡ by_tests true right (has_room p t codes lent)
by_room right p t codes lent w = ap (λ (b : Bool). by_tests b right (has_room p t codes lent)) (is_within p t w)

pub no_reason :
    (right : Bool) (p t : ℕ) (codes : List ℕ) (lent : Places) → Within p t → right ≡ true → p * t ≤ length codes
    → Room p lent.plan lent.set → reason right p t codes lent ≡ None
no_reason right p t codes lent w e l room =
    by_room right p t codes lent w ∙ ap (λ (b : Bool). by_tests true b (has_room p t codes lent)) e
    ∙ ap (λ (b : Bool). by_tests true true b)
    (and_from _ _ (and_from _ _ (le-leb (p * t) (length codes) l) (le-leb p (length lent.plan) room.0)) (le-leb p (length lent.set) room.1))

-- what is written by grades that are the same, and with the numbers as they stand in the buffer
pub planned_as :
    (above : ℕ → ℕ → Bool) (G H : ℕ → ℕ → Option ℕ) (p t : ℕ) (plan set plan' set' : List ℕ) (r : Option Planned) (best : Planned)
    → r ≡ Some best → G ≡ H → Answered above G p t plan set plan' set' (Ok r)
    → PlanWritten above H p t plan set plan' set' (take p plan') best.lowest
planned_as above G H p t plan set plan' set' r best e same h =
    let told : PlanWritten above G p t plan set plan' set' (numbers_of best.plan) best.lowest =
    subst (λ (x : Option Planned). Answered above G p t plan set plan' set' (Ok x)) e h in
    subst (λ (x : List ℕ). PlanWritten above H p t plan set plan' set' x best.lowest) (sym told.value)
    (subst (λ (F : ℕ → ℕ → Option ℕ). PlanWritten above F p t plan set plan' set' (numbers_of best.plan) best.lowest) same told)

pub short_as :
    (above : ℕ → ℕ → Bool) (G H : ℕ → ℕ → Option ℕ) (p t : ℕ) (plan set plan' set' : List ℕ) (r : Option Planned)
    → r ≡ None → G ≡ H → Answered above G p t plan set plan' set' (Ok r) → ShortWritten H p t plan set plan' set'
short_as above G H p t plan set plan' set' r e same h =
    let told : ShortWritten G p t plan set plan' set' =
    subst (λ (x : Option Planned). Answered above G p t plan set plan' set' (Ok x)) e h in
    subst (λ (F : ℕ → ℕ → Option ℕ). ShortWritten F p t plan set plan' set') same told
