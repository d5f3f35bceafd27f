-- A plan drawn once more into the same buffers is answered as if it were drawn for the first time.
use Rattle.std.proofs.Common.{◌≡◌, ℕ, ◌≤◌, Bool, List, length, take, Some, None, Ok, Err, Option, Result, ap, ◌∙◌, subst, arith, length-take}
use Rattle.matching.specs.Answers.{Answered, Marks, Room}
use Rattle.matching.specs.declared.into.Planned.{Planned}
use Rattle.refusals.specs.declared.refusal.Refusal.{Refusal}

marks_again : (p : ℕ) (a b c : List ℕ) → Marks p a b → Marks p b c → Marks p a c
marks_again p a b c m n = record { exact = n.exact; rest = n.rest ∙ m.rest; long = n.long ∙ m.long }

take_room : (p : ℕ) (xs : List ℕ) → length (take p xs) ≡ p → p ≤ length xs
take_room p xs e = let l = length-take p xs in omega (arith, e, l)

module _ (above : ℕ → ℕ → Bool) (G : ℕ → ℕ → Option ℕ) (p t : ℕ) (plan set plan' set' plan'' set'' : List ℕ) where
  room_kept : Room p plan set → length plan' ≡ length plan → length set' ≡ length set → Room p plan' set'
  room_kept r e f = (omega (arith, r.0, e), omega (arith, r.1, f))

  pub answered_again :
      (r s : Result (Option Planned) Refusal) → Answered above G p t plan set plan' set' r
      → Answered above G p t plan' set' plan'' set'' s → Answered above G p t plan set plan'' set'' s
  answered_again (Ok (Some best)) (Ok (Some best')) a b =
      record {
        room = a.room;
        value = b.value;
        planned = b.planned;
        rest = b.rest ∙ a.rest;
        tight = b.tight;
        marks = marks_again p set set' set'' a.marks b.marks;
      }
  answered_again (Ok (Some best)) (Ok None) a b = absurd (b.none _ a.planned.full)
  answered_again (Ok (Some best)) (Err e) a b =
      absurd (b.room (
        take_room p plan' (ap length a.value ∙ a.planned.full.long),
        let l = a.marks.long in
            let h = a.room.1 in
            omega arith,
      ))
  answered_again (Ok None) (Ok (Some best)) a b = absurd (a.none _ b.planned.full)
  answered_again (Ok None) (Ok None) a b =
      record {
        room = a.room;
        none = b.none;
        same = b.same ∙ a.same;
        short = b.short;
        marks = marks_again p set set' set'' a.marks b.marks;
      }
  answered_again (Ok None) (Err e) a b =
      absurd (b.room (room_kept a.room (ap length a.same) a.marks.long))
  answered_again (Err e) (Ok (Some best)) a b =
      absurd (a.room (subst (λ (x : List ℕ). Room p x set) a.same_plan (subst (λ (x : List ℕ). Room p plan' x) a.same_set b.room)))
  answered_again (Err e) (Ok None) a b =
      absurd (a.room (subst (λ (x : List ℕ). Room p x set) a.same_plan (subst (λ (x : List ℕ). Room p plan' x) a.same_set b.room)))
  answered_again (Err e) (Err f) a b =
      record { reason = b.reason; room = a.room; same_plan = b.same_plan ∙ a.same_plan; same_set = b.same_set ∙ a.same_set }
