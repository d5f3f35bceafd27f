-- From an answered plan of a filled book to the plan of the table.
use Rattle.std.proofs.Common.{◌≡◌, ℕ, ◌≤◌, Bool, cond, ◌&&◌, leb, List, length, IsErrAnd, Some, None, Ok, Err, Option, Result, sym, refl, ap, ◌∙◌, subst, ⊎_elim}
use Rattle.books.specs.Meaning.{Meaning, count}
use Rattle.bottleneck.specs.Grades.{valid_grades}
use Rattle.matching.specs.Answers.{Answered, Room}
use Rattle.matching.specs.declared.into.Planned.{Planned}
use Rattle.refusals.specs.declared.refusal.Refusal.{Refusal}
use Rattle.refusals.specs.declared.refusal.Refusal.TheVariants as refusal
use Rattle.std.proofs.lemmas.Bool.{and_from, and_parts, cases_Bool, cond-false, cond-true, le-leb, leb-true, lt-leb}
use Rattle.timing.specs.Table.{Overfull, sheet_of}
use Rattle.timing.specs.Timed.{DrawnAs, reason_in_book}

module _ (valid : ℕ → Bool) (above : ℕ → ℕ → Bool) (limit p t : ℕ) (codes plan set : List ℕ) where
  abbrev why : Option Refusal
  why = reason_in_book limit p t codes plan set

  abbrev roomy : Bool
  roomy = leb p (length plan) && leb p (length set)

  fits : count (sheet_of p t codes) ≤ limit → why ≡ cond roomy None (Some refusal.Space)
  fits l =
      cond-true (leb (count (sheet_of p t codes)) limit) (cond roomy None (Some refusal.Space)) (Some refusal.Full)
      (le-leb (count (sheet_of p t codes)) limit l)

  room_enough : count (sheet_of p t codes) ≤ limit → Room p plan set → why ≡ None
  room_enough l r =
      fits l
      ∙ cond-true roomy None (Some refusal.Space)
      (and_from (leb p (length plan)) (leb p (length set)) (le-leb p (length plan) r.0) (le-leb p (length set) r.1))

  no_room : count (sheet_of p t codes) ≤ limit → (Room p plan set → ⊥) → why ≡ Some refusal.Space
  no_room l n =
      fits l
      ∙ ⊎_elim (λ e. absurd (n (let w = and_parts (leb p (length plan)) (leb p (length set)) e in (leb-true p (length plan) w.0, leb-true p (length set) w.1))))
      (λ e. cond-false roomy None (Some refusal.Space) e) (cases_Bool roomy)

  drawn :
      (plan' set' : List ℕ) (r : Result (Option Planned) Refusal) → count (sheet_of p t codes) ≤ limit
      → Answered above (valid_grades valid (sheet_of p t codes)) p t plan set plan' set' r
      → DrawnAs valid above why p t codes plan set plan' set' r
  drawn plan' set' (Ok (Some best)) l a = (room_enough l a.room, a)
  drawn plan' set' (Ok None) l a = (room_enough l a.room, a)
  drawn plan' set' (Err e) l a = (no_room l a.room ∙ ap Some (sym a.reason), a.same_plan, a.same_set)

  -- of a book that means the table
  pub drawn_in :
      (m : Meaning) (plan' set' : List ℕ) (r : Result (Option Planned) Refusal) → count m ≤ limit → m ≡ sheet_of p t codes
      → Answered above (valid_grades valid m) m.packages m.translators plan set plan' set' r
      → DrawnAs valid above why p t codes plan set plan' set' r
  drawn_in m plan' set' r l e a =
      drawn plan' set' r (subst (λ (n : Meaning). count n ≤ limit) e l)
      (subst (λ (n : Meaning). Answered above (valid_grades valid n) n.packages n.translators plan set plan' set' r) e a)

  pub refused_full :
      (r : Result (Option Planned) Refusal) (e : Refusal) → IsErrAnd r (λ y. y ≡ e) → Overfull limit p t codes e
      → DrawnAs valid above why p t codes plan set plan set r
  refused_full (Ok x) e h o = absurd h
  refused_full (Err y) e h o = (
    cond-false (leb (count (sheet_of p t codes)) limit) (cond roomy None (Some refusal.Space)) (Some refusal.Full)
        (lt-leb (count (sheet_of p t codes)) limit o.1)
        ∙ ap Some (sym (h ∙ o.0)),
    refl,
    refl,
  )
