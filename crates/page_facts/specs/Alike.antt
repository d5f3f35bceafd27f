-- What it means that two answers are alike.
use Rattle.std.specs.Prelude.{◌≡◌, ℕ, ◌<◌, ◌≤◌, ◌⊎◌, List, length, slice_index, slice_index_or}
use Rattle.pages.specs.Lines.{Answer, Event, Outcome}
use Rattle.pages.specs.Promises.{Alike, AllAlike}

-- a draw that was accepted
abbrev pub AcceptedDraw : Outcome → Type 0
AcceptedDraw u = ((code : ℕ) × (u ≡ Outcome.drawn code)) ⊎ (u ≡ Outcome.short)

-- One outcome, number, fault and codes with it, one slip, equal plan buffers, and set buffers of one
-- length that agree at every place from p on, and at all places unless a draw was accepted.
pub record Agree (p : ℕ) (a b : Answer) : Type 0 where
  pub outcome : a.outcome ≡ b.outcome
  pub slip : a.slip ≡ b.slip
  pub plan : a.plan ≡ b.plan
  pub long : length a.set ≡ length b.set
  pub rest : (k : ℕ) → p ≤ k → slice_index a.set k ≡ slice_index b.set k
  pub whole : (AcceptedDraw a.outcome → ⊥) → a.set ≡ b.set

abbrev pub AlikeAnswersAgree : Type 0
AlikeAnswersAgree = (p : ℕ) (a b : Answer) → (Alike p a b → Agree p a b) × (Agree p a b → Alike p a b)

-- alike is an equivalence
pub record Equivalence : Type 0 where
  pub itself : (p : ℕ) (a : Answer) → Alike p a a
  pub turned : (p : ℕ) (a b : Answer) → Alike p a b → Alike p b a
  pub chained : (p : ℕ) (a b c : Answer) → Alike p a b → Alike p b c → Alike p a c

-- histories that are alike have as many lines, and line by line their answers are alike
abbrev pub AlikeLineByLine : Type 0
AlikeLineByLine =
    (p : ℕ) (h k : List Event) → AllAlike p h k
    → (length h ≡ length k) × ((n : ℕ) (e : Event) → n < length h → Alike p (slice_index_or h n e).answer (slice_index_or k n e).answer)
