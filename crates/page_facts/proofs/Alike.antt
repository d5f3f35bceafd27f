-- Answers that are alike, taken apart and put together.
use Rattle.std.proofs.Common.{◌≡◌, ℕ, zero, suc, ◌+◌, ◌-◌, ◌<◌, ◌≤◌, List, [], ◌∷◌, length, get_or, drop, sym, refl, ap, ◌∙◌, subst, inl, inr, arith}
use Rattle.page_facts.proofs.Ways.{kind_of}
use Rattle.page_facts.specs.Alike.{AcceptedDraw, Agree, AlikeAnswersAgree, AlikeLineByLine, Equivalence}
use Rattle.pages.specs.Lines.{Answer, Event, Outcome}
use Rattle.pages.specs.Promises.{Alike, SetsAlike}
use Rattle.std.proofs.lemmas.List.{ext_get_or, get_or-drop, length-drop}

module _ (p : ℕ) where
  long : (u : Outcome) (x y : List ℕ) → SetsAlike p u x y → length x ≡ length y
  long Outcome.done x y e = ap length e
  long (Outcome.drawn code) x y e = e.0
  long Outcome.short x y e = e.0
  long (Outcome.shown code) x y e = ap length e
  long (Outcome.refused r) x y e = ap length e

  rest : (u : Outcome) (x y : List ℕ) → SetsAlike p u x y → drop p x ≡ drop p y
  rest Outcome.done x y e = ap (drop p) e
  rest (Outcome.drawn code) x y e = e.1
  rest Outcome.short x y e = e.1
  rest (Outcome.shown code) x y e = ap (drop p) e
  rest (Outcome.refused r) x y e = ap (drop p) e

  whole : (u : Outcome) (x y : List ℕ) → SetsAlike p u x y → (AcceptedDraw u → ⊥) → x ≡ y
  whole Outcome.done x y e n = e
  whole (Outcome.drawn code) x y e n = absurd (n (inl (code, refl)))
  whole Outcome.short x y e n = absurd (n (inr refl))
  whole (Outcome.shown code) x y e n = e
  whole (Outcome.refused r) x y e n = e

  from_place : (x y : List ℕ) → drop p x ≡ drop p y → (k : ℕ) → p ≤ k → get_or x k 0 ≡ get_or y k 0
  from_place x y e k l =
      let q : p + (k - p) ≡ k = omega arith in
      ap (λ (n : ℕ). get_or x n 0) (sym q) ∙ sym (get_or-drop p x (k - p) 0) ∙ ap (λ (z : List ℕ). get_or z (k - p) 0) e
      ∙ get_or-drop p y (k - p) 0 ∙ ap (λ (n : ℕ). get_or y n 0) q

  to_drop : (x y : List ℕ) → length x ≡ length y → ((k : ℕ) → p ≤ k → get_or x k 0 ≡ get_or y k 0) → drop p x ≡ drop p y
  to_drop x y l h =
      let a = length-drop p x in
      let b = length-drop p y in
      ext_get_or 0 (drop p x) (drop p y) (omega (arith, a, b, l))
      (λ i _. get_or-drop p x i 0 ∙ h (p + i) (omega arith) ∙ sym (get_or-drop p y i 0))

  no_draw : (u : Outcome) → (kind_of u ≡ 1 → ⊥) → (kind_of u ≡ 2 → ⊥) → AcceptedDraw u → ⊥
  no_draw u n m (inl w) = n (ap kind_of w.1)
  no_draw u n m (inr e) = m (ap kind_of e)

  together :
      (u : Outcome) (x y : List ℕ) → length x ≡ length y → ((k : ℕ) → p ≤ k → get_or x k 0 ≡ get_or y k 0)
      → ((AcceptedDraw u → ⊥) → x ≡ y) → SetsAlike p u x y
  together Outcome.done x y l h w = w (no_draw Outcome.done (λ n. omega arith) (λ n. omega arith))
  together (Outcome.drawn code) x y l h w = (l, to_drop x y l h)
  together Outcome.short x y l h w = (l, to_drop x y l h)
  together (Outcome.shown code) x y l h w = w (no_draw (Outcome.shown code) (λ n. omega arith) (λ n. omega arith))
  together (Outcome.refused r) x y l h w = w (no_draw (Outcome.refused r) (λ n. omega arith) (λ n. omega arith))

  agree : (a b : Answer) → Alike p a b → Agree p a b
  agree a b w =
      record {
        outcome = w.outcome;
        slip = w.slip;
        plan = w.plan;
        long = long a.outcome a.set b.set w.set;
        rest = from_place a.set b.set (rest a.outcome a.set b.set w.set);
        whole = whole a.outcome a.set b.set w.set;
      }

  alike : (a b : Answer) → Agree p a b → Alike p a b
  alike a b w =
      record {
        outcome = w.outcome;
        slip = w.slip;
        plan = w.plan;
        set = together a.outcome a.set b.set w.long w.rest w.whole;
      }

  agree_turned : (a b : Answer) → Agree p a b → Agree p b a
  agree_turned a b w =
      record {
        outcome = sym w.outcome;
        slip = sym w.slip;
        plan = sym w.plan;
        long = sym w.long;
        rest = λ k l. sym (w.rest k l);
        whole = λ n. sym (w.whole (λ d. n (subst AcceptedDraw w.outcome d)));
      }

  agree_chained : (a b c : Answer) → Agree p a b → Agree p b c → Agree p a c
  agree_chained a b c w v =
      record {
        outcome = w.outcome ∙ v.outcome;
        slip = w.slip ∙ v.slip;
        plan = w.plan ∙ v.plan;
        long = w.long ∙ v.long;
        rest = λ k l. w.rest k l ∙ v.rest k l;
        whole = λ n. w.whole n ∙ v.whole (λ d. n (subst AcceptedDraw (sym w.outcome) d));
      }

pub alike_answers_agree : AlikeAnswersAgree
alike_answers_agree p a b = (agree p a b, alike p a b)

pub equivalence : Equivalence
equivalence =
    record {
      itself = λ p a. alike p a a (record { outcome = refl; slip = refl; plan = refl; long = refl; rest = λ k l. refl; whole = λ n. refl });
      turned = λ p a b w. alike p b a (agree_turned p a b (agree p a b w));
      chained = λ p a b c w v. alike p a c (agree_chained p a b c (agree p a b w) (agree p b c v));
    }

pub alike_line_by_line : AlikeLineByLine
alike_line_by_line p [] [] w = (refl, λ n e l. absurd (omega arith))
alike_line_by_line p [] (f ∷ k) w = absurd w
alike_line_by_line p (e ∷ h) [] w = absurd w
alike_line_by_line p (e ∷ h) (f ∷ k) w = (ap suc (alike_line_by_line p h k w.1).0, at (alike_line_by_line p h k w.1).1)
  where
    at :
        ((n : ℕ) (g : Event) → n < length h → Alike p (get_or h n g).answer (get_or k n g).answer)
        → (n : ℕ) (g : Event) → n < length (e ∷ h) → Alike p (get_or (e ∷ h) n g).answer (get_or (f ∷ k) n g).answer
    at ih zero g l = w.0
    at ih (suc n) g l = ih n g (omega arith)
