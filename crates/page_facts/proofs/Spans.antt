-- What is out, and what is published, by the last line that decides it.
use Rattle.std.proofs.Common.{◌≡◌, ℕ, ◌⊎◌, List, [], ◌∷◌, ◌++◌, take, Some, None, sym, refl, ap, ◌∙◌, inl, inr, ⊎_elim, arith}
use Rattle.page_facts.proofs.Spent.{drawn_plans_are_out, other_lines_leave_the_published, other_lines_leave_the_slip}
use Rattle.page_facts.proofs.Ways.{kind_of}
use Rattle.page_facts.specs.Lists.{Each}
use Rattle.page_facts.specs.Slips.{LastSlipDecides, LeavesTheSlip, OutSince, PublishedSince, Publishes, Spends}
use Rattle.pages.proofs.Calls.{never_some, ordinal, same_some}
use Rattle.pages.specs.Lines.{Event, Call, Outcome}
use Rattle.pages.specs.Standing.{Drawn, out_at, out_by, out_by_done, published_at, published_by, published_by_done}

-- a line draws, spends or does neither
abbrev SortOfLine : Event → Type 0
SortOfLine e = ((code : ℕ) × (e.answer.outcome ≡ Outcome.drawn code)) ⊎ (Spends e ⊎ LeavesTheSlip e)

other_outcome : (e : Event) (u : Outcome) → e.answer.outcome ≡ u → (kind_of u ≡ 0 → ⊥) → (kind_of u ≡ 1 → ⊥) → LeavesTheSlip e
other_outcome e u x n m =
    record {
      not_drawn = λ code y. m (sym (ap kind_of x) ∙ ap kind_of y);
      not_spent = λ s. n (sym (ap kind_of x) ∙ ap kind_of s.outcome);
    }

other_call :
    (e : Event) (c : Call) → e.line.call ≡ c → e.answer.outcome ≡ Outcome.done → ((ordinal c ≡ 4) ⊎ (ordinal c ≡ 5) → ⊥) → LeavesTheSlip e
other_call e c q x n =
    record {
      not_drawn = λ code y. omega (arith, ap kind_of (sym x ∙ y));
      not_spent = λ s.
          n (⊎_elim (λ r. inl (sym (ap ordinal q) ∙ ap ordinal r)) (λ r. inr (sym (ap ordinal q) ∙ ap ordinal r)) s.call);
    }

by_call : (e : Event) (c : Call) → e.line.call ≡ c → e.answer.outcome ≡ Outcome.done → SortOfLine e
by_call e (Call.grade a b code) q x = inr (inr (other_call e (Call.grade a b code) q x (λ n. omega arith)))
by_call e (Call.strike a b) q x = inr (inr (other_call e (Call.strike a b) q x (λ n. omega arith)))
by_call e (Call.load file) q x = inr (inr (other_call e (Call.load file) q x (λ n. omega arith)))
by_call e Call.draw q x = inr (inr (other_call e Call.draw q x (λ n. omega arith)))
by_call e (Call.publish tag) q x = inr (inl (record { tag = tag; call = inl q; outcome = x }))
by_call e (Call.withdraw tag) q x = inr (inl (record { tag = tag; call = inr q; outcome = x }))
by_call e Call.show q x = inr (inr (other_call e Call.show q x (λ n. omega arith)))

by_outcome : (e : Event) (u : Outcome) → e.answer.outcome ≡ u → SortOfLine e
by_outcome e Outcome.done x = by_call e e.line.call refl x
by_outcome e (Outcome.drawn code) x = inl (code, x)
by_outcome e Outcome.short x = inr (inr (other_outcome e Outcome.short x (λ n. omega arith) (λ n. omega arith)))
by_outcome e (Outcome.shown code) x = inr (inr (other_outcome e (Outcome.shown code) x (λ n. omega arith) (λ n. omega arith)))
by_outcome e (Outcome.refused r) x = inr (inr (other_outcome e (Outcome.refused r) x (λ n. omega arith) (λ n. omega arith)))

module _ (p : ℕ) where
  spent : (e : Event) (above : List Event) → Spends e → out_at p (e ∷ above) ≡ None
  spent e above s =
      ap (λ (u : Outcome). out_by p u e.line.call e.answer.plan (out_at p above)) s.outcome
      ∙ ⊎_elim
      (λ q. ap (λ (c : Call). out_by_done c (out_at p above)) q)
      (λ q. ap (λ (c : Call). out_by_done c (out_at p above)) q)
      s.call

  left : (e : Event) (above : List Event) → LeavesTheSlip e → out_at p (e ∷ above) ≡ out_at p above
  left e above s = other_lines_leave_the_slip p above e s.not_drawn s.not_spent

  out_since : (d : Drawn) (h : List Event) → out_at p h ≡ Some d → OutSince p d h
  out_since d [] x = absurd (never_some d x)
  out_since d (e ∷ above) x =
      ⊎_elim
      (λ w.
      let same : record { plan = take p e.answer.plan; lowest = w.0 } ≡ d =
      same_some (record { plan = take p e.answer.plan; lowest = w.0 }) d (sym (drawn_plans_are_out p above e w.0 w.1) ∙ x) in
      record {
        below = [];
        line = e;
        above = above;
        is = refl;
        drawn = w.1 ∙ ap (λ (z : Drawn). Outcome.drawn z.lowest) same;
        plan = ap (λ (z : Drawn). z.plan) same;
        quiet = tt;
      })
      (λ r.
      ⊎_elim
      (λ s. absurd (never_some d (sym (spent e above s) ∙ x)))
      (λ s. more s (out_since d above (sym (left e above s) ∙ x)))
      r)
      (by_outcome e e.answer.outcome refl)
    where
      more : LeavesTheSlip e → OutSince p d above → OutSince p d (e ∷ above)
      more s w =
          record {
            below = e ∷ w.below;
            line = w.line;
            above = w.above;
            is = ap (λ (h : List Event). e ∷ h) w.is;
            drawn = w.drawn;
            plan = w.plan;
            quiet = (s, w.quiet);
          }

  still_out :
      (d : Drawn) (below above : List Event) (e : Event) → e.answer.outcome ≡ Outcome.drawn d.lowest → take p e.answer.plan ≡ d.plan
      → Each LeavesTheSlip below → out_at p (below ++ e ∷ above) ≡ Some d
  still_out d [] above e x q s =
      drawn_plans_are_out p above e d.lowest x ∙ ap (λ (z : List ℕ). Some (record { plan = z; lowest = d.lowest })) q
  still_out d (f ∷ below) above e x q s = left f (below ++ e ∷ above) s.0 ∙ still_out d below above e x q s.1

  -- an accepted publish, or none
  publishes_or_not : (e : Event) → Publishes e ⊎ (Publishes e → ⊥)
  publishes_or_not e = ⊎_elim (λ w. inr (λ s. omega (arith, ap kind_of (sym w.1 ∙ s.outcome)))) (λ r. ⊎_elim spender (λ l. inr (λ s. l.not_spent (record { tag = s.tag; call = inl s.call; outcome = s.outcome }))) r) (by_outcome e e.answer.outcome refl)
    where
      spender : Spends e → Publishes e ⊎ (Publishes e → ⊥)
      spender s =
          ⊎_elim
          (λ q. inl (record { tag = s.tag; call = q; outcome = s.outcome }))
          (λ q. inr (λ w. omega (arith, ap ordinal (sym q ∙ w.call))))
          s.call

  now_published : (e : Event) (above : List Event) → Publishes e → published_at p (e ∷ above) ≡ out_at p above
  now_published e above s =
      ap (λ (u : Outcome). published_by u e.line.call (out_at p above) (published_at p above)) s.outcome
      ∙ ap (λ (c : Call). published_by_done c (out_at p above) (published_at p above)) s.call

  published_since : (d : Drawn) (h : List Event) → published_at p h ≡ Some d → PublishedSince p d h
  published_since d [] x = absurd (never_some d x)
  published_since d (e ∷ above) x =
      ⊎_elim
      (λ s. record { below = []; line = e; above = above; is = refl; publishes = s; out = sym (now_published e above s) ∙ x; quiet = tt })
      (λ s. more s (published_since d above (sym (other_lines_leave_the_published p above e s) ∙ x)))
      (publishes_or_not e)
    where
      more : (Publishes e → ⊥) → PublishedSince p d above → PublishedSince p d (e ∷ above)
      more s w =
          record {
            below = e ∷ w.below;
            line = w.line;
            above = w.above;
            is = ap (λ (h : List Event). e ∷ h) w.is;
            publishes = w.publishes;
            out = w.out;
            quiet = (s, w.quiet);
          }

  still_published :
      (d : Drawn) (below above : List Event) (e : Event) → Publishes e → out_at p above ≡ Some d → Each (λ f. Publishes f → ⊥) below
      → published_at p (below ++ e ∷ above) ≡ Some d
  still_published d [] above e s x q = now_published e above s ∙ x
  still_published d (f ∷ below) above e s x q =
      other_lines_leave_the_published p (below ++ e ∷ above) f q.0 ∙ still_published d below above e s x q.1

pub last_slip_decides : LastSlipDecides
last_slip_decides p h d = (
  out_since p d h,
  λ w. ap (out_at p) w.is ∙ still_out p d w.below w.above w.line w.drawn w.plan w.quiet,
  published_since p d h,
  λ w. ap (published_at p) w.is ∙ still_published p d w.below w.above w.line w.publishes w.out w.quiet,
)
