-- The slip that the program holds is the one that is out, line after line and at the end.
use Rattle.std.proofs.Common.{◌≡◌, ℕ, true, false, ◌&&◌, List, ◌∷◌, is_some, Some, None, Option, sym, refl, ap, ◌∙◌, subst, ⊎_elim, arith}
use Rattle.page_runs.specs.Asks.{opening_with, asks, event}
use Rattle.page_runs.specs.Slips.{slip_for, Gives}
use Rattle.pages.proofs.Calls.{ordinal, never_some}
use Rattle.pages.specs.Answers.{Right, Page}
use Rattle.pages.specs.Lines.{Opening, Line, Answer, Event, Call, Outcome}
use Rattle.pages.specs.Reasons.{Reason, wants_idle, slip_of}
use Rattle.pages.specs.Standing.{Standing, Drawn, first_of, out_by, out_by_done, out_at, standing}
use Rattle.refusals.specs.declared.refusal.Refusal.{Refusal}
use Rattle.refusals.specs.declared.refusal.Refusal.TheVariants as refusal
use Rattle.std.proofs.lemmas.Bool.{cases_Bool, both_ways, and_right}

-- what is kept and what an answer hands out or back make up the slip that is out
pub record Held (kept handed : Option ℕ) (out : Option Drawn) : Type 0 where
  pub once : (is_some kept && is_some handed) ≡ false
  pub is_out : first_of kept handed ≡ slip_for out

held_at :
    (kept other handed also : Option ℕ) (out after : Option Drawn) → kept ≡ other → handed ≡ also → out ≡ after
    → Held other also after → Held kept handed out
held_at kept other handed also out after a b c h =
    subst (λ (x : Option Drawn). Held kept handed x) (sym c)
    (subst (λ (x : Option ℕ). Held kept x after) (sym b) (subst (λ (x : Option ℕ). Held x also after) (sym a) h))

first_alone : (x : Option ℕ) → first_of x None ≡ x
first_alone None = refl
first_alone (Some n) = refl

-- nothing is handed out and nothing is spent
kept_alone : (x : Option ℕ) (out : Option Drawn) → x ≡ slip_for out → Held x None out
kept_alone x out e = record { once = and_right (is_some x) false refl; is_out = first_alone x ∙ e }

-- a slip that was given is handed back
handed_back : (given held kept : Option ℕ) (out : Option Drawn) → Gives given held kept → held ≡ slip_for out → Held kept given out
handed_back None held kept out g e = kept_alone kept out (g ∙ e)
handed_back (Some tag) held kept out g e =
    held_at kept None (Some tag) (Some tag) out out g.1 refl refl (record { once = refl; is_out = sym g.0 ∙ e })

after_done :
    (c : Call) (held kept : Option ℕ) (out : Option Drawn) → Gives (slip_of c) held kept → held ≡ slip_for out
    → Held kept None (out_by_done c out)
after_done (Call.grade a b code) held kept out g e = kept_alone kept out (g ∙ e)
after_done (Call.strike a b) held kept out g e = kept_alone kept out (g ∙ e)
after_done (Call.load file) held kept out g e = kept_alone kept out (g ∙ e)
after_done Call.draw held kept out g e = kept_alone kept out (g ∙ e)
after_done (Call.publish tag) held kept out g e = kept_alone kept None g.1
after_done (Call.withdraw tag) held kept out g e = kept_alone kept None g.1
after_done Call.show held kept out g e = kept_alone kept out (g ∙ e)

none_out : (out : Option Drawn) → is_some out ≡ false → slip_for out ≡ None
none_out None e = refl
none_out (Some d) e = absurd (both_ways true e refl)

-- a call that is given no slip keeps what was held
keeps : (c d : Call) (held kept : Option ℕ) → c ≡ d → slip_of d ≡ None → Gives (slip_of c) held kept → kept ≡ held
keeps c d held kept e n g = subst (λ (z : Option ℕ). Gives z held kept) (ap slip_of e ∙ n) g

pub carried :
    (p t : ℕ) (h : List Event) (l : Line) (a : Answer) (held kept : Option ℕ) → Page (opening_with p t) (event l a ∷ h)
    → Gives (slip_of l.call) held kept → held ≡ slip_for (out_at p h) → Held kept a.slip (out_at p (event l a ∷ h))
carried p t h l a held kept page g e = by_answer page.0
  where
    o : Opening
    o = opening_with p t

    out : Option Drawn
    out = out_at p h

    after : (u : Outcome) → a.outcome ≡ u → out_at p (event l a ∷ h) ≡ out_by p u l.call a.plan out
    after u x = ap (λ (v : Outcome). out_by p v l.call a.plan out) x

    by_answer : Right o (standing p h) l a → Held kept a.slip (out_at p (event l a ∷ h))
    by_answer (Right.refused r x f b u) =
        held_at kept kept a.slip (slip_of l.call) _ out refl b (after (Outcome.refused r) x)
        (handed_back (slip_of l.call) held kept out g e)
    by_answer (Right.done n c z x b u) =
        held_at kept kept a.slip None _ (out_by_done l.call out) refl b (after Outcome.done x)
        (after_done l.call held kept out g e)
    by_answer (Right.drawn n c code x w) =
        held_at kept None a.slip (Some 1) _ (out_by p (Outcome.drawn code) l.call a.plan out)
        (keeps l.call Call.draw held kept c refl g ∙ e ∙ none_out out idle) w.slip (after (Outcome.drawn code) x)
        (record { once = refl; is_out = refl })
      where
        idle : is_some out ≡ false
        idle =
            ⊎_elim (λ q. absurd (n refusal.SlipOut (Reason.slip_is_out (ap wants_idle c) q))) (λ q. q) (cases_Bool (is_some out))
    by_answer (Right.short n c x w) =
        held_at kept kept a.slip None _ out refl w.slip (after Outcome.short x)
        (kept_alone kept out (keeps l.call Call.draw held kept c refl g ∙ e))
    by_answer (Right.shown n c d q x w) =
        held_at kept kept a.slip None _ out refl w.slip (after (Outcome.shown d.lowest) x)
        (kept_alone kept out (keeps l.call Call.show held kept c refl g ∙ e))

abbrev last : Line
last = asks 3 (Call.withdraw 1)

not_refused : (p t : ℕ) (s : Standing) (r : Refusal) → is_some s.out ≡ true → Reason (opening_with p t) s last r → ⊥
not_refused p t s r out (Reason.lacks_the_right x) = both_ways true x refl
not_refused p t s r out (Reason.slip_is_out x y) = both_ways true (sym x) refl
not_refused p t s r out (Reason.no_slip_is_out tag x y) = both_ways (is_some s.out) y out
not_refused p t s r out (Reason.slip_of_another_tag tag x y) = y (same tag x)
  where
    same : (tag : ℕ) → Some 1 ≡ Some tag → tag ≡ 1
    same tag x = cc
not_refused p t s r out (Reason.sheet_has_a_grade file x y) = omega (arith, ap ordinal x)
not_refused p t s r out (Reason.outside_the_sizes a b x y) = never_some (a, b) x
not_refused p t s r out (Reason.code_not_valid a b code x y) = omega (arith, ap ordinal x)
not_refused p t s r out (Reason.no_grade_to_take a b x y) = omega (arith, ap ordinal x)
not_refused p t s r out (Reason.nothing_published x y) = omega (arith, ap ordinal x)
not_refused p t s r out (Reason.plan_buffer_short x y) = both_ways true (sym x) refl
not_refused p t s r out (Reason.set_buffer_short x y) = omega (arith, ap ordinal x)
not_refused p t s r out (Reason.faulty_file file f x y) = omega (arith, ap ordinal x)
not_refused p t s r out (Reason.new_pair_at_the_limit a b code x y z) = omega (arith, ap ordinal x)
not_refused p t s r out (Reason.more_records_than_the_limit file x y) = omega (arith, ap ordinal x)

-- a manager's withdraw of the slip that is out is accepted
pub closing :
    (p t : ℕ) (h : List Event) (a : Answer) → Page (opening_with p t) (event last a ∷ h) → is_some (out_at p h) ≡ true
    → (a.outcome ≡ Outcome.done) × (a.slip ≡ None)
closing p t h a page out = by_answer page.0
  where
    by_answer : Right (opening_with p t) (standing p h) last a → (a.outcome ≡ Outcome.done) × (a.slip ≡ None)
    by_answer (Right.refused r x f b u) = absurd (not_refused p t (standing p h) r out f.holds)
    by_answer (Right.done n c z x b u) = (x, b)
    by_answer (Right.drawn n c code x w) = absurd (omega (arith, ap ordinal c))
    by_answer (Right.short n c x w) = absurd (omega (arith, ap ordinal c))
    by_answer (Right.shown n c d q x w) = absurd (omega (arith, ap ordinal c))
