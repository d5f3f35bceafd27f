-- Which of several reasons is told.
use Rattle.std.proofs.Common.{◌≡◌, ℕ, ◌<◌, ◌≤◌, true, false, List, ◌∷◌, length, is_some, Some, None, sym, refl, ap, ◌∙◌, subst, ⊎_elim, arith}
use Rattle.books.specs.Limits.{inside}
use Rattle.books.specs.Meaning.{standing}
use Rattle.file_format.specs.Layout.{count_in}
use Rattle.file_format.specs.Rules.{Faulty}
use Rattle.page_facts.proofs.Rights.{same_right}
use Rattle.page_facts.specs.Order.{Answers, AtIdle, DrawsNeedRoom, GradeLinesInOrder, LetIn, LoadsInOrder, ShowsInOrder, SlipOutFirst, StrikesInOrder, WrongSlips}
use Rattle.pages.proofs.Calls.{never_some, ordinal}
use Rattle.pages.proofs.Clear.{Clear, is_first}
use Rattle.pages.proofs.Clears.{draw_clear, grade_clear, load_clear, show_clear, spend_clear, strike_clear}
use Rattle.pages.proofs.Told.{refused_for_the_first_reason}
use Rattle.pages.specs.Answers.{Page}
use Rattle.pages.specs.Lines.{Opening, Line, Event, Call}
use Rattle.pages.specs.Reasons.{Reason, file_expected, least_role, may, pair_of, slip_of, wants_idle, writes_plan}
use Rattle.pages.specs.Standing.{Drawn, grade_at, out_at, published_at, standing as stands}
use Rattle.refusals.specs.Refusals.{number_of}
use Rattle.refusals.specs.declared.fault.Fault.{Fault}
use Rattle.refusals.specs.declared.refusal.Refusal.{Refusal}
use Rattle.refusals.specs.declared.refusal.Refusal.TheVariants as refusal

-- a line whose call is known
with_call : (l : Line) (c : Call) → l.call ≡ c → l ≡ record { role = l.role; call = c; plan = l.plan; set = l.set }
with_call l c q = λ i. record { role = l.role; call = q i; plan = l.plan; set = l.set }

module _ (o : Opening) (above : List Event) (e : Event) where
  told : (r : Refusal) → Page o (e ∷ above) → Reason o (stands o.packages above) e.line r → Clear o (stands o.packages above) e.line (number_of r)
      → Answers e r
  told r page h c = (refused_for_the_first_reason o above e r page).1 (is_first o (stands o.packages above) e.line r h c)

  pub cleared :
      (c : Call) (n : ℕ) → e.line.call ≡ c
      → Clear o (stands o.packages above) (record { role = e.line.role; call = c; plan = e.line.plan; set = e.line.set }) n
      → Clear o (stands o.packages above) e.line n
  cleared c n q w = subst (λ (l : Line). Clear o (stands o.packages above) l n) (sym (with_call e.line c q)) w

  pub right_of : (c : Call) → LetIn o above e → e.line.call ≡ c → may (least_role c) e.line.role ≡ true
  right_of c i q =
      ap (λ (d : Call). may (least_role d) e.line.role) (sym q) ∙ same_right e.line.call e.line.role ∙ i.role

  busy : (d : Drawn) → LetIn o above e → out_at o.packages above ≡ Some d → wants_idle e.line.call ≡ true → Answers e refusal.SlipOut
  busy d i w h =
      told refusal.SlipOut i.page (Reason.slip_is_out h (ap is_some w))
      (record {
        role = λ b. same_right e.line.call e.line.role ∙ i.role;
        idle = λ b. absurd (omega arith);
        slip = λ b. absurd (omega arith);
        empty = λ b. absurd (omega arith);
        place = λ b. absurd (omega arith);
        code = λ b. absurd (omega arith);
        taken = λ b. absurd (omega arith);
        shown = λ b. absurd (omega arith);
        plan = λ b. absurd (omega arith);
        set = λ b. absurd (omega arith);
        file = λ b. absurd (omega arith);
        room = λ b. absurd (omega arith);
        records = λ b. absurd (omega arith);
      })

  -- the reasons below a number, for each call
  pub grade_below :
      (a b code n : ℕ) → AtIdle o above e → e.line.call ≡ Call.grade a b code
      → (6 < n → inside o.packages o.translators a b ≡ true) → (7 < n → o.valid code ≡ true)
      → (11 < n → is_some (grade_at above a b) ≡ false → standing (grade_at above) o.packages o.translators ≡ o.limit → ⊥)
      → Clear o (stands o.packages above) e.line n
  grade_below a b code n i q f6 f7 f11 =
      cleared (Call.grade a b code) n q
      (grade_clear o (stands o.packages above) e.line.role e.line.plan e.line.set n a b code
      (λ _. right_of (Call.grade a b code) i.line q) (λ _. ap is_some i.idle) f6 f7 f11)

  pub strike_below :
      (a b n : ℕ) → AtIdle o above e → e.line.call ≡ Call.strike a b
      → (6 < n → inside o.packages o.translators a b ≡ true) → (8 < n → is_some (grade_at above a b) ≡ true)
      → Clear o (stands o.packages above) e.line n
  strike_below a b n i q f6 f8 =
      cleared (Call.strike a b) n q
      (strike_clear o (stands o.packages above) e.line.role e.line.plan e.line.set n a b
      (λ _. right_of (Call.strike a b) i.line q) (λ _. ap is_some i.idle) f6 f8)

pub slip_out_first : SlipOutFirst
slip_out_first o above e d i w = (
  λ a b code q. busy o above e d i w (ap wants_idle q),
  λ a b q. busy o above e d i w (ap wants_idle q),
  λ file q. busy o above e d i w (ap wants_idle q),
  λ q. busy o above e d i w (ap wants_idle q),
)

pub wrong_slips : WrongSlips
wrong_slips o above e tag i h = (
  λ q. by (Call.publish tag) q refl refl refl refl (omega arith) (omega arith),
  λ q. by (Call.withdraw tag) q refl refl refl refl (omega arith) (omega arith),
)
  where
    use' : slip_of e.line.call ≡ Some tag → Reason o (stands o.packages above) e.line refusal.WrongSlip
    use' g = ⊎_elim (λ x. Reason.no_slip_is_out tag g (ap is_some x)) (λ x. Reason.slip_of_another_tag tag g x) h

    by :
        (c : Call) → e.line.call ≡ c → slip_of c ≡ Some tag → wants_idle c ≡ false → pair_of c ≡ None → writes_plan c ≡ false
        → 4 ≤ ordinal c → ordinal c ≤ 5 → Answers e refusal.WrongSlip
    by c q g keeps lone dry low high =
        told o above e refusal.WrongSlip i.page (use' (ap slip_of q ∙ g))
        (cleared o above e c 4 q
        (spend_clear o (stands o.packages above) e.line.role e.line.plan e.line.set 4 c tag g keeps lone dry low high
        (λ _. right_of o above e c i q) (λ b. absurd (omega arith))))

pub grade_lines_in_order : GradeLinesInOrder
grade_lines_in_order o above e a b code i q = (
  λ out.
      told o above e refusal.Place i.line.page (Reason.outside_the_sizes a b (ap pair_of q) out)
      (grade_below o above e a b code 6 i q (λ b. absurd (omega arith)) (λ b. absurd (omega arith)) (λ b. absurd (omega arith))),
  λ within bad.
      told o above e refusal.Grade i.line.page (Reason.code_not_valid a b code q bad)
      (grade_below o above e a b code 7 i q (λ _. within) (λ b. absurd (omega arith)) (λ b. absurd (omega arith))),
  λ within good none full.
      told o above e refusal.Full i.line.page (Reason.new_pair_at_the_limit a b code q (ap is_some none) full)
      (grade_below o above e a b code 11 i q (λ _. within) (λ _. good) (λ b. absurd (omega arith))),
)

pub strikes_in_order : StrikesInOrder
strikes_in_order o above e a b i q = (
  λ out.
      told o above e refusal.Place i.line.page (Reason.outside_the_sizes a b (ap pair_of q) out)
      (strike_below o above e a b 6 i q (λ b. absurd (omega arith)) (λ b. absurd (omega arith))),
  λ within none.
      told o above e refusal.NothingThere i.line.page (Reason.no_grade_to_take a b q (ap is_some none))
      (strike_below o above e a b 8 i q (λ _. within) (λ b. absurd (omega arith))),
)

pub loads_in_order : LoadsInOrder
loads_in_order o above e file i q = (
  λ x y code some.
      told o above e refusal.NotEmpty i.line.page (Reason.sheet_has_a_grade file q (λ none. never_some code (sym (none x y) ∙ some)))
      (below 5 (λ b. absurd (omega arith)) (λ b. absurd (omega arith)) (λ b. absurd (omega arith))),
  λ none f bad.
      told o above e (refusal.File f) i.line.page (Reason.faulty_file file f q bad)
      (below 10 (λ _. none) (λ b. absurd (omega arith)) (λ b. absurd (omega arith))),
)
  where
    below :
        (n : ℕ) → (5 < n → (x y : ℕ) → grade_at above x y ≡ None) → (10 < n → (f : Fault) → Faulty (file_expected o) file f → ⊥)
        → (11 < n → count_in file ≤ o.limit) → Clear o (stands o.packages above) e.line n
    below n f5 f10 f11 =
        cleared o above e (Call.load file) n q
        (load_clear o (stands o.packages above) e.line.role e.line.plan e.line.set n file
        (λ _. right_of o above e (Call.load file) i.line q) (λ _. ap is_some i.idle) f5 f10 f11)

pub draws_need_room : DrawsNeedRoom
draws_need_room o above e i q h =
    told o above e refusal.Space i.line.page
    (⊎_elim (λ x. Reason.plan_buffer_short (ap writes_plan q) x) (λ x. Reason.set_buffer_short q x) h)
    (cleared o above e Call.draw 9 q
    (draw_clear o (stands o.packages above) e.line.role e.line.plan e.line.set 9
    (λ _. right_of o above e Call.draw i.line q) (λ _. ap is_some i.idle) (λ b. absurd (omega arith)) (λ b. absurd (omega arith))))

pub shows_in_order : ShowsInOrder
shows_in_order o above e i q = (
  λ none.
      told o above e refusal.NothingThere i.page (Reason.nothing_published q (ap is_some none))
      (below 8 (λ b. absurd (omega arith)) (λ b. absurd (omega arith))),
  λ d some x.
      told o above e refusal.Space i.page (Reason.plan_buffer_short (ap writes_plan q) x)
      (below 9 (λ _. ap is_some some) (λ b. absurd (omega arith))),
)
  where
    below :
        (n : ℕ) → (8 < n → is_some (published_at o.packages above) ≡ true) → (9 < n → o.packages ≤ length e.line.plan)
        → Clear o (stands o.packages above) e.line n
    below n f8 f9 =
        cleared o above e Call.show n q
        (show_clear o (stands o.packages above) e.line.role e.line.plan e.line.set n
        (λ _. right_of o above e Call.show i q) f8 f9)
