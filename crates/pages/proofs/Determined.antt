-- What stands and the line determine the answer, but for the choice of a set.
use Rattle.std.proofs.Common.{◌≡◌, ℕ, true, List, ◌++◌, take, drop, Some, Option, sym, ap, ◌∙◌, subst, ⊎_elim, arith}
use Rattle.matching.proofs.Buffers.{counted_valid as code-valid}
use Rattle.matching.proofs.Rules.{one_best}
use Rattle.pages.proofs.Numbers.{same_number}
use Rattle.pages.specs.Answers.{Right, Lawful, says_done, valid_only}
use Rattle.pages.specs.Lines.{Opening, Line, Answer, Call, Outcome}
use Rattle.pages.specs.Promises.{Alike, SetsAlike}
use Rattle.pages.specs.Reasons.{Reason, FirstReason, file_expected}
use Rattle.pages.specs.Standing.{Standing, Drawn}
use Rattle.bottleneck.specs.Grades.{AllValid}
use Rattle.file_format.proofs.Once.{right_or_one_fault}
use Rattle.file_format.specs.Rules.{Faulty}
use Rattle.refusals.specs.Refusals.{number_of}
use Rattle.refusals.specs.declared.fault.Fault.{Fault}
use Rattle.refusals.specs.declared.refusal.Refusal.{Refusal}
use Rattle.refusals.specs.declared.refusal.Refusal.TheVariants as refusal
use Rattle.std.proofs.lemmas.List.{take-append-drop}
use Rattle.std.proofs.lemmas.Bool.{cases_order, both_ways}

same_halves : (p : ℕ) (x y : List ℕ) → take p x ≡ take p y → drop p x ≡ drop p y → x ≡ y
same_halves p x y a b =
    sym (take-append-drop p x) ∙ ap (λ (t : List ℕ). t ++ drop p x) a ∙ ap (λ (d : List ℕ). take p y ++ d) b
    ∙ take-append-drop p y

-- what is counted is valid
counted_valid : (o : Opening) (g : ℕ → ℕ → Option ℕ) → AllValid o.valid (valid_only o g)
counted_valid o g k j code e = code-valid o.valid (g k j) code e

module _ (o : Opening) (lawful : Lawful o) (s : Standing)
    (l : Line)
  where
    the_fault : (f : Fault) → Reason o s l (refusal.File f) → (file : List ℕ) × (l.call ≡ Call.load file) × Faulty (file_expected o) file f
    the_fault f (Reason.faulty_file file g c x) = (file, c, x)

    one_fault : (f g : Fault) → Reason o s l (refusal.File f) → Reason o s l (refusal.File g) → f ≡ g
    one_fault f g x y =
        let a = the_fault f x in
        let b = the_fault g y in
        let e : a.0 ≡ b.0 = same_file a.0 b.0 (sym a.1 ∙ b.1) in
        (right_or_one_fault (file_expected o) b.0).2 f g (subst (λ (file : List ℕ). Faulty (file_expected o) file f) e a.2) b.2
      where
        same_file : (x y : List ℕ) → Call.load x ≡ Call.load y → x ≡ y
        same_file x y e = cc

    pub one_reason : (r q : Refusal) → FirstReason o s l r → FirstReason o s l q → r ≡ q
    one_reason r q a b =
        ⊎_elim
        (λ e. ⊎_elim (λ w. w) (λ w. files w.0 w.1 w.2 w.3) (same_number r q e))
        (λ w. ⊎_elim (λ k. absurd (b.first r k a.holds)) (λ k. absurd (a.first q k b.holds)) w)
        (cases_order (number_of r) (number_of q))
      where
        files : (f g : Fault) → r ≡ refusal.File f → q ≡ refusal.File g → r ≡ q
        files f g x y =
            x ∙ ap refusal.File (one_fault f g (subst (Reason o s l) x a.holds) (subst (Reason o s l) y b.holds)) ∙ sym y

    abbrev At : Answer → Answer → Outcome → Type 0
    At a b u = SetsAlike o.packages u a.set b.set

    alike :
        (a b : Answer) (u : Outcome) → a.outcome ≡ u → b.outcome ≡ u → a.slip ≡ b.slip → a.plan ≡ b.plan → At a b u
        → Alike o.packages a b
    alike a b u x y t p z = record { outcome = x ∙ sym y; slip = t; plan = p; set = subst (At a b) (sym x) z }

    never_draw : l.call ≡ Call.draw → says_done l.call ≡ true → ⊥
    never_draw c d = both_ways (says_done l.call) (ap says_done c) d

    never_show : l.call ≡ Call.show → says_done l.call ≡ true → ⊥
    never_show c d = both_ways (says_done l.call) (ap says_done c) d

    not_both : l.call ≡ Call.draw → l.call ≡ Call.show → ⊥
    not_both c d = let z : ◌≡◌ {A = ℕ} 0 1 = clash (sym c ∙ d) in omega arith
      where
        clash : Call.draw ≡ Call.show → ◌≡◌ {A = ℕ} 0 1
        clash e = cc

    same_drawn : (d e : Drawn) → s.published ≡ Some d → s.published ≡ Some e → d ≡ e
    same_drawn d e x y = inside (sym x ∙ y)
      where
        inside : Some d ≡ Some e → d ≡ e
        inside q = cc

    pub determined : (a b : Answer) → Right o s l a → Right o s l b → Alike o.packages a b
    determined a b (Right.refused r x f t u) (Right.refused q y g v w) =
        alike a b (Outcome.refused q) (x ∙ ap Outcome.refused (one_reason r q f g)) y (t ∙ sym v)
        (u.plan ∙ sym w.plan) (u.set ∙ sym w.set)
    determined a b (Right.refused r x f t u) (Right.done n c z y v w) = absurd (n r f.holds)
    determined a b (Right.refused r x f t u) (Right.drawn n c code y w) = absurd (n r f.holds)
    determined a b (Right.refused r x f t u) (Right.short n c y w) = absurd (n r f.holds)
    determined a b (Right.refused r x f t u) (Right.shown n c d e y w) = absurd (n r f.holds)
    determined a b (Right.done n c z x t u) (Right.refused q y g v w) = absurd (n q g.holds)
    determined a b (Right.done n c z x t u) (Right.done m d k y v w) =
        alike a b Outcome.done x y (t ∙ sym v) (u.plan ∙ sym w.plan) (u.set ∙ sym w.set)
    determined a b (Right.done n c z x t u) (Right.drawn m d code y w) = absurd (never_draw d c)
    determined a b (Right.done n c z x t u) (Right.short m d y w) = absurd (never_draw d c)
    determined a b (Right.done n c z x t u) (Right.shown m d e q y w) = absurd (never_show d c)
    determined a b (Right.drawn n c code x u) (Right.refused q y g v w) = absurd (n q g.holds)
    determined a b (Right.drawn n c code x u) (Right.done m d z y v w) = absurd (never_draw c d)
    determined a b (Right.drawn n c code x u) (Right.drawn m d other y w) =
        let e =
        one_best o.valid o.above lawful.order (valid_only o s.grade) (counted_valid o s.grade) o.packages o.translators
        (take o.packages a.plan) (take o.packages b.plan) code other u.best w.best in
        alike a b (Outcome.drawn other) (x ∙ ap Outcome.drawn e.1) y (u.slip ∙ sym w.slip)
        (same_halves o.packages a.plan b.plan e.0 (u.plan_rest ∙ sym w.plan_rest))
        (u.marks.long ∙ sym w.marks.long, u.marks.rest ∙ sym w.marks.rest)
    determined a b (Right.drawn n c code x u) (Right.short m d y w) = absurd (w.none (take o.packages a.plan) u.best.full)
    determined a b (Right.drawn n c code x u) (Right.shown m d e q y w) = absurd (not_both c d)
    determined a b (Right.short n c x u) (Right.refused q y g v w) = absurd (n q g.holds)
    determined a b (Right.short n c x u) (Right.done m d z y v w) = absurd (never_draw c d)
    determined a b (Right.short n c x u) (Right.drawn m d code y w) = absurd (u.none (take o.packages b.plan) w.best.full)
    determined a b (Right.short n c x u) (Right.short m d y w) =
        alike a b Outcome.short x y (u.slip ∙ sym w.slip) (u.plan ∙ sym w.plan) (u.marks.long ∙ sym w.marks.long, u.marks.rest ∙ sym w.marks.rest)
    determined a b (Right.short n c x u) (Right.shown m d e q y w) = absurd (not_both c d)
    determined a b (Right.shown n c d e x u) (Right.refused q y g v w) = absurd (n q g.holds)
    determined a b (Right.shown n c d e x u) (Right.done m f z y v w) = absurd (never_show c f)
    determined a b (Right.shown n c d e x u) (Right.drawn m f code y w) = absurd (not_both f c)
    determined a b (Right.shown n c d e x u) (Right.short m f y w) = absurd (not_both f c)
    determined a b (Right.shown n c d e x u) (Right.shown m f g q y w) =
        let i : d ≡ g = same_drawn d g e q in
        alike a b (Outcome.shown g.lowest) (x ∙ ap (λ (z : Drawn). Outcome.shown z.lowest) i) y (u.slip ∙ sym w.slip)
        (same_halves o.packages a.plan b.plan (u.plan ∙ ap (λ (z : Drawn). z.plan) i ∙ sym w.plan) (u.plan_rest ∙ sym w.plan_rest))
        (u.set ∙ sym w.set)
