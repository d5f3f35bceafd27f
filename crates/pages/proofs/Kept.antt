-- Every grade that stands on a page lies inside the sizes and is valid in the kind.
use Rattle.std.proofs.Common.{◌≡◌, ℕ, ◌^◌, ◌<◌, Bool, true, false, ◌⊎◌, List, [], ◌∷◌, Some, None, Option, sym, refl, ap, ◌∙◌, subst, inl, inr, ⊎_elim}
use Rattle.books.proofs.Standing.{changed_same, changed_other}
use Rattle.books.specs.Limits.{inside}
use Rattle.books.specs.Meaning.{changed}
use Rattle.file_format.proofs.Once.{right_or_one_fault}
use Rattle.file_format.proofs.RoundTrip.{right_is_the_file}
use Rattle.file_format.specs.FileOf.{Graded, grade_in}
use Rattle.file_format.specs.Rules as rules
use Rattle.pages.proofs.Calls.{never_some, same_some}
use Rattle.pages.proofs.Off.{lawful}
use Rattle.pages.specs.Answers.{Right, Lawful, Given}
use Rattle.pages.specs.Files.{StandingGradesAreOfTheKind}
use Rattle.pages.specs.Lines.{Opening, Line, Call, Outcome}
use Rattle.pages.specs.Reasons.{Reason, NoReason, file_expected, pair_of}
use Rattle.pages.specs.Standing.{Standing, first_of, regraded, grade_by, grade_at, standing}
use Rattle.refusals.specs.declared.refusal.Refusal.TheVariants as refusal
use Rattle.std.proofs.lemmas.Bool.{cases_Bool, cases_eq, both_ways}

module _ (valid : ℕ → Bool) (p t : ℕ) where
  graded_same :
      (f g : ℕ → ℕ → Option ℕ) → ((i j : ℕ) → g i j ≡ f i j) → Graded valid p t f → Graded valid p t g
  graded_same f g e G =
      record {
        sizes = G.sizes;
        outside = λ i j h. e i j ∙ G.outside i j h;
        codes = λ i j code h. G.codes i j code (sym (e i j) ∙ h);
      }

  -- grades with one pair changed to a valid code inside the sizes, or to none
  graded_changed :
      (f : ℕ → ℕ → Option ℕ) (a b : ℕ) (v : Option ℕ) → inside p t a b ≡ true
      → ((code : ℕ) → v ≡ Some code → (valid code ≡ true) × (code < 2 ^ 32)) → Graded valid p t f
      → Graded valid p t (changed f a b v)
  graded_changed f a b v w c G = record { sizes = G.sizes; outside = out; codes = at }
    where
      pair : (i j : ℕ) → ((i ≡ a) × (j ≡ b)) ⊎ ((i ≡ a) × (j ≡ b) → ⊥)
      pair i j =
          ⊎_elim
          (λ u. ⊎_elim (λ k. inl (u, k)) (λ k. inr (λ q. k q.1)) (cases_eq j b))
          (λ u. inr (λ q. u q.0))
          (cases_eq i a)

      here : (i j : ℕ) → (i ≡ a) × (j ≡ b) → changed f a b v i j ≡ v
      here i j q = ap (λ (n : ℕ). changed f a b v n j) q.0 ∙ ap (changed f a b v a) q.1 ∙ changed_same f a b v

      out : (i j : ℕ) → inside p t i j ≡ false → changed f a b v i j ≡ None
      out i j h =
          ⊎_elim
          (λ q. absurd (both_ways (inside p t a b) (sym (ap (λ (n : ℕ). inside p t n j) q.0 ∙ ap (inside p t a) q.1) ∙ h) w))
          (λ q. changed_other f a b v i j q ∙ G.outside i j h)
          (pair i j)

      at : (i j code : ℕ) → changed f a b v i j ≡ Some code → (valid code ≡ true) × (code < 2 ^ 32)
      at i j code h =
          ⊎_elim
          (λ q. c code (sym (here i j q) ∙ h))
          (λ q. G.codes i j code (sym (changed_other f a b v i j q) ∙ h))
          (pair i j)

  graded_first :
      (f g : ℕ → ℕ → Option ℕ) → Graded valid p t f → Graded valid p t g → Graded valid p t (λ i j. first_of (f i j) (g i j))
  graded_first f g F G = record { sizes = G.sizes; outside = out; codes = λ i j code. at i j code (f i j) refl }
    where
      out : (i j : ℕ) → inside p t i j ≡ false → first_of (f i j) (g i j) ≡ None
      out i j h = ap (λ (x : Option ℕ). first_of x (g i j)) (F.outside i j h) ∙ G.outside i j h

      at :
          (i j code : ℕ) (x : Option ℕ) → f i j ≡ x → first_of x (g i j) ≡ Some code
          → (valid code ≡ true) × (code < 2 ^ 32)
      at i j code (Some c) e h = F.codes i j code (e ∙ h)
      at i j code None e h = G.codes i j code h

-- a file that is not refused is right
pub file_right :
    (o : Opening) (s : Standing) (l : Line) (file : List ℕ) → NoReason o s l → l.call ≡ Call.load file
    → rules.Right (file_expected o) file
file_right o s l file n c =
    ⊎_elim
    (λ r. r)
    (λ w. absurd (n (refusal.File w.0) (Reason.faulty_file file w.0 c w.1)))
    (right_or_one_fault (file_expected o) file).0

by_call :
    (o : Opening) (s : Standing) (l : Line) (c : Call) → Lawful o → NoReason o s l → l.call ≡ c → Given c
    → Graded o.valid o.packages o.translators s.grade
    → Graded o.valid o.packages o.translators (λ i j. regraded c i j (s.grade i j))
by_call o s l (Call.grade a b code) L n e k G =
    graded_changed o.valid o.packages o.translators s.grade a b (Some code)
    (⊎_elim (λ h. h) (λ h. absurd (n refusal.Place (Reason.outside_the_sizes a b (ap pair_of e) h))) (cases_Bool (inside o.packages o.translators a b)))
    (λ d h. let q : code ≡ d = same_some code d h in
    let v : o.valid code ≡ true =
    ⊎_elim (λ x. x) (λ x. absurd (n refusal.Grade (Reason.code_not_valid a b code e x))) (cases_Bool (o.valid code)) in
    (sym (ap o.valid q) ∙ v, subst (λ (x : ℕ). x < 2 ^ 32) q (L.order.fits code v)))
    G
by_call o s l (Call.strike a b) L n e k G =
    graded_changed o.valid o.packages o.translators s.grade a b None
    (⊎_elim (λ h. h) (λ h. absurd (n refusal.Place (Reason.outside_the_sizes a b (ap pair_of e) h))) (cases_Bool (inside o.packages o.translators a b)))
    (λ d h. absurd (never_some d h)) G
by_call o s l (Call.load file) L n e k G =
    graded_first o.valid o.packages o.translators (grade_in file) s.grade
    (right_is_the_file o.number o.valid o.packages o.translators file L.sizes k (file_right o s l file n e)).0 G
by_call o s l Call.draw L n e k G = G
by_call o s l (Call.publish tag) L n e k G = G
by_call o s l (Call.withdraw tag) L n e k G = G
by_call o s l Call.show L n e k G = G

pub standing_grades_are_of_the_kind : StandingGradesAreOfTheKind
standing_grades_are_of_the_kind o [] a =
    record { sizes = a.sizes; outside = λ i j h. refl; codes = λ i j code h. absurd (never_some code h) }
standing_grades_are_of_the_kind o (e ∷ above) a = by_way a.0 (standing_grades_are_of_the_kind o above a.1)
  where
    s : Standing
    s = standing o.packages above

    KindOf : (ℕ → ℕ → Option ℕ) → Type 0
    KindOf g = Graded o.valid o.packages o.translators g

    as_before : (u : Outcome) → e.answer.outcome ≡ u → ((i j : ℕ) (old : Option ℕ) → grade_by u e.line.call i j old ≡ old)
        → KindOf (grade_at above) → KindOf (grade_at (e ∷ above))
    as_before u x k G =
        graded_same o.valid o.packages o.translators (grade_at above) (grade_at (e ∷ above))
        (λ i j. ap (λ (v : Outcome). grade_by v e.line.call i j (grade_at above i j)) x ∙ k i j (grade_at above i j)) G

    by_way : Right o s e.line e.answer → KindOf (grade_at above) → KindOf (grade_at (e ∷ above))
    by_way (Right.refused r x f t u) G = as_before (Outcome.refused r) x (λ i j old. refl) G
    by_way (Right.done n c k x t u) G =
        graded_same o.valid o.packages o.translators (λ i j. regraded e.line.call i j (grade_at above i j)) (grade_at (e ∷ above))
        (λ i j. ap (λ (v : Outcome). grade_by v e.line.call i j (grade_at above i j)) x)
        (by_call o s e.line e.line.call (lawful o above a.1) n refl k G)
    by_way (Right.drawn n c code x u) G = as_before (Outcome.drawn code) x (λ i j old. refl) G
    by_way (Right.short n c x u) G = as_before Outcome.short x (λ i j old. refl) G
    by_way (Right.shown n c d q x u) G = as_before (Outcome.shown d.lowest) x (λ i j old. refl) G
