-- A standing grade is that of the last accepted line for its pair.
use Rattle.std.proofs.Common.{◌≡◌, ℕ, true, false, ◌&&◌, eqb, ◌⊎◌, List, [], ◌∷◌, ◌++◌, Some, None, Option, sym, refl, ap, ◌∙◌, subst, inl, inr, ⊎_elim, arith}
use Rattle.books.proofs.Standing.{changed_same}
use Rattle.file_format.specs.FileOf.{grade_in}
use Rattle.page_facts.proofs.Grades.{at_done}
use Rattle.page_facts.proofs.Ways.{kind_of}
use Rattle.page_facts.specs.Grades.{Gives, LastLineDecides, Silent, StandsSince, Strikes}
use Rattle.page_facts.specs.Lists.{Each}
use Rattle.pages.proofs.Calls.{never_some, ordinal, same_file, same_grade, same_some, same_strike}
use Rattle.pages.specs.Lines.{Event, Call, Outcome}
use Rattle.pages.specs.Standing.{first_of, grade_at, grade_by, regraded}
use Rattle.std.proofs.lemmas.Bool.{and_from, and_parts, both_ways, cases_Bool, cond-false, cond-true, eq-eqb, eqb-true}

module _ (i j : ℕ) where
  -- what a line makes of the grade that stood: a code that it gives, none where it strikes, else the same
  abbrev Made : Event → Option ℕ → Option ℕ → Type 0
  Made e old new =
      ((code : ℕ) × Gives i j code e × (new ≡ Some code))
      ⊎ ((Strikes i j e × (new ≡ None)) ⊎ (Silent i j e × (new ≡ old)))

  -- a line with another outcome than done is silent
  not_done : (e : Event) (u : Outcome) → e.answer.outcome ≡ u → (kind_of u ≡ 0 → ⊥) → Silent i j e
  not_done e u x n =
      record {
        gives = λ code g. gave code g;
        strikes = λ s. n (sym (ap kind_of x) ∙ ap kind_of s.outcome);
      }
    where
      gave : (code : ℕ) → Gives i j code e → ⊥
      gave code (Gives.graded q y) = n (sym (ap kind_of x) ∙ ap kind_of y)
      gave code (Gives.loaded file q h y) = n (sym (ap kind_of x) ∙ ap kind_of y)

  -- and so is a line of a call that neither grades, strikes nor loads
  other_call : (e : Event) (c : Call) → e.line.call ≡ c → ((ordinal c ≡ 0) ⊎ ((ordinal c ≡ 1) ⊎ (ordinal c ≡ 2)) → ⊥) → Silent i j e
  other_call e c q n =
      record {
        gives = λ code g. gave code g;
        strikes = λ s. n (inr (inl (sym (ap ordinal q) ∙ ap ordinal s.call)));
      }
    where
      gave : (code : ℕ) → Gives i j code e → ⊥
      gave code (Gives.graded r y) = n (inl (sym (ap ordinal q) ∙ ap ordinal r))
      gave code (Gives.loaded file r h y) = n (inr (inr (sym (ap ordinal q) ∙ ap ordinal r)))

  same_place : (a b : ℕ) → i ≡ a → j ≡ b → (eqb i a && eqb j b) ≡ true
  same_place a b x y = and_from (eqb i a) (eqb j b) (eq-eqb i a x) (eq-eqb j b y)

  grade_made :
      (e : Event) (a b code : ℕ) (old : Option ℕ) → e.line.call ≡ Call.grade a b code → e.answer.outcome ≡ Outcome.done
      → Made e old (regraded (Call.grade a b code) i j old)
  grade_made e a b code old q x = ⊎_elim here there (cases_Bool (eqb i a && eqb j b))
    where
      here : (eqb i a && eqb j b) ≡ true → Made e old (regraded (Call.grade a b code) i j old)
      here h =
          let w = and_parts (eqb i a) (eqb j b) h in
          let r : e.line.call ≡ Call.grade i j code =
          q ∙ ap (λ (n : ℕ). Call.grade n b code) (sym (eqb-true i a w.0)) ∙ ap (λ (n : ℕ). Call.grade i n code) (sym (eqb-true j b w.1)) in
          inl (code, Gives.graded r x, cond-true (eqb i a && eqb j b) (Some code) old h)

      gave : (eqb i a && eqb j b) ≡ false → (c : ℕ) → Gives i j c e → ⊥
      gave h c (Gives.graded r y) =
          let w = same_grade a b code i j c (sym q ∙ r) in
          both_ways (eqb i a && eqb j b) h (same_place a b (sym w.pkg) (sym w.translator))
      gave h c (Gives.loaded file r k y) = omega (arith, ap ordinal (sym q ∙ r))

      there : (eqb i a && eqb j b) ≡ false → Made e old (regraded (Call.grade a b code) i j old)
      there h =
          inr
          (inr (
            record { gives = gave h; strikes = λ s. omega (arith, ap ordinal (sym q ∙ s.call)) },
            cond-false (eqb i a && eqb j b) (Some code) old h,
          ))

  strike_made :
      (e : Event) (a b : ℕ) (old : Option ℕ) → e.line.call ≡ Call.strike a b → e.answer.outcome ≡ Outcome.done
      → Made e old (regraded (Call.strike a b) i j old)
  strike_made e a b old q x = ⊎_elim here there (cases_Bool (eqb i a && eqb j b))
    where
      here : (eqb i a && eqb j b) ≡ true → Made e old (regraded (Call.strike a b) i j old)
      here h =
          let w = and_parts (eqb i a) (eqb j b) h in
          let r : e.line.call ≡ Call.strike i j =
          q ∙ ap (λ (n : ℕ). Call.strike n b) (sym (eqb-true i a w.0)) ∙ ap (λ (n : ℕ). Call.strike i n) (sym (eqb-true j b w.1)) in
          inr (inl (record { call = r; outcome = x }, cond-true (eqb i a && eqb j b) None old h))

      gave : (c : ℕ) → Gives i j c e → ⊥
      gave c (Gives.graded r y) = omega (arith, ap ordinal (sym q ∙ r))
      gave c (Gives.loaded file r k y) = omega (arith, ap ordinal (sym q ∙ r))

      there : (eqb i a && eqb j b) ≡ false → Made e old (regraded (Call.strike a b) i j old)
      there h =
          inr
          (inr (
            record {
              gives = gave;
              strikes = λ s.
                  let w = same_strike a b i j (sym q ∙ s.call) in
                  both_ways (eqb i a && eqb j b) h (same_place a b (sym w.0) (sym w.1));
            },
            cond-false (eqb i a && eqb j b) None old h,
          ))

  load_made :
      (e : Event) (file : List ℕ) (old x : Option ℕ) → grade_in file i j ≡ x → e.line.call ≡ Call.load file
      → e.answer.outcome ≡ Outcome.done → Made e old (first_of x old)
  load_made e file old (Some c) h q y = inl (c, Gives.loaded file q h y, refl)
  load_made e file old None h q y = inr (inr (record { gives = gave; strikes = λ s. omega (arith, ap ordinal (sym q ∙ s.call)) }, refl))
    where
      gave : (c : ℕ) → Gives i j c e → ⊥
      gave c (Gives.graded r z) = omega (arith, ap ordinal (sym q ∙ r))
      gave c (Gives.loaded f r k z) =
          never_some c (sym h ∙ ap (λ (g : List ℕ). grade_in g i j) (same_file file f (sym q ∙ r)) ∙ k)

  by_call :
      (e : Event) (c : Call) (old : Option ℕ) → e.line.call ≡ c → e.answer.outcome ≡ Outcome.done → Made e old (regraded c i j old)
  by_call e (Call.grade a b code) old q x = grade_made e a b code old q x
  by_call e (Call.strike a b) old q x = strike_made e a b old q x
  by_call e (Call.load file) old q x = load_made e file old (grade_in file i j) refl q x
  by_call e Call.draw old q x = inr (inr (other_call e Call.draw q (λ n. omega arith), refl))
  by_call e (Call.publish tag) old q x = inr (inr (other_call e (Call.publish tag) q (λ n. omega arith), refl))
  by_call e (Call.withdraw tag) old q x = inr (inr (other_call e (Call.withdraw tag) q (λ n. omega arith), refl))
  by_call e Call.show old q x = inr (inr (other_call e Call.show q (λ n. omega arith), refl))

  by_outcome : (e : Event) (u : Outcome) (old : Option ℕ) → e.answer.outcome ≡ u → Made e old (grade_by u e.line.call i j old)
  by_outcome e Outcome.done old x = by_call e e.line.call old refl x
  by_outcome e (Outcome.drawn code) old x = inr (inr (not_done e (Outcome.drawn code) x (λ n. omega arith), refl))
  by_outcome e Outcome.short old x = inr (inr (not_done e Outcome.short x (λ n. omega arith), refl))
  by_outcome e (Outcome.shown code) old x = inr (inr (not_done e (Outcome.shown code) x (λ n. omega arith), refl))
  by_outcome e (Outcome.refused r) old x = inr (inr (not_done e (Outcome.refused r) x (λ n. omega arith), refl))

  made : (e : Event) (above : List Event) → Made e (grade_at above i j) (grade_at (e ∷ above) i j)
  made e above = by_outcome e e.answer.outcome (grade_at above i j) refl

  -- a line that gives a code
  given : (e : Event) (above : List Event) (code : ℕ) → Gives i j code e → grade_at (e ∷ above) i j ≡ Some code
  given e above code (Gives.graded q x) =
      at_done above e (Call.grade i j code) q x i j ∙ changed_same (grade_at above) i j (Some code)
  given e above code (Gives.loaded file q h x) =
      at_done above e (Call.load file) q x i j ∙ ap (λ (z : Option ℕ). first_of z (grade_at above i j)) h

  silent_keeps : (e : Event) (above : List Event) → Silent i j e → grade_at (e ∷ above) i j ≡ grade_at above i j
  silent_keeps e above s =
      ⊎_elim
      (λ w. absurd (s.gives w.0 w.1))
      (λ r. ⊎_elim (λ w. absurd (s.strikes w.0)) (λ w. w.1) r)
      (made e above)

  stands : (code : ℕ) (below above : List Event) (e : Event) → Gives i j code e → Each (Silent i j) below → grade_at (below ++ e ∷ above) i j ≡ Some code
  stands code [] above e g s = given e above code g
  stands code (f ∷ below) above e g s = silent_keeps f (below ++ e ∷ above) s.0 ∙ stands code below above e g s.1

  since : (code : ℕ) (h : List Event) → grade_at h i j ≡ Some code → StandsSince i j code h
  since code [] e = absurd (never_some code e)
  since code (e ∷ above) x =
      ⊎_elim
      (λ w.
      record {
        below = [];
        line = e;
        above = above;
        is = refl;
        gives = subst (λ (c : ℕ). Gives i j c e) (same_some w.0 code (sym w.2 ∙ x)) w.1;
        silent = tt;
      })
      (λ r. ⊎_elim (λ w. absurd (never_some code (sym w.1 ∙ x))) (λ w. more w.0 (since code above (sym w.1 ∙ x))) r)
      (made e above)
    where
      more : Silent i j e → StandsSince i j code above → StandsSince i j code (e ∷ above)
      more s w =
          record {
            below = e ∷ w.below;
            line = w.line;
            above = w.above;
            is = ap (λ (h : List Event). e ∷ h) w.is;
            gives = w.gives;
            silent = (s, w.silent);
          }

pub last_line_decides : LastLineDecides
last_line_decides h i j code = (
  since i j code h,
  λ w. ap (λ (z : List Event). grade_at z i j) w.is ∙ stands i j code w.below w.above w.line w.gives w.silent,
)
