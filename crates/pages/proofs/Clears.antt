-- For each call, the facts that keep off every reason with a number below n.
use Rattle.std.proofs.Common.{◌≡◌, ℕ, ◌<◌, ◌≤◌, true, false, List, length, is_some, Some, None, Option, sym, refl, ap, ◌∙◌, subst, arith}
use Rattle.books.specs.Limits.{inside}
use Rattle.books.specs.Meaning.{standing}
use Rattle.file_format.specs.Layout.{count_in}
use Rattle.file_format.specs.Rules.{Faulty}
use Rattle.pages.proofs.Calls.{ordinal, never_some, same_some, same_file, same_grade, same_strike}
use Rattle.pages.proofs.Clear.{Clear}
use Rattle.pages.specs.Lines.{Opening, Line, Call}
use Rattle.pages.specs.Reasons.{may, least_role, wants_idle, slip_of, pair_of, writes_plan, file_expected}
use Rattle.pages.specs.Standing.{Standing}
use Rattle.refusals.specs.declared.fault.Fault.{Fault}
use Rattle.std.proofs.lemmas.Bool.{both_ways}

same_pair : (p t a b x y : ℕ) → inside p t a b ≡ true → ◌≡◌ {A = Option (ℕ × ℕ)} (Some (a, b)) (Some (x, y)) → inside p t x y ≡ true
same_pair p t a b x y h e =
    let q : ◌≡◌ {A = ℕ × ℕ} (a, b) (x, y) = same_some (a, b) (x, y) e in
    subst (λ (w : ℕ × ℕ). inside p t w.0 w.1 ≡ true) q h

module _ (o : Opening) (s : Standing) (role : ℕ) (plan set : List ℕ) (n : ℕ) where
  abbrev line : Call → Line
  line c = record { role = role; call = c; plan = plan; set = set }

  pub grade_clear :
      (a b code : ℕ) → (2 < n → may 2 role ≡ true) → (3 < n → is_some s.out ≡ false)
      → (6 < n → inside o.packages o.translators a b ≡ true) → (7 < n → o.valid code ≡ true)
      → (11 < n → is_some (s.grade a b) ≡ false → standing s.grade o.packages o.translators ≡ o.limit → ⊥)
      → Clear o s (line (Call.grade a b code)) n
  grade_clear a b code f2 f3 f6 f7 f11 =
      record {
        role = f2;
        idle = λ l _. f3 l;
        slip = λ _ tag e. absurd (never_some tag e);
        empty = λ _ file e. absurd (omega (arith, ap ordinal e));
        place = λ l x y e. same_pair o.packages o.translators a b x y (f6 l) e;
        code = λ l x y z e. sym (ap o.valid (same_grade a b code x y z e).code) ∙ f7 l;
        taken = λ _ x y e. absurd (omega (arith, ap ordinal e));
        shown = λ _ e. absurd (omega (arith, ap ordinal e));
        plan = λ _ e. absurd (both_ways false refl e);
        set = λ _ e. absurd (omega (arith, ap ordinal e));
        file = λ _ file f e _. omega (arith, ap ordinal e);
        room = λ l x y z e g c.
            let q = same_grade a b code x y z e in
            f11 l (ap (λ (w : ℕ). is_some (s.grade w b)) q.pkg ∙ ap (λ (w : ℕ). is_some (s.grade x w)) q.translator ∙ g) c;
        records = λ _ file e. absurd (omega (arith, ap ordinal e));
      }

  pub strike_clear :
      (a b : ℕ) → (2 < n → may 3 role ≡ true) → (3 < n → is_some s.out ≡ false)
      → (6 < n → inside o.packages o.translators a b ≡ true) → (8 < n → is_some (s.grade a b) ≡ true)
      → Clear o s (line (Call.strike a b)) n
  strike_clear a b f2 f3 f6 f8 =
      record {
        role = f2;
        idle = λ l _. f3 l;
        slip = λ _ tag e. absurd (never_some tag e);
        empty = λ _ file e. absurd (omega (arith, ap ordinal e));
        place = λ l x y e. same_pair o.packages o.translators a b x y (f6 l) e;
        code = λ _ x y z e. absurd (omega (arith, ap ordinal e));
        taken = λ l x y e.
            let q = same_strike a b x y e in
            sym (ap (λ (w : ℕ). is_some (s.grade w b)) q.0 ∙ ap (λ (w : ℕ). is_some (s.grade x w)) q.1) ∙ f8 l;
        shown = λ _ e. absurd (omega (arith, ap ordinal e));
        plan = λ _ e. absurd (both_ways false refl e);
        set = λ _ e. absurd (omega (arith, ap ordinal e));
        file = λ _ file f e _. omega (arith, ap ordinal e);
        room = λ _ x y z e g c. omega (arith, ap ordinal e);
        records = λ _ file e. absurd (omega (arith, ap ordinal e));
      }

  pub load_clear :
      (file : List ℕ) → (2 < n → may 3 role ≡ true) → (3 < n → is_some s.out ≡ false)
      → (5 < n → (i j : ℕ) → s.grade i j ≡ None)
      → (10 < n → (f : Fault) → Faulty (file_expected o) file f → ⊥) → (11 < n → count_in file ≤ o.limit)
      → Clear o s (line (Call.load file)) n
  load_clear file f2 f3 f5 f10 f11 =
      record {
        role = f2;
        idle = λ l _. f3 l;
        slip = λ _ tag e. absurd (never_some tag e);
        empty = λ l x e. f5 l;
        place = λ _ x y e. absurd (never_some (x, y) e);
        code = λ _ x y z e. absurd (omega (arith, ap ordinal e));
        taken = λ _ x y e. absurd (omega (arith, ap ordinal e));
        shown = λ _ e. absurd (omega (arith, ap ordinal e));
        plan = λ _ e. absurd (both_ways false refl e);
        set = λ _ e. absurd (omega (arith, ap ordinal e));
        file = λ l x f e w. f10 l f (subst (λ (z : List ℕ). Faulty (file_expected o) z f) (sym (same_file file x e)) w);
        room = λ _ x y z e g c. omega (arith, ap ordinal e);
        records = λ l x e. subst (λ (z : List ℕ). count_in z ≤ o.limit) (same_file file x e) (f11 l);
      }

  pub draw_clear :
      (2 < n → may 2 role ≡ true) → (3 < n → is_some s.out ≡ false) → (9 < n → o.packages ≤ length plan)
      → (9 < n → o.packages ≤ length set) → Clear o s (line Call.draw) n
  draw_clear f2 f3 f9 g9 =
      record {
        role = f2;
        idle = λ l _. f3 l;
        slip = λ _ tag e. absurd (never_some tag e);
        empty = λ _ file e. absurd (omega (arith, ap ordinal e));
        place = λ _ x y e. absurd (never_some (x, y) e);
        code = λ _ x y z e. absurd (omega (arith, ap ordinal e));
        taken = λ _ x y e. absurd (omega (arith, ap ordinal e));
        shown = λ _ e. absurd (omega (arith, ap ordinal e));
        plan = λ l _. f9 l;
        set = λ l _. g9 l;
        file = λ _ file f e _. omega (arith, ap ordinal e);
        room = λ _ x y z e g c. omega (arith, ap ordinal e);
        records = λ _ file e. absurd (omega (arith, ap ordinal e));
      }

  pub show_clear :
      (2 < n → may 1 role ≡ true) → (8 < n → is_some s.published ≡ true) → (9 < n → o.packages ≤ length plan)
      → Clear o s (line Call.show) n
  show_clear f2 f8 f9 =
      record {
        role = f2;
        idle = λ _ e. absurd (both_ways false refl e);
        slip = λ _ tag e. absurd (never_some tag e);
        empty = λ _ file e. absurd (omega (arith, ap ordinal e));
        place = λ _ x y e. absurd (never_some (x, y) e);
        code = λ _ x y z e. absurd (omega (arith, ap ordinal e));
        taken = λ _ x y e. absurd (omega (arith, ap ordinal e));
        shown = λ l _. f8 l;
        plan = λ l _. f9 l;
        set = λ _ e. absurd (omega (arith, ap ordinal e));
        file = λ _ file f e _. omega (arith, ap ordinal e);
        room = λ _ x y z e g c. omega (arith, ap ordinal e);
        records = λ _ file e. absurd (omega (arith, ap ordinal e));
      }

  -- publish and withdraw
  pub spend_clear :
      (c : Call) (tag : ℕ) → slip_of c ≡ Some tag → wants_idle c ≡ false → pair_of c ≡ None → writes_plan c ≡ false
      → 4 ≤ ordinal c → ordinal c ≤ 5 → (2 < n → may (least_role c) role ≡ true)
      → (4 < n → (is_some s.out ≡ true) × (tag ≡ o.tag)) → Clear o s (line c) n
  spend_clear c tag is keeps lone dry low high f2 f4 =
      record {
        role = f2;
        idle = λ _ e. absurd (both_ways (wants_idle c) keeps e);
        slip = λ l x e. ((f4 l).0, sym (same_some tag x (sym is ∙ e)) ∙ (f4 l).1);
        empty = λ _ file e. absurd (omega (arith, ap ordinal e));
        place = λ _ x y e. absurd (never_some (x, y) (sym lone ∙ e));
        code = λ _ x y z e. absurd (omega (arith, ap ordinal e));
        taken = λ _ x y e. absurd (omega (arith, ap ordinal e));
        shown = λ _ e. absurd (omega (arith, ap ordinal e));
        plan = λ _ e. absurd (both_ways (writes_plan c) dry e);
        set = λ _ e. absurd (omega (arith, ap ordinal e));
        file = λ _ file f e _. omega (arith, ap ordinal e);
        room = λ _ x y z e g c. omega (arith, ap ordinal e);
        records = λ _ file e. absurd (omega (arith, ap ordinal e));
      }
