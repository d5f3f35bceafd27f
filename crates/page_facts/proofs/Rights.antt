-- The table of roles is what the definitions ask for.
use Rattle.std.proofs.Common.{◌≡◌, ℕ, ◌≤◌, true, false, eqb, leb, List, [], ◌∷◌, sym, refl, ◌∙◌, ⊎_elim, arith}
use Rattle.page_facts.specs.Rights.{RolesByTheTable, among, roles_for}
use Rattle.pages.proofs.Clear.{Clear, is_first}
use Rattle.pages.proofs.Told.{refused_for_the_first_reason}
use Rattle.pages.specs.Lines.{Opening, Line, Call}
use Rattle.pages.specs.Reasons.{Reason, least_role, may}
use Rattle.pages.specs.Standing.{Standing, standing}
use Rattle.augmenting.proofs.Gathered.{same_bool}
use Rattle.refusals.specs.declared.refusal.Refusal.TheVariants as refusal
use Rattle.std.proofs.lemmas.Bool.{and_from, and_parts, both_ways, cases_eq, eq-eqb, eqb-true, le-leb, leb-true, or_cases, or_left, or_right}

here : (r x : ℕ) (xs : List ℕ) → r ≡ x → among r (x ∷ xs) ≡ true
here r x xs e = or_left (eqb r x) (among r xs) (eq-eqb r x e)

there : (r x : ℕ) (xs : List ℕ) → among r xs ≡ true → among r (x ∷ xs) ≡ true
there r x xs h = or_right (eqb r x) (among r xs) h

never : (r : ℕ) → among r [] ≡ true → ⊥
never r h = both_ways false refl h

between : (l r : ℕ) → may l r ≡ true → (l ≤ r) × (r ≤ 3)
between l r h = let w = and_parts (leb l r) (leb r 3) h in (leb-true l r w.0, leb-true r 3 w.1)

may_from : (l r : ℕ) → l ≤ r → r ≤ 3 → may l r ≡ true
may_from l r h k = and_from (leb l r) (leb r 3) (le-leb l r h) (le-leb r 3 k)

three : (r : ℕ) → may 3 r ≡ among r (3 ∷ [])
three r =
    same_bool (may 3 r) (among r (3 ∷ []))
    (λ h. let w = between 3 r h in here r 3 [] (omega (arith, w.0, w.1)))
    (λ h. ⊎_elim (λ q. let e = eqb-true r 3 q in may_from 3 r (omega (arith, e)) (omega (arith, e))) (λ q. absurd (never r q)) (or_cases (eqb r 3) (among r []) h))

two : (r : ℕ) → may 2 r ≡ among r (2 ∷ 3 ∷ [])
two r =
    same_bool (may 2 r) (among r (2 ∷ 3 ∷ []))
    (λ h.
    let w = between 2 r h in
    ⊎_elim (λ q. here r 2 (3 ∷ []) q) (λ d. there r 2 (3 ∷ []) (here r 3 [] (omega (arith, w.0, w.1, d)))) (cases_eq r 2))
    (λ h.
    ⊎_elim
    (λ q. let e = eqb-true r 2 q in may_from 2 r (omega (arith, e)) (omega (arith, e)))
    (λ q. let w = between 3 r (three r ∙ q) in may_from 2 r (omega (arith, w.0)) w.1)
    (or_cases (eqb r 2) (among r (3 ∷ [])) h))

one : (r : ℕ) → may 1 r ≡ among r (1 ∷ 2 ∷ 3 ∷ [])
one r =
    same_bool (may 1 r) (among r (1 ∷ 2 ∷ 3 ∷ []))
    (λ h.
    let w = between 1 r h in
    ⊎_elim
    (λ q. here r 1 (2 ∷ 3 ∷ []) q)
    (λ d. there r 1 (2 ∷ 3 ∷ []) (sym (two r) ∙ may_from 2 r (omega (arith, w.0, d)) w.1))
    (cases_eq r 1))
    (λ h.
    ⊎_elim
    (λ q. let e = eqb-true r 1 q in may_from 1 r (omega (arith, e)) (omega (arith, e)))
    (λ q. let w = between 2 r (two r ∙ q) in may_from 1 r (omega (arith, w.0)) w.1)
    (or_cases (eqb r 1) (among r (2 ∷ 3 ∷ [])) h))

pub same_right : (c : Call) (r : ℕ) → may (least_role c) r ≡ among r (roles_for c)
same_right (Call.grade a b code) r = two r
same_right (Call.strike a b) r = three r
same_right (Call.load file) r = three r
same_right Call.draw r = two r
same_right (Call.publish tag) r = three r
same_right (Call.withdraw tag) r = two r
same_right Call.show r = one r

-- nothing has a smaller number than a refusal for the role
pub first_of_all : (o : Opening) (s : Standing) (l : Line) → Clear o s l 2
first_of_all o s l =
    record {
      role = λ b. absurd (omega arith);
      idle = λ b. absurd (omega arith);
      slip = λ b. absurd (omega arith);
      empty = λ b. absurd (omega arith);
      place = λ b. absurd (omega arith);
      code = λ b. absurd (omega arith);
      taken = λ b. absurd (omega arith);
      shown = λ b. absurd (omega arith);
      plan = λ b. absurd (omega arith);
      set = λ b. absurd (omega arith);
      file = λ b. absurd (omega arith);
      room = λ b. absurd (omega arith);
      records = λ b. absurd (omega arith);
    }

lacks : (o : Opening) (s : Standing) (l : Line) → Reason o s l refusal.Role → may (least_role l.call) l.role ≡ false
lacks o s l (Reason.lacks_the_right w) = w

pub roles_by_the_table : RolesByTheTable
roles_by_the_table o above e page =
    let s : Standing = standing o.packages above in
    let told = refused_for_the_first_reason o above e refusal.Role page in (
      λ x. sym (same_right e.line.call e.line.role) ∙ lacks o s e.line (told.0 x).0.holds,
      λ h. told.1 (is_first o s e.line refusal.Role (Reason.lacks_the_right (same_right e.line.call e.line.role ∙ h)) (first_of_all o s e.line)),
    )
