-- Never more grades stand than the limit.
use Rattle.std.proofs.Common.{◌≡◌, ℕ, ◌+◌, ◌≤◌, true, List, [], ◌∷◌, is_some as option_is_some, Some, None, Option, refl, ap, ◌∙◌, ⊎_elim, arith}
use Rattle.books.proofs.Inside.{lies}
use Rattle.books.proofs.Standing.{changed_other, changed_same, standing_changed, standing_empty, standing_same}
use Rattle.books.specs.Limits.{inside}
use Rattle.books.specs.Meaning.{changed, one, standing}
use Rattle.file_format.proofs.Encoded.{file_count}
use Rattle.file_format.proofs.RoundTrip.{right_is_the_file}
use Rattle.file_format.specs.FileOf.{grade_in}
use Rattle.file_format.specs.Layout.{count_in}
use Rattle.page_facts.proofs.Ways.{is_none, is_some, load_finds_none}
use Rattle.page_facts.specs.Grades.{LimitIsKept}
use Rattle.pages.proofs.Kept.{file_right}
use Rattle.pages.proofs.Off.{lawful}
use Rattle.pages.specs.Answers.{Given, Lawful, Right}
use Rattle.pages.specs.Lines.{Opening, Line, Call, Outcome}
use Rattle.pages.specs.Reasons.{NoReason, Reason, pair_of}
use Rattle.pages.specs.Standing.{Standing, first_of, grade_at, grade_by, regraded, standing as stands}
use Rattle.refusals.specs.declared.refusal.Refusal.TheVariants as refusal
use Rattle.std.proofs.lemmas.Bool.{cases_Bool, cases_eq, cases_lt}

module _ (o : Opening) (L : Lawful o) (s : Standing) (l : Line) (n : NoReason o s l) where
  abbrev Kept : (ℕ → ℕ → Option ℕ) → Type 0
  Kept g = standing g o.packages o.translators ≤ o.limit

  within : (a b : ℕ) → pair_of l.call ≡ Some (a, b) → inside o.packages o.translators a b ≡ true
  within a b e =
      ⊎_elim (λ h. h) (λ h. absurd (n refusal.Place (Reason.outside_the_sizes a b e h))) (cases_Bool (inside o.packages o.translators a b))

  -- one pair changed
  moved : (a b : ℕ) (v : Option ℕ) → inside o.packages o.translators a b ≡ true
      → standing (changed s.grade a b v) o.packages o.translators + one (s.grade a b)
      ≡ standing s.grade o.packages o.translators + one v
  moved a b v h =
      let w = lies o.packages o.translators a b h in
      let m =
      standing_changed s.grade (changed s.grade a b v) o.packages o.translators a b w.row w.row_most w.column w.column_most
      (changed_other s.grade a b v) in
      let q : one (changed s.grade a b v a b) ≡ one v = ap one (changed_same s.grade a b v) in
      omega (arith, m, q)

  graded : (a b code : ℕ) → l.call ≡ Call.grade a b code → Kept s.grade → Kept (changed s.grade a b (Some code))
  graded a b code e k =
      let m = moved a b (Some code) (within a b (ap pair_of e)) in
      ⊎_elim
      (λ h. let y = is_some (s.grade a b) h in let q : one (s.grade a b) ≡ 1 = ap one y.1 in omega (arith, m, q, k))
      (λ h.
      let q : one (s.grade a b) ≡ 0 = ap one (is_none (s.grade a b) h) in
      ⊎_elim
      (λ z. absurd (n refusal.Full (Reason.new_pair_at_the_limit a b code e h z)))
      (λ z. omega (arith, m, q, k, z))
      (cases_eq (standing s.grade o.packages o.translators) o.limit))
      (cases_Bool (option_is_some (s.grade a b)))

  loaded : (file : List ℕ) → l.call ≡ Call.load file → Given (Call.load file) → Kept (λ i j. first_of (grade_in file i j) (s.grade i j))
  loaded file e k =
      let p : ℕ = o.packages in
      let t : ℕ = o.translators in
      let w = right_is_the_file o.number o.valid p t file L.sizes k (file_right o s l file n e) in
      let c : count_in file ≡ standing (grade_in file) p t =
      ap count_in w.1 ∙ file_count o.valid p t (grade_in file) w.0 o.number in
      let d : standing (λ i j. first_of (grade_in file i j) (s.grade i j)) p t ≡ standing (grade_in file) p t =
      standing_same (grade_in file) (λ i j. first_of (grade_in file i j) (s.grade i j)) p t
      (λ i j _ _ _ _. ap (first_of (grade_in file i j)) (load_finds_none o s l file n e i j) ∙ itself (grade_in file i j)) in
      ⊎_elim
      (λ h. absurd (n refusal.Full (Reason.more_records_than_the_limit file e h)))
      (λ h. omega (arith, c, d, h))
      (cases_lt o.limit (count_in file))
    where
      itself : (x : Option ℕ) → first_of x None ≡ x
      itself None = refl
      itself (Some c) = refl

  by_call : (c : Call) → l.call ≡ c → Given c → Kept s.grade → Kept (λ i j. regraded c i j (s.grade i j))
  by_call (Call.grade a b code) e g k = graded a b code e k
  by_call (Call.strike a b) e g k = let m = moved a b None (within a b (ap pair_of e)) in omega (arith, m, k)
  by_call (Call.load file) e g k = loaded file e g
  by_call Call.draw e g k = k
  by_call (Call.publish tag) e g k = k
  by_call (Call.withdraw tag) e g k = k
  by_call Call.show e g k = k

pub limit_is_kept : LimitIsKept
limit_is_kept o [] a = omega (arith, standing_empty (grade_at []) o.packages o.translators (λ i j. refl))
limit_is_kept o (e ∷ above) a = by_way a.0 (limit_is_kept o above a.1)
  where
    s : Standing
    s = stands o.packages above

    Few : (ℕ → ℕ → Option ℕ) → Type 0
    Few g = standing g o.packages o.translators ≤ o.limit

    as_before : (u : Outcome) → e.answer.outcome ≡ u → ((i j : ℕ) (old : Option ℕ) → grade_by u e.line.call i j old ≡ old)
        → Few (grade_at above) → Few (grade_at (e ∷ above))
    as_before u x k h =
        let q =
        standing_same (grade_at above) (grade_at (e ∷ above)) o.packages o.translators
        (λ i j _ _ _ _. ap (λ (v : Outcome). grade_by v e.line.call i j (grade_at above i j)) x ∙ k i j (grade_at above i j)) in
        omega (arith, q, h)

    by_way : Right o s e.line e.answer → Few (grade_at above) → Few (grade_at (e ∷ above))
    by_way (Right.refused r x f t u) h = as_before (Outcome.refused r) x (λ i j old. refl) h
    by_way (Right.done n c k x t u) h =
        let q =
        standing_same (λ i j. regraded e.line.call i j (grade_at above i j)) (grade_at (e ∷ above)) o.packages o.translators
        (λ i j _ _ _ _. ap (λ (v : Outcome). grade_by v e.line.call i j (grade_at above i j)) x) in
        let m = by_call o (lawful o above a.1) s e.line n e.line.call refl k h in
        omega (arith, q, m)
    by_way (Right.drawn n c code x u) h = as_before (Outcome.drawn code) x (λ i j old. refl) h
    by_way (Right.short n c x u) h = as_before Outcome.short x (λ i j old. refl) h
    by_way (Right.shown n c d q x u) h = as_before (Outcome.shown d.lowest) x (λ i j old. refl) h
