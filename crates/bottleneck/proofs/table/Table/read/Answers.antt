use Rattle.std.proofs.Common.{◌≡◌, ℕ, ◌+◌, ◌*◌, ◌≤◌, List, get_or, refl, sym, ap, ◌∙◌, subst, ⊎_elim, arith, rules}
use Rattle.bottleneck.proofs.Rows.{table_read}
use Rattle.bottleneck.proofs.table.Table.read.Goals as goal
use Rattle.bottleneck.proofs.table.Table.read.Goals.{else-loop-pkg-test, then-loop-pkg-test+else-pkg-packages}
use Rattle.bottleneck.specs.Codes.{grade_of_code, table_grades}
use Rattle.bottleneck.specs.Grades.{valid_grades}
use Rattle.augmenting.proofs.Arrays.{all_alike}
use Rattle.std.proofs.lemmas.Bool.{cases_eq}

pub loop-pkg-init : goal.loop-pkg-init
loop-pkg-init g c = (refl, omega arith, omega arith, λ k j a b. absurd (omega arith), λ x _. all_alike 3185 x 0, λ x _. all_alike 3185 x 0)

pub returns-clause-grades : goal.returns-clause-grades
returns-clause-grades g c k j =
    let m = g.R.Reading.meaning c.args.grades.now in
    let valid = g.K.Kind.valid in
    let sound = g.met.R.Reading.sound c.args.grades.now in
    let i = c.loop-pkg.invariant in
    let n = c.packages-packages.result in
    let e = c.packages-packages.ensures in
    elim c.loop-pkg-test.branch [
      | else-loop-pkg-test w ↦
          let last : c.loop-pkg.pkg ≡ n + 1 = omega (arith, w.loop-pkg-test.false, i.1, i.2) in
          subst (λ (cs : List ℕ). table_grades cs k j ≡ valid_grades valid m k j) (sym w.codes-is)
          (table_read valid m sound c.loop-pkg.codes n (sym e) (λ a b l h. i.3 a b l (omega (arith, last, h))) i.4
          (λ x h. i.5 x (omega (arith, last, h))) k j)
      | then-loop-pkg-test+else-pkg-packages w ↦
          let last : c.loop-pkg.pkg ≡ n = search rules in
          let cs = w.read_row.new.codes in
          let rows : (a b : ℕ) → 1 ≤ a → a ≤ n → b ≤ 64 → grade_of_code (get_or cs (65 * a + b) 0) ≡ valid_grades valid m a b =
          λ a b l h r.
          ⊎_elim
          (λ q. subst (λ x. grade_of_code (get_or cs (65 * x + b) 0) ≡ valid_grades valid m x b) (sym q) (w.read_row.ensures.row b r))
          (λ d. ap grade_of_code (w.read_row.ensures.before (65 * a + b) (omega (arith, last, h, d, r))) ∙ i.3 a b l (omega (arith, last, h, d)) r)
          (cases_eq a c.loop-pkg.pkg) in
          subst (λ (x : List ℕ). table_grades x k j ≡ valid_grades valid m k j) (sym w.codes-is)
          (table_read valid m sound cs n (sym e) rows (λ x h. w.read_row.ensures.before x (omega (arith, i.1, h)) ∙ i.4 x h)
          (λ x h. w.read_row.ensures.after x (omega (arith, last, h))) k j)
    ]
