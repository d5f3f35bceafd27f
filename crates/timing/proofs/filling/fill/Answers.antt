use Rattle.std.proofs.Common.{◌≡◌, ◌≤◌, refl, ap, ◌∙◌, subst, arith}
use Rattle.books.specs.Meaning.{count}
use Rattle.timing.proofs.Rows.{all_rows, empty_start, handed_on, in_sizes, next_row}
use Rattle.timing.proofs.filling.fill.Goals as goal
use Rattle.timing.specs.Table.{Overfull, Partly, sheet_of}

pub loop-row-init : goal.loop-row-init
loop-row-init g c =
    (empty_start g.B.Book.LIMIT c.args.codes.now (g.B.Reading.meaning c.args.book.now) c.requires, refl, refl)

pub loop-row-preserved : goal.loop-row-preserved
loop-row-preserved g c =
    let h = c.in_ok-fill_row.ensures in (
      next_row g.B.Book.LIMIT c.args.codes.now c.loop-row.row (g.B.Reading.meaning c.fill_row.new.book) h.answer,
      h.packages ∙ c.loop-row.invariant.1,
      h.translators ∙ c.loop-row.invariant.2,
    )

pub returns : goal.returns
returns g c =
    let m = g.B.Reading.meaning c.loop-row.book in
    let codes = c.args.codes.now in
    let e : c.loop-row.row ≡ m.packages = omega (arith, c.packages-row-end.ensures, c.loop-row.invariant.1) in (
      c.loop-row.invariant.0.few,
      all_rows g.B.Book.LIMIT codes m (subst (λ n. Partly g.B.Book.LIMIT codes n 0 m) e c.loop-row.invariant.0)
          ∙ ap (λ n. sheet_of n m.translators codes) c.loop-row.invariant.1
          ∙ ap (λ n. sheet_of (g.B.Reading.meaning c.args.book.now).packages n codes) c.loop-row.invariant.2,
    )

pub returns-in_err-fill_row : goal.returns-in_err-fill_row
returns-in_err-fill_row g c =
    let m = g.B.Reading.meaning c.loop-row.book in
    let m₀ = g.B.Reading.meaning c.args.book.now in
    let limit = g.B.Book.LIMIT in
    let codes = c.args.codes.now in
    let e = c.in_err-fill_row.field-0.0 in
    let m' = g.B.Reading.meaning c.fill_row.new.book in
    handed_on ((count m' ≤ limit) × (m' ≡ sheet_of m₀.packages m₀.translators codes)) (Overfull limit m₀.packages m₀.translators codes) c.from_residual.result e c.from_residual.ensures.1
    (in_sizes limit m.packages m₀.packages m.translators m₀.translators codes e c.loop-row.invariant.1
    c.loop-row.invariant.2 c.in_err-fill_row.ensures.answer)
