use Rattle.std.proofs.Common.{◌≡◌, ◌+◌, ◌*◌, ◌<◌, slice_index, rules, sym, refl, ◌∙◌, subst, arith}
use Rattle.timing.proofs.Rows.{handed_on, in_sizes, kept_packages, kept_translators, put_more, put_overfull}
use Rattle.timing.proofs.filling.fill_row.Goals as goal
use Rattle.timing.specs.Table.{Overfull, Partly}

pub loop-column-init : goal.loop-column-init
loop-column-init g c = (c.requires.filled, refl, refl)

pub loop-column-preserved : goal.loop-column-preserved
loop-column-preserved g c =
    let limit = g.B.Book.LIMIT in
    let m = g.B.Reading.meaning c.loop-column.book in
    let m' = g.B.Reading.meaning c.put_code.new.book in
    let k = c.args.row in
    let l = c.loop-column.column in
    let code = c.unwrap_or-code.result in
    let read : code ≡ slice_index c.args.codes.now (k * c.translators-translators.result + l) = search rules in
    let after = c.put_code.ensures.after in
    let sizes = c.translators-translators.ensures ∙ sym c.loop-column.invariant.2 in
    let a : k < m.packages = omega (arith, c.requires.row, c.loop-column.invariant.1) in
    let b : l < m.translators = omega (arith, sizes) in (
      put_more limit c.args.codes.now k l m c.loop-column.invariant.0 a b c.translators-translators.result code sizes
          read m' c.put_code.result c.put_code.ensures.answer c.in_ok-put_code.was after,
      kept_packages limit m m' (k + 1) (l + 1) code after ∙ c.loop-column.invariant.1,
      kept_translators limit m m' (k + 1) (l + 1) code after ∙ c.loop-column.invariant.2,
    )

pub returns : goal.returns
returns g c =
    let m = g.B.Reading.meaning c.loop-column.book in
    let e : c.loop-column.column ≡ m.translators =
    omega (arith, c.translators-translators.ensures, c.loop-column.invariant.2) in
    record {
      packages = c.loop-column.invariant.1;
      translators = c.loop-column.invariant.2;
      answer = subst (λ n. Partly g.B.Book.LIMIT c.args.codes.now c.args.row n m) e c.loop-column.invariant.0;
    }

pub returns-in_err-put_code : goal.returns-in_err-put_code
returns-in_err-put_code g c =
    let limit = g.B.Book.LIMIT in
    let m = g.B.Reading.meaning c.loop-column.book in
    let m' = g.B.Reading.meaning c.put_code.new.book in
    let k = c.args.row in
    let l = c.loop-column.column in
    let code = c.unwrap_or-code.result in
    let read : code ≡ slice_index c.args.codes.now (k * c.translators-translators.result + l) = search rules in
    let after = c.put_code.ensures.after in
    let sizes = c.translators-translators.ensures ∙ sym c.loop-column.invariant.2 in
    let a : k < m.packages = omega (arith, c.requires.row, c.loop-column.invariant.1) in
    let b : l < m.translators = omega (arith, sizes) in
    let m₀ = g.B.Reading.meaning c.args.book.now in
    let e = c.in_err-put_code.field-0.0 in
    record {
      packages = kept_packages limit m m' (k + 1) (l + 1) code after ∙ c.loop-column.invariant.1;
      translators = kept_translators limit m m' (k + 1) (l + 1) code after ∙ c.loop-column.invariant.2;
      answer =
          handed_on (Partly limit c.args.codes.now k m'.translators m') (Overfull limit m₀.packages m₀.translators c.args.codes.now) c.from_residual.result e
          c.from_residual.ensures.1
          (in_sizes limit m.packages m₀.packages m.translators m₀.translators c.args.codes.now e
          c.loop-column.invariant.1 c.loop-column.invariant.2
          (put_overfull limit c.args.codes.now k l m c.loop-column.invariant.0 a b c.translators-translators.result code sizes
          read c.put_code.result e c.put_code.ensures.answer c.in_err-put_code.was));
    }
