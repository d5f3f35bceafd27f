use Rattle.std.proofs.Common.{◌≡◌, ◌+◌, ◌-◌, ◌≤◌, subst, arith, rules}
use Rattle.saved_writer.proofs.Rows.{Rows, rows_room, rows_start, rows_step}
use Rattle.saved_writer.proofs.writer.write_rows.Goals as goal

pub loop-pkg-init : goal.loop-pkg-init
loop-pkg-init g c =
    let m = g.R.Reading.meaning c.args.book.now in
    (rows_start m.grade c.args.out.now m.packages m.translators, omega arith, omega arith)

pub write_row-at-requires : goal.write_row-at-requires
write_row-at-requires g c =
    let m = g.R.Reading.meaning c.args.book.now in
    let i = c.loop-pkg.invariant in
    let there : c.loop-pkg.pkg ≤ m.packages = search rules in
    let r =
    rows_room m.grade c.args.out.now m.packages m.translators c.loop-pkg.pkg c.loop-pkg.at c.loop-pkg.out i.0 i.1
    there c.requires in
    omega (arith, r, c.loop-pkg.auto.out)

pub loop-pkg-preserved : goal.loop-pkg-preserved
loop-pkg-preserved g c =
    let m = g.R.Reading.meaning c.args.book.now in
    let i = c.loop-pkg.invariant in
    let next = c.write_row-at.result in
    let out = c.write_row-at.new.out in
    let there : c.loop-pkg.pkg ≤ m.packages = search rules in
    let same : c.loop-pkg.pkg ≡ c.loop-pkg.pkg + 1 - 1 = omega arith in (
      subst (λ n. Rows m.grade c.args.out.now m.packages m.translators n next out) same
          (rows_step m.grade c.args.out.now m.packages m.translators c.loop-pkg.pkg c.loop-pkg.at next c.loop-pkg.out
          out i.0 i.1 there c.requires c.write_row-at.ensures.ends c.write_row-at.ensures.after
          c.write_row-at.ensures.codes),
      search rules,
      search rules,
    )

pub returns-2 : goal.returns-2
returns-2 g c =
    let m = g.R.Reading.meaning c.args.book.now in
    let i = c.loop-pkg.invariant in
    let next = c.write_row-at.result in
    let out = c.write_row-at.new.out in
    let last : c.loop-pkg.pkg ≡ m.packages = search rules in
    let w =
    subst (λ n. Rows m.grade c.args.out.now m.packages m.translators n next out) last
    (rows_step m.grade c.args.out.now m.packages m.translators c.loop-pkg.pkg c.loop-pkg.at next c.loop-pkg.out out
    i.0 i.1 (omega (arith, last)) c.requires c.write_row-at.ensures.ends c.write_row-at.ensures.after
    c.write_row-at.ensures.codes) in
    record { after = w.after; codes = w.codes }
