use Rattle.std.proofs.Common.{◌≡◌, ◌+◌, ◌-◌, ◌≤◌, subst, arith, rules}
use Rattle.saved_writer.proofs.Rows.{Row, row_room, row_start, row_step}
use Rattle.saved_writer.proofs.writer.write_row.Goals as goal

pub loop-translator-init : goal.loop-translator-init
loop-translator-init g c =
    (row_start c.args.pkg ((g.R.Reading.meaning c.args.book.now).grade c.args.pkg) c.args.out.now c.args.at, omega arith, omega arith)

pub write_pair-end-requires : goal.write_pair-end-requires
write_pair-end-requires g c =
    let m = g.R.Reading.meaning c.args.book.now in
    let i = c.loop-translator.invariant in
    let there : c.loop-translator.translator ≤ m.translators = search rules in
    let r =
    row_room c.args.pkg (m.grade c.args.pkg) c.args.out.now c.args.at c.loop-translator.translator m.translators
    c.loop-translator.end c.loop-translator.out i.0 i.1 there c.requires in
    omega (arith, r, c.loop-translator.auto.out)

pub loop-translator-preserved : goal.loop-translator-preserved
loop-translator-preserved g c =
    let m = g.R.Reading.meaning c.args.book.now in
    let f = m.grade c.args.pkg in
    let j = c.loop-translator.translator in
    let i = c.loop-translator.invariant in
    let next = c.write_pair-end.result in
    let out = c.write_pair-end.new.out in
    let there : c.loop-translator.translator ≤ m.translators = search rules in
    let same : c.loop-translator.translator ≡ c.loop-translator.translator + 1 - 1 = omega arith in (
      subst (λ n. Row c.args.pkg f c.args.out.now c.args.at n next out) same
          (row_step c.args.pkg f c.args.out.now c.args.at j m.translators c.loop-translator.end next
          c.loop-translator.out out i.0 i.1 there c.requires c.write_pair-end.ensures.ends c.write_pair-end.ensures.after
          c.write_pair-end.ensures.code),
      search rules,
      search rules,
    )

pub returns-2 : goal.returns-2
returns-2 g c =
    let m = g.R.Reading.meaning c.args.book.now in
    let f = m.grade c.args.pkg in
    let j = c.loop-translator.translator in
    let i = c.loop-translator.invariant in
    let next = c.write_pair-end.result in
    let out = c.write_pair-end.new.out in
    let last : c.loop-translator.translator ≡ m.translators = search rules in
    let w =
    subst (λ n. Row c.args.pkg f c.args.out.now c.args.at n next out) last
    (row_step c.args.pkg f c.args.out.now c.args.at j m.translators c.loop-translator.end next c.loop-translator.out
    out i.0 i.1 (omega (arith, last)) c.requires c.write_pair-end.ensures.ends c.write_pair-end.ensures.after
    c.write_pair-end.ensures.code) in
    record { ends = w.ends; after = w.after; codes = w.codes }
