use Rattle.std.proofs.Common.{◌≡◌, ◌+◌, ◌-◌, ◌≤◌, subst, arith, rules}
use Rattle.file_loading.proofs.Loading.{one_step, records_are_the_grades, with_none}
use Rattle.file_loading.proofs.put_records.Goals as goal
use Rattle.file_loading.specs.Loaded.{with_records}

pub loop-number-init : goal.loop-number-init
loop-number-init g c =
    (with_none g.B.Book.LIMIT (g.B.Reading.meaning c.args.book.now) c.args.file.now.file.now, omega arith, omega arith)

pub loop-number-preserved : goal.loop-number-preserved
loop-number-preserved g c =
    let i = c.loop-number.invariant in
    let n = c.loop-number.number in
    let m = with_records g.B.Book.LIMIT (g.B.Reading.meaning c.args.book.now) c.args.file.now.file.now in
    let there : c.loop-number.number ≤ c.args.file.now.count = search rules in
    let same : c.loop-number.number ≡ c.loop-number.number + 1 - 1 = omega arith in (
      subst (λ k. g.B.Reading.meaning c.put_record.new.book ≡ m k) same
          (one_step g.B.Book.LIMIT (g.B.Reading.meaning c.args.book.now) c.args.file.now.file.now n
          c.args.file.now.count (g.B.Reading.meaning c.loop-number.book) (g.B.Reading.meaning c.put_record.new.book)
          i.0 i.1 there c.put_record.ensures),
      search rules,
      search rules,
    )

pub returns-2-clause-after : goal.returns-2-clause-after
returns-2-clause-after g c =
    let i = c.loop-number.invariant in
    let m = with_records g.B.Book.LIMIT (g.B.Reading.meaning c.args.book.now) c.args.file.now.file.now in
    let last : c.loop-number.number ≡ c.args.file.now.count = search rules in
    subst (λ k. g.B.Reading.meaning c.put_record.new.book ≡ m k) last
    (one_step g.B.Book.LIMIT (g.B.Reading.meaning c.args.book.now) c.args.file.now.file.now c.loop-number.number
    c.args.file.now.count (g.B.Reading.meaning c.loop-number.book) (g.B.Reading.meaning c.put_record.new.book) i.0
    i.1 (omega (arith, last)) c.put_record.ensures)

pub returns-clause-grades : goal.returns-clause-grades
returns-clause-grades g c = records_are_the_grades

pub returns-2-clause-grades : goal.returns-2-clause-grades
returns-2-clause-grades g c = records_are_the_grades
