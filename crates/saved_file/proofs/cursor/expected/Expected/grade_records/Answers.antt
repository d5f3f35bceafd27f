use Rattle.std.proofs.Common.{◌≡◌, ◌+◌, ◌-◌, ◌≤◌, Some, arith, rules, subst}
use Rattle.file_format.specs.Layout.{count_in, last_of}
use Rattle.file_format.specs.Rules.{RecordsRight}
use Rattle.saved_file.proofs.Faults.{in_grade_record, right_grade_record, records_more}
use Rattle.saved_file.proofs.cursor.expected.Expected.grade_records.Goals as goal
use Rattle.saved_file.specs.Expecting.{of_kind}
use Rattle.std.proofs.lemmas.Result.{err_from_is_err_and}

pub returns-in_err-next_grade_record-clause-told : goal.returns-in_err-next_grade_record-clause-told
returns-in_err-next_grade_record-clause-told g c =
    let p = err_from_is_err_and c.from_residual.result c.from_residual.ensures.1 in
    let i = c.loop-number.invariant in
    let there : c.loop-number.number ≤ count_in c.args.cursor.now.file.now =
    omega (arith, c.requires.count.0, c.loop-number-test.true) in
    rw (p.1, p.2)
    (in_grade_record (of_kind g.K.Kind.NUMBER g.K.Kind.valid c.args.self.now) c.args.cursor.now.file.now
    c.loop-number.cursor.file.now c.loop-number.number c.loop-number.cursor.at c.loop-number.before i.0 i.1 i.4
    c.requires.first c.requires.sheet c.requires.second i.5 i.2 there c.in_err-next_grade_record.field-0.0
    c.in_err-next_grade_record.ensures.value)

pub loop-number-preserved : goal.loop-number-preserved
loop-number-preserved g c =
    let e = of_kind g.K.Kind.NUMBER g.K.Kind.valid c.args.self.now in
    let i = c.loop-number.invariant in
    let w =
    right_grade_record e c.args.cursor.now.file.now c.loop-number.cursor.file.now c.loop-number.number
    c.loop-number.cursor.at c.loop-number.before i.0 i.1 i.4 i.2 c.in_ok-next_grade_record.field-0
    c.in_ok-next_grade_record.ensures.value in
    let same : c.loop-number.number ≡ c.loop-number.number + 1 - 1 = omega arith in (
      search rules,
      search rules,
      search rules,
      search rules,
      subst (λ n. Some c.in_ok-next_grade_record.field-0 ≡ last_of c.args.cursor.now.file.now n) same w.1,
      subst (RecordsRight e c.args.cursor.now.file.now) same
          (records_more e c.args.cursor.now.file.now c.loop-number.number i.5 w.0),
    )

pub returns-clause-told : goal.returns-clause-told
returns-clause-told g c =
    let i = c.loop-number.invariant in
    let same : c.loop-number.number - 1 ≡ c.args.count = omega (arith, c.loop-number-test.false, i.2, i.3) in (
      search rules,
      subst (RecordsRight (of_kind g.K.Kind.NUMBER g.K.Kind.valid c.args.self.now) c.args.cursor.now.file.now) same
          i.5,
    )

pub returns-in_ok-next_grade_record-clause-told : goal.returns-in_ok-next_grade_record-clause-told
returns-in_ok-next_grade_record-clause-told g c =
    let e = of_kind g.K.Kind.NUMBER g.K.Kind.valid c.args.self.now in
    let i = c.loop-number.invariant in
    let w =
    right_grade_record e c.args.cursor.now.file.now c.loop-number.cursor.file.now c.loop-number.number
    c.loop-number.cursor.at c.loop-number.before i.0 i.1 i.4 i.2 c.in_ok-next_grade_record.field-0
    c.in_ok-next_grade_record.ensures.value in
    let last : c.loop-number.number ≡ c.args.count = search rules in (
      search rules,
      subst (RecordsRight e c.args.cursor.now.file.now) last
          (records_more e c.args.cursor.now.file.now c.loop-number.number i.5 w.0),
    )
