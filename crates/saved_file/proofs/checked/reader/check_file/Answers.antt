use Rattle.file_format.proofs.Once.{right_or_one_fault}
use Rattle.file_format.proofs.RoundTrip.{right_is_the_file, same_grades_same_bytes}
use Rattle.file_format.specs.Rules.{Faulty, Right, just}
use Rattle.saved_file.proofs.Faults.{not_a_file}
use Rattle.saved_file.proofs.checked.reader.check_file.Goals as goal
use Rattle.std.proofs.Common.{subst}
use Rattle.std.proofs.lemmas.Result.{err_from_is_err_and}

pub returns-clause-accepted : goal.returns-clause-accepted
returns-clause-accepted g c =
    right_is_the_file g.K.Kind.NUMBER g.K.Kind.valid c.args.sizes.packages c.args.sizes.translators c.args.file.now
    c.args.sizes.within (λ k. (c.type_inv.file k).fits)
    (subst (λ s. Right (just g.K.Kind.NUMBER g.K.Kind.valid s.packages s.translators) c.args.file.now) c.new.ensures
    c.in_ok-count.ensures.1)

pub returns-in_err-count-clause-accepted : goal.returns-in_err-count-clause-accepted
returns-in_err-count-clause-accepted g c =
    let p = err_from_is_err_and c.from_residual.result c.from_residual.ensures.1 in
    rw p.1
    (not_a_file g.K.Kind.NUMBER g.K.Kind.valid c.args.sizes.packages c.args.sizes.translators c.args.file.now
    c.in_err-count.field-0.0
    (subst
    (λ s. Faulty (just g.K.Kind.NUMBER g.K.Kind.valid s.packages s.translators) c.args.file.now c.in_err-count.field-0.0)
    c.new.ensures c.in_err-count.ensures))

pub returns-clause-once : goal.returns-clause-once
returns-clause-once g c = right_or_one_fault

pub returns-in_err-count-clause-once : goal.returns-in_err-count-clause-once
returns-in_err-count-clause-once g c = right_or_one_fault

pub returns-clause-same : goal.returns-clause-same
returns-clause-same g c = same_grades_same_bytes

pub returns-in_err-count-clause-same : goal.returns-in_err-count-clause-same
returns-in_err-count-clause-same g c = same_grades_same_bytes
