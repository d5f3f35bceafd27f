use Rattle.std.proofs.Common.{◌≤◌, length, get_or, arith, rules}
use Rattle.plain_text.proofs.Values.{below_nine, digit_more}
use Rattle.plain_text.proofs.digits.numeral.Goals as goal
use Rattle.std.specs.Int.{IsInRange}

pub overflow_mul-value : goal.overflow_mul-value
overflow_mul-value c =
    let l : length c.args.digits.now ≤ 9 = search rules in
    omega (arith, l, c.loop-digit-test.true, c.loop-digit.invariant.2, below_nine c.loop-digit.digit-index (omega arith))

pub overflow_add-value : goal.overflow_add-value
overflow_add-value c =
    let l : length c.args.digits.now ≤ 9 = search rules in
    let d : IsInRange 48 57 (get_or c.args.digits.now c.loop-digit.digit-index 0) = search rules in
    omega (arith, l, c.loop-digit-test.true, c.loop-digit.invariant.2, below_nine c.loop-digit.digit-index (omega arith), c.from.ensures, d.1)

pub loop-digit-preserved : goal.loop-digit-preserved
loop-digit-preserved c =
    digit_more c.args.digits.now c.loop-digit.digit-index c.loop-digit.value c.from.result c.loop-digit-test.true
    (search rules) (search rules) c.from.ensures c.loop-digit.invariant
