use Rattle.std.proofs.Common.{ap, arith}
use Rattle.plain_text.proofs.Rows.{some_piece, one_more}
use Rattle.plain_text.proofs.digits.numbers.Goals as goal
use Rattle.plain_text.specs.Pieces.{pieces_in}
use Rattle.std.proofs.lemmas.List.{take_all}

pub returns-in-Some : goal.returns-in-Some
returns-in-Some g c =
    let i = c.loop-number.invariant in
    let q = some_piece 32 c.in-Some.field-0.now in
    let o = one_more c.loop-number.number-items q.0 q.1 in
    let t = take_all c.loop-number.number-index c.loop-number.number-items (omega arith) in
    let m = ap (pieces_in 32) c.in-Some.is in
    rw (← i.whole, i.read, t, m, q.2) o
