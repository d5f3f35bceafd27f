use Rattle.std.proofs.Common.{rules, ◌≡◌, ◌+◌, ◌<◌, ◌≤◌, ◌∷◌, ap, length, arith, drop, take, None}
use Rattle.file_format.specs.Layout.{six_bytes}
use Rattle.saved_file.proofs.Recorded.{at_the_end, no_records, cut_short, one_record}
use Rattle.saved_file.proofs.checked.records.RecordsIterator.next.Goals as goal
use Rattle.saved_file.specs.Records.{left_of, records_of}

pub returns-in_err-bytes-clause-steps : goal.returns-in_err-bytes-clause-steps
returns-in_err-bytes-clause-steps c =
    let n : c.from_residual.result ≡ None = search rules in
    let l : length c.args.self.now.rest.now < 6 = search rules in
    at_the_end c.args.self.now c.from_residual.result n
    (cut_short c.args.self.now.rest.now c.args.self.now.left l)

pub returns-in_err-self-clause-steps : goal.returns-in_err-self-clause-steps
returns-in_err-self-clause-steps c =
    let n : c.from_residual-in_err-self.result ≡ None = search rules in
    let z : c.args.self.now.left ≡ 0 = omega (arith, c.in_err-self.ensures) in
    at_the_end c.args.self.now c.from_residual-in_err-self.result n
    (no_records c.args.self.now.rest.now c.args.self.now.left z)

one : (c : goal.After-from) → left_of c.args.self.now ≡ c.from.result ∷ records_of c.in_ok-bytes.rest.now c.in_ok-self.field-0
one c =
    let l : 6 ≤ length c.args.self.now.rest.now = search rules in
    let e : c.args.self.now.left ≡ c.in_ok-self.field-0 + 1 =
    omega (arith, c.in_ok-self.ensures.0, c.in_ok-self.ensures.1) in
    one_record c.args.self.now.rest.now c.in_ok-bytes.bytes.now c.in_ok-bytes.rest.now c.from.result
    c.args.self.now.left c.in_ok-self.field-0 l (search rules) (search rules) (search rules) e

pub returns-clause-steps : goal.returns-clause-steps
returns-clause-steps c = one c

pub returns-clause-goes : goal.returns-clause-goes
returns-clause-goes c = record {
  on = λ _. (tt, tt, omega (arith, ap length (one c)));
  keeps = tt;
  rests = λ _. tt;
}
