use Rattle.std.proofs.Common.{◌≡◌, ℕ, ◌<◌, ◌≤◌, cond, length, get_or, refl, arith}
use Rattle.augmenting.proofs.Gathered.{same_members}
use Rattle.augmenting.specs.Owners.{seen}
use Rattle.bottleneck.specs.Grades.{graded, graded_above, valid_grades}
use Rattle.matching.proofs.Buffers.{front_written, marks_written, members_written, rest_written}
use Rattle.matching.proofs.into.match_into.Goals as goal
use Rattle.matching.specs.Answers.{member}
use Rattle.matching.specs.Written.{numbers_of}

pub returns-in_ok-write_into-in-Ok : goal.returns-in_ok-write_into-in-Ok
returns-in_ok-write_into-in-Ok g c =
    let above = g.K.Kind.above in
    let m = g.R.Reading.meaning c.args.grades.now in
    let G = valid_grades g.K.Kind.valid m in
    let p = m.packages in
    let t = m.translators in
    let e = c.packages-packages.ensures in
    let lowest = c.in-Ok.best.lowest in
    let s = c.in-Ok.best.tight.places in
    let xs = numbers_of c.in-Ok.best.plan in
    let plan = c.args.plan.now in
    let set = c.args.set.now in
    let plan' = c.write_into.new.out in
    let set' = c.write_members.new.out in
    let right = c.in-Ok.ensures in
    let long = right.0.full.long in
    let a : p ≤ length plan = omega (arith, e) in
    let b : p ≤ length set = omega (arith, e) in
    let first : (k : ℕ) → k < p → get_or set' k 0 ≡ cond (seen s k) 1 0 = λ k l. c.write_members.ensures.first k (omega (arith, l, e)) in
    record {
      room = (a, b);
      value = front_written xs plan plan' p long a c.write_into.ensures.after;
      planned = right.0;
      rest = rest_written xs plan plan' p long a c.write_into.ensures.after;
      tight = same_members (graded_above above G lowest) p t (seen s) (member set') (members_written s p set' first) right.1;
      marks = marks_written s p set set' c.write_members.auto.out first (λ k l. c.write_members.ensures.rest k (omega (arith, l, e)));
    }

pub returns-in-Err : goal.returns-in-Err
returns-in-Err g c =
    let m = g.R.Reading.meaning c.args.grades.now in
    let G = valid_grades g.K.Kind.valid m in
    let p = m.packages in
    let t = m.translators in
    let e = c.packages-packages.ensures in
    let s = c.in-Err.short.places in
    let set = c.args.set.now in
    let set' = c.write_members-in-Err.new.out in
    let right = c.in-Err.ensures in
    let first : (k : ℕ) → k < p → get_or set' k 0 ≡ cond (seen s k) 1 0 = λ k l. c.write_members-in-Err.ensures.first k (omega (arith, l, e)) in
    record {
      room = (omega (arith, e), omega (arith, e));
      none = right.0;
      same = refl;
      short = same_members (graded G) p t (seen s) (member set') (members_written s p set' first) right.1;
      marks = marks_written s p set set' c.write_members-in-Err.auto.out first (λ k l. c.write_members-in-Err.ensures.rest k (omega (arith, l, e)));
    }
