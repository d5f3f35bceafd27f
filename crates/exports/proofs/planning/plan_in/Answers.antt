use Rattle.std.proofs.Common.{◌≡◌, ◌*◌, ◌≤◌, length, take, refl, true, rules, arith}
use Rattle.exports.proofs.Codes.{all_count}
use Rattle.exports.proofs.Reasons.{no_reason, planned_as, short_as}
use Rattle.exports.proofs.planning.plan_in.Goals as goal
use Rattle.exports.specs.Kinds.{codes_right}
use Rattle.exports.specs.Planning.{Places}

pub returns-in-Some : goal.returns-in-Some
returns-in-Some g c =
    let sizes = c.args.sizes in
    let p = sizes.packages in
    let t = sizes.translators in
    let codes = c.args.codes.now in
    let lent : Places = record { plan = c.args.plan.now; set = c.args.set.now; lowest = c.args.lowest.now } in
    let e : codes_right g.K.Kind.valid (take (p * t) codes) ≡ true = search rules in
    let l : p * t ≤ length codes = omega (arith, c.pairs_of-pairs.ensures, c.if-codes-pairs.false) in
    let w =
    planned_as g.K.Kind.above _ _ p t lent.plan lent.set c.match_into.new.plan c.match_into.new.set
    c.in_ok-planned.field-0 c.in-Some.planned c.in-Some.is
    (all_count g.K.Kind.valid codes p t e) c.in_ok-planned.ensures in
    (no_reason _ p t codes lent sizes.within e l w.room, w)

pub returns-in-None : goal.returns-in-None
returns-in-None g c =
    let sizes = c.args.sizes in
    let p = sizes.packages in
    let t = sizes.translators in
    let codes = c.args.codes.now in
    let lent : Places = record { plan = c.args.plan.now; set = c.args.set.now; lowest = c.args.lowest.now } in
    let e : codes_right g.K.Kind.valid (take (p * t) codes) ≡ true = search rules in
    let l : p * t ≤ length codes = omega (arith, c.pairs_of-pairs.ensures, c.if-codes-pairs.false) in
    let w =
    short_as g.K.Kind.above _ _ p t lent.plan lent.set c.match_into.new.plan c.match_into.new.set
    c.in_ok-planned.field-0 c.in-None.is (all_count g.K.Kind.valid codes p t e) c.in_ok-planned.ensures in
    (no_reason _ p t codes lent sizes.within e l w.room, w, refl {a = lent.lowest})
