use Rattle.std.proofs.Common.{◌≡◌, rules}
use Rattle.sheet.proofs.Drawing.{draws_now, hand_out}
use Rattle.sheet.proofs.sheet.Sheet.draw_now.Goals as goal
use Rattle.sheet.specs.Sheets.{stood_of}
use Rattle.std.specs.Option.{option_map}

pub returns : goal.returns
returns g c =
    let tag : c.settle.new.self.tag ≡ c.args.self.now.tag = search rules in
    let answer : c.map.result ≡ option_map (hand_out c.args.self.now.tag) c.in_ok-drawn.drawn = search rules in
    rw answer
    (draws_now
    (stood_of g.B.Book.LIMIT g.K.Kind.NUMBER g.K.Kind.valid g.K.Kind.above g.B.Reading.meaning c.args.self.now) _ c.args.next c.args.plan.now c.args.set.now c.match_into.new.plan c.match_into.new.set c.in_ok-drawn.drawn
    c.in_ok-drawn.ensures c.settle.ensures)
