use Rattle.augmenting.proofs.Whole.{Released, never_stuck, placed_first, released_by, released_free, released_matching}
use Rattle.augmenting.proofs.owners.Owners.place_first.Goals as goal
use Rattle.std.proofs.lemmas.Bool.{cases_Bool}
use Rattle.std.proofs.Common.{⊎_elim}

pub returns : goal.returns
returns g c p z l whole =
    let C = g.P.Pattern.joins c.args.pattern.now in
    let t = g.P.Pattern.translators c.args.pattern.now in
    let i = c.args.pkg in
    let o = c.args.self.now.places in
    let n = c.release.new.self.places in
    let v = c.marks_before-visited.result in
    let r : Released i o n v = released_by i o n v c.marks_before-visited.ensures c.release.ensures.freed c.release.ensures.others in
    ⊎_elim
    (λ e.
    placed_first C p t i o n c.augment.new.self.places v z l whole r c.augment.ensures.kept
    (c.augment.ensures.found e z (released_matching C t i o n v r whole.matching) (released_free i o n v z r)))
    (λ e. absurd (never_stuck C p t i o n v c.augment.new.visited z l whole r (c.augment.ensures.closed e) (c.augment.ensures.tried e)))
    (cases_Bool c.augment.result)
