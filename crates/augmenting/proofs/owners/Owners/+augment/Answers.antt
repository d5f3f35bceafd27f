use Rattle.std.proofs.Common.{◌<◌, Bool, List, length, get_or, sym, ap, ◌∙◌, subst, arith, rules}
use Rattle.augmenting.proofs.Necessity.{needed_at}
use Rattle.augmenting.proofs.Passing.{handed_on_at, taken_at, unseen_falls, unseen_le, failed_at, passed_over}
use Rattle.augmenting.proofs.owners.Owners.+augment.Goals as goal
use Rattle.augmenting.proofs.owners.Owners.+augment.Goals.{then-holder-eq0-via-then-holder-eq0, then-holder-eq0-via-else-holder-eq0+then-augment, then-not-visited-place+then-may_join+else-holder-eq0+else-augment, else-not-visited-place, else-not-visited-place-via-then-not-visited-place+else-may_join, else-not-visited-place-via-else-not-visited-place}
use Rattle.augmenting.specs.Owners.{Augmented, Needed}
use Rattle.std.proofs.lemmas.Bool.{both_ways}

pub augment-requires : goal.augment-requires
augment-requires g t c κs within =
    let h : c.loop-j.j < length c.loop-j.visited = search rules in
    let k : c.loop-j.j < 64 = search rules in
    let u = unseen_falls c.loop-j.visited c.loop-j.j k h c.if-not-visited-place.true in
    (omega (arith, u, unseen_le c.args.visited.now c.loop-j.visited c.loop-j.invariant.1.grows), within)

pub returns-then-holder-eq0-clause-found : goal.returns-then-holder-eq0-clause-found
returns-then-holder-eq0-clause-found g t c e y m f =
    elim c.then-holder-eq0.branch [
      | then-holder-eq0-via-then-holder-eq0 w ↦
          let n = g.P.Pattern.translators c.args.pattern.now in
          let l : c.loop-j.j < n = search rules in
          let h : c.loop-j.j < length c.loop-j.self.places = search rules in
          subst (Augmented (g.P.Pattern.joins c.args.pattern.now) n c.args.visited.now c.args.pkg c.args.self.now.places) (sym (ap (λ z. z.places) w.self-is))
          (taken_at (g.P.Pattern.joins c.args.pattern.now) n c.args.visited.now c.loop-j.visited c.loop-j.self.places c.args.self.now.places c.loop-j.j c.args.pkg
          c.loop-j.invariant.0 c.loop-j.invariant.1 c.loop-j.invariant.2 l h (sym c.if-may_join.ensures) w.if-holder-eq0.true m f)
      | then-holder-eq0-via-else-holder-eq0+then-augment w ↦
          let n = g.P.Pattern.translators c.args.pattern.now in
          let l : c.loop-j.j < n = search rules in
          let h : c.loop-j.j < length c.loop-j.self.places = search rules in
          let k : c.loop-j.j < length c.loop-j.visited = search rules in
          let z : 0 < get_or c.loop-j.self.places c.loop-j.j 0 = omega (arith, w.if-holder-eq0.false) in
          subst (Augmented (g.P.Pattern.joins c.args.pattern.now) n c.args.visited.now c.args.pkg c.args.self.now.places) (sym (ap (λ z. z.places) w.self-is))
          (handed_on_at (g.P.Pattern.joins c.args.pattern.now) n c.args.visited.now c.loop-j.visited c.loop-j.self.places c.args.self.now.places w.augment.new.self.places c.loop-j.j c.args.pkg
          c.loop-j.invariant.0 c.loop-j.invariant.1 c.loop-j.invariant.2 l h k (sym c.if-may_join.ensures) z w.augment.ensures.kept (w.augment.ensures.found w.if-augment.true z) m f)
    ]

pub loop-j-preserved : goal.loop-j-preserved
loop-j-preserved g t c =
    let C = g.P.Pattern.joins c.args.pattern.now in
    let n = g.P.Pattern.translators c.args.pattern.now in
    let v = c.args.visited.now in
    let w = c.loop-j.visited in
    let o = c.loop-j.self.places in
    let a = c.args.self.now.places in
    let j = c.loop-j.j in
    let i = c.args.pkg in
    let h : j < length w = search rules in
    let l : j < n = search rules in
    elim c.if-not-visited-place.branch [
      | then-not-visited-place+then-may_join+else-holder-eq0+else-augment y ↦
          let z : 0 < get_or o j 0 = omega (arith, y.if-holder-eq0.false) in
          let f =
          failed_at C n v w y.augment.new.visited o a y.augment.new.self.places j i c.loop-j.invariant.0 c.loop-j.invariant.1 c.loop-j.invariant.2
          h z (y.augment.ensures.same y.if-augment.false) (y.augment.ensures.closed y.if-augment.false) (y.augment.ensures.tried y.if-augment.false)
          c.if-not-visited-place.self.places c.if-not-visited-place.visited (ap (λ z. z.places) y.self-is) y.visited-is in (
            f.0,
            f.1,
            f.2,
            needed_at C n v w y.augment.new.visited o a j i c.loop-j.invariant.0 l h z y.if-not-visited-place.true (sym y.if-may_join.ensures) c.loop-j.invariant.1 c.loop-j.invariant.3
                (y.augment.ensures.needed y.if-augment.false) c.if-not-visited-place.visited y.visited-is,
          )
      | else-not-visited-place y ↦
          let f =
          passed_over C n v w o a j i c.loop-j.invariant.0 c.loop-j.invariant.1 c.loop-j.invariant.2
          (elim y.else-not-visited-place.branch [
            | else-not-visited-place-via-then-not-visited-place+else-may_join x ↦ λ q. absurd (both_ways x.may_join.result x.if-may_join.false (x.may_join.ensures ∙ q))
            | else-not-visited-place-via-else-not-visited-place x ↦ λ q. x.if-not-visited-place.false
          ])
          c.if-not-visited-place.self.places c.if-not-visited-place.visited (ap (λ z. z.places) y.self-is) y.visited-is in
          (f.0, f.1, f.2, subst (λ (b : List Bool). Needed C n i a v b) (sym y.visited-is) c.loop-j.invariant.3)
    ]
