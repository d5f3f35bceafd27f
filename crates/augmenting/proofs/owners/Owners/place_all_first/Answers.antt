use Rattle.std.proofs.Common.{◌≡◌, arith, rules}
use Rattle.augmenting.proofs.Whole.{least_more}
use Rattle.augmenting.proofs.owners.Owners.place_all_first.Goals as goal

pub loop-pkg-preserved : goal.loop-pkg-preserved
loop-pkg-preserved g c = (
  omega arith,
  omega arith,
  λ whole.
      let h = c.loop-pkg.invariant.2 whole in
      let f = c.place_first.ensures c.args.packages (omega arith) (omega arith) h.0 in (
        f.complete,
        λ k l. least_more (g.P.Pattern.joins c.args.pattern.now) c.args.packages (g.P.Pattern.translators c.args.pattern.now) c.loop-pkg.pkg c.loop-pkg.self.places c.place_first.new.self.places
            (omega arith) (omega arith) h.0 f h.1 k (omega arith),
      ),
)

pub returns-2-clause-least : goal.returns-2-clause-least
returns-2-clause-least g c whole k l =
    let last : c.loop-pkg.pkg ≡ c.args.packages = search rules in
    let h = c.loop-pkg.invariant.2 whole in
    let f = c.place_first.ensures c.args.packages (omega arith) (omega arith) h.0 in
    least_more (g.P.Pattern.joins c.args.pattern.now) c.args.packages (g.P.Pattern.translators c.args.pattern.now) c.loop-pkg.pkg c.loop-pkg.self.places c.place_first.new.self.places
    (omega arith) (omega arith) h.0 f h.1 k (omega (arith, last))
