use Rattle.std.proofs.Common.{◌≡◌, ◌+◌, ◌∙◌, [], Some, None, arith, subst}
use Rattle.augmenting.proofs.Gathered.{Stuck}
use Rattle.bottleneck.proofs.Lowering.{lowered, short_set, stuck, valid_from}
use Rattle.bottleneck.proofs.table.joins.AtFloor.lower.Goals as goal
use Rattle.bottleneck.specs.Lowered.{at_floor}
use Rattle.bottleneck.specs.Codes.{table_grades}
use Rattle.bottleneck.specs.Floors.{Highest}
use Rattle.std.proofs.lemmas.Result.{err_from_is_err_and}

pub returns-clause-set : goal.returns-clause-set
returns-clause-set g c =
    let valid = g.K.Kind.valid in
    let above = g.K.Kind.above in
    let table = c.args.self.now.table in
    let floor = c.args.self.now.floor in
    let set = c.owners_and-set.result in
    let few = table.sized.1 in
    let h : Stuck (at_floor above table.codes floor) table.packages table.translators c.args.pkg c.args.owners.now.places [] c.args.visited.now set.places =
    stuck (at_floor above table.codes floor) table.packages table.translators c.args.pkg c.args.owners.now.places c.args.visited.now set.places
    c.requires.within few set.full c.requires.before c.requires.left c.owners_and-set.ensures in
    let found : c.highest.result ≡ Some c.in_ok-code.code = grind arith in
    lowered valid above g.met.K.Kind.order table.codes table.valid table.packages table.translators c.args.pkg c.args.owners.now.places c.args.visited.now set.places
    floor (valid_from valid floor c.args.self.now.valid) h c.in_ok-code.code few table.sized.3
    (subst (Highest above (table_grades table.codes) table.packages table.translators set.places c.args.visited.now) found c.highest.ensures)

pub returns-in_err-code-clause-set : goal.returns-in_err-code-clause-set
returns-in_err-code-clause-set g c =
    let valid = g.K.Kind.valid in
    let above = g.K.Kind.above in
    let table = c.args.self.now.table in
    let floor = c.args.self.now.floor in
    let set = c.owners_and-set.result in
    let few = table.sized.1 in
    let h : Stuck (at_floor above table.codes floor) table.packages table.translators c.args.pkg c.args.owners.now.places [] c.args.visited.now set.places =
    stuck (at_floor above table.codes floor) table.packages table.translators c.args.pkg c.args.owners.now.places c.args.visited.now set.places
    c.requires.within few set.full c.requires.before c.requires.left c.owners_and-set.ensures in
    let p = err_from_is_err_and c.from_residual.result c.from_residual.ensures.1 in
    let none : c.highest.result ≡ None = grind arith in
    let same : c.in_err-code.field-0.0 ≡ set = grind arith in
    rw (p.1, p.2, same)
    (short_set valid above g.met.K.Kind.order table.codes table.valid table.packages table.translators c.args.pkg c.args.owners.now.places c.args.visited.now set.places
    floor (valid_from valid floor c.args.self.now.valid) h
    (subst (Highest above (table_grades table.codes) table.packages table.translators set.places c.args.visited.now) none c.highest.ensures))

pub invariant_of-self : goal.invariant_of-self
invariant_of-self g c =
    record {
      valid = λ code e.
          let found : c.highest.result ≡ Some c.in_ok-code.code = grind arith in
          let way = c.highest.ensures.from code (found ∙ e) in
          c.args.self.now.table.valid (way.pkg + 1) (way.translator + 1) code way.grade;
    }
