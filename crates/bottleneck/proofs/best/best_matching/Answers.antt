use Rattle.std.proofs.Common.{Some, sym, ap, ◌∙◌}
use Rattle.bottleneck.proofs.Founds.{found_first, found_short, whole_alike}
use Rattle.bottleneck.proofs.Progress.{tight_alike}
use Rattle.bottleneck.proofs.best.best_matching.Goals as goal
use Rattle.bottleneck.specs.Codes.{table_grades}
use Rattle.bottleneck.specs.Grades.{valid_grades}
use Rattle.std.proofs.lemmas.Result.{err_from_is_err_and}

pub returns-in_err-best : goal.returns-in_err-best
returns-in_err-best g c =
    let m = g.R.Reading.meaning c.args.grades.now in
    let table = c.read.result in
    let r = c.read.ensures in
    let short = c.in_err-best.field-0.0 in
    let p = err_from_is_err_and c.from_residual.result c.from_residual.ensures.1 in
    rw (p.1, p.2)
    (found_short table.codes (valid_grades g.K.Kind.valid m) table.packages m.packages table.translators m.translators short.places
    r.grades r.sizes.0 r.sizes.1 c.in_err-best.ensures.set)

pub returns : goal.returns
returns g c =
    let valid = g.K.Kind.valid in
    let above = g.K.Kind.above in
    let m = g.R.Reading.meaning c.args.grades.now in
    let was = c.read.result in
    let now = c.match_all.new.counted in
    let r = c.read.ensures in
    let best = c.in_ok-best.best in
    let e = c.in_ok-best.ensures.table in
    let q = c.in_ok-best.ensures.floor in
    let set = c.in_ok-best.ensures.set in
    let whole =
    whole_alike above was.codes now.table.codes was.packages now.table.packages was.translators now.table.translators (Some best.lowest) now.floor best.owners.places
    (ap (λ x. x.codes) (sym e)) (ap (λ x. x.packages) (sym e)) (ap (λ x. x.translators) (sym e)) (sym q) set.1 in
    found_first valid above now.table.codes (valid_grades valid m) now.table.packages m.packages now.table.translators m.translators now.floor best.lowest c.place_all_first.new.self.places best.tight.places
    (λ k j. ap (λ x. table_grades x.codes k j) e ∙ r.grades k j) (ap (λ x. x.packages) e ∙ r.sizes.0) (ap (λ x. x.translators) e ∙ r.sizes.1) q
    (tight_alike valid above was.codes now.table.codes was.packages now.table.packages was.translators now.table.translators (Some best.lowest) best.tight.places
    (ap (λ x. x.codes) (sym e)) (ap (λ x. x.packages) (sym e)) (ap (λ x. x.translators) (sym e)) set.0)
    (c.place_all_first.ensures.complete whole) (c.place_all_first.ensures.least whole)
