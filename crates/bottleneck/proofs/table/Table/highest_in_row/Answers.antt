use Rattle.std.proofs.Common.{◌≡◌, ◌+◌, ◌<◌, false, length, sym, ap, ◌∙◌, arith, rules}
use Rattle.bottleneck.proofs.Tops.{row_more}
use Rattle.bottleneck.proofs.table.Table.highest_in_row.Goals as goal
use Rattle.bottleneck.specs.Codes.{grade_of_code, table_grades}
use Rattle.std.proofs.lemmas.List.{length-append}
use Rattle.std.proofs.lemmas.Slice.Zip.{zip_turn}

pub loop-code-preserved-then-not-is_marked : goal.loop-code-preserved-then-not-is_marked
loop-code-preserved-then-not-is_marked g c =
    let table = c.args.self.now in
    let j = length c.loop-code.yielded in
    let z =
    zip_turn c.row.result.now c.args.visited.now c.loop-code.yielded c.into_iter-code-iterator.result c.loop-code.code-iterator c.next.new.self c.next.result
    (search rules) (search rules) c.loop-code.yielded_by (c.in-Some.code, c.in-Some.is_marked) c.in-Some.is c.next.ensures.steps in
    let l : j < table.translators = let a = z.0 in let b = c.row.ensures.long in omega (arith, a, b) in
    let e : table_grades table.codes c.args.pkg (j + 1) ≡ grade_of_code c.in-Some.code.now = ap grade_of_code (sym (z.2 0 ∙ c.row.ensures.codes j l)) in
    rw length-append
    (row_more g.K.Kind.valid g.K.Kind.above g.met.K.Kind.order (table_grades table.codes) table.valid table.translators c.args.pkg j c.args.visited.now c.args.before
    c.loop-code.best c.in-Some.code.now l (sym (z.3 false) ∙ c.if-not-is_marked.true) e c.loop-code.invariant.0 c.loop-code.invariant.1 c.higher_of-best.result c.higher_of-best.ensures)
