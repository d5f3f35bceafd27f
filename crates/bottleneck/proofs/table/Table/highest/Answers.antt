use Rattle.std.proofs.Common.{◌≡◌, ℕ, ◌+◌, Option, sym, ◌∙◌, subst, rules}
use Rattle.augmenting.specs.Owners.{seen}
use Rattle.bottleneck.proofs.Tops.{rows_more, rows_over}
use Rattle.bottleneck.proofs.table.Table.highest.Goals as goal
use Rattle.bottleneck.proofs.table.Table.highest.Goals.{then-has, else-has}
use Rattle.bottleneck.specs.Codes.{table_grades}
use Rattle.bottleneck.specs.Floors.{Highest, Valid}

pub loop-k-preserved : goal.loop-k-preserved
loop-k-preserved g c =
    let valid = g.K.Kind.valid in
    let above = g.K.Kind.above in
    let G = table_grades c.args.self.now.codes in
    let t = c.args.self.now.translators in
    let k = c.loop-k.k in
    let s = c.args.set.now.places in
    let w = c.args.visited.now in
    let has : c.has.result ≡ seen s k = search rules in
    elim c.if-has.branch [
      | then-has y ↦
          let row = y.highest_in_row-best.ensures in (
            subst (Valid valid) (sym y.best-is) row.best.right,
            subst (λ (x : Option ℕ). Highest above G (k + 1) t s w x) (sym y.best-is)
                (rows_more valid above G c.args.self.now.valid t k s w c.loop-k.best y.highest_in_row-best.result (sym has ∙ y.if-has.true) row.best row.from c.loop-k.invariant.1),
          )
      | else-has y ↦ (
        subst (Valid valid) (sym y.best-is) c.loop-k.invariant.0,
        subst (λ (x : Option ℕ). Highest above G (k + 1) t s w x) (sym y.best-is)
            (rows_over above G t k s w c.loop-k.best (sym has ∙ y.if-has.false) c.loop-k.invariant.1),
      )
    ]
