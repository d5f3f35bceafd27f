use Rattle.std.proofs.Common.{ℕ, ◌<◌, ◌^◌, rules, sym, ◌∙◌, arith}
use Rattle.std.proofs.lemmas.Iterator.{YieldsList-from_map}
use Rattle.std.proofs.lemmas.Iterator.Consumers.{YieldsList-at, sum_by_from_yields_List, fits_by_from_yields_list}
use Rattle.books.proofs.Standing.{count_le}
use Rattle.books.proofs.Upward.{YieldsList-from_range_inclusive, standing-sum_by}
use Rattle.books.proofs.counting.standing_grades.Goals as goal
use Rattle.books.specs.Meaning.{in_row}
use Rattle.std.specs.List.{range_with_len, sum_by}

pub sum-requires-clause-fits : goal.sum-requires-clause-fits
sum-requires-clause-fits g c =
    let m = g.R.Reading.meaning c.args.book.now in
    let p = m.packages in
    let h : ℕ → ℕ = λ i. in_row (m.grade i) m.translators in
    let k : sum_by h (range_with_len 1 p) < 2 ^ 16 =
    omega (arith, standing-sum_by m.grade p m.translators, count_le m (g.met.R.Reading.sound c.args.book.now)) in
    fits_by_from_yields_list h (range_with_len 1 p) c.map.result (2 ^ 16)
    (YieldsList-from_map _ h (YieldsList-at c.map.ensures.source (YieldsList-from_range_inclusive 1 p p (search rules) (omega arith))) c.map.ensures.closure (λ x r q k. search rules)) k

pub returns : goal.returns
returns g c =
    let m = g.R.Reading.meaning c.args.book.now in
    let p = m.packages in
    let h : ℕ → ℕ = λ i. in_row (m.grade i) m.translators in
    sum_by_from_yields_List h (range_with_len 1 p) c.map.result c.sum.result c.sum.ensures.ran
    (YieldsList-from_map _ h (YieldsList-at c.map.ensures.source (YieldsList-from_range_inclusive 1 p p (search rules) (omega arith))) c.map.ensures.closure (λ x r q k. search rules))
    ∙ sym (standing-sum_by m.grade p m.translators)
