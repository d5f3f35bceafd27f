use Rattle.std.proofs.Common.{rules, tests, is_some, sym, ◌∙◌, arith}
use Rattle.std.proofs.lemmas.Iterator.Consumers.{YieldsList-from_filter, YieldsList-at, count_from_yields_List}
use Rattle.books.proofs.Upward.{YieldsList-from_range_inclusive, in_row-filter}
use Rattle.books.proofs.counting.grades_of_package.Goals as goal

pub returns-clause-count : goal.returns-clause-count
returns-clause-count g c =
    let f = (g.R.Reading.meaning c.args.book.now).grade c.args.pkg in
    let t = (g.R.Reading.meaning c.args.book.now).translators in
    count_from_yields_List c.filter.result c.count.result c.count.ensures.ran
    (YieldsList-from_filter _ (λ j. is_some (f j)) (YieldsList-at c.filter.ensures.source (YieldsList-from_range_inclusive 1 t t (search rules) (omega arith))) c.filter.ensures.closure (λ x r q k. search (rules, tests)))
    ∙ sym (in_row-filter f t)
