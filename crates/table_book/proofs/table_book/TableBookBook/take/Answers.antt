use Rattle.books.proofs.Outcomes.{take_accepted, take_makes}
use Rattle.books.specs.Changes.{take_answer}
use Rattle.books.specs.Limits.{inside}
use Rattle.std.proofs.Common.{◌≡◌, true, is_some, Ok, refl, sym, ◌∙◌, rules}
use Rattle.table_book.proofs.Writes.{meaning_changed, meaning_of}
use Rattle.table_book.proofs.table_book.TableBookBook.take.Goals as goal
use Rattle.table_book.specs.Table.{table_grade}

pub returns : goal.returns
returns c =
    let p = c.args.self.now.sizes.packages in
    let t = c.args.self.now.sizes.translators in
    let w = c.args.self.now.sizes.within in
    let codes = c.args.self.now.cells.codes in
    let a = c.args.pkg in
    let b = c.args.translator in
    let i : inside p t a b ≡ true = search rules in
    let k : c.in_ok-pair.pair.pkg ≡ a = search rules in
    let j : c.in_ok-pair.pair.translator ≡ b = search rules in
    let s : is_some (table_grade p t codes a b) ≡ true = search (rules, i, k, j) in
    let done : take_answer (meaning_of p t codes) a b ≡ Ok tt = take_accepted (meaning_of p t codes) a b i s in
    record {
      answer = sym done;
      after =
          meaning_changed p t codes c.write.new.self.codes a b 0 _ w c.args.self.now.cells.whole i
          (rw (k, j) at c.write.ensures) refl ∙ sym (take_makes (meaning_of p t codes) a b done);
    }
