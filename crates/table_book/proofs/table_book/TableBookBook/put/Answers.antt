use Rattle.books.proofs.Outcomes.{put_accepted, put_makes}
use Rattle.books.specs.Changes.{put_answer}
use Rattle.books.specs.Limits.{inside}
use Rattle.std.proofs.Common.{◌≡◌, true, Ok, sym, ◌∙◌, rules}
use Rattle.std.proofs.lemmas.Bool.{cond-false, ne_eqb}
use Rattle.table_book.proofs.Writes.{meaning_changed, meaning_of, table_room}
use Rattle.table_book.proofs.table_book.TableBookBook.put.Goals as goal
use Rattle.table_book.specs.Table.{table_grade}

pub returns : goal.returns
returns c =
    let p = c.args.self.now.sizes.packages in
    let t = c.args.self.now.sizes.translators in
    let w = c.args.self.now.sizes.within in
    let codes = c.args.self.now.cells.codes in
    let a = c.args.pkg in
    let b = c.args.translator in
    let i : inside p t a b ≡ true = search rules in
    let k : c.in_ok-pair.pair.pkg ≡ a = search rules in
    let j : c.in_ok-pair.pair.translator ≡ b = search rules in
    let done : put_answer 3072 (meaning_of p t codes) a b c.args.code ≡ Ok tt =
    put_accepted 3072 (meaning_of p t codes) a b c.args.code i c.if-code-eq0.false (table_room p t (table_grade p t codes) a b w i) in
    record {
      answer = sym done;
      after =
          meaning_changed p t codes c.write.new.self.codes a b c.args.code _ w c.args.self.now.cells.whole i
          (rw (k, j) at c.write.ensures) (cond-false _ _ _ (ne_eqb c.args.code 0 c.if-code-eq0.false))
          ∙ sym (put_makes 3072 (meaning_of p t codes) a b c.args.code done);
    }
