use Rattle.table_book.proofs.Writes.{table_blank}
use Rattle.table_book.proofs.table_book.TableBook.new.Goals as goal
use Rattle.std.proofs.Common.{refl}

pub returns : goal.returns
returns c =
    let p = c.args.sizes.packages in
    let t = c.args.sizes.translators in
    record {
      packages = refl;
      translators = refl;
      empty = λ i j. simp c.blank.ensures (table_blank p t i j);
    }
