use Rattle.std.proofs.Common.{ap, ◌∙◌}
use Rattle.file_loading.specs.Loaded.{with_records}
use Rattle.sheet.proofs.sheet.files.put_file.Goals as goal

pub returns : goal.returns
returns g c =
    let m = g.B.Reading.meaning c.args.book.now in
    let bs = c.args.file.now.file.now in
    c.put_records.ensures.after ∙ ap (with_records g.B.Book.LIMIT m bs) c.args.file.now.counted
    ∙ c.put_records.ensures.grades g.K.Kind.NUMBER g.K.Kind.valid g.B.Book.LIMIT m bs c.requires.bytes c.requires.right
    g.met.K.Kind.order.no_zero c.requires.empty c.requires.room
