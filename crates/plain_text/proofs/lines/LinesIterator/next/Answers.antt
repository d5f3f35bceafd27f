use Rattle.std.proofs.Common.{rules, ◌≡◌, sym, ap, ◌∙◌, ◌∷◌, length, arith}
use Rattle.plain_text.proofs.Ends.{kept, kept_by, first_line}
use Rattle.plain_text.proofs.lines.LinesIterator.next.Goals as goal
use Rattle.plain_text.specs.Lines.{lines_in, left_of}
use borrow.Author.Tests.{tests}

cut : (c : goal.After-self-1) → left_of c.args.self.now ≡ c.first_piece.result.0.now ∷ lines_in c.filter-self.result
cut c =
    let k : c.filter-self.result ≡ kept c.first_piece.result.1 =
    kept_by c.first_piece.result.1 c.filter-self.result _ c.filter-self.ensures (λ x b r. search (rules, tests)) in
    ap lines_in c.in_ok-self.was
    ∙ first_line c.in_ok-self.field-0.now c.first_piece.result.0.now c.first_piece.result.1 c.first_piece.ensures
    ∙ ap (λ r. c.first_piece.result.0.now ∷ lines_in r) (sym k)

pub returns-clause-steps : goal.returns-clause-steps
returns-clause-steps c = cut c

pub returns-clause-goes : goal.returns-clause-goes
returns-clause-goes c = record {
  on = λ _. (tt, tt, omega (arith, ap length (cut c)));
  keeps = tt;
  rests = λ _. tt;
}
