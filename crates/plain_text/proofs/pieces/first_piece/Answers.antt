use Rattle.std.proofs.Common.{◌≡◌, rules, ◌==◌, sym, ◌∙◌}
use Rattle.plain_text.proofs.Cuts.{split_found, split_none}
use Rattle.plain_text.proofs.pieces.first_piece.Goals as goal
use Rattle.std.proofs.lemmas.Iterator.{YieldsList-from_slice}
use Rattle.std.proofs.lemmas.Iterator.Search.{position_from_yields_List}
use Rattle.std.proofs.lemmas.List.{take_rest}
use Rattle.std.specs.List.{position}
use borrow.Author.Tests.{tests}

pub returns-in-Some : goal.returns-in-Some
returns-in-Some c =
    let e : c.position.result ≡ position (λ b. b == c.args.cut) c.args.bytes.now =
    position_from_yields_List (λ b. b == c.args.cut) _ _ c.position.result c.position.ensures.ran
    (YieldsList-from_slice c.args.bytes.now c.iter.ensures.rest) (λ x b q k. search (rules, tests)) in
    simp take_rest (split_found (λ b. b == c.args.cut) c.args.bytes.now c.in-Some.end (sym e ∙ c.in-Some.is))

pub returns-in-None : goal.returns-in-None
returns-in-None c =
    let e : c.position.result ≡ position (λ b. b == c.args.cut) c.args.bytes.now =
    position_from_yields_List (λ b. b == c.args.cut) _ _ c.position.result c.position.ensures.ran
    (YieldsList-from_slice c.args.bytes.now c.iter.ensures.rest) (λ x b q k. search (rules, tests)) in
    split_none (λ b. b == c.args.cut) c.args.bytes.now (sym e ∙ c.in-None.is)
