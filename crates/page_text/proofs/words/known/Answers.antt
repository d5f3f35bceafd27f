use Rattle.std.proofs.Common.{◌≡◌, rules, codes, Some, arith, sym, refl}
use Rattle.page_text.proofs.Unknown.{unknown_word}
use Rattle.page_text.proofs.words.known.Goals as goal
use Rattle.plain_text.specs.Numbers.{exactly, numerals}
use Rattle.plain_text.specs.Pieces.{pieces_in}
use Rattle.std.proofs.lemmas.Slice.Eq.{text_from_reads}

pub returns-in_ok-packages-in-open : goal.returns-in_ok-packages-in-open
returns-in_ok-packages-in-open c =
    let t = text_from_reads c.args.word.now (codes "open") (omega arith) (search rules) in
    let n : exactly 2 (numerals (pieces_in 32 c.args.after)) ≡ Some c.in_ok-packages-in-open.field-0 = sym c.in_ok-packages-in-open.ensures in
    rw (t, n) refl

pub returns-in_ok-role-in-grade : goal.returns-in_ok-role-in-grade
returns-in_ok-role-in-grade c =
    let t = text_from_reads c.args.word.now (codes "grade") (omega arith) (search rules) in
    let n : exactly 4 (numerals (pieces_in 32 c.args.after)) ≡ Some c.in_ok-role-in-grade.field-0 = sym c.in_ok-role-in-grade.ensures in
    rw (t, n) refl

pub returns-in_ok-role-in-strike : goal.returns-in_ok-role-in-strike
returns-in_ok-role-in-strike c =
    let t = text_from_reads c.args.word.now (codes "strike") (omega arith) (search rules) in
    let n : exactly 3 (numerals (pieces_in 32 c.args.after)) ≡ Some c.in_ok-role-in-strike.field-0 = sym c.in_ok-role-in-strike.ensures in
    rw (t, n) refl

pub returns-in_ok-role-in-draw : goal.returns-in_ok-role-in-draw
returns-in_ok-role-in-draw c =
    let t = text_from_reads c.args.word.now (codes "draw") (omega arith) (search rules) in
    let n : exactly 1 (numerals (pieces_in 32 c.args.after)) ≡ Some c.in_ok-role-in-draw.field-0 = sym c.in_ok-role-in-draw.ensures in
    rw (t, n) refl

pub returns-in_ok-role-in-publish : goal.returns-in_ok-role-in-publish
returns-in_ok-role-in-publish c =
    let t = text_from_reads c.args.word.now (codes "publish") (omega arith) (search rules) in
    let n : exactly 1 (numerals (pieces_in 32 c.args.after)) ≡ Some c.in_ok-role-in-publish.field-0 = sym c.in_ok-role-in-publish.ensures in
    rw (t, n) refl

pub returns-in_ok-role-in-withdraw : goal.returns-in_ok-role-in-withdraw
returns-in_ok-role-in-withdraw c =
    let t = text_from_reads c.args.word.now (codes "withdraw") (omega arith) (search rules) in
    let n : exactly 1 (numerals (pieces_in 32 c.args.after)) ≡ Some c.in_ok-role-in-withdraw.field-0 = sym c.in_ok-role-in-withdraw.ensures in
    rw (t, n) refl

pub returns-in_ok-role-in-show : goal.returns-in_ok-role-in-show
returns-in_ok-role-in-show c =
    let t = text_from_reads c.args.word.now (codes "show") (omega arith) (search rules) in
    let n : exactly 1 (numerals (pieces_in 32 c.args.after)) ≡ Some c.in_ok-role-in-show.field-0 = sym c.in_ok-role-in-show.ensures in
    rw (t, n) refl

pub returns-in_default : goal.returns-in_default
returns-in_default c =
    let b = c.in_default.branch in
    unknown_word c.args.word.now (numerals (pieces_in 32 c.args.after))
    (λ e. grind arith) (λ e. grind arith) (λ e. grind arith) (λ e. grind arith) (λ e. grind arith) (λ e. grind arith) (λ e. grind arith)
