use Rattle.std.proofs.Common.{◌≡◌, length, take}
use Rattle.plain_text.proofs.Rows.{before}
use Rattle.plain_text.proofs.digits.numbers.Given as goal
use Rattle.plain_text.specs.Numbers.{numerals}
use Rattle.plain_text.specs.Pieces.{pieces_in}

-- the numbers so far, before those that the words left are
abbrev pub invariant-loop-number : goal.invariant-loop-number
invariant-loop-number g l = record {
  whole : length l.number-items ≡ g.row.N;
  read :
      numerals (pieces_in 32 l.fn.words)
      ≡ before (take l.number-index l.number-items) (numerals (pieces_in 32 l.rest));
}
