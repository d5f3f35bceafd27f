use Rattle.std.proofs.Common.{◌≡◌, ◌<◌, ◌^◌, true, take}
use Rattle.plain_text.proofs.digits.numeral.Given as goal
use Rattle.std.specs.Char.{is_ascii_digit}
use Rattle.std.specs.List.{list_all}
use Rattle.std.specs.Str.Parse.{digits_value}

-- the value is that of the digits so far
abbrev pub invariant-loop-digit : goal.invariant-loop-digit
invariant-loop-digit l =
    (digits_value 10 (take l.digit-index l.digits) ≡ l.value)
    × (list_all is_ascii_digit (take l.digit-index l.digits) ≡ true)
    × (l.value < 10 ^ l.digit-index)
