-- A number digit by digit: what one digit more makes of the number so far.
use Rattle.std.proofs.Common.{◌≡◌, ℕ, ◌+◌, ◌*◌, ◌-◌, ◌^◌, ◌<◌, ◌≤◌, true, List, length, take, get_or, sym, ◌∙◌, pow-suc, add-one, arith}
use Rattle.std.proofs.Math.Nat.{pow-le-pow_right}
use Rattle.std.proofs.lemmas.Int.Digits.{digits_value_more}
use Rattle.std.proofs.lemmas.List.Folds.{list_all_more}
use Rattle.std.proofs.lemmas.Str.{digit_value_digit}
use Rattle.std.specs.Char.{is_ascii_digit}
use Rattle.std.specs.Int.{IsInRange}
use Rattle.std.specs.List.{list_all}
use Rattle.std.specs.Str.Parse.{digits_value}

pub below_nine : (i : ℕ) → i < 9 → 10 ^ i ≤ 100000000
below_nine i h = pow-le-pow_right {n = 10} (omega arith) {i = i} {j = 8} (omega arith)

pub digit_more :
    (bs : List ℕ) (i v d : ℕ) → i < length bs → is_ascii_digit (get_or bs i 0) ≡ true → IsInRange 48 57 (get_or bs i 0) → d ≡ get_or bs i 0 - 48
    → (digits_value 10 (take i bs) ≡ v) × (list_all is_ascii_digit (take i bs) ≡ true) × (v < 10 ^ i)
    → (digits_value 10 (take (i + 1) bs) ≡ 10 * v + d) × (list_all is_ascii_digit (take (i + 1) bs) ≡ true) × (10 * v + d < 10 ^ (i + 1))
digit_more bs i v d l h r e (w, a, b) =
    let q = digit_value_digit (get_or bs i 0) r in
    let m = digits_value_more 10 bs i l in
    let p : 10 ^ (i + 1) ≡ 10 ^ i * 10 = rw (add-one, pow-suc) in
    (omega (arith, q, m, w, e), list_all_more is_ascii_digit bs i 0 l ∙ rw (a, h), omega (arith, p, b, e, r.0, r.1))
