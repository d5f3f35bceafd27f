-- Numbers of several bytes: what stands in the bytes is what they were made of, and the other way.
use Rattle.std.proofs.Common.{◌≡◌, ℕ, ◌+◌, ◌*◌, ◌/◌, ◌%◌, ◌^◌, ◌<◌, ◌≤◌, List, [], ◌∷◌, length, get_or, take, subst, arith}
use Rattle.file_format.specs.FileOf.{grade_bytes, head_bytes}
use Rattle.file_format.specs.Layout.{two_bytes, six_bytes, count_in, sheet_in}
use Rattle.std.proofs.lemmas.Nat.{shr-shr, div-add-mod'}

module _ (a b c d : ℕ) (l : a < 256) (m : b < 256) (n : c < 256) (o : d < 256) where
  byte_0 : (a + b * 256 + c * 65536 + d * 16777216) % 256 ≡ a
  byte_0 = omega arith

  byte_1 : (a + b * 256 + c * 65536 + d * 16777216) / 256 % 256 ≡ b
  byte_1 = omega arith

  byte_2 : (a + b * 256 + c * 65536 + d * 16777216) / 65536 % 256 ≡ c
  byte_2 = omega arith

  byte_3 : (a + b * 256 + c * 65536 + d * 16777216) / 16777216 % 256 ≡ d
  byte_3 = omega arith

  pub four_below : a + b * 256 + c * 65536 + d * 16777216 < 2 ^ 32
  four_below = omega arith

low_byte : (a b : ℕ) → a < 256 → b < 256 → (a + b * 256) % 256 ≡ a
low_byte a b l m = omega arith

high_byte : (a b : ℕ) → a < 256 → b < 256 → (a + b * 256) / 256 % 256 ≡ b
high_byte a b l m = omega arith

pub four_again :
    (n : ℕ) → n < 2 ^ 32
    → n % 256 + n / 256 % 256 * 256 + n / 65536 % 256 * 65536 + n / 16777216 % 256 * 16777216 ≡ n
four_again n l =
    let e : n / 256 / 256 ≡ n / 65536 = shr-shr n 8 8 in
    let f : n / 65536 / 256 ≡ n / 16777216 = shr-shr n 16 8 in
    let a : n / 256 * 256 + n % 256 ≡ n = div-add-mod' n 256 in
    let b : n / 65536 * 256 + n / 256 % 256 ≡ n / 256 =
    subst (λ q. q * 256 + n / 256 % 256 ≡ n / 256) e (div-add-mod' (n / 256) 256) in
    let c : n / 16777216 * 256 + n / 65536 % 256 ≡ n / 65536 =
    subst (λ q. q * 256 + n / 65536 % 256 ≡ n / 65536) f (div-add-mod' (n / 65536) 256) in
    let d : n / 16777216 % 256 ≡ n / 16777216 = omega arith in
    omega (arith, a, b, c, d)

pub two_again : (n : ℕ) → n < 65536 → n % 256 + n / 256 % 256 * 256 ≡ n
two_again n l = omega arith

-- six bytes are those of the record that they hold
pub six_exact :
    (xs : List ℕ) → 6 ≤ length xs → ((k : ℕ) → get_or xs k 0 < 256)
    → take 6 xs ≡ grade_bytes (six_bytes xs).pkg (six_bytes xs).translator (six_bytes xs).code
six_exact [] l h = absurd (omega arith)
six_exact (x ∷ []) l h = absurd (omega arith)
six_exact (x ∷ y ∷ []) l h = absurd (omega arith)
six_exact (x ∷ y ∷ a ∷ []) l h = absurd (omega arith)
six_exact (x ∷ y ∷ a ∷ b ∷ []) l h = absurd (omega arith)
six_exact (x ∷ y ∷ a ∷ b ∷ c ∷ []) l h = absurd (omega arith)
six_exact (x ∷ y ∷ a ∷ b ∷ c ∷ d ∷ zs) l h =
    let p = byte_0 a b c d (h 2) (h 3) (h 4) (h 5) in
    let q = byte_1 a b c d (h 2) (h 3) (h 4) (h 5) in
    let r = byte_2 a b c d (h 2) (h 3) (h 4) (h 5) in
    let s = byte_3 a b c d (h 2) (h 3) (h 4) (h 5) in
    cc

-- the first seven bytes of a file whose counts and first record are right
pub head_exact :
    (bs : List ℕ) (number p t : ℕ) → 7 ≤ length bs → ((k : ℕ) → get_or bs k 0 < 256) → two_bytes bs ≡ 1
    → (sheet_in bs).kind ≡ number → (sheet_in bs).packages ≡ p → (sheet_in bs).translators ≡ t
    → take 7 bs ≡ head_bytes number p t (count_in bs)
head_exact [] number p t l h e f g i = absurd (omega arith)
head_exact (x ∷ []) number p t l h e f g i = absurd (omega arith)
head_exact (x ∷ y ∷ []) number p t l h e f g i = absurd (omega arith)
head_exact (x ∷ y ∷ a ∷ []) number p t l h e f g i = absurd (omega arith)
head_exact (x ∷ y ∷ a ∷ b ∷ []) number p t l h e f g i = absurd (omega arith)
head_exact (x ∷ y ∷ a ∷ b ∷ c ∷ []) number p t l h e f g i = absurd (omega arith)
head_exact (x ∷ y ∷ a ∷ b ∷ c ∷ d ∷ []) number p t l h e f g i = absurd (omega arith)
head_exact (x ∷ y ∷ a ∷ b ∷ c ∷ d ∷ z ∷ zs) number p t l h e f g i =
    let q : x ≡ 1 = omega (arith, h 0, e) in
    let r : y ≡ 0 = omega (arith, h 1, e) in
    let s : (d + z * 256) % 256 ≡ d = low_byte d z (h 5) (h 6) in
    let u : (d + z * 256) / 256 % 256 ≡ z = high_byte d z (h 5) (h 6) in
    cc
