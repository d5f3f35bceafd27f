-- A buffer too short for a file, and one with room for it.
use Rattle.std.proofs.Common.{◌≡◌, ℕ, ◌+◌, ◌*◌, ◌^◌, ◌<◌, ◌≤◌, Bool, nat_le, List, ◌++◌, length, drop, Some, Ok, Err, sym, ap, ◌∙◌, ⊎_elim, arith}
use Rattle.books.specs.Limits.{inside}
use Rattle.books.specs.Meaning.{Meaning, Sound, count}
use Rattle.books.proofs.Inside.{lies}
use Rattle.file_format.proofs.RoundTrip.{file_is_right}
use Rattle.file_format.specs.FileOf.{head_bytes, grades_bytes}
use Rattle.refusals.specs.declared.refusal.Refusal.TheVariants.{Space}
use Rattle.saved_writer.proofs.Lengths.{length_grades}
use Rattle.saved_writer.specs.Written.{CodesFit, ReadsBack, file_of_meaning, write_after, write_answer}
use Rattle.std.proofs.lemmas.List.{length-append}
use Rattle.std.proofs.lemmas.Bool.{cases_Bool, cond-false, cond-true, le-leb, lt-leb}

pub length_file : (number : ℕ) (m : Meaning) → length (file_of_meaning number m) ≡ 7 + 6 * count m
length_file number m =
    length-append (head_bytes number m.packages m.translators (count m)) (grades_bytes m.grade m.packages m.translators)
    ∙ ap (λ n. 7 + n) (length_grades m.grade m.packages m.translators)

pub too_short :
    (number : ℕ) (m : Meaning) (n : ℕ) (buffer : List ℕ) → n ≡ count m → length buffer < 7 + 6 * n
    → (Err Space ≡ write_answer (file_of_meaning number m) buffer)
    × (buffer ≡ write_after (file_of_meaning number m) buffer)
too_short number m n buffer e h =
    let f = file_of_meaning number m in
    let k = lt-leb (length f) (length buffer) (omega (arith, e, length_file number m)) in (
      sym (cond-false (nat_le (length f) (length buffer)) (Ok (length f)) (Err Space) k),
      sym (cond-false (nat_le (length f) (length buffer)) (f ++ drop (length f) buffer) buffer k),
    )

pub room :
    (number : ℕ) (m : Meaning) (buffer : List ℕ) (n : ℕ) → n ≡ count m → 7 + 6 * n ≤ length buffer
    → Ok (7 + 6 * n) ≡ write_answer (file_of_meaning number m) buffer
room number m buffer n e h =
    let f = file_of_meaning number m in
    let k = le-leb (length f) (length buffer) (omega (arith, e, length_file number m)) in
    let q : 7 + 6 * n ≡ length f = omega (arith, e, length_file number m) in
    ap Ok q ∙ sym (cond-true (nat_le (length f) (length buffer)) (Ok (length f)) (Err Space) k)

pub reads_back :
    (number : ℕ) (valid : ℕ → Bool) (m : Meaning) → Sound m → CodesFit m.grade m.packages m.translators
    → ReadsBack number valid m
reads_back number valid m s f h =
    file_is_right number valid m.packages m.translators m.grade
    (record { sizes = s.sizes; outside = s.outside; codes = λ i j code e. (h i j code e, fits i j code e) })
  where
    fits : (i j code : ℕ) → m.grade i j ≡ Some code → code < 2 ^ 32
    fits i j code e =
        ⊎_elim
        (λ w.
        let v = lies m.packages m.translators i j w in
        f i v.row v.row_most j v.column v.column_most code e)
        (λ w. let k = s.outside i j w in absurd (let z : ◌≡◌ {A = ℕ} 0 1 = cc in omega arith))
        (cases_Bool (inside m.packages m.translators i j))
