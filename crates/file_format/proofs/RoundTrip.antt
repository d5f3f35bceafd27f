-- The laws of the round trip: which strings are right, what they hold, and that they differ in their
-- grades where they differ.
use Rattle.file_format.proofs.Decoded.{right_file, right_graded}
use Rattle.file_format.proofs.Encoded.{file_right, file_grades}
use Rattle.file_format.specs.FileOf.{file_of, grade_in}
use Rattle.file_format.specs.Laws.{RightIsTheFile, FileIsRight, SameGradesSameBytes}
use Rattle.std.proofs.Common.{◌≡◌, sym, ap, ◌∙◌}

pub right_is_the_file : RightIsTheFile
right_is_the_file number valid p t bs W B R =
    (right_graded number valid p t bs W B R, right_file number valid p t bs B R)

pub file_is_right : FileIsRight
file_is_right number valid p t G A = (file_right valid p t G A number, file_grades valid p t G A number)

pub same_grades_same_bytes : SameGradesSameBytes
same_grades_same_bytes number valid p t bs cs B C R S h =
    let e : grade_in bs ≡ grade_in cs = λ k i j. h i j k in
    right_file number valid p t bs B R ∙ ap (file_of number p t) e ∙ sym (right_file number valid p t cs C S)
