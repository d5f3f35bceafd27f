use Rattle.page_facts.proofs.Grades.{graded_pairs_stand, loaded_grades_stand, other_lines_leave_the_grades, regraded_pairs_stand, struck_pairs_are_free}
use Rattle.page_facts.proofs.Since.{last_line_decides}
use Rattle.page_facts.proofs.standing_grades.Goals as goal

pub returns : goal.returns
returns c =
    record {
      graded = graded_pairs_stand;
      struck = struck_pairs_are_free;
      loaded = loaded_grades_stand;
      others = other_lines_leave_the_grades;
      again = regraded_pairs_stand;
      last = last_line_decides;
    }
