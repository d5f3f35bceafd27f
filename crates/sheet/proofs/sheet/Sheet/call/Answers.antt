use Rattle.pages.proofs.Back.{saved_grades_come_back, loaded_files_are_saved_ones}
use Rattle.pages.proofs.Kept.{standing_grades_are_of_the_kind}
use Rattle.pages.proofs.Off.{same_lines_same_answers, refused_lines_come_off}
use Rattle.pages.proofs.Runs.{ran_more}
use Rattle.pages.proofs.Slips.{every_slip_is_counted}
use Rattle.pages.proofs.Told.{refused_for_the_first_reason, drawn_lines_have_the_best_plan, short_lines_have_no_plan, drawn_where_there_is_a_plan, shows_give_the_published_plan, other_calls_are_done, same_grades_same_plan}
use Rattle.sheet.proofs.Answered.{led_fits}
use Rattle.sheet.proofs.sheet.Sheet.call.Goals as goal

pub returns : goal.returns
returns g c =
    record {
      ran = λ o h r. ran_more o _ h _ _ _ _ _ r (c.answer_to.ensures (led_fits o h _ r));
      refused = refused_for_the_first_reason;
      drawn = drawn_lines_have_the_best_plan;
      short = short_lines_have_no_plan;
      drawn_or_short = drawn_where_there_is_a_plan;
      shown = shows_give_the_published_plan;
      done = other_calls_are_done;
      counted = every_slip_is_counted;
      same_answers = same_lines_same_answers;
      come_off = refused_lines_come_off;
      of_the_kind = standing_grades_are_of_the_kind;
      come_back = saved_grades_come_back;
      loaded = loaded_files_are_saved_ones;
      same_plan = same_grades_same_plan;
    }
