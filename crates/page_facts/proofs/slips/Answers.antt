use Rattle.page_facts.proofs.Spent.{drawn_plans_are_out, other_lines_leave_the_slip, short_draws_hand_out_none, slips_come_from_draws, spent_slips_are_gone}
use Rattle.page_facts.proofs.Spans.{last_slip_decides}
use Rattle.page_facts.proofs.slips.Goals as goal

pub returns : goal.returns
returns c =
    record {
      out = drawn_plans_are_out;
      spent = spent_slips_are_gone;
      short = short_draws_hand_out_none;
      source = slips_come_from_draws;
      others = other_lines_leave_the_slip;
      last = last_slip_decides;
    }
