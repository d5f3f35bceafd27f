use Rattle.page_facts.proofs.Order.{draws_need_room, grade_lines_in_order, loads_in_order, shows_in_order, slip_out_first, strikes_in_order, wrong_slips}
use Rattle.page_facts.proofs.reasons_in_order.Goals as goal

pub returns : goal.returns
returns c =
    record {
      slip_out = slip_out_first;
      wrong_slip = wrong_slips;
      grade = grade_lines_in_order;
      strike = strikes_in_order;
      load = loads_in_order;
      draw = draws_need_room;
      show = shows_in_order;
    }
