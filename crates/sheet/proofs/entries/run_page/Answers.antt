use Rattle.pages.proofs.Back.{saved_grades_come_back, loaded_files_are_saved_ones}
use Rattle.pages.proofs.Kept.{standing_grades_are_of_the_kind}
use Rattle.pages.proofs.Off.{same_lines_same_answers, refused_lines_come_off}
use Rattle.pages.proofs.Slips.{every_slip_is_counted}
use Rattle.pages.proofs.Told.{refused_for_the_first_reason, drawn_lines_have_the_best_plan, short_lines_have_no_plan, drawn_where_there_is_a_plan, shows_give_the_published_plan, other_calls_are_done, same_grades_same_plan}
use Rattle.std.proofs.Common.{◌≡◌, ◌+◌, List, ◌∷◌, get_or, take, set, sym, ap, ◌∙◌, subst, arith}
use Rattle.pages.specs.Lines.{Event, run_on}
use Rattle.sheet.proofs.Entered.{events_more, run_push, same_item, same_rest}
use Rattle.sheet.proofs.entries.run_page.Goals as goal
use Rattle.sheet.specs.Entries.{event_in, events_in}
use Rattle.sheet.specs.Sheets.{LedTo, stood_of}
use Rattle.sheet.specs.declared.entries.Entry.{Entry}
use Rattle.std.proofs.lemmas.List.{take_all}

pub loop-entry-preserved : goal.loop-entry-preserved
loop-entry-preserved g c =
    let xs = c.args.page.now in
    let ys = c.loop-entry.entry-items in
    let i = c.loop-entry.entry-index in
    let y = c.run_entry.new.entry in
    let d = c.entry-item.result in
    let es = events_in (take i xs) (take i ys) in
    let item : get_or ys i d ≡ get_or xs i d = same_item xs ys i d c.loop-entry.invariant.1 in (
      (λ o h r.
          let grown : run_on h (events_in (take (i + 1) xs) (take (i + 1) (set ys i y))) ≡ event_in (get_or ys i d) y ∷ run_on h es =
          ap (run_on h) (events_more xs ys i d y c.loop-entry.auto.entry-items c.loop-entry-test.true)
          ∙ run_push h es (event_in (get_or xs i d) y)
          ∙ ap (λ (z : Entry). event_in z y ∷ run_on h es) (sym item) in
          subst
          (λ (z : List Event). LedTo o z (stood_of g.B.Book.LIMIT g.K.Kind.NUMBER g.K.Kind.valid g.K.Kind.above g.B.Reading.meaning c.run_entry.new.sheet))
          (sym grown) (c.run_entry.ensures o (run_on h es) (c.loop-entry.invariant.0 o h r))),
      same_rest xs ys i y c.loop-entry.invariant.1,
    )

pub returns : goal.returns
returns g c =
    let xs = c.args.page.now in
    let ys = c.loop-entry.entry-items in
    let i = c.loop-entry.entry-index in
    let all : take i ys ≡ ys = take_all i ys (omega (arith, c.loop-entry-test.false, c.loop-entry.auto.entry-items)) in
    record {
      ran = λ o h r. rw (take_all i xs c.loop-entry-test.false, all) at (c.loop-entry.invariant.0 o h r);
      refused = refused_for_the_first_reason;
      drawn = drawn_lines_have_the_best_plan;
      short = short_lines_have_no_plan;
      drawn_or_short = drawn_where_there_is_a_plan;
      shown = shows_give_the_published_plan;
      done = other_calls_are_done;
      counted = every_slip_is_counted;
      same_answers = same_lines_same_answers;
      come_off = refused_lines_come_off;
      of_the_kind = standing_grades_are_of_the_kind;
      come_back = saved_grades_come_back;
      loaded = loaded_files_are_saved_ones;
      same_plan = same_grades_same_plan;
    }
