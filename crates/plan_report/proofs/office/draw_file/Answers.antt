use Rattle.pages.specs.Lines.{Call}
use Rattle.plan_report.proofs.Drawing.{as_manager, load_ends, draw_ends, spend_ends, plan_drawn, none_drawn}
use Rattle.plan_report.proofs.office.draw_file.Goals as goal
use Rattle.sheet.specs.Told.{told_done, told_draw, told_spent}
use Rattle.std.proofs.Common.{[], Ok, Err, arith, rules}

pub unreachable-requires : goal.unreachable-requires
unreachable-requires g c =
    load_ends g.K.Kind.NUMBER g.K.Kind.valid g.K.Kind.above c.args.sizes.packages c.args.sizes.translators
    c.open_sheet-sheet.result c.load.new.self c.args.file.now c.open_sheet-sheet.ensures c.in_default.field-0
    c.requires.right
    (as_manager c.into-manager.result (Call.load c.args.file.now) [] [] (told_done (Err c.in_default.field-0) [] []) c.into-manager.ensures (c.in_default.ensures [] []))

pub unreachable-requires-in_default-draw : goal.unreachable-requires-in_default-draw
unreachable-requires-in_default-draw g c =
    draw_ends g.K.Kind.NUMBER g.K.Kind.valid g.K.Kind.above c.args.sizes.packages c.args.sizes.translators
    c.open_sheet-sheet.result c.load.new.self c.args.file.now c.open_sheet-sheet.ensures
    (as_manager c.into-manager.result (Call.load c.args.file.now) [] [] (told_done (Ok tt) [] []) c.into-manager.ensures (c.in-Ok.ensures [] []))
    c.draw.new.self c.args.plan.now c.args.set.now c.draw.new.plan c.draw.new.set
    c.in_default-draw.field-0 (omega (arith, c.requires.room.0, c.args.sizes.within.1))
    (omega (arith, c.requires.room.1, c.args.sizes.within.1))
    (as_manager c.into-manager.result Call.draw c.args.plan.now c.args.set.now (told_draw (Err c.in_default-draw.field-0) c.draw.new.plan c.draw.new.set) c.into-manager.ensures c.in_default-draw.ensures)

pub unreachable-requires-in-Err : goal.unreachable-requires-in-Err
unreachable-requires-in-Err g c =
    spend_ends g.K.Kind.NUMBER g.K.Kind.valid g.K.Kind.above c.args.sizes.packages c.args.sizes.translators
    c.open_sheet-sheet.result c.load.new.self c.args.file.now c.open_sheet-sheet.ensures
    (as_manager c.into-manager.result (Call.load c.args.file.now) [] [] (told_done (Ok tt) [] []) c.into-manager.ensures (c.in-Ok.ensures [] []))
    c.draw.new.self c.args.plan.now c.args.set.now c.draw.new.plan c.draw.new.set
    c.in-Ok-draw.drawn
    (as_manager c.into-manager.result Call.draw c.args.plan.now c.args.set.now (told_draw (Ok c.in-Ok-draw.drawn) c.draw.new.plan c.draw.new.set) c.into-manager.ensures c.in-Ok-draw.ensures)
    c.in_ok-lowest.field-0.lowest c.in_ok-lowest.field-0.slip (c.in-Err.field-0-0, c.in-Err._slip)
    c.withdraw.new.self (search rules)
    (as_manager c.into-manager.result (Call.withdraw c.in_ok-lowest.field-0.slip.tag) [] [] (told_spent (Err (c.in-Err.field-0-0, c.in-Err._slip)) [] []) c.into-manager.ensures (c.in-Err.ensures [] []))

pub returns : goal.returns
returns g c =
    plan_drawn g.K.Kind.NUMBER g.K.Kind.valid g.K.Kind.above c.args.sizes.packages c.args.sizes.translators
    c.open_sheet-sheet.result c.load.new.self c.args.file.now c.open_sheet-sheet.ensures
    (as_manager c.into-manager.result (Call.load c.args.file.now) [] [] (told_done (Ok tt) [] []) c.into-manager.ensures (c.in-Ok.ensures [] []))
    c.draw.new.self c.args.plan.now c.args.set.now c.draw.new.plan c.draw.new.set
    c.in-Ok-draw.drawn
    (as_manager c.into-manager.result Call.draw c.args.plan.now c.args.set.now (told_draw (Ok c.in-Ok-draw.drawn) c.draw.new.plan c.draw.new.set) c.into-manager.ensures c.in-Ok-draw.ensures)
    c.in_ok-lowest.field-0.lowest c.in_ok-lowest.field-0.slip (search rules)

pub returns-in_err-lowest : goal.returns-in_err-lowest
returns-in_err-lowest g c =
    let none = none_drawn g.K.Kind.NUMBER g.K.Kind.valid g.K.Kind.above c.args.sizes.packages c.args.sizes.translators
    c.open_sheet-sheet.result c.load.new.self c.args.file.now c.open_sheet-sheet.ensures
    (as_manager c.into-manager.result (Call.load c.args.file.now) [] [] (told_done (Ok tt) [] []) c.into-manager.ensures (c.in-Ok.ensures [] []))
    c.draw.new.self c.args.plan.now c.args.set.now c.draw.new.plan c.draw.new.set
    c.in-Ok-draw.drawn
    (as_manager c.into-manager.result Call.draw c.args.plan.now c.args.set.now (told_draw (Ok c.in-Ok-draw.drawn) c.draw.new.plan c.draw.new.set) c.into-manager.ensures c.in-Ok-draw.ensures)
    (search rules) in
    search rules
