use Rattle.std.proofs.Common.{◌≡◌, ℕ, List, length, vec_items, rules, ap, ◌∙◌, subst, ◌∷◌}
use Rattle.pages.specs.Lines.{Event}
use Rattle.sheet.proofs.Entered.{same_event}
use Rattle.sheet.proofs.entries.run_entry.Goals as goal
use Rattle.sheet.specs.Entries.{asked_in}
use Rattle.sheet.specs.Sheets.{LedTo, stood_of}
use Rattle.std.proofs.lemmas.List.{with_items_is}
use Rattle.std.specs.Option.{option_map}

pub returns : goal.returns
returns g c o h r =
    let e = c.args.entry.now in
    let long : length c.call-outcome.new.plan ≡ e.plan.len = search rules in
    let wide : length c.call-outcome.new.set ≡ e.set.len = search rules in
    let tag : c.map.result ≡ option_map (λ s. s.tag) c.call-outcome.result.slip = search rules in
    subst
    (λ (z : Event). LedTo o (z ∷ h) (stood_of g.B.Book.LIMIT g.K.Kind.NUMBER g.K.Kind.valid g.K.Kind.above g.B.Reading.meaning c.call-outcome.new.self))
    (same_event c.line_of-line.result e.ask (vec_items e.file) (vec_items e.plan) (vec_items e.set)
    c.call-outcome.new.plan c.call-outcome.new.set c.deref_mut.result.now c.deref_mut-2.result.now
    c.call-outcome.result c.map.result _ _
    (λ p s. c.line_of-line.ensures p s ∙ ap (λ (f : List ℕ). asked_in e.ask f p s) c.deref.ensures.value)
    c.deref_mut.ensures.value c.deref_mut-2.ensures.value tag
    (with_items_is e.plan c.call-outcome.new.plan long) (with_items_is e.set c.call-outcome.new.set wide))
    (c.call-outcome.ensures.ran o h r)
