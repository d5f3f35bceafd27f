use Rattle.page_facts.proofs.Buffers.{drawn_lines_in_words, later_places_never_change, short_lines_in_words, writes_little}
use Rattle.page_facts.proofs.buffers_in_words.Goals as goal

pub returns : goal.returns
returns c =
    record { later = later_places_never_change; little = writes_little; drawn = drawn_lines_in_words; short = short_lines_in_words }
