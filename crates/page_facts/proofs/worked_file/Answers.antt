use Rattle.page_facts.proofs.Damaged.{damaged_files}
use Rattle.page_facts.proofs.Example.{bytes_in_their_places, worked_file}
use Rattle.page_facts.proofs.worked_file.Goals as goal

pub returns : goal.returns
returns c = record { whole = worked_file; damaged = damaged_files; places = bytes_in_their_places }
