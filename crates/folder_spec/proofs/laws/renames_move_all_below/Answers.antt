use Rattle.folder_spec.proofs.Tables.{moved-new, moved-old, moved-other}
use Rattle.folder_spec.proofs.laws.renames_move_all_below.Goals as goal

pub returns : goal.returns
returns c = record { there = moved-new; gone = moved-old; others = moved-other }
