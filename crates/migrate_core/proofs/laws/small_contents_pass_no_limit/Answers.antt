use Rattle.migrate_core.proofs.Limits.{passed_longer, small_ends, small_passes}
use Rattle.migrate_core.proofs.laws.small_contents_pass_no_limit.Goals as goal

pub returns : goal.returns
returns c = record {
  long = passed_longer c.files_are_not_much_longer.ensures;
  whole = small_ends c.files_are_not_much_longer.ensures c.files_have_their_contents.ensures;
  small = small_passes c.files_are_not_much_longer.ensures c.files_have_their_contents.ensures;
}
