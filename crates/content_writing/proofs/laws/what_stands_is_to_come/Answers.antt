use Rattle.content_writing.proofs.Comings.{still_stands}
use Rattle.content_writing.proofs.laws.what_stands_is_to_come.Goals as goal

pub returns : goal.returns
returns c = still_stands
