use Rattle.folder_spec.proofs.Seen.{seen_changed, may_call_allowed, allowed_may_call, none_made_odd}
use Rattle.folder_spec.proofs.laws.calls_change_what_is_seen.Goals as goal

pub returns : goal.returns
returns c = record { seen = seen_changed; allowed = may_call_allowed; may_be_made = allowed_may_call; special = none_made_odd }
