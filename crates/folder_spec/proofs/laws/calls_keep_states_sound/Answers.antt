use Rattle.folder_spec.proofs.Sound.{changed_sound, fallen_sound}
use Rattle.folder_spec.proofs.laws.calls_keep_states_sound.Goals as goal

pub returns : goal.returns
returns c = record { done = changed_sound; failed = fallen_sound }
