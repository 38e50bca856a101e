use Rattle.std.proofs.Common.{refl}
use Rattle.gcm_mode.specs.Gcm.{hash_subkey}
use Rattle.gcm_mode.proofs.subkey_of.Goals as goal

pub returns : goal.returns
unfolding hash_subkey
returns c = rw c.encrypt_blocks.ensures refl
