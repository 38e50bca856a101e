use Rattle.std.proofs.Common.{refl, rules}
use Rattle.aes_lanes.specs.declared.tables.TheConstants.{SBOX}
use Rattle.aes_lanes.specs.Field.{sbox}
use Rattle.aes_lanes.specs.Laws.Field.{sbox_by_table, sbox-by_table}
use Rattle.aes_lanes.proofs.TableEntries.{SBOX_is, entry_is}
use Rattle.aes_lanes.proofs.tables.sbox.Goals as goal

pub returns : goal.returns
returns c = entry_is SBOX sbox sbox_by_table SBOX_is refl sbox-by_table c.args.x (search rules)
