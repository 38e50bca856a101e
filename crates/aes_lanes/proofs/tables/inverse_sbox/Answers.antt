use Rattle.std.proofs.Common.{refl, rules}
use Rattle.aes_lanes.specs.declared.tables.TheConstants.{INVERSE_SBOX}
use Rattle.aes_lanes.specs.Field.{inverse_sbox}
use Rattle.aes_lanes.specs.Laws.Field.{inverse_sbox_by_table, inverse_sbox-by_table}
use Rattle.aes_lanes.proofs.TableEntries.{INVERSE_SBOX_is, entry_is}
use Rattle.aes_lanes.proofs.tables.inverse_sbox.Goals as goal

pub returns : goal.returns
returns c = entry_is INVERSE_SBOX inverse_sbox inverse_sbox_by_table INVERSE_SBOX_is refl inverse_sbox-by_table c.args.x (search rules)
