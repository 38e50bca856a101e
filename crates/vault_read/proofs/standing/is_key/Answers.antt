use Rattle.std.proofs.Common.{◌∙◌, ap, not}
use Rattle.vault_read.proofs.Keys.{go_key, cm_key}
use Rattle.vault_read.proofs.standing.is_key.Goals as goal

pub returns-then-bytes-eq16 : goal.returns-then-bytes-eq16
returns-then-bytes-eq16 c = ap not c.is_zero.ensures ∙ go_key c.args.kind c.args.bytes.now c.in-Gocryptfs.is c.type_inv.bytes c.if-bytes-eq16.true

pub returns-in-Cryptomator : goal.returns-in-Cryptomator
returns-in-Cryptomator c = ap not c.is_empty.ensures ∙ cm_key c.args.kind c.args.bytes.now c.in-Cryptomator.is c.type_inv.bytes
