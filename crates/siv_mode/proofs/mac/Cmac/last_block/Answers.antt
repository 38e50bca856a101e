use Rattle.std.proofs.Common.{◌∙◌}
use Rattle.siv_mode.specs.Cmac.{first_subkey}
use Rattle.siv_mode.proofs.Macs.{last_block-whole, last_block-short}
use Rattle.siv_mode.proofs.mac.Cmac.last_block.Goals as goal

pub returns-then-bytes-eq16 : goal.returns-then-bytes-eq16
unfolding first_subkey
returns-then-bytes-eq16 g c =
    c.sum.ensures ∙ rw (c.whole.ensures, c.self.invariant, c.self.view_is) (last_block-whole (g.C.Cipher.image c.args.self.now) c.args.bytes.now c.if-bytes-eq16.true)

pub returns : goal.returns
unfolding first_subkey
returns g c =
    c.sum-2.ensures ∙ rw (c.padded.ensures, c.doubled.ensures, c.self.invariant, c.self.view_is) (last_block-short (g.C.Cipher.image c.args.self.now) c.args.bytes.now c.if-bytes-eq16.false)
