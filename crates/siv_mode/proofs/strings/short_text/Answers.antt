use Rattle.std.proofs.Common.{◌∙◌}
use Rattle.siv_mode.proofs.LastStrings.{last_text-short}
use Rattle.siv_mode.proofs.strings.short_text.Goals as goal

pub returns : goal.returns
returns c =
    c.sum.ensures ∙ rw (c.doubled.ensures, c.padded.ensures) (last_text-short c.args.d.now c.args.string.now c.requires)
