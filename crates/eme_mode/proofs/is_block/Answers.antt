use Rattle.eme_mode.proofs.is_block.Goals as goal

pub returns : goal.returns
returns c = record { sixteen = c.told-block; bytes = c.fits-block }
