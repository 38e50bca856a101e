use Rattle.key_wrap.proofs.Steps.{numbered-small}
use Rattle.key_wrap.proofs.numbered.Goals as goal

pub returns : goal.returns
returns c = numbered-small c.args.t c.args.block.now c.ranges.t.fits c.told-block
