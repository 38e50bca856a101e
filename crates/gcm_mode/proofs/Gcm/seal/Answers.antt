use Rattle.gcm_mode.proofs.Modes.{sealed-is, tag-is}
use Rattle.gcm_mode.proofs.Gcm.seal.Goals as goal

pub returns : goal.returns
returns c =
    let stream = rw c.pre_counter-counter.ensures at c.add_stream.ensures in
    sealed-is _ _ _ _ _ _ stream
    (tag-is c.args.self.now c.args.iv.now c.args.ad.now _ _ _ _ c.pre_counter-counter.ensures c.stream-stream.ensures.first c.tag.ensures)
