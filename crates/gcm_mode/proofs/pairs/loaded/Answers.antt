use Rattle.std.proofs.Common.{◌+◌}
use Rattle.std.proofs.lemmas.Simd.{get_or-chunk, length-chunk}
use Rattle.gcm_mode.proofs.Lanes.{IsPair-lanes}
use Rattle.gcm_mode.proofs.pairs.loaded.Goals as goal

pub returns : goal.returns
returns c =
    let at = c.args.at in
    let bytes = c.args.bytes.now in
    record {
      pair = IsPair-lanes _ (length-chunk at 32 bytes c.requires) (λ k lt. rw (get_or-chunk at 32 bytes k 0 lt) ((c.type_inv.bytes (at + k)).fits));
      each = λ k lt. get_or-chunk at 32 bytes k 0 lt;
    }
