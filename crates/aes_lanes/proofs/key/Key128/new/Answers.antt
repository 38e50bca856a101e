use Rattle.std.proofs.Common.{sym, ap, ◌∙◌}
use Rattle.aes_lanes.specs.Private.{key_of}
use Rattle.aes_lanes.specs.Cipher.{key_schedule}
use Rattle.aes_lanes.proofs.ScheduleSteps.{key_of-expanded_key}
use Rattle.aes_lanes.proofs.key.Key128.new.Goals as goal

pub returns : goal.returns
returns c =
    ap (key_of 4) c.expand_key.ensures ∙ key_of-expanded_key 4 c.args.key.now 40 c.fits-key c.told-key

pub invariant_of-result : goal.invariant_of-result
unfolding key_schedule
invariant_of-result c = record {
  schedule = c.expand_key.ensures ∙ ap (key_schedule 4) (sym (returns c));
  blocks = c.expand_blocks.ensures;
  planes = c.expand_planes.ensures;
}
