use Rattle.std.proofs.Common.{◌-◌, ℕ, sym, ap, ◌∙◌}
use Rattle.aes_lanes.specs.Private.{key_of}
use Rattle.aes_lanes.specs.Cipher.{key_schedule}
use Rattle.aes_lanes.specs.Schedule.{expanded_key}
use Rattle.aes_lanes.proofs.ScheduleSteps.{key_of-expanded_key}
use Rattle.aes_lanes.proofs.key.Key256.renew.Goals as goal

pub returns : goal.returns
returns c =
    ap (key_of 8) (c.expand_key.ensures ∙ ap (λ (n : ℕ). expanded_key 8 c.args.key.now (n - 8)) c.self.told.0)
    ∙ key_of-expanded_key 8 c.args.key.now 52 c.fits-key c.told-key

pub invariant_of-self : goal.invariant_of-self
unfolding key_schedule
invariant_of-self c = record {
  schedule = c.expand_key.ensures ∙ ap (λ (n : ℕ). expanded_key 8 c.args.key.now (n - 8)) c.self.told.0 ∙ ap (key_schedule 8) (sym (returns c));
  blocks = c.expand_blocks.ensures;
  planes = c.expand_planes.ensures;
}
