use Rattle.std.proofs.Common.{◌≡◌, ◌-◌, List, ℕ, ◌↔◌}
use Rattle.aes_lanes.specs.Cipher.{aes256}
use Rattle.key_wrap.specs.Wrap.{steps}
use Rattle.key_wrap.specs.Private.{IsState}
use Rattle.key_wrap.proofs.unwrap_key.Given as goal

abbrev pub invariant-loop-undone : goal.invariant-loop-undone
invariant-loop-undone l = record {
  state : IsState l.state;
  undone : (before : List ℕ) → IsState before → (steps (aes256 l.kek) 24 before ≡ l.wrapped) ↔ (steps (aes256 l.kek) (24 - l.undone) before ≡ l.state);
}
