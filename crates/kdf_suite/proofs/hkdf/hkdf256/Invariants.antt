use Rattle.std.proofs.Common.{◌≡◌, ◌≤◌, suc, take}
use Rattle.kdf_suite.specs.Hkdf.{hkdf_block}
use Rattle.kdf_suite.proofs.FirstBlocks.{IsFilled}
use Rattle.kdf_suite.proofs.hkdf.hkdf256.Given as goal

abbrev pub invariant-numbered : goal.invariant-numbered
invariant-numbered l = record {
  filled : IsFilled (λ k. hkdf_block l.key l.info (suc k)) l.out l.index;
  last : take l.block_len l.block ≡ hkdf_block l.key l.info l.index;
  short : l.block_len ≤ 32;
}
