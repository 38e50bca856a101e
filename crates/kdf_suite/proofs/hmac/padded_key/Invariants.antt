use Rattle.std.proofs.Common.{◌≡◌, ◌++◌, map, take, drop, bit_xor}
use Rattle.kdf_suite.proofs.hmac.padded_key.Given as goal

-- the first i bytes are xored with the pad, and the rest are as they were
abbrev pub invariant-bytes : goal.invariant-bytes
invariant-bytes g l =
    l.out ≡ map (λ b. bit_xor b l.pad) (take l.i l.initial.out) ++ drop l.i l.initial.out
