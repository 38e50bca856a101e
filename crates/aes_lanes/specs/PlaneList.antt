-- Words of private contracts: the planes of sixteen blocks as a list, and round keys as planes.
use Rattle.std.specs.Prelude.{◌≡◌, ℕ, zero, suc, ◌<◌, length, get_or, List, [], ◌∷◌}
use Rattle.aes_lanes.specs.Bytes.{xor_bytes}
use Rattle.aes_lanes.specs.Schedule.{round_key}
use Rattle.aes_lanes.specs.Planes.{block_of}
use Rattle.aes_lanes.specs.declared.gates.Bits.{Bits}
use Rattle.aes_lanes.specs.declared.planes.Planes.{Planes}

abbrev pub list_of : Planes → List (List ℕ)
list_of s = s.p0 ∷ s.p1 ∷ s.p2 ∷ s.p3 ∷ s.p4 ∷ s.p5 ∷ s.p6 ∷ s.p7 ∷ []

abbrev pub bits_list : Bits → List ℕ
bits_list bits = bits.b0 ∷ bits.b1 ∷ bits.b2 ∷ bits.b3 ∷ bits.b4 ∷ bits.b5 ∷ bits.b6 ∷ bits.b7 ∷ []

-- 0x63 in each of sixteen bytes: what the gates leave out of the S-box
abbrev pub sixty_threes : List ℕ
sixty_threes =
    0x63 ∷ 0x63 ∷ 0x63 ∷ 0x63 ∷ 0x63 ∷ 0x63 ∷ 0x63 ∷ 0x63 ∷ 0x63 ∷ 0x63 ∷ 0x63 ∷ 0x63 ∷ 0x63 ∷ 0x63 ∷ 0x63 ∷ 0x63 ∷ []

-- the key of a round as the planes have it, with 0x63 added but in round 0, before which there is no S-box
unfoldable pub plane_key : List ℕ → ℕ → List ℕ
plane_key words zero = round_key words 0
plane_key words (suc r) = xor_bytes (round_key words (suc r)) sixty_threes

-- planes that hold, sixteen times each, these keys of a key schedule's words, from round 0 on
abbrev pub AreRoundKeys : List ℕ → List Planes → Type 0
AreRoundKeys words keys = (r k : ℕ) (none : Planes) → r < length keys → k < 16
    → block_of (list_of (get_or keys r none)) k ≡ plane_key words r
