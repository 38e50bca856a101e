use Rattle.std.proofs.Common.{◌≡◌, ℕ, ◌+◌, ◌*◌, ◌/◌, ◌%◌, ◌<◌, ◌≤◌, [], ◌∷◌, bit_xor}
use Rattle.aes_lanes.specs.Field.{sbox}
use Rattle.aes_lanes.specs.Planes.{byte_at}
use Rattle.aes_lanes.specs.PlaneList.{list_of}
use Rattle.aes_lanes.proofs.PlaneWords.{AreWords}
use Rattle.aes_lanes.proofs.gates.gates.Given as goal

-- in the places before this one there are the gates, and from it on what the planes hold
abbrev pub invariant-loop-place : goal.invariant-loop-place
invariant-loop-place l =
    let now = l.y0 ∷ l.y1 ∷ l.y2 ∷ l.y3 ∷ l.y4 ∷ l.y5 ∷ l.y6 ∷ l.y7 ∷ [] in
    record {
      words0 : AreWords l.y0;
      words1 : AreWords l.y1;
      words2 : AreWords l.y2;
      words3 : AreWords l.y3;
      words4 : AreWords l.y4;
      words5 : AreWords l.y5;
      words6 : AreWords l.y6;
      words7 : AreWords l.y7;
      done : (m w : ℕ) → m < 64 → w < l.place → byte_at now m w ≡ bit_xor (sbox (byte_at (list_of l.s) (m % 8) (8 * w + m / 8))) 0x63;
      rest : (m w : ℕ) → m < 64 → l.place ≤ w → w < 4 → byte_at now m w ≡ byte_at (list_of l.s) (m % 8) (8 * w + m / 8);
    }
