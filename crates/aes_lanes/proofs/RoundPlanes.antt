-- A round key by its planes.
use Rattle.std.proofs.Common.{◌≡◌, ◌∙◌, ℕ, List, ap}
use Rattle.aes_lanes.specs.Planes.{block_of}
use Rattle.aes_lanes.specs.PlaneList.{list_of, plane_key}
use Rattle.aes_lanes.specs.declared.planes.Planes.{Planes}

pub key_is : (words : List ℕ) (r k : ℕ) (key other : Planes) → key ≡ other → block_of (list_of other) k ≡ plane_key words r
    → block_of (list_of key) k ≡ plane_key words r
key_is words r k key other same e = ap (λ (x : Planes). block_of (list_of x) k) same ∙ e
