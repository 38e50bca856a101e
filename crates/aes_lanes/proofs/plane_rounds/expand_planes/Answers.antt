use Rattle.std.proofs.Common.{◌≡◌, ◌≢◌, ◌∙◌, ℕ, ◌+◌, ◌<◌, List, length, get_or, set, ◌⊎◌, inl, inr, sym, ap, arith, get_or-set_same, get_or-set_other}
use Rattle.std.proofs.lemmas.Bool.{cases_eq}
use Rattle.aes_lanes.specs.Planes.{block_of}
use Rattle.aes_lanes.specs.PlaneList.{list_of, plane_key}
use Rattle.aes_lanes.specs.declared.planes.Planes.{Planes}
use Rattle.aes_lanes.proofs.plane_rounds.expand_planes.Goals as goal

-- one key more
more_keys : (words : List ℕ) (keys : List Planes) (n : ℕ) (key : Planes) → n < length keys
    → ((k : ℕ) → k < 16 → block_of (list_of key) k ≡ plane_key words n)
    → ((r k : ℕ) (none : Planes) → r < n → k < 16 → block_of (list_of (get_or keys r none)) k ≡ plane_key words r)
    → (r k : ℕ) (none : Planes) → r < n + 1 → k < 16 → block_of (list_of (get_or (set keys n key) r none)) k ≡ plane_key words r
more_keys words keys n key within here before r k none lr lk = at_place (cases_eq r n) where
  at_place : (r ≡ n) ⊎ (r ≢ n) → block_of (list_of (get_or (set keys n key) r none)) k ≡ plane_key words r
  at_place (inl e) =
      ap (λ m. block_of (list_of (get_or (set keys n key) m none)) k) e
      ∙ ap (λ (x : Planes). block_of (list_of x) k) (get_or-set_same keys n key none within) ∙ here k lk ∙ ap (plane_key words) (sym e)
  at_place (inr other) =
      ap (λ (x : Planes). block_of (list_of x) k) (get_or-set_other keys n r key none other) ∙ before r k none (omega arith) lk

pub loop-round-preserved : goal.loop-round-preserved
loop-round-preserved c =
    more_keys c.args.words.now c.loop-round.keys c.loop-round.round c.key_planes.result (omega arith) c.key_planes.ensures c.loop-round.invariant
