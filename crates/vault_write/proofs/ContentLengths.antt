-- What a content file gives has no more bytes than it has.
use Rattle.std.proofs.Common.{◌≡◌, ℕ, ◌≤◌, nat_lt, List, [], length, take, Some, refl, arith}
use Rattle.std.proofs.Math.Nat.{min-le_left}
use Rattle.std.proofs.lemmas.Bool.{le-leb}
use Rattle.std.proofs.Math.Dec.{leb-zero}
use Rattle.std.proofs.lemmas.List.{length-take}
use Rattle.std.specs.List.{concat}
use Rattle.chunk_files.specs.Keys.{Keys}
use Rattle.chunk_files.specs.Sizes.{ReadingsAreNoLonger}
use Rattle.chunk_files.specs.Decoding.{started}
use Rattle.folder_spec.specs.Path.{Path}
use Rattle.folder_spec.specs.View.{FileOf}
use Rattle.vault_read.specs.Contents.{limited_reading}
use Rattle.vault_faults.specs.Limits.{content_limit}
use Rattle.vault_write.specs.ContentsComing.{coming_read, held_before}

readings_fit : ReadingsAreNoLonger → (keys : Keys) (bytes : List ℕ) → length (concat (limited_reading keys bytes).chunks) ≤ content_limit
readings_fit law keys bytes =
    omega (
      arith,
      law keys (take content_limit bytes) (nat_lt content_limit (length bytes)),
      length-take content_limit bytes,
      min-le_left content_limit (length bytes),
    )

-- so all of it is told as a content
pub told_whole : ReadingsAreNoLonger → (keys : Keys) (at : Path) (bytes : List ℕ)
    → coming_read (record { at = at; decoding = started keys }) content_limit [] (FileOf bytes) ≡ Some (held_before at [] (limited_reading keys bytes))
told_whole law keys at bytes = rw (le-leb (length (concat (limited_reading keys bytes).chunks)) content_limit (readings_fit law keys bytes), leb-zero (length bytes)) refl
