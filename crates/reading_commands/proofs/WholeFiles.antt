-- A whole file within the limit, and what reading it gives.
use Rattle.std.proofs.Common.{◌≡◌, ℕ, ◌≤◌, List, length, take, nat_lt, refl, sym, ap, ◌∙◌}
use Rattle.std.specs.List.{concat}
use Rattle.std.proofs.lemmas.Bool.{le-ltb, ltb-false}
use Rattle.std.proofs.lemmas.List.{take_all}
use Rattle.chunk_files.specs.Keys.{go_keys}
use Rattle.chunk_files.specs.Reading.{Whole}
use Rattle.chunk_files.specs.Contents.{readable}
use Rattle.chunk_files.specs.FileOf.{FilesAreWhatTheyGive, Gives, IsFileOf, WholeFilesEnd}
use Rattle.reading_commands.specs.Inputs.{input_limit}
use Rattle.reading_commands.specs.Decrypts.{input_reading}

reading-within : (key bytes : List ℕ) → length bytes ≤ input_limit → input_reading key bytes ≡ readable (go_keys key) bytes
reading-within key bytes within = rw (take_all input_limit bytes within, le-ltb input_limit (length bytes) within) refl

-- a reading that ends well is of a whole file
pub whole-content : FilesAreWhatTheyGive → WholeFilesEnd → (key bytes : List ℕ) → (input_reading key bytes).ending ≡ Whole → IsFileOf (go_keys key) bytes (concat (input_reading key bytes).chunks)
whole-content gives ends key bytes whole =
    let within : length bytes ≤ input_limit = ltb-false input_limit (length bytes) (ends (go_keys key) (take input_limit bytes) (nat_lt input_limit (length bytes)) whole) in
    let same : input_reading key bytes ≡ readable (go_keys key) bytes = reading-within key bytes within in
    (gives (go_keys key) bytes (concat (input_reading key bytes).chunks)).1
    (record { whole = ap (λ r. r.ending) (sym same) ∙ whole; joined = ap (λ r. concat r.chunks) same })

-- a file within the limit is read to its end
pub within-whole : FilesAreWhatTheyGive → (key bytes content : List ℕ) → length bytes ≤ input_limit → IsFileOf (go_keys key) bytes content → (input_reading key bytes).ending ≡ Whole
within-whole law key bytes content within file =
    let gives : Gives (go_keys key) bytes content = (law (go_keys key) bytes content).0 file in
    ap (λ r. r.ending) (reading-within key bytes within) ∙ gives.whole
