-- Ids: version 4 UUIDs (RFC 9562, section 5.4) in their hyphenated text, in lower case. Of sixteen drawn bytes the upper
-- four bits of byte 6 become 4, the upper two bits of byte 8 become binary 10, and all other bits stay.
use Rattle.std.specs.Prelude.{ℕ, List}
use Rattle.uuid.specs.Text.{hyphenated_text, lower}
use Rattle.uuid.specs.Parts.{with_version, with_variant}
use Rattle.uuid.specs.declared.Variant.TheVariants.{RFC4122}
use Rattle.uuid.specs.declared.Version.TheVariants.{Random}

unfoldable pub id_of : List ℕ → List ℕ
id_of drawn = hyphenated_text lower (with_version (with_variant drawn RFC4122) Random)
