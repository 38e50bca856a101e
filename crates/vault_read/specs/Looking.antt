-- What is found where a small file is looked for.
use Rattle.std.specs.Prelude.{ℕ, length, nat_le, if◌then◌else◌}
use Rattle.folder_spec.specs.View.{Found, NoEntry, Folder, FileOf, Special}
use Rattle.vault_read.specs.declared.looking.SmallFile.{SmallFile}
use Rattle.vault_read.specs.declared.looking.SmallFile.TheVariants.{Missing, Other, TooLarge, Whole}

-- by the greatest number of its bytes
abbrev pub small_file : ℕ → Found → SmallFile
small_file limit NoEntry = Missing
small_file limit Folder = Other
small_file limit Special = Other
small_file limit (FileOf bytes) = if nat_le (length bytes) limit then Whole bytes else TooLarge
