-- The content of a file of a vault, as its reader tells it.
use Rattle.std.specs.Prelude.{◌≤◌, Option, Some}
use Rattle.folder_spec.specs.Path.{Path}
use Rattle.folder_spec.specs.View.{Found}
use Rattle.vault_faults.specs.Limits.{content_limit}
use Rattle.vault_write.specs.declared.vault_content.VaultContent.{VaultContent}
use Rattle.content_writing.specs.Content.{Coming}
use Rattle.vault_write.specs.ContentsComing.{coming_read, held_in}

-- the path of the file
abbrev pub path_of : VaultContent → Option Path
path_of c = Some c.reader.at

-- what is still to come, by what stands there
abbrev pub coming_of : VaultContent → Found → Option Coming
coming_of c found = coming_read c.reader c.room (held_in c.held) found

-- as much as its room is a content of any file (private contracts only)
pub vault_contents_fit : (content : VaultContent) → content.room ≤ content_limit
vault_contents_fit content = content.fits
