-- Moving strays out of a vault. A stray is a path with a finding of what has no place there; what is moved is gone, with all below it.
use Rattle.std.specs.Prelude.{◌≡◌, ◌≢◌, Bool, true, false, [], ◌∷◌, ◌++◌, IsTrue, if◌then◌else◌}
use Rattle.folder_spec.specs.Path.{Part, Path}
use Rattle.folder_spec.specs.View.{NoEntry, View}
use Rattle.vault_spec.specs.Adding.{OpensAs}
use Rattle.vault_spec.specs.Alike.{HasFolders}
use Rattle.vault_spec.specs.Findings.{IsFinding}
use Rattle.vault_spec.specs.Format.{Format}
use Rattle.vault_spec.specs.Reached.{HaveOwnFolders}
use Rattle.vault_spec.specs.declared.Finding.{Finding}
use Rattle.vault_spec.specs.declared.Finding.TheVariants as is

-- whether a path with this finding is moved: it is no item, and none is in it
abbrev pub is_moved : Finding → Bool
is_moved is.BadStoredName = true
is_moved is.NoDirKey = false
is_moved is.LongNameLost = true
is_moved is.OrphanLongName = true
is_moved is.DirIdTwice = false
is_moved is.NoFolder = false
is_moved is.OrphanFolder = true
is_moved is.SymlinkFound = true
is_moved is.WrongKind = false
is_moved is.ExtraEntry = true
is_moved is.TwoKinds = false
is_moved is.HeaderDamaged = false
is_moved is.ChunkDamaged = false
is_moved is.EmptyOrphan = false

-- a path with a finding for which it is moved
pub record IsStray (f : Format) (v : View) (at : Path) : Type 0 where
  pub finding : Finding
  pub moved : IsTrue (is_moved finding)
  pub found : IsFinding f v finding at

-- the view without some paths
abbrev pub cut : (Path → Bool) → View → View
cut gone v = λ q. if gone q then NoEntry else v q

-- what is gone begins with a stray that is gone
pub record GoesWith (f : Format) (v : View) (gone : Path → Bool) (q : Path) : Type 0 where
  pub at : Path
  pub rest : Path
  pub place : q ≡ at ++ rest
  pub stray : IsStray f v at
  pub went : IsTrue (gone at)

-- some strays are gone with all below them, and nothing else
pub record AreStrays (f : Format) (v : View) (gone : Path → Bool) : Type 0 where
  pub strays : (q : Path) → IsTrue (gone q) → GoesWith f v gone q
  pub whole : (at rest : Path) → IsTrue (gone at) → IsTrue (gone (at ++ rest))

-- a vault whose folders stand, and in which no two directories have one folder
pub record HasSoundFolders (f : Format) (v : View) : Type 0 where
  pub folders : HasFolders v
  pub own : HaveOwnFolders f v

-- In a vault that need not be clean, a stray is there, below the root, and none is below another. Where some strays are gone, all opens
-- as it did, and each finding but a note was found before, at a path that isn't gone. Where all are gone, there are no strays.
pub record StraysGoAlone (f : Format) : Type 0 where
  pub there : (v : View) (at : Path) → IsStray f v at → (v at ≢ NoEntry) × (at ≢ [])
  pub apart : (v : View) (at : Path) (a : Part) (rest : Path) → HasSoundFolders f v → IsStray f v at → ¬ IsStray f v (at ++ a ∷ rest)
  pub opens : (v : View) (gone : Path → Bool) → HasSoundFolders f v → AreStrays f v gone → OpensAs f v (cut gone v)
  pub found : (v : View) (gone : Path → Bool) → HasSoundFolders f v → AreStrays f v gone → (finding : Finding) (at : Path) → finding ≢ is.EmptyOrphan
      → IsFinding f (cut gone v) finding at → IsFinding f v finding at × (gone at ≡ false)
  pub none : (v : View) (gone : Path → Bool) → HasSoundFolders f v → AreStrays f v gone → ((at : Path) → IsStray f v at → IsTrue (gone at))
      → (at : Path) → ¬ IsStray f (cut gone v) at
