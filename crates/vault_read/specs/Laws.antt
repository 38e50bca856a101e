-- Laws of opened vaults, each a definition that laws.rt shows to hold.
use Rattle.std.specs.Prelude.{◌≡◌, ℕ, List}
use Rattle.folder_spec.specs.View.{View}
use Rattle.vault_spec.specs.Adding.{NewItemsComeAlone, NewItemsStayClean, ContentsAreReplacedAlone, ReplacedContentsStayClean}
use Rattle.vault_spec.specs.Anywhere.{NewItemsComeAtLast, ContentsOpenAnew}
use Rattle.vault_spec.specs.Format.{Format}
use Rattle.vault_spec.specs.Staying.{NewItemsStayVaults, ReplacedContentsStayVaults}
use Rattle.vault_spec.specs.Tidy.{NewItemsStayTidy, OwnPlacesAreFree, ReplacedContentsStayTidy}
use Rattle.vault_spec.specs.Vault.{Loaded, Loads}

-- a root and a passphrase have one answer at most
abbrev pub HaveOneAnswer : Type 0
HaveOneAnswer = (v : View) (pass : List ℕ) (a b : Loaded) → Loads v pass a → Loads v pass b → a ≡ b

-- what holds of a format while an item is made, and while a content is replaced
pub record KeepsVaults (f : Format) : Type 0 where
  pub alone : NewItemsComeAlone f
  pub clean : NewItemsStayClean f
  pub tidy : NewItemsStayTidy f
  pub free : OwnPlacesAreFree f
  pub stay : NewItemsStayVaults f
  pub last : NewItemsComeAtLast f
  pub replaced_alone : ContentsAreReplacedAlone f
  pub replaced_clean : ReplacedContentsStayClean f
  pub replaced_tidy : ReplacedContentsStayTidy f
  pub replaced_stay : ReplacedContentsStayVaults f
  pub replaced_anew : ContentsOpenAnew f
