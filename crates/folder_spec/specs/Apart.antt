-- Folders that don't overlap.
use Rattle.std.specs.Prelude.{◌≡◌, None}
use Rattle.folder_spec.specs.Path.{Path, below}

-- neither path begins the other
pub record AreApart (p q : Path) : Type 0 where
  pub one : below p q ≡ None
  pub other : below q p ≡ None

-- none of the three folders overlaps another
pub record AreSeparate (from to through : Path) : Type 0 where
  pub vaults : AreApart from to
  pub source : AreApart from through
  pub target : AreApart to through
