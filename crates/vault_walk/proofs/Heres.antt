-- The findings of a vault are those of its reached directories, and those apart from them.
use Rattle.std.proofs.Common.{◌⊎◌, ◌↔◌, inl, inr}
use Rattle.folder_spec.specs.Path.{Path}
use Rattle.folder_spec.specs.View.{View}
use Rattle.vault_spec.specs.Findings.{IsUnnamed, IsNoItem, IsLocked, IsExtra, HasFault, IsIdleName, IsIdleFolder, IsIdleShelf, IsFinding}
use Rattle.vault_spec.specs.Format.{Format, Directory}
use Rattle.vault_spec.specs.Reached.{IsReached}
use Rattle.vault_spec.specs.declared.Finding.{Finding}
use Rattle.vault_spec.specs.declared.Finding.TheVariants as is
use Rattle.vault_spec.specs.declared.Lack.{Lack}
use Rattle.vault_spec.specs.declared.Lack.TheVariants as lacks
use Rattle.vault_walk.specs.Here.{IsUnnamedHere, IsNoItemHere, IsLockedHere, HasFaultHere, IsFindingHere, IsFindingApart, IsFoundIn}

abbrev Found : Format → View → Finding → Path → Type 0
Found f v finding at = IsFoundIn f v finding at ⊎ IsFindingApart f v finding at

unnamed_here : (f : Format) (v : View) (finding : Finding) (at : Path) → (u : IsUnnamed f v finding at) → IsUnnamedHere f v u.dir finding at
unnamed_here f v finding at u = record { entry = u.entry; place = u.place; there = u.there; stray = u.stray; unnamed = u.unnamed; is = u.is }

unnamed_back : (f : Format) (v : View) (dir : Directory) → IsReached f v dir → (finding : Finding) (at : Path) → IsUnnamedHere f v dir finding at → IsUnnamed f v finding at
unnamed_back f v dir reached finding at u = record { dir = dir; entry = u.entry; reached = reached; place = u.place; there = u.there; stray = u.stray; unnamed = u.unnamed; is = u.is }

no_item_here : (f : Format) (v : View) (finding : Finding) (at : Path) → (u : IsNoItem f v finding at) → IsNoItemHere f v u.dir finding at
no_item_here f v finding at u = record { name = u.name; of = u.of; place = u.place; is = u.is }

no_item_back : (f : Format) (v : View) (dir : Directory) → IsReached f v dir → (finding : Finding) (at : Path) → IsNoItemHere f v dir finding at → IsNoItem f v finding at
no_item_back f v dir reached finding at u = record { dir = dir; name = u.name; reached = reached; of = u.of; place = u.place; is = u.is }

locked_back : (f : Format) (v : View) (dir : Directory) → IsReached f v dir → (lack : Lack) (at : Path) → IsLockedHere f v dir lack at → IsLocked f v lack at
locked_back f v dir reached lack at u = inr (record { dir = dir; name = u.name; reached = reached; stands = u.stands })

fault_here : (f : Format) (v : View) (finding : Finding) (at : Path) → (u : HasFault f v finding at) → HasFaultHere f v u.damaged.dir finding at
fault_here f v finding at u = record {
  name = u.damaged.name;
  stands = u.damaged.stands;
  bytes = u.damaged.bytes;
  there = u.damaged.there;
  fault = u.fault;
  faulty = u.damaged.faulty;
  is = u.is;
}

fault_back : (f : Format) (v : View) (dir : Directory) → IsReached f v dir → (finding : Finding) (at : Path) → HasFaultHere f v dir finding at → HasFault f v finding at
fault_back f v dir reached finding at u = record {
  fault = u.fault;
  damaged = record { dir = dir; name = u.name; reached = reached; stands = u.stands; bytes = u.bytes; there = u.there; faulty = u.faulty };
  is = u.is;
}

extra_on : (f : Format) (v : View) (at : Path) → IsExtra f v at → Found f v is.ExtraEntry at
extra_on f v at (inl u) = inl (record { dir = u.dir; reached = u.reached; here = record { name = u.name; of = u.of; entry = u.entry; place = u.place; extra = u.extra } })
extra_on f v at (inr role) = inr role

idle_on : (f : Format) (v : View) (at : Path) → IsIdleName f v at ⊎ (IsIdleFolder f v at ⊎ IsIdleShelf f v at) → Found f v is.EmptyOrphan at
idle_on f v at (inl u) = inl (record { dir = u.dir; reached = u.reached; here = record { file = u.file; entry = u.entry; place = u.place; full = u.full; right = u.right; alone = u.alone } })
idle_on f v at (inr apart) = inr apart

-- what is found is found in a directory, or apart
pub found_on : (f : Format) (v : View) (finding : Finding) (at : Path) → IsFinding f v finding at → Found f v finding at
found_on f v is.BadStoredName at u = inl (record { dir = u.dir; reached = u.reached; here = unnamed_here f v is.BadStoredName at u })
found_on f v is.NoDirKey at (inl root) = inr root
found_on f v is.NoDirKey at (inr u) = inl (record { dir = u.dir; reached = u.reached; here = record { name = u.name; stands = u.stands } })
found_on f v is.LongNameLost at u = inl (record { dir = u.dir; reached = u.reached; here = unnamed_here f v is.LongNameLost at u })
found_on f v is.OrphanLongName at u = inl (record { dir = u.dir; reached = u.reached; here = record { file = u.file; place = u.place; there = u.there; full = u.full; wrong = u.wrong } })
found_on f v is.DirIdTwice at u = inr u
found_on f v is.NoFolder at (inl root) = inr root
found_on f v is.NoFolder at (inr u) = inl (record { dir = u.dir; reached = u.reached; here = record { name = u.name; stands = u.stands } })
found_on f v is.OrphanFolder at u = inr u
found_on f v is.SymlinkFound at u = inl (record { dir = u.dir; reached = u.reached; here = no_item_here f v is.SymlinkFound at u })
found_on f v is.WrongKind at (inl u) = inl (record { dir = u.dir; reached = u.reached; here = inl (unnamed_here f v is.WrongKind at u) })
found_on f v is.WrongKind at (inr u) = inl (record { dir = u.dir; reached = u.reached; here = inr (no_item_here f v is.WrongKind at u) })
found_on f v is.ExtraEntry at u = extra_on f v at u
found_on f v is.TwoKinds at u = inl (record { dir = u.dir; reached = u.reached; here = no_item_here f v is.TwoKinds at u })
found_on f v is.HeaderDamaged at u = inl (record { dir = u.damaged.dir; reached = u.damaged.reached; here = fault_here f v is.HeaderDamaged at u })
found_on f v is.ChunkDamaged at u = inl (record { dir = u.damaged.dir; reached = u.damaged.reached; here = fault_here f v is.ChunkDamaged at u })
found_on f v is.EmptyOrphan at u = idle_on f v at u

here_back : (f : Format) (v : View) (dir : Directory) → IsReached f v dir → (finding : Finding) (at : Path) → IsFindingHere f v dir finding at → IsFinding f v finding at
here_back f v dir reached is.BadStoredName at u = unnamed_back f v dir reached is.BadStoredName at u
here_back f v dir reached is.NoDirKey at u = locked_back f v dir reached lacks.NoDirKey at u
here_back f v dir reached is.LongNameLost at u = unnamed_back f v dir reached is.LongNameLost at u
here_back f v dir reached is.OrphanLongName at u = record { dir = dir; file = u.file; reached = reached; place = u.place; there = u.there; full = u.full; wrong = u.wrong }
here_back f v dir reached is.DirIdTwice at u = absurd u
here_back f v dir reached is.NoFolder at u = locked_back f v dir reached lacks.NoFolder at u
here_back f v dir reached is.OrphanFolder at u = absurd u
here_back f v dir reached is.SymlinkFound at u = no_item_back f v dir reached is.SymlinkFound at u
here_back f v dir reached is.WrongKind at (inl u) = inl (unnamed_back f v dir reached is.WrongKind at u)
here_back f v dir reached is.WrongKind at (inr u) = inr (no_item_back f v dir reached is.WrongKind at u)
here_back f v dir reached is.ExtraEntry at u = inl (record { dir = dir; name = u.name; reached = reached; of = u.of; entry = u.entry; place = u.place; extra = u.extra })
here_back f v dir reached is.TwoKinds at u = no_item_back f v dir reached is.TwoKinds at u
here_back f v dir reached is.HeaderDamaged at u = fault_back f v dir reached is.HeaderDamaged at u
here_back f v dir reached is.ChunkDamaged at u = fault_back f v dir reached is.ChunkDamaged at u
here_back f v dir reached is.EmptyOrphan at u = inl (record { dir = dir; file = u.file; entry = u.entry; reached = reached; place = u.place; full = u.full; right = u.right; alone = u.alone })

apart_back : (f : Format) (v : View) (finding : Finding) (at : Path) → IsFindingApart f v finding at → IsFinding f v finding at
apart_back f v is.BadStoredName at u = absurd u
apart_back f v is.NoDirKey at u = inl u
apart_back f v is.LongNameLost at u = absurd u
apart_back f v is.OrphanLongName at u = absurd u
apart_back f v is.DirIdTwice at u = u
apart_back f v is.NoFolder at u = inl u
apart_back f v is.OrphanFolder at u = u
apart_back f v is.SymlinkFound at u = absurd u
apart_back f v is.WrongKind at u = absurd u
apart_back f v is.ExtraEntry at u = inr u
apart_back f v is.TwoKinds at u = absurd u
apart_back f v is.HeaderDamaged at u = absurd u
apart_back f v is.ChunkDamaged at u = absurd u
apart_back f v is.EmptyOrphan at u = inr u

-- and back
found_back : (f : Format) (v : View) (finding : Finding) (at : Path) → Found f v finding at → IsFinding f v finding at
found_back f v finding at (inl in_one) = here_back f v in_one.dir in_one.reached finding at in_one.here
found_back f v finding at (inr apart) = apart_back f v finding at apart

pub found_where : (f : Format) (v : View) (finding : Finding) (at : Path) → IsFinding f v finding at ↔ (IsFoundIn f v finding at ⊎ IsFindingApart f v finding at)
found_where f v finding at = (found_on f v finding at, found_back f v finding at)
