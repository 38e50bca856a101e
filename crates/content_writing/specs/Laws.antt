-- Laws of the types of this crate (private contracts only).
use Rattle.std.specs.Prelude.{◌≤◌}
use Rattle.content_writing.specs.declared.room.Room.{Room}
use Rattle.vault_faults.specs.Limits.{content_limit}

pub rooms_fit : (room : Room) → room.bytes ≤ content_limit
rooms_fit room = room.fits
