-- A law of the types of this crate (private contracts only).
use Rattle.std.specs.Prelude.{◌≤◌}
use Rattle.vault_faults.specs.Limits.{content_limit}
use Rattle.demo_core.specs.declared.bytes.MadeBytes.{MadeBytes}

pub rooms_fit : (content : MadeBytes) → content.left ≤ content_limit
rooms_fit content = content.fits
