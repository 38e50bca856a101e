use Rattle.std.proofs.Common.{◌≡◌, take}
use Rattle.std.specs.List.{filter_map}
use Rattle.vault_check.specs.Contents.{content_of}
use Rattle.vault_check.proofs.contents.contents_of.Given as goal

abbrev pub invariant-loop-item : goal.invariant-loop-item
invariant-loop-item l = l.contents.items ≡ filter_map content_of (take l.item-index l.items)
