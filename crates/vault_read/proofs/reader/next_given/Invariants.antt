use Rattle.std.proofs.Common.{◌≡◌, ◌+◌, ◌-◌, ◌≤◌, ℕ, List, cond}
use Rattle.folder_spec.specs.View.{View, FileOf}
use Rattle.folder_spec.specs.Seen.{IsSeen}
use Rattle.vault_read.specs.Contents.{Suits}
use Rattle.vault_read.specs.Reading.{IsInStep, PassesOver}
use Rattle.vault_read.proofs.reader.next_given.Given as goal

-- so far only chunks without bytes were given
abbrev pub invariant-steps : goal.invariant-steps
invariant-steps g l = record {
  told : g.F.Folder.told l.folder ≡ g.F.Folder.told l.initial.folder;
  in_step : IsInStep l.taken l.decoder;
  keys : l.decoder.keys ≡ l.initial.decoder.keys;
  number : l.initial.decoder.number ≤ l.decoder.number;
  grows : g.F.Folder.faults l.initial.folder ≤ g.F.Folder.faults l.folder;
  passes : (v : View) → IsSeen (g.F.Folder.told l.initial.folder) v → (bytes : List ℕ) → v l.at ≡ FileOf bytes → Suits l.initial.decoder bytes
      → PassesOver bytes l.initial.decoder l.decoder;
}

-- the bytes still to be taken, the chunks still to be given, and the end still to be told
abbrev pub decreases-steps : goal.decreases-steps
decreases-steps g l = (1099511627776 - l.decoder.taken) + (1099511627776 - l.decoder.number) + cond l.decoder.ended 0 1
