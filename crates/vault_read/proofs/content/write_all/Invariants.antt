use Rattle.std.proofs.Common.{◌≡◌, ◌-◌, ◌*◌, ◌≤◌, ℕ, List}
use Rattle.folder_spec.specs.View.{View, FileOf}
use Rattle.folder_spec.specs.Seen.{IfSeen, IsSeen}
use Rattle.vault_read.specs.Contents.{IsBeingRead, still}
use Rattle.vault_read.specs.Reading.{HasWritten}
use Rattle.vault_read.proofs.content.write_all.Given as goal

-- all chunks so far were written
abbrev pub invariant-chunks : goal.invariant-chunks
invariant-chunks g l = record {
  told : g.F.Folder.told l.folder ≡ g.F.Folder.told l.initial.folder;
  at : l.reader.at ≡ l.initial.reader.at;
  file : IfSeen (g.F.Folder.told l.initial.folder) (λ v. IsBeingRead v l.reader.at l.reader.decoding);
  written : (v : View) → IsSeen (g.F.Folder.told l.initial.folder) v → (bytes : List ℕ) → v l.initial.reader.at ≡ FileOf bytes
      → HasWritten (still l.initial.reader.decoding bytes) (g.O.Sink.taken l.initial.out) (g.O.Sink.taken l.out) l.total (still l.reader.decoding bytes);
  fits : l.total ≤ 32816 * l.reader.decoding.number;
  grows : g.F.Folder.faults l.initial.folder ≤ g.F.Folder.faults l.folder;
  counted : g.O.Sink.faults l.initial.out ≤ g.O.Sink.faults l.out;
}

-- the chunks still to be given
abbrev pub decreases-chunks : goal.decreases-chunks
decreases-chunks g l = 1099511627776 - l.reader.decoding.number
