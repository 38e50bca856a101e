use Rattle.std.proofs.Common.{◌≡◌, ◌≤◌, ◌+◌, ◌-◌, length}
use Rattle.content_writing.specs.Content.{IsReady, TakesUpTo, still_coming}
use Rattle.vault_faults.specs.Limits.{content_limit}
use Rattle.content_writing.specs.Streaming.{IsUnderway}
use Rattle.content_writing.proofs.writing.write_chunks.Given as goal

-- a front part of the content was written, as far as the chunk that was gathered last
abbrev pub invariant-chunks : goal.invariant-chunks
invariant-chunks g l = record {
  underway : IsUnderway (record {
    keys = l.fn.keys;
    at = l.fn.staged;
    told = g.F.Folder.told l.fn.folder;
    stream = g.R.Randoms.left l.fn.random;
    coming = still_coming (g.C.Content.reads l.fn.content) (g.F.Folder.told l.fn.folder) (g.C.Content.coming l.fn.content);
  }) l.encoder l.plain (g.F.Folder.told l.folder) (g.R.Randoms.left l.random)
      (still_coming (g.C.Content.reads l.fn.content) (g.F.Folder.told l.fn.folder) (g.C.Content.coming l.content));
  reads : g.C.Content.reads l.content ≡ g.C.Content.reads l.fn.content;
  ready : IsReady (g.C.Content.reads l.fn.content) (g.F.Folder.told l.fn.folder) (g.C.Content.coming l.content);
  lender : g.C.Content.lender l.content ≡ g.C.Content.lender l.fn.content;
  room : g.C.Content.room l.content ≤ g.C.Content.room l.fn.content;
  taken : TakesUpTo (g.C.Content.room l.fn.content - g.C.Content.room l.content) (g.C.Content.left l.fn.content) (g.C.Content.left l.content);
  few : l.encoder.number + g.C.Content.room l.content ≤ content_limit;
  failed : g.F.Folder.faults l.fn.folder ≤ g.F.Folder.faults l.folder;
  source : g.C.Content.faults l.fn.content ≤ g.C.Content.faults l.content;
  random : g.R.Randoms.faults l.fn.random ≤ g.R.Randoms.faults l.random;
}

-- the bytes of the last chunk, and those that may still come
abbrev pub decreases-chunks : goal.decreases-chunks
decreases-chunks g l = length l.plain + g.C.Content.room l.content
