use Rattle.std.proofs.Common.{◌≡◌, ◌≤◌, ◌+◌, length}
use Rattle.content_writing.specs.Content.{IsReady, Gave, TakesUpTo, still_coming}
use Rattle.content_writing.proofs.gathering.gather.Given as goal

-- what was gathered so far was given of what was to come
abbrev pub invariant-pieces : goal.invariant-pieces
invariant-pieces g l = record {
  told : g.F.Folder.told l.folder ≡ g.F.Folder.told l.fn.folder;
  reads : g.C.Content.reads l.content ≡ g.C.Content.reads l.fn.content;
  ready : IsReady (g.C.Content.reads l.content) (g.F.Folder.told l.folder) (g.C.Content.coming l.content);
  lender : g.C.Content.lender l.content ≡ g.C.Content.lender l.fn.content;
  gave : Gave l.plain (still_coming (g.C.Content.reads l.fn.content) (g.F.Folder.told l.fn.folder) (g.C.Content.coming l.fn.content))
      (still_coming (g.C.Content.reads l.fn.content) (g.F.Folder.told l.fn.folder) (g.C.Content.coming l.content));
  size : length l.plain ≤ l.full;
  room : length l.plain + g.C.Content.room l.content ≤ g.C.Content.room l.fn.content;
  taken : TakesUpTo (length l.plain) (g.C.Content.left l.fn.content) (g.C.Content.left l.content);
  failed : g.F.Folder.faults l.fn.folder ≤ g.F.Folder.faults l.folder;
  source : g.C.Content.faults l.fn.content ≤ g.C.Content.faults l.content;
}

-- the bytes that may still come
abbrev pub decreases-pieces : goal.decreases-pieces
decreases-pieces g l = g.C.Content.room l.content
