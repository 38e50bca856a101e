use Rattle.std.proofs.Common.{◌≡◌, ◌+◌, ◌-◌, ℕ, suc, List, length, Option, Result, Err, Ok, sym, ap, ◌∙◌, subst, arith}
use Rattle.std.proofs.lemmas.Result.{err_from_is_err_and}
use Rattle.chunk_files.specs.declared.keys.Layout.{Layout}
use Rattle.chunk_files.specs.Keys.{Keys, format_of, full_size}
use Rattle.folder_spec.specs.Event.{Told}
use Rattle.folder_spec.specs.Path.{Path}
use Rattle.folder_spec.specs.View.{Found}
use Rattle.content_writing.specs.Content.{Coming, IsContentFault, IsReady, still_coming}
use Rattle.content_writing.specs.Streaming.{BeginsContent, Gathers, IsStaged, IsUnderway, StoresChunk, Start}
use Rattle.item_making.specs.declared.fault.PutFault.{PutFault}
use Rattle.item_making.specs.declared.fault.PutFault.TheVariants as put
use Rattle.content_writing.proofs.Blaming.{blames_at, content_fits, fits_at, folder_fits, stores_fit, stores_unread}
use Rattle.content_writing.proofs.Drawing.{full_is, some_full}
use Rattle.content_writing.proofs.Standing.{IsStill, staged_still, still_same, ready_now, ready_before}
use Rattle.content_writing.proofs.Underway.{first_fails, begin_fails, has_begun, next_fails, next_underway, store_fails, finish_fails, is_written, staged_seen}
use Rattle.content_writing.proofs.Takings.{takes_fewer, takes_more}
use Rattle.content_writing.proofs.writing.write_chunks.Goals as goal

full_at : (keys : Keys) (layout : Layout) (full : ℕ) → layout ≡ keys.layout → full ≡ full_size layout → full ≡ (format_of keys).full_size
full_at keys layout full same is = is ∙ ap full_size same ∙ full_is keys

gathers_at : (reads reads0 : Option Path) (told told0 : Option Told) (full full0 : ℕ) (more : List ℕ) (f g : Found → Option Coming) (result : Result (Unit {0}) PutFault) → reads ≡ reads0 → full ≡ full0
    → IsStill reads0 told0 told → Gathers full more (still_coming reads told f) (still_coming reads told g) result → Gathers full0 more (still_coming reads0 told0 f) (still_coming reads0 told0 g) result
gathers_at reads reads0 told told0 full full0 more f g result same all still h =
    subst (λ (n : ℕ). Gathers n more (still_coming reads0 told0 f) (still_coming reads0 told0 g) result) all
    (subst (λ (a : Option Coming). Gathers full more a (still_coming reads0 told0 g) result) (still_same reads0 told0 told still f)
    (subst (λ (b : Option Coming). Gathers full more (still_coming reads0 told f) b result) (still_same reads0 told0 told still g)
    (subst (λ (r : Option Path). Gathers full more (still_coming r told f) (still_coming r told g) result) same h)))

pub returns-in_err-gather-clause-written : goal.returns-in_err-gather-clause-written
returns-in_err-gather-clause-written g c =
    let told = g.F.Folder.told c.args.folder.now in
    let stream = g.R.Randoms.left c.args.random.now in
    let still = still_coming (g.C.Content.reads c.args.content.now) told in
    let w : Start = record { keys = c.args.keys; at = c.args.staged.now; told = told; stream = stream; coming = still (g.C.Content.coming c.args.content.now) } in
    let full : c.full-full.result ≡ (format_of c.args.keys).full_size = full_at c.args.keys c.layout.result c.full-full.result c.layout.ensures c.full-full.ensures in
    let e = c.in_err-gather.ensures in
    let left = still (g.C.Content.coming c.gather.new.content) in
    let p = err_from_is_err_and c.from_residual.result c.from_residual.ensures.1 in
    rw (p.1, p.2)
    (first_fails w c.gather.new.plain left (g.F.Folder.told c.gather.new.folder) c.in_err-gather.field-0.0 (c.draws_compose.ensures.none stream) e.told
    (subst (λ (n : ℕ). Gathers n c.gather.new.plain w.coming left (Err c.in_err-gather.field-0.0)) full e.gathered))

pub returns-in_err-begin_content-clause-written : goal.returns-in_err-begin_content-clause-written
returns-in_err-begin_content-clause-written g c =
    let told = g.F.Folder.told c.args.folder.now in
    let stream = g.R.Randoms.left c.args.random.now in
    let still = still_coming (g.C.Content.reads c.args.content.now) told in
    let w : Start = record { keys = c.args.keys; at = c.args.staged.now; told = told; stream = stream; coming = still (g.C.Content.coming c.args.content.now) } in
    let full : c.full-full.result ≡ (format_of c.args.keys).full_size = full_at c.args.keys c.layout.result c.full-full.result c.layout.ensures c.full-full.ensures in
    let e = c.in_ok-gather.ensures in
    let left = still (g.C.Content.coming c.gather.new.content) in
    let h : Gathers (format_of c.args.keys).full_size c.gather.new.plain w.coming left (Ok c.in_ok-gather.field-0) =
    subst (λ (n : ℕ). Gathers n c.gather.new.plain w.coming left (Ok c.in_ok-gather.field-0)) full e.gathered in
    let p = err_from_is_err_and c.from_residual-in_err-begin_content.result c.from_residual-in_err-begin_content.ensures.1 in
    let told0 = g.F.Folder.told c.gather.new.folder in
    let told1 = g.F.Folder.told c.begin_content.new.folder in
    let stream1 = g.R.Randoms.left c.begin_content.new.random in
    rw (p.1, p.2)
    (begin_fails w c.gather.new.plain left told0 told1 stream1 (omega (arith, e.size, full)) e.told h c.begin_content.new.encoder c.in_err-begin_content.field-0.0
    (subst (λ (b : List ℕ). BeginsContent w.keys b w.at stream stream1 told0 told1 c.begin_content.new.encoder (Err c.in_err-begin_content.field-0.0)) c.bytes.ensures c.in_err-begin_content.ensures.begun))

pub chunks-init : goal.chunks-init
chunks-init g c =
    let told = g.F.Folder.told c.args.folder.now in
    let stream = g.R.Randoms.left c.args.random.now in
    let still = still_coming (g.C.Content.reads c.args.content.now) told in
    let w : Start = record { keys = c.args.keys; at = c.args.staged.now; told = told; stream = stream; coming = still (g.C.Content.coming c.args.content.now) } in
    let full : c.full-full.result ≡ (format_of c.args.keys).full_size = full_at c.args.keys c.layout.result c.full-full.result c.layout.ensures c.full-full.ensures in
    let e = c.in_ok-gather.ensures in
    let left = still (g.C.Content.coming c.gather.new.content) in
    let h : Gathers (format_of c.args.keys).full_size c.gather.new.plain w.coming left (Ok c.in_ok-gather.field-0) =
    subst (λ (n : ℕ). Gathers n c.gather.new.plain w.coming left (Ok c.in_ok-gather.field-0)) full e.gathered in
    let told0 = g.F.Folder.told c.gather.new.folder in
    let told1 = g.F.Folder.told c.begin_content.new.folder in
    let stream1 = g.R.Randoms.left c.begin_content.new.random in
    let begun : BeginsContent w.keys c.gather.new.plain w.at stream stream1 told0 told1 c.begin_content.new.encoder (Ok c.in_ok-begin_content.field-0) =
    subst (λ (b : List ℕ). BeginsContent w.keys b w.at stream stream1 told0 told1 c.begin_content.new.encoder (Ok c.in_ok-begin_content.field-0)) c.bytes.ensures c.in_ok-begin_content.ensures.begun in
    record {
      underway = has_begun w c.gather.new.plain left told0 told1 stream1 (omega (arith, e.size, full)) e.told h c.begin_content.new.encoder begun;
      reads = e.reads;
      ready = subst (λ (r : Option Path). IsReady r told (g.C.Content.coming c.gather.new.content)) e.reads
          (subst (λ (t : Option Told). IsReady (g.C.Content.reads c.gather.new.content) t (g.C.Content.coming c.gather.new.content)) e.told e.ready);
      lender = e.lender;
      room = omega (arith, e.room);
      taken = takes_fewer (length c.gather.new.plain) (g.C.Content.room c.args.content.now - g.C.Content.room c.gather.new.content) _ _ (omega (arith, e.room)) e.taken;
      few = omega (arith, begun.ends.0.few, e.room, g.met.C.Content.fits c.args.content.now);
      failed = omega (arith, e.failed.0, c.in_ok-begin_content.ensures.failed.0);
      source = e.source.0;
      random = c.in_ok-begin_content.ensures.random.0;
    }

pub gather-requires-in-chunks-clause-ready : goal.gather-requires-in-chunks-clause-ready
gather-requires-in-chunks-clause-ready g c =
    let told = g.F.Folder.told c.args.folder.now in
    let i = c.chunks.invariant in
    let now = g.F.Folder.told c.chunks.folder in
    let kept = staged_still (g.C.Content.reads c.args.content.now) c.args.staged.now i.underway.made told now (g.met.F.Folder.sound c.args.folder.now) c.requires.apart i.underway.staged in
    subst (λ (r : Option Path). IsReady r now (g.C.Content.coming c.chunks.content)) (sym i.reads)
    (ready_now (g.C.Content.reads c.args.content.now) told now kept (g.C.Content.coming c.chunks.content) i.ready)

pub returns-in_err-gather-2-clause-written : goal.returns-in_err-gather-2-clause-written
returns-in_err-gather-2-clause-written g c =
    let told = g.F.Folder.told c.args.folder.now in
    let stream = g.R.Randoms.left c.args.random.now in
    let still = still_coming (g.C.Content.reads c.args.content.now) told in
    let w : Start = record { keys = c.args.keys; at = c.args.staged.now; told = told; stream = stream; coming = still (g.C.Content.coming c.args.content.now) } in
    let full : c.full-full.result ≡ (format_of c.args.keys).full_size = full_at c.args.keys c.layout.result c.full-full.result c.layout.ensures c.full-full.ensures in
    let i = c.chunks.invariant in
    let told0 = g.F.Folder.told c.chunks.folder in
    let kept = staged_still (g.C.Content.reads c.args.content.now) c.args.staged.now i.underway.made told told0 (g.met.F.Folder.sound c.args.folder.now) c.requires.apart i.underway.staged in
    let all : length c.chunks.plain ≡ (format_of c.args.keys).full_size = omega (arith, c.len.ensures, c.chunks-test.true, full) in
    let e = c.in_err-gather-2.ensures in
    let why = c.in_err-gather-2.field-0.0 in
    let p = err_from_is_err_and c.from_residual-in_err-gather-2.result c.from_residual-in_err-gather-2.ensures.1 in
    rw (p.1, p.2)
    (next_fails w c.chunks.encoder c.chunks.plain told0 (g.R.Randoms.left c.chunks.random) (still (g.C.Content.coming c.chunks.content)) i.underway all c.gather-in-chunks.new.plain
    (still (g.C.Content.coming c.gather-in-chunks.new.content)) (g.F.Folder.told c.gather-in-chunks.new.folder) e.told why
    (gathers_at (g.C.Content.reads c.chunks.content) (g.C.Content.reads c.args.content.now) told0 told c.full-full.result (format_of c.args.keys).full_size c.gather-in-chunks.new.plain
    (g.C.Content.coming c.chunks.content) (g.C.Content.coming c.gather-in-chunks.new.content) (Err why) i.reads full kept e.gathered))

pub store_chunk-requires-clause-file : goal.store_chunk-requires-clause-file
store_chunk-requires-clause-file g c =
    let told = g.F.Folder.told c.args.folder.now in
    let still = still_coming (g.C.Content.reads c.args.content.now) told in
    let w : Start = record { keys = c.args.keys; at = c.args.staged.now; told = told; stream = g.R.Randoms.left c.args.random.now; coming = still (g.C.Content.coming c.args.content.now) } in
    let i = c.chunks.invariant.underway in
    let told1 = g.F.Folder.told c.gather-in-chunks.new.folder in
    staged_seen w i.made told1 c.written_files_are_seen.ensures (subst (λ (t : Option Told). IsStaged w.at i.made told t) (sym c.in_ok-gather-2.ensures.told) i.staged)

pub store_chunk-requires-clause-open : goal.store_chunk-requires-clause-open
store_chunk-requires-clause-open g c =
    let full : c.full-full.result ≡ (format_of c.args.keys).full_size = full_at c.args.keys c.layout.result c.full-full.result c.layout.ensures c.full-full.ensures in
    let all : length c.chunks.plain ≡ (format_of c.args.keys).full_size = omega (arith, c.len.ensures, c.chunks-test.true, full) in
    c.chunks.invariant.underway.is_open all

pub chunks-preserved : goal.chunks-preserved
chunks-preserved g c =
    let told = g.F.Folder.told c.args.folder.now in
    let stream = g.R.Randoms.left c.args.random.now in
    let still = still_coming (g.C.Content.reads c.args.content.now) told in
    let w : Start = record { keys = c.args.keys; at = c.args.staged.now; told = told; stream = stream; coming = still (g.C.Content.coming c.args.content.now) } in
    let full : c.full-full.result ≡ (format_of c.args.keys).full_size = full_at c.args.keys c.layout.result c.full-full.result c.layout.ensures c.full-full.ensures in
    let i = c.chunks.invariant in
    let told0 = g.F.Folder.told c.chunks.folder in
    let stream0 = g.R.Randoms.left c.chunks.random in
    let left = still (g.C.Content.coming c.chunks.content) in
    let kept = staged_still (g.C.Content.reads c.args.content.now) c.args.staged.now i.underway.made told told0 (g.met.F.Folder.sound c.args.folder.now) c.requires.apart i.underway.staged in
    let all : length c.chunks.plain ≡ (format_of c.args.keys).full_size = omega (arith, c.len.ensures, c.chunks-test.true, full) in
    let e = c.in_ok-gather-2.ensures in
    let more : List ℕ = c.gather-in-chunks.new.plain in
    let left' = still (g.C.Content.coming c.gather-in-chunks.new.content) in
    let told1 = g.F.Folder.told c.gather-in-chunks.new.folder in
    let told2 = g.F.Folder.told c.store_chunk.new.folder in
    let stream2 = g.R.Randoms.left c.store_chunk.new.random in
    let s = c.in_ok-store_chunk.ensures in
    let same : c.bytes-in-chunks.result.now ≡ more = c.bytes-in-chunks.ensures in
    let h : Gathers (format_of c.args.keys).full_size more left left' (Ok c.in_ok-gather-2.field-0) =
    gathers_at (g.C.Content.reads c.chunks.content) (g.C.Content.reads c.args.content.now) told0 told c.full-full.result (format_of c.args.keys).full_size more
    (g.C.Content.coming c.chunks.content) (g.C.Content.coming c.gather-in-chunks.new.content) (Ok c.in_ok-gather-2.field-0) i.reads full kept e.gathered in
    let underway : IsUnderway w c.store_chunk.new.encoder more told2 stream2 left' =
    next_underway w c.chunks.encoder c.chunks.plain told0 stream0 left i.underway all more left' told1 e.told h c.store_chunk.new.encoder told2 stream2 c.draws_compose.ensures.composed
    (omega (arith, e.size, full)) (some_full c.args.keys)
    (λ none. let k = s.none (ap length same ∙ none) in (ap g.F.Folder.told k.0, ap g.R.Randoms.left k.1, k.2))
    (λ some. subst (λ (b : List ℕ). StoresChunk c.chunks.encoder c.store_chunk.new.encoder b w.at stream0 stream2 told1 told2 (Ok c.in_ok-store_chunk.field-0)) same
    (s.stored (omega (arith, some, ap length same)))) in
    let kept2 = staged_still (g.C.Content.reads c.args.content.now) c.args.staged.now i.underway.made told told1 (g.met.F.Folder.sound c.args.folder.now) c.requires.apart
    (subst (λ (t : Option Told). IsStaged w.at i.underway.made told t) (sym e.told) i.underway.staged) in
    let same_reads : g.C.Content.reads c.gather-in-chunks.new.content ≡ g.C.Content.reads c.args.content.now = e.reads ∙ i.reads in
    record {
      underway = underway;
      reads = same_reads;
      ready = ready_before (g.C.Content.reads c.args.content.now) told told1 kept2 (g.C.Content.coming c.gather-in-chunks.new.content)
          (subst (λ (r : Option Path). IsReady r told1 (g.C.Content.coming c.gather-in-chunks.new.content)) same_reads e.ready);
      lender = e.lender ∙ i.lender;
      room = omega (arith, e.room, i.room);
      taken = takes_more (g.C.Content.room c.args.content.now - g.C.Content.room c.chunks.content) (length more) (g.C.Content.room c.args.content.now - g.C.Content.room c.gather-in-chunks.new.content) _ _ _
          (omega (arith, e.room, i.room)) i.taken e.taken;
      few = omega (arith, s.number, ap length same, e.room, i.few);
      failed = omega (arith, i.failed, e.failed.0, s.failed.0);
      source = omega (arith, i.source, e.source.0);
      random = omega (arith, i.random, s.random.0);
    }

pub returns-in_err-store_chunk-clause-written : goal.returns-in_err-store_chunk-clause-written
returns-in_err-store_chunk-clause-written g c =
    let told = g.F.Folder.told c.args.folder.now in
    let stream = g.R.Randoms.left c.args.random.now in
    let still = still_coming (g.C.Content.reads c.args.content.now) told in
    let w : Start = record { keys = c.args.keys; at = c.args.staged.now; told = told; stream = stream; coming = still (g.C.Content.coming c.args.content.now) } in
    let full : c.full-full.result ≡ (format_of c.args.keys).full_size = full_at c.args.keys c.layout.result c.full-full.result c.layout.ensures c.full-full.ensures in
    let i = c.chunks.invariant in
    let told0 = g.F.Folder.told c.chunks.folder in
    let stream0 = g.R.Randoms.left c.chunks.random in
    let left = still (g.C.Content.coming c.chunks.content) in
    let kept = staged_still (g.C.Content.reads c.args.content.now) c.args.staged.now i.underway.made told told0 (g.met.F.Folder.sound c.args.folder.now) c.requires.apart i.underway.staged in
    let all : length c.chunks.plain ≡ (format_of c.args.keys).full_size = omega (arith, c.len.ensures, c.chunks-test.true, full) in
    let e = c.in_ok-gather-2.ensures in
    let more : List ℕ = c.gather-in-chunks.new.plain in
    let left' = still (g.C.Content.coming c.gather-in-chunks.new.content) in
    let told1 = g.F.Folder.told c.gather-in-chunks.new.folder in
    let told2 = g.F.Folder.told c.store_chunk.new.folder in
    let stream2 = g.R.Randoms.left c.store_chunk.new.random in
    let s = c.in_err-store_chunk.ensures in
    let why = c.in_err-store_chunk.field-0.0 in
    let same : c.bytes-in-chunks.result.now ≡ more = c.bytes-in-chunks.ensures in
    let h : Gathers (format_of c.args.keys).full_size more left left' (Ok c.in_ok-gather-2.field-0) =
    gathers_at (g.C.Content.reads c.chunks.content) (g.C.Content.reads c.args.content.now) told0 told c.full-full.result (format_of c.args.keys).full_size more
    (g.C.Content.coming c.chunks.content) (g.C.Content.coming c.gather-in-chunks.new.content) (Ok c.in_ok-gather-2.field-0) i.reads full kept e.gathered in
    let p = err_from_is_err_and c.from_residual-in_err-store_chunk.result c.from_residual-in_err-store_chunk.ensures.1 in
    rw (p.1, p.2)
    (store_fails w c.chunks.encoder c.chunks.plain told0 stream0 left i.underway all more left' told1 e.told h c.store_chunk.new.encoder told2 stream2 c.draws_compose.ensures.composed
    (omega (arith, e.size, full)) why
    (subst (λ (b : List ℕ). StoresChunk c.chunks.encoder c.store_chunk.new.encoder b w.at stream0 stream2 told1 told2 (Err why)) same (s.stored s.some)))

pub returns-in_err-store_chunk-clause-source : goal.returns-in_err-store_chunk-clause-source
returns-in_err-store_chunk-clause-source g c =
    let full : c.full-full.result ≡ (format_of c.args.keys).full_size = full_at c.args.keys c.layout.result c.full-full.result c.layout.ensures c.full-full.ensures in
    let i = c.chunks.invariant in
    let all : length c.chunks.plain ≡ (format_of c.args.keys).full_size = omega (arith, c.len.ensures, c.chunks-test.true, full) in
    let s = c.in_err-store_chunk.ensures in
    let why = c.in_err-store_chunk.field-0.0 in
    let stored = s.stored s.some in
    blames_at c.from_residual-in_err-store_chunk.result why put.Source _ _ c.from_residual-in_err-store_chunk.ensures.1 (
      omega (arith, i.source, c.in_ok-gather-2.ensures.source.0),
      λ same. absurd (stores_unread _ _ why (stored.ends i.underway.drawn i.underway.content i.underway.made (i.underway.goes_on all))
          (let is : why ≡ put.Source = cc same in is)),
    )

pub finish_file-requires : goal.finish_file-requires
finish_file-requires g c =
    let told = g.F.Folder.told c.args.folder.now in
    let still = still_coming (g.C.Content.reads c.args.content.now) told in
    let w : Start = record { keys = c.args.keys; at = c.args.staged.now; told = told; stream = g.R.Randoms.left c.args.random.now; coming = still (g.C.Content.coming c.args.content.now) } in
    let i = c.chunks.invariant.underway in
    staged_seen w i.made (g.F.Folder.told c.chunks.folder) c.written_files_are_seen.ensures i.staged

pub returns-in_err-finish_file-clause-written : goal.returns-in_err-finish_file-clause-written
returns-in_err-finish_file-clause-written g c =
    let told = g.F.Folder.told c.args.folder.now in
    let still = still_coming (g.C.Content.reads c.args.content.now) told in
    let w : Start = record { keys = c.args.keys; at = c.args.staged.now; told = told; stream = g.R.Randoms.left c.args.random.now; coming = still (g.C.Content.coming c.args.content.now) } in
    let full : c.full-full.result ≡ (format_of c.args.keys).full_size = full_at c.args.keys c.layout.result c.full-full.result c.layout.ensures c.full-full.ensures in
    let i = c.chunks.invariant.underway in
    let p = err_from_is_err_and c.from_residual-in_err-finish_file.result c.from_residual-in_err-finish_file.ensures.1 in
    rw (p.1, p.2)
    (finish_fails w c.chunks.encoder c.chunks.plain (g.F.Folder.told c.chunks.folder) (g.F.Folder.told c.finish_file.new.folder) (g.R.Randoms.left c.chunks.random)
    (still (g.C.Content.coming c.chunks.content)) i (omega (arith, i.size, full, c.len.ensures, c.chunks-test.false)) c.in_err-finish_file.field-0.0 c.in_err-finish_file.ensures.finished)

pub returns-clause-written : goal.returns-clause-written
returns-clause-written g c =
    let told = g.F.Folder.told c.args.folder.now in
    let still = still_coming (g.C.Content.reads c.args.content.now) told in
    let w : Start = record { keys = c.args.keys; at = c.args.staged.now; told = told; stream = g.R.Randoms.left c.args.random.now; coming = still (g.C.Content.coming c.args.content.now) } in
    let full : c.full-full.result ≡ (format_of c.args.keys).full_size = full_at c.args.keys c.layout.result c.full-full.result c.layout.ensures c.full-full.ensures in
    let i = c.chunks.invariant.underway in
    is_written w c.chunks.encoder c.chunks.plain (g.F.Folder.told c.chunks.folder) (g.F.Folder.told c.finish_file.new.folder) (g.R.Randoms.left c.chunks.random)
    (still (g.C.Content.coming c.chunks.content)) i (omega (arith, i.size, full, c.len.ensures, c.chunks-test.false)) c.in_ok-finish_file.field-0 c.in_ok-finish_file.ensures.finished

pub returns-in_err-gather-clause-fits : goal.returns-in_err-gather-clause-fits
returns-in_err-gather-clause-fits g c =
    let reads = g.C.Content.reads c.args.content.now in
    fits_at reads c.from_residual.result c.in_err-gather.field-0.0 c.from_residual.ensures.1 (content_fits reads c.in_err-gather.field-0.0 c.in_err-gather.ensures.fault)

pub returns-in_err-begin_content-clause-fits : goal.returns-in_err-begin_content-clause-fits
returns-in_err-begin_content-clause-fits g c =
    let reads = g.C.Content.reads c.args.content.now in
    fits_at reads c.from_residual-in_err-begin_content.result c.in_err-begin_content.field-0.0 c.from_residual-in_err-begin_content.ensures.1
    (stores_fit reads _ _ c.in_err-begin_content.field-0.0 c.in_err-begin_content.ensures.begun.ends)

pub returns-in_err-gather-2-clause-fits : goal.returns-in_err-gather-2-clause-fits
returns-in_err-gather-2-clause-fits g c =
    let reads = g.C.Content.reads c.args.content.now in
    let why = c.in_err-gather-2.field-0.0 in
    fits_at reads c.from_residual-in_err-gather-2.result why c.from_residual-in_err-gather-2.ensures.1 (content_fits reads why (subst (λ (r : Option Path). IsContentFault r why) c.chunks.invariant.reads c.in_err-gather-2.ensures.fault))

pub returns-in_err-store_chunk-clause-fits : goal.returns-in_err-store_chunk-clause-fits
returns-in_err-store_chunk-clause-fits g c =
    let full : c.full-full.result ≡ (format_of c.args.keys).full_size = full_at c.args.keys c.layout.result c.full-full.result c.layout.ensures c.full-full.ensures in
    let i = c.chunks.invariant in
    let all : length c.chunks.plain ≡ (format_of c.args.keys).full_size = omega (arith, c.len.ensures, c.chunks-test.true, full) in
    let s = c.in_err-store_chunk.ensures in
    let why = c.in_err-store_chunk.field-0.0 in
    let stored = s.stored s.some in
    fits_at (g.C.Content.reads c.args.content.now) c.from_residual-in_err-store_chunk.result why c.from_residual-in_err-store_chunk.ensures.1
    (stores_fit (g.C.Content.reads c.args.content.now) _ _ why (stored.ends i.underway.drawn i.underway.content i.underway.made (i.underway.goes_on all)))

pub returns-in_err-finish_file-clause-fits : goal.returns-in_err-finish_file-clause-fits
returns-in_err-finish_file-clause-fits g c =
    let reads = g.C.Content.reads c.args.content.now in
    fits_at reads c.from_residual-in_err-finish_file.result _ c.from_residual-in_err-finish_file.ensures.1 (folder_fits reads c.in_err-finish_file.field-0.0)

pub returns-in_err-gather-clause-taken : goal.returns-in_err-gather-clause-taken
returns-in_err-gather-clause-taken g c =
    takes_fewer (suc (length c.gather.new.plain)) (g.C.Content.room c.args.content.now + 1) _ _ (omega (arith, c.in_err-gather.ensures.room)) c.in_err-gather.ensures.taken

pub returns-in_err-begin_content-clause-taken : goal.returns-in_err-begin_content-clause-taken
returns-in_err-begin_content-clause-taken g c =
    takes_fewer (length c.gather.new.plain) (g.C.Content.room c.args.content.now + 1) _ _ (omega (arith, c.in_ok-gather.ensures.room)) c.in_ok-gather.ensures.taken

pub returns-in_err-gather-2-clause-taken : goal.returns-in_err-gather-2-clause-taken
returns-in_err-gather-2-clause-taken g c =
    takes_more (g.C.Content.room c.args.content.now - g.C.Content.room c.chunks.content) (suc (length c.gather-in-chunks.new.plain)) (g.C.Content.room c.args.content.now + 1) _ _ _
    (omega (arith, c.in_err-gather-2.ensures.room, c.chunks.invariant.room)) c.chunks.invariant.taken c.in_err-gather-2.ensures.taken

pub returns-in_err-store_chunk-clause-taken : goal.returns-in_err-store_chunk-clause-taken
returns-in_err-store_chunk-clause-taken g c =
    takes_more (g.C.Content.room c.args.content.now - g.C.Content.room c.chunks.content) (length c.gather-in-chunks.new.plain) (g.C.Content.room c.args.content.now + 1) _ _ _
    (omega (arith, c.in_ok-gather-2.ensures.room, c.chunks.invariant.room)) c.chunks.invariant.taken c.in_ok-gather-2.ensures.taken

pub returns-in_err-finish_file-clause-taken : goal.returns-in_err-finish_file-clause-taken
returns-in_err-finish_file-clause-taken g c =
    takes_fewer (g.C.Content.room c.args.content.now - g.C.Content.room c.chunks.content) (g.C.Content.room c.args.content.now + 1) _ _ (omega arith) c.chunks.invariant.taken

pub returns-clause-taken : goal.returns-clause-taken
returns-clause-taken g c =
    takes_fewer (g.C.Content.room c.args.content.now - g.C.Content.room c.chunks.content) (g.C.Content.room c.args.content.now + 1) _ _ (omega arith) c.chunks.invariant.taken
