use Rattle.std.proofs.Common.{suc, ◌≡◌, ◌≤◌, ◌+◌, ◌-◌, ◌++◌, ℕ, List, length, take, Err, Ok, sym, ap, subst, ◌∙◌, arith}
use Rattle.std.proofs.lemmas.List.{length-append, length-take-le}
use Rattle.std.proofs.lemmas.Result.{err_from_is_err_and}
use Rattle.folder_model.proofs.Counting.{rose_since}
use Rattle.content_writing.specs.Content.{Gave, IsContentFault, still_coming}
use Rattle.item_making.specs.declared.fault.PutFault.TheVariants as put
use Rattle.content_writing.proofs.Comings.{gives_still, piece_fails, piece_more, piece_last}
use Rattle.content_writing.proofs.Takings.{takes_more}
use Rattle.content_writing.proofs.gathering.gather.Goals as goal

pub returns-in_err-size : goal.returns-in_err-size
returns-in_err-size g c =
    let i = c.pieces.invariant in
    let e = c.in_err-size.ensures in
    let still = still_coming (g.C.Content.reads c.args.content.now) (g.F.Folder.told c.args.folder.now) in
    let p = err_from_is_err_and c.from_residual.result c.from_residual.ensures.1 in
    let gives = gives_still (g.C.Content.reads c.pieces.content) (g.C.Content.reads c.args.content.now) (g.F.Folder.told c.pieces.folder) (g.F.Folder.told c.args.folder.now)
    (Err c.in_err-size.field-0.0) c.piece.new.out (g.C.Content.coming c.pieces.content) (g.C.Content.coming c.piece.new.self) i.reads i.told e.gives in
    let why = c.in_err-size.field-0.0 in
    rw (p.1, p.2) (record {
      told = e.told ∙ i.told;
      reads = e.reads ∙ i.reads;
      ready = e.ready;
      lender = e.lender ∙ i.lender;
      gathered = piece_fails c.args.full c.pieces.plain c.piece.new.out (still (g.C.Content.coming c.args.content.now)) (still (g.C.Content.coming c.pieces.content)) (still (g.C.Content.coming c.piece.new.self))
          i.gave (g.C.Content.reads c.pieces.content) c.in_err-size.field-0.0 e.fault gives;
      fault = subst (λ reads. IsContentFault reads why) i.reads e.fault;
      size = i.size;
      room = omega (arith, i.room, e.shrinks);
      taken = takes_more (length c.pieces.plain) 1 (suc (length c.pieces.plain)) _ _ _ (omega arith) i.taken e.taken;
      failed = (omega (arith, i.failed, e.grows), λ same. rose_since _ _ _ i.failed (e.failed (let is : why ≡ put.Failed = cc same in ap Err is)));
      source = (omega (arith, i.source, e.counted), λ same. rose_since _ _ _ i.source (e.source (let is : why ≡ put.Source = cc same in ap Err is)));
    })

pub returns-then-size-eq0 : goal.returns-then-size-eq0
returns-then-size-eq0 g c =
    let i = c.pieces.invariant in
    let e = c.in_ok-size.ensures in
    let still = still_coming (g.C.Content.reads c.args.content.now) (g.F.Folder.told c.args.folder.now) in
    let gives = gives_still (g.C.Content.reads c.pieces.content) (g.C.Content.reads c.args.content.now) (g.F.Folder.told c.pieces.folder) (g.F.Folder.told c.args.folder.now)
    (Ok c.in_ok-size.size) c.piece.new.out (g.C.Content.coming c.pieces.content) (g.C.Content.coming c.piece.new.self) i.reads i.told e.gives in
    record {
      told = e.told ∙ i.told;
      reads = e.reads ∙ i.reads;
      ready = e.ready;
      lender = e.lender ∙ i.lender;
      gathered = piece_last c.args.full c.pieces.plain c.piece.new.out (still (g.C.Content.coming c.args.content.now)) (still (g.C.Content.coming c.pieces.content)) (still (g.C.Content.coming c.piece.new.self))
          i.gave c.in_ok-size.size c.if-size-eq0.true gives;
      fault = tt;
      size = i.size;
      room = omega (arith, i.room, e.shrinks);
      taken = takes_more (length c.pieces.plain) c.in_ok-size.size (length c.pieces.plain) _ _ _ (omega (arith, c.if-size-eq0.true)) i.taken e.taken;
      failed = (omega (arith, i.failed, e.grows), λ same. cc same);
      source = (omega (arith, i.source, e.counted), λ same. cc same);
    }

pub pieces-preserved : goal.pieces-preserved
pieces-preserved g c =
    let i = c.pieces.invariant in
    let e = c.in_ok-size.ensures in
    let n : ℕ = c.in_ok-size.size in
    let still = still_coming (g.C.Content.reads c.args.content.now) (g.F.Folder.told c.args.folder.now) in
    let gives = gives_still (g.C.Content.reads c.pieces.content) (g.C.Content.reads c.args.content.now) (g.F.Folder.told c.pieces.folder) (g.F.Folder.told c.args.folder.now)
    (Ok n) c.piece.new.out (g.C.Content.coming c.pieces.content) (g.C.Content.coming c.piece.new.self) i.reads i.told e.gives in
    let within : n ≤ c.args.full - c.len-in-pieces.result = e.size in
    let few : c.args.full ≤ 32768 = c.requires.full in
    let all : length c.piece.new.out ≡ 32816 = ap length (sym c.bytes.ensures.value) ∙ c.bytes.ensures.size in
    let added : c.push.new.self ≡ c.pieces.plain ++ take n c.piece.new.out = c.push.ensures ∙ ap (λ (b : List ℕ). c.pieces.plain ++ take n b) c.bytes.ensures.value in
    let taken : length (take n c.piece.new.out) ≡ n = length-take-le n c.piece.new.out (omega (arith, within, few, all)) in
    let size : length c.push.new.self ≡ length c.pieces.plain + n = ap length added ∙ length-append c.pieces.plain (take n c.piece.new.out) ∙ ap (λ (k : ℕ). length c.pieces.plain + k) taken in
    let held : c.len-in-pieces.result ≡ length c.pieces.plain = c.len-in-pieces.ensures in
    record {
      told = e.told ∙ i.told;
      reads = e.reads ∙ i.reads;
      ready = e.ready;
      lender = e.lender ∙ i.lender;
      gave = subst (λ (xs : List ℕ). Gave xs (still (g.C.Content.coming c.args.content.now)) (still (g.C.Content.coming c.piece.new.self))) (sym added)
          (piece_more c.args.full c.pieces.plain c.piece.new.out (still (g.C.Content.coming c.args.content.now)) (still (g.C.Content.coming c.pieces.content)) (still (g.C.Content.coming c.piece.new.self))
          i.gave n gives);
      size = omega (arith, size, within, held, i.size);
      room = omega (arith, size, e.room, i.room);
      taken = takes_more (length c.pieces.plain) n (length c.push.new.self) _ _ _ (omega (arith, size)) i.taken e.taken;
      failed = omega (arith, i.failed, e.grows);
      source = omega (arith, i.source, e.counted);
    }

pub returns-clause-told : goal.returns-clause-told
returns-clause-told g c = c.pieces.invariant.told

pub returns-clause-reads : goal.returns-clause-reads
returns-clause-reads g c = c.pieces.invariant.reads

pub returns-clause-ready : goal.returns-clause-ready
returns-clause-ready g c = c.pieces.invariant.ready

pub returns-clause-lender : goal.returns-clause-lender
returns-clause-lender g c = c.pieces.invariant.lender

pub returns-clause-size : goal.returns-clause-size
returns-clause-size g c = c.pieces.invariant.size

pub returns-clause-room : goal.returns-clause-room
returns-clause-room g c = c.pieces.invariant.room

pub returns-clause-taken : goal.returns-clause-taken
returns-clause-taken g c = c.pieces.invariant.taken

pub returns-clause-failed : goal.returns-clause-failed
returns-clause-failed g c = (c.pieces.invariant.failed, λ same. cc same)

pub returns-clause-source : goal.returns-clause-source
returns-clause-source g c = (c.pieces.invariant.source, λ same. cc same)
