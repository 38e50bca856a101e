use Rattle.std.proofs.Common.{ℕ, List, take, Err, Ok, subst}
use Rattle.std.proofs.lemmas.Result.{err_from_is_err_and}
use Rattle.folder_staging.specs.Pieces.{Adds}
use Rattle.content_writing.proofs.StoredParts.{seal_undrawn, sealed, store_unsealed, store_unadded, stores_added}
use Rattle.content_writing.proofs.storing.store_chunk.Goals as goal

pub returns-in_err-size-clause-stored : goal.returns-in_err-size-clause-stored
returns-in_err-size-clause-stored g c = λ some.
    let s = g.R.Randoms.left c.args.random.now in
    let s' = g.R.Randoms.left c.chunk.new.random in
    let p = err_from_is_err_and c.from_residual.result c.from_residual.ensures.1 in
    rw (p.1, p.2)
    (store_unsealed c.args.encoder.now c.chunk.new.self c.args.plain.now c.args.staged.now s s' (g.F.Folder.told c.args.folder.now) c.in_err-size.field-0.0
    (seal_undrawn c.made_is_a_front.ensures c.args.encoder.now c.chunk.new.self c.args.plain.now s s' some (g.R.Randoms.faults c.args.random.now) (g.R.Randoms.faults c.chunk.new.random)
    c.in_err-size.field-0.0 c.in_err-size.ensures.fault))

pub returns-in_err-add_piece-clause-stored : goal.returns-in_err-add_piece-clause-stored
returns-in_err-add_piece-clause-stored g c = λ some.
    let e = c.in_ok-size.ensures in
    let size : ℕ = c.in_ok-size.size in
    let s = g.R.Randoms.left c.args.random.now in
    let s' = g.R.Randoms.left c.chunk.new.random in
    let told = g.F.Folder.told c.args.folder.now in
    let told' = g.F.Folder.told c.add_piece.new.folder in
    let p = err_from_is_err_and c.from_residual-in_err-add_piece.result c.from_residual-in_err-add_piece.ensures.1 in
    let adds : Adds c.args.staged.now (take size c.chunk.new.out) told told' (Err c.in_err-add_piece.field-0.0) =
    subst (λ (b : List ℕ). Adds c.args.staged.now (take size b) told told' (Err c.in_err-add_piece.field-0.0)) c.bytes.ensures.value c.in_err-add_piece.ensures.added in
    rw (p.1, p.2)
    (store_unadded c.args.encoder.now c.chunk.new.self c.args.plain.now c.args.staged.now s s' (take size c.chunk.new.out)
    (sealed c.made_is_a_front.ensures c.args.encoder.now c.chunk.new.self c.args.plain.now s s' some size c.chunk.new.out e.goes_on e.next e.size e.drawn)
    told told' c.in_err-add_piece.field-0.0 adds)

pub returns-clause-stored : goal.returns-clause-stored
returns-clause-stored g c = λ some.
    let e = c.in_ok-size.ensures in
    let size : ℕ = c.in_ok-size.size in
    let s = g.R.Randoms.left c.args.random.now in
    let s' = g.R.Randoms.left c.chunk.new.random in
    let told = g.F.Folder.told c.args.folder.now in
    let told' = g.F.Folder.told c.add_piece.new.folder in
    let adds : Adds c.args.staged.now (take size c.chunk.new.out) told told' (Ok c.in_ok-add_piece.field-0) =
    subst (λ (b : List ℕ). Adds c.args.staged.now (take size b) told told' (Ok c.in_ok-add_piece.field-0)) c.bytes.ensures.value c.in_ok-add_piece.ensures.added in
    stores_added c.args.encoder.now c.chunk.new.self c.args.plain.now c.args.staged.now s s' (take size c.chunk.new.out)
    (sealed c.made_is_a_front.ensures c.args.encoder.now c.chunk.new.self c.args.plain.now s s' some size c.chunk.new.out e.goes_on e.next e.size e.drawn)
    told told' c.in_ok-add_piece.field-0 adds
