use Rattle.std.proofs.Common.{List, ℕ, Err, Ok, subst}
use Rattle.std.proofs.lemmas.Result.{err_from_is_err_and}
use Rattle.folder_staging.specs.Pieces.{Adds}
use Rattle.content_writing.proofs.StoredParts.{begin_unmade, begin_unbegun, begin_unadded, begins_added, begun_seen}
use Rattle.content_writing.proofs.storing.begin_content.Goals as goal

pub returns-in_err-make_front-clause-begun : goal.returns-in_err-make_front-clause-begun
returns-in_err-make_front-clause-begun g c =
    let p = err_from_is_err_and c.from_residual.result c.from_residual.ensures.1 in
    rw (p.1, p.2)
    (begin_unmade c.args.keys c.args.plain.now c.args.staged.now (g.R.Randoms.left c.args.random.now) (g.R.Randoms.left c.make_front.new.random) c.make_front.new.encoder c.make_front.new.front
    (g.F.Folder.told c.args.folder.now) c.in_err-make_front.field-0.0 c.in_err-make_front.ensures.made)

pub returns-in_err-begin_file-clause-begun : goal.returns-in_err-begin_file-clause-begun
returns-in_err-begin_file-clause-begun g c =
    let p = err_from_is_err_and c.from_residual-in_err-begin_file.result c.from_residual-in_err-begin_file.ensures.1 in
    rw (p.1, p.2)
    (begin_unbegun c.args.keys c.args.plain.now c.args.staged.now (g.R.Randoms.left c.args.random.now) (g.R.Randoms.left c.make_front.new.random) c.make_front.new.encoder c.make_front.new.front
    c.in_ok-make_front.ensures.made (g.F.Folder.told c.args.folder.now) (g.F.Folder.told c.begin_file.new.folder) c.in_err-begin_file.field-0.0 c.in_err-begin_file.ensures.begun)

pub add_piece-requires : goal.add_piece-requires
add_piece-requires g c =
    begun_seen c.args.staged.now (g.F.Folder.told c.args.folder.now) (g.F.Folder.told c.begin_file.new.folder) c.written_files_are_seen.ensures c.in_ok-begin_file.ensures.begun

pub returns-in_err-add_piece-clause-begun : goal.returns-in_err-add_piece-clause-begun
returns-in_err-add_piece-clause-begun g c =
    let told = g.F.Folder.told c.begin_file.new.folder in
    let told' = g.F.Folder.told c.add_piece.new.folder in
    let p = err_from_is_err_and c.from_residual-in_err-add_piece.result c.from_residual-in_err-add_piece.ensures.1 in
    let adds : Adds c.args.staged.now c.make_front.new.front told told' (Err c.in_err-add_piece.field-0.0) =
    subst (λ (b : List ℕ). Adds c.args.staged.now b told told' (Err c.in_err-add_piece.field-0.0)) c.bytes.ensures c.in_err-add_piece.ensures.added in
    rw (p.1, p.2)
    (begin_unadded c.args.keys c.args.plain.now c.args.staged.now (g.R.Randoms.left c.args.random.now) (g.R.Randoms.left c.make_front.new.random) c.make_front.new.encoder c.make_front.new.front
    c.in_ok-make_front.ensures.made (g.F.Folder.told c.args.folder.now) told told' c.in_ok-begin_file.ensures.begun c.in_err-add_piece.field-0.0 adds)

pub returns-clause-begun : goal.returns-clause-begun
returns-clause-begun g c =
    let told = g.F.Folder.told c.begin_file.new.folder in
    let told' = g.F.Folder.told c.add_piece.new.folder in
    let adds : Adds c.args.staged.now c.make_front.new.front told told' (Ok c.in_ok-add_piece.field-0) =
    subst (λ (b : List ℕ). Adds c.args.staged.now b told told' (Ok c.in_ok-add_piece.field-0)) c.bytes.ensures c.in_ok-add_piece.ensures.added in
    begins_added c.args.keys c.args.plain.now c.args.staged.now (g.R.Randoms.left c.args.random.now) (g.R.Randoms.left c.make_front.new.random) c.make_front.new.encoder c.make_front.new.front
    c.in_ok-make_front.ensures.made (g.F.Folder.told c.args.folder.now) told told' c.in_ok-begin_file.ensures.begun c.in_ok-add_piece.field-0 adds
