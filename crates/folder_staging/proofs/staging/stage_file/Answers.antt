use Rattle.std.proofs.Common.{◌∷◌, []}
use Rattle.folder_spec.proofs.Stages.{one_file, none_of_it}
use Rattle.folder_staging.proofs.Pieces.{writing_seen}
use Rattle.folder_staging.proofs.staging.stage_file.Goals as goal

pub add_piece-requires : goal.add_piece-requires
add_piece-requires g c v is =
    let files = c.args.bytes.now ∷ [] in
    let begun = c.in_ok-begin_file.ensures.begun files (none_of_it c.args.bytes.now) in
    ([], writing_seen files c.args.at.now [] (g.F.Folder.told c.args.folder.now) (g.F.Folder.told c.begin_file.new.folder) begun.1 v is)

pub finish_file-requires : goal.finish_file-requires
finish_file-requires g c v is =
    let bytes = c.args.bytes.now in
    let files = bytes ∷ [] in
    let t0 = g.F.Folder.told c.args.folder.now in
    let begun = c.in_ok-begin_file.ensures.begun files (none_of_it bytes) in
    let added = c.in_ok-add_piece.ensures.added t0 files [] (one_file bytes) begun.1 in
    (bytes, writing_seen files c.args.at.now bytes t0 (g.F.Folder.told c.add_piece.new.folder) added.1 v is)

pub returns-in_err-begin_file-clause-moments : goal.returns-in_err-begin_file-clause-moments
returns-in_err-begin_file-clause-moments g c = (c.begin_file.ensures.begun (c.args.bytes.now ∷ []) (none_of_it c.args.bytes.now)).0

pub returns-in_err-add_piece-clause-moments : goal.returns-in_err-add_piece-clause-moments
returns-in_err-add_piece-clause-moments g c =
    let bytes = c.args.bytes.now in
    let begun = c.in_ok-begin_file.ensures.begun (bytes ∷ []) (none_of_it bytes) in
    (c.add_piece.ensures.added (g.F.Folder.told c.args.folder.now) (bytes ∷ []) [] (one_file bytes) begun.1).0

pub returns-clause-moments : goal.returns-clause-moments
returns-clause-moments g c =
    let bytes = c.args.bytes.now in
    let t0 = g.F.Folder.told c.args.folder.now in
    let begun = c.in_ok-begin_file.ensures.begun (bytes ∷ []) (none_of_it bytes) in
    let added = c.in_ok-add_piece.ensures.added t0 (bytes ∷ []) [] (one_file bytes) begun.1 in
    (c.finish_file.ensures.finished t0 (bytes ∷ []) bytes added.1).0

pub returns-clause-written : goal.returns-clause-written
returns-clause-written g c =
    let bytes = c.args.bytes.now in
    let t0 = g.F.Folder.told c.args.folder.now in
    let begun = c.in_ok-begin_file.ensures.begun (bytes ∷ []) (none_of_it bytes) in
    let added = c.in_ok-add_piece.ensures.added t0 (bytes ∷ []) [] (one_file bytes) begun.1 in
    (c.finish_file.ensures.finished t0 (bytes ∷ []) bytes added.1).1
