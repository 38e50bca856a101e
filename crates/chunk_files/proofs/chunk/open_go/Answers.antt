use Rattle.std.proofs.Common.{◌≡◌, ◌==◌, sym, ap, Ok, arith, true, length}
use Rattle.std.proofs.lemmas.Bool.{eq-eqb}
use Rattle.chunk_files.specs.Zeros.{is_all_zero}
use Rattle.chunk_files.specs.Contents.{read_chunk, is_hole}
use Rattle.chunk_files.proofs.chunk.open_go.Goals as goal

pub returns-then-all_zero : goal.returns-then-all_zero
unfolding read_chunk is_hole
returns-then-all_zero c = λ key.
    let size : (length c.args.stored.now == 4128) ≡ true = eq-eqb _ _ (omega arith) in
    let zero : is_all_zero c.args.stored.now ≡ true = sym c.if-all_zero.ensures in
    rw (size, zero) (ap Ok (sym c.put_front.ensures.front), omega arith, c.put_front.ensures.behind)
