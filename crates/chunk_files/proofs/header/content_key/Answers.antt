use Rattle.std.proofs.Common.{◌∙◌, drop, arith}
use Rattle.std.proofs.lemmas.List.{length-drop, take_all}
use Rattle.chunk_files.proofs.header.content_key.Goals as goal

pub returns : goal.returns
returns c =
    c.copy_from_slice.ensures.after
    ∙ take_all 32 (drop 8 c.args.plain.now) (simp length-drop (omega (arith, c.told-plain)))
