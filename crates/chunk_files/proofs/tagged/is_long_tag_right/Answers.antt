use Rattle.std.proofs.Common.{◌-◌, length}
use Rattle.std.proofs.lemmas.List.{take_rest}
use Rattle.chunk_files.proofs.Tagging.{tag-told}
use Rattle.chunk_files.proofs.tagged.is_long_tag_right.Goals as goal

pub returns : goal.returns
returns c =
    tag-told c.same_bytes.result c.args.mac.now c.args.associated.now c.args.stored.now _ c.long_tag_of-tag.result
    (take_rest c.args.stored.now (length c.args.stored.now - 32)) c.long_tag_of-tag.ensures c.same_bytes.ensures
