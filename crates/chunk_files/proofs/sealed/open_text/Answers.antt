use Rattle.std.proofs.Common.{sym, refl}
use Rattle.chunk_files.proofs.Opening.{HasParts, right-tag, wrong-tag, plain-opened}
use Rattle.chunk_files.proofs.sealed.open_text.Goals as goal

pub returns-in-Ok-clause-right : goal.returns-in-Ok-clause-right
returns-in-Ok-clause-right c =
    let parts : HasParts c.args.n c.args.stored.now c.copy_from_slice-2.new.self c.copy_from_slice.new.self = record { text_is = c.copy_from_slice-2.ensures.after; tag_is = c.copy_from_slice.ensures.after } in
    sym (right-tag _ _ _ _ _ _ parts (c.in-Ok.ensures.right_tag.0 refl))

pub returns-in-Ok-clause-opened : goal.returns-in-Ok-clause-opened
returns-in-Ok-clause-opened c =
    let parts : HasParts c.args.n c.args.stored.now c.copy_from_slice-2.new.self c.copy_from_slice.new.self = record { text_is = c.copy_from_slice-2.ensures.after; tag_is = c.copy_from_slice.ensures.after } in
    plain-opened _ _ _ _ _ _ parts _ (c.unsealing_undoes_sealing.ensures.decrypted _) c.in-Ok.ensures.opened

pub returns-in-Err-clause-right : goal.returns-in-Err-clause-right
returns-in-Err-clause-right c =
    let parts : HasParts c.args.n c.args.stored.now c.copy_from_slice-2.new.self c.copy_from_slice.new.self = record { text_is = c.copy_from_slice-2.ensures.after; tag_is = c.copy_from_slice.ensures.after } in
    sym (wrong-tag _ _ _ _ _ _ parts (λ right. let ok = c.in-Err.ensures.right_tag.1 right in cc))
