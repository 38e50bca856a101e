use Rattle.std.proofs.Common.{◌∙◌}
use Rattle.gocrypt_conf.proofs.Sealing.{parted, on_err, opens_to, opens_to_nothing}
use Rattle.gocrypt_conf.proofs.master_key.unseal_master.Goals as goal

pub returns-in_err-unseal-clause-bad_tag : goal.returns-in_err-unseal-clause-bad_tag
returns-in_err-unseal-clause-bad_tag c =
    let parts = parted c.args.bytes.now c.split_at.result.0.now c.split_at-2.result.0.now c.copy_from_slice.new.self c.copy_from_slice-2.new.self
    c.told-bytes c.split_at.ensures.front (c.copy_from_slice-2.ensures.after ∙ c.split_at.ensures.back) c.split_at-2.ensures.front (c.copy_from_slice.ensures.after ∙ c.split_at-2.ensures.back) in
    let nothing = rw (c.new-2.ensures, c.new.ensures) at c.in_err-unseal.ensures.bad_tag in
    on_err c.from_residual.result _ (opens_to_nothing c.sealed_texts_are_bytes.ensures.sixteen _ _ _ _ _ parts nothing)

pub returns-clause-master : goal.returns-clause-master
returns-clause-master c =
    let parts = parted c.args.bytes.now c.split_at.result.0.now c.split_at-2.result.0.now c.copy_from_slice.new.self c.copy_from_slice-2.new.self
    c.told-bytes c.split_at.ensures.front (c.copy_from_slice-2.ensures.after ∙ c.split_at.ensures.back) c.split_at-2.ensures.front (c.copy_from_slice.ensures.after ∙ c.split_at-2.ensures.back) in
    opens_to _ _ _ _ _ _ parts (rw (c.new-2.ensures, c.new.ensures) at c.in_ok-unseal.ensures.opened)
