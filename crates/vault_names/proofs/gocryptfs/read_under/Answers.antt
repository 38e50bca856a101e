use Rattle.std.proofs.Common.{◌≡◌, length, ap, subst, ◌∙◌, arith}
use Rattle.std.proofs.lemmas.List.{take_at}
use Rattle.std.proofs.lemmas.Result.{IfOk-weaker}
use Rattle.aes_lanes.specs.Bytes.{IsBlock}
use Rattle.eme_mode.specs.Eme.{inverse_eme256}
use Rattle.vault_names.specs.Blocks.{AreBlocksOf, IsPaddedName}
use Rattle.vault_names.specs.Gocryptfs.{bytes_of, IsTextOf}
use Rattle.vault_names.proofs.Encryption.{AreEme, AreBlocksOf-text, IsPaddedName-text, IsTextOf-padded}
use Rattle.vault_names.proofs.gocryptfs.read_under.Goals as goal

pub returns-in_default-clause-not_stored : goal.returns-in_default-clause-not_stored
returns-in_default-clause-not_stored c = λ fault name is.
    let is_iv : IsBlock c.args.iv.now = record { sixteen = c.told-iv; bytes = c.fits-iv } in
    let undo = c.directions_undo_each_other.ensures in
    let stay = c.blocks_stay_blocks.ensures in
    let eme : AreEme c.args.eme.now c.args.iv.now = record {
      undone = λ blocks are. undo.decrypted _ _ blocks is_iv are;
      redone = λ blocks are. undo.encrypted _ _ blocks is_iv are;
      blocks_there = λ blocks are. stay.encrypted _ _ blocks is_iv are;
      blocks_back = λ blocks are. stay.decrypted _ _ blocks is_iv are;
      as_many = λ blocks. stay.as_many_encrypted _ _ blocks;
    } in
    let none = rw c.in_default.is at c.in_ok-blocks.ensures in
    none _ (AreBlocksOf-text c.args.eme.now c.args.iv.now name c.args.text.now eme is)

-- what was decrypted
whole : (c : goal.After-drop-blocks) → c.as_flattened.result.now ≡ bytes_of (inverse_eme256 c.args.eme.now c.args.iv.now c.in-Some.blocks.items)
whole c =
    let long : length c.decrypt.new.blocks ≡ c.in-Some.blocks.len = omega (arith, c.decrypt.auto.blocks, c.as_mut_slice.ensures.len) in
    let slice : c.as_slice.result.now ≡ c.decrypt.new.blocks = c.as_slice.ensures.value ∙ take_at c.decrypt.new.blocks _ c.in-Some.blocks.len long in
    c.as_flattened.ensures.value ∙ ap bytes_of (slice ∙ c.decrypt.ensures.decrypted)
    ∙ ap (λ bs. bytes_of (inverse_eme256 c.args.eme.now c.args.iv.now bs)) c.as_mut_slice.ensures.value

-- the laws of EME, under the vault's key and the directory's bytes
eme : (c : goal.After-drop-blocks) → AreEme c.args.eme.now c.args.iv.now
eme c =
    let is_iv : IsBlock c.args.iv.now = record { sixteen = c.told-iv; bytes = c.fits-iv } in
    let undo = c.directions_undo_each_other.ensures in
    let stay = c.blocks_stay_blocks.ensures in
    record {
      undone = λ blocks are. undo.decrypted _ _ blocks is_iv are;
      redone = λ blocks are. undo.encrypted _ _ blocks is_iv are;
      blocks_there = λ blocks are. stay.encrypted _ _ blocks is_iv are;
      blocks_back = λ blocks are. stay.decrypted _ _ blocks is_iv are;
      as_many = λ blocks. stay.as_many_encrypted _ _ blocks;
    }

pub returns-clause-name : goal.returns-clause-name
returns-clause-name c =
    let are : AreBlocksOf c.args.text.now c.in-Some.blocks.items = rw c.in-Some.is at c.in_ok-blocks.ensures in
    IfOk-weaker c.unpadded_name.result _ (λ name. IsTextOf c.args.eme.now c.args.iv.now name c.args.text.now)
    (λ name is. IsTextOf-padded c.args.eme.now c.args.iv.now name c.args.text.now c.in-Some.blocks.items (eme c) are (subst (IsPaddedName name) (whole c) is))
    c.unpadded_name.ensures.name

pub returns-clause-not_stored : goal.returns-clause-not_stored
returns-clause-not_stored c = λ fault name is.
    let are : AreBlocksOf c.args.text.now c.in-Some.blocks.items = rw c.in-Some.is at c.in_ok-blocks.ensures in
    c.unpadded_name.ensures.not_stored fault name
    (rw (whole c) (IsPaddedName-text c.args.eme.now c.args.iv.now name c.args.text.now _ (eme c) are is))
