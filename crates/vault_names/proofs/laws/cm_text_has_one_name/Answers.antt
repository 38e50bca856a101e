use Rattle.std.proofs.Common.{[], ◌∷◌, refl}
use Rattle.aes_lanes.specs.Cipher.{aes256}
use Rattle.vault_names.proofs.CmNames.{images, sealed-bytes, sealed-once, sealed-text}
use Rattle.vault_names.proofs.laws.cm_text_has_one_name.Goals as goal

pub returns : goal.returns
returns c = λ keys id name other text id_bytes is is_other.
    let is_image = images c.directions_undo_each_other.ensures in
    let sealed = sealed-bytes c.directions_undo_each_other.ensures c.sealed_texts_are_bytes.ensures keys id in
    let once = c.opens_to_one_text.ensures (aes256 keys.mac) (aes256 keys.enc) (is_image keys.mac) (is_image keys.enc) in
    let same = sealed-once _ _ text (sealed name id_bytes is.named) (sealed other id_bytes is_other.named) (sealed-text keys id name text is) (sealed-text keys id other text is_other) in
    once (id ∷ []) _ name other same refl
