use Rattle.std.proofs.Common.{◌∙◌, ap, [], ◌∷◌}
use Rattle.std.proofs.lemmas.List.Elements.{All-nil, All-cons}
use Rattle.aes_lanes.specs.Bytes.{IsBlock}
use Rattle.eme_mode.specs.Eme.{inverse_eme256}
use Rattle.vector_rows.proofs.modes.encrypt_and_decrypt.Goals as goal

pub returns : goal.returns
returns c =
    let a = c.args.first.now in
    let b = c.args.second.now in
    let is_tweak : IsBlock c.args.tweak.now = record { sixteen = c.told-tweak; bytes = c.fits-tweak } in
    let is_first : IsBlock a = record { sixteen = c.told-first; bytes = c.fits-first } in
    let is_second : IsBlock b = record { sixteen = c.told-second; bytes = c.fits-second } in
    c.decrypt.ensures.decrypted
    ∙ ap (inverse_eme256 c.args.eme.now c.args.tweak.now) c.encrypt.ensures
    ∙ c.directions_undo_each_other.ensures.decrypted c.args.eme.now c.args.tweak.now (a ∷ b ∷ []) is_tweak
    (All-cons IsBlock a (b ∷ []) is_first (All-cons IsBlock b [] is_second (All-nil IsBlock)))
