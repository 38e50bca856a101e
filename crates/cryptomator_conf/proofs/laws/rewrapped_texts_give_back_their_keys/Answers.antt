use Rattle.std.proofs.Common.{◌≡◌, ℕ, List, replicate, refl, sym, subst}
use Rattle.vault_values.specs.declared.keys.CmKeys.{CmKeys}
use Rattle.cryptomator_conf.specs.declared.conf.CmDraw.{CmDraw}
use Rattle.cryptomator_conf.specs.declared.conf.Combo.TheVariants.{SivGcm}
use Rattle.cryptomator_conf.specs.Text.{made_master, master_text, version_bytes, version_mac}
use Rattle.cryptomator_conf.specs.Laws.{GivesBack}
use Rattle.cryptomator_conf.proofs.laws.rewrapped_texts_give_back_their_keys.Goals as goal

pub returns : goal.returns
returns c = λ file pass new_pass cost salt text keys is_cost salt_size salt_bytes are unlocks rewraps.
    let drawn : CmDraw = record { enc = rewraps.keys.enc; mac = rewraps.keys.mac; salt = salt; jti = replicate 16 0 } in
    let written : List ℕ = master_text (made_master new_pass cost drawn) (version_mac rewraps.keys.mac version_bytes) in
    let returns = c.made_files_give_back_their_keys.ensures new_pass cost SivGcm drawn is_cost
    (record { enc = rewraps.are.enc; mac = rewraps.are.mac; salt = salt_bytes; id_size = refl }) in
    let same : keys ≡ rewraps.keys = c.passphrases_unlock_one_pair.ensures file pass keys rewraps.keys are rewraps.are unlocks rewraps.held in
    let gives : GivesBack new_pass rewraps.keys written =
    record { file = made_master new_pass cost drawn; short = returns.short_master salt_size; read = returns.master; unlocked = returns.unlocked } in
    subst (GivesBack new_pass keys) (sym rewraps.written) (subst (λ k. GivesBack new_pass k written) (sym same) gives)
