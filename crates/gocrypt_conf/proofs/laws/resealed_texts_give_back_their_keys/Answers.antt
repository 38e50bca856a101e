use Rattle.std.proofs.Common.{ℕ, List, sym, ap, subst, ◌∙◌}
use Rattle.gocrypt_conf.specs.declared.conf.GoConf.{GoConf}
use Rattle.gocrypt_conf.specs.declared.conf.GoDraw.{GoDraw}
use Rattle.gocrypt_conf.specs.Keys.{keys_of}
use Rattle.gocrypt_conf.specs.Text.{conf_text, made_conf}
use Rattle.gocrypt_conf.specs.Laws.{GivesBack}
use Rattle.gocrypt_conf.proofs.Sealing.{holds_once}
use Rattle.gocrypt_conf.proofs.laws.resealed_texts_give_back_their_keys.Goals as goal

pub returns : goal.returns
returns c = λ conf pass new_pass cost salt nonce text keys is_cost salt_size salt_bytes nonce_size nonce_bytes unlocks reseals.
    let drawn : GoDraw = record { master = reseals.master; salt = salt; nonce = nonce } in
    let made : GoConf = made_conf new_pass cost drawn in
    let written : List ℕ = conf_text made in
    let returns = c.made_texts_give_back_their_keys.ensures new_pass cost drawn is_cost (record {
      master_size = reseals.size;
      master_bytes = reseals.bytes;
      salt_size = salt_size;
      salt_bytes = salt_bytes;
      nonce_size = nonce_size;
      nonce_bytes = nonce_bytes;
    }) in
    let same = holds_once c.sealed_texts_are_bytes.ensures.sixteen c.opens_to_one_text.ensures _ _ _ unlocks.master reseals.master unlocks.seals reseals.held in
    let gives : GivesBack new_pass (keys_of reseals.master) written = record { conf = made; short = returns.short; read = returns.read; unlocked = returns.unlocked } in
    subst (GivesBack new_pass keys) (sym reseals.written) (subst (λ k. GivesBack new_pass k written) (sym (unlocks.gives ∙ ap keys_of same)) gives)
