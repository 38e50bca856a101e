use Rattle.std.proofs.Common.{ℕ, List, refl}
use Rattle.kdf_suite.specs.ScryptCost.{Cost}
use Rattle.cryptomator_conf.specs.Keys.{wrapping_key}
use Rattle.cryptomator_conf.specs.Text.{made_master, version_bytes, version_mac}
use Rattle.cryptomator_conf.proofs.ReadBack.{cost_fits, master_reads_back, one_part}
use Rattle.cryptomator_conf.proofs.Sizes.{short_master, short_vault}
use Rattle.cryptomator_conf.proofs.VaultReadBack.{vault_reads_back}
use Rattle.cryptomator_conf.proofs.laws.made_files_give_back_their_keys.Goals as goal

pub returns : goal.returns
returns c = λ pass cost combo drawn is_cost is_drawn.
    let wraps = c.wrapped_keys_are_bytes.ensures in
    let tags = c.digests_are_bytes.ensures.tag_bytes in
    let alone : Cost = record { n = cost.n; r = cost.r; p = 1 } in
    let key : List ℕ = wrapping_key pass drawn.salt alone in
    let fits = cost_fits alone (one_part cost is_cost) in
    record {
      short_master = λ salt_size. short_master c.base64_has_its_size.ensures (made_master pass cost drawn) (version_mac drawn.mac version_bytes)
          (wraps.forty key drawn.mac is_drawn.mac) (wraps.forty key drawn.enc is_drawn.enc) salt_size (c.digests_are_bytes.ensures.tag_size drawn.mac version_bytes) fits.n_fits fits.r_fits;
      short_vault = short_vault c.base64url_is_of_its_alphabet.ensures.size c.digests_are_bytes.ensures.tag_size combo drawn;
      master =
          master_reads_back drawn.salt _ _ _ cost.n cost.r c.base64_is_plain.ensures (one_part cost is_cost) (wraps.forty key drawn.enc is_drawn.enc) (wraps.forty key drawn.mac is_drawn.mac)
          (wraps.bytes key drawn.enc is_drawn.enc) (wraps.bytes key drawn.mac is_drawn.mac) is_drawn.salt (tags _ _);
      vault = vault_reads_back combo drawn c.base64url_is_of_its_alphabet.ensures.characters tags;
      unlocked = record { enc = refl; mac = refl };
      signed = refl;
    }
