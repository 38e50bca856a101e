-- A new vault is what its passphrase opens, and empty and tidy.
use Rattle.std.proofs.Common.{◌≡◌, ◌<◌, ℕ, suc, Bool, true, false, nat_le, List, [], ◌∷◌, length, slice_index, Some, Result, Ok, Err, MatchResult, refl, sym, subst, inl, eq-eqb, lt-ltb}
use Rattle.std.proofs.lemmas.Bool.{le-leb}
use Rattle.chunk_files.specs.Zeros.{is_all_zero}
use Rattle.cryptomator_conf.specs.declared.conf.CmDraw.{CmDraw}
use Rattle.cryptomator_conf.specs.declared.conf.Combo.{Combo}
use Rattle.cryptomator_conf.specs.Laws as cm
use Rattle.cryptomator_conf.specs.Text.{keys_of, made_master, master_text, vault_text, version_bytes, version_mac}
use Rattle.gocrypt_conf.specs.declared.conf.GoDraw.{GoDraw}
use Rattle.vault_values.specs.declared.keys.GoKeys.{GoKeys}
use Rattle.gocrypt_conf.specs.Laws as go
use Rattle.gocrypt_conf.specs.Keys as gocryptfs
use Rattle.gocrypt_conf.specs.Text.{conf_text, made_conf}
use Rattle.kdf_suite.specs.ScryptCost.{Cost, IsCost}
use Rattle.vault_spec.specs.Empty.{IsEmptyVault}
use Rattle.vault_spec.specs.Format.{is_bytes}
use Rattle.vault_spec.specs.Gocryptfs.{directory_key, go_format}
use Rattle.vault_spec.specs.Cryptomator.{cm_format}
use Rattle.vault_spec.specs.NewVault.{new_go_vault, new_cm_vault}
use Rattle.vault_spec.specs.Tidy.{IsTidy}
use Rattle.vault_spec.specs.Vault.{Vault, LoadRefusal, TooLarge, CmRefused, Either, TestsGo, TestsCm, UnlocksCm, IsVault, go_conf, master_file, vault_file}
use Rattle.vault_write.specs.Founding.{AreBytes, IsGoDraw, IsCmDraw, IsNewVault, new_go, new_cm}

either : (b : Bool) (A B : Type 0) → b ≡ true → A → Either b A B
either b A B is a = subst (λ x. Either x A B) (sym is) a

-- ---- gocryptfs

go_opens : (pass : List ℕ) (cost : Cost) (d : GoDraw) (key : List ℕ) → go.Returns pass cost d → IsVault (new_go_vault pass cost d key) pass (new_go d)
go_opens pass cost d key h =
    let text : List ℕ = conf_text (made_conf pass cost d) in
    let answer : Result Vault LoadRefusal = Ok (new_go d) in
    either (nat_le (length text) 65536) (TestsGo text pass answer) (answer ≡ Err (TooLarge go_conf)) (le-leb (length text) 65536 h.short)
    (Ok (made_conf pass cost d), h.read, inl (gocryptfs.keys_of d.master, h.unlocked, refl))

are_bytes : (bytes : List ℕ) → ((place : ℕ) → slice_index bytes place < 256) → is_bytes bytes ≡ true
are_bytes [] small = refl
are_bytes (b ∷ bytes) small = rw (lt-ltb b 256 (small 0)) (are_bytes bytes (λ place. small (suc place)))

pub is_key : (key : List ℕ) → AreBytes 16 key → is_all_zero key ≡ false → directory_key key ≡ Some key
is_key key sizes some = rw (are_bytes key sizes.small, eq-eqb (length key) 16 sizes.size, some) refl

abbrev pub GoEmpty : Type 0
GoEmpty = (keys : GoKeys) (pass : List ℕ) (cost : Cost) (drawn : GoDraw) (key : List ℕ) → directory_key key ≡ Some key
    → IsEmptyVault (go_format keys) (new_go_vault pass cost drawn key)

abbrev pub GoTidy : Type 0
GoTidy = (keys : GoKeys) (pass : List ℕ) (cost : Cost) (drawn : GoDraw) (key : List ℕ) → directory_key key ≡ Some key
    → IsTidy (go_format keys) (new_go_vault pass cost drawn key)

pub go_is_new : go.MadeTextReturns → GoEmpty → GoTidy → (pass : List ℕ) (cost : Cost) (d : GoDraw) (key : List ℕ) → IsCost cost → IsGoDraw d key → is_all_zero key ≡ false
    → IsNewVault (new_go_vault pass cost d key) pass (new_go d)
go_is_new returns empty tidy pass cost d key is_cost sizes some = record {
  opens = go_opens pass cost d key (returns pass cost d is_cost (record {
    master_size = sizes.master.size;
    master_bytes = sizes.master.small;
    salt_size = sizes.salt.size;
    salt_bytes = sizes.salt.small;
    nonce_size = sizes.nonce.size;
    nonce_bytes = sizes.nonce.small;
  }));
  empty = empty (gocryptfs.keys_of d.master) pass cost d key (is_key key sizes.root some);
  tidy = tidy (gocryptfs.keys_of d.master) pass cost d key (is_key key sizes.root some);
}

-- ---- Cryptomator

cm_opens : (pass : List ℕ) (cost : Cost) (combo : Combo) (d : CmDraw) → IsCmDraw d → cm.Return pass cost combo d → IsVault (new_cm_vault pass cost combo d) pass (new_cm combo d)
cm_opens pass cost combo d sizes h =
    let master : List ℕ = master_text (made_master pass cost d) (version_mac d.mac version_bytes) in
    let text : List ℕ = vault_text combo d in
    let answer : Result Vault LoadRefusal = Ok (new_cm combo d) in
    either (nat_le (length master) 65536) (Either (nat_le (length text) 65536) (TestsCm master text pass answer) (answer ≡ Err (TooLarge vault_file))) (answer ≡ Err (TooLarge master_file))
    (le-leb (length master) 65536 (h.short_master sizes.salt.size))
    (either (nat_le (length text) 65536) (TestsCm master text pass answer) (answer ≡ Err (TooLarge vault_file)) (le-leb (length text) 65536 h.short_vault) (
      Ok (made_master pass cost d),
      h.master,
      subst (λ r. MatchResult r (λ file. UnlocksCm (made_master pass cost d) file pass answer) (λ fault. answer ≡ Err (CmRefused vault_file fault))) (sym h.vault)
          (inl (
            keys_of d,
            record {
              enc = record { thirty_two = sizes.enc.size; bytes = sizes.enc.small };
              mac = record { thirty_two = sizes.mac.size; bytes = sizes.mac.small };
            },
            h.unlocked,
            inl (h.signed, refl),
          )),
    ))

-- it is empty and tidy under the keys that it draws
abbrev pub CmEmptyAndTidy : List ℕ → Cost → Combo → CmDraw → Type 0
CmEmptyAndTidy pass cost combo d =
    IsEmptyVault (cm_format (record { keys = keys_of d; combo = combo; threshold = 220 })) (new_cm_vault pass cost combo d)
    × IsTidy (cm_format (record { keys = keys_of d; combo = combo; threshold = 220 })) (new_cm_vault pass cost combo d)

pub cm_is_new : cm.MadeFilesReturn → (pass : List ℕ) (cost : Cost) (combo : Combo) (d : CmDraw) → IsCost cost → IsCmDraw d → CmEmptyAndTidy pass cost combo d
    → IsNewVault (new_cm_vault pass cost combo d) pass (new_cm combo d)
cm_is_new returns pass cost combo d is_cost sizes both = record {
  opens = cm_opens pass cost combo d sizes (returns pass cost combo d is_cost (record {
    enc = record { thirty_two = sizes.enc.size; bytes = sizes.enc.small };
    mac = record { thirty_two = sizes.mac.size; bytes = sizes.mac.small };
    salt = sizes.salt.small;
    id_size = sizes.jti.size;
  }));
  empty = both.0;
  tidy = both.1;
}
