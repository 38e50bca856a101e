-- A root and a passphrase have one answer.
use Rattle.std.proofs.Common.{◌≡◌, ℕ, Bool, true, false, not, ◌&&◌, List, [], Result, Ok, Err, MatchResult, inl, inr, sym, ap, ◌∙◌, subst, nat_le, length}
use Rattle.cryptomator_conf.specs.declared.conf.MasterFile.{MasterFile}
use Rattle.cryptomator_conf.specs.declared.conf.VaultFile.{VaultFile}
use Rattle.cryptomator_conf.specs.declared.fault.CmConfFault.{CmConfFault}
use Rattle.vault_values.specs.declared.keys.CmKeys.{CmKeys}
use Rattle.cryptomator_conf.specs.Laws as cm
use Rattle.cryptomator_conf.specs.Vault.{vault_in}
use Rattle.folder_spec.specs.Path.{Path}
use Rattle.folder_spec.specs.View.{Found, NoEntry, Folder, FileOf, Special, View}
use Rattle.gocrypt_conf.specs.declared.conf.GoConf.{GoConf}
use Rattle.gocrypt_conf.specs.declared.fault.GoConfFault.{GoConfFault}
use Rattle.vault_values.specs.declared.keys.GoKeys.{GoKeys}
use Rattle.gocrypt_conf.specs.Laws as go
use Rattle.vault_spec.specs.Format.{is_file}
use Rattle.vault_spec.specs.Vault.{Loaded, Either, OfFile, UnlocksGo, TestsGo, LoadsGo, Signs, UnlocksCm, TestsCm, LoadsCm, LoadsFrom, Loads, Gocryptfs, go_conf, master_file, vault_file, TooLarge, GoRefused, CmRefused}

-- facts of which one answer is told
abbrev pub HasOne : (Loaded → Type 0) → Type 0
HasOne Tells = (a b : Loaded) → Tells a → Tells b → a ≡ b

either_one : (test : Bool) (One Other : Loaded → Type 0) → HasOne One → HasOne Other → HasOne (λ answer. Either test (One answer) (Other answer))
either_one true One Other one other a b p q = one a b p q
either_one false One Other one other a b p q = other a b p q

is_one : (answer : Loaded) → HasOne (λ a. a ≡ answer)
is_one answer a b p q = p ∙ sym q

of_file_one : (at : Path) (there : Found) (Next : List ℕ → Loaded → Type 0) → ((bytes : List ℕ) → HasOne (Next bytes))
    → HasOne (λ answer. OfFile at there answer (λ bytes. Next bytes answer))
of_file_one at NoEntry Next one a b p q = p ∙ sym q
of_file_one at Folder Next one a b p q = p ∙ sym q
of_file_one at Special Next one a b p q = p ∙ sym q
of_file_one at (FileOf bytes) Next one a b p q =
    either_one (nat_le (length bytes) 65536) (Next bytes) (λ answer. answer ≡ Err (TooLarge at)) (one bytes) (is_one (Err (TooLarge at))) a b p q

match_one : {T E : Type 0} (read : Result T E) (Good : T → Loaded → Type 0) (Bad : E → Loaded → Type 0) → ((value : T) → HasOne (Good value)) → ((fault : E) → HasOne (Bad fault))
    → HasOne (λ answer. MatchResult read (λ value. Good value answer) (λ fault. Bad fault answer))
match_one (Ok value) Good Bad good bad a b p q = good value a b p q
match_one (Err fault) Good Bad good bad a b p q = bad fault a b p q

module _ (reads : go.HaveOneAnswer) (unlocks : go.UnlocksOnePair) where
  unlocks_go_one : (conf : GoConf) (pass : List ℕ) → HasOne (UnlocksGo conf pass)
  unlocks_go_one conf pass a b (inl (keys, opens, is)) (inl (other, opens2, is2)) = is ∙ ap (λ (k : GoKeys). Ok (Gocryptfs k)) (unlocks conf pass keys other opens opens2) ∙ sym is2
  unlocks_go_one conf pass a b (inl (keys, opens, is)) (inr (none, is2)) = absurd (none keys opens)
  unlocks_go_one conf pass a b (inr (none, is)) (inl (keys, opens, is2)) = absurd (none keys opens)
  unlocks_go_one conf pass a b (inr (none, is)) (inr (none2, is2)) = is ∙ sym is2

  tests_go_one : (bytes pass : List ℕ) → HasOne (TestsGo bytes pass)
  tests_go_one bytes pass a b (read, reads_as, told) (read2, reads_as2, told2) =
      let Told : Result GoConf GoConfFault → Loaded → Type 0 = λ r answer. MatchResult r (λ conf. UnlocksGo conf pass answer) (λ fault. answer ≡ Err (GoRefused fault)) in
      match_one read (λ conf. UnlocksGo conf pass) (λ fault answer. answer ≡ Err (GoRefused fault)) (λ conf. unlocks_go_one conf pass) (λ fault. is_one (Err (GoRefused fault)))
      a b told (subst (λ (r : Result GoConf GoConfFault). Told r b) (reads bytes read2 read reads_as2 reads_as) told2)

  loads_go_one : (v : View) (pass : List ℕ) → HasOne (LoadsGo v pass)
  loads_go_one v pass = of_file_one go_conf (v go_conf) (λ bytes answer. TestsGo bytes pass answer) (λ bytes. tests_go_one bytes pass)

module _ (reads : cm.HaveOneAnswer) (unlocks : cm.UnlocksOnePair) where
  signs_one : (keys : CmKeys) (file : VaultFile) → HasOne (Signs keys file)
  signs_one keys file a b (inl (same, is)) (inl (same2, is2)) = is ∙ sym is2
  signs_one keys file a b (inl (same, is)) (inr (other, is2)) = absurd (other same)
  signs_one keys file a b (inr (other, is)) (inl (same, is2)) = absurd (other same)
  signs_one keys file a b (inr (other, is)) (inr (other2, is2)) = is ∙ sym is2

  unlocks_cm_one : (master : MasterFile) (file : VaultFile) (pass : List ℕ) → HasOne (UnlocksCm master file pass)
  unlocks_cm_one master file pass a b (inl (keys, are, opens, signs)) (inl (other, are2, opens2, signs2)) =
      signs_one keys file a b signs (subst (λ (k : CmKeys). Signs k file b) (unlocks master pass other keys are2 are opens2 opens) signs2)
  unlocks_cm_one master file pass a b (inl (keys, are, opens, signs)) (inr (none, is)) = absurd (none keys are opens)
  unlocks_cm_one master file pass a b (inr (none, is)) (inl (keys, are, opens, signs)) = absurd (none keys are opens)
  unlocks_cm_one master file pass a b (inr (none, is)) (inr (none2, is2)) = is ∙ sym is2

  abbrev AfterMaster : List ℕ → List ℕ → MasterFile → Loaded → Type 0
  AfterMaster vault_bytes pass master answer =
      MatchResult (vault_in vault_bytes) (λ file. UnlocksCm master file pass answer) (λ fault. answer ≡ Err (CmRefused vault_file fault))

  after_master_one : (vault_bytes pass : List ℕ) (master : MasterFile) → HasOne (AfterMaster vault_bytes pass master)
  after_master_one vault_bytes pass master =
      match_one (vault_in vault_bytes) (λ file. UnlocksCm master file pass) (λ fault answer. answer ≡ Err (CmRefused vault_file fault))
      (λ file. unlocks_cm_one master file pass) (λ fault. is_one (Err (CmRefused vault_file fault)))

  tests_cm_one : (master_bytes vault_bytes pass : List ℕ) → HasOne (TestsCm master_bytes vault_bytes pass)
  tests_cm_one master_bytes vault_bytes pass a b (read, reads_as, told) (read2, reads_as2, told2) =
      let Told : Result MasterFile CmConfFault → Loaded → Type 0 = λ r answer. MatchResult r (λ master. AfterMaster vault_bytes pass master answer) (λ fault. answer ≡ Err (CmRefused master_file fault)) in
      match_one read (AfterMaster vault_bytes pass) (λ fault answer. answer ≡ Err (CmRefused master_file fault)) (after_master_one vault_bytes pass) (λ fault. is_one (Err (CmRefused master_file fault)))
      a b told (subst (λ (r : Result MasterFile CmConfFault). Told r b) (reads master_bytes read2 read reads_as2 reads_as) told2)

  loads_cm_one : (v : View) (pass : List ℕ) → HasOne (LoadsCm v pass)
  loads_cm_one v pass =
      of_file_one master_file (v master_file) (λ master_bytes answer. OfFile vault_file (v vault_file) answer (λ vault_bytes. TestsCm master_bytes vault_bytes pass answer))
      (λ master_bytes. of_file_one vault_file (v vault_file) (λ vault_bytes answer. TestsCm master_bytes vault_bytes pass answer) (λ vault_bytes. tests_cm_one master_bytes vault_bytes pass))

module _ (go_reads : go.HaveOneAnswer) (go_unlocks : go.UnlocksOnePair) (cm_reads : cm.HaveOneAnswer) (cm_unlocks : cm.UnlocksOnePair) (v : View) (pass : List ℕ) where
  from_one : (root : Found) → HasOne (LoadsFrom root v pass)
  from_one NoEntry a b p q = p ∙ sym q
  from_one (FileOf bytes) a b p q = p ∙ sym q
  from_one Special a b p q = p ∙ sym q
  from_one Folder a b p q =
      either_one (not (is_file (v go_conf)) && is_file (v vault_file)) (LoadsCm v pass) (LoadsGo v pass) (loads_cm_one cm_reads cm_unlocks v pass) (loads_go_one go_reads go_unlocks v pass) a b p q

  pub loads_one : (a b : Loaded) → Loads v pass a → Loads v pass b → a ≡ b
  loads_one a b p q = from_one (v []) a b p q
