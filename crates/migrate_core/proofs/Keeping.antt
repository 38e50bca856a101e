-- What stands in a vault stays there while calls only bring something to it, and so its passphrase opens it still.
use Rattle.std.proofs.Common.{◌≡◌, ◌≢◌, ◌⊎◌, ◌++◌, ◌∷◌, [], append-nil, ℕ, ◌<◌, Bool, true, false, List, length, take, nat_le, None, is_some, Result, Ok, Err, inl, inr, refl, sym, ap, subst, ◌∙◌, IsTrue, ◌&&◌, not}
use Rattle.std.specs.Prelude.{MatchResult}
use Rattle.folder_spec.specs.Event.{Allowed, Append, Call, Create, Denied, Done, Event, Fell, IsFree, MakeDir, Outcome, RemoveDir, RemoveFile, Rename, Settle, Sync, Told, after, changed, outcome_state}
use Rattle.folder_spec.specs.Moments.{EachEvent, WasAllowed, WasAllowedBy, Went, run}
use Rattle.folder_spec.specs.Path.{Path, below}
use Rattle.folder_spec.specs.Region.{IsAsBefore, apart_from_both, at_or_below}
use Rattle.folder_spec.specs.Seen.{seen}
use Rattle.folder_spec.specs.State.{HasFile, IsSound, Node, State, moved, present}
use Rattle.folder_spec.specs.View.{FileOf, Folder, Found, NoEntry, Special, View, found}
use Rattle.folder_spec.specs.declared.Spot.{Spot}
use Rattle.folder_spec.specs.declared.Spot.TheVariants.{Nothing, Directory, FileNode, Odd}
use Rattle.folder_spec.proofs.Edits.{additions_keep}
use Rattle.folder_spec.proofs.Moments.{went_to}
use Rattle.folder_spec.proofs.Paths.{begins_or_not, below-append, below-apart}
use Rattle.folder_spec.proofs.Sound.{above_is_directory, changed_sound, fallen_sound}
use Rattle.folder_spec.proofs.Tables.{last_of-push, moved-other, present_is_table}
use Rattle.migrate_core.specs.Moving.{OnlyBrings}
use Rattle.cryptomator_conf.specs.Vault.{vault_in}
use Rattle.cryptomator_conf.specs.declared.conf.MasterFile.{MasterFile}
use Rattle.cryptomator_conf.specs.declared.conf.VaultFile.{VaultFile}
use Rattle.cryptomator_conf.specs.declared.fault.CmConfFault.{CmConfFault}
use Rattle.vault_spec.specs.Cryptomator.{CmVault, cm_format, cm_role}
use Rattle.vault_spec.specs.Findings.{IsClean}
use Rattle.vault_spec.specs.Format.{is_file}
use Rattle.vault_spec.specs.Vault.{BadSignature, CmRefused, Cryptomator, Either, IsVault, LoadsBy, LoadsCm, LoadsFrom, LoadsGo, Missing, OfFile, TestsCm, TestsGo, TooLarge, UnlocksCm, Vault, WrongKind, WrongPass, cm_vault, format_of, go_conf, master_file, vault_file}
use Rattle.vault_spec.specs.declared.Finding.TheVariants.{ExtraEntry}

-- ---- one call

inside : (root rest : Path) → IsTrue (at_or_below root (root ++ rest))
inside root rest = ap is_some (below-append root rest)

outside : (root p q : Path) → below root p ≡ None → IsTrue (at_or_below root q) → p ≢ q
outside root p q none within same = let no : false ≡ true = sym (ap is_some (subst (λ x. below root x ≡ None) same none)) ∙ within in cc

clear : (root old q : Path) → below root old ≡ None → below old root ≡ None → IsTrue (at_or_below root q) → below old q ≡ None
clear root old q one other within = elim (begins_or_not root q) [
  | inl it ↦ subst (λ x. below old x ≡ None) (sym it.1) (below-apart old root it.0 other one)
  | inr none ↦ let no : false ≡ true = sym (ap is_some none) ∙ within in cc
]

-- a file that is put in the place of another isn't above what stands
not_above : (s : State) (new q : Path) → IsSound s → HasFile (present s) new → present s q ≢ Nothing → new ≢ q → below new q ≡ None
not_above s new q sound file stands apart = elim (begins_or_not new q) [
  | inl it ↦ absurd (by_rest it.0 it.1)
  | inr none ↦ none
]
  where
    by_rest : (rest : Path) → q ≡ new ++ rest → ⊥
    by_rest [] same = apart (sym (same ∙ append-nil new))
    by_rest (part ∷ rest) same =
        let directory : present s new ≡ Directory = above_is_directory s.made (present s) (sound.tables (present s) (present_is_table s)) new part rest (λ none. stands (ap (present s) same ∙ none)) in
        let other : FileNode file.0 ≡ Directory = sym file.1 ∙ directory in cc

-- what stands at the root or below it stays
kept_by : (work : Path) (root : Path) (s : State) (call : Call) (rest : Path) → IsSound s → Allowed s call → OnlyBrings work root s call → present s (root ++ rest) ≢ Nothing → present (changed s call) (root ++ rest) ≡ present s (root ++ rest)
kept_by work root s (MakeDir p) rest sound allowed brings stands = additions_keep (at_or_below root) s (MakeDir p) sound allowed tt (root ++ rest) (inside root rest) stands
kept_by work root s (Create p) rest sound allowed brings stands = additions_keep (at_or_below root) s (Create p) sound allowed (λ q within. outside root p q brings within) (root ++ rest) (inside root rest) stands
kept_by work root s (Append p piece) rest sound allowed brings stands = additions_keep (at_or_below root) s (Append p piece) sound allowed tt (root ++ rest) (inside root rest) stands
kept_by work root s (Sync p) rest sound allowed brings stands = additions_keep (at_or_below root) s (Sync p) sound allowed tt (root ++ rest) (inside root rest) stands
kept_by work root s Settle rest sound allowed brings stands = additions_keep (at_or_below root) s Settle sound allowed tt (root ++ rest) (inside root rest) stands
kept_by work root s (RemoveFile p) rest sound allowed brings stands = additions_keep (at_or_below root) s (RemoveFile p) sound allowed (λ q within. outside root p q brings within) (root ++ rest) (inside root rest) stands
kept_by work root s (RemoveDir p) rest sound allowed brings stands = additions_keep (at_or_below root) s (RemoveDir p) sound allowed (λ q within. outside root p q brings within) (root ++ rest) (inside root rest) stands
kept_by work root s (Rename old new) rest sound allowed brings stands = by_place allowed.3
  where
    by_place : IsFree (present s) new ⊎ (HasFile (present s) old × HasFile (present s) new) → present (changed s (Rename old new)) (root ++ rest) ≡ present s (root ++ rest)
    by_place (inl free) =
        additions_keep (at_or_below root) s (Rename old new) sound allowed ((λ q within. clear root old q brings.0 brings.1 within), free) (root ++ rest) (inside root rest) stands
    by_place (inr files) =
        let apart : new ≢ root ++ rest = λ same. elim brings.2 [
          | inl none ↦ outside root new (root ++ rest) none (inside root rest) same
          | inr comes ↦ let both : FileNode files.1.0 ≡ Nothing = sym files.1.1 ∙ comes.1.0 in cc
        ] in
        ap (λ w. w (root ++ rest)) (last_of-push s.kept s.later (moved (present s) old new))
        ∙ moved-other (present s) old new (root ++ rest) (not_above s new (root ++ rest) sound files.1 stands apart) (clear root old (root ++ rest) brings.0 brings.1 (inside root rest))

-- ---- some calls

kept_outcome : (work : Path) (root : Path) (s : State) (call : Call) (outcome : Outcome) (rest : Path) → IsSound s → WasAllowedBy s call outcome → OnlyBrings work root s call → present s (root ++ rest) ≢ Nothing
    → present (outcome_state s call outcome) (root ++ rest) ≡ present s (root ++ rest)
kept_outcome work root s call Done rest sound allowed brings stands = kept_by work root s call rest sound allowed brings stands
kept_outcome work root s (Append p piece) (Fell added) rest sound allowed brings stands = kept_by work root s (Append p (take added piece)) rest sound allowed tt stands
kept_outcome work root s (MakeDir p) (Fell added) rest sound allowed brings stands = refl
kept_outcome work root s (Create p) (Fell added) rest sound allowed brings stands = refl
kept_outcome work root s (Sync p) (Fell added) rest sound allowed brings stands = refl
kept_outcome work root s Settle (Fell added) rest sound allowed brings stands = refl
kept_outcome work root s (Rename old new) (Fell added) rest sound allowed brings stands = refl
kept_outcome work root s (RemoveFile p) (Fell added) rest sound allowed brings stands = refl
kept_outcome work root s (RemoveDir p) (Fell added) rest sound allowed brings stands = refl
kept_outcome work root s call Denied rest sound allowed brings stands = refl

sound_after : (s : State) (call : Call) (outcome : Outcome) → IsSound s → WasAllowedBy s call outcome → IsSound (outcome_state s call outcome)
sound_after s call Done sound allowed = changed_sound s call sound allowed
sound_after s call (Fell added) sound allowed = fallen_sound s call added sound allowed
sound_after s call Denied sound allowed = sound

kept_run : (work : Path) (root rest : Path) (s : State) (events : List Event) → IsSound s → EachEvent (λ s' e. OnlyBrings work root s' e.call) s events → EachEvent WasAllowed s events → present s (root ++ rest) ≢ Nothing
    → present (run s events) (root ++ rest) ≡ present s (root ++ rest)
kept_run work root rest s [] sound brings allowed stands = refl
kept_run work root rest s (e ∷ events) sound brings allowed stands =
    let once : present (after s e) (root ++ rest) ≡ present s (root ++ rest) = kept_outcome work root s e.call e.outcome rest sound allowed.0 brings.0 stands in
    kept_run work root rest (after s e) events (sound_after s e.call e.outcome sound allowed.0) brings.1 allowed.1 (λ none. stands (sym once ∙ none)) ∙ once

-- ---- what is seen

same_found : (a b : State) (q : Path) → IsSound a → ((n : ℕ) → n < a.made → b.nodes n ≡ a.nodes n) → present b q ≡ present a q → seen b q ≡ seen a q
same_found a b q sound nodes same =
    ap (found (λ n. (b.nodes n).now)) same ∙ by_spot (present a q) (λ n here. (sound.tables (present a) (present_is_table a)).is_made q n here)
  where
    by_spot : (x : Spot) → ((n : ℕ) → x ≡ FileNode n → n < a.made) → found (λ n. (b.nodes n).now) x ≡ found (λ n. (a.nodes n).now) x
    by_spot Nothing made = refl
    by_spot Directory made = refl
    by_spot Odd made = refl
    by_spot (FileNode n) made = ap (λ (node : Node). FileOf node.now) (nodes n (made n refl))

pub still_seen : (work target rest : Path) (a b : Told) → IsSound a.state → Went (IsAsBefore (apart_from_both work target) a.state) (λ s e. OnlyBrings work target s e.call) a b
    → seen a.state (target ++ rest) ≢ NoEntry → seen b.state (target ++ rest) ≡ seen a.state (target ++ rest)
still_seen work target rest a b sound went stands =
    same_found a.state b.state (target ++ rest) sound (went_to (IsAsBefore (apart_from_both work target) a.state) (λ s e. OnlyBrings work target s e.call) a b went).nodes
    (ap (λ (s : State). present s (target ++ rest)) went.state ∙ kept_run work target rest a.state went.events sound went.each went.allowed (λ none. stands (ap (found (λ n. (a.state.nodes n).now)) none)))

-- ---- what the passphrase opens

first_of : (b : Bool) (A B : Type 0) → (B → ⊥) → Either b A B → A
first_of true A B none it = it
first_of false A B none it = absurd (none it)

-- a file that a vault was opened by is there
opened_by : (vault : Vault) (at : Path) (there : Found) (next : List ℕ → Type 0) → OfFile at there (Ok vault) next → (bytes : List ℕ) × next bytes
opened_by vault at NoEntry next it = cc
opened_by vault at Folder next it = cc
opened_by vault at Special next it = cc
opened_by vault at (FileOf bytes) next it = (bytes, first_of (nat_le (length bytes) 65536) (next bytes) (Ok vault ≡ Err (TooLarge at)) (λ same. cc) it)

not_missing : (vault : Vault) (at : Path) (there : Found) (next : List ℕ → Type 0) → OfFile at there (Ok vault) next → there ≢ NoEntry
not_missing vault at there next it none = let no : Ok vault ≡ Err (Missing at) = subst (λ x. OfFile at x (Ok vault) next) none it in cc

abbrev IsCm : Vault → Type 0
IsCm vault = (cm : CmVault) × (vault ≡ Cryptomator cm)

tested_cm : (vault : Vault) (master_bytes vault_bytes pass : List ℕ) → TestsCm master_bytes vault_bytes pass (Ok vault) → IsCm vault
tested_cm vault master_bytes vault_bytes pass tests = by_master tests.0 tests.2
  where
    by_keys : (master : MasterFile) (file : VaultFile) → UnlocksCm master file pass (Ok vault) → IsCm vault
    by_keys master file (inr none) = let no : Ok vault ≡ Err WrongPass = none.1 in cc
    by_keys master file (inl it) = elim it.3 [
      | inl signed ↦ let same : Ok vault ≡ Ok (Cryptomator (cm_vault it.0 file)) = signed.1 in (cm_vault it.0 file, cc)
      | inr other ↦ let no : Ok vault ≡ Err BadSignature = other.1 in cc
    ]

    by_file : (master : MasterFile) (read : Result VaultFile CmConfFault) → MatchResult read (λ file. UnlocksCm master file pass (Ok vault)) (λ fault. Ok vault ≡ Err (CmRefused vault_file fault)) → IsCm vault
    by_file master (Ok file) follows = by_keys master file follows
    by_file master (Err fault) follows = cc

    by_master : (read : Result MasterFile CmConfFault)
        → MatchResult read (λ master. MatchResult (vault_in vault_bytes) (λ file. UnlocksCm master file pass (Ok vault)) (λ fault. Ok vault ≡ Err (CmRefused vault_file fault))) (λ fault. Ok vault ≡ Err (CmRefused master_file fault))
        → IsCm vault
    by_master (Ok master) follows = by_file master (vault_in vault_bytes) follows
    by_master (Err fault) follows = cc

loaded_cm : (v : View) (pass : List ℕ) (vault : Vault) → LoadsCm v pass (Ok vault) → IsCm vault
loaded_cm v pass vault loads =
    let master = opened_by vault master_file (v master_file) (λ master_bytes. OfFile vault_file (v vault_file) (Ok vault) (λ vault_bytes. TestsCm master_bytes vault_bytes pass (Ok vault))) loads in
    let file = opened_by vault vault_file (v vault_file) (λ vault_bytes. TestsCm master.0 vault_bytes pass (Ok vault)) master.1 in
    tested_cm vault master.0 file.0 pass file.1

-- a clean vault of Cryptomator has no configuration of gocryptfs
no_other : (cm : CmVault) (w : View) → IsClean (cm_format cm) w → is_file (w go_conf) ≡ false
no_other cm w clean = by_found (w go_conf) refl
  where
    by_found : (there : Found) → w go_conf ≡ there → is_file there ≡ false
    by_found NoEntry is = refl
    by_found Folder is = refl
    by_found Special is = refl
    by_found (FileOf bytes) is = absurd (clean ExtraEntry go_conf refl (inr (ap (λ there. cm_role go_conf there) is)))

module _ (v w : View) (pass : List ℕ) (vault : Vault) (keeps : (at : Path) → v at ≢ NoEntry → w at ≡ v at) where
  go_kept : LoadsGo v pass (Ok vault) → LoadsGo w pass (Ok vault)
  go_kept loads =
      subst (λ there. OfFile go_conf there (Ok vault) (λ bytes. TestsGo bytes pass (Ok vault)))
      (sym (keeps go_conf (not_missing vault go_conf (v go_conf) (λ bytes. TestsGo bytes pass (Ok vault)) loads))) loads

  cm_kept : LoadsCm v pass (Ok vault) → LoadsCm w pass (Ok vault)
  cm_kept loads =
      let next : Found → List ℕ → Type 0 = λ there master_bytes. OfFile vault_file there (Ok vault) (λ vault_bytes. TestsCm master_bytes vault_bytes pass (Ok vault)) in
      let master = opened_by vault master_file (v master_file) (next (v vault_file)) loads in
      let same_master = keeps master_file (not_missing vault master_file (v master_file) (next (v vault_file)) loads) in
      let same_file = keeps vault_file (not_missing vault vault_file (v vault_file) (λ vault_bytes. TestsCm master.0 vault_bytes pass (Ok vault)) master.1) in
      subst (λ there. OfFile master_file there (Ok vault) (next (w vault_file))) (sym same_master)
      (subst (λ there. OfFile master_file (v master_file) (Ok vault) (next there)) (sym same_file) loads)

  no_go : (go : Found) → is_file go ≡ false → v go_conf ≡ go → LoadsGo v pass (Ok vault) → ⊥
  no_go NoEntry file is loads = let no : Ok vault ≡ Err (Missing go_conf) = subst (λ there. OfFile go_conf there (Ok vault) (λ bytes. TestsGo bytes pass (Ok vault))) is loads in cc
  no_go Folder file is loads = let no : Ok vault ≡ Err (WrongKind go_conf) = subst (λ there. OfFile go_conf there (Ok vault) (λ bytes. TestsGo bytes pass (Ok vault))) is loads in cc
  no_go Special file is loads = let no : Ok vault ≡ Err (WrongKind go_conf) = subst (λ there. OfFile go_conf there (Ok vault) (λ bytes. TestsGo bytes pass (Ok vault))) is loads in cc
  no_go (FileOf bytes) file is loads = cc

  -- without a configuration of gocryptfs
  by_other : (go cm : Found) → is_file go ≡ false → v go_conf ≡ go → v vault_file ≡ cm → IsClean (format_of vault) w → Either (is_file cm) (LoadsCm v pass (Ok vault)) (LoadsGo v pass (Ok vault))
      → LoadsBy (w go_conf) (w vault_file) w pass (Ok vault)
  by_other go NoEntry file go_is cm_is clean loads = absurd (no_go go file go_is loads)
  by_other go Folder file go_is cm_is clean loads = absurd (no_go go file go_is loads)
  by_other go Special file go_is cm_is clean loads = absurd (no_go go file go_is loads)
  by_other go (FileOf bytes) file go_is cm_is clean loads =
      let cm = loaded_cm v pass vault loads in
      let first : is_file (w go_conf) ≡ false = no_other cm.0 w (subst (λ x. IsClean (format_of x) w) cm.1 clean) in
      let second : w vault_file ≡ FileOf bytes = keeps vault_file (λ none. let no : FileOf bytes ≡ NoEntry = sym cm_is ∙ none in cc) ∙ cm_is in
      let which : not (is_file (w go_conf)) && is_file (w vault_file) ≡ true = ap (λ b. not b && is_file (w vault_file)) first ∙ ap (λ there. is_file there) second in
      subst (λ b. Either b (LoadsCm w pass (Ok vault)) (LoadsGo w pass (Ok vault))) (sym which) (cm_kept loads)

  -- by what stood at the two configurations
  by_kept : (go cm : Found) → v go_conf ≡ go → v vault_file ≡ cm → IsClean (format_of vault) w → LoadsBy go cm v pass (Ok vault) → LoadsBy (w go_conf) (w vault_file) w pass (Ok vault)
  by_kept (FileOf bytes) cm go_is cm_is clean loads =
      subst (λ there. LoadsBy there (w vault_file) w pass (Ok vault)) (sym (keeps go_conf (λ none. let no : FileOf bytes ≡ NoEntry = sym go_is ∙ none in cc) ∙ go_is)) (go_kept loads)
  by_kept NoEntry cm go_is cm_is clean loads = by_other NoEntry cm refl go_is cm_is clean loads
  by_kept Folder cm go_is cm_is clean loads = by_other Folder cm refl go_is cm_is clean loads
  by_kept Special cm go_is cm_is clean loads = by_other Special cm refl go_is cm_is clean loads

  by_root : (root : Found) → v [] ≡ root → IsClean (format_of vault) w → LoadsFrom root v pass (Ok vault) → LoadsFrom (w []) w pass (Ok vault)
  by_root NoEntry is clean loads = cc
  by_root (FileOf bytes) is clean loads = cc
  by_root Special is clean loads = cc
  by_root Folder is clean loads =
      subst (λ there. LoadsFrom there w pass (Ok vault)) (sym (keeps [] (λ none. let no : Folder ≡ NoEntry = sym is ∙ none in cc) ∙ is))
      (by_kept (v go_conf) (v vault_file) refl refl clean loads)

  -- a vault of which all stays is opened as it was, where it is clean
  pub still_opens : IsClean (format_of vault) w → IsVault v pass vault → IsVault w pass vault
  still_opens clean opens = by_root (v []) refl clean opens
