-- A vault loads as it did where its configurations stay.
use Rattle.std.proofs.Common.{◌≡◌, ◌≢◌, ℕ, ◌&&◌, not, List, [], Ok, sym, subst, codes}
use Rattle.folder_spec.specs.View.{NoEntry, Folder, View}
use Rattle.folder_spec.specs.Edit.{Edit, edited}
use Rattle.vault_spec.specs.Format.{Format, is_file}
use Rattle.vault_spec.specs.Staying.{LoadsAlike}
use Rattle.vault_spec.specs.Vault.{Loaded, Either, OfFile, TestsGo, TestsCm, LoadsGo, LoadsCm, LoadsBy, LoadsFrom, go_conf, master_file, vault_file}
use Rattle.vault_spec.proofs.Lawful.{SparesConfiguration}
use Rattle.vault_spec.proofs.Grafts.{edited_entry}
use Rattle.vault_spec.proofs.Places.{IsRooted, top_stays}

-- both roots stand, and the configurations are the same
pub record HaveOneConfiguration (v w : View) : Type 0 where
  pub there : v [] ≡ Folder
  pub still : w [] ≡ Folder
  pub gocryptfs : w go_conf ≡ v go_conf
  pub master : w master_file ≡ v master_file
  pub vault : w vault_file ≡ v vault_file

loads_by : (v w : View) (pass : List ℕ) (answer : Loaded) → HaveOneConfiguration v w → LoadsBy (v go_conf) (v vault_file) v pass answer → LoadsBy (w go_conf) (w vault_file) w pass answer
loads_by v w pass answer same loads =
    subst (λ x. Either (not (is_file x) && is_file (w vault_file)) (LoadsCm w pass answer) (OfFile go_conf x answer (λ bytes. TestsGo bytes pass answer))) (sym same.gocryptfs)
    (subst (λ x. Either (not (is_file (v go_conf)) && is_file x) (OfFile master_file (w master_file) answer (λ master. OfFile vault_file x answer (λ bytes. TestsCm master bytes pass answer))) (LoadsGo v pass answer)) (sym same.vault)
    (subst (λ x. Either (not (is_file (v go_conf)) && is_file (v vault_file)) (OfFile master_file x answer (λ master. OfFile vault_file (v vault_file) answer (λ bytes. TestsCm master bytes pass answer))) (LoadsGo v pass answer))
    (sym same.master) loads))

pub loads_alike : (u v w : View) → LoadsAlike u v → HaveOneConfiguration v w → LoadsAlike u w
loads_alike u v w before same pass vault loads =
    subst (λ x. LoadsFrom x w pass (Ok vault)) (sym same.still)
    (loads_by v w pass (Ok vault) same (subst (λ x. LoadsFrom x v pass (Ok vault)) same.there (before pass vault loads)))

-- an edit at a free place that is no configuration's leaves them
pub edited_loads : (f : Format) (u v : View) (e : Edit) → LoadsAlike u v → IsRooted f v → v e.at ≡ NoEntry → SparesConfiguration e.at → LoadsAlike u (edited v e)
edited_loads f u v e before rooted free spares = loads_alike u v (edited v e) before (record {
  there = rooted.there;
  still = top_stays f v e rooted free;
  gocryptfs = edited_entry v e rooted.folders free [] (codes "gocryptfs.conf") root_there spares.gocryptfs;
  master = edited_entry v e rooted.folders free [] (codes "masterkey.cryptomator") root_there spares.master;
  vault = edited_entry v e rooted.folders free [] (codes "vault.cryptomator") root_there spares.vault;
})
  where
    root_there : v [] ≢ NoEntry
    root_there none = let there : v [] ≡ Folder = rooted.there in cc
