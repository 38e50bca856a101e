-- Where a content is replaced, a vault stays orderly and loads as it did.
use Rattle.std.proofs.Common.{◌≡◌, ℕ, List, [], sym, ap, ◌∙◌}
use Rattle.folder_spec.specs.Path.{Path, child}
use Rattle.folder_spec.specs.View.{Folder, FileOf, View}
use Rattle.folder_spec.specs.Edit.{edited, file_edit}
use Rattle.vault_spec.specs.Format.{Format}
use Rattle.vault_spec.specs.Staying.{LoadsAlike, ReplacedContentsStayVaults}
use Rattle.vault_spec.specs.Alike.{IsOrderly}
use Rattle.vault_spec.specs.Vault.{go_conf, master_file, vault_file}
use Rattle.vault_spec.proofs.Lawful.{IsLawful}
use Rattle.vault_spec.proofs.Loading.{loads_alike}
use Rattle.vault_spec.proofs.Replacing.{IsReplaced, replaced_elsewhere, step_same, root_same, where_file_stands}
use Rattle.vault_spec.proofs.ReplacedClean.{there_back, led_back}

-- folders stay
folder_on : (f : Format) (lawful : IsLawful f) (v : View) (at : Path) (old bytes : List ℕ) → IsReplaced f lawful v at old → (q : Path) → v q ≡ Folder → edited v (file_edit at bytes) q ≡ Folder
folder_on f lawful v at old bytes r q folder =
    replaced_elsewhere f lawful v at old bytes r q (λ here. let clash : Folder ≡ FileOf old = sym folder ∙ ap v here ∙ r.file in cc) ∙ folder

replaced_orderly : (f : Format) (lawful : IsLawful f) (v : View) (at : Path) (old bytes : List ℕ) → IsReplaced f lawful v at old → IsOrderly f v → IsOrderly f (edited v (file_edit at bytes))
replaced_orderly f lawful v at old bytes r orderly = record {
  root_there = folder_on f lawful v at old bytes r [] orderly.root_there;
  top = orderly.top;
  root = sym (root_same f lawful v at old bytes r) ∙ orderly.root;
  folders = λ p a there. folder_on f lawful v at old bytes r p (orderly.folders p a (there_back f lawful v at old bytes r (child p a) there));
  entered = λ path dir name place lack leads locked.
      orderly.entered path dir name place lack (led_back f lawful v at old bytes r path dir leads)
      (step_same f lawful v at old bytes r path dir name (led_back f lawful v at old bytes r path dir leads) ∙ locked);
  one_path = λ path other dir one two. orderly.one_path path other dir (led_back f lawful v at old bytes r path dir one) (led_back f lawful v at old bytes r other dir two);
  own_folder = λ dir other one two. orderly.own_folder dir other (one.0, led_back f lawful v at old bytes r one.0 dir one.1) (two.0, led_back f lawful v at old bytes r two.0 other two.1);
}

replaced_loads : (f : Format) (lawful : IsLawful f) (v : View) (at : Path) (old bytes : List ℕ) → IsReplaced f lawful v at old → v [] ≡ Folder → LoadsAlike v (edited v (file_edit at bytes))
replaced_loads f lawful v at old bytes r there = loads_alike v v (edited v (file_edit at bytes)) (λ pass vault loads. loads) (record {
  there = there;
  still = folder_on f lawful v at old bytes r [] there;
  gocryptfs = replaced_elsewhere f lawful v at old bytes r go_conf r.no_configuration.gocryptfs;
  master = replaced_elsewhere f lawful v at old bytes r master_file r.no_configuration.master;
  vault = replaced_elsewhere f lawful v at old bytes r vault_file r.no_configuration.vault;
})

pub contents_stay : (f : Format) → IsLawful f → ReplacedContentsStayVaults f
contents_stay f lawful v path at bytes orderly stands =
    where_file_stands f lawful v path at (IsOrderly f (edited v (file_edit at bytes)) × LoadsAlike v (edited v (file_edit at bytes))) orderly.folders stands
    (λ old r. (replaced_orderly f lawful v at old bytes r orderly, replaced_loads f lawful v at old bytes r orderly.root_there))
