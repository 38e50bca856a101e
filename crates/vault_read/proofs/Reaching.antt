-- What looking for a plain path says, by what is reached.
use Rattle.std.proofs.Common.{◌≡◌, [], ◌∷◌, ◌++◌, Result, Ok, Err, sym, ap, ◌∙◌, subst, append_assoc, append-nil}
use Rattle.folder_spec.specs.Path.{Path}
use Rattle.folder_spec.specs.View.{View}
use Rattle.plain_tree.specs.Names as plain
use Rattle.vault_spec.specs.Format.{Format, Directory}
use Rattle.vault_spec.specs.Standing.{Standing, Absent, Strange, File, Dir, root_of, standing, standing_from, standing_in}
use Rattle.vault_spec.specs.Find.{Refusal, find, find_from, enter, enter_from, entered, item_there, then_in}
use Rattle.vault_spec.specs.Find as spec
use Rattle.vault_spec.specs.declared.Lack.TheVariants as lacks
use Rattle.vault_faults.specs.declared.fault.FindFault.{FindFault}
use Rattle.vault_faults.specs.declared.fault.FindFault.TheVariants.{NotFound, WrongKind, NoDirKey, NoFolder, Failed, NoMemory}
use Rattle.vault_read.specs.Finding.{Refuses, reached_from}

-- what is reached stands there
pub stands_from : (f : Format) (v : View) (front : plain.Path) (here : Standing) (path : plain.Path) (there : Standing)
    → reached_from f v front here path ≡ Ok there → standing_from f v here path ≡ there
stands_from f v front here [] there e = cc
stands_from f v front Absent (name ∷ rest) there e = cc
stands_from f v front (Strange at) (name ∷ rest) there e = cc
stands_from f v front (File at) (name ∷ rest) there e = cc
stands_from f v front (Dir at (Err lack)) (name ∷ rest) there e = cc
stands_from f v front (Dir at (Ok dir)) (name ∷ rest) there e = stands_from f v (front ++ name ∷ []) (standing_in f v dir name) rest there e

-- and is found, if an item stands there
pub found_from : (f : Format) (v : View) (front : plain.Path) (here : Standing) (path : plain.Path) (there : Standing)
    → reached_from f v front here path ≡ Ok there → find_from f v front here path ≡ item_there (front ++ path) there
found_from f v front here [] there e = let same : here ≡ there = cc in ap (item_there front) same ∙ ap (λ p. item_there p there) (sym (append-nil front))
found_from f v front Absent (name ∷ rest) there e = cc
found_from f v front (Strange at) (name ∷ rest) there e = cc
found_from f v front (File at) (name ∷ rest) there e = cc
found_from f v front (Dir at (Err lack)) (name ∷ rest) there e = cc
found_from f v front (Dir at (Ok dir)) (name ∷ rest) there e =
    found_from f v (front ++ name ∷ []) (standing_in f v dir name) rest there e ∙ ap (λ p. item_there p there) (append_assoc front (name ∷ []) rest)

-- and is entered, if it is a directory with a key and a folder
pub entered_from : (f : Format) (v : View) (front : plain.Path) (here : Standing) (path : plain.Path) (there : Standing)
    → reached_from f v front here path ≡ Ok there → enter_from f v front here path ≡ entered (front ++ path) there
entered_from f v front here [] there e = let same : here ≡ there = cc in ap (entered front) same ∙ ap (λ p. entered p there) (sym (append-nil front))
entered_from f v front Absent (name ∷ rest) there e = cc
entered_from f v front (Strange at) (name ∷ rest) there e = cc
entered_from f v front (File at) (name ∷ rest) there e = cc
entered_from f v front (Dir at (Err lack)) (name ∷ rest) there e = cc
entered_from f v front (Dir at (Ok dir)) (name ∷ rest) there e =
    entered_from f v (front ++ name ∷ []) (standing_in f v dir name) rest there e ∙ ap (λ p. entered p there) (append_assoc front (name ∷ []) rest)

-- a refusal is one whatever was to be answered
pub refused_alike : (T U : Type 0) (root : Path) (refusal : Refusal) (fault : FindFault) → Refuses {T = T} root (Err refusal) fault → Refuses {T = U} root (Err refusal) fault
refused_alike T U root refusal (NotFound path) e = let same : refusal ≡ spec.NotFound path = cc in ap (λ x. Err x) same
refused_alike T U root refusal (WrongKind path) e = let same : refusal ≡ spec.WrongKind path = cc in ap (λ x. Err x) same
refused_alike T U root refusal (NoDirKey path) e = let is = e.2 in let same : refusal ≡ spec.Locked e.0 lacks.NoDirKey = cc is in (e.0, e.1, ap (λ x. Err x) same)
refused_alike T U root refusal (NoFolder path) e = let is = e.2 in let same : refusal ≡ spec.Locked e.0 lacks.NoFolder = cc is in (e.0, e.1, ap (λ x. Err x) same)
refused_alike T U root refusal Failed e = tt
refused_alike T U root refusal NoMemory e = tt

-- where none is refused, the folder failed or memory was refused
pub refused_anyway : (T U : Type 0) (root : Path) (there : T) (found : Result U Refusal) (fault : FindFault) → Refuses {T = T} root (Ok there) fault → Refuses {T = U} root found fault
refused_anyway T U root there found (NotFound path) e = cc
refused_anyway T U root there found (WrongKind path) e = cc
refused_anyway T U root there found (NoDirKey path) e = let is = e.2 in cc is
refused_anyway T U root there found (NoFolder path) e = let is = e.2 in cc is
refused_anyway T U root there found Failed e = tt
refused_anyway T U root there found NoMemory e = tt

-- what follows in a directory that isn't entered is refused alike
pub refused_then : (T : Type 0) (root : Path) (found : Result Directory Refusal) (next : Directory → Result T Refusal) (fault : FindFault)
    → Refuses {T = Directory} root found fault → Refuses {T = T} root (then_in found next) fault
refused_then T root (Err refusal) next fault e = refused_alike Directory T root refusal fault e
refused_then T root (Ok dir) next fault e = refused_anyway Directory T root dir (next dir) fault e

-- a part of the path that doesn't serve
pub refused_find_from : (root : Path) (f : Format) (v : View) (front : plain.Path) (here : Standing) (path : plain.Path) (fault : FindFault)
    → Refuses {T = Standing} root (reached_from f v front here path) fault → Refuses {T = Standing} root (find_from f v front here path) fault
refused_find_from root f v front here [] fault e = refused_anyway Standing Standing root here (item_there front here) fault e
refused_find_from root f v front Absent (name ∷ rest) fault e = e
refused_find_from root f v front (Strange at) (name ∷ rest) fault e = e
refused_find_from root f v front (File at) (name ∷ rest) fault e = e
refused_find_from root f v front (Dir at (Err lack)) (name ∷ rest) fault e = e
refused_find_from root f v front (Dir at (Ok dir)) (name ∷ rest) fault e = refused_find_from root f v (front ++ name ∷ []) (standing_in f v dir name) rest fault e

pub refused_enter_from : (root : Path) (f : Format) (v : View) (front : plain.Path) (here : Standing) (path : plain.Path) (fault : FindFault)
    → Refuses {T = Standing} root (reached_from f v front here path) fault → Refuses {T = Directory} root (enter_from f v front here path) fault
refused_enter_from root f v front here [] fault e = refused_anyway Standing Directory root here (entered front here) fault e
refused_enter_from root f v front Absent (name ∷ rest) fault e = refused_alike Standing Directory root (spec.NotFound front) fault e
refused_enter_from root f v front (Strange at) (name ∷ rest) fault e = refused_alike Standing Directory root (spec.WrongKind front) fault e
refused_enter_from root f v front (File at) (name ∷ rest) fault e = refused_alike Standing Directory root (spec.WrongKind front) fault e
refused_enter_from root f v front (Dir at (Err lack)) (name ∷ rest) fault e = refused_alike Standing Directory root (spec.Locked at lack) fault e
refused_enter_from root f v front (Dir at (Ok dir)) (name ∷ rest) fault e = refused_enter_from root f v (front ++ name ∷ []) (standing_in f v dir name) rest fault e

-- the same from the root
abbrev pub reached : Format → View → plain.Path → Result Standing Refusal
reached f v path = reached_from f v [] (root_of f v) path

pub reached_stands : (f : Format) (v : View) (path : plain.Path) (here : Standing) → reached f v path ≡ Ok here → standing f v path ≡ here
reached_stands f v path here e = stands_from f v [] (root_of f v) path here e

pub refused_find : (root : Path) (f : Format) (v : View) (path : plain.Path) (fault : FindFault) → Refuses {T = Standing} root (reached f v path) fault → Refuses {T = Standing} root (find f v path) fault
unfolding find
refused_find root f v path fault e = refused_find_from root f v [] (root_of f v) path fault e

pub refused_enter : (root : Path) (f : Format) (v : View) (path : plain.Path) (fault : FindFault) → Refuses {T = Standing} root (reached f v path) fault → Refuses {T = Directory} root (enter f v path) fault
unfolding enter
refused_enter root f v path fault e = refused_enter_from root f v [] (root_of f v) path fault e

-- and by what stands at the path's end
pub refused_there : (root : Path) (f : Format) (v : View) (path : plain.Path) (here : Standing) (fault : FindFault) → reached f v path ≡ Ok here
    → Refuses {T = Standing} root (item_there path here) fault → Refuses {T = Standing} root (find f v path) fault
unfolding find
refused_there root f v path here fault e refused = subst (λ x. Refuses {T = Standing} root x fault) (sym (found_from f v [] (root_of f v) path here e)) refused

pub not_entered_there : (root : Path) (f : Format) (v : View) (path : plain.Path) (here : Standing) (fault : FindFault) → reached f v path ≡ Ok here
    → Refuses {T = Directory} root (entered path here) fault → Refuses {T = Directory} root (enter f v path) fault
unfolding enter
not_entered_there root f v path here fault e refused = subst (λ x. Refuses {T = Directory} root x fault) (sym (entered_from f v [] (root_of f v) path here e)) refused
