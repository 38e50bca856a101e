-- Edits of a view, and calls that publish them: each edit comes at once.
use Rattle.std.specs.Prelude.{◌≡◌, ℕ, Bool, List, [], ◌∷◌, ◌++◌, Option, Some, None, IsTrue, if◌then◌else◌}
use Rattle.std.specs.Str.{bytes_eq}
use Rattle.folder_spec.specs.Path.{Part, Path, below}
use Rattle.folder_spec.specs.State.{FileNode, Table, State, present, IsClean}
use Rattle.folder_spec.specs.View.{Found, NoEntry, Folder, FileOf, View, found, Shows, ShowsAmong}
use Rattle.folder_spec.specs.Region.{apart_from}

-- what comes to stand at a path and below it
pub record Edit : Type 0 where
  pub at : Path
  pub made : View

abbrev pub grafted : View → Edit → Path → Option Path → Found
grafted v e q (Some rest) = e.made rest
grafted v e q None = v q

-- the view after the edit
abbrev pub edited : View → Edit → View
edited v e = λ q. grafted v e q (below e.at q)

-- edits below a root, by their places below it
abbrev pub edit_under : Path → Edit → Edit
edit_under root e = record { at = root ++ e.at; made = e.made }

abbrev pub edits_under : Path → List Edit → List Edit
edits_under root [] = []
edits_under root (e ∷ edits) = edit_under root e ∷ edits_under root edits

-- a file alone
abbrev pub file_view : List ℕ → View
file_view bytes [] = FileOf bytes
file_view bytes (a ∷ rest) = NoEntry

-- a directory without entries
abbrev pub directory_view : View
directory_view [] = Folder
directory_view (a ∷ rest) = NoEntry

-- what these files, each with its name, have under the name
abbrev pub file_among : List (Part × List ℕ) → Part → Found
file_among [] a = NoEntry
file_among (f ∷ files) a = if bytes_eq f.0 a then FileOf f.1 else file_among files a

-- a directory with these files
abbrev pub folder_view : List (Part × List ℕ) → View
folder_view files [] = Folder
folder_view files (a ∷ []) = file_among files a
folder_view files (a ∷ b ∷ rest) = NoEntry

-- a file comes to stand there, in the place of one that may stand there
abbrev pub file_edit : Path → List ℕ → Edit
file_edit at bytes = record { at = at; made = file_view bytes }

-- a directory comes to stand there
abbrev pub directory_edit : Path → Edit
directory_edit at = record { at = at; made = directory_view }

-- a directory with these files comes to stand there
abbrev pub folder_edit : Path → List (Part × List ℕ) → Edit
folder_edit at files = record { at = at; made = folder_view files }

-- the views after the first edit, after the first two, and so on
abbrev pub views_after : View → List Edit → List View
views_after v [] = []
views_after v (e ∷ edits) = edited v e ∷ views_after (edited v e) edits

-- the view after all edits
abbrev pub view_after : View → List Edit → View
view_after v [] = v
view_after v (e ∷ edits) = view_after (edited v e) edits

-- the first region is a part of the second
abbrev pub IsPartOf : (Path → Bool) → (Path → Bool) → Type 0
IsPartOf part whole = (q : Path) → IsTrue (part q) → IsTrue (whole q)

-- the region has nothing at the path or below it
abbrev pub IsOutside : Path → (Path → Bool) → Type 0
IsOutside stage region = IsPartOf region (apart_from stage)

-- What stands at a path shows this view, and its files are clean.
pub record IsStagedView (s : State) (t : Table) (p : Path) (made : View) : Type 0 where
  pub shown : (rest : Path) → found (λ n. (s.nodes n).now) (t (p ++ rest)) ≡ made rest
  pub clean : (rest : Path) (n : ℕ) → t (p ++ rest) ≡ FileNode n → IsClean (s.nodes n)

-- Since s0 these edits are being published in a region, some of them so far. Whatever the tables showed in a part of it, each now
-- shows one of those views or what the present one showed after the first edits.
abbrev pub PublishesIn : (Path → Bool) → List Edit → State → State → Type 0
PublishesIn whole edits s0 s =
    (region : Path → Bool) (views : List View) (v : View) → IsPartOf region whole → ShowsAmong region s0 views → Shows region s0 (present s0) v
    → ShowsAmong region s (views ++ views_after v edits)

-- Since s0 they have been published.
pub record HasPublishedIn (whole : Path → Bool) (edits : List Edit) (s0 s : State) : Type 0 where
  pub publishes : PublishesIn whole edits s0 s
  pub shows : (region : Path → Bool) (v : View) → IsPartOf region whole → Shows region s0 (present s0) v → Shows region s (present s) (view_after v edits)

-- And settled: no directory change is pending.
pub record HasSettledIn (whole : Path → Bool) (edits : List Edit) (s0 s : State) : Type 0 where
  pub published : HasPublishedIn whole edits s0 s
  pub settled : s.later ≡ []

-- the same from a stage, outside of which all is published
abbrev pub Publishes : Path → List Edit → State → State → Type 0
Publishes stage edits s0 s = PublishesIn (apart_from stage) edits s0 s

abbrev pub HasPublished : Path → List Edit → State → State → Type 0
HasPublished stage edits s0 s = HasPublishedIn (apart_from stage) edits s0 s

abbrev pub HasSettled : Path → List Edit → State → State → Type 0
HasSettled stage edits s0 s = HasSettledIn (apart_from stage) edits s0 s
