-- Names that a rule brings to another form on the way from one vault into another: by `Same` each name stays as it is; by `Nfc` a name
-- that is UTF-8 comes to Unicode's normalization form C, and any other stays as it is.
use Rattle.std.specs.Prelude.{◌≢◌, ℕ, List, map, if◌then◌else◌, encode_utf8_all, AllPairs}
use Rattle.std.specs.List.Sorted.{IsPermutation}
use Rattle.std.specs.Str.{is_utf8, chars}
use Rattle.std.specs.declared.cmp.Ordering.TheVariants.{Less}
use Rattle.unicode_normalization.specs.Forms.{nfc}
use Rattle.plain_tree.specs.Names.{Path}
use Rattle.plain_tree.specs.Order.{path_cmp}
use Rattle.plain_tree.specs.declared.name_map.NameMap.{NameMap}
use Rattle.plain_tree.specs.declared.name_map.NameMap.TheVariants.{Same, Nfc}

-- what the rule makes of a name, which may be no name
unfoldable pub mapped_name : NameMap → List ℕ → List ℕ
mapped_name Same name = name
mapped_name Nfc name = if is_utf8 name then encode_utf8_all (nfc (chars name)) else name

-- and of each name of a path
abbrev pub mapped_path : NameMap → Path → Path
mapped_path names path = map (mapped_name names) path

-- these paths so, in order of the new ones
pub record AreMapped (names : NameMap) (paths mapped : List Path) : Type 0 where
  pub same : IsPermutation (map (mapped_path names) paths) mapped
  pub ordered : AllPairs (λ (p q : Path). path_cmp q p ≢ Less) mapped

-- no two of these paths come to one
abbrev pub StayApart : NameMap → List Path → Type 0
StayApart names paths = AllPairs (λ (p q : Path). p ≢ q) (map (mapped_path names) paths)
