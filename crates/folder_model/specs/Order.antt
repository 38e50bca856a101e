-- The order of folder paths: part by part, parts by their bytes, a prefix first.
use Rattle.std.specs.Ordering.{nat_cmp}
use Rattle.std.specs.Cmp.Lexicographic.{slice_cmp}
use Rattle.std.specs.declared.cmp.Ordering.{Ordering}
use Rattle.folder_spec.specs.Path.{Part, Path}

abbrev pub part_cmp : Part → Part → Ordering
part_cmp = slice_cmp nat_cmp

abbrev pub path_cmp : Path → Path → Ordering
path_cmp = slice_cmp part_cmp
