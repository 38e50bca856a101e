use Rattle.std.proofs.Common.{◌≡◌, ◌==◌, length, false, lit<, arith, sym}
use Rattle.std.proofs.lemmas.Iterator.Consumers.{count_from_yields_List}
use Rattle.std.proofs.lemmas.Iterator.Splits.{YieldsList-from_str_split}
use Rattle.plain_tree.proofs.Writing.{read_path-many, read_path-few}
use Rattle.plain_tree.proofs.reading.read_path.Goals as goal

pub returns-then-count-gt-MAX_PARTS : goal.returns-then-count-gt-MAX_PARTS
returns-then-count-gt-MAX_PARTS c =
    let count =
    count_from_yields_List c.split.result c.count.result c.count.ensures.ran
    (YieldsList-from_str_split 47 c.args.text.now (lit< tt) c.split.ensures.text c.split.ensures.has_more c.split.ensures.pattern) in
    let some : (length c.args.text.now == 0) ≡ false = cc in
    sym (read_path-many c.args.text.now some (omega (arith, count)))

pub returns : goal.returns
returns c =
    let count =
    count_from_yields_List c.split.result c.count.result c.count.ensures.ran
    (YieldsList-from_str_split 47 c.args.text.now (lit< tt) c.split.ensures.text c.split.ensures.has_more c.split.ensures.pattern) in
    let some : (length c.args.text.now == 0) ≡ false = cc in
    rw (read_path-few c.args.text.now some (omega (arith, count))) c.read_names.ensures
