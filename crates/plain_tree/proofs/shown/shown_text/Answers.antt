use Rattle.std.proofs.Common.{subst, sym, arith}
use Rattle.std.specs.Str.{IsUtf8}
use Rattle.plain_tree.proofs.Utf8.{IsUtf8-shown}
use Rattle.plain_tree.proofs.shown.shown_text.Goals as goal

pub unwrap-requires : goal.unwrap-requires
unwrap-requires c =
    c.from_utf8.ensures.succeeds (subst IsUtf8 (sym c.in_ok-shown.ensures) (IsUtf8-shown c.args.bytes.now (λ k. omega (arith, c.type_inv.bytes k))))
