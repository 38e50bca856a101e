use Rattle.std.proofs.Common.{◌≡◌, ◌≤◌, length, Some, string_bytes, ◌∙◌, ap}
use Rattle.std.proofs.lemmas.Result.{IfOk-weaker}
use Rattle.plain_tree.specs.Shown.{shown_path}
use Rattle.plain_tree.specs.Reading.{read_path}
use Rattle.plain_tree.proofs.ReadsBack.{reads_back}
use Rattle.plain_tree.proofs.path.PlainPath.shown.Goals as goal

pub returns-clause-reads_back : goal.returns-clause-reads_back
returns-clause-reads_back c =
    IfOk-weaker c.shown_names.result (λ text. string_bytes text ≡ shown_path c.names.result.now)
    (λ text. length c.args.self.now ≤ 64 → read_path (string_bytes text) ≡ Some c.args.self.now)
    (λ text value small.
    ap read_path (value ∙ ap shown_path c.names.ensures.value) ∙ reads_back c.args.self.now c.names.ensures.named small)
    c.shown_names.ensures
