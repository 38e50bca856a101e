use Rattle.std.proofs.Common.{◌++◌, arith, string_bytes, ap, ◌∙◌}
use Rattle.std.specs.Fmt.{decimal}
use Rattle.plain_tree.specs.Shown.{shown_path}
use Rattle.command_answers.specs.Messages.{name_numbered}
use Rattle.checking_commands.specs.Fsck.{fault_part}
use Rattle.checking_commands.proofs.Lines.{line_told, told_where_ok}
use Rattle.checking_commands.proofs.checking.push_finding.Goals as goal

pub returns : goal.returns
returns c =
    let finding = c.args.finding.now in
    let before = string_bytes c.push_fault.new.text in
    told_where_ok c.push.result before _ _ _ c.push.ensures.bytes
    (ap (λ last. before ++ last) (c.push.ensures.ascii (omega arith))
    ∙ line_told (decimal finding.number) (name_numbered finding.number) (shown_path finding.at) (fault_part finding.fault) (string_bytes c.args.text.now)
    c.as_str.result.now c.finding_name-name.result.now c.as_str-2.result.now (string_bytes c.push_str.new.self) (string_bytes c.push_str-2.new.self) before
    (c.as_str.ensures.value ∙ c.in_ok-format.ensures.ok) c.finding_name-name.ensures (c.as_str-2.ensures.value ∙ c.in_ok-shown_folder.ensures)
    c.in_ok-push_str.ensures.bytes c.in_ok-push_str-2.ensures.bytes c.in_ok-push_fault.ensures)
