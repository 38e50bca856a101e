use Rattle.std.proofs.Common.{ap, map, string_bytes, ◌∙◌}
use Rattle.command_words.specs.Commands.{command_by}
use Rattle.command_words.specs.Requests.{Request}
use Rattle.command_words.proofs.WrittenCommands.{has_texts, is_small}
use Rattle.command_words.proofs.commands.Command.from_words.Goals as goal

pub returns-in-Some-clause-texts : goal.returns-in-Some-clause-texts
returns-in-Some-clause-texts c =
    has_texts c.in-Some.request (map (λ s. string_bytes s) c.args.words.now) c.command.result
    (rw c.in-Some.is at c.in_ok-request.ensures.is) (rw c.in-Some.is at c.in_ok-request.ensures.written) (c.command.ensures ∙ ap (λ (r : Request). command_by r.row.verb r.values) c.request.view_is)

pub returns-in-Some-clause-small : goal.returns-in-Some-clause-small
returns-in-Some-clause-small c =
    is_small c.in-Some.request (map (λ s. string_bytes s) c.args.words.now) c.command.result
    (rw c.in-Some.is at c.in_ok-request.ensures.is) (rw c.in-Some.is at c.in_ok-request.ensures.written) (c.command.ensures ∙ ap (λ (r : Request). command_by r.row.verb r.values) c.request.view_is)
