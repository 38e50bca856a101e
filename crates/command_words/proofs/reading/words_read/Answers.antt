use Rattle.std.proofs.Common.{ap, map, sym, subst, ◌∙◌}
use Rattle.command_words.proofs.ValuesRead.{one_more}
use Rattle.command_words.proofs.WrittenValues.{Leads, leads_more}
use Rattle.command_words.specs.Values.{value_by, values_of}
use Rattle.command_words.proofs.reading.words_read.Goals as goal

pub loop-one-preserved : goal.loop-one-preserved
loop-one-preserved c = record {
  all = one_more (value_by c.in-Some.one.now.kind c.in-Some-next_word.word.now) c.in-Some-2.value _ _ _ _ _ c.in_ok-push.ensures.items (sym c.in_ok-value.ensures.is ∙ c.in-Some-2.is)
      (ap (λ shown. values_of (map (λ it. it.kind) shown) (map (λ word. word.now) c.loop-one.words.rest.now)) c.in-Some.ensures.cases.0 ∙ c.in-Some-next_word.ensures) c.loop-one.invariant.all;
  written = leads_more c.in-Some.one.now.kind c.in-Some-2.value _ _ _ _ c.in_ok-push.ensures.items (rw c.in-Some-2.is at c.in_ok-value.ensures.written)
      (subst (λ shown. Leads (map (λ it. it.kind) c.args.shown.now) (map (λ it. it.kind) shown) c.loop-one.values.items) c.in-Some.ensures.cases.0 c.loop-one.invariant.written);
}
