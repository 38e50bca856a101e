use Rattle.std.proofs.Common.{◌≡◌, ◌↔◌, ◌++◌, ◌∙◌, length, take, sym, ap, subst, Contains, option_to_list, arith}
use Rattle.std.specs.List.{filter_map}
use Rattle.std.proofs.Math.Seq.{take-length}
use Rattle.vault_check.specs.Contents.{content_of}
use Rattle.vault_check.proofs.Contained.{front_more, one_mapped}
use Rattle.vault_check.proofs.contents.contents_of.Goals as goal

pub loop-item-preserved : goal.loop-item-preserved
loop-item-preserved c =
    let items = c.args.items.now in
    let i = c.loop-item.item-index in
    let x = c.item-item.result in
    c.in_ok-add_content.ensures ∙ ap (λ contents. contents ++ option_to_list (content_of x)) c.loop-item.invariant
    ∙ sym (one_mapped content_of (take i items) x) ∙ ap (filter_map content_of) (sym (front_more items i x c.loop-item-test.true c.item-item.is))

pub returns : goal.returns
returns c = record {
  ordered = c.paths_in_order.ensures.ordered;
  each = λ at.
      let items = c.args.items.now in
      let end : c.loop-item.item-index ≡ length items = omega (arith, c.loop-item-test.false, c.loop-item.auto.item-index-end) in
      let all : c.loop-item.contents.items ≡ filter_map content_of items =
      c.loop-item.invariant ∙ ap (λ n. filter_map content_of (take n items)) end ∙ ap (filter_map content_of) (take-length items) in
      subst (λ contents. Contains c.paths_in_order.result.items at ↔ Contains contents at) all (c.paths_in_order.ensures.same at);
}
