use Rattle.std.proofs.Common.{refl, sym, ◌∙◌}
use Rattle.std.proofs.lemmas.Bool.{false≢true}
use Rattle.gcm_mode.specs.Gcm.{encrypted}
use Rattle.gcm_mode.proofs.Modes.{tag-is, tag-opened, opened-is}
use Rattle.gcm_mode.proofs.Gcm.unseal.Goals as goal

pub returns-then-not-same_bytes-clause-right_tag : goal.returns-then-not-same_bytes-clause-right_tag
returns-then-not-same_bytes-clause-right_tag c =
    let tag = tag-is c.args.self.now c.args.iv.now c.args.ad.now _ _ _ _ c.pre_counter-counter.ensures c.stream-stream.ensures.first c.tag.ensures in
    (λ e. absurd (false≢true e), λ e. let same = c.same_bytes.ensures.1 (tag ∙ sym e) in cc)

pub returns-then-not-same_bytes-clause-bad_tag : goal.returns-then-not-same_bytes-clause-bad_tag
returns-then-not-same_bytes-clause-bad_tag c = λ plain opens.
    let tag = tag-is c.args.self.now c.args.iv.now c.args.ad.now _ _ _ _ c.pre_counter-counter.ensures c.stream-stream.ensures.first c.tag.ensures in
    let same = c.same_bytes.ensures.1 (tag ∙ sym (tag-opened _ _ _ _ plain opens)) in
    cc

pub returns-clause-right_tag : goal.returns-clause-right_tag
returns-clause-right_tag c =
    let tag = tag-is c.args.self.now c.args.iv.now c.args.ad.now _ _ _ _ c.pre_counter-counter.ensures c.stream-stream.ensures.first c.tag.ensures in
    (λ e. sym (c.same_bytes.ensures.0 c.if-not-same_bytes.false) ∙ tag, λ e. refl)

pub returns-clause-opened : goal.returns-clause-opened
unfolding encrypted
returns-clause-opened c =
    let tag = tag-is c.args.self.now c.args.iv.now c.args.ad.now _ _ _ _ c.pre_counter-counter.ensures c.stream-stream.ensures.first c.tag.ensures in
    let right = sym tag ∙ c.same_bytes.ensures.0 c.if-not-same_bytes.false in
    let opened = rw c.pre_counter-counter.ensures at c.add_stream.ensures in
    opened-is c.args.self.now _ _ _ _ _ right opened
