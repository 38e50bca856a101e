use Rattle.std.proofs.Common.{◌≡◌, ◌∙◌, ◌<◌, ◌≤◌, Ok, length, sym, ap, subst, arith}
use Rattle.folder_spec.specs.View.{FileOf}
use Rattle.vault_read.specs.Contents.{Suits}
use Rattle.vault_read.proofs.GivenAnswers.{answered_fault, answered_gives, answered_ok, answered_well}
use Rattle.vault_read.proofs.reader.ContentReader.next.Goals as goal

pub returns-clause-suits : goal.returns-clause-suits
returns-clause-suits g c = λ v seen.
    let r = rw (← c.self.view_is) at (c.requires v seen) in
    (r.0, r.1, (c.in_ok-given.ensures.gives v seen r.0 r.1 r.2).0)

pub returns-clause-gives : goal.returns-clause-gives
returns-clause-gives g c =
    rw (← c.self.view_is)
    (λ v seen bytes file.
    let d = c.self.inside.decoder in
    let r = rw (← c.self.view_is) at (c.requires v seen) in
    let same : r.0 ≡ bytes = (let both : FileOf r.0 ≡ FileOf bytes = sym r.1 ∙ file in cc both) in
    let s : Suits d bytes = subst (Suits d) same r.2 in
    answered_gives c.self.inside.at bytes c.next_given.new.out d c.next_given.new.decoder c.in_ok-given.given c.answer_of.result c.answer_of.ensures
    (λ n is. (c.in_ok-given.ensures.size n (ap Ok is)).0) (c.in_ok-given.ensures.gives v seen bytes file s).1)

pub returns-clause-size : goal.returns-clause-size
returns-clause-size g c =
    answered_ok c.self.inside.at (λ n. n ≤ length c.next_given.new.out) c.in_ok-given.given c.answer_of.result c.answer_of.ensures
    (λ n is. (c.in_ok-given.ensures.size n (ap Ok is)).1) (omega arith)

pub returns-clause-number : goal.returns-clause-number
returns-clause-number g c =
    rw (← c.self.view_is)
    (answered_ok c.self.inside.at (λ n. 0 < n → c.self.inside.decoder.number < c.next_given.new.decoder.number) c.in_ok-given.given c.answer_of.result c.answer_of.ensures
    (λ n is some. (c.in_ok-given.ensures.size n (ap Ok is)).2) (λ none. absurd (omega arith)))

pub returns-clause-fault : goal.returns-clause-fault
returns-clause-fault g c =
    rw (← c.self.view_is) (answered_fault c.self.inside.at c.in_ok-given.given c.answer_of.result c.answer_of.ensures)

pub returns-clause-looks : goal.returns-clause-looks
returns-clause-looks g c = record {
  told = c.in_ok-given.ensures.told;
  blames = record {
    grows = c.in_ok-given.ensures.counts;
    rose = λ failed. absurd (answered_well c.self.inside.at c.in_ok-given.given c.answer_of.result c.answer_of.ensures failed);
  };
}
