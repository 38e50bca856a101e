use Rattle.std.proofs.Common.{◌≡◌, drop}
use Rattle.gocrypt_conf.specs.Tests.{first_outside}
use Rattle.json_fields.specs.Views.{texts_view}
use Rattle.gocrypt_conf.proofs.reading.first_outside.Given as goal

abbrev pub invariant-loop-text : goal.invariant-loop-text
invariant-loop-text l =
    first_outside (texts_view l.others) (texts_view (drop l.text-index l.texts)) ≡ first_outside (texts_view l.others) (texts_view l.texts)
