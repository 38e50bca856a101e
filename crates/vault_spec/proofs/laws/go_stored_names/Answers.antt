use Rattle.vault_spec.proofs.laws.go_stored_names.Goals as goal

pub returns : goal.returns
returns c = record {
  one = c.text_has_one_name.ensures;
  plain = c.texts_are_plain.ensures.characters;
  long_size = c.long_names_are_plain.ensures.size;
  long_prefix = c.long_names_are_plain.ensures.prefix;
  long_rest = c.long_names_are_plain.ensures.characters;
}
