use Rattle.vault_spec.proofs.laws.cm_stored_names.Goals as goal

pub returns : goal.returns
returns c keys = record {
  one = c.cm_text_has_one_name.ensures keys;
  plain = c.cm_texts_are_plain.ensures.characters keys;
  size = c.cm_texts_are_plain.ensures.size keys;
  long_plain = c.cm_long_names_are_plain.ensures.characters;
  long_size = c.cm_long_names_are_plain.ensures.size;
  folder_first = c.cm_folders_are_plain.ensures.first keys;
  folder_rest = c.cm_folders_are_plain.ensures.rest keys;
  folder_plain = c.cm_folders_are_plain.ensures.characters keys;
}
