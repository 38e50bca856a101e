-- What private clauses see of the fields that were read.
use Rattle.json_fields.specs.Views.{texts_view}
use Rattle.gocrypt_conf.specs.declared.fields as read
use Rattle.gocrypt_conf.specs.Fields.{Fields, ScryptFields}

abbrev pub scrypt_view : read.ScryptFields.ScryptFields → ScryptFields
scrypt_view s = record { salt = s.salt.items; n = s.n; r = s.r; p = s.p; key_len = s.key_len }

abbrev pub fields_view : read.Fields.Fields → Fields
fields_view f =
    record { version = f.version; flags = texts_view f.flags.items; sealed = f.sealed.items; scrypt = scrypt_view f.scrypt }
