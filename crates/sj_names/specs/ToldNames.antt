-- What a reader of names has read.
use Rattle.sj_names.specs.declared.statements.Reader.{Reader}
use Rattle.sj_names.specs.definitions.Mentions.{Told}
use Rattle.sj_names.specs.VisibleNames.{scope_of}

abbrev pub told_of : Reader → Told
told_of reader = record { scope = scope_of reader.names; mentions = reader.mentions.items }
