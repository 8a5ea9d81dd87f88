-- What is sent has its channel's kind.
use Rattle.java_values.specs.Kinds.{IsInRange}
use Rattle.kernel_terms.specs.declared.tables.Tables.{Tables}
use Rattle.kernel_terms.specs.TableEntries.{channel_at}
use Rattle.domain_core.specs.equations.BuiltForms.{Plain, Seq, Loop, Send}

-- each literal that is sent lies in its channel's kind
abbrev pub SendsFit : Tables → Plain → Type 0
SendsFit tables (Seq p q) = SendsFit tables p × SendsFit tables q
SendsFit tables (Loop p) = SendsFit tables p
SendsFit tables (Send c n) = IsInRange (channel_at tables c).kind n
SendsFit tables _ = Unit {0}
