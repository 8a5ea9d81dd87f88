-- The limits of a system.
use Rattle.std.specs.Prelude.{ℕ}

abbrev pub most_domains : ℕ
most_domains = 16

abbrev pub most_channels : ℕ
most_channels = 64

-- of one domain, interface and local
abbrev pub most_signals : ℕ
most_signals = 1024

-- of one domain
abbrev pub most_variables : ℕ
most_variables = 1024

-- around one statement
abbrev pub most_traps : ℕ
most_traps = 64
