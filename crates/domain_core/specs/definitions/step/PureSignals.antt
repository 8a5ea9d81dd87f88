-- The interface of a domain without inputs and values.
use Rattle.std.specs.Prelude.{◌≡◌, ℕ, true, false, None}
use Rattle.kernel_terms.specs.declared.tables.SignalInfo.{SignalInfo}
use Rattle.kernel_terms.specs.declared.tables.Tables.{Tables}
use Rattle.kernel_terms.specs.TableEntries.{signal_at, is_input, is_interface_of}

-- not an input, and without a value
pub record IsPureOutput (info : SignalInfo) : Type 0 where
  pub output : is_input info.sort ≡ false
  pub pure : info.kind ≡ None

-- each interface signal of the domain is a pure output
abbrev pub HasPureOutputs : Tables → ℕ → Type 0
HasPureOutputs tables d =
    (s : ℕ) → is_interface_of d (signal_at tables s) ≡ true → IsPureOutput (signal_at tables s)
