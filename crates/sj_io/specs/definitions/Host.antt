-- What the host's files know, and the faults of its files and of its sink.
use Rattle.std.specs.Prelude.{ℕ, List, map, string_bytes}
use Rattle.sj_io.specs.definitions.Counts.{count_of}
use Rattle.sj_io.specs.declared.host.HostName.{HostName}
use Rattle.sj_io.specs.declared.host.HostFiles.{HostFiles}
use Rattle.sj_io.specs.declared.host.HostSink.{HostSink}

abbrev pub host_names : List HostName → List (List ℕ)
host_names = map (λ n. string_bytes n.name)

abbrev pub host_counts : List HostName → List ℕ
host_counts = map (λ n. n.faults)

-- the count of a name: of its first entry, or the one that all other names share
abbrev pub host_count : List HostName → ℕ → List ℕ → ℕ
host_count names others name = count_of (host_names names) (host_counts names) others name

module _ {R File Dir : Type 0} where
  abbrev pub host_known : HostFiles R File Dir → List (List ℕ)
  host_known h = host_names h.names.items

  abbrev pub host_faults : HostFiles R File Dir → List ℕ → ℕ
  host_faults h name = host_count h.names.items h.others name

module _ {R : Type 0} where
  abbrev pub print_faults : HostSink R → ℕ
  print_faults s = s.faults
