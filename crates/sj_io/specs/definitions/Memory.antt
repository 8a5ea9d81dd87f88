-- What files and a sink in memory hold.
use Rattle.std.specs.Prelude.{◌≡◌, ℕ, ◌+◌, ◌-◌, ◌^◌, min, Bool, ◌||◌, ◌&&◌, ◌==◌, nat_lt, List, [], ◌∷◌, map, take, length, cond, Option, Some, None, is_none, string_bytes}
use Rattle.std.specs.List.{list_any}
use Rattle.std.specs.Str.{bytes_eq}
use Rattle.sj_io.specs.definitions.Counts.{count_of}
use Rattle.sj_io.specs.declared.memory.MemFile.{MemFile}
use Rattle.sj_io.specs.declared.memory.MemFiles.{MemFiles}
use Rattle.sj_io.specs.declared.memory.MemSink.{MemSink}

abbrev pub file_names : List MemFile → List (List ℕ)
file_names = map (λ f. string_bytes f.name)

abbrev pub file_counts : List MemFile → List ℕ
file_counts = map (λ f. f.faults)

-- the count of a name: of its first entry, or the one that all other names share
abbrev pub file_count : List MemFile → ℕ → List ℕ → ℕ
file_count files others name = count_of (file_names files) (file_counts files) others name

-- the bytes of the first entry of a name
abbrev pub bytes_of : List MemFile → List ℕ → Option (List ℕ)
bytes_of [] name = None
bytes_of (f ∷ fs) name =
    cond (bytes_eq (string_bytes f.name) name) (Some f.bytes.items) (bytes_of fs name)

abbrev pub mem_known : MemFiles → List (List ℕ)
mem_known m = file_names m.files.items

abbrev pub mem_told : MemFiles → List ℕ → Option (List ℕ)
mem_told m name = bytes_of m.files.items name

abbrev pub mem_faults : MemFiles → List ℕ → ℕ
mem_faults m name = file_count m.files.items m.others name

abbrev pub mem_piece : MemFiles → ℕ
mem_piece m = m.piece

-- the number of the next call, from 1; it stops at its type's end
abbrev pub next_number : ℕ → ℕ
next_number calls = min (calls + 1) (2 ^ 64 - 1)

-- the number is listed
abbrev pub is_listed : List ℕ → ℕ → Bool
is_listed fail n = list_any (λ k. k == n) fail

-- whether the next call fails, where it names this file
abbrev pub mem_fails : MemFiles → List ℕ → Bool
mem_fails m name = is_listed m.fail.items (next_number m.calls) || is_none (mem_told m name)

-- how much a read gives, which calls fail, and how many there were
pub record IsSetUp (m : MemFiles) (piece : ℕ) (fail : List ℕ) (calls : ℕ) : Type 0 where
  pub piece_is : m.piece ≡ piece
  pub fail_is : m.fail.items ≡ fail
  pub calls_is : m.calls ≡ calls

-- one call more; which calls fail and how much a call gives stay
abbrev pub CallsOn : MemFiles → MemFiles → Type 0
CallsOn old new = IsSetUp new old.piece old.fail.items (next_number old.calls)

-- the bytes that a sink in memory has taken
abbrev pub sink_bytes : MemSink → List ℕ
sink_bytes s = take s.used s.space.items

abbrev pub sink_faults : MemSink → ℕ
sink_faults s = s.faults

-- how much the sink has left
abbrev pub sink_room : MemSink → ℕ
sink_room s = length s.space.items - s.used

abbrev pub sink_piece : MemSink → ℕ
sink_piece s = s.piece

-- whether the next call fails, where it brings so many bytes
abbrev pub sink_fails : MemSink → ℕ → Bool
sink_fails s n = is_listed s.fail.items (next_number s.calls) || ((sink_room s == 0) && nat_lt 0 n)

-- how much a write takes, which calls fail, how many there were, and how many bytes it can take
pub record IsSinkSetUp (s : MemSink) (piece : ℕ) (fail : List ℕ) (calls space : ℕ) : Type 0 where
  pub piece_is : s.piece ≡ piece
  pub fail_is : s.fail.items ≡ fail
  pub calls_is : s.calls ≡ calls
  pub space_is : length s.space.items ≡ space

abbrev pub SinkCallsOn : MemSink → MemSink → Type 0
SinkCallsOn old new =
    IsSinkSetUp new old.piece old.fail.items (next_number old.calls) (length old.space.items)
