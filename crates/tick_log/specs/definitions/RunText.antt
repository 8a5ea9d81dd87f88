-- The text of a run, as a list of lines.
use Rattle.std.specs.Prelude.{ℕ, ◌+◌, ℤ, Bool, true, false, List, [], ◌∷◌, ◌++◌, length, map, flat_map, codes, decimal, Option, Some, None}
use Rattle.std.specs.Fmt.{signed_decimal}
use Rattle.java_values.specs.declared.kind.Kind.{Kind}
use Rattle.java_values.specs.declared.kind.Kind.TheVariants.{Boolean, Byte, Short, Char, Int, Long}
use Rattle.java_values.specs.Arithmetic.{is_true}
use Rattle.kernel_terms.specs.declared.tables.SignalInfo.{SignalInfo}
use Rattle.kernel_terms.specs.declared.tables.Tables.{Tables}
use Rattle.kernel_terms.specs.TableEntries.{signal_at, channel_at, interface_of}
use Rattle.tick_log.specs.declared.history.JoinRow.{JoinRow}
use Rattle.kernel_terms.specs.Marks.{Mark, Going, Ended}
use Rattle.tick_log.specs.definitions.Runs.{Entry, DomainLog, RunState}

abbrev pub truth_word : Bool → List ℕ
truth_word true = codes "true"
truth_word false = codes "false"

-- the interface signals of a domain, in order of declaration
abbrev pub interface_signals : Tables → ℕ → List SignalInfo
interface_signals t d = map (signal_at t) (interface_of t d)

-- `true` or `false` for the kind `boolean`, and else the number
abbrev pub value_text : Kind → ℤ → List ℕ
value_text Boolean v = truth_word (is_true v)
value_text Byte v = signed_decimal v
value_text Short v = signed_decimal v
value_text Char v = signed_decimal v
value_text Int v = signed_decimal v
value_text Long v = signed_decimal v

-- `=VALUE` of a valued signal, and nothing of a pure one
abbrev pub value_part : Option Kind → ℤ → List ℕ
value_part None v = []
value_part (Some k) v = 61 ∷ value_text k v

-- a space and the name, with its value, where it is present
abbrev pub signal_text : SignalInfo → Option ℤ → List ℕ
signal_text info (Some v) = 32 ∷ info.name ++ value_part info.kind v
signal_text info None = []

-- these signals, each with its status
abbrev pub signal_texts : List SignalInfo → List (Option ℤ) → List ℕ
signal_texts (info ∷ infos) (status ∷ statuses) =
    signal_text info status ++ signal_texts infos statuses
signal_texts _ _ = []

-- `T @STAMP` and the present signals
abbrev pub tick_line : List SignalInfo → ℕ → Entry → List ℕ
tick_line infos tick e =
    decimal tick ++ codes " @" ++ decimal e.stamp ++ signal_texts infos e.statuses

-- one line per tick, whose numbers begin here
abbrev pub tick_lines : List SignalInfo → ℕ → List Entry → List (List ℕ)
tick_lines infos tick [] = []
tick_lines infos tick (e ∷ es) = tick_line infos tick e ∷ tick_lines infos (tick + 1) es

abbrev pub mark_word : Mark → List ℕ
mark_word Ended = codes " ended"
mark_word Going = codes " paused"

-- `domain D ticks N` and how the domain stands
abbrev pub domain_line : ℕ → DomainLog → List ℕ
domain_line domain log =
    codes "domain " ++ decimal domain ++ codes " ticks " ++ decimal (length log.entries) ++
    mark_word log.mark

-- the lines of each domain, whose numbers begin here
abbrev pub domain_lines : Tables → ℕ → List DomainLog → List (List ℕ)
domain_lines t domain [] = []
domain_lines t domain (log ∷ logs) =
    domain_line domain log ∷
    (tick_lines (interface_signals t domain) 1 log.entries ++ domain_lines t (domain + 1) logs)

-- `J VALUE S R @STAMP`
abbrev pub join_line : Kind → ℕ → JoinRow → List ℕ
join_line kind join row =
    decimal join ++ codes " " ++ value_text kind row.value ++ codes " " ++
    decimal row.sender_ticks ++ codes " " ++ decimal row.receiver_ticks ++ codes " @" ++
    decimal row.stamp

-- one line per join, whose numbers begin here
abbrev pub join_lines : Kind → ℕ → List JoinRow → List (List ℕ)
join_lines kind join [] = []
join_lines kind join (row ∷ rows) = join_line kind join row ∷ join_lines kind (join + 1) rows

-- `channel NAME K`
abbrev pub channel_line : List ℕ → List JoinRow → List ℕ
channel_line name rows = codes "channel " ++ name ++ codes " " ++ decimal (length rows)

-- the lines of each channel, whose numbers begin here
abbrev pub channel_lines : Tables → ℕ → List (List JoinRow) → List (List ℕ)
channel_lines t channel [] = []
channel_lines t channel (rows ∷ histories) =
    channel_line (channel_at t channel).name rows ∷
    (join_lines (channel_at t channel).kind 1 rows ++ channel_lines t (channel + 1) histories)

-- each line ends with byte 10
abbrev pub text_of_lines : List (List ℕ) → List ℕ
text_of_lines lines = flat_map (λ line. line ++ 10 ∷ []) lines

-- the domains by rising number, and then the channels
abbrev pub run_lines : Tables → RunState → List (List ℕ)
run_lines t run = domain_lines t 0 run.logs ++ channel_lines t 0 run.histories

abbrev pub run_text : Tables → RunState → List ℕ
run_text t run = text_of_lines (run_lines t run)
