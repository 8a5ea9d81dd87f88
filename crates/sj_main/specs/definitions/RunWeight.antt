-- The weight of a run, by the budgets of its domains.
use Rattle.std.specs.Prelude.{ℕ, ◌+◌, ◌*◌, List, length, get_or, sum_by}
use Rattle.std.specs.List.{range_with_len}
use Rattle.kernel_terms.specs.declared.tables.ChannelInfo.{ChannelInfo}
use Rattle.kernel_terms.specs.declared.tables.Tables.{Tables}
use Rattle.kernel_terms.specs.TableEntries.{interface_of}
use Rattle.sj_main.specs.declared.commands.Turns.{Turns}
use Rattle.sj_accept.specs.definitions.Programs.{LoweredProgram, domain_statements}
use Rattle.sj_main.specs.definitions.Commands.{turns_for, budgets_for}

abbrev pub most_run_weight : ℕ
most_run_weight = 4000000

-- a domain adds its budget once for each of its interface signals, and once more
abbrev pub domain_weight : Tables → List ℕ → ℕ → ℕ
domain_weight t budgets d = get_or budgets d 0 * (length (interface_of t d) + 1)

-- an end of a channel adds twice its domain's budget, and 1
abbrev pub end_weight : List ℕ → ℕ → ℕ
end_weight budgets d = 2 * get_or budgets d 0 + 1

abbrev pub channel_weight : List ℕ → ChannelInfo → ℕ
channel_weight budgets c = end_weight budgets c.sender + end_weight budgets c.receiver

abbrev pub run_weight : Tables → List ℕ → ℕ
run_weight t budgets =
    sum_by (domain_weight t budgets) (range_with_len 0 (length budgets)) + sum_by
    (channel_weight budgets) t.channels

abbrev pub domain_count_of : LoweredProgram → ℕ
domain_count_of p = length (domain_statements p)

-- the turns of the program, and the weight of a run of them
abbrev pub turns_of_program : LoweredProgram → Turns → List ℕ
turns_of_program p turns = turns_for turns (domain_count_of p)

abbrev pub run_weight_of : LoweredProgram → Turns → ℕ
run_weight_of p turns = run_weight p.tables (budgets_for turns (domain_count_of p))
