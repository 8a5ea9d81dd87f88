-- Small programs and their runs, in numbers.
use Rattle.std.specs.Prelude.{ℕ, ℤ, ◌==◌, ◌&&◌, ◌||◌, pos, false, cond, List, [], ◌∷◌, codes, Some, None}
use Rattle.java_values.specs.declared.kind.Kind.TheVariants as kind
use Rattle.kernel_terms.specs.declared.tables.Tables.{Tables}
use Rattle.kernel_terms.specs.declared.tables.Sort.TheVariants as sort
use Rattle.kernel_terms.specs.declared.tables.Combine.TheVariants as combine
use Rattle.kernel_terms.specs.Expressions.{Literal, ChannelValue, IsPresent}
use Rattle.kernel_terms.specs.Statements.{Emit, Seq, Abort, Suspend, Send, Receive}
use Rattle.cell_core.specs.declared.moves.Side.TheVariants.{Sender, Receiver}
use Rattle.cell_core.specs.declared.moves.CellMove.TheVariants.{Offer, Recall}
use Rattle.tick_log.specs.declared.history.JoinRow.{JoinRow}
use Rattle.tick_log.specs.definitions.Runs.{RunState}
use Rattle.tick_log.specs.definitions.StampOrder.{Event, TickOf, JoinOf}
use Rattle.kernel_terms.specs.Marks.{Mark, Going, Ended}
use Rattle.domain_core.specs.definitions.runs.Systems.{Setup, Move, MakesTick}
use Rattle.domain_core.specs.definitions.rounds.Rounds.{Rounds, RoundsFit, NoneCut}
use Rattle.domain_core.specs.definitions.rounds.Interleavings.{Action, MadeTick, MadeMove, IsInterleaving}

-- the outputs D of domain 0 and B of domain 1, and the channel C from domain 0 to domain 1
abbrev pub two_domains : Tables
two_domains = record {
  signals =
      record {
        name = codes "D";
        domain = 0;
        sort = sort.Output;
        kind = None;
        combine = combine.Max;
      } ∷
      record {
        name = codes "B";
        domain = 1;
        sort = sort.Output;
        kind = Some kind.Int;
        combine = combine.Max;
      } ∷ [];
  channels = record { name = codes "C"; kind = kind.Int; sender = 0; receiver = 1 } ∷ [];
  variables = [];
}

-- `send C(5); emit D;` and `receive C; emit B(#C);`, without inputs
abbrev pub rendezvous : Setup
rendezvous = record {
  tables = two_domains;
  statements =
      Seq (Send 0 (Literal kind.Int (pos 5))) (Emit 0 None) ∷
      Seq (Receive 0) (Emit 1 (Some (ChannelValue kind.Int 0))) ∷ [];
  inputs = λ s n. None;
}

-- Both domains make a tick of stamp 1, join with stamp 2 and this value, and make a tick of the given stamp, in
-- which D, and B with the value, is present. This is how domain 0 stands then, and domain 1 has ended.
abbrev pub rendezvous_with : ℕ → ℤ → Mark → RunState
rendezvous_with stamp value mark = record {
  logs =
      record {
        entries = record { stamp = 1; statuses = None ∷ [] } ∷
            record { stamp = stamp; statuses = Some (pos 0) ∷ [] } ∷ [];
        mark = mark;
      } ∷
      record {
        entries = record { stamp = 1; statuses = None ∷ [] } ∷
            record { stamp = stamp; statuses = Some value ∷ [] } ∷ [];
        mark = Ended;
      } ∷ [];
  histories = (record { value = value; sender_ticks = 1; receiver_ticks = 1; stamp = 2 } ∷ []) ∷ [];
}

-- the sent value is 5, and both domains have ended
abbrev pub rendezvous_run : ℕ → RunState
rendezvous_run stamp = rendezvous_with stamp (pos 5) Ended

-- the first tick of both domains, in which D and B are absent
abbrev pub first_ticks : List Move
first_ticks = MakesTick 0 (None ∷ []) ∷ MakesTick 1 (None ∷ []) ∷ []

-- the join between the first and the second ticks
abbrev pub join_between : List Event
join_between = TickOf 0 0 ∷ TickOf 1 0 ∷ JoinOf 0 0 ∷ TickOf 0 1 ∷ TickOf 1 1 ∷ []

-- the join after all ticks
abbrev pub join_last : List Event
join_last = TickOf 0 0 ∷ TickOf 1 0 ∷ TickOf 0 1 ∷ TickOf 1 1 ∷ JoinOf 0 0 ∷ []

-- each domain twice, by turns
abbrev pub two_rounds : List ℕ
two_rounds = 0 ∷ 1 ∷ 0 ∷ 1 ∷ []

-- Both domains make their first tick and their offer. The sender's offer finds nothing, the receiver's joins
-- it, and the sender finds the join at its recall. Then both make their second tick.
abbrev pub one_interleaving : List Action
one_interleaving =
    MadeTick 0 ∷ MadeMove 0 0 (record { what = Offer Sender (pos 5) 1; reply = None }) ∷
    MadeTick 1 ∷
    MadeMove 1 0 (record {
      what = Offer Receiver (pos 0) 1;
      reply = Some (record { value = pos 5; mine = 1; theirs = 1 });
    }) ∷
    MadeMove 0 0 (record {
      what = Recall Sender;
      reply = Some (record { value = pos 5; mine = 1; theirs = 1 });
    }) ∷
    MadeTick 0 ∷ MadeTick 1 ∷ []

-- The ticks and moves are of rounds that fit the run. None is cut, and nothing stands at the end.
pub record IsByRounds (setup : Setup) (r : RunState) (actions : List Action) : Type 0 where
  pub rounds : ℕ → Rounds
  pub interleaved : IsInterleaving setup r rounds actions (λ c. [])
  pub fit : RoundsFit setup r rounds
  pub none_cut : NoneCut setup rounds

-- An input A and the outputs X and Y of domain 0, the output B of domain 1, and a channel C from domain 0 to
-- domain 1.
abbrev pub abort_tables : Tables
abort_tables = record {
  signals =
      record {
        name = codes "A";
        domain = 0;
        sort = sort.Input;
        kind = None;
        combine = combine.Max;
      } ∷
      record {
        name = codes "X";
        domain = 0;
        sort = sort.Output;
        kind = None;
        combine = combine.Max;
      } ∷
      record {
        name = codes "Y";
        domain = 0;
        sort = sort.Output;
        kind = None;
        combine = combine.Max;
      } ∷
      record {
        name = codes "B";
        domain = 1;
        sort = sort.Output;
        kind = Some kind.Int;
        combine = combine.Max;
      } ∷ [];
  channels = record { name = codes "C"; kind = kind.Int; sender = 0; receiver = 1 } ∷ [];
  variables = [];
}

-- `abort(A){send C(1); emit X;} emit Y;` and `receive C; emit B(#C);`, where A is handed in at tick 2 of domain 0
abbrev pub aborted_send : Setup
aborted_send = record {
  tables = abort_tables;
  statements =
      Seq (Abort false false (IsPresent 0) (Seq (Send 0 (Literal kind.Int (pos 1))) (Emit 1 None)))
      (Emit 2 None) ∷
      Seq (Receive 0) (Emit 3 (Some (ChannelValue kind.Int 0))) ∷ [];
  inputs = λ s n. cond ((s == 0) && (n == 2)) (Some (pos 0)) None;
}

-- Domain 0 offers in its first tick, and its second one, in which A and Y are present, ends it. Domain 1 makes
-- one tick. C has these joins.
abbrev pub withdrawn_run : List JoinRow → RunState
withdrawn_run joins = record {
  logs =
      record {
        entries = record { stamp = 1; statuses = None ∷ None ∷ None ∷ [] } ∷
            record { stamp = 2; statuses = Some (pos 0) ∷ None ∷ Some (pos 0) ∷ [] } ∷
            [];
        mark = Ended;
      } ∷
      record { entries = record { stamp = 1; statuses = None ∷ [] } ∷ []; mark = Going } ∷ [];
  histories = joins ∷ [];
}

-- domain 0 twice before domain 1
abbrev pub receiver_last : List ℕ
receiver_last = 0 ∷ 0 ∷ 1 ∷ []

-- The same with a second tick of domain 1, in which B with 1 is present. Both second ticks have stamp 3.
abbrev pub joined_run : List JoinRow → RunState
joined_run joins = record {
  logs =
      record {
        entries = record { stamp = 1; statuses = None ∷ None ∷ None ∷ [] } ∷
            record { stamp = 3; statuses = Some (pos 0) ∷ None ∷ Some (pos 0) ∷ [] } ∷
            [];
        mark = Ended;
      } ∷
      record {
        entries = record { stamp = 1; statuses = None ∷ [] } ∷
            record { stamp = 3; statuses = Some (pos 1) ∷ [] } ∷ [];
        mark = Ended;
      } ∷ [];
  histories = joins ∷ [];
}

-- the value 1, joined after the first tick of both domains
abbrev pub early_join : JoinRow
early_join = record { value = pos 1; sender_ticks = 1; receiver_ticks = 1; stamp = 2 }

-- an output D of domain 0, an input S and an output B of domain 1, and a channel C from domain 0 to domain 1
abbrev pub suspend_tables : Tables
suspend_tables = record {
  signals =
      record {
        name = codes "S";
        domain = 1;
        sort = sort.Input;
        kind = None;
        combine = combine.Max;
      } ∷
      record {
        name = codes "D";
        domain = 0;
        sort = sort.Output;
        kind = None;
        combine = combine.Max;
      } ∷
      record {
        name = codes "B";
        domain = 1;
        sort = sort.Output;
        kind = Some kind.Int;
        combine = combine.Max;
      } ∷ [];
  channels = record { name = codes "C"; kind = kind.Int; sender = 0; receiver = 1 } ∷ [];
  variables = [];
}

-- `send C(7); emit D;` and `suspend(S){receive C; emit B(#C);}`, where S is handed in at ticks 2 and 3 of domain 1
abbrev pub suspended_receive : Setup
suspended_receive = record {
  tables = suspend_tables;
  statements =
      Seq (Send 0 (Literal kind.Int (pos 7))) (Emit 1 None) ∷
      Suspend false (IsPresent 0) (Seq (Receive 0) (Emit 2 (Some (ChannelValue kind.Int 0)))) ∷ [];
  inputs = λ s n. cond ((s == 0) && ((n == 2) || (n == 3))) (Some (pos 0)) None;
}

-- The join comes while the receive is suspended, after the second tick of domain 1, and B with 7 is present in
-- its fourth, the first without S. C has these joins.
abbrev pub suspended_run : List JoinRow → RunState
suspended_run joins = record {
  logs =
      record {
        entries = record { stamp = 1; statuses = None ∷ [] } ∷
            record { stamp = 4; statuses = Some (pos 0) ∷ [] } ∷ [];
        mark = Ended;
      } ∷
      record {
        entries =
            record { stamp = 1; statuses = None ∷ None ∷ [] } ∷
            record { stamp = 2; statuses = Some (pos 0) ∷ None ∷ [] } ∷
            record { stamp = 4; statuses = Some (pos 0) ∷ None ∷ [] } ∷
            record { stamp = 5; statuses = None ∷ Some (pos 7) ∷ [] } ∷ [];
        mark = Ended;
      } ∷ [];
  histories = joins ∷ [];
}

-- the value 7, joined after one tick of domain 0 and two of domain 1
abbrev pub suspended_join : JoinRow
suspended_join = record { value = pos 7; sender_ticks = 1; receiver_ticks = 2; stamp = 3 }

-- the same after the first tick of both domains
abbrev pub too_early : JoinRow
too_early = record { value = pos 7; sender_ticks = 1; receiver_ticks = 1; stamp = 2 }

abbrev pub receiver_first : List ℕ
receiver_first = 1 ∷ 1 ∷ 0 ∷ 1 ∷ 1 ∷ 0 ∷ []
