-- Ends that wait within other statements, and the places of ends.
use Rattle.std.specs.Prelude.{◌≡◌, ℕ, pos, List, [], ◌∷◌, codes, get_or, None}
use Rattle.java_values.specs.declared.kind.Kind.TheVariants as kind
use Rattle.kernel_terms.specs.declared.tables.Tables.{Tables}
use Rattle.kernel_terms.specs.declared.tables.ChannelInfo.{ChannelInfo}
use Rattle.kernel_terms.specs.Statements.{Stmt, Nothing, Pause, Emit, Assign, Seq, Par, Exit, Local, Send, Receive, SendWaits, Sent, ReceiveWaits, Received}
use Rattle.kernel_rules.specs.Rows.{int, summed_local, pure_local}
use Rattle.plain_code.specs.declared.end_place.EndPlace.{EndPlace}
use Rattle.domain_core.specs.Rows.{rendezvous}
use Rattle.domain_core.specs.definitions.runs.Systems.{SystemState, Step, MakesJoin, start_of}
use Rattle.domain_core.specs.definitions.step.Domains.{ends_of}
use Rattle.domain_core.specs.definitions.step.EndRegisters.{end_places}

-- it holds of each statement of the list
abbrev pub Each : (Stmt → Type 0) → List Stmt → Type 0
Each P [] = Unit {0}
Each P (p ∷ ps) = P p × Each P ps

-- a send on the channel 0 that waits with 5
abbrev pub waiting_send : Stmt
waiting_send = SendWaits 0 (pos 5)

-- statements without parts that are no such send
abbrev pub no_waiting_send : List Stmt
no_waiting_send =
    Nothing ∷ Pause ∷ Emit 0 None ∷ Assign 0 (int 5) ∷ Exit 0 ∷ Send 0 (int 5) ∷ Receive 0 ∷
    SendWaits 1 (pos 5) ∷ SendWaits 0 (pos 6) ∷ Sent 0
    ∷ ReceiveWaits 0 ∷ Received 0 ∷ []

-- statements without parts that are no receive on the channel 0 that waits
abbrev pub no_waiting_receive : List Stmt
no_waiting_receive =
    Nothing ∷ Pause ∷ Emit 0 None ∷ Assign 0 (int 5) ∷ Exit 0 ∷ Send 0 (int 5) ∷ Receive 0 ∷
    SendWaits 0 (pos 5) ∷ Sent 0 ∷ ReceiveWaits 1
    ∷ Received 0 ∷ []

-- { pause; || p }
abbrev pub in_second_branch : Stmt → Stmt
in_second_branch p = Par Pause p

-- signal S; p, with the number 2 for S
abbrev pub in_local : Stmt → Stmt
in_local p = Local 2 (pos 0) p

-- the two domains after a tick of each, which has left them with these statements
abbrev pub left_with : Stmt → Stmt → SystemState
left_with p q =
    record {
      domain = λ d. record (start_of rendezvous d) {
        statement = get_or (p ∷ q ∷
            []) d Nothing;
        ticks = 1;
      };
      joins = λ c. [];
    }

-- They may join then, with the value 5, and these statements are left.
pub record JoinLeaves (p q sent received : Stmt) : Type 0 where
  pub new : SystemState
  pub step : Step rendezvous (left_with p q) (MakesJoin 0 (record {
    value = pos 5;
    sender_ticks = 1;
    receiver_ticks = 1;
  })) new
  pub sender : (new.domain 0).statement ≡ sent
  pub receiver : (new.domain 1).statement ≡ received

-- they may not
abbrev pub NoJoin : Stmt → Stmt → Type 0
NoJoin p q = (sent received : Stmt) → JoinLeaves p q sent received → ⊥

-- a channel of kind `int`
abbrev pub channel_between : ℕ → ℕ → ChannelInfo
channel_between sender receiver =
    record { name = codes "C"; kind = kind.Int; sender = sender; receiver = receiver }

-- a local signal with a value and one without, and three channels, of which domain 0 receives on 1 and sends on 2
abbrev pub end_tables : Tables
end_tables = record {
  signals = summed_local (codes "S") ∷ pure_local (codes "P") ∷ [];
  channels = channel_between 1 2 ∷ channel_between 1 0 ∷ channel_between 0 1 ∷ [];
  variables = [];
}

-- the places of the ends of domain 0 in the statement, whose first register has the number 10
abbrev pub places_in : Stmt → List EndPlace
places_in p = end_places end_tables (ends_of end_tables 0) p 10

-- of the receiving end and of the sending one, with their two registers
abbrev pub receives_at : ℕ → ℕ → EndPlace
receives_at on met = record { which = 0; on = on; met = met }

abbrev pub sends_at : ℕ → ℕ → EndPlace
sends_at on met = record { which = 1; on = on; met = met }

-- receive D;
abbrev pub receives : Stmt
receives = Receive 1

-- pause; send E(7);
abbrev pub sends_later : Stmt
sends_later = Seq Pause (Send 2 (int 7))

-- statements without parts that are no ends, and ends that wait or have completed, which stand in no program
abbrev pub without_ends : List Stmt
without_ends =
    Nothing ∷ Pause ∷ Emit 0 None ∷ Assign 0 (int 5) ∷ Exit 0 ∷ SendWaits 2 (pos 5) ∷ Sent 2 ∷
    ReceiveWaits 1 ∷ Received 1 ∷ []
