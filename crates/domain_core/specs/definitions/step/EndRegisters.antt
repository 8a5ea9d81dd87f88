-- The registers that joins set.
use Rattle.std.specs.Prelude.{ℕ, suc, zero, ◌+◌, ℤ, pos, ◌&&◌, cond, ◌==◌, List, [], ◌∷◌, ◌++◌, length, get_or, Option, Some, None}
use Rattle.std.specs.List.{range_with_len}
use Rattle.java_values.specs.Arithmetic.{is_true}
use Rattle.kernel_terms.specs.declared.tables.Tables.{Tables}
use Rattle.kernel_terms.specs.TableEntries.{received_by}
use Rattle.kernel_terms.specs.Statements.{Stmt, Nothing, Pause, Emit, Assign, If, Present, Seq, Loop, Par, Trap, Exit, Abort, Suspend, Local, Send, Receive, SendWaits, Sent, ReceiveWaits, Received}
use Rattle.kernel_terms.specs.TableEntries.{signal_at}
use Rattle.kernel_rules.specs.definitions.Signals.{put_at}
use Rattle.kernel_rules.specs.definitions.Registers.{registers, value_kinds, first_last}
use Rattle.cell_core.specs.declared.moves.Joined.{Joined}
use Rattle.plain_code.specs.declared.end_place.EndPlace.{EndPlace}
use Rattle.domain_core.specs.declared.step.ends_of.EndOf.{EndOf}
use Rattle.domain_core.specs.definitions.step.EndCalls.{end_at}
use Rattle.domain_core.specs.definitions.step.Domains.{is_receiver}

-- the number of a channel's end among a domain's ends
abbrev pub end_number : List EndOf → ℕ → ℕ
end_number [] c = 0
end_number (e ∷ es) c = cond (e.channel == c) 0 (suc (end_number es c))

-- The sends and receives of a statement from the left, each with the number of its end and its registers `on` and
-- `met`. The statement's first register has the number n.
abbrev pub end_places : Tables → List EndOf → Stmt → ℕ → List EndPlace
end_places tables ends Nothing n = []
end_places tables ends Pause n = []
end_places tables ends (Emit s e) n = []
end_places tables ends (Assign x e) n = []
end_places tables ends (If e p q) n =
    end_places tables ends p n ++ end_places tables ends q (n + registers tables p)
end_places tables ends (Present t p q) n =
    end_places tables ends p n ++ end_places tables ends q (n + registers tables p)
end_places tables ends (Seq p q) n =
    end_places tables ends p n ++ end_places tables ends q (n + registers tables p)
end_places tables ends (Loop p) n = end_places tables ends p n
end_places tables ends (Par p q) n =
    end_places tables ends p n ++ end_places tables ends q (n + registers tables p)
end_places tables ends (Trap p) n = end_places tables ends p n
end_places tables ends (Exit d) n = []
end_places tables ends (Abort weak armed t p) n = end_places tables ends p n
end_places tables ends (Suspend armed t p) n = end_places tables ends p n
end_places tables ends (Local s v p) n =
    end_places tables ends p (n + length (value_kinds (signal_at tables s).kind))
end_places tables ends (Send c e) n = record { which = end_number ends c; on = n; met = n + 1 } ∷ []
end_places tables ends (Receive c) n =
    record { which = end_number ends c; on = n; met = n + 1 } ∷ []
end_places tables ends (SendWaits c v) n = []
end_places tables ends (Sent c) n = []
end_places tables ends (ReceiveWaits c) n = []
end_places tables ends (Received c) n = []

-- the registers of the last values of a domain's receiving channels, by channel number
abbrev pub last_places : Tables → ℕ → Stmt → List ℕ
last_places tables d source =
    range_with_len (first_last tables d source) (length (received_by tables d))

-- how many of the first n ends receive
abbrev pub receivers_before : List EndOf → ℕ → ℕ
receivers_before ends zero = 0
receivers_before ends (suc n) =
    cond (is_receiver (end_at ends n).side) (suc (receivers_before ends n))
    (receivers_before ends n)

-- the registers once a join has completed the end of this number: `met` at each of its places whose `on` is set
abbrev pub met_at : ℕ → EndPlace → (ℕ → ℤ) → ℕ → ℤ
met_at k p r = cond ((p.which == k) && is_true (r p.on)) (put_at r p.met (pos 1)) r

abbrev pub met : List EndPlace → ℕ → (ℕ → ℤ) → ℕ → ℤ
met [] k r = r
met (p ∷ ps) k r = met ps k (met_at k p r)

-- and, at a receiver, the register of its last value, which has the joined value
abbrev pub with_last : List EndOf → List ℕ → ℕ → ℤ → (ℕ → ℤ) → ℕ → ℤ
with_last ends last k v r =
    cond (is_receiver (end_at ends k).side) (put_at r (get_or last (receivers_before ends k) 0) v) r

abbrev pub joined_at : List EndPlace → List ℕ → List EndOf → ℕ → Option Joined → (ℕ → ℤ) → ℕ → ℤ
joined_at places last ends k None r = r
joined_at places last ends k (Some j) r = with_last ends last k j.value (met places k r)

-- the registers once the joins answered at the first so many ends have completed there
abbrev pub registers_joined : List EndPlace → List ℕ → List EndOf → List (Option Joined) → ℕ →
    (ℕ → ℤ) → ℕ → ℤ
registers_joined places last ends answers zero r = r
registers_joined places last ends answers (suc n) r =
    joined_at places last ends n (get_or answers n None)
    (registers_joined places last ends answers n r)
