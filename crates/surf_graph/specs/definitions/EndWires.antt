-- Which ends of a domain wait after its tick, and what they send, by the wires of its next registers.
use Rattle.std.specs.Prelude.{◌≡◌, ℕ, suc, ◌+◌, ◌==◌, ℤ, Bool, not, ◌&&◌, ◌||◌, cond, List, [], ◌∷◌, ◌++◌, length, Option, Some, None, is_some}
use Rattle.java_values.specs.Arithmetic.{is_true}
use Rattle.java_values.specs.declared.kind.Kind.TheVariants.{Boolean}
use Rattle.kernel_terms.specs.declared.tables.Tables.{Tables}
use Rattle.kernel_terms.specs.declared.tables.ChannelInfo.{ChannelInfo}
use Rattle.kernel_terms.specs.TableEntries.{signal_at, channel_at, numbers_where}
use Rattle.kernel_terms.specs.Statements.{Stmt, Nothing, Pause, Emit, Assign, If, Present, Seq, Loop, Par, Trap, Exit, Abort, Suspend, Local, Send, Receive, SendWaits, Sent, ReceiveWaits, Received}
use Rattle.kernel_rules.specs.definitions.Registers.{registers, value_kinds}
use Rattle.tick_code.specs.declared.end_place.EndPlace.{EndPlace}
use Rattle.surf_graph.specs.definitions.Formulas.{AndNot, Equation, is_on}
use Rattle.surf_graph.specs.definitions.Copies.{Sets}
use Rattle.surf_graph.specs.definitions.DomainCopies.{place_in, set_equations}

-- the channels on which a domain has an end
abbrev pub has_end : ℕ → ChannelInfo → Bool
has_end d c = (c.sender == d) || (c.receiver == d)

abbrev pub channels_of : Tables → ℕ → List ℕ
channels_of tables d = numbers_where (has_end d) 0 tables.channels

-- the number of a channel's end among those of the domain
abbrev pub end_number : Tables → ℕ → ℕ → ℕ
end_number tables d c = place_in (channels_of tables d) c

-- The sends and receives of a statement from the left, each with the number of its end and its registers `on` and
-- `met`. The statement's first register has the number n.
abbrev pub end_places : Tables → ℕ → Stmt → ℕ → List EndPlace
end_places tables d Nothing n = []
end_places tables d Pause n = []
end_places tables d (Emit s e) n = []
end_places tables d (Assign x e) n = []
end_places tables d (If e p q) n =
    end_places tables d p n ++ end_places tables d q (n + registers tables p)
end_places tables d (Present t p q) n =
    end_places tables d p n ++ end_places tables d q (n + registers tables p)
end_places tables d (Seq p q) n =
    end_places tables d p n ++ end_places tables d q (n + registers tables p)
end_places tables d (Loop p) n = end_places tables d p n
end_places tables d (Par p q) n =
    end_places tables d p n ++ end_places tables d q (n + registers tables p)
end_places tables d (Trap p) n = end_places tables d p n
end_places tables d (Exit k) n = []
end_places tables d (Abort weak armed t p) n = end_places tables d p n
end_places tables d (Suspend armed t p) n = end_places tables d p n
end_places tables d (Local s v p) n =
    end_places tables d p (n + length (value_kinds (signal_at tables s).kind))
end_places tables d (Send c e) n =
    record { which = end_number tables d c; on = n; met = n + 1 } ∷ []
end_places tables d (Receive c) n =
    record { which = end_number tables d c; on = n; met = n + 1 } ∷ []
end_places tables d (SendWaits c v) n = []
end_places tables d (Sent c) n = []
end_places tables d (ReceiveWaits c) n = []
end_places tables d (Received c) n = []

-- the place waits
abbrev pub is_waiting : (ℕ → ℤ) → EndPlace → Bool
is_waiting r p = is_true (r p.on) && not (is_true (r p.met))

-- the first place of end k that waits
abbrev pub waiting_place : List EndPlace → ℕ → (ℕ → ℤ) → Option EndPlace
waiting_place [] k r = None
waiting_place (p ∷ ps) k r =
    cond ((p.which == k) && is_waiting r p) (Some p) (waiting_place ps k r)

-- whether each place waits, by wires from n on; `next` is the wire of a next register
abbrev pub waiting_equations : List EndPlace → (ℕ → ℕ) → ℕ → List Equation
waiting_equations [] next n = []
waiting_equations (p ∷ ps) next n =
    record { wire = n; formula = AndNot (next p.on) (next p.met) } ∷
    waiting_equations ps next (suc n)

-- what sets the wire that tells whether end k waits, and that of its value, which is in the register behind `met`; the
-- places tell by wires from n on whether they wait
abbrev pub waits_of : List EndPlace → ℕ → ℕ → List Sets
waits_of [] k n = []
waits_of (p ∷ ps) k n =
    cond (p.which == k) (record { condition = n; value = n } ∷ waits_of ps k (suc n))
    (waits_of ps k (suc n))

abbrev pub sends_of : List EndPlace → (ℕ → ℕ) → ℕ → ℕ → List Sets
sends_of [] next k n = []
sends_of (p ∷ ps) next k n =
    cond (p.which == k)
    (record { condition = n; value = next (suc p.met) } ∷ sends_of ps next k (suc n))
    (sends_of ps next k (suc n))

-- The equations of the ends from number k on, which are those of these channels, by wires from m on; and a wire for
-- each end.
abbrev pub wait_equations : List EndPlace → ℕ → List ℕ → ℕ → ℕ → List Equation
wait_equations ps n [] k m = []
wait_equations ps n (c ∷ cs) k m =
    set_equations Boolean m (waits_of ps k n)
    ++ wait_equations ps n cs (suc k) (suc m + length (waits_of ps k n))

abbrev pub wait_wires : List EndPlace → ℕ → List ℕ → ℕ → ℕ → List ℕ
wait_wires ps n [] k m = []
wait_wires ps n (c ∷ cs) k m =
    m ∷ wait_wires ps n cs (suc k) (suc m + length (waits_of ps k n))

-- an end that sends, by its number and its channel
pub record SendingEnd : Type 0 where
  pub number : ℕ
  pub channel : ℕ

-- those of the ends from number k on, which are those of these channels
abbrev pub sending_ends : Tables → ℕ → List ℕ → ℕ → List SendingEnd
sending_ends tables d [] k = []
sending_ends tables d (c ∷ cs) k =
    cond ((channel_at tables c).sender == d)
    (record { number = k; channel = c } ∷ sending_ends tables d cs (suc k))
    (sending_ends tables d cs (suc k))

-- the equations of what they send, and a wire for each
abbrev pub send_equations : Tables → List EndPlace → (ℕ → ℕ) → ℕ → List SendingEnd → ℕ →
    List Equation
send_equations tables ps next n [] m = []
send_equations tables ps next n (e ∷ es) m =
    set_equations (channel_at tables e.channel).kind m (sends_of ps next e.number n)
    ++ send_equations tables ps next n es (suc m + length (sends_of ps next e.number n))

abbrev pub send_wires : List EndPlace → (ℕ → ℕ) → ℕ → List SendingEnd → ℕ → List ℕ
send_wires ps next n [] m = []
send_wires ps next n (e ∷ es) m =
    m ∷ send_wires ps next n es (suc m + length (sends_of ps next e.number n))

-- one wire for each end from number k on, which tells whether it waits, by the values of the next registers
abbrev pub TellWaits : (ℕ → ℤ) → (ℕ → ℤ) → List EndPlace → List ℕ → ℕ → List ℕ → Type 0
TellWaits w r ps [] k vs = Unit {0}
TellWaits w r ps (c ∷ cs) k [] = ⊥
TellWaits w r ps (c ∷ cs) k (v ∷ vs) =
    (is_on w v ≡ is_some (waiting_place ps k r)) × TellWaits w r ps cs (suc k) vs

-- one wire for each of these ends, which tells what it sends where it waits
abbrev pub TellSends : (ℕ → ℤ) → (ℕ → ℤ) → List EndPlace → List SendingEnd → List ℕ → Type 0
TellSends w r ps [] vs = Unit {0}
TellSends w r ps (e ∷ es) [] = ⊥
TellSends w r ps (e ∷ es) (v ∷ vs) =
    ((p : EndPlace) → waiting_place ps e.number r ≡ Some p → w v ≡ r (suc p.met)) ×
    TellSends w r ps es vs

-- The equations of a domain's ends by its next registers, behind its others, with wires from n on; and the wires of all
-- its ends and of its sending ends.
pub record EndCopy : Type 0 where
  pub equations : List Equation
  pub waits : List ℕ
  pub sends : List ℕ

abbrev pub ends_of_copy : Tables → ℕ → List EndPlace → (ℕ → ℕ) → ℕ → EndCopy
ends_of_copy tables d ps next n =
    let cs = channels_of tables d in
    let m = n + length ps in
    let l = m + length (wait_equations ps n cs 0 m) in
    record {
      equations =
          waiting_equations ps next n
          ++ (wait_equations ps n cs 0 m ++ send_equations tables ps next n (sending_ends tables d cs 0) l);
      waits = wait_wires ps n cs 0 m;
      sends = send_wires ps next n (sending_ends tables d cs 0) l;
    }
