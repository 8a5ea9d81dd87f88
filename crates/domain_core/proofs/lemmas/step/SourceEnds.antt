-- The source of each domain of a system has an end for each send and receive, and nothing in it waits.
use Rattle.std.proofs.Common.{◌≡◌, ◌≢◌, ℕ, suc, ◌+◌, ◌<◌, true, [], ◌∷◌, length, sym, ◌∙◌, subst, arith}
use Rattle.std.specs.Prelude.{◌&&◌, ◌==◌, nat_lt}
use Rattle.std.proofs.lemmas.Bool.{eqb-true, ltb-true}
use Rattle.java_values.specs.declared.kind.Kind.TheVariants as kind
use Rattle.kernel_terms.specs.declared.system.System.{System}
use Rattle.kernel_terms.specs.declared.tables.Tables.{Tables}
use Rattle.kernel_terms.specs.Systems.{tables_of, domains_of}
use Rattle.kernel_terms.specs.TableEntries.{channel_at}
use Rattle.kernel_terms.specs.Statements.{Stmt, Nothing, Pause, Emit, Assign, If, Present, Seq, Loop, Par, Trap, Exit, Abort, Suspend, Local, Send, Receive, SendWaits, Sent, ReceiveWaits, Received}
use Rattle.kernel_terms.specs.WellFormed.{Scope, fits_statement, fits_test, is_given, is_local_of}
use Rattle.kernel_rules.specs.definitions.LegalTick.{no_inputs}
use Rattle.cell_core.specs.declared.moves.Side.TheVariants.{Sender, Receiver}
use Rattle.domain_core.specs.definitions.runs.Systems.{source_of, setup_of, IsSystem, IsFresh}
use Rattle.domain_core.specs.definitions.step.Domains.{ends_of}
use Rattle.domain_core.specs.step.StatementEnds.{HaveEnds, NoneWaits}
use Rattle.domain_core.proofs.lemmas.runs.WellFormedSystems.{left, right, source_fits, system_is_fresh, system_joins}
use Rattle.domain_core.proofs.lemmas.step.OwnEnds.{has_own_end}

module _ (t : Tables) (apart : (c : ℕ) → c < length t.channels → (channel_at t c).sender ≢ (channel_at t c).receiver) where
  -- a statement that keeps the rules has its ends
  pub ends_there : (scope : Scope) (p : Stmt) → fits_statement t scope p ≡ true → HaveEnds (ends_of t scope.domain) p
  ends_there scope Nothing h = tt
  ends_there scope Pause h = tt
  ends_there scope (Emit s e) h = tt
  ends_there scope (Assign x e) h = tt
  ends_there scope (If e p q) h =
      let parts = right (is_given t scope kind.Boolean e) (fits_statement t scope p && fits_statement t scope q) h in
      (ends_there scope p (left (fits_statement t scope p) (fits_statement t scope q) parts), ends_there scope q (right (fits_statement t scope p) (fits_statement t scope q) parts))
  ends_there scope (Present u p q) h =
      let parts = right (fits_test t scope u) (fits_statement t scope p && fits_statement t scope q) h in
      (ends_there scope p (left (fits_statement t scope p) (fits_statement t scope q) parts), ends_there scope q (right (fits_statement t scope p) (fits_statement t scope q) parts))
  ends_there scope (Seq p q) h = (ends_there scope p (left (fits_statement t scope p) (fits_statement t scope q) h), ends_there scope q (right (fits_statement t scope p) (fits_statement t scope q) h))
  ends_there scope (Loop p) h = ends_there scope p h
  ends_there scope (Par p q) h = (ends_there scope p (left (fits_statement t scope p) (fits_statement t scope q) h), ends_there scope q (right (fits_statement t scope p) (fits_statement t scope q) h))
  ends_there scope (Trap p) h = ends_there (record scope { traps = suc scope.traps }) p h
  ends_there scope (Exit d) h = tt
  ends_there scope (Abort weak armed u p) h = ends_there scope p (right (fits_test t scope u) (fits_statement t scope p) h)
  ends_there scope (Suspend armed u p) h = ends_there scope p (right (fits_test t scope u) (fits_statement t scope p) h)
  ends_there scope (Local s v p) h =
      let inner : Scope = record scope { locals = s ∷ scope.locals } in
      ends_there inner p (right (is_local_of t scope.domain s) (fits_statement t inner p) h)
  ends_there scope (Send c e) h =
      let own = left (nat_lt c (length t.channels) && ((channel_at t c).sender == scope.domain)) (is_given t scope (channel_at t c).kind e) h in
      let less = ltb-true c (length t.channels) (left (nat_lt c (length t.channels)) ((channel_at t c).sender == scope.domain) own) in
      has_own_end t scope.domain c Sender less (eqb-true (channel_at t c).sender scope.domain (right (nat_lt c (length t.channels)) ((channel_at t c).sender == scope.domain) own))
  ends_there scope (Receive c) h =
      let less = ltb-true c (length t.channels) (left (nat_lt c (length t.channels)) ((channel_at t c).receiver == scope.domain) h) in
      let is = eqb-true (channel_at t c).receiver scope.domain (right (nat_lt c (length t.channels)) ((channel_at t c).receiver == scope.domain) h) in
      has_own_end t scope.domain c Receiver less ((λ e. apart c less (e ∙ sym is)), is)
  ends_there scope (SendWaits c v) h = tt
  ends_there scope (Sent c) h = tt
  ends_there scope (ReceiveWaits c) h = tt
  ends_there scope (Received c) h = tt

-- no channel joins a domain with itself
pub channels_apart : (system : System) (c : ℕ) → c < length (tables_of system).channels → (channel_at (tables_of system) c).sender ≢ (channel_at (tables_of system) c).receiver
channels_apart system c less = let h : IsSystem (setup_of system no_inputs) = system_joins system no_inputs in h.apart c less

pub source_ends : (system : System) (d : ℕ) → d < length (domains_of system) → HaveEnds (ends_of (tables_of system) d) (source_of system d)
source_ends system d within =
    subst (λ k. HaveEnds (ends_of (tables_of system) k) (source_of system d)) (omega arith)
    (ends_there (tables_of system) (channels_apart system) (record { domain = 0 + d; traps = 0; locals = [] }) (source_of system d) (source_fits system d within))

pub source_waits : (system : System) (d : ℕ) → NoneWaits (source_of system d)
source_waits system d =
    let fresh : IsFresh (setup_of system no_inputs) = system_is_fresh system no_inputs in
    ((λ c v w. fresh.sends d c v w), (λ c w. fresh.receives d c w))
