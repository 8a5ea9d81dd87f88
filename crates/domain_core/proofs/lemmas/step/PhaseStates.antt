-- The state of a domain through the phases of a step.
use Rattle.std.proofs.Common.{◌≡◌, ◌≢◌, ℕ, zero, suc, ◌+◌, ◌<◌, ◌≤◌, ℤ, Bool, true, false, cond, List, length, get_or, Option, Some, None, refl, sym, ap, ◌∙◌, subst, inl, inr, arith}
use Rattle.std.specs.Prelude.{IfSome, IsSomeAnd, ◌==◌, not}
use Rattle.std.proofs.lemmas.Option.{none-some}
use Rattle.std.proofs.lemmas.Bool.{cases_eq, ne_eqb, true≢false}
use Rattle.java_values.specs.declared.kind.Kind.{Kind}
use Rattle.java_values.specs.Kinds.{IsInRange}
use Rattle.java_values.specs.Arithmetic.{is_true}
use Rattle.kernel_terms.specs.declared.tables.Tables.{Tables}
use Rattle.kernel_terms.specs.TableEntries.{channel_at}
use Rattle.kernel_terms.specs.Statements.{Stmt}
use Rattle.kernel_terms.specs.Statements as rules
use Rattle.kernel_rules.specs.definitions.Registers.{residual, domain_registers, FitRegisters}
use Rattle.kernel_rules.specs.definitions.LegalTick.{DomainState}
use Rattle.cell_core.specs.declared.moves.Side.{Side}
use Rattle.cell_core.specs.declared.moves.Side.TheVariants.{Sender, Receiver}
use Rattle.cell_core.specs.declared.moves.Joined.{Joined}
use Rattle.cell_core.specs.definitions.Ends.{StandingOffer, EndView, ValueFits, JoinsOffer, IsOffer}
use Rattle.plain_code.specs.declared.end_place.EndPlace.{EndPlace}
use Rattle.kernel_terms.specs.Marks.{Going, Ended}
use Rattle.domain_core.specs.declared.step.ends_of.EndOf.{EndOf}
use Rattle.domain_core.specs.equations.BuiltForms.{Plain, Nothing, Pause, Emit, Seq, Loop, Send, Receive, whole}
use Rattle.domain_core.specs.equations.BuiltRegisters.{registers, HoldsLiteral}
use Rattle.domain_core.specs.equations.Places.{plain_places}
use Rattle.domain_core.specs.definitions.step.EndCalls.{end_at, stands_after, IsRecalled, IsOffered}
use Rattle.domain_core.specs.definitions.step.EndRegisters.{end_number, end_places, last_places, registers_joined}
use Rattle.domain_core.specs.step.EndPlaces.{waits_at, value_at, ask_of, PlacesFit, HaveOwnRegisters}
use Rattle.domain_core.specs.step.StatementEnds.{HaveEnds}
use Rattle.domain_core.specs.step.Answers.{no_channel, side_done, end_done, with_answers}
use Rattle.domain_core.specs.equations.SendsFit.{SendsFit}
use Rattle.domain_core.specs.definitions.step.Domains.{ends_of, state_held}
use Rattle.domain_core.specs.definitions.step.Steps.{WaitsAs, Waits, IsAsk, FitsJoin, IsWaitingOffer}
use Rattle.domain_core.specs.step.StepParts.{FitsAfter}
use Rattle.domain_core.proofs.lemmas.runs.JoinedStatements.{still_sends, still_receives}
use Rattle.domain_core.proofs.lemmas.step.StateJoins.{AreApart}
use Rattle.domain_core.proofs.lemmas.step.BuiltJoins.{whole_waits, places_same, literals_all}
use Rattle.domain_core.proofs.lemmas.step.StatementStates as any
use Rattle.domain_core.proofs.lemmas.step.StatementValues.{ask_or, of_some, is_asked}

-- What holds of any source holds of a built statement.
module _ (tables : Tables) (d : ℕ) (p : Plain) (channels : (c : ℕ) → c < length tables.channels → (channel_at tables c).sender ≢ (channel_at tables c).receiver) (has : HaveEnds (ends_of tables d) (whole p)) where
  abbrev own : List EndOf
  own = ends_of tables d

  abbrev joined_in : List EndPlace → List (Option Joined) → (ℕ → ℤ) → ℕ → ℤ
  joined_in places answers r = registers_joined places (last_places tables d (whole p)) (ends_of tables d) answers (length (ends_of tables d)) r

  abbrev joined : List (Option Joined) → (ℕ → ℤ) → ℕ → ℤ
  joined answers r = joined_in (plain_places (ends_of tables d) p 0) answers r

  places_here : end_places tables own (whole p) 0 ≡ plain_places own p 0
  places_here = places_same tables own p 0

  fits_there : (ticks : ℕ) (r : ℕ → ℤ) → FitsAfter tables p ticks r → 0 < ticks → FitRegisters tables (whole p) 0 r
  fits_there zero r fits less = absurd (omega (arith, less))
  fits_there (suc t) r fits less = fits.0

  -- the answers of the own, in a domain that goes on
  pub answers_state : (answers : List (Option Joined)) (ticks : ℕ) (r : ℕ → ℤ) → FitsAfter tables p ticks r → (ticks ≡ 0 → (k : ℕ) → k < length own → get_or answers k None ≡ None) →
      state_held tables d (whole p) ticks Going (joined answers r) ≡ with_answers own answers (length own) (state_held tables d (whole p) ticks Going r)
  answers_state answers ticks r fits none =
      subst (λ l. state_held tables d (whole p) ticks Going (joined_in l answers r) ≡ with_answers own answers (length own) (state_held tables d (whole p) ticks Going r)) places_here
      (any.answers_state tables d (whole p) channels has (whole_waits p) answers ticks r (fits_there ticks r fits) none)

  -- the same in one that may have ended
  pub replies_state : (answers : List (Option Joined)) (t : ℕ) (ended : Bool) (r : ℕ → ℤ) → (ended ≡ false → FitsAfter tables p (suc t) r) → (ended ≡ true → (k : ℕ) → k < length own → get_or answers k None ≡ None) →
      state_held tables d (whole p) (suc t) (cond ended Ended Going) (joined answers r) ≡ with_answers own answers (length own) (state_held tables d (whole p) (suc t) (cond ended Ended Going) r)
  replies_state answers t ended r fits none =
      subst (λ l. state_held tables d (whole p) (suc t) (cond ended Ended Going) (joined_in l answers r) ≡ with_answers own answers (length own) (state_held tables d (whole p) (suc t) (cond ended Ended Going) r)) places_here
      (any.replies_state tables d (whole p) channels has (whole_waits p) answers t ended r (λ goes. let x : FitsAfter tables p (suc t) r = fits goes in x.0) none)

  pub answers_fit : (answers : List (Option Joined)) (ticks : ℕ) (r : ℕ → ℤ) → FitsAfter tables p ticks r → FitsAfter tables p ticks (joined answers r)
  answers_fit answers zero r fits = tt
  answers_fit answers (suc t) r fits = (
    subst (λ l. FitRegisters tables (whole p) 0 (joined_in l answers r)) places_here (any.fit_all tables d (whole p) channels has (whole_waits p) answers (length own) r (omega arith) fits.0),
    literals_all tables d p channels has answers (length own) r (omega arith) fits.1,
  )

  -- there are registers for all places, each has its own, and those of the last values are behind them
  pub all_fit : (n : ℕ) → n ≡ length (domain_registers tables d (whole p)) → PlacesFit (plain_places own p 0) (length own) n
  all_fit n count = subst (λ l. PlacesFit l (length own) n) places_here (any.all_fit tables d (whole p) channels has (whole_waits p) n count)

  pub own_registers : HaveOwnRegisters (plain_places own p 0) (last_places tables d (whole p))
  own_registers = subst (λ l. HaveOwnRegisters l (last_places tables d (whole p))) places_here (any.own_registers tables d (whole p) channels has (whole_waits p))

  -- what the ends ask after a tick
  pub asked_after : (k : ℕ) (new : ℕ → ℤ) (ended : Bool) → k < length own → (ended ≡ false → FitRegisters tables (whole p) 0 new) →
      IsAsk (end_at own k) (cond ended rules.Nothing (residual tables (whole p) 0 new)) (cond ended None (ask_of (plain_places own p 0) k (end_at own k).side new))
  asked_after k new ended within fits =
      subst (λ l. IsAsk (end_at own k) (cond ended rules.Nothing (residual tables (whole p) 0 new)) (cond ended None (ask_of l k (end_at own k).side new))) places_here
      (any.asked_after tables d (whole p) channels has (whole_waits p) k new ended within fits)

-- what a send asks is a value of its channel's kind
module _ (tables : Tables) (ends : List EndOf) (k : ℕ) (f : ℕ → ℤ) (v : ℤ) where
  pub ask_fits : (p : Plain) (n : ℕ) → HoldsLiteral p n f → SendsFit tables p → HaveEnds ends (whole p) → ask_of (plain_places ends p n) k (end_at ends k).side f ≡ Some v →
      ValueFits (end_at ends k).side (channel_at tables (end_at ends k).channel).kind v
  ask_fits Nothing n h s has ask = absurd (none-some v ask)
  ask_fits Pause n h s has ask = absurd (none-some v ask)
  ask_fits (Emit t) n h s has ask = absurd (none-some v ask)
  ask_fits (Seq p q) n h s has ask = elim (ask_or (plain_places ends p n) (plain_places ends q (n + registers p)) k (end_at ends k).side f v ask) [
    | inl x ↦ ask_fits p n h.0 s.0 has.0 x
    | inr x ↦ ask_fits q (n + registers p) h.1 s.1 has.1 x
  ]
  ask_fits (Loop p) n h s has ask = ask_fits p n h s has ask
  ask_fits (Send c l) n h s has ask =
      let place : EndPlace = record { which = end_number ends c; on = n; met = n + 1 } in
      let is = of_some (waits_at k place f) (value_at (end_at ends k).side place f) v ask in
      let at = is_asked c k ends (end_number ends c == k) (is_true (f n)) (not (is_true (f (n + 1)))) refl is.0 in
      let here : end_at ends k ≡ record { channel = c; side = Sender } = ap (end_at ends) (sym at.which) ∙ has.here in
      let value : f (n + 1 + 1) ≡ v = sym (ap (λ (e : EndOf). value_at e.side place f) here) ∙ is.1 in
      let literal : l ≡ v = sym (h at.on) ∙ ap f (omega arith) ∙ value in
      subst (λ (e : EndOf). ValueFits e.side (channel_at tables e.channel).kind v) (sym here) (subst (IsInRange (channel_at tables c).kind) literal s)
  ask_fits (Receive c) n h s has ask =
      let place : EndPlace = record { which = end_number ends c; on = n; met = n + 1 } in
      let is = of_some (waits_at k place f) (value_at (end_at ends k).side place f) v ask in
      let at = is_asked c k ends (end_number ends c == k) (is_true (f n)) (not (is_true (f (n + 1)))) refl is.0 in
      let here : end_at ends k ≡ record { channel = c; side = Receiver } = ap (end_at ends) (sym at.which) ∙ has.here in
      subst (λ (e : EndOf). ValueFits e.side (channel_at tables e.channel).kind v) (sym here) tt

-- an end that wasn't answered waits on
still_waits_side : (s u : Side) (c d : ℕ) (w : ℤ) (j : Joined) (x : DomainState) → c ≢ d → WaitsAs s c w x.statement → WaitsAs s c w (side_done u d j.value x).statement
still_waits_side Sender Sender c d w j x ne h = still_sends (λ k. k == d) no_channel c w x.statement (ne_eqb c d ne) h
still_waits_side Sender Receiver c d w j x ne h = still_sends no_channel (λ k. k == d) c w x.statement refl h
still_waits_side Receiver Sender c d w j x ne h = (still_receives (λ k. k == d) no_channel c x.statement refl h.0, h.1)
still_waits_side Receiver Receiver c d w j x ne h = (still_receives no_channel (λ k. k == d) c x.statement (ne_eqb c d ne) h.0, h.1)

pub still_waits : (ends : List EndOf) (answers : List (Option Joined)) (k n : ℕ) (w : ℤ) (x : DomainState) → AreApart ends → k < length ends → n ≤ length ends → get_or answers k None ≡ None →
    Waits (end_at ends k) w x.statement → Waits (end_at ends k) w (with_answers ends answers n x).statement
still_waits ends answers k zero w x apart within room none waits = waits
still_waits ends answers k (suc n) w x apart within room none waits =
    let rest = still_waits ends answers k n w x apart within (omega (arith, room)) none waits in
    elim (cases_eq n k) [
      | inl e ↦ subst (λ a. Waits (end_at ends k) w (end_done (end_at ends n) a (with_answers ends answers n x)).statement) (sym (ap (λ m. get_or answers m None) e ∙ none)) rest
      | inr ne ↦ by_answer (end_at ends n) (get_or answers n None) (with_answers ends answers n x) (apart k n within (omega (arith, room)) (λ e. ne (sym e))) rest
    ]
  where
    by_answer : (f : EndOf) (a : Option Joined) (y : DomainState) → (end_at ends k).channel ≢ f.channel → Waits (end_at ends k) w y.statement → Waits (end_at ends k) w (end_done f a y).statement
    by_answer f None y ne h = h
    by_answer f (Some j) y ne h = still_waits_side (end_at ends k).side f.side (end_at ends k).channel f.channel w j y ne h

-- the joins that recalls and offers answer
standing_join : (o : Option StandingOffer) (kind : Kind) (side : Side) (stamp : ℕ) (e : EndOf) (t : Stmt) (j : Joined) → IsSomeAnd o (IsWaitingOffer e stamp t) →
    IfSome o (λ (s : StandingOffer). JoinsOffer (record { side = side; kind = kind; offer = o; room = 0 }) s.value s.stamp j) → FitsJoin kind stamp j
standing_join None kind side stamp e t j some joins = absurd some
standing_join (Some s) kind side stamp e t j some joins = record { mine = joins.mine ∙ some.is_offer.same_stamp; theirs = joins.theirs; value = joins.in_kind }

pub recalled_fits : (standing : Bool) (answer : Option Joined) (before after : EndView) (e : EndOf) (stamp : ℕ) (kind : Kind) (t : Stmt) → before.kind ≡ kind →
    (standing ≡ true → IsSomeAnd before.offer (IsWaitingOffer e stamp t)) → IsRecalled standing answer before after → IfSome answer (FitsJoin kind stamp)
recalled_fits standing None before after e stamp kind t same some recalled = tt
recalled_fits false (Some j) before after e stamp kind t same some recalled = absurd (none-some j (sym (recalled.alone refl)))
recalled_fits true (Some j) before after e stamp kind t same some recalled =
    subst (λ k. FitsJoin k stamp j) same (standing_join before.offer before.kind before.side stamp e t j (some refl) (loosen before.offer recalled.joined))
  where
    loosen : (o : Option StandingOffer) → IfSome o (λ (s : StandingOffer). JoinsOffer before s.value s.stamp j) →
        IfSome o (λ (s : StandingOffer). JoinsOffer (record { side = before.side; kind = before.kind; offer = before.offer; room = 0 }) s.value s.stamp j)
    loosen None h = tt
    loosen (Some s) h = record { mine = h.mine; theirs = h.theirs; in_kind = h.in_kind; own_value = h.own_value }

pub offered_fits : (ask : Option ℤ) (answer : Option Joined) (before after : EndView) (stamp : ℕ) (kind : Kind) → before.kind ≡ kind → IsOffered ask stamp answer before after → IfSome answer (FitsJoin kind stamp)
offered_fits ask None before after stamp kind same offered = tt
offered_fits None (Some j) before after stamp kind same offered = absurd (none-some j (sym (offered.alone refl)))
offered_fits (Some v) (Some j) before after stamp kind same offered =
    let met : JoinsOffer before v stamp j = offered.joined v refl in
    subst (λ k. FitsJoin k stamp j) same (record { mine = met.mine; theirs = met.theirs; value = met.in_kind })

-- an end stands after its offer as the domain has it
pub offered_stands : (ask : Option ℤ) (answer : Option Joined) (before after : EndView) (e : EndOf) (stamp : ℕ) (t : Stmt) → before.side ≡ e.side →
    ((w : ℤ) → ask ≡ Some w → answer ≡ None → Waits e w t) → IsOffered ask stamp answer before after → stands_after ask answer ≡ true → IsSomeAnd after.offer (IsWaitingOffer e stamp t)
offered_stands None answer before after e stamp t side waits offered is = absurd (true≢false (sym is))
offered_stands (Some w) (Some j) before after e stamp t side waits offered is = absurd (true≢false (sym is))
offered_stands (Some w) None before after e stamp t side waits offered is = at_offer after.offer (offered.stands w refl refl)
  where
    at_offer : (o : Option StandingOffer) → IsSomeAnd o (IsOffer before.side w stamp) → IsSomeAnd o (IsWaitingOffer e stamp t)
    at_offer None h = h
    at_offer (Some s) h = record { value = w; waits = waits w refl refl; is_offer = subst (λ x. IsOffer x w stamp s) side h }
