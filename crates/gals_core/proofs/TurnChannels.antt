-- All channels of a turn, one after another.
use Rattle.std.proofs.Common.{◌≡◌, ◌≢◌, ℕ, zero, suc, ◌+◌, ◌<◌, ℤ, List, length, get_or, Option, None, refl, sym, ap, ◌∙◌, subst, inl, inr, arith}
use Rattle.std.proofs.lemmas.Bool.{cases_eq, cases_lt}
use Rattle.kernel_terms.specs.declared.system.System.{System}
use Rattle.kernel_terms.specs.Systems.{tables_of}
use Rattle.kernel_terms.specs.TableEntries.{channel_at}
use Rattle.kernel_rules.specs.definitions.LegalTick.{DomainState, Inputs}
use Rattle.tick_log.specs.definitions.Runs.{Entry}
use Rattle.cell_core.specs.declared.moves.Side.{Side}
use Rattle.cell_core.specs.declared.moves.Side.TheVariants.{Sender, Receiver}
use Rattle.cell_core.specs.declared.moves.Joined.{Joined}
use Rattle.cell_core.specs.definitions.Cells.{other, standing_at}
use Rattle.domain_core.specs.definitions.step.EndCalls.{end_at}
use Rattle.domain_core.specs.step.Answers.{raised, raised_by}
use Rattle.domain_core.specs.definitions.step.Domains.{DomainView, ends_of}
use Rattle.domain_core.specs.definitions.step.Steps.{Waits, WaitsAs, IsAsk}
use Rattle.domain_core.specs.step.Answers.{with_answers, end_done}
use Rattle.domain_core.specs.definitions.runs.Systems.{sender_of, domain_count, channel_count, setup_of}
use Rattle.gals_core.specs.Channels.{ChannelsState, cell_in, history_in}
use Rattle.gals_core.specs.RunsOverCells.{domain_at, found_state}
use Rattle.domain_core.proofs.lemmas.step.OwnEnds.{IsOwn, own_end, has_side, rises}
use Rattle.gals_core.proofs.OwnDomains.{domain_is}
use Rattle.gals_core.proofs.EndAnswerLemmas.{waited}
use Rattle.gals_core.proofs.ChannelOffers.{Quiet, at_channel, waits_open}
use Rattle.gals_core.proofs.FacingEnds.{is_domain, across, two_sides, side_waits, own_of}
use Rattle.gals_core.proofs.ChannelJoins.{TurnOf, Stage, skip, join}

module _ (system : System) (inputs : Inputs) (turns rest : List ℕ) (d : ℕ) (view : ℕ → DomainView) (old new : ChannelsState) (after : DomainState) (asks : List (Option ℤ)) (replies : List (Option Joined)) (stamp : ℕ) (entries : ℕ → List Entry) (top : ℕ)
    (turn : TurnOf system inputs d view old new after asks replies stamp) where
  abbrev At : ℕ → ℕ → ℕ → Type 0
  At c n left = Stage system inputs turns rest d view old new after replies stamp entries top c n left

  quiet : (c n left : ℕ) (x : At c n (suc left)) → (less : n < length (ends_of (tables_of system) d)) → (end_at (ends_of (tables_of system) d) n).channel ≡ c →
      Quiet (end_at (ends_of (tables_of system) d) n) (get_or asks n None) old new (get_or replies n None) → At (suc c) (suc n) left
  quiet c n left x less at h =
      let tables = tables_of system in
      let ends = ends_of tables d in
      let e = end_at ends n in
      let a = e.side in
      let b = other a in
      let p = setup_of system inputs in
      let in_range : c < channel_count p = omega (arith, x.sum) in
      let own : domain_at tables a c ≡ d = ap (domain_at tables a) (sym at) ∙ domain_is tables d e (own_end tables d n less) in
      let o = domain_at tables b c in
      let o_within : o < domain_count p = is_domain system inputs c turn.sys in_range b in
      let o_other : o ≢ d = λ q. across system inputs c turn.sys in_range a (q ∙ sym own) in
      skip system inputs turns rest d view old new after asks replies stamp entries top turn c n (suc n) left x (omega arith) (omega (arith, less))
      (λ k l. elim (cases_eq k n) [ inl q ↦ omega (arith, ap (λ z. (end_at ends z).channel) q, at) | inr ne ↦ omega (arith, x.before k (omega (arith, l, ne))) ])
      (λ k l lk. omega (arith, rises tables d n k (omega (arith, l)) lk, at))
      (ap (λ z. end_done e z (with_answers ends replies n after)) h.reply_is)
      (ap (λ z. raised_by z (raised replies n stamp)) h.reply_is)
      (λ b' far. elim (two_sides a b') [
        | inl q ↦ absurd (far (ap (λ z. domain_at tables z c) q ∙ own))
        | inr q ↦
            subst (λ z. standing_at z (cell_in new c) ≡ standing_at z (cell_in old c)) (sym q)
            (subst (λ z. standing_at b (cell_in new z) ≡ standing_at b (cell_in old z)) at h.other_stays)
      ])
      (subst (λ z. (history_in new z).rows ≡ (history_in old z).rows) at h.rows_stay)
      (λ whose v both. elim h.why [
        | inl none ↦
            let w = side_waits system inputs x.s c v both a in
            let there : WaitsAs a c w.0 (with_answers ends replies n after).statement =
            subst (λ z. WaitsAs a c w.0 z.statement) x.mine (subst (λ z. WaitsAs a c w.0 (x.s.domain z).statement) own w.1) in
            let here : Waits e w.0 (with_answers ends replies n after).statement = subst (λ z. WaitsAs a z w.0 (with_answers ends replies n after).statement) (sym at) there in
            let asked : (u : ℤ) → Waits e u after.statement → ⊥ = subst (IsAsk e after.statement) none (turn.asked n less) in
            asked w.0 (waited ends replies n after e w.0 here)
        | inr not_open ↦
            let w = side_waits system inputs x.s c v both b in
            let f = has_side tables o c b in_range (own_of system inputs c turn.sys in_range b) in
            let g = end_at (ends_of tables o) f.place in
            let there : WaitsAs b c w.0 (found_state system o x.cell (view o)).statement = subst (λ z. WaitsAs b c w.0 z.statement) (x.theirs o o_within o_other) w.1 in
            let here : Waits g w.0 (found_state system o x.cell (view o)).statement = subst (λ z. Waits z w.0 (found_state system o x.cell (view o)).statement) (sym f.is) there in
            let same : standing_at g.side (x.cell g.channel) ≡ standing_at b (cell_in old e.channel) =
            ap (λ z. standing_at z.side (x.cell z.channel)) f.is ∙ ap (standing_at b) (x.cells_left c (omega arith) ∙ ap (cell_in old) (sym at)) in
            waits_open system o x.cell (view o) (x.others o o_within o_other) f.place f.within (λ u t q. not_open u t (sym same ∙ q)) w.0 here
      ])

  foreign : (c n left : ℕ) (x : At c n (suc left)) → ((k : ℕ) → k < length (ends_of (tables_of system) d) → (end_at (ends_of (tables_of system) d) k).channel ≢ c) → At (suc c) n left
  foreign c n left x none =
      let tables = tables_of system in
      let ends = ends_of tables d in
      let p = setup_of system inputs in
      let in_range : c < channel_count p = omega (arith, x.sum) in
      let same = turn.offered.other_cells c (λ k l q. none k l (sym q)) in
      let not_own : (side : Side) → IsOwn d side (channel_at tables c) → ⊥ = λ side own. let f = has_side tables d c side in_range own in none f.place f.within (ap (λ z. z.channel) f.is) in
      skip system inputs turns rest d view old new after asks replies stamp entries top turn c n n left x (omega arith) x.ends_within
      (λ k l. omega (arith, x.before k l))
      (λ k l lk. omega (arith, x.beyond k l lk, none k lk))
      refl refl
      (λ b far. ap (standing_at b) same)
      (turn.offered.other_rows c (λ k l q. none k l (sym q)))
      (λ whose v both. elim whose [
        | inl q ↦ not_own Sender q
        | inr q ↦ elim (cases_eq (sender_of p c) d) [ inl z ↦ not_own Sender z | inr z ↦ not_own Receiver (z, q) ]
      ])

  next : (c n left : ℕ) → At c n (suc left) → (m : ℕ) × At (suc c) m left
  next c n left x =
      let ends = ends_of (tables_of system) d in
      elim (cases_lt n (length ends)) [
        | inl less ↦ elim (cases_eq (end_at ends n).channel c) [
          | inl at ↦ elim (at_channel (end_at ends n) (get_or asks n None) stamp old new (get_or replies n None) (turn.offered.passed n less)) [
            | inl q ↦ (suc n, quiet c n left x less at q)
            | inr q ↦ (suc n, join system inputs turns rest d view old new after asks replies stamp entries top turn c n left x less at q)
          ]
          | inr ne ↦ (
            n,
            foreign c n left x
                (λ k l q. elim (cases_lt k n) [
                  | inl lk ↦ omega (arith, x.before k lk, q)
                  | inr lk ↦ elim (cases_eq k n) [
                    | inl same ↦ ne (ap (λ z. (end_at ends z).channel) (sym same) ∙ q)
                    | inr far ↦ omega (arith, rises (tables_of system) d n k (omega (arith, lk, far)) l, x.beyond n (omega arith) less, q)
                  ]
                ]),
          )
        ]
        | inr over ↦
            (n, foreign c n left x (λ k l q. omega (arith, x.before k (omega (arith, l, over)), q)))
      ]

  pub all_stages : (left c n : ℕ) → At c n left → (m : ℕ) × At (c + left) m 0
  all_stages zero c n x = (n, subst (λ z. At z n 0) (omega arith) x)
  all_stages (suc left) c n x =
      let y = next c n left x in
      let z = all_stages left (suc c) y.0 y.1 in
      (z.0, subst (λ k. At k z.0 0) (omega arith) z.1)
