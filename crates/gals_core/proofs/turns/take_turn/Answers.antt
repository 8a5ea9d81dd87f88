use Rattle.std.proofs.Common.{◌≡◌, ◌<◌, ◌≤◌, ◌+◌, ◌∷◌, List, ℕ, suc, length, drop, get_or, false, subst, sym, ap, ◌∙◌, arith}
use Rattle.std.proofs.Math.Seq.{drop-cons}
use Rattle.std.proofs.lemmas.List.{get_or_default}
use Rattle.kernel_terms.specs.declared.system.System.{System}
use Rattle.kernel_terms.specs.Marks.{Going, is_over}
use Rattle.kernel_rules.specs.definitions.LegalTick.{Inputs}
use Rattle.signal_store.specs.definitions.Handed.{handed}
use Rattle.domain_core.specs.definitions.step.Domains.{DomainView, ends_in}
use Rattle.domain_core.specs.definitions.step.Steps.{FitsEnd, LeavesEnd, IsStep}
use Rattle.gals_core.specs.Channels.{ChannelsState, Moves, end_view}
use Rattle.gals_core.specs.BetweenTurns.{IsBetweenTurns}
use Rattle.gals_core.specs.definitions.OrderPlans.{view_at, no_domain}
use Rattle.gals_core.proofs.LoopTurns.{in_views, in_ticks, countable, spared, goes, runs, counted, all_fit, skipped, stepped}
use Rattle.gals_core.proofs.turns.take_turn.Goals as goal

split : (system : System) (inputs : Inputs) (turns : List ℕ) (at : ℕ) (views : List DomainView) (b : ChannelsState) → at < length turns → IsBetweenTurns system inputs turns (drop at turns) views b →
    IsBetweenTurns system inputs turns (get_or turns at 0 ∷ drop (at + 1) turns) views b
split system inputs turns at views b less k =
    let q : suc at ≡ at + 1 = omega arith in
    subst (λ z. IsBetweenTurns system inputs turns z views b) (drop-cons turns at 0 less ∙ ap (λ z. get_or turns at 0 ∷ drop z turns) q) k

-- the domain whose turn it is, as it is read
own_view : (system : System) (views : List DomainView) (d : ℕ) (v : DomainView) → d < length views → v ≡ get_or views d v → view_at system views d ≡ v
own_view system views d v less is = get_or_default views d (no_domain system) v less ∙ sym is

pub returns-then-ended : goal.returns-then-ended
returns-then-ended c =
    let system = c.args.system.now in
    let inputs = handed c.args.inputs.now in
    let turns = c.args.turns.now in
    let rest = drop (c.args.at + 1) turns in
    let d = get_or turns c.args.at 0 in
    let views = c.args.domains.now.items in
    let b = c.args.channels.now in
    let k = split system inputs turns c.args.at views b c.requires.within c.requires.between in
    let is = own_view system views d c.index.result.now (in_views system inputs turns rest d views b k) c.index.ensures in
    skipped system inputs turns rest d views b k (ap (λ (z : DomainView). is_over z.log.mark) is ∙ sym c.ended.ensures ∙ c.if-ended.true)

pub begin_turn-requires-clause-within : goal.begin_turn-requires-clause-within
begin_turn-requires-clause-within c =
    let turns = c.args.turns.now in
    in_ticks c.args.system.now (handed c.args.inputs.now) turns (drop (c.args.at + 1) turns) (get_or turns c.args.at 0) c.args.domains.now.items c.args.channels.now
    (split c.args.system.now (handed c.args.inputs.now) turns c.args.at c.args.domains.now.items c.args.channels.now c.requires.within c.requires.between)

pub begin_turn-requires-clause-limit : goal.begin_turn-requires-clause-limit
begin_turn-requires-clause-limit c =
    let turns = c.args.turns.now in
    countable c.args.system.now (handed c.args.inputs.now) turns (drop (c.args.at + 1) turns) (get_or turns c.args.at 0) c.args.domains.now.items c.args.channels.now
    (split c.args.system.now (handed c.args.inputs.now) turns c.args.at c.args.domains.now.items c.args.channels.now c.requires.within c.requires.between)

pub index_mut-requires : goal.index_mut-requires
index_mut-requires c =
    let turns = c.args.turns.now in
    let less = in_views c.args.system.now (handed c.args.inputs.now) turns (drop (c.args.at + 1) turns) (get_or turns c.args.at 0) c.args.domains.now.items c.args.channels.now
    (split c.args.system.now (handed c.args.inputs.now) turns c.args.at c.args.domains.now.items c.args.channels.now c.requires.within c.requires.between) in
    omega (arith, less, c.args.domains.now.ok.0)

pub step-requires-clause-going : goal.step-requires-clause-going
step-requires-clause-going c =
    let system = c.args.system.now in
    let inputs = handed c.args.inputs.now in
    let turns = c.args.turns.now in
    let rest = drop (c.args.at + 1) turns in
    let d = get_or turns c.args.at 0 in
    let views = c.args.domains.now.items in
    let b = c.args.channels.now in
    let k = split system inputs turns c.args.at views b c.requires.within c.requires.between in
    let less = in_views system inputs turns rest d views b k in
    let before = own_view system views d c.index.result.now less c.index.ensures in
    let is = own_view system views d c.index_mut.result.now less c.index_mut.ensures.value in
    subst (λ (z : DomainView). z.log.mark ≡ Going) is (goes system inputs turns rest d views b k (ap (λ (z : DomainView). is_over z.log.mark) before ∙ sym c.ended.ensures ∙ c.if-ended.false))

pub step-requires-clause-running : goal.step-requires-clause-running
step-requires-clause-running c =
    let system = c.args.system.now in
    let inputs = handed c.args.inputs.now in
    let turns = c.args.turns.now in
    let rest = drop (c.args.at + 1) turns in
    let d = get_or turns c.args.at 0 in
    let views = c.args.domains.now.items in
    let b = c.args.channels.now in
    let k = split system inputs turns c.args.at views b c.requires.within c.requires.between in
    let is = own_view system views d c.index_mut.result.now (in_views system inputs turns rest d views b k) c.index_mut.ensures.value in
    subst (λ (z : DomainView). z.stopped ≡ false) is (runs system inputs turns rest d views b k)

pub step-requires-clause-spare : goal.step-requires-clause-spare
step-requires-clause-spare c =
    let system = c.args.system.now in
    let inputs = handed c.args.inputs.now in
    let turns = c.args.turns.now in
    let rest = drop (c.args.at + 1) turns in
    let d = get_or turns c.args.at 0 in
    let views = c.args.domains.now.items in
    let b = c.args.channels.now in
    let k = split system inputs turns c.args.at views b c.requires.within c.requires.between in
    let is = own_view system views d c.index_mut.result.now (in_views system inputs turns rest d views b k) c.index_mut.ensures.value in
    subst (λ (z : DomainView). 1 ≤ z.spare) is (spared system inputs turns rest d views b k)

pub step-requires-clause-count : goal.step-requires-clause-count
step-requires-clause-count c =
    let system = c.args.system.now in
    let inputs = handed c.args.inputs.now in
    let turns = c.args.turns.now in
    let rest = drop (c.args.at + 1) turns in
    let d = get_or turns c.args.at 0 in
    let views = c.args.domains.now.items in
    let b = c.args.channels.now in
    let k = split system inputs turns c.args.at views b c.requires.within c.requires.between in
    let is = own_view system views d c.index_mut.result.now (in_views system inputs turns rest d views b k) c.index_mut.ensures.value in
    subst (λ (z : DomainView). length c.begin_turn.new.self.ends ≡ length (ends_in z)) is
    (subst (λ (z : ChannelsState). length z.ends ≡ length (ends_in (view_at system views d))) (sym c.begin_turn.ensures) (counted system inputs turns rest d views b k))

pub step-requires-clause-fits : goal.step-requires-clause-fits
step-requires-clause-fits c =
    let system = c.args.system.now in
    let inputs = handed c.args.inputs.now in
    let turns = c.args.turns.now in
    let rest = drop (c.args.at + 1) turns in
    let d = get_or turns c.args.at 0 in
    let views = c.args.domains.now.items in
    let b = c.args.channels.now in
    let k = split system inputs turns c.args.at views b c.requires.within c.requires.between in
    let is = own_view system views d c.index_mut.result.now (in_views system inputs turns rest d views b k) c.index_mut.ensures.value in
    subst (λ (z : DomainView). (n : ℕ) → n < length (ends_in z) → FitsEnd z n (end_view c.begin_turn.new.self n)) is
    (subst (λ (z : ChannelsState). (n : ℕ) → n < length (ends_in (view_at system views d)) → FitsEnd (view_at system views d) n (end_view z n)) (sym c.begin_turn.ensures) (all_fit system inputs turns rest d views b k))

pub returns : goal.returns
returns c =
    let system = c.args.system.now in
    let inputs = handed c.args.inputs.now in
    let turns = c.args.turns.now in
    let rest = drop (c.args.at + 1) turns in
    let d = get_or turns c.args.at 0 in
    let views = c.args.domains.now.items in
    let b = c.args.channels.now in
    let k = split system inputs turns c.args.at views b c.requires.within c.requires.between in
    let is = own_view system views d c.index_mut.result.now (in_views system inputs turns rest d views b k) c.index_mut.ensures.value in
    let after = c.step.new.ends in
    let new = c.step.new.self in
    let step = subst (λ (z : ChannelsState). IsStep Moves (handed c.args.inputs.now) z after (view_at system views d) new c.step.result) c.begin_turn.ensures
    (subst (λ (z : DomainView). IsStep Moves (handed c.args.inputs.now) c.begin_turn.new.self after z new c.step.result) (sym is) c.step.ensures.step) in
    let leaves = subst (λ (z : ChannelsState). (n : ℕ) → n < length (ends_in (view_at system views d)) → LeavesEnd new n (end_view z n) (end_view after n)) c.begin_turn.ensures
    (subst (λ (z : DomainView). (n : ℕ) → n < length (ends_in z) → LeavesEnd new n (end_view c.begin_turn.new.self n) (end_view after n)) (sym is) c.step.ensures.leaves) in
    stepped system inputs turns rest d views b k after new c.step.result step leaves
