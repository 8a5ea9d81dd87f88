use Rattle.std.proofs.Common.{◌≡◌, ℕ, ◌+◌, ◌-◌, [], ◌∷◌, ◌++◌, drop, arith, List, length, map, sym, subst, ap, ◌∙◌}
use Rattle.std.proofs.lemmas.Result.{IfOk-weaker}
use Rattle.kernel_terms.specs.declared.tables.Tables.{Tables}
use Rattle.kernel_terms.specs.Expressions.{expression}
use Rattle.kernel_terms.specs.Statements.{Stmt, Seq, statement, Nothing, Pause, Emit, Assign, Send, Receive, optional_expression, sequence, parallel}
use Rattle.kernel_terms.proofs.StatementLayers.{statement-Nothing, statement-Pause, statement-Emit, statement-Assign, statement-Send, statement-Receive}
use Rattle.std.proofs.lemmas.List.{nil_from_length}
use Rattle.surf_graph.proofs.StartForms.{unbuilt-wide}
use Rattle.surf_graph.specs.declared.copy_builder.Turn.{Turn}
use Rattle.surf_graph.proofs.SequenceStarts.{turn_opens, Passes, passes_none, passes_step, passes_stop, passes_end, not_false, not_true}
use Rattle.kernel_terms.specs.declared.term.Term.{Term}
use Rattle.surf_graph.specs.declared.copy_builder.Given.{Given}
use Rattle.surf_graph.specs.declared.copy_builder.Made.{Made}
use Rattle.surf_graph.specs.StartsBuilt.{Starts, Closes}
use Rattle.surf_graph.proofs.starting.+start.Goals as goal

pub start-returns-in-Nothing : goal.start-returns-in-Nothing
start-returns-in-Nothing t c =
    let new = c.start_nothing.new.b in
    IfOk-weaker c.start_nothing.result (λ (made : Made). (tables : Tables) → Starts tables c.args.b.now new c.args.given Nothing made)
    (λ (made : Made). Starts c.args.tables.now c.args.b.now new c.args.given (statement c.args.term.now) made)
    (λ made h. subst (λ (p : Stmt). Starts c.args.tables.now c.args.b.now new c.args.given p made) (sym (statement-Nothing c.args.term.now c.in-Nothing.is)) (h c.args.tables.now))
    c.start_nothing.ensures

pub start-returns-in-Pause : goal.start-returns-in-Pause
start-returns-in-Pause t c =
    let new = c.start_pause.new.b in
    IfOk-weaker c.start_pause.result (λ (made : Made). (tables : Tables) → Starts tables c.args.b.now new c.args.given Pause made)
    (λ (made : Made). Starts c.args.tables.now c.args.b.now new c.args.given (statement c.args.term.now) made)
    (λ made h. subst (λ (p : Stmt). Starts c.args.tables.now c.args.b.now new c.args.given p made) (sym (statement-Pause c.args.term.now c.in-Pause.is)) (h c.args.tables.now))
    c.start_pause.ensures

pub start-returns-in-Emit : goal.start-returns-in-Emit
start-returns-in-Emit t c =
    let new = c.start_emission.new.b in
    IfOk-weaker c.start_emission.result (λ (made : Made). (tables : Tables) → Starts tables c.args.b.now new c.args.given (Emit c.in-Emit.signal (optional_expression c.in-Emit.value)) made)
    (λ (made : Made). Starts c.args.tables.now c.args.b.now new c.args.given (statement c.args.term.now) made)
    (λ made h. subst (λ (p : Stmt). Starts c.args.tables.now c.args.b.now new c.args.given p made) (sym (statement-Emit c.args.term.now c.in-Emit.signal c.in-Emit.value c.in-Emit.is)) (h c.args.tables.now))
    c.start_emission.ensures

pub start-returns-in-Assign : goal.start-returns-in-Assign
start-returns-in-Assign t c =
    let new = c.start_assignment.new.b in
    IfOk-weaker c.start_assignment.result (λ (made : Made). (tables : Tables) → Starts tables c.args.b.now new c.args.given (Assign c.in-Assign.var (expression c.in-Assign.value)) made)
    (λ (made : Made). Starts c.args.tables.now c.args.b.now new c.args.given (statement c.args.term.now) made)
    (λ made h. subst (λ (p : Stmt). Starts c.args.tables.now c.args.b.now new c.args.given p made) (sym (statement-Assign c.args.term.now c.in-Assign.var c.in-Assign.value c.in-Assign.is)) (h c.args.tables.now))
    c.start_assignment.ensures

pub start-returns-in-Send : goal.start-returns-in-Send
start-returns-in-Send t c =
    let new = c.start_send.new.b in
    IfOk-weaker c.start_send.result (λ (made : Made). (tables : Tables) → Starts tables c.args.b.now new c.args.given (Send c.in-Send.channel (expression c.in-Send.value)) made)
    (λ (made : Made). Starts c.args.tables.now c.args.b.now new c.args.given (statement c.args.term.now) made)
    (λ made h. subst (λ (p : Stmt). Starts c.args.tables.now c.args.b.now new c.args.given p made) (sym (statement-Send c.args.term.now c.in-Send.channel c.in-Send.value c.in-Send.is)) (h c.args.tables.now))
    c.start_send.ensures

pub start-returns-in-Receive : goal.start-returns-in-Receive
start-returns-in-Receive t c =
    let new = c.start_receive.new.b in
    IfOk-weaker c.start_receive.result (λ (made : Made). (tables : Tables) → Starts tables c.args.b.now new c.args.given (Receive c.in-Receive.channel) made)
    (λ (made : Made). Starts c.args.tables.now c.args.b.now new c.args.given (statement c.args.term.now) made)
    (λ made h. subst (λ (p : Stmt). Starts c.args.tables.now c.args.b.now new c.args.given p made) (sym (statement-Receive c.args.term.now c.in-Receive.channel c.in-Receive.is)) (h c.args.tables.now))
    c.start_receive.ensures

pub start_parallel-returns-then-count-eq0 : goal.start_parallel-returns-then-count-eq0
start_parallel-returns-then-count-eq0 t c =
    let new = c.start_nothing.new.b in
    IfOk-weaker c.start_nothing.result (λ (made : Made). (tables : Tables) → Starts tables c.args.b.now new c.args.given Nothing made)
    (λ (made : Made). Starts c.args.tables.now c.args.b.now new c.args.given (parallel (map statement c.args.parts.now)) made)
    (λ made h. subst (λ (ts : List Term). Starts c.args.tables.now c.args.b.now new c.args.given (parallel (map statement ts)) made) (sym (nil_from_length c.args.parts.now c.if-count-eq0.true)) (h c.args.tables.now))
    c.start_nothing.ensures

pub start_sequence-returns-then-count-eq0 : goal.start_sequence-returns-then-count-eq0
start_sequence-returns-then-count-eq0 t c =
    let new = c.start_nothing.new.b in
    IfOk-weaker c.start_nothing.result (λ (made : Made). (tables : Tables) → Starts tables c.args.b.now new c.args.given Nothing made)
    (λ (made : Made). Starts c.args.tables.now c.args.b.now new c.args.given (sequence (map statement c.args.parts.now)) made)
    (λ made h. subst (λ (ts : List Term). Starts c.args.tables.now c.args.b.now new c.args.given (sequence (map statement ts)) made) (sym (nil_from_length c.args.parts.now c.if-count-eq0.true)) (h c.args.tables.now))
    c.start_nothing.ensures

pub start_parallel-unreachable-requires : goal.start_parallel-unreachable-requires
start_parallel-unreachable-requires t c = unbuilt-wide (length c.args.b.now.wires.variables.items) (length c.args.b.now.emits.items) c.args.parts.now c.if-count-gt1.true c.requires.built

pub open_turn-returns : goal.open_turn-returns
open_turn-returns t c =
    turn_opens c.args.tables.now c.args.b.now c.take_own.new.self c.start.new.b c.give_is_status.new.builder c.args.given (statement c.args.part.now) c.in_ok-own.own c.in_ok-made.made
    c.in_ok-own.ensures.first c.in_ok-own.ensures.next c.in_ok-own.ensures.below c.take_own.ensures.equations c.take_own.ensures.further c.in_ok-made.ensures c.in_ok-give_is_status.ensures

pub start_sequence-loop-i-init : goal.start_sequence-loop-i-init
start_sequence-loop-i-init t c =
    let whole = sequence (map statement c.args.parts.now) in
    subst (λ (ts : List Turn). Passes c.args.tables.now c.args.b.now c.args.b.now c.args.given c.args.given whole whole ts) (sym c.new-turns.ensures.items)
    (passes_none c.args.tables.now c.args.b.now c.args.given whole c.requires.built c.requires.room)

pub start_sequence-loop-i-preserved : goal.start_sequence-loop-i-preserved
start_sequence-loop-i-preserved t c =
    let tables = c.args.tables.now in
    let old = c.args.b.now in
    let now = c.loop-i.b in
    let parts = c.args.parts.now in
    let whole = sequence (map statement parts) in
    let p = statement c.index-parts-i.result in
    let q = sequence (map statement (drop (c.loop-i.i + 1) parts)) in
    let own = c.in_ok-opened.opened.own in
    let made = c.in_ok-opened.opened.made in
    let here : Given = record { go = own + 2; hold = 0; keep = c.loop-i.here.keep; register = made.register } in
    let before : Passes tables old now c.args.given c.loop-i.here whole (Seq p q) c.loop-i.turns.items = subst (λ (r : Stmt). Passes tables old now c.args.given c.loop-i.here whole r c.loop-i.turns.items) c.turn_is_built.ensures.turn c.loop-i.invariant in
    subst (λ (ts : List Turn). Passes tables old c.open_turn.new.b c.args.given here whole q ts) (sym c.in_ok-push.ensures.items)
    (passes_step tables old now c.open_turn.new.b c.args.given c.loop-i.here whole p q c.loop-i.turns.items own made before c.in_ok-opened.ensures (not_false made.ends c.if-not-opened.false))

pub start_sequence-returns-then-not-opened : goal.start_sequence-returns-then-not-opened
start_sequence-returns-then-not-opened t c =
    let tables = c.args.tables.now in
    let old = c.args.b.now in
    let now = c.loop-i.b in
    let mid = c.open_turn.new.b in
    let b = c.close_turns.new.builder in
    let parts = c.args.parts.now in
    let whole = sequence (map statement parts) in
    let p = statement c.index-parts-i.result in
    let q = sequence (map statement (drop (c.loop-i.i + 1) parts)) in
    let own = c.in_ok-opened.opened.own in
    let made = c.in_ok-opened.opened.made in
    let all = c.in_ok-status.status in
    let turn : Turn = record { own = own; status = made.status } in
    let before : Passes tables old now c.args.given c.loop-i.here whole (Seq p q) c.loop-i.turns.items = subst (λ (r : Stmt). Passes tables old now c.args.given c.loop-i.here whole r c.loop-i.turns.items) c.turn_is_built.ensures.turn c.loop-i.invariant in
    let closed : Closes mid.builder b (c.loop-i.turns.items ++ (turn ∷ [])) 0 all = subst (λ (ts : List Turn). Closes mid.builder b ts 0 all) (c.deref.ensures.value ∙ c.in_ok-push.ensures.items) c.in_ok-status.ensures in
    passes_stop tables old now mid b c.args.given c.loop-i.here whole p q c.loop-i.turns.items own all made before c.in_ok-opened.ensures (not_true made.ends c.if-not-opened.true) closed

pub start_sequence-returns : goal.start_sequence-returns
start_sequence-returns t c =
    let tables = c.args.tables.now in
    let old = c.args.b.now in
    let now = c.loop-i.b in
    let mid = c.start.new.b in
    let b = c.close_turns-2.new.builder in
    let parts = c.args.parts.now in
    let whole = sequence (map statement parts) in
    let p = statement c.index-parts-count.result in
    let made = c.in_ok-made.made in
    let all = c.in_ok-status-2.status in
    let at : c.loop-i.i ≡ length parts - 1 = omega arith in
    let before : Passes tables old now c.args.given c.loop-i.here whole (sequence (map statement (drop (length parts - 1) parts))) c.loop-i.turns.items = subst (λ (k : ℕ). Passes tables old now c.args.given c.loop-i.here whole (sequence (map statement (drop k parts))) c.loop-i.turns.items) at c.loop-i.invariant in
    let last : Passes tables old now c.args.given c.loop-i.here whole p c.loop-i.turns.items = subst (λ (r : Stmt). Passes tables old now c.args.given c.loop-i.here whole r c.loop-i.turns.items) c.last_is_built.ensures.all before in
    let closed : Closes mid.builder b c.loop-i.turns.items made.status all = subst (λ (ts : List Turn). Closes mid.builder b ts made.status all) c.deref-2.ensures.value c.in_ok-status-2.ensures in
    passes_end tables old now mid b c.args.given c.loop-i.here whole p c.loop-i.turns.items all made last c.in_ok-made.ensures closed
