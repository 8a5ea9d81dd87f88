-- The traps of a source nest no deeper than its levels.
use Rattle.std.proofs.Common.{◌≡◌, ℕ, suc, max, ◌+◌, ◌<◌, ◌≤◌, true, false, ◌&&◌, nat_le, cond, List, [], ◌∷◌, length, map, Option, Some, None, ap, refl, sym, ◌∙◌, subst, arith}
use Rattle.std.specs.List.{list_all}
use Rattle.std.proofs.lemmas.Bool.{le-leb}
use Rattle.java_values.specs.declared.op.Op2.{Op2}
use Rattle.kernel_terms.specs.Limits.{most_traps}
use Rattle.sj_lexer.specs.declared.token.Class.{Class}
use Rattle.sj_lexer.specs.declared.token.Class.TheVariants.{Reserved, Name, Mark}
use Rattle.sj_lexer.specs.declared.token.Mark as sign
use Rattle.sj_lexer.specs.declared.token.Mark.TheVariants as mark
use Rattle.sj_lexer.specs.declared.token.Word.TheVariants as word
use Rattle.sj_lexer.specs.declared.token.Token.{Token}
use Rattle.sj_ast.specs.declared.name.Name as names
use Rattle.sj_ast.specs.declared.expression.Raw.{Raw}
use Rattle.sj_ast.specs.declared.test.Test as signal_test
use Rattle.sj_ast.specs.declared.statement.Form as form
use Rattle.sj_ast.specs.declared.statement.Form.TheOpen.{Form-F}
use Rattle.sj_ast.specs.declared.statement.Form.TheFolds.{fold-roll-Form, fold-roll-Block, fold-roll-Stmt}
use Rattle.sj_ast.specs.declared.statement.Form.TheVariants.{rolls-Abort, rolls-Assign, rolls-Await, rolls-Declare, rolls-Emit, rolls-Empty, rolls-Every, rolls-Exit, rolls-Halt, rolls-If, rolls-Loop, rolls-Par, rolls-Pause, rolls-Present, rolls-Receive, rolls-Send, rolls-Suspend, rolls-Sustain, rolls-Trap, rolls-Update, rolls-Variable, rolls-While}
use Rattle.sj_ast.specs.declared.statement.Tree.{Tree}
use Rattle.sj_names.specs.definitions.NestedTraps.{deepest, form_depth_layer, block_depth_layer, stmt_depth_layer, form_trap_depth, block_trap_depth, stmt_trap_depth, traps_nest}
use Rattle.sj_grammar.specs.definitions.Roles.{kind_of, direction_of, assign_of, has, is_still, is_emission, is_guarded, is_opening, is_closing}
use Rattle.sj_grammar.specs.definitions.Expressions.{print}
use Rattle.sj_grammar.specs.definitions.Tests.{print_test}
use Rattle.sj_grammar.specs.definitions.Statements.{print_given, print_guard, Declared, Pure, Valued, print_declared, Stmt, EmptyStmt, ParStmt, StillStmt, EmitStmt, SignalStmt, VariableStmt, AssignStmt, IfStmt, PresentStmt, WhileStmt, GuardedStmt, WeakStmt, TrapStmt, ExitStmt, SendStmt, ReceiveStmt, AwaitStmt, LoopStmt, Stmts, Done, Then, Block, Braces, Other, NoElse, ElseBlock, Others, NoOther, Beside, print_stmt, print_stmts, print_block, print_other, print_others, IsStmt, IsStmts, IsBlock, IsOther, IsOthers}
use Rattle.sj_grammar.specs.definitions.Programs as grammar
use Rattle.sj_grammar.specs.definitions.Programs.{NoPort, PortThen, print_ports, IsPorts, Program, print_program, IsProgram}
use Rattle.sj_grammar.specs.definitions.Machine.{program}
use Rattle.sj_grammar.specs.definitions.Trees.{SourceForm, SourceStmt, SourceBlock, name_of, raw_of, test_of, value_of, is_at_once, guard_test, signal_of, still_form, emission_form, assign_form, guarded_form, placed, block_at, first_token, stmt_of, stmts_of, block_of, other_of, others_of, tree_of}
use Rattle.sj_grammar.specs.definitions.SourceTrees.{SourceTree}
use Rattle.sj_accept.specs.definitions.Sources.{IsParsed}
use Rattle.sj_accept.proofs.SourceLevels.{Fine, fine_read, Passes, passed, then, is_flat, flat, read, read_kind, read_where, Opened, opened, closed, enclosed, expr_passes, test_passes, given_passes, guard_passes, declared_passes}

-- tokens by further tables of classes

still_flat : (c : Class) → cond (is_still c) (is_flat c) true ≡ true
still_flat (Mark mark.Plus) = refl
still_flat (Reserved word.True) = refl
still_flat _ = refl

emission_flat : (c : Class) → cond (is_emission c) (is_flat c) true ≡ true
emission_flat (Mark mark.Plus) = refl
emission_flat (Reserved word.True) = refl
emission_flat _ = refl

guarded_flat : (c : Class) → cond (is_guarded c) (is_flat c) true ≡ true
guarded_flat (Mark mark.Plus) = refl
guarded_flat (Reserved word.True) = refl
guarded_flat _ = refl

assign_flat : (c : Class) → cond (has (assign_of c)) (is_flat c) true ≡ true
assign_flat (Mark mark.Plus) = refl
assign_flat (Reserved word.True) = refl
assign_flat _ = refl

direction_flat : (c : Class) → cond (has (direction_of c)) (is_flat c) true ≡ true
direction_flat (Mark mark.Plus) = refl
direction_flat (Reserved word.True) = refl
direction_flat _ = refl

-- the depth of a form, of a statement and of a block

abbrev Layer : Type 0
Layer = Form-F names.Name (Raw names.Name) SourceForm SourceBlock SourceStmt

abbrev depths : Layer → ℕ
depths z = form_depth_layer (form.map-Form names.Name (Raw names.Name) SourceForm SourceBlock SourceStmt ℕ ℕ ℕ form_trap_depth block_trap_depth stmt_trap_depth z)

form_depth : (z : Layer) (f : SourceForm) → form.roll-Form names.Name (Raw names.Name) z ≡ f → form_trap_depth f ≡ depths z
form_depth z f r = ap form_trap_depth (sym r) ∙ fold-roll-Form names.Name (Raw names.Name) ℕ ℕ ℕ form_depth_layer block_depth_layer stmt_depth_layer z

stmt_depth : (t : Token) (f : SourceForm) → stmt_trap_depth (placed t f) ≡ form_trap_depth f
stmt_depth t f = fold-roll-Stmt names.Name (Raw names.Name) ℕ ℕ ℕ form_depth_layer block_depth_layer stmt_depth_layer (record { at = t.start; form = f })

block_depth : (t : Token) (ss : List SourceStmt) → block_trap_depth (block_at t ss) ≡ deepest (map stmt_trap_depth ss)
block_depth t ss = fold-roll-Block names.Name (Raw names.Name) ℕ ℕ ℕ form_depth_layer block_depth_layer stmt_depth_layer (record { at = t.start; statements = ss })

still_depth : (c : Class) → form_trap_depth (still_form c) ≡ 0
still_depth (Reserved word.Halt) = form_depth Form-F.Halt form.Halt rolls-Halt
still_depth _ = form_depth Form-F.Pause form.Pause rolls-Pause

emission_depth : (c : Class) (at : ℕ) (n : names.Name) (v : Option (Raw names.Name)) → form_trap_depth (emission_form c at n v) ≡ 0
emission_depth (Reserved word.Sustain) at n v = form_depth (Form-F.Sustain at n v) (form.Sustain at n v) (rolls-Sustain at n v)
emission_depth _ at n v = form_depth (Form-F.Emit at n v) (form.Emit at n v) (rolls-Emit at n v)

assign_depth : (op : Option Op2) (at : ℕ) (n : names.Name) (sign_at : ℕ) (e : Raw names.Name) → form_trap_depth (assign_form op at n sign_at e) ≡ 0
assign_depth None at n sign_at e = form_depth (Form-F.Assign at n e) (form.Assign at n e) (rolls-Assign at n e)
assign_depth (Some op) at n sign_at e = form_depth (Form-F.Update at n sign_at op e) (form.Update at n sign_at op e) (rolls-Update at n sign_at op e)

guarded_depth : (c : Class) (i : _) (u : signal_test.Test names.Name) (b : SourceBlock) → form_trap_depth (guarded_form c i u b) ≡ block_trap_depth b
guarded_depth (Reserved word.Abort) i u b = form_depth (Form-F.Abort false i u b) (form.Abort false i u b) (rolls-Abort false i u b)
guarded_depth (Reserved word.Suspend) i u b = form_depth (Form-F.Suspend i u b) (form.Suspend i u b) (rolls-Suspend i u b)
guarded_depth _ i u b = form_depth (Form-F.Every i u b) (form.Every i u b) (rolls-Every i u b)

-- the part nests so deep within the levels, and as many are open behind it
record Held (n d : ℕ) (more : List Token) : Type 0 where
  within : n + d ≤ 64
  after : Fine d more

record HeldBlock (n d : ℕ) (more : List Token) : Type 0 where
  within : n + d < 64
  after : Fine d more

leaf : {more : List Token} (d : ℕ) (t : Token) (f : SourceForm) → form_trap_depth f ≡ 0 → d ≤ 64 → Fine d more → Held (stmt_trap_depth (placed t f)) d more
leaf {more} d t f e l g = let h = stmt_depth t f ∙ e in record { within = omega arith; after = g }

-- one block within
held_one : {more : List Token} (d n : ℕ) (t : Token) (f : SourceForm) → form_trap_depth f ≡ n → HeldBlock n d more → Held (stmt_trap_depth (placed t f)) d more
held_one {more} d n t f e b = let h = stmt_depth t f ∙ e in let w = b.within in record { within = omega arith; after = b.after }

held_trap : {more : List Token} (d n : ℕ) (t : Token) (f : SourceForm) → form_trap_depth f ≡ suc n → HeldBlock n d more → Held (stmt_trap_depth (placed t f)) d more
held_trap {more} d n t f e b = let h = stmt_depth t f ∙ e in let w = b.within in record { within = omega arith; after = b.after }

held_two : {more : List Token} (d n m : ℕ) (t : Token) (f : SourceForm) → form_trap_depth f ≡ max n m → n + d < 64 → m + d ≤ 64 → Fine d more → Held (stmt_trap_depth (placed t f)) d more
held_two {more} d n m t f e a b g = let h = stmt_depth t f ∙ e in record { within = omega arith; after = g }

module _ (source : List ℕ) where
  mutual
    stmt_held : (s : Stmt) → IsStmt s → (d : ℕ) (more : List Token) → d ≤ 64 → Fine d (print_stmt s more) → Held (stmt_trap_depth (stmt_of source s)) d more
    stmt_held (EmptyStmt s) h d more l f = leaf d s form.Empty (form_depth Form-F.Empty form.Empty rolls-Empty) l (passed d f (read (Mark mark.Semicolon) h refl))
    stmt_held (ParStmt b o) h d more l f =
        let one = block_held b h.0 d (print_others o more) f in
        let two = others_held mark.Either refl o h.1 d more l one.after in
        held_two d (block_trap_depth (block_of source b)) (deepest (map block_trap_depth (others_of source o))) (first_token b) (form.Par (block_of source b) (others_of source o))
        (form_depth (Form-F.Par (block_of source b) (others_of source o)) (form.Par (block_of source b) (others_of source o)) (rolls-Par (block_of source b) (others_of source o))) one.within two.within two.after
    stmt_held (StillStmt w s) h d more l f = leaf d w (still_form w.class) (still_depth w.class) l (passed d f (then (read_where (is_still w.class) h.0 (still_flat w.class)) (read (Mark mark.Semicolon) h.1 refl)))
    stmt_held (EmitStmt w n v s) h d more l f =
        leaf d w (emission_form w.class n.start (name_of source n) (value_of source v)) (emission_depth w.class n.start (name_of source n) (value_of source v)) l
        (passed d f (then (read_where (is_emission w.class) h.0 (emission_flat w.class)) (then (read Name h.1 refl) (then (given_passes v h.2) (read (Mark mark.Semicolon) h.3 refl)))))
    stmt_held (SignalStmt (Pure w n s)) h d more l f =
        leaf d w (form.Declare (signal_of source (Pure w n s))) (form_depth (Form-F.Declare (signal_of source (Pure w n s))) (form.Declare (signal_of source (Pure w n s))) (rolls-Declare (signal_of source (Pure w n s)))) l (passed d f (declared_passes (Pure w n s) h))
    stmt_held (SignalStmt (Valued k v w n c s)) h d more l f =
        leaf d v (form.Declare (signal_of source (Valued k v w n c s))) (form_depth (Form-F.Declare (signal_of source (Valued k v w n c s))) (form.Declare (signal_of source (Valued k v w n c s))) (rolls-Declare (signal_of source (Valued k v w n c s)))) l
        (passed d f (declared_passes (Valued k v w n c s) h))
    stmt_held (VariableStmt k v n t e s) h d more l f =
        leaf d v (form.Variable k n.start (name_of source n) (raw_of source e)) (form_depth (Form-F.Variable k n.start (name_of source n) (raw_of source e)) (form.Variable k n.start (name_of source n) (raw_of source e)) (rolls-Variable k n.start (name_of source n) (raw_of source e))) l
        (passed d f (then (read_kind (ap has h.0)) (then (read Name h.1 refl) (then (read (Mark mark.Assign) h.2 refl) (then (expr_passes e h.3) (read (Mark mark.Semicolon) h.4 refl))))))
    stmt_held (AssignStmt op n t e s) h d more l f =
        leaf d n (assign_form op n.start (name_of source n) t.start (raw_of source e)) (assign_depth op n.start (name_of source n) t.start (raw_of source e)) l
        (passed d f (then (read Name h.0 refl) (then (read_where (has (assign_of t.class)) (ap has h.1) (assign_flat t.class)) (then (expr_passes e h.2) (read (Mark mark.Semicolon) h.3 refl)))))
    stmt_held (IfStmt w o e c b NoElse) h d more l f =
        let one = block_held b h.4 d more (passed d f (then (read (Reserved word.If) h.0 refl) (enclosed h.1 (expr_passes e h.2) h.3))) in
        held_two d (block_trap_depth (block_of source b)) 0 w (form.If (raw_of source e) (block_of source b) None) (form_depth (Form-F.If (raw_of source e) (block_of source b) None) (form.If (raw_of source e) (block_of source b) None) (rolls-If (raw_of source e) (block_of source b) None)) one.within (omega arith) one.after
    stmt_held (IfStmt w o e c b (ElseBlock v x)) h d more l f =
        let one = block_held b h.4 d (v ∷ print_block x more) (passed d f (then (read (Reserved word.If) h.0 refl) (enclosed h.1 (expr_passes e h.2) h.3))) in
        let two = block_held x h.5.1 d more (passed d one.after (read (Reserved word.Else) h.5.0 refl)) in
        let w2 = two.within in
        held_two d (block_trap_depth (block_of source b)) (block_trap_depth (block_of source x)) w (form.If (raw_of source e) (block_of source b) (Some (block_of source x)))
        (form_depth (Form-F.If (raw_of source e) (block_of source b) (Some (block_of source x))) (form.If (raw_of source e) (block_of source b) (Some (block_of source x))) (rolls-If (raw_of source e) (block_of source b) (Some (block_of source x)))) one.within (omega arith) two.after
    stmt_held (PresentStmt w o u c b NoElse) h d more l f =
        let one = block_held b h.4 d more (passed d f (then (read (Reserved word.Present) h.0 refl) (enclosed h.1 (test_passes u h.2) h.3))) in
        held_two d (block_trap_depth (block_of source b)) 0 w (form.Present (test_of source u) (block_of source b) None) (form_depth (Form-F.Present (test_of source u) (block_of source b) None) (form.Present (test_of source u) (block_of source b) None) (rolls-Present (test_of source u) (block_of source b) None)) one.within (omega arith)
        one.after
    stmt_held (PresentStmt w o u c b (ElseBlock v x)) h d more l f =
        let one = block_held b h.4 d (v ∷ print_block x more) (passed d f (then (read (Reserved word.Present) h.0 refl) (enclosed h.1 (test_passes u h.2) h.3))) in
        let two = block_held x h.5.1 d more (passed d one.after (read (Reserved word.Else) h.5.0 refl)) in
        let w2 = two.within in
        held_two d (block_trap_depth (block_of source b)) (block_trap_depth (block_of source x)) w (form.Present (test_of source u) (block_of source b) (Some (block_of source x)))
        (form_depth (Form-F.Present (test_of source u) (block_of source b) (Some (block_of source x))) (form.Present (test_of source u) (block_of source b) (Some (block_of source x))) (rolls-Present (test_of source u) (block_of source b) (Some (block_of source x)))) one.within (omega arith) two.after
    stmt_held (WhileStmt w o t c b) h d more l f =
        held_one d (block_trap_depth (block_of source b)) w (form.While (block_of source b)) (form_depth (Form-F.While (block_of source b)) (form.While (block_of source b)) (rolls-While (block_of source b)))
        (block_held b h.4 d more (passed d f (then (read (Reserved word.While) h.0 refl) (enclosed h.1 (read (Reserved word.True) h.2 refl) h.3))))
    stmt_held (GuardedStmt w g b) h d more l f =
        held_one d (block_trap_depth (block_of source b)) w (guarded_form w.class (is_at_once g) (guard_test source g) (block_of source b)) (guarded_depth w.class (is_at_once g) (guard_test source g) (block_of source b))
        (block_held b h.2 d more (passed d f (then (read_where (is_guarded w.class) h.0 (guarded_flat w.class)) (guard_passes g h.1))))
    stmt_held (WeakStmt v w g b) h d more l f =
        held_one d (block_trap_depth (block_of source b)) v (form.Abort true (is_at_once g) (guard_test source g) (block_of source b))
        (form_depth (Form-F.Abort true (is_at_once g) (guard_test source g) (block_of source b)) (form.Abort true (is_at_once g) (guard_test source g) (block_of source b)) (rolls-Abort true (is_at_once g) (guard_test source g) (block_of source b)))
        (block_held b h.3 d more (passed d f (then (read (Reserved word.Weak) h.0 refl) (then (read (Reserved word.Abort) h.1 refl) (guard_passes g h.2)))))
    stmt_held (TrapStmt w o n c b) h d more l f =
        held_trap d (block_trap_depth (block_of source b)) w (form.Trap n.start (name_of source n) (block_of source b))
        (form_depth (Form-F.Trap n.start (name_of source n) (block_of source b)) (form.Trap n.start (name_of source n) (block_of source b)) (rolls-Trap n.start (name_of source n) (block_of source b)))
        (block_held b h.4 d more (passed d f (then (read (Reserved word.Trap) h.0 refl) (enclosed h.1 (read Name h.2 refl) h.3))))
    stmt_held (ExitStmt w o n c s) h d more l f =
        leaf d w (form.Exit n.start (name_of source n)) (form_depth (Form-F.Exit n.start (name_of source n)) (form.Exit n.start (name_of source n)) (rolls-Exit n.start (name_of source n))) l
        (passed d f (then (read (Reserved word.Exit) h.0 refl) (then (enclosed h.1 (read Name h.2 refl) h.3) (read (Mark mark.Semicolon) h.4 refl))))
    stmt_held (SendStmt w n o e c s) h d more l f =
        leaf d w (form.Send n.start (name_of source n) (raw_of source e)) (form_depth (Form-F.Send n.start (name_of source n) (raw_of source e)) (form.Send n.start (name_of source n) (raw_of source e)) (rolls-Send n.start (name_of source n) (raw_of source e))) l
        (passed d f (then (read (Reserved word.Send) h.0 refl) (then (read Name h.1 refl) (then (enclosed h.2 (expr_passes e h.3) h.4) (read (Mark mark.Semicolon) h.5 refl)))))
    stmt_held (ReceiveStmt w n s) h d more l f =
        leaf d w (form.Receive n.start (name_of source n)) (form_depth (Form-F.Receive n.start (name_of source n)) (form.Receive n.start (name_of source n)) (rolls-Receive n.start (name_of source n))) l
        (passed d f (then (read (Reserved word.Receive) h.0 refl) (then (read Name h.1 refl) (read (Mark mark.Semicolon) h.2 refl))))
    stmt_held (AwaitStmt w g s) h d more l f =
        leaf d w (form.Await (is_at_once g) (guard_test source g)) (form_depth (Form-F.Await (is_at_once g) (guard_test source g)) (form.Await (is_at_once g) (guard_test source g)) (rolls-Await (is_at_once g) (guard_test source g))) l
        (passed d f (then (read (Reserved word.Await) h.0 refl) (then (guard_passes g h.1) (read (Mark mark.Semicolon) h.2 refl))))
    stmt_held (LoopStmt w b v o u c s) h d more l f =
        let one = block_held b h.1 d (v ∷ o ∷ print_test u (c ∷ s ∷ more)) (passed d f (read (Reserved word.Loop) h.0 refl)) in
        held_one d (block_trap_depth (block_of source b)) w (form.Loop (block_of source b) (test_of source u)) (form_depth (Form-F.Loop (block_of source b) (test_of source u)) (form.Loop (block_of source b) (test_of source u)) (rolls-Loop (block_of source b) (test_of source u)))
        (record { within = one.within; after = passed d one.after (then (read (Reserved word.Each) h.2 refl) (then (enclosed h.3 (test_passes u h.4) h.5) (read (Mark mark.Semicolon) h.6 refl))) })

    stmts_held : (ss : Stmts) → IsStmts ss → (d : ℕ) (more : List Token) → d ≤ 64 → Fine d (print_stmts ss more) → Held (deepest (map stmt_trap_depth (stmts_of source ss))) d more
    stmts_held Done h d more l f = record { within = omega arith; after = f }
    stmts_held (Then s ss) h d more l f =
        let one = stmt_held s h.0 d (print_stmts ss more) l f in
        let two = stmts_held ss h.1 d more l one.after in
        let a = one.within in
        let b = two.within in
        record { within = omega arith; after = two.after }

    block_held : (b : Block) → IsBlock b → (d : ℕ) (more : List Token) → Fine d (print_block b more) → HeldBlock (block_trap_depth (block_of source b)) d more
    block_held (Braces o ss c) h d more f =
        let inner = opened d (ap is_opening h.0) f in
        let room = inner.room in
        let all = stmts_held ss h.1 (d + 1) (c ∷ more) (omega arith) inner.inside in
        let n = block_depth o (stmts_of source ss) in
        let w = all.within in
        record { within = omega arith; after = closed d (ap is_opening h.2) (ap is_closing h.2) all.after }

    others_held : (m : sign.Mark) → is_flat (Mark m) ≡ true → (o : Others) → IsOthers m o → (d : ℕ) (more : List Token) → d ≤ 64 → Fine d (print_others o more) → Held (deepest (map block_trap_depth (others_of source o))) d more
    others_held m q NoOther h d more l f = record { within = omega arith; after = f }
    others_held m q (Beside t b o) h d more l f =
        let one = block_held b h.1 d (print_others o more) (passed d f (read (Mark m) h.0 q)) in
        let two = others_held m q o h.2 d more l one.after in
        let a = one.within in
        let b2 = two.within in
        record { within = omega arith; after = two.after }

-- ports

port_passes : {more : List Token} (p : grammar.Port) → grammar.IsPort p → Passes (grammar.print_port p more) more
port_passes (grammar.SignalPort x w s) h = then (read_where (has (direction_of w.class)) (ap has h.0) (direction_flat w.class)) (declared_passes s h.1)
port_passes (grammar.ChannelPort k v w n s) h = then (read_kind (ap has h.0)) (then (read (Reserved word.Channel) h.1 refl) (then (read Name h.2 refl) (read (Mark mark.Semicolon) h.3 refl)))

ports_pass : {more : List Token} (ps : grammar.Ports) → IsPorts ps → Passes (print_ports ps more) more
ports_pass NoPort h = record { passes = λ d f. f }
ports_pass (PortThen p ps) h = then (port_passes p h.0) (ports_pass ps h.1)

-- the whole tree

all_nest : (bs : List SourceBlock) → deepest (map block_trap_depth bs) ≤ 64 → list_all (λ b. nat_le (block_trap_depth b) most_traps) bs ≡ true
all_nest [] l = refl
all_nest (b ∷ bs) l =
    let m : max (block_trap_depth b) (deepest (map block_trap_depth bs)) ≤ 64 = l in
    ap (λ x. x && list_all (λ (c : SourceBlock). nat_le (block_trap_depth c) most_traps) bs) (le-leb (block_trap_depth b) 64 (omega arith)) ∙ all_nest bs (omega arith)

program_nests : (source : List ℕ) (p : Program) → IsProgram p → Fine 0 (print_program p []) → traps_nest most_traps (tree_of source p) ≡ true
program_nests source p i f =
    let behind = print_block p.first (print_others p.others (p.close_system ∷ [])) in
    let in_system = opened 0 (ap is_opening i.open_system) (passed 0 f (read (Reserved word.System) i.system refl)) in
    let in_interface = opened (0 + 1) (ap is_opening i.open_ports) (passed (0 + 1) in_system.inside (read (Reserved word.Interface) i.interface refl)) in
    let behind_ports : Fine (0 + 1) behind = closed (0 + 1) (ap is_opening i.close_ports) (ap is_closing i.close_ports) (passed (0 + 1 + 1) in_interface.inside (ports_pass p.ports i.ports)) in
    let one = block_held source p.first i.first (0 + 1) (print_others p.others (p.close_system ∷ [])) behind_ports in
    let two = others_held source mark.Beside refl p.others i.others (0 + 1) (p.close_system ∷ []) (omega arith) one.after in
    let a = one.within in
    let b = two.within in
    all_nest (block_of source p.first ∷ others_of source p.others) (omega arith)

pub source_nests : (source : List ℕ) (tree : SourceTree) → IsParsed source tree → traps_nest most_traps tree ≡ true
source_nests source tree p =
    let x = p.parsed in
    ap (λ (t : SourceTree). traps_nest most_traps t) x.stands
    ∙ program_nests source x.sentence x.is_program (subst (Fine 0) (sym x.printed) (fine_read program 0 0 p.tokens [] x.within.reads))
