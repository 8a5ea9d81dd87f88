-- The programs of small sources, and the rules that they keep.
use Rattle.std.proofs.Common.{◌≡◌, ℕ, zero, suc, ◌<◌, ◌≤◌, true, false, pos, List, [], ◌∷◌, length, get_or, Some, None, refl, sym, ap, ◌∙◌, subst, arith}
use Rattle.std.specs.Prelude.{codes}
use Rattle.java_values.specs.declared.kind.Kind.TheVariants.{Int}
use Rattle.java_values.specs.Arithmetic.{wrapped}
use Rattle.java_values.proofs.InRangeLemmas.{wrapped_kept}
use Rattle.kernel_terms.specs.declared.tables.Tables.{Tables}
use Rattle.kernel_terms.specs.declared.term.Form as form
use Rattle.kernel_terms.specs.Expressions.{Literal}
use Rattle.kernel_terms.proofs.Layers.{statement-Loop}
use Rattle.kernel_terms.specs.MayEnd.{LoopsWait}
use Rattle.kernel_terms.specs.Statements.{Stmt, Nothing, Pause, Emit, Seq, Loop, Send, Receive, statement}
use Rattle.tick_tree.specs.definitions.Weight.{weight_of}
use Rattle.sj_ast.specs.declared.name.Name.{Name}
use Rattle.sj_grammar.specs.definitions.Trees.{tree_of}
use Rattle.sj_names.specs.definitions.Mentions.{NamedPart}
use Rattle.sj_names.specs.definitions.DeclaredTables.{tables_of_tree}
use Rattle.sj_grammar.specs.definitions.SourceTrees.{SourceTree}
use Rattle.sj_accept.specs.definitions.Sources.{IsParsed}
use Rattle.sj_accept.specs.definitions.BuiltTables.{tables_are_built}
use Rattle.sj_accept.specs.definitions.Lowering.{term_at, int_expression}
use Rattle.sj_accept.specs.definitions.Programs.{LoweredProgram, domain_statements}
use Rattle.sj_accept.specs.definitions.Accepted.{IsSourceOf}
use Rattle.sj_accept.specs.SmallPrograms.{empty, blink, body, looping, second, rendezvous}
use Rattle.sj_accept.proofs.TermLemmas.{statement-Nothing, statement-Pause, statement-Emit, statement-Receive, send_is, seq_two, seq_three}
use Rattle.sj_accept.proofs.TypedSources.{fit_none, pause_fits, emit_fits, send_fits, receive_fits, while_fits, no_block_fits, block_then_fits, scope_of_ports, FitTree, tree_fits, program_is}
use Rattle.sj_accept.proofs.NamedTrees.{BlocksTell, tell_none, pause_tells, emit_tells, send_tells, receive_tells, while_tells, no_block_tells, block_then_tells, failures_with, tree_tells, tables_with, tables_told}
use Rattle.sj_accept.proofs.SmallSources.{empty_source, empty_sentence, empty_parsed, blink_source, blink_sentence, blink_parsed, loop_source, loop_sentence, loop_parsed, rendezvous_source, rendezvous_sentence, rendezvous_parsed}

-- the rules that a program keeps, whose domains have these statements
record KeepsAll (ps : List Stmt) : Type 0 where
  loops : (d : ℕ) → LoopsWait (get_or ps d Nothing)
  weight : (d : ℕ) → weight_of (get_or ps d Nothing) ≤ 100000

source_of : (bytes : List ℕ) (p : LoweredProgram) (ps : List Stmt) (tree : SourceTree) (parts : List NamedPart) → length bytes ≤ 1048576 → IsParsed bytes tree → BlocksTell tree.domains parts → failures_with tree parts ≡ [] → tables_with tree parts ≡ p.tables
    → FitTree tree (Some p.terms) → tables_are_built p.tables ≡ true → domain_statements p ≡ ps → KeepsAll ps → IsSourceOf bytes p
source_of bytes p ps tree parts size parsed tells none tables fit built statements keeps = record {
  size = size;
  tree = tree;
  parsed = parsed;
  named = tree_tells tree parts tells ∙ none;
  typed = fit.typed;
  is = program_is tree p.tables p.terms fit (tables_told tree parts tells fit.declared ∙ tables) built;
  rules = record {
    loops = subst (λ (qs : List Stmt). (d : ℕ) → LoopsWait (get_or qs d Nothing)) (sym statements) keeps.loops;
    weight = subst (λ (qs : List Stmt). (d : ℕ) → weight_of (get_or qs d Nothing) ≤ 100000) (sym statements) keeps.weight;
  };
}

-- the rules of one domain

record KeepsOne (p : Stmt) : Type 0 where
  loops : LoopsWait p
  weight : weight_of p ≤ 100000

one_loops : (p : Stmt) → KeepsOne p → (d : ℕ) → LoopsWait (get_or (p ∷ []) d Nothing)
one_loops p k zero = k.loops
one_loops p k (suc d) = tt

one_weight : (p : Stmt) → KeepsOne p → (d : ℕ) → weight_of (get_or (p ∷ []) d Nothing) ≤ 100000
one_weight p k zero = k.weight
one_weight p k (suc d) = omega arith

abbrev name_at : ℕ → List ℕ → Name
name_at at text = record { text = text; at = at }

-- the empty program

pub empty_statements : domain_statements empty ≡ Nothing ∷ []
empty_statements = ap (λ p. p ∷ []) (statement-Nothing (term_at 18 form.Nothing) refl)

empty_fits : FitTree (tree_of empty_source empty_sentence) (Some empty.terms)
empty_fits = let t = tables_of_tree (tree_of empty_source empty_sentence) in let s = scope_of_ports (tree_of empty_source empty_sentence) in tree_fits (tree_of empty_source empty_sentence) _ refl (block_then_fits t s 18 _ _ _ _ refl (fit_none t s) (no_block_fits t s))

pub empty_is_source : IsSourceOf empty_source empty
empty_is_source =
    source_of empty_source empty (Nothing ∷ []) (tree_of empty_source empty_sentence) _ (omega arith) empty_parsed
    (block_then_tells 18 _ _ _ _ tell_none no_block_tells) refl refl empty_fits refl empty_statements
    (record { loops = one_loops Nothing (record { loops = tt; weight = omega arith }); weight = one_weight Nothing (record { loops = tt; weight = omega arith }) })

-- a signal in two ticks

abbrev pub blinks : Stmt
blinks = Seq (Emit 0 None) (Seq Pause (Emit 0 None))

pub blink_statements : domain_statements blink ≡ blinks ∷ []
blink_statements =
    ap (λ p. p ∷ [])
    (seq_three 34 (term_at 35 (form.Emit 0 None)) (term_at 42 form.Pause) (term_at 48 (form.Emit 0 None)) _ _ _
    (statement-Emit (term_at 35 (form.Emit 0 None)) 0 refl) (statement-Pause (term_at 42 form.Pause) refl) (statement-Emit (term_at 48 (form.Emit 0 None)) 0 refl))

blink_fits : FitTree (tree_of blink_source blink_sentence) (Some blink.terms)
blink_fits =
    let t = tables_of_tree (tree_of blink_source blink_sentence) in
    let s = scope_of_ports (tree_of blink_source blink_sentence) in
    tree_fits (tree_of blink_source blink_sentence) _ refl
    (block_then_fits t s 34 _ _ _ _ refl (emit_fits t s 35 40 (name_at 40 (codes "A")) 0 _ _ refl refl (pause_fits t s 42 _ _ (emit_fits t s 48 53 (name_at 53 (codes "A")) 0 _ _ refl refl (fit_none t s)))) (no_block_fits t s))

pub blink_is_source : IsSourceOf blink_source blink
blink_is_source =
    source_of blink_source blink (blinks ∷ []) (tree_of blink_source blink_sentence) _ (omega arith) blink_parsed
    (block_then_tells 34 _ _ _ _ (emit_tells 35 40 (name_at 40 (codes "A")) _ _ (pause_tells 42 _ _ (emit_tells 48 53 (name_at 53 (codes "A")) _ _ tell_none))) no_block_tells) refl refl blink_fits refl blink_statements
    (record { loops = one_loops blinks (record { loops = (tt, (tt, tt)); weight = omega arith }); weight = one_weight blinks (record { loops = (tt, (tt, tt)); weight = omega arith }) })

-- a loop that starts again in the tick in which its body ends

abbrev pub loop_body : Stmt
loop_body = Seq (Emit 0 None) (Seq Pause (Emit 1 None))

abbrev pub loops : Stmt
loops = Loop loop_body

pub loop_statements : domain_statements looping ≡ loops ∷ []
loop_statements =
    ap (λ p. p ∷ [])
    (statement-Loop (term_at 51 (form.Loop body)) body refl
    ∙ ap Loop
    (seq_three 62 (term_at 63 (form.Emit 0 None)) (term_at 70 form.Pause) (term_at 76 (form.Emit 1 None)) _ _ _
    (statement-Emit (term_at 63 (form.Emit 0 None)) 0 refl) (statement-Pause (term_at 70 form.Pause) refl) (statement-Emit (term_at 76 (form.Emit 1 None)) 1 refl)))

loop_fits : FitTree (tree_of loop_source loop_sentence) (Some looping.terms)
loop_fits =
    let t = tables_of_tree (tree_of loop_source loop_sentence) in
    let s = scope_of_ports (tree_of loop_source loop_sentence) in
    tree_fits (tree_of loop_source loop_sentence) _ refl
    (block_then_fits t s 50 _ _ _ _ refl
    (while_fits t s 51 62 _ _ _ _ refl (emit_fits t s 63 68 (name_at 68 (codes "A")) 0 _ _ refl refl (pause_fits t s 70 _ _ (emit_fits t s 76 81 (name_at 81 (codes "B")) 1 _ _ refl refl (fit_none t s)))) (fit_none t s))
    (no_block_fits t s))

pub loop_is_source : IsSourceOf loop_source looping
loop_is_source =
    source_of loop_source looping (loops ∷ []) (tree_of loop_source loop_sentence) _ (omega arith) loop_parsed
    (block_then_tells 50 _ _ _ _
    (while_tells 51 62 _ _ _ _ (emit_tells 63 68 (name_at 68 (codes "A")) _ _ (pause_tells 70 _ _ (emit_tells 76 81 (name_at 81 (codes "B")) _ _ tell_none))) tell_none) no_block_tells) refl refl loop_fits refl loop_statements
    (record { loops = one_loops loops (record { loops = (refl, (tt, (tt, tt))); weight = omega arith }); weight = one_weight loops (record { loops = (refl, (tt, (tt, tt))); weight = omega arith }) })

-- a send and a receive of two domains

abbrev pub two_domains : List Stmt
two_domains = Seq (Send 0 (Literal Int (pos 5))) (Emit 0 None) ∷ Seq (Receive 0) (Emit 1 None) ∷ []

pub rendezvous_statements : domain_statements rendezvous ≡ two_domains
rendezvous_statements =
    ap (λ p. p ∷ statement second ∷ []) (seq_two 64 (term_at 65 (form.Send 0 (int_expression (pos 5)))) (term_at 76 (form.Emit 0 None)) _ _ (send_is 65 0 (pos 5)) (statement-Emit (term_at 76 (form.Emit 0 None)) 0 refl))
    ∙ ap (λ p. Seq (Send 0 (Literal Int (pos 5))) (Emit 0 None) ∷ p ∷ [])
    (seq_two 86 (term_at 87 (form.Receive 0)) (term_at 98 (form.Emit 1 None)) _ _ (statement-Receive (term_at 87 (form.Receive 0)) 0 refl) (statement-Emit (term_at 98 (form.Emit 1 None)) 1 refl))

five_kept : wrapped Int (pos 5) ≡ pos 5
five_kept = wrapped_kept Int (pos 5) (record { low = omega arith; high = omega arith })

rendezvous_fits : FitTree (tree_of rendezvous_source rendezvous_sentence) (Some rendezvous.terms)
rendezvous_fits =
    let t = tables_of_tree (tree_of rendezvous_source rendezvous_sentence) in
    let s = scope_of_ports (tree_of rendezvous_source rendezvous_sentence) in
    tree_fits (tree_of rendezvous_source rendezvous_sentence) _ refl
    (block_then_fits t s 64 _ _ _ _ refl (send_fits t s 65 70 (name_at 70 (codes "C")) 72 0 (pos 5) _ _ refl five_kept refl (emit_fits t s 76 81 (name_at 81 (codes "D")) 0 _ _ refl refl (fit_none t s)))
    (block_then_fits t s 86 _ _ _ _ refl (receive_fits t s 87 95 (name_at 95 (codes "C")) 0 _ _ refl (emit_fits t s 98 103 (name_at 103 (codes "B")) 1 _ _ refl refl (fit_none t s))) (no_block_fits t s)))

wait : (d : ℕ) → LoopsWait (get_or two_domains d Nothing)
wait zero = (tt, tt)
wait (suc zero) = (tt, tt)
wait (suc (suc d)) = tt

weigh : (d : ℕ) → weight_of (get_or two_domains d Nothing) ≤ 100000
weigh zero = omega arith
weigh (suc zero) = omega arith
weigh (suc (suc d)) = omega arith

pub rendezvous_is_source : IsSourceOf rendezvous_source rendezvous
rendezvous_is_source =
    source_of rendezvous_source rendezvous two_domains (tree_of rendezvous_source rendezvous_sentence) _ (omega arith) rendezvous_parsed
    (block_then_tells 64 _ _ _ _ (send_tells 65 70 (name_at 70 (codes "C")) 72 (record { kind = Int; number = pos 5 }) _ _ (emit_tells 76 81 (name_at 81 (codes "D")) _ _ tell_none))
    (block_then_tells 86 _ _ _ _ (receive_tells 87 95 (name_at 95 (codes "C")) _ _ (emit_tells 98 103 (name_at 103 (codes "B")) _ _ tell_none)) no_block_tells))
    refl refl rendezvous_fits refl rendezvous_statements (record { loops = wait; weight = weigh })
