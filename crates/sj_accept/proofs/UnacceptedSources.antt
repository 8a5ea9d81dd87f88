-- Small sources that are programs of the grammar, and are refused.
use Rattle.std.proofs.Common.{◌≡◌, ℕ, ◌≤◌, true, false, List, [], ◌∷◌, length, Some, None, inl, refl, sym, ap, ◌∙◌, subst, arith, append-nil}
use Rattle.std.specs.Prelude.{codes}
use Rattle.kernel_terms.specs.declared.term.Form as term_form
use Rattle.kernel_terms.specs.Statements.{Nothing, Loop, statement}
use Rattle.kernel_terms.specs.MayEnd.{LoopsWait}
use Rattle.kernel_terms.proofs.Layers.{statement-Loop}
use Rattle.sj_lexer.specs.declared.token.Token.{Token}
use Rattle.sj_ast.specs.declared.port.Direction.TheVariants as direction
use Rattle.sj_grammar.specs.definitions.Statements.{NoValue, Pure, StillStmt, EmitStmt, WhileStmt, Done, Then, Braces, NoOther}
use Rattle.sj_grammar.specs.definitions.Programs as grammar
use Rattle.sj_grammar.specs.definitions.Programs.{NoPort, PortThen, Program, print_program, IsProgram}
use Rattle.sj_grammar.specs.definitions.Trees.{tree_of}
use Rattle.sj_grammar.specs.definitions.Machine.{Symbol, program}
use Rattle.sj_grammar.specs.definitions.Walks.{Ended, walk}
use Rattle.sj_grammar.specs.definitions.Limits.{IsWithin, Tells, Halts}
use Rattle.sj_grammar.proofs.SourcePieces.{are_all, tokens_of, token_in, are_tokens}
use Rattle.sj_names.specs.declared.failure.Failure.{Failure}
use Rattle.sj_names.specs.declared.failure.FailureKind.TheVariants.{Unknown, Twice}
use Rattle.sj_names.specs.definitions.Mentions.{names_of_tree}
use Rattle.sj_names.specs.definitions.DeclaredTables.{tables_of_tree}
use Rattle.sj_names.specs.definitions.Failures.{failure_at, failures_of, IsLeast}
use Rattle.sj_grammar.specs.definitions.SourceTrees.{SourceTree}
use Rattle.sj_accept.specs.definitions.Sources.{IsParsed}
use Rattle.sj_accept.specs.definitions.Kinds.{kind_failures}
use Rattle.sj_accept.specs.definitions.Lowering.{term_at, block_of}
use Rattle.sj_accept.specs.definitions.Programs as programs
use Rattle.sj_accept.specs.definitions.Programs.{program_of}
use Rattle.sj_accept.specs.definitions.Accepted.{KeepsRules}
use Rattle.sj_accept.specs.definitions.Refusals.{IsUnaccepted, FailsByName}
use Rattle.sj_accept.proofs.TermLemmas.{statement-Nothing}
use Rattle.sj_accept.proofs.TypedSources.{fit_none, while_fits, no_block_fits, block_then_fits, halting_block_fits, scope_of_ports, FitTree, tree_fits, program_is, no_program_is, no_terms_no_program}
use Rattle.sj_accept.proofs.NamedTrees.{tell_none, halt_tells, emit_tells, while_tells, no_block_tells, block_then_tells, tree_tells, tables_told}

abbrev pub Tell : Type 0
Tell = (symbols : List Symbol) (levels operators : ℕ) (tokens : List Token) → Tells symbols levels operators tokens (walk symbols levels operators tokens)

abbrev pub OneTree : Type 0
OneTree = (source : List ℕ) (t u : SourceTree) → IsParsed source t → IsParsed source u → t ≡ u

-- a source that is read whole

within : Tell → (tokens : List Token) → walk program 0 0 tokens ≡ Ended [] → IsWithin program 0 0 tokens []
within tell tokens stops =
    let h : Halts program 0 0 tokens true [] = subst (λ o. Tells program 0 0 tokens o) stops (tell program 0 0 tokens) in
    subst (λ (run : List Token). IsWithin program 0 0 run []) (sym (h.is ∙ append-nil h.run)) h.within

is_parsed : Tell → (source : List ℕ) (s : (ℕ → Token) → Program) → are_all (length source) source ≡ true → IsProgram (s (token_in source)) → print_program (s (token_in source)) [] ≡ tokens_of source → walk program 0 0 (tokens_of source) ≡ Ended [] → IsParsed source (tree_of source (s (token_in source)))
is_parsed tell source s all is printed stops = record {
  tokens = tokens_of source;
  are = are_tokens source all;
  parsed = record { sentence = s (token_in source); is_program = is; printed = printed; stands = refl; within = within tell (tokens_of source) stops };
}

-- it is refused where its tree has no program that keeps the rules
unaccepted : OneTree → (source : List ℕ) (tree : SourceTree) → length source ≤ 1048576 → IsParsed source tree → failures_of (names_of_tree tree) ≡ [] → kind_failures tree ≡ [] → ((p : programs.LoweredProgram) → program_of tree ≡ Some p → KeepsRules p → ⊥) → IsUnaccepted source
unaccepted one source tree size parsed named typed none = record {
  size = size;
  tree = tree;
  parsed = parsed;
  named = named;
  typed = typed;
  none = λ p s. none p (ap program_of (one source tree s.tree parsed s.parsed) ∙ s.is) s.rules;
}

no_program : (tree : SourceTree) → program_of tree ≡ None → (p : programs.LoweredProgram) → program_of tree ≡ Some p → KeepsRules p → ⊥
no_program tree none p is rules = let x : None ≡ Some p = sym none ∙ is in cc

-- the only failure of a tree's names is the first
one_failure : (source : List ℕ) (tree : SourceTree) (f : Failure) → IsParsed source tree → failures_of (names_of_tree tree) ≡ f ∷ [] → IsLeast (f ∷ []) f → FailsByName source f
one_failure source tree f parsed is least = record { tree = tree; parsed = parsed; least = subst (λ fs. IsLeast fs f) (sym is) least }

-- an input

abbrev an_input_source : List ℕ
an_input_source = codes "system{interface{input signal A;}{}}"

abbrev an_input_sentence : (ℕ → Token) → Program
an_input_sentence t = record { system = t 0; open_system = t 1; interface = t 2; open_ports = t 3; ports = (PortThen (grammar.SignalPort direction.Input (t 4) (Pure (t 5) (t 6) (t 7))) NoPort); close_ports = t 8; first = (Braces (t 9) Done (t 10)); others = NoOther; close_system = t 11 }

abbrev an_input_tree : SourceTree
an_input_tree = tree_of an_input_source (an_input_sentence (token_in an_input_source))

an_input_parsed : Tell → IsParsed an_input_source an_input_tree
an_input_parsed tell = is_parsed tell an_input_source an_input_sentence refl (record { system = refl; open_system = refl; interface = refl; open_ports = refl; ports = ((refl, (refl, refl, refl)), tt); close_ports = refl; first = (refl, tt, refl); others = tt; close_system = refl }) refl refl

an_input_named : failures_of (names_of_tree an_input_tree) ≡ []
an_input_named = tree_tells an_input_tree _ (block_then_tells 33 _ _ _ _ tell_none no_block_tells)

an_input_fits : FitTree an_input_tree (Some (block_of 33 [] ∷ []))
an_input_fits = let t = tables_of_tree an_input_tree in let s = scope_of_ports an_input_tree in tree_fits an_input_tree _ refl (block_then_fits t s 33 _ _ _ _ refl (fit_none t s) (no_block_fits t s))

pub an_input : Tell → OneTree → IsUnaccepted an_input_source
an_input tell one =
    unaccepted one an_input_source an_input_tree (omega arith) (an_input_parsed tell) an_input_named an_input_fits.typed
    (no_program an_input_tree (no_program_is an_input_tree _ _ an_input_fits (tables_told an_input_tree _ (block_then_tells 33 _ _ _ _ tell_none no_block_tells) an_input_fits.declared) refl))

-- two signals of one name

abbrev one_name_twice_source : List ℕ
one_name_twice_source = codes "system{interface{output signal A;output signal A;}{}}"

abbrev one_name_twice_sentence : (ℕ → Token) → Program
one_name_twice_sentence t = record { system = t 0; open_system = t 1; interface = t 2; open_ports = t 3; ports = (PortThen (grammar.SignalPort direction.Output (t 4) (Pure (t 5) (t 6) (t 7))) (PortThen (grammar.SignalPort direction.Output (t 8) (Pure (t 9) (t 10) (t 11))) NoPort)); close_ports = t 12; first = (Braces (t 13) Done (t 14)); others = NoOther; close_system = t 15 }

abbrev one_name_twice_tree : SourceTree
one_name_twice_tree = tree_of one_name_twice_source (one_name_twice_sentence (token_in one_name_twice_source))

one_name_twice_parsed : Tell → IsParsed one_name_twice_source one_name_twice_tree
one_name_twice_parsed tell = is_parsed tell one_name_twice_source one_name_twice_sentence refl (record { system = refl; open_system = refl; interface = refl; open_ports = refl; ports = ((refl, (refl, refl, refl)), ((refl, (refl, refl, refl)), tt)); close_ports = refl; first = (refl, tt, refl); others = tt; close_system = refl }) refl refl

pub one_name_twice : Tell → FailsByName one_name_twice_source (failure_at Twice 47)
one_name_twice tell =
    one_failure one_name_twice_source one_name_twice_tree (failure_at Twice 47) (one_name_twice_parsed tell)
    (tree_tells one_name_twice_tree _ (block_then_tells 50 _ _ _ _ tell_none no_block_tells)) (record { one = inl refl; first = refl })

-- a form that isn't built

abbrev a_halt_source : List ℕ
a_halt_source = codes "system{interface{}{halt;}}"

abbrev a_halt_sentence : (ℕ → Token) → Program
a_halt_sentence t = record { system = t 0; open_system = t 1; interface = t 2; open_ports = t 3; ports = NoPort; close_ports = t 4; first = (Braces (t 5) (Then (StillStmt (t 6) (t 7)) Done) (t 8)); others = NoOther; close_system = t 9 }

abbrev a_halt_tree : SourceTree
a_halt_tree = tree_of a_halt_source (a_halt_sentence (token_in a_halt_source))

a_halt_parsed : Tell → IsParsed a_halt_source a_halt_tree
a_halt_parsed tell = is_parsed tell a_halt_source a_halt_sentence refl (record { system = refl; open_system = refl; interface = refl; open_ports = refl; ports = tt; close_ports = refl; first = (refl, ((refl, refl), tt), refl); others = tt; close_system = refl }) refl refl

a_halt_named : failures_of (names_of_tree a_halt_tree) ≡ []
a_halt_named = tree_tells a_halt_tree _ (block_then_tells 18 _ _ _ _ (halt_tells 19 _ _ tell_none) no_block_tells)

a_halt_fits : FitTree a_halt_tree None
a_halt_fits = tree_fits a_halt_tree _ refl (halting_block_fits (tables_of_tree a_halt_tree) (scope_of_ports a_halt_tree) 18 19 refl)

pub a_halt : Tell → OneTree → IsUnaccepted a_halt_source
a_halt tell one = unaccepted one a_halt_source a_halt_tree (omega arith) (a_halt_parsed tell) a_halt_named a_halt_fits.typed (no_program a_halt_tree (no_terms_no_program a_halt_tree a_halt_fits))

-- a name that isn't declared

abbrev no_such_signal_source : List ℕ
no_such_signal_source = codes "system{interface{}{emit A;}}"

abbrev no_such_signal_sentence : (ℕ → Token) → Program
no_such_signal_sentence t = record { system = t 0; open_system = t 1; interface = t 2; open_ports = t 3; ports = NoPort; close_ports = t 4; first = (Braces (t 5) (Then (EmitStmt (t 6) (t 7) NoValue (t 8)) Done) (t 9)); others = NoOther; close_system = t 10 }

abbrev no_such_signal_tree : SourceTree
no_such_signal_tree = tree_of no_such_signal_source (no_such_signal_sentence (token_in no_such_signal_source))

no_such_signal_parsed : Tell → IsParsed no_such_signal_source no_such_signal_tree
no_such_signal_parsed tell = is_parsed tell no_such_signal_source no_such_signal_sentence refl (record { system = refl; open_system = refl; interface = refl; open_ports = refl; ports = tt; close_ports = refl; first = (refl, ((refl, refl, tt, refl), tt), refl); others = tt; close_system = refl }) refl refl

pub no_such_signal : Tell → FailsByName no_such_signal_source (failure_at Unknown 24)
no_such_signal tell =
    one_failure no_such_signal_source no_such_signal_tree (failure_at Unknown 24) (no_such_signal_parsed tell)
    (tree_tells no_such_signal_tree _ (block_then_tells 18 _ _ _ _ (emit_tells 19 24 (record { text = codes "A"; at = 24 }) _ _ tell_none) no_block_tells))
    (record { one = inl refl; first = refl })

-- a loop whose block ends at once

abbrev endless_tick_source : List ℕ
endless_tick_source = codes "system{interface{}{while(true){}}}"

abbrev endless_tick_sentence : (ℕ → Token) → Program
endless_tick_sentence t = record { system = t 0; open_system = t 1; interface = t 2; open_ports = t 3; ports = NoPort; close_ports = t 4; first = (Braces (t 5) (Then (WhileStmt (t 6) (t 7) (t 8) (t 9) (Braces (t 10) Done (t 11))) Done) (t 12)); others = NoOther; close_system = t 13 }

abbrev endless_tick_tree : SourceTree
endless_tick_tree = tree_of endless_tick_source (endless_tick_sentence (token_in endless_tick_source))

endless_tick_parsed : Tell → IsParsed endless_tick_source endless_tick_tree
endless_tick_parsed tell = is_parsed tell endless_tick_source endless_tick_sentence refl (record { system = refl; open_system = refl; interface = refl; open_ports = refl; ports = tt; close_ports = refl; first = (refl, ((refl, refl, refl, refl, (refl, tt, refl)), tt), refl); others = tt; close_system = refl }) refl refl

abbrev loop_program : programs.LoweredProgram
loop_program = record { tables = record { signals = []; channels = []; variables = [] }; terms = block_of 18 (term_at 19 (term_form.Loop (block_of 30 [])) ∷ []) ∷ [] }

endless_tick_named : failures_of (names_of_tree endless_tick_tree) ≡ []
endless_tick_named = tree_tells endless_tick_tree _ (block_then_tells 18 _ _ _ _ (while_tells 19 30 _ _ _ _ tell_none tell_none) no_block_tells)

endless_tick_fits : FitTree endless_tick_tree (Some loop_program.terms)
endless_tick_fits =
    let t = tables_of_tree endless_tick_tree in
    let s = scope_of_ports endless_tick_tree in
    tree_fits endless_tick_tree _ refl (block_then_fits t s 18 _ _ _ _ refl (while_fits t s 19 30 _ _ _ _ refl (fit_none t s) (fit_none t s)) (no_block_fits t s))

loop_is : program_of endless_tick_tree ≡ Some loop_program
loop_is =
    program_is endless_tick_tree loop_program.tables loop_program.terms endless_tick_fits
    (tables_told endless_tick_tree _ (block_then_tells 18 _ _ _ _ (while_tells 19 30 _ _ _ _ tell_none tell_none) no_block_tells) endless_tick_fits.declared) refl

loop_statement : statement (term_at 19 (term_form.Loop (block_of 30 []))) ≡ Loop Nothing
loop_statement = statement-Loop (term_at 19 (term_form.Loop (block_of 30 []))) (block_of 30 []) refl ∙ ap Loop (statement-Nothing (block_of 30 []) refl)

pub endless_tick : Tell → OneTree → IsUnaccepted endless_tick_source
endless_tick tell one = unaccepted one endless_tick_source endless_tick_tree (omega arith) (endless_tick_parsed tell) endless_tick_named endless_tick_fits.typed (λ p is rules.
    let same : loop_program ≡ p = let x : Some loop_program ≡ Some p = sym loop_is ∙ is in cc in
    let waits : LoopsWait (statement (term_at 19 (term_form.Loop (block_of 30 [])))) = (subst KeepsRules (sym same) rules).loops 0 in
    let x : true ≡ false = (subst LoopsWait loop_statement waits).0 in
    cc)
