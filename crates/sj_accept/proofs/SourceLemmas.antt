-- A source is one tree at most, and its names are names.
use Rattle.std.proofs.Common.{◌≡◌, ℕ, suc, ◌≤◌, length, arith, Bool, true, false, ◌&&◌, List, [], ◌∷◌, map, ap, refl, sym, ◌∙◌, subst, Some, None}
use Rattle.std.specs.Prelude.{Option}
use Rattle.std.specs.List.{list_all}
use Rattle.java_values.specs.Names.{is_name}
use Rattle.sj_lexer.specs.declared.token.Token.{Token}
use Rattle.sj_lexer.specs.definitions.Readings.{AreTokens, HaveNames, text_of}
use Rattle.sj_ast.specs.declared.name.Name.{Name}
use Rattle.sj_ast.specs.declared.port.Port as port
use Rattle.sj_names.specs.definitions.SoundTables.{port_name}
use Rattle.sj_grammar.specs.definitions.Statements.{Declared, Pure, Valued, NotCombined, CombinedBy, print_declared, IsDeclared, print_block, print_others}
use Rattle.sj_grammar.specs.definitions.Programs as grammar
use Rattle.sj_grammar.specs.definitions.Programs.{NoPort, PortThen, print_ports, IsPorts, print_program, IsProgram}
use Rattle.sj_grammar.specs.definitions.Trees as trees
use Rattle.sj_grammar.specs.definitions.Trees.{tree_of}
use Rattle.sj_grammar.specs.definitions.SourceTrees.{SourceTree}
use Rattle.sj_accept.specs.definitions.Sources.{IsParsed}
use Rattle.sj_accept.specs.definitions.Programs.{LoweredProgram, program_of}
use Rattle.sj_accept.specs.definitions.Accepted.{IsSourceOf}
use Rattle.sj_accept.specs.Lowered.{IsWhole}
use Rattle.sj_accept.proofs.SourceTraps.{source_nests}

pub parsed_once : (tokens_once : (source : List ℕ) (ts us : List Token) → AreTokens source ts → AreTokens source us → ts ≡ us)
    → (sentences_once : (p q : grammar.Program) → IsProgram p → IsProgram q → print_program p [] ≡ print_program q [] → p ≡ q)
    → (source : List ℕ) (t u : SourceTree) → IsParsed source t → IsParsed source u → t ≡ u
parsed_once tokens_once sentences_once source t u a b =
    let x = a.parsed in
    let y = b.parsed in
    x.stands ∙ ap (tree_of source) (sentences_once x.sentence y.sentence x.is_program y.is_program (x.printed ∙ tokens_once source a.tokens b.tokens a.are b.are ∙ sym y.printed)) ∙ sym y.stands

same_program : (p q : LoweredProgram) → Some p ≡ Some q → p ≡ q
same_program p q h = cc

pub program_once : (once : (source : List ℕ) (t u : SourceTree) → IsParsed source t → IsParsed source u → t ≡ u) → (source : List ℕ) (p q : LoweredProgram) → IsSourceOf source p → IsSourceOf source q → p ≡ q
program_once once source p q a b = same_program p q (sym a.is ∙ ap program_of (once source a.tree b.tree a.parsed b.parsed) ∙ b.is)

-- the ports' names are words of the source

both : (a b : Bool) → a ≡ true → b ≡ true → (a && b) ≡ true
both true b g h = h
both false b g h = g

abbrev all_named : List (port.Port Name) → Type 0
all_named ports = list_all is_name (map port_name ports) ≡ true

signal_named : (source : List ℕ) (s : Declared) (after : List Token) → IsDeclared s → HaveNames source (print_declared s after) → (is_name (trees.signal_of source s).name.text ≡ true) × HaveNames source after
signal_named source (Pure w n c) after i h = (h.1.0 i.1, h.1.1.1)
signal_named source (Valued k v w n NotCombined m) after i h = (h.1.1.0 i.2, h.1.1.1.1)
signal_named source (Valued k v w n (CombinedBy op x y) m) after i h = (h.1.1.0 i.2, h.1.1.1.1.1.1)

ports_named : (source : List ℕ) (ps : grammar.Ports) (after : List Token) → IsPorts ps → HaveNames source (print_ports ps after) → all_named (trees.ports_of source ps)
ports_named source NoPort after i h = refl
ports_named source (PortThen (grammar.SignalPort d w s) ps) after i h =
    let n = signal_named source s (print_ports ps after) i.0.1 h.1 in
    both (is_name (trees.signal_of source s).name.text) (list_all is_name (map port_name (trees.ports_of source ps))) n.0 (ports_named source ps after i.1 n.1)
ports_named source (PortThen (grammar.ChannelPort k v w n c) ps) after i h =
    both (is_name (text_of source n)) (list_all is_name (map port_name (trees.ports_of source ps))) (h.1.1.0 i.0.2) (ports_named source ps after i.1 h.1.1.1.1)

ap_le : {m n : ℕ} → m ≡ suc n → 1 ≤ m
ap_le e = omega arith

pub tree_whole : (named : (source : List ℕ) (ts : List Token) → AreTokens source ts → HaveNames source ts) → (source : List ℕ) (tree : SourceTree) → IsParsed source tree → IsWhole tree
tree_whole named source tree p = record { some = ap_le (ap (λ (t : SourceTree). length t.domains) p.parsed.stands); named = ap (λ (t : SourceTree). list_all is_name (map port_name t.ports)) p.parsed.stands ∙ ports_named source p.parsed.sentence.ports after p.parsed.is_program.ports names; traps = source_nests source tree p }
  where
    after : List Token
    after = p.parsed.sentence.close_ports ∷ print_block p.parsed.sentence.first (print_others p.parsed.sentence.others (p.parsed.sentence.close_system ∷ []))

    whole : HaveNames source (print_program p.parsed.sentence [])
    whole = subst (HaveNames source) (sym p.parsed.printed) (named source p.tokens p.are)

    names : HaveNames source (print_ports p.parsed.sentence.ports after)
    names = whole.1.1.1.1
