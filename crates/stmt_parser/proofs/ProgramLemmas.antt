-- Where the walk over a program stops, in the words of the grammar.
use Rattle.std.proofs.Common.{◌≡◌, ℕ, ◌≤◌, ◌<◌, Bool, true, false, List, [], ◌∷◌, ◌++◌, length, Some, ap, refl, sym, ◌∙◌, subst, arith, append-nil}
use Rattle.sj_lexer.specs.declared.token.Class.TheVariants.{Reserved, Mark}
use Rattle.sj_lexer.specs.declared.token.Mark.TheVariants as mark
use Rattle.sj_lexer.specs.declared.token.Word.TheVariants as word
use Rattle.sj_lexer.specs.declared.token.Token.{Token}
use Rattle.sj_ast.specs.declared.name.Name as ast_name
use Rattle.sj_ast.specs.declared.expression.Raw as raw
use Rattle.sj_ast.specs.declared.port.Port as port
use Rattle.sj_ast.specs.declared.statement.Tree.{Tree}
use Rattle.sj_grammar.specs.definitions.Roles.{has}
use Rattle.sj_grammar.specs.definitions.Programs.{print_program, print_ports}
use Rattle.sj_grammar.specs.definitions.Trees.{SourceBlock, ports_of}
use Rattle.sj_grammar.specs.definitions.Sentences.{BeginProgram}
use Rattle.sj_grammar.specs.definitions.Machine.{Symbol, T, PortList, InBraces, OthersPart, steps, program, can_read, reads, may_stop}
use Rattle.sj_grammar.specs.definitions.Walks.{Outcome, Ended, Refused, TooDeep, walk}
use Rattle.sj_grammar.specs.definitions.Limits.{IsWithin, IsBlocked, Halts, Sinks, Tells}
use Rattle.sj_grammar.proofs.SentenceReadings.{program-begins, program-whole}
use Rattle.sj_grammar.proofs.WalkStops.{tells, steps-more, steps-one-none}
use Rattle.expr_parser.specs.declared.read.Stop.{Stop}
use Rattle.expr_parser.specs.declared.read.Stop.TheVariants as stop_at
use Rattle.expr_parser.specs.definitions.Longest.{IsLongest}
use Rattle.expr_parser.specs.Reading.{IsFirst, FailsAt}
use Rattle.stmt_parser.specs.definitions.Parsing.{IsTreeOf}
use Rattle.stmt_parser.specs.Reading.{ReadsPorts, ReadsInterface, ReadsDomains, ReadsProgram, RefusedBefore, TooDeepBefore, Stops}
use Rattle.stmt_parser.proofs.WalkLemmas.{class-goes}
use Rattle.stmt_parser.proofs.LeafLemmas.{first-class}

pub interface-reads : (source : List ℕ) (ts us vs ws xs mid rest : List Token) (t u v w x : Token) (ports : List (port.Port ast_name.Name)) → IsFirst (Reserved word.System) ts t us → IsFirst (Mark mark.OpenBrace) us u vs → IsFirst (Reserved word.Interface) vs v ws → IsFirst (Mark mark.OpenBrace) ws w xs
    → ReadsPorts source xs 2 ports mid → IsFirst (Mark mark.CloseBrace) mid x rest → ReadsInterface source ts ports rest
interface-reads source ts us vs ws xs mid rest t u v w x ports a b c d r e = record {
  system = t;
  open_system = u;
  interface = v;
  open_ports = w;
  ports = r.front.ports;
  close_ports = x;
  is_system = first-class (Reserved word.System) ts us t a;
  opens_system = first-class (Mark mark.OpenBrace) us vs u b;
  is_interface = first-class (Reserved word.Interface) vs ws v c;
  opens_ports = first-class (Mark mark.OpenBrace) ws xs w d;
  are_ports = r.front.are_ports;
  closes_ports = first-class (Mark mark.CloseBrace) mid rest x e;
  stands = r.front.stands;
  printed = a.is ∙ ap (λ l. t ∷ l) (b.is ∙ ap (λ l. u ∷ l) (c.is ∙ ap (λ l. v ∷ l) (d.is ∙ ap (λ l. w ∷ l) (r.front.printed ∙ ap (print_ports r.front.ports) e.is))));
  goes = record {
    goes = λ k. class-goes (Reserved word.System) (T (Reserved word.System) ∷ T (Mark mark.OpenBrace) ∷ T (Reserved word.Interface) ∷ T (Mark mark.OpenBrace) ∷ PortList ∷ T (Mark mark.CloseBrace) ∷ k) (T (Mark mark.OpenBrace) ∷ T (Reserved word.Interface) ∷ T (Mark mark.OpenBrace) ∷ PortList ∷ T (Mark mark.CloseBrace) ∷ k) 0 0 t ts us 0 0 a refl refl refl refl
        ∙ class-goes (Mark mark.OpenBrace) (T (Mark mark.OpenBrace) ∷ T (Reserved word.Interface) ∷ T (Mark mark.OpenBrace) ∷ PortList ∷ T (Mark mark.CloseBrace) ∷ k) (T (Reserved word.Interface) ∷ T (Mark mark.OpenBrace) ∷ PortList ∷ T (Mark mark.CloseBrace) ∷ k) 0 0 u us vs 1 0 b refl refl refl refl
        ∙ class-goes (Reserved word.Interface) (T (Reserved word.Interface) ∷ T (Mark mark.OpenBrace) ∷ PortList ∷ T (Mark mark.CloseBrace) ∷ k) (T (Mark mark.OpenBrace) ∷ PortList ∷ T (Mark mark.CloseBrace) ∷ k) 1 0 v vs ws 1 0 c refl refl refl refl
        ∙ class-goes (Mark mark.OpenBrace) (T (Mark mark.OpenBrace) ∷ PortList ∷ T (Mark mark.CloseBrace) ∷ k) (PortList ∷ T (Mark mark.CloseBrace) ∷ k) 1 0 w ws xs 2 0 d refl refl refl refl
        ∙ r.front.walks (T (Mark mark.CloseBrace) ∷ k) ∙ r.skips.skips (T (Mark mark.CloseBrace) ∷ k) 2 0
        ∙ class-goes (Mark mark.CloseBrace) (T (Mark mark.CloseBrace) ∷ k) k 2 0 x mid rest 1 0 e refl refl refl refl;
  };
}

pub program-reads : (source : List ℕ) (ts mid rest : List Token) (ports : List (port.Port ast_name.Name)) (domains : List SourceBlock) → ReadsInterface source ts ports mid → ReadsDomains source mid domains rest → ReadsProgram source ts (record { ports = ports; domains = domains }) rest
program-reads source ts mid rest ports domains i d = record {
  tree_is = record { system = i.system; open_system = i.open_system; interface = i.interface; open_ports = i.open_ports; ports = i.ports; close_ports = i.close_ports; first = d.first; others = d.others; close_system = d.close_system };
  is_program = record { system = i.is_system; open_system = i.opens_system; interface = i.is_interface; open_ports = i.opens_ports; ports = i.are_ports; close_ports = i.closes_ports; first = d.is_first; others = d.are_others; close_system = d.closes_system };
  stands = ap (λ x. (let t : Tree ast_name.Name (raw.Raw ast_name.Name) = record { ports = x; domains = domains } in t)) i.stands ∙ ap (λ x. (let t : Tree ast_name.Name (raw.Raw ast_name.Name) = record { ports = ports_of source i.ports; domains = x } in t)) d.stands;
  printed = i.printed ∙ ap (λ x. i.system ∷ i.open_system ∷ i.interface ∷ i.open_ports ∷ print_ports i.ports (i.close_ports ∷ x)) d.printed;
  goes = record { goes = λ k. i.goes.goes (InBraces ∷ OthersPart mark.Beside ∷ T (Mark mark.CloseBrace) ∷ k) ∙ d.goes.goes k };
}

told : (ts : List Token) (o : Outcome) → walk program 0 0 ts ≡ o → Tells program 0 0 ts o
told ts o h = let P : Outcome → Type 0 = λ x. Tells program 0 0 ts x in subst P h (tells program 0 0 ts)

walk-nothing : (d n : ℕ) (ts : List Token) → walk [] d n ts ≡ Ended ts
walk-nothing d n [] = refl
walk-nothing d n (t ∷ ts) = refl

not-true : (b : Bool) → b ≡ false → b ≡ true → ⊥
not-true b h g = cc

longest : (run rest : List Token) (left : List Symbol) → steps program run ≡ Some left → IsBlocked left rest → IsLongest BeginProgram run rest
longest run rest left h b = record {
  begins = (let q = program-begins run in q.1 (ap has h));
  ends = λ t more e g. (let q = program-begins (run ++ t ∷ []) in not-true (can_read program (run ++ t ∷ [])) (ap has (steps-more run (t ∷ []) program left h ∙ steps-one-none left t (b.none t more e))) (q.0 g));
}

ended : (source : List ℕ) (ts rest : List Token) (tree : Tree ast_name.Name (raw.Raw ast_name.Name)) → ReadsProgram source ts tree rest → Halts program 0 0 ts true rest
ended source ts rest tree r = told ts (Ended rest) (r.goes.goes [] ∙ walk-nothing 0 0 rest)

pub is-tree : (source : List ℕ) (ts rest : List Token) (tree : Tree ast_name.Name (raw.Raw ast_name.Name)) → ReadsProgram source ts tree rest → rest ≡ [] → IsTreeOf source ts tree
is-tree source ts rest tree r h =
    let w = ended source ts rest tree r in
    let e : w.run ≡ ts = sym (w.is ∙ ap (λ x. w.run ++ x) h ∙ append-nil w.run) in
    let P : List Token → Type 0 = λ us. IsWithin program 0 0 w.run us in
    let Q : List Token → Type 0 = λ us. IsWithin program 0 0 us [] in
    record { sentence = r.tree_is; is_program = r.is_program; printed = sym (r.printed ∙ ap (print_program r.tree_is) h); stands = r.stands; within = subst Q e (subst P h w.within) }

pub left-over : (source : List ℕ) (ts rest : List Token) (tree : Tree ast_name.Name (raw.Raw ast_name.Name)) → ReadsProgram source ts tree rest → (rest ≡ [] → ⊥) → RefusedBefore ts rest
left-over source ts rest tree r h =
    let w = ended source ts rest tree r in
    record { run = w.run; refused = record { is = w.is; longest = longest w.run rest w.left w.steps_are w.blocked; none = λ g a. h g; within = w.within } }

halted : (ts rest : List Token) → Halts program 0 0 ts false rest → RefusedBefore ts rest
halted ts rest w = record {
  run = w.run;
  refused = record {
    is = w.is;
    longest = longest w.run rest w.left w.steps_are w.blocked;
    none = λ g a. (let q = program-whole w.run in not-true (reads program w.run) (ap may_stop w.steps_are ∙ w.ends_are) (q.0 a));
    within = w.within;
  };
}

sunk : (ts rest : List Token) → Sinks program 0 0 ts rest → TooDeepBefore ts rest
sunk ts rest w = record { run = w.run; refused = record { token = w.token; after = w.after; at = w.at; is = w.is; begins = (let q = program-begins (w.run ++ w.token ∷ []) in q.1 (ap has w.steps_are)); deep = w.deep } }

pub stops : (ts : List Token) (s : Stop) → FailsAt program ts 0 0 s → Stops ts s
stops ts (stop_at.Syntax bad) f = halted ts bad.now (told ts (Refused bad.now) (f.fails []))
stops ts (stop_at.TooDeep bad) f = sunk ts bad.now (told ts (TooDeep bad.now) (f.fails []))
stops ts stop_at.NoMemory f = tt

pub nothing-left : (ts : List Token) → length ts < 1 → ts ≡ []
nothing-left [] h = refl
nothing-left (t ∷ ts) h = absurd (omega arith)

pub some-left : (ts : List Token) → 1 ≤ length ts → ts ≡ [] → ⊥
some-left ts h e = (let x = ap length e in omega arith)
