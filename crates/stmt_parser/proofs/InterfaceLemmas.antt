-- The ports of an interface.
use Rattle.std.proofs.Common.{◌≡◌, ℕ, Bool, true, false, ◌||◌, List, [], ◌∷◌, ◌++◌, length, Some, None, ap, refl, sym, ◌∙◌, arith}
use Rattle.java_values.specs.declared.kind.Kind.{Kind}
use Rattle.sj_lexer.specs.declared.token.Class.{Class}
use Rattle.sj_lexer.specs.declared.token.Class.TheVariants.{Reserved, Name, Mark}
use Rattle.sj_lexer.specs.declared.token.Mark.TheVariants as mark
use Rattle.sj_lexer.specs.declared.token.Word.TheVariants as word
use Rattle.sj_lexer.specs.declared.token.Token.{Token}
use Rattle.sj_ast.specs.declared.name.Name as ast_name
use Rattle.sj_ast.specs.declared.port.Direction.{Direction}
use Rattle.sj_ast.specs.declared.port.Signal.{Signal}
use Rattle.sj_ast.specs.declared.port.Port as port
use Rattle.sj_ast.specs.declared.port.Port.TheVariants as port_is
use Rattle.sj_grammar.specs.definitions.Classes.{same}
use Rattle.sj_grammar.specs.definitions.Roles.{direction_of, kind_of, has}
use Rattle.sj_grammar.specs.definitions.Statements.{Pure, Valued}
use Rattle.sj_grammar.specs.definitions.Programs.{Port, SignalPort, ChannelPort, Ports, NoPort, PortThen, print_port, print_ports, IsPort, IsPorts}
use Rattle.sj_grammar.specs.definitions.Trees.{port_of, ports_of}
use Rattle.sj_grammar.specs.definitions.Machine.{Symbol, T, CombinePart, SignalPart, PortList, next}
use Rattle.sj_grammar.specs.definitions.Walks.{level_after, operators_after, is_too_deep, Refused, walk}
use Rattle.sj_grammar.proofs.TokenWalks.{walk-none, walk-to, walk-alike, level-kind, operators-kind, deep-kind}
use Rattle.sj_grammar.proofs.ClassRoles.{kind-no-direction, second-false}
use Rattle.expr_parser.specs.declared.read.Stop.{Stop}
use Rattle.expr_parser.specs.Reading.{IsNotFirst, NoFirstKind, IsFirst, IsFirstKind, Fails, FailsAt}
use Rattle.stmt_parser.specs.Reading.{ReadsNameEnd, ReadsValued, begins_port, ReadsDeclared, ReadsPort, ReadsPortsSoFar, ReadsPorts}
use Rattle.stmt_parser.proofs.WalkLemmas.{class-goes, stops-here}
use Rattle.stmt_parser.proofs.LeafLemmas.{first-class}

pub pure-reads : (source : List ℕ) (ts us rest : List Token) (w : Token) (d : ℕ) (name : ast_name.Name) → IsFirst (Reserved word.Signal) ts w us → ReadsNameEnd source us d name rest → ReadsDeclared source ts d (record { at = name.at; name = name; valued = None }) rest
pure-reads source ts us rest w d name f n = record {
  declared = Pure w n.token n.semicolon;
  is_declared = (first-class (Reserved word.Signal) ts us w f, n.named, n.ends);
  stands = ap (λ (x : ast_name.Name). (let y : Signal ast_name.Name = record { at = x.at; name = x; valued = None } in y)) n.stands;
  printed = f.is ∙ ap (λ x. w ∷ x) n.printed;
  goes = record { goes = λ k. class-goes (Reserved word.Signal) (SignalPart ∷ k) (T Name ∷ T (Mark mark.Semicolon) ∷ k) d 0 w ts us d 0 f refl refl refl refl ∙ n.goes.goes k };
  shorter = (let x = ap length f.is in let y = ap length n.printed in omega arith);
}

no-signal-kind : (c : Class) (kind : Kind) (k : List Symbol) → kind_of c ≡ Some kind → same (Reserved word.Signal) c ≡ false → next (SignalPart ∷ k) c ≡ Some (T (Reserved word.Signal) ∷ T Name ∷ CombinePart ∷ T (Mark mark.Semicolon) ∷ k)
no-signal-kind c kind k h g = rw (g, h) refl

has-kind : (c : Class) (kind : Kind) → kind_of c ≡ Some kind → has (kind_of c) ≡ true
has-kind c kind h = ap has h

kind-goes : (ts us : List Token) (kind : Kind) (d : ℕ) (k : List Symbol) (f : IsFirstKind ts kind us) → IsNotFirst (Reserved word.Signal) ts → walk (SignalPart ∷ k) d 0 ts ≡ walk (T (Reserved word.Signal) ∷ T Name ∷ CombinePart ∷ T (Mark mark.Semicolon) ∷ k) d 0 us
kind-goes ts us kind d k f b =
    let j : List Symbol = T (Reserved word.Signal) ∷ T Name ∷ CombinePart ∷ T (Mark mark.Semicolon) ∷ k in
    let h = has-kind f.token.class kind f.kind_is in
    ap (walk (SignalPart ∷ k) d 0) f.is ∙ walk-to (SignalPart ∷ k) d 0 f.token us j d 0 (no-signal-kind f.token.class kind k f.kind_is (b.none f.token us f.is)) (deep-kind d 0 f.token.class j us h) (level-kind d f.token.class h) (operators-kind 0 f.token.class j us h)

pub valued-port : (source : List ℕ) (ts us vs rest : List Token) (kind : Kind) (w : Token) (d : ℕ) (signal : Signal ast_name.Name) → IsNotFirst (Reserved word.Signal) ts → IsFirstKind ts kind us → IsFirst (Reserved word.Signal) us w vs → ReadsValued source kind vs d signal rest → ReadsDeclared source ts d signal rest
valued-port source ts us vs rest kind w d signal b f g r = record {
  declared = Valued kind f.token w r.token r.combined r.semicolon;
  is_declared = (f.kind_is, first-class (Reserved word.Signal) us vs w g, r.named, r.is_combined, r.ends);
  stands = r.stands;
  printed = f.is ∙ ap (λ x. f.token ∷ x) (g.is ∙ ap (λ x. w ∷ x) r.printed);
  goes = record { goes = λ k. kind-goes ts us kind d k f b ∙ class-goes (Reserved word.Signal) (T (Reserved word.Signal) ∷ T Name ∷ CombinePart ∷ T (Mark mark.Semicolon) ∷ k) (T Name ∷ CombinePart ∷ T (Mark mark.Semicolon) ∷ k) d 0 w us vs d 0 g refl refl refl refl ∙ r.goes.goes k };
  shorter = (let x = ap length f.is in let y = ap length g.is in let z = r.no_longer in omega arith);
}

no-declared : (t : Token) (k : List Symbol) → same (Reserved word.Signal) t.class ≡ false → has (kind_of t.class) ≡ false → next (SignalPart ∷ k) t.class ≡ None
no-declared t k h g = rw (h, g) refl

declared-refused : (ts : List Token) (d : ℕ) (k : List Symbol) → IsNotFirst (Reserved word.Signal) ts → NoFirstKind ts → walk (SignalPart ∷ k) d 0 ts ≡ Refused ts
declared-refused [] d k b g = refl
declared-refused (t ∷ ts) d k b g = walk-none (SignalPart ∷ k) d 0 t ts (no-declared t k (b.none t ts refl) (g.none t ts refl))

pub declared-absent : (ts : List Token) (d : ℕ) (s : Stop) → IsNotFirst (Reserved word.Signal) ts → NoFirstKind ts → Fails s (Refused ts) → FailsAt (SignalPart ∷ []) ts d 0 s
declared-absent ts d s b g h = stops-here (SignalPart ∷ []) ts d 0 s (Refused ts) (λ k. declared-refused ts d k b g) h

-- a port's first token
no-direction : (c : Class) (kind : Kind) → kind_of c ≡ Some kind → has (direction_of c) ≡ false
no-direction c kind h = second-false (has (kind_of c)) (has (direction_of c)) (kind-no-direction c) (ap has h)

channel-next : (c : Class) (k : List Symbol) → has (direction_of c) ≡ false → has (kind_of c) ≡ true → next (PortList ∷ k) c ≡ Some (T (Reserved word.Channel) ∷ T Name ∷ T (Mark mark.Semicolon) ∷ PortList ∷ k)
channel-next c k h g = rw (h, g) refl

channel-goes : (ts us : List Token) (t : Token) (kind : Kind) (d : ℕ) (k : List Symbol) → ts ≡ t ∷ us → kind_of t.class ≡ Some kind → walk (PortList ∷ k) d 0 ts ≡ walk (T (Reserved word.Channel) ∷ T Name ∷ T (Mark mark.Semicolon) ∷ PortList ∷ k) d 0 us
channel-goes ts us t kind d k i q =
    let j : List Symbol = T (Reserved word.Channel) ∷ T Name ∷ T (Mark mark.Semicolon) ∷ PortList ∷ k in
    let h = has-kind t.class kind q in
    ap (walk (PortList ∷ k) d 0) i ∙ walk-to (PortList ∷ k) d 0 t us j d 0 (channel-next t.class k (no-direction t.class kind q) h) (deep-kind d 0 t.class j us h) (level-kind d t.class h) (operators-kind 0 t.class j us h)

pub channel-reads : (source : List ℕ) (ts us vs rest : List Token) (t w : Token) (kind : Kind) (d : ℕ) (name : ast_name.Name) → ts ≡ t ∷ us → kind_of t.class ≡ Some kind → IsFirst (Reserved word.Channel) us w vs → ReadsNameEnd source vs d name rest
    → ReadsPort source ts d (port_is.Channel (record { kind = kind; at = name.at; name = name })) rest
channel-reads source ts us vs rest t w kind d name i q f n = record {
  port = ChannelPort kind t w n.token n.semicolon;
  is_port = (q, first-class (Reserved word.Channel) us vs w f, n.named, n.ends);
  stands = ap (λ (x : ast_name.Name). (let y : port.Port ast_name.Name = port_is.Channel (record { kind = kind; at = x.at; name = x }) in y)) n.stands;
  printed = i ∙ ap (λ x. t ∷ x) (f.is ∙ ap (λ x. w ∷ x) n.printed);
  walks = λ k. channel-goes ts us t kind d k i q ∙ class-goes (Reserved word.Channel) (T (Reserved word.Channel) ∷ T Name ∷ T (Mark mark.Semicolon) ∷ PortList ∷ k) (T Name ∷ T (Mark mark.Semicolon) ∷ PortList ∷ k) d 0 w us vs d 0 f refl refl refl refl ∙ n.goes.goes (PortList ∷ k);
  shorter = (let x = ap length i in let y = ap length f.is in let z = ap length n.printed in omega arith);
}

signal-next : (c : Class) (k : List Symbol) → has (direction_of c) ≡ true → next (PortList ∷ k) c ≡ Some (SignalPart ∷ PortList ∷ k)
signal-next c k h = rw h refl

direction-level : (d : ℕ) (c : Class) → has (direction_of c) ≡ true → level_after d c ≡ d
direction-level d (Reserved word.Input) h = refl
direction-level d (Mark mark.Plus) h = cc
direction-level d _ h = cc

direction-counts : (c : Class) (k : List Symbol) (us : List Token) → has (direction_of c) ≡ true → operators_after 0 c k us ≡ 0
direction-counts (Reserved word.Input) k us h = refl
direction-counts (Mark mark.Plus) k us h = cc
direction-counts _ k us h = cc

direction-deep : (d : ℕ) (c : Class) (k : List Symbol) (us : List Token) → has (direction_of c) ≡ true → is_too_deep d 0 c k us ≡ false
direction-deep d (Reserved word.Input) k us h = refl
direction-deep d (Mark mark.Plus) k us h = cc
direction-deep d _ k us h = cc

direction-goes : (ts us : List Token) (t : Token) (direction : Direction) (d : ℕ) (k : List Symbol) → ts ≡ t ∷ us → direction_of t.class ≡ Some direction → walk (PortList ∷ k) d 0 ts ≡ walk (SignalPart ∷ PortList ∷ k) d 0 us
direction-goes ts us t direction d k i q =
    let h : has (direction_of t.class) ≡ true = ap has q in
    ap (walk (PortList ∷ k) d 0) i ∙ walk-to (PortList ∷ k) d 0 t us (SignalPart ∷ PortList ∷ k) d 0 (signal-next t.class k h) (direction-deep d t.class (SignalPart ∷ PortList ∷ k) us h) (direction-level d t.class h) (direction-counts t.class (SignalPart ∷ PortList ∷ k) us h)

pub signal-port-reads : (source : List ℕ) (ts us rest : List Token) (t : Token) (direction : Direction) (d : ℕ) (signal : Signal ast_name.Name) → ts ≡ t ∷ us → direction_of t.class ≡ Some direction → ReadsDeclared source us d signal rest
    → ReadsPort source ts d (port_is.Signal (record { direction = direction; signal = signal })) rest
signal-port-reads source ts us rest t direction d signal i q r = record {
  port = SignalPort direction t r.declared;
  is_port = (q, r.is_declared);
  stands = ap (λ (x : Signal ast_name.Name). (let y : port.Port ast_name.Name = port_is.Signal (record { direction = direction; signal = x }) in y)) r.stands;
  printed = i ∙ ap (λ x. t ∷ x) r.printed;
  walks = λ k. direction-goes ts us t direction d k i q ∙ r.goes.goes (PortList ∷ k);
  shorter = (let x = ap length i in let y = r.shorter in omega arith);
}

-- ports one after another
pub ports-none : (source : List ℕ) (ts : List Token) (d : ℕ) → ReadsPortsSoFar source ts d [] ts
ports-none source ts d = record { ports = NoPort; are_ports = tt; stands = refl; printed = refl; walks = λ k. refl; no_longer = omega arith }

abbrev and_port : Ports → Port → Ports
and_port NoPort p = PortThen p NoPort
and_port (PortThen x ps) p = PortThen x (and_port ps p)

port-print : (ps : Ports) (p : Port) (after : List Token) → print_ports (and_port ps p) after ≡ print_ports ps (print_port p after)
port-print NoPort p after = refl
port-print (PortThen x ps) p after = ap (print_port x) (port-print ps p after)

port-are : (ps : Ports) (p : Port) → IsPorts ps → IsPort p → IsPorts (and_port ps p)
port-are NoPort p h g = (g, tt)
port-are (PortThen x ps) p h g = (h.0, port-are ps p h.1 g)

port-stand : (source : List ℕ) (ps : Ports) (p : Port) → ports_of source (and_port ps p) ≡ ports_of source ps ++ port_of source p ∷ []
port-stand source NoPort p = refl
port-stand source (PortThen x ps) p = ap (λ l. port_of source x ∷ l) (port-stand source ps p)

pub ports-more : (source : List ℕ) (ts mid rest : List Token) (d : ℕ) (old new : List (port.Port ast_name.Name)) (tree : port.Port ast_name.Name) → new ≡ old ++ tree ∷ [] → ReadsPortsSoFar source ts d old mid → ReadsPort source mid d tree rest → ReadsPortsSoFar source ts d new rest
ports-more source ts mid rest d old new tree h r q = record {
  ports = and_port r.ports q.port;
  are_ports = port-are r.ports q.port r.are_ports q.is_port;
  stands = h ∙ ap (λ l. l ++ tree ∷ []) r.stands ∙ ap (λ x. ports_of source r.ports ++ x ∷ []) q.stands ∙ sym (port-stand source r.ports q.port);
  printed = r.printed ∙ ap (print_ports r.ports) q.printed ∙ sym (port-print r.ports q.port rest);
  walks = λ k. r.walks k ∙ q.walks k;
  no_longer = (let x = r.no_longer in let y = q.shorter in omega arith);
}

or-left : (a b : Bool) → (a || b) ≡ false → a ≡ false
or-left true b h = h
or-left false b h = refl

or-right : (a b : Bool) → (a || b) ≡ false → b ≡ false
or-right true b h = absurd (cc)
or-right false b h = h

no-port : (t : Token) (k : List Symbol) → has (direction_of t.class) ≡ false → has (kind_of t.class) ≡ false → next (PortList ∷ k) t.class ≡ next k t.class
no-port t k h g = rw (h, g) refl

begins-no-port : (ts more : List Token) (t : Token) → begins_port ts ≡ false → ts ≡ t ∷ more → (has (direction_of t.class) || has (kind_of t.class)) ≡ false
begins-no-port ts more t h i = sym (ap begins_port i) ∙ h

pub ports-end : (source : List ℕ) (ts mid : List Token) (d : ℕ) (trees : List (port.Port ast_name.Name)) → ReadsPortsSoFar source ts d trees mid → begins_port mid ≡ false → ReadsPorts source ts d trees mid
ports-end source ts mid d trees r h = record {
  front = r;
  skips = record { skips = λ k e n. walk-alike (PortList ∷ k) k e n mid (λ t more i. no-port t k (or-left (has (direction_of t.class)) (has (kind_of t.class)) (begins-no-port mid more t h i)) (or-right (has (direction_of t.class)) (has (kind_of t.class)) (begins-no-port mid more t h i))) refl };
}
