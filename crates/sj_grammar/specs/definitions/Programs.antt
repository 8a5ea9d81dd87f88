-- The grammar of programs, as the tokens of each tree.
use Rattle.std.specs.Prelude.{◌≡◌, List, ◌∷◌, Some}
use Rattle.java_values.specs.declared.kind.Kind.{Kind}
use Rattle.sj_ast.specs.declared.port.Direction.{Direction}
use Rattle.sj_lexer.specs.declared.token.Mark.TheVariants as mark
use Rattle.sj_lexer.specs.declared.token.Word.TheVariants as word
use Rattle.sj_lexer.specs.declared.token.Token.{Token}
use Rattle.sj_grammar.specs.definitions.Roles.{kind_of, direction_of}
use Rattle.sj_grammar.specs.definitions.Expressions.{IsMark, IsWord, IsName}
use Rattle.sj_grammar.specs.definitions.Statements.{Declared, Block, Others, print_declared, print_block, print_others, IsDeclared, IsBlock, IsOthers}

-- ( `input` | `output` ) signal | kind `channel` NAME `;`
pub data Port : Type 0 where
  SignalPort : (direction : Direction) (keyword : Token) (signal : Declared) → Port
  ChannelPort : (kind : Kind) (kind_word keyword name semicolon : Token) → Port

abbrev pub print_port : Port → List Token → List Token
print_port (SignalPort d w s) after = w ∷ print_declared s after
print_port (ChannelPort k v w n s) after = v ∷ w ∷ n ∷ s ∷ after

abbrev pub IsPort : Port → Type 0
IsPort (SignalPort d w s) = (direction_of w.class ≡ Some d) × IsDeclared s
IsPort (ChannelPort k v w n s) =
    (kind_of v.class ≡ Some k) × IsWord word.Channel w × IsName n × IsMark mark.Semicolon s

-- { port }
pub data Ports : Type 0 where
  NoPort : Ports
  PortThen : (port : Port) (rest : Ports) → Ports

abbrev pub print_ports : Ports → List Token → List Token
print_ports NoPort after = after
print_ports (PortThen p ps) after = print_port p (print_ports ps after)

abbrev pub IsPorts : Ports → Type 0
IsPorts NoPort = Unit {0}
IsPorts (PortThen p ps) = IsPort p × IsPorts ps

-- `system` `{` `interface` `{` { port } `}` block { `><` block } `}`
pub record Program : Type 0 where
  pub system : Token
  pub open_system : Token
  pub interface : Token
  pub open_ports : Token
  pub ports : Ports
  pub close_ports : Token
  pub first : Block
  pub others : Others
  pub close_system : Token

abbrev pub print_program : Program → List Token → List Token
print_program p after =
    p.system ∷ p.open_system ∷ p.interface ∷ p.open_ports
    ∷ print_ports p.ports (p.close_ports ∷
    print_block p.first (print_others p.others (p.close_system ∷ after)))

pub record IsProgram (p : Program) : Type 0 where
  pub system : IsWord word.System p.system
  pub open_system : IsMark mark.OpenBrace p.open_system
  pub interface : IsWord word.Interface p.interface
  pub open_ports : IsMark mark.OpenBrace p.open_ports
  pub ports : IsPorts p.ports
  pub close_ports : IsMark mark.CloseBrace p.close_ports
  pub first : IsBlock p.first
  pub others : IsOthers mark.Beside p.others
  pub close_system : IsMark mark.CloseBrace p.close_system
