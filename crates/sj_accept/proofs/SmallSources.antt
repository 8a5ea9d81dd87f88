-- Small sources: their bytes, their pieces and their sentences.
use Rattle.std.proofs.Common.{◌≡◌, ℕ, pos, List, [], ◌∷◌, get_or, refl}
use Rattle.std.specs.Prelude.{codes}
use Rattle.java_values.specs.declared.kind.Kind.TheVariants as kind
use Rattle.sj_lexer.specs.declared.token.Class.TheVariants as class
use Rattle.sj_lexer.specs.declared.token.Mark as sign
use Rattle.sj_lexer.specs.declared.token.Mark.TheVariants as mark
use Rattle.sj_lexer.specs.declared.token.Word as reserved
use Rattle.sj_lexer.specs.declared.token.Word.TheVariants as word
use Rattle.sj_lexer.specs.declared.token.Token.{Token}
use Rattle.sj_lexer.specs.definitions.Readings.{Piece, Gap, Text, Leads, tokens_from}
use Rattle.sj_ast.specs.declared.port.Direction.TheVariants as direction
use Rattle.sj_grammar.specs.definitions.Expressions.{Atom}
use Rattle.sj_grammar.specs.definitions.Statements.{NoValue, Pure, StillStmt, EmitStmt, WhileStmt, SendStmt, ReceiveStmt, Done, Then, Braces, NoOther, Beside}
use Rattle.sj_grammar.specs.definitions.Programs.{SignalPort, ChannelPort, NoPort, PortThen, Program, print_program, IsProgram}
use Rattle.sj_grammar.specs.definitions.Trees.{tree_of}
use Rattle.sj_grammar.specs.definitions.Machine.{program}
use Rattle.sj_grammar.specs.definitions.Limits.{IsWithin}
use Rattle.sj_accept.specs.definitions.Sources.{IsParsed}

-- pieces

abbrev sign_piece : sign.Mark → Piece
sign_piece m = Text (class.Mark m) 1

abbrev word_piece : reserved.Word → ℕ → Piece
word_piece w bytes = Text (class.Reserved w) bytes

-- a name of one byte
abbrev letter : Piece
letter = Text class.Name 1

abbrev gap : Piece
gap = Gap 1

-- the tokens of pieces, and the token of a number
abbrev tokens_of : List Piece → List Token
tokens_of pieces = tokens_from 0 pieces

abbrev token_in : List Piece → ℕ → Token
token_in pieces n = get_or (tokens_of pieces) n (record { class = class.Name; start = 0; end = 0 })

-- a source of whole pieces that are a sentence within the limits
pub record IsRead (source : List ℕ) (pieces : List Piece) (sentence : Program) : Type 0 where
  pub leads : Leads source pieces []
  pub is_program : IsProgram sentence
  pub printed : print_program sentence [] ≡ tokens_of pieces
  pub within : IsWithin program 0 0 (tokens_of pieces) []

pub parsed : (source : List ℕ) (pieces : List Piece) (sentence : Program) → IsRead source pieces sentence → IsParsed source (tree_of source sentence)
parsed source pieces sentence r = record {
  tokens = tokens_of pieces;
  are = record { pieces = pieces; leads = r.leads; are = refl };
  parsed = record { sentence = sentence; is_program = r.is_program; printed = r.printed; stands = refl; within = r.within };
}

-- the empty program

abbrev pub empty_source : List ℕ
empty_source = codes "system{interface{}{}}"

abbrev empty_pieces : List Piece
empty_pieces =
    word_piece word.System 6 ∷ sign_piece mark.OpenBrace ∷ word_piece word.Interface 9 ∷ sign_piece mark.OpenBrace ∷
    sign_piece mark.CloseBrace ∷ sign_piece mark.OpenBrace ∷ sign_piece mark.CloseBrace ∷ sign_piece mark.CloseBrace ∷ []

abbrev pub empty_sentence : Program
empty_sentence =
    let t = token_in empty_pieces in
    record {
      system = t 0;
      open_system = t 1;
      interface = t 2;
      open_ports = t 3;
      ports = NoPort;
      close_ports = t 4;
      first = Braces (t 5) Done (t 6);
      others = NoOther;
      close_system = t 7;
    }

empty_is_read : IsRead empty_source empty_pieces empty_sentence
empty_is_read = record {
  leads = (refl, (refl, (refl, (refl, (refl, (refl, (refl, (refl, refl))))))));
  is_program = record { system = refl; open_system = refl; interface = refl; open_ports = refl; ports = tt; close_ports = refl; first = (refl, tt, refl); others = tt; close_system = refl };
  printed = refl;
  within = record { reads = (_, refl, refl, (_, refl, refl, (_, refl, refl, (_, refl, refl, (_, refl, refl, (_, refl, refl, (_, refl, refl, (_, refl, refl, tt)))))))) };
}

pub empty_parsed : IsParsed empty_source (tree_of empty_source empty_sentence)
empty_parsed = parsed empty_source empty_pieces empty_sentence empty_is_read

-- a signal in two ticks

abbrev pub blink_source : List ℕ
blink_source = codes "system{interface{output signal A;}{emit A;pause;emit A;}}"

abbrev blink_pieces : List Piece
blink_pieces =
    word_piece word.System 6 ∷ sign_piece mark.OpenBrace ∷ word_piece word.Interface 9 ∷ sign_piece mark.OpenBrace ∷
    word_piece word.Output 6 ∷ gap ∷ word_piece word.Signal 6 ∷ gap ∷ letter ∷ sign_piece mark.Semicolon ∷
    sign_piece mark.CloseBrace ∷ sign_piece mark.OpenBrace ∷ word_piece word.Emit 4 ∷ gap ∷ letter ∷
    sign_piece mark.Semicolon ∷ word_piece word.Pause 5 ∷ sign_piece mark.Semicolon ∷ word_piece word.Emit 4 ∷ gap ∷
    letter ∷ sign_piece mark.Semicolon ∷ sign_piece mark.CloseBrace ∷ sign_piece mark.CloseBrace ∷ []

abbrev pub blink_sentence : Program
blink_sentence =
    let t = token_in blink_pieces in
    record {
      system = t 0;
      open_system = t 1;
      interface = t 2;
      open_ports = t 3;
      ports = PortThen (SignalPort direction.Output (t 4) (Pure (t 5) (t 6) (t 7))) NoPort;
      close_ports = t 8;
      first = Braces (t 9) (Then (EmitStmt (t 10) (t 11) NoValue (t 12)) (Then (StillStmt (t 13) (t 14)) (Then (EmitStmt (t 15) (t 16) NoValue (t 17)) Done))) (t 18);
      others = NoOther;
      close_system = t 19;
    }

blink_is_read : IsRead blink_source blink_pieces blink_sentence
blink_is_read = record {
  leads = (refl, (refl, (refl, (refl, (refl, (refl, (refl, (refl, (refl, (refl, (refl, (refl, (refl, (refl, (refl, (refl, (refl, (refl, (refl, (refl, (refl, (refl, (refl, (refl, refl))))))))))))))))))))))));
  is_program = record { system = refl; open_system = refl; interface = refl; open_ports = refl; ports = ((refl, (refl, refl, refl)), tt); close_ports = refl; first = (refl, ((refl, refl, tt, refl), ((refl, refl), ((refl, refl, tt, refl), tt))), refl); others = tt; close_system = refl };
  printed = refl;
  within = record { reads = (_, refl, refl, (_, refl, refl, (_, refl, refl, (_, refl, refl, (_, refl, refl, (_, refl, refl, (_, refl, refl, (_, refl, refl, (_, refl, refl, (_, refl, refl, (_, refl, refl, (_, refl, refl, (_, refl, refl, (_, refl, refl, (_, refl, refl, (_, refl, refl, (_, refl, refl, (_, refl, refl, (_, refl, refl, (_, refl, refl, tt)))))))))))))))))))) };
}

pub blink_parsed : IsParsed blink_source (tree_of blink_source blink_sentence)
blink_parsed = parsed blink_source blink_pieces blink_sentence blink_is_read

-- a loop

abbrev pub loop_source : List ℕ
loop_source = codes "system{interface{output signal A;output signal B;}{while(true){emit A;pause;emit B;}}}"

abbrev loop_pieces : List Piece
loop_pieces =
    word_piece word.System 6 ∷ sign_piece mark.OpenBrace ∷ word_piece word.Interface 9 ∷ sign_piece mark.OpenBrace ∷
    word_piece word.Output 6 ∷ gap ∷ word_piece word.Signal 6 ∷ gap ∷ letter ∷ sign_piece mark.Semicolon ∷
    word_piece word.Output 6 ∷ gap ∷ word_piece word.Signal 6 ∷ gap ∷ letter ∷ sign_piece mark.Semicolon ∷
    sign_piece mark.CloseBrace ∷ sign_piece mark.OpenBrace ∷ word_piece word.While 5 ∷ sign_piece mark.OpenParen ∷
    word_piece word.True 4 ∷ sign_piece mark.CloseParen ∷ sign_piece mark.OpenBrace ∷ word_piece word.Emit 4 ∷ gap ∷
    letter ∷ sign_piece mark.Semicolon ∷ word_piece word.Pause 5 ∷ sign_piece mark.Semicolon ∷
    word_piece word.Emit 4 ∷ gap ∷ letter ∷ sign_piece mark.Semicolon ∷ sign_piece mark.CloseBrace ∷
    sign_piece mark.CloseBrace ∷ sign_piece mark.CloseBrace ∷ []

abbrev pub loop_sentence : Program
loop_sentence =
    let t = token_in loop_pieces in
    record {
      system = t 0;
      open_system = t 1;
      interface = t 2;
      open_ports = t 3;
      ports = PortThen (SignalPort direction.Output (t 4) (Pure (t 5) (t 6) (t 7))) (PortThen (SignalPort direction.Output (t 8) (Pure (t 9) (t 10) (t 11))) NoPort);
      close_ports = t 12;
      first = Braces (t 13) (Then (WhileStmt (t 14) (t 15) (t 16) (t 17) (Braces (t 18) (Then (EmitStmt (t 19) (t 20) NoValue (t 21)) (Then (StillStmt (t 22) (t 23)) (Then (EmitStmt (t 24) (t 25) NoValue (t 26)) Done))) (t 27))) Done) (t 28);
      others = NoOther;
      close_system = t 29;
    }

loop_is_read : IsRead loop_source loop_pieces loop_sentence
loop_is_read = record {
  leads = (refl, (refl, (refl, (refl, (refl, (refl, (refl, (refl, (refl, (refl, (refl, (refl, (refl, (refl, (refl, (refl, (refl, (refl, (refl, (refl, (refl, (refl, (refl, (refl, (refl, (refl, (refl, (refl, (refl, (refl, (refl, (refl, (refl, (refl, (refl, (refl, refl))))))))))))))))))))))))))))))))))));
  is_program = record { system = refl; open_system = refl; interface = refl; open_ports = refl; ports = ((refl, (refl, refl, refl)), ((refl, (refl, refl, refl)), tt)); close_ports = refl; first = (refl, ((refl, refl, refl, refl, (refl, ((refl, refl, tt, refl), ((refl, refl), ((refl, refl, tt, refl), tt))), refl)), tt), refl); others = tt; close_system = refl };
  printed = refl;
  within = record { reads = (_, refl, refl, (_, refl, refl, (_, refl, refl, (_, refl, refl, (_, refl, refl, (_, refl, refl, (_, refl, refl, (_, refl, refl, (_, refl, refl, (_, refl, refl, (_, refl, refl, (_, refl, refl, (_, refl, refl, (_, refl, refl, (_, refl, refl, (_, refl, refl, (_, refl, refl, (_, refl, refl, (_, refl, refl, (_, refl, refl, (_, refl, refl, (_, refl, refl, (_, refl, refl, (_, refl, refl, (_, refl, refl, (_, refl, refl, (_, refl, refl, (_, refl, refl, (_, refl, refl, (_, refl, refl, tt)))))))))))))))))))))))))))))) };
}

pub loop_parsed : IsParsed loop_source (tree_of loop_source loop_sentence)
loop_parsed = parsed loop_source loop_pieces loop_sentence loop_is_read

-- a send and a receive of two domains

abbrev pub rendezvous_source : List ℕ
rendezvous_source = codes "system{interface{output signal D;output signal B;int channel C;}{send C(5); emit D;}><{receive C; emit B;}}"

abbrev rendezvous_pieces : List Piece
rendezvous_pieces =
    word_piece word.System 6 ∷ sign_piece mark.OpenBrace ∷ word_piece word.Interface 9 ∷ sign_piece mark.OpenBrace ∷
    word_piece word.Output 6 ∷ gap ∷ word_piece word.Signal 6 ∷ gap ∷ letter ∷ sign_piece mark.Semicolon ∷
    word_piece word.Output 6 ∷ gap ∷ word_piece word.Signal 6 ∷ gap ∷ letter ∷ sign_piece mark.Semicolon ∷
    word_piece word.Int 3 ∷ gap ∷ word_piece word.Channel 7 ∷ gap ∷ letter ∷ sign_piece mark.Semicolon ∷
    sign_piece mark.CloseBrace ∷ sign_piece mark.OpenBrace ∷ word_piece word.Send 4 ∷ gap ∷ letter ∷
    sign_piece mark.OpenParen ∷ Text (class.Literal (record { kind = kind.Int; number = pos 5 })) 1 ∷
    sign_piece mark.CloseParen ∷ sign_piece mark.Semicolon ∷ gap ∷ word_piece word.Emit 4 ∷ gap ∷ letter ∷
    sign_piece mark.Semicolon ∷ sign_piece mark.CloseBrace ∷ Text (class.Mark mark.Beside) 2 ∷
    sign_piece mark.OpenBrace ∷ word_piece word.Receive 7 ∷ gap ∷ letter ∷ sign_piece mark.Semicolon ∷ gap ∷
    word_piece word.Emit 4 ∷ gap ∷ letter ∷ sign_piece mark.Semicolon ∷ sign_piece mark.CloseBrace ∷
    sign_piece mark.CloseBrace ∷ []

abbrev pub rendezvous_sentence : Program
rendezvous_sentence =
    let t = token_in rendezvous_pieces in
    record {
      system = t 0;
      open_system = t 1;
      interface = t 2;
      open_ports = t 3;
      ports = PortThen (SignalPort direction.Output (t 4) (Pure (t 5) (t 6) (t 7))) (PortThen (SignalPort direction.Output (t 8) (Pure (t 9) (t 10) (t 11))) (PortThen (ChannelPort kind.Int (t 12) (t 13) (t 14) (t 15)) NoPort));
      close_ports = t 16;
      first = Braces (t 17) (Then (SendStmt (t 18) (t 19) (t 20) (Atom (t 21)) (t 22) (t 23)) (Then (EmitStmt (t 24) (t 25) NoValue (t 26)) Done)) (t 27);
      others = Beside (t 28) (Braces (t 29) (Then (ReceiveStmt (t 30) (t 31) (t 32)) (Then (EmitStmt (t 33) (t 34) NoValue (t 35)) Done)) (t 36)) NoOther;
      close_system = t 37;
    }

rendezvous_is_read : IsRead rendezvous_source rendezvous_pieces rendezvous_sentence
rendezvous_is_read = record {
  leads = (refl, (refl, (refl, (refl, (refl, (refl, (refl, (refl, (refl, (refl, (refl, (refl, (refl, (refl, (refl, (refl, (refl, (refl, (refl, (refl, (refl, (refl, (refl, (refl, (refl, (refl, (refl, (refl, (refl, (refl, (refl, (refl, (refl, (refl, (refl, (refl, (refl, (refl, (refl, (refl, (refl, (refl, (refl, (refl, (refl, (refl, (refl, (refl, (refl, (refl, refl))))))))))))))))))))))))))))))))))))))))))))))))));
  is_program = record { system = refl; open_system = refl; interface = refl; open_ports = refl; ports = ((refl, (refl, refl, refl)), ((refl, (refl, refl, refl)), ((refl, refl, refl, refl), tt))); close_ports = refl; first = (refl, ((refl, refl, refl, refl, refl, refl), ((refl, refl, tt, refl), tt)), refl); others = (refl, (refl, ((refl, refl, refl), ((refl, refl, tt, refl), tt)), refl), tt); close_system = refl };
  printed = refl;
  within = record { reads = (_, refl, refl, (_, refl, refl, (_, refl, refl, (_, refl, refl, (_, refl, refl, (_, refl, refl, (_, refl, refl, (_, refl, refl, (_, refl, refl, (_, refl, refl, (_, refl, refl, (_, refl, refl, (_, refl, refl, (_, refl, refl, (_, refl, refl, (_, refl, refl, (_, refl, refl, (_, refl, refl, (_, refl, refl, (_, refl, refl, (_, refl, refl, (_, refl, refl, (_, refl, refl, (_, refl, refl, (_, refl, refl, (_, refl, refl, (_, refl, refl, (_, refl, refl, (_, refl, refl, (_, refl, refl, (_, refl, refl, (_, refl, refl, (_, refl, refl, (_, refl, refl, (_, refl, refl, (_, refl, refl, (_, refl, refl, (_, refl, refl, tt)))))))))))))))))))))))))))))))))))))) };
}

pub rendezvous_parsed : IsParsed rendezvous_source (tree_of rendezvous_source rendezvous_sentence)
rendezvous_parsed = parsed rendezvous_source rendezvous_pieces rendezvous_sentence rendezvous_is_read
