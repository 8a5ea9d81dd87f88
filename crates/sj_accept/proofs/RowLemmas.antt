-- Small sources and their refusals.
use Rattle.std.proofs.Common.{◌≡◌, ◌↔◌, ℕ, true, false, List, [], ◌∷◌, ◌++◌, codes, refl, ap, ◌∙◌, subst, drop, length}
use Rattle.sj_lexer.specs.declared.head.Fault.TheVariants as fault
use Rattle.sj_lexer.specs.declared.token.Token.{Token}
use Rattle.sj_lexer.specs.declared.token.Class.TheVariants.{Reserved, Mark}
use Rattle.sj_lexer.specs.declared.token.Word.TheVariants as word
use Rattle.sj_lexer.specs.declared.token.Mark.TheVariants as mark
use Rattle.sj_lexer.specs.definitions.Readings as readings
use Rattle.sj_lexer.specs.definitions.Readings.{Gap, Text}
use Rattle.sj_grammar.specs.definitions.Roles.{has}
use Rattle.sj_grammar.specs.definitions.Machine.{program, can_read, reads}
use Rattle.sj_grammar.specs.definitions.Walks.{TooDeep, walk}
use Rattle.sj_grammar.specs.definitions.Limits.{IsWithin, Tells, Sinks}
use Rattle.sj_grammar.specs.definitions.Sentences.{AreProgram, BeginProgram}
use Rattle.expr_parser.specs.definitions.Longest.{place_of}
use Rattle.sj_accept.specs.definitions.Refusals.{IsSyntaxAt, IsTooDeepAt}
use Rattle.sj_accept.specs.SmallPrograms.{many_levels, many_operators}
use Rattle.sj_accept.proofs.UnacceptedSources.{Tell}
use Rattle.sj_grammar.proofs.SourcePieces.{are_all, tokens_of, are_tokens}

pub bad_byte : readings.IsRefused (codes "system @") fault.BadByte 7
bad_byte = record { pieces = Text (Reserved word.System) 6 ∷ Gap 1 ∷ []; rest = codes "@"; offset = 0; leads = (refl, (refl, refl)); bad = refl; at = refl }

pub bad_number : readings.IsRefused (codes "system 08") fault.BadNumber 7
bad_number = record { pieces = Text (Reserved word.System) 6 ∷ Gap 1 ∷ []; rest = codes "08"; offset = 0; leads = (refl, (refl, refl)); bad = refl; at = refl }

pub open_comment : readings.IsRefused (codes "system /* */ /*") fault.OpenComment 13
open_comment = record { pieces = Text (Reserved word.System) 6 ∷ Gap 1 ∷ Gap 5 ∷ Gap 1 ∷ []; rest = codes "/*"; offset = 0; leads = (refl, (refl, (refl, (refl, refl)))); bad = refl; at = refl }

-- sources that begin a program up to a place

system_token : Token
system_token = record { class = Reserved word.System; start = 0; end = 6 }

semicolon : Token
semicolon = record { class = Mark mark.Semicolon; start = 7; end = 8 }

brace : Token
brace = record { class = Mark mark.OpenBrace; start = 9; end = 10 }

abbrev Begins : Type 0
Begins = (tokens : List Token) → BeginProgram tokens ↔ (can_read program tokens ≡ true)

abbrev AreWhole : Type 0
AreWhole = (tokens : List Token) → AreProgram tokens ↔ (reads program tokens ≡ true)

apart : false ≡ true → ⊥
apart h = cc

within_system : (rest : List Token) → IsWithin program 0 0 (system_token ∷ []) rest
unfolding system_token
within_system rest = record { reads = (_, refl, refl, tt) }

not_whole : AreWhole → AreProgram (system_token ∷ []) → ⊥
unfolding system_token
not_whole w a = apart ((w (system_token ∷ [])).0 a)

pub at_end : Begins → AreWhole → IsSyntaxAt (codes "system ") 7
unfolding system_token
at_end b w = record {
  tokens = system_token ∷ [];
  are = record { pieces = Text (Reserved word.System) 6 ∷ Gap 1 ∷ []; leads = (refl, (refl, refl)); are = refl };
  at = record {
    run = system_token ∷ [];
    rest = [];
    refused = record { is = refl; longest = record { begins = (b (system_token ∷ [])).1 refl; ends = λ t more e. absurd (none t more e) }; none = λ e a. not_whole w a; within = within_system [] };
    place_is = refl;
  };
}
  where
    none : (t : Token) (more : List Token) → [] ≡ t ∷ more → ⊥
    none t more e = cc

pub at_token : Begins → IsSyntaxAt (codes "system ; {") 7
unfolding system_token semicolon brace
at_token b = record {
  tokens = system_token ∷ semicolon ∷ brace ∷ [];
  are = record { pieces = Text (Reserved word.System) 6 ∷ Gap 1 ∷ Text (Mark mark.Semicolon) 1 ∷ Gap 1 ∷ Text (Mark mark.OpenBrace) 1 ∷ []; leads = (refl, (refl, (refl, (refl, (refl, refl))))); are = refl };
  at = record {
    run = system_token ∷ [];
    rest = semicolon ∷ brace ∷ [];
    refused = record { is = refl; longest = record { begins = (b (system_token ∷ [])).1 refl; ends = λ t more e c. stop t (same t more e) c }; none = λ e. absurd (not_empty e); within = within_system (semicolon ∷ brace ∷ []) };
    place_is = refl;
  };
}
  where
    same : (t : Token) (more : List Token) → semicolon ∷ brace ∷ [] ≡ t ∷ more → semicolon ≡ t
    same t more e = cc

    not_empty : semicolon ∷ brace ∷ [] ≡ [] → ⊥
    not_empty e = cc

    stop : (t : Token) → semicolon ≡ t → BeginProgram (system_token ∷ t ∷ []) → ⊥
    stop t e c = apart (ap (λ u. can_read program (system_token ∷ u ∷ [])) e ∙ (b (system_token ∷ t ∷ [])).0 c)

-- sources that are too deep

deep_at : Begins → Tell → (source : List ℕ) (rest : List Token) → are_all (length source) source ≡ true → walk program 0 0 (tokens_of source) ≡ TooDeep rest → IsTooDeepAt source (place_of rest (length source))
deep_at begins tell source rest all stops =
    let s : Sinks program 0 0 (tokens_of source) rest = subst (λ o. Tells program 0 0 (tokens_of source) o) stops (tell program 0 0 (tokens_of source)) in
    record {
      tokens = tokens_of source;
      are = are_tokens source all;
      at = record {
        run = s.run;
        rest = rest;
        refused = record { token = s.token; after = s.after; at = s.at; is = s.is; begins = (begins (s.run ++ s.token ∷ [])).1 (ap has s.steps_are); deep = s.deep };
        place_is = refl;
      };
    }

pub deep_level : Begins → Tell → IsTooDeepAt many_levels 81
deep_level begins tell = deep_at begins tell many_levels (drop 68 (tokens_of many_levels)) refl refl

pub deep_operator : Begins → Tell → IsTooDeepAt many_operators 282
deep_operator begins tell = deep_at begins tell many_operators (drop 265 (tokens_of many_operators)) refl refl
