-- Why a source isn't accepted: the first place where its bytes are no token, then its first token that can't stand or is
-- too deep, then the first failure of its names, then the first of its kinds, then any other rule.
use Rattle.std.specs.Prelude.{◌≡◌, ℕ, ◌≤◌, List, [], length, Some}
use Rattle.java_values.specs.SourceLimits.{most_source_bytes}
use Rattle.sj_lexer.specs.declared.head.Fault.TheVariants as fault
use Rattle.sj_lexer.specs.declared.token.Token.{Token}
use Rattle.sj_lexer.specs.definitions.Readings as readings
use Rattle.stmt_parser.specs.definitions.Parsing.{SyntaxAt, TooDeepAt}
use Rattle.sj_names.specs.declared.failure.Failure.{Failure}
use Rattle.sj_names.specs.definitions.Mentions.{names_of_tree}
use Rattle.sj_names.specs.definitions.Failures.{failures_of, IsLeast}
use Rattle.sj_accept.specs.declared.refusal.Refusal.{Refusal}
use Rattle.sj_accept.specs.declared.refusal.Refusal.TheVariants as refusal
use Rattle.sj_accept.specs.declared.refusal.AcceptError.{AcceptError}
use Rattle.sj_accept.specs.declared.refusal.AcceptError.TheVariants as error
use Rattle.java_types.specs.declared.failure.TypeFailure.{TypeFailure}
use Rattle.java_types.specs.definitions.Checks.{first_of}
use Rattle.sj_grammar.specs.definitions.SourceTrees.{SourceTree}
use Rattle.sj_accept.specs.definitions.Sources.{IsParsed}
use Rattle.sj_accept.specs.definitions.Kinds.{kind_failures}
use Rattle.sj_accept.specs.definitions.Programs.{LoweredProgram}
use Rattle.sj_accept.specs.definitions.Accepted.{IsSourceOf}

-- the source's tokens begin no program, up to the one at this place and with it
pub record IsSyntaxAt (source : List ℕ) (place : ℕ) : Type 0 where
  pub tokens : List Token
  pub are : readings.AreTokens source tokens
  pub at : SyntaxAt source tokens place

-- the source's token at this place is too deep
pub record IsTooDeepAt (source : List ℕ) (place : ℕ) : Type 0 where
  pub tokens : List Token
  pub are : readings.AreTokens source tokens
  pub at : TooDeepAt source tokens place

-- the source is a tree, and of the failures of its names this is the first
pub record FailsByName (source : List ℕ) (failure : Failure) : Type 0 where
  pub tree : SourceTree
  pub parsed : IsParsed source tree
  pub least : IsLeast (failures_of (names_of_tree tree)) failure

-- the source is a tree whose names have no failure, and this is the first failure of its kinds
pub record FailsByKind (source : List ℕ) (failure : TypeFailure) : Type 0 where
  pub tree : SourceTree
  pub parsed : IsParsed source tree
  pub named : failures_of (names_of_tree tree) ≡ []
  pub first : first_of (kind_failures tree) ≡ Some failure

-- the source is a tree whose names and kinds have no failure, and no program that keeps the rules
pub record IsUnaccepted (source : List ℕ) : Type 0 where
  pub size : length source ≤ most_source_bytes
  pub tree : SourceTree
  pub parsed : IsParsed source tree
  pub named : failures_of (names_of_tree tree) ≡ []
  pub typed : kind_failures tree ≡ []
  pub none : (p : LoweredProgram) → IsSourceOf source p → ⊥

abbrev pub IsRefusedFor : List ℕ → Refusal → Type 0
IsRefusedFor source (refusal.BadByte at) = readings.IsRefused source fault.BadByte at
IsRefusedFor source (refusal.BadNumber at) = readings.IsRefused source fault.BadNumber at
IsRefusedFor source (refusal.OpenComment at) = readings.IsRefused source fault.OpenComment at
IsRefusedFor source (refusal.Syntax at) = IsSyntaxAt source at
IsRefusedFor source (refusal.TooDeep at) = IsTooDeepAt source at
IsRefusedFor source (refusal.Names failure) = FailsByName source failure
IsRefusedFor source (refusal.Kinds failure) = FailsByKind source failure
IsRefusedFor source refusal.Later = IsUnaccepted source

-- want of memory may come at any place
abbrev pub IsWhyNot : List ℕ → AcceptError → Type 0
IsWhyNot source (error.Refused reason) = IsRefusedFor source reason
IsWhyNot source error.NoMemory = Unit {0}
