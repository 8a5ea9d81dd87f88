-- The words of a command.
use Rattle.std.specs.Prelude.{◌≡◌, ℕ, zero, suc, ◌+◌, ◌-◌, ◌*◌, ◌<◌, ◌≤◌, ◌==◌, ◌&&◌, nat_le, nat_lt, cond, List, [], ◌∷◌, ◌++◌, map, All, Option, Some, None, codes, string_bytes}
use Rattle.std.specs.List.{range_with_len}
use Rattle.std.specs.declared.alloc.Global.{Global}
use Rattle.std.specs.declared.string.String.{String}
use Rattle.kernel_terms.specs.Limits.{most_domains}
use Rattle.domain_core.specs.definitions.runs.Scheduled.{turns_of}
use Rattle.java_values.specs.Names.{is_digit}
use Rattle.sj_main.specs.declared.commands.Turns.{Turns}
use Rattle.sj_main.specs.declared.commands.Turns.TheVariants.{Rounds, Each}

-- how many turns one domain may have
abbrev pub most_turns : ℕ
most_turns = 100000

-- the number that is written by the decimal digits after those that give the first number, where no number on the way
-- is above the limit
abbrev pub number_from : ℕ → ℕ → List ℕ → Option ℕ
number_from limit n [] = Some n
number_from limit n (b ∷ bs) =
    cond (is_digit b &&
    nat_le (n * 10 + (b - 48)) limit) (number_from limit (n * 10 + (b - 48)) bs) None

-- the number that a word is in decimal, with no zero before it, where it is within the limit
abbrev pub whole_number : ℕ → List ℕ → Option ℕ
whole_number limit [] = None
whole_number limit (b ∷ []) = number_from limit 0 (b ∷ [])
whole_number limit (b ∷ c ∷ rest) = cond (b == 48) None (number_from limit 0 (b ∷ c ∷ rest))

-- a domain's number in decimal
abbrev pub turn_text : ℕ → List ℕ
turn_text t = cond (nat_lt t 10) ((48 + t) ∷ []) (49 ∷ (38 + t) ∷ [])

-- one turn at least, with commas between the turns
abbrev pub turns_text : ℕ → List ℕ → List ℕ
turns_text t [] = turn_text t
turns_text t (u ∷ ts) = turn_text t ++ 44 ∷ turns_text u ts

abbrev pub AreDomains : List ℕ → Type 0
AreDomains [] = Unit {0}
AreDomains (t ∷ ts) = (t < most_domains) × AreDomains ts

-- `-` for no turn, and else the turns with commas
abbrev pub AreTurns : List ℕ → List ℕ → Type 0
AreTurns word [] = word ≡ codes "-"
AreTurns word (t ∷ ts) = word ≡ turns_text t ts

pub record IsEach (word turns : List ℕ) : Type 0 where
  pub are : AreTurns word turns
  pub domains : AreDomains turns
  pub few : (d : ℕ) → turns_of d turns ≤ most_turns

pub record IsRoundCount (word : List ℕ) (rounds : ℕ) : Type 0 where
  pub digits : List ℕ
  pub is : word ≡ codes "rr:" ++ digits
  pub number : whole_number most_turns digits ≡ Some rounds

-- turns one by one, or rounds of all domains
abbrev pub IsTurns : List ℕ → Turns → Type 0
IsTurns word (Rounds n) = IsRoundCount word n
IsTurns word (Each turns) = IsEach word turns

-- so many rounds, each a turn of each of so many domains by rising number
abbrev pub rounds_of : ℕ → ℕ → List ℕ
rounds_of zero domains = []
rounds_of (suc n) domains = range_with_len 0 domains ++ rounds_of n domains

-- the turns of a program of so many domains
abbrev pub turns_for : Turns → ℕ → List ℕ
turns_for (Rounds n) domains = rounds_of n domains
turns_for (Each turns) domains = turns

-- each turn is one of so many domains; rounds always are
abbrev pub FitDomains : Turns → ℕ → Type 0
FitDomains (Rounds n) domains = Unit {0}
FitDomains (Each turns) domains = All (λ t. t < domains) turns

-- the budget of each of so many domains is how many turns it has
abbrev pub budgets_for : Turns → ℕ → List ℕ
budgets_for turns domains =
    map (λ d. turns_of d (turns_for turns domains)) (range_with_len 0 domains)

-- `order FILE TURNS -`
pub record IsOrder (words : List (List ℕ)) (file : List ℕ) (turns : Turns) : Type 0 where
  pub word : List ℕ
  pub is : words ≡ codes "order" ∷ file ∷ word ∷ codes "-" ∷ []
  pub takes : IsTurns word turns

abbrev pub IsNoCommand : List (List ℕ) → Type 0
IsNoCommand words = (file : List ℕ) (turns : Turns) → IsOrder words file turns → ⊥

-- the words are some order
pub record IsCommand (words : List (List ℕ)) : Type 0 where
  pub file : List ℕ
  pub turns : Turns
  pub command : IsOrder words file turns

-- the words of the command line as lists of bytes
abbrev pub word_list : List (String Global) → List (List ℕ)
word_list = map (λ w. string_bytes w)
