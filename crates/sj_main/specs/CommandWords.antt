-- What the steps of the reading of words answer.
use Rattle.std.specs.Prelude.{◌≡◌, ◌⊎◌, ℕ, ◌+◌, ◌<◌, ◌≤◌, List, [], ◌∷◌, ◌++◌, length, get_or, codes}
use Rattle.kernel_terms.specs.Limits.{most_domains}
use Rattle.domain_core.specs.definitions.runs.Scheduled.{turns_of}
use Rattle.sj_main.specs.declared.commands.Turns.{Turns}
use Rattle.sj_main.specs.declared.commands.Turns.TheVariants.{Rounds, Each}
use Rattle.sj_main.specs.definitions.Commands.{most_turns, turn_text, turns_text, AreDomains, IsEach, IsRoundCount, IsTurns}

-- the bytes begin with the number of a domain from 10 to 15
pub record BeginsTwo (word : List ℕ) (domain : ℕ) (rest : List ℕ) : Type 0 where
  pub is : word ≡ 49 ∷ (38 + domain) ∷ rest
  pub high : 10 ≤ domain
  pub below : domain < most_domains

pub record NoTwo (word : List ℕ) : Type 0 where
  pub none : (b : ℕ) (rest : List ℕ) → word ≡ 49 ∷ b ∷ rest → 48 ≤ b → b ≤ 53 → ⊥

-- nothing, or a comma first
abbrev pub EndsTurn : List ℕ → Type 0
EndsTurn after = (after ≡ []) ⊎ ((rest : List ℕ) × (after ≡ 44 ∷ rest))

-- the bytes begin with this turn, and with no other one that ends
pub record BeginsTurn (word : List ℕ) (domain : ℕ) (rest : List ℕ) : Type 0 where
  pub is : word ≡ turn_text domain ++ rest
  pub below : domain < most_domains
  pub only : (t : ℕ) (after : List ℕ) → t < most_domains → EndsTurn after →
      word ≡ turn_text t ++ after → (t ≡ domain) × (after ≡ rest)

pub record NoTurn (word : List ℕ) : Type 0 where
  pub none : (t : ℕ) (after : List ℕ) → t < most_domains → word ≡ turn_text t ++ after → ⊥

-- the bytes are no turns with commas
pub record NoList (word : List ℕ) : Type 0 where
  pub none : (t : ℕ) (ts : List ℕ) → t < most_domains → word ≡ turns_text t ts → ⊥

-- they are this turn alone
pub record IsLast (word : List ℕ) (domain : ℕ) : Type 0 where
  pub is : word ≡ turn_text domain
  pub below : domain < most_domains
  pub only : (t : ℕ) (ts : List ℕ) → t < most_domains → word ≡ turns_text t ts →
      (t ≡ domain) × (ts ≡ [])

-- this turn comes first, and after its comma come others
pub record IsMore (word : List ℕ) (domain : ℕ) (rest : List ℕ) : Type 0 where
  pub is : word ≡ turn_text domain ++ 44 ∷ rest
  pub below : domain < most_domains
  pub only : (t : ℕ) (ts : List ℕ) → t < most_domains → word ≡ turns_text t ts →
      (t ≡ domain) × (u : ℕ) × (us : List ℕ) × (ts ≡ u ∷ us) × (rest ≡ turns_text u us)

-- the turns of a word with commas
pub record IsTurnList (word turns : List ℕ) : Type 0 where
  pub first : ℕ
  pub others : List ℕ
  pub list : turns ≡ first ∷ others
  pub is : word ≡ turns_text first others
  pub domains : AreDomains turns
  pub only : (t : ℕ) (ts : List ℕ) → AreDomains (t ∷ ts) → word ≡ turns_text t ts → t ∷ ts ≡ turns

-- the bytes are turns with commas, of which no domain has too many
pub record HasList (word : List ℕ) : Type 0 where
  pub first : ℕ
  pub others : List ℕ
  pub is : word ≡ turns_text first others
  pub domains : AreDomains (first ∷ others)
  pub few : (d : ℕ) → turns_of d (first ∷ others) ≤ most_turns

pub record NoFewTurns (word : List ℕ) : Type 0 where
  pub none : (t : ℕ) (ts : List ℕ) → AreDomains (t ∷ ts) →
      ((d : ℕ) → turns_of d (t ∷ ts) ≤ most_turns) → word ≡ turns_text t ts → ⊥

-- the turns before the rest are these
pub record TurnsReach (word turns rest : List ℕ) : Type 0 where
  pub there : (t : ℕ) (ts : List ℕ) → rest ≡ turns_text t ts →
      (u : ℕ) × (us : List ℕ) × (turns ++ t ∷ ts ≡ u ∷ us) × (word ≡ turns_text u us)
  pub back : (u : ℕ) (us : List ℕ) → AreDomains (u ∷ us) → word ≡ turns_text u us →
      (t : ℕ) × (ts : List ℕ) × (u ∷ us ≡ turns ++ t ∷ ts) × (rest ≡ turns_text t ts)
  pub domains : AreDomains turns

-- the turns before the rest, counted by domain: none has too many
pub record CountedTo (word rest counts : List ℕ) : Type 0 where
  pub turns : List ℕ
  pub reach : TurnsReach word turns rest
  pub size : length counts ≡ most_domains
  pub each : (d : ℕ) → d < most_domains → get_or counts d 0 ≡ turns_of d turns
  pub few : (d : ℕ) → d < most_domains → get_or counts d 0 ≤ most_turns

pub record NoEach (word : List ℕ) : Type 0 where
  pub none : (turns : List ℕ) → IsEach word turns → ⊥

pub record HasEach (word : List ℕ) : Type 0 where
  pub turns : List ℕ
  pub are : IsEach word turns

pub record NoRounds (word : List ℕ) : Type 0 where
  pub none : (rounds : ℕ) → IsRoundCount word rounds → ⊥

pub record NoTurns (word : List ℕ) : Type 0 where
  pub none : (turns : Turns) → IsTurns word turns → ⊥

pub record HasTurns (word : List ℕ) : Type 0 where
  pub turns : Turns
  pub are : IsTurns word turns

-- the words are these four
pub record AreOrderWords (words : List (List ℕ)) (file turns : List ℕ) : Type 0 where
  pub are : words ≡ codes "order" ∷ file ∷ turns ∷ codes "-" ∷ []

pub record NoOrderWords (words : List (List ℕ)) : Type 0 where
  pub none : (file turns : List ℕ) → words ≡ codes "order" ∷ file ∷ turns ∷ codes "-" ∷ [] → ⊥

-- no domain has more turns than one may have
abbrev pub AreFew : Turns → Type 0
AreFew (Rounds n) = n ≤ most_turns
AreFew (Each turns) = (d : ℕ) → turns_of d turns ≤ most_turns
