-- What the rounds of a domain say of each number of ticks.
use Rattle.std.proofs.Common.{◌≡◌, ℕ, suc, ◌<◌, List, Option, Some, None, length, ap, inl, inr}
use Rattle.std.proofs.lemmas.Bool.{cases_lt}
use Rattle.cell_core.specs.declared.moves.Joined.{Joined}
use Rattle.kernel_terms.specs.Marks.{Mark}
use Rattle.tick_log.specs.definitions.Runs.{Entry, entry_at}
use Rattle.domain_core.specs.definitions.runs.Systems.{Setup}
use Rattle.domain_core.specs.definitions.rounds.Rounds.{Offer, Rounds, found_at_offer, found_at_recall, or_else, RecallsStanding, OffersWaiting, MakesLog, IsRounds}

-- what isn't offered finds nothing
pub out_none : (o : Option Offer) (q : Option (Option Joined)) → RecallsStanding o q → o ≡ None → or_else (found_at_recall q) (found_at_offer o) ≡ None
out_none None q h e = ap (λ z. or_else (found_at_recall z) None) h
out_none (Some o) q h e = cc

pub stands_in : (p : Setup) (d : ℕ) (entries : List Entry) (mark : Mark) (x : Rounds) → MakesLog p d entries mark x → (n c : ℕ) → n < length entries → RecallsStanding (x.offers n c) (x.recalls n c)
stands_in p d entries mark x m n c h = (m.rounds n h).stands c

pub all_stand : (p : Setup) (d : ℕ) (entries : List Entry) (mark : Mark) (x : Rounds) → IsRounds p d entries mark x → (n c : ℕ) → RecallsStanding (x.offers n c) (x.recalls n c)
all_stand p d entries mark x h n c = elim (cases_lt n (length entries)) [ inl l ↦ stands_in p d entries mark x h.made n c l | inr l ↦ h.stands n c l ]

pub offers_at : (p : Setup) (d : ℕ) (entries : List Entry) (mark : Mark) (x : Rounds) → MakesLog p d entries mark x → (n : ℕ) → n < length entries →
    OffersWaiting p d (entry_at entries n).stamp (x.after (suc n)) (x.offers (suc n))
offers_at p d entries mark x m n h = (m.rounds n h).offers_waiting
