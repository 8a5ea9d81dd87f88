-- The room of the histories through the calls of a step.
use Rattle.std.proofs.Common.{◌≡◌, ℕ, ◌+◌, ◌≤◌, List, [], ◌∷◌, length, Option, Some, None, sym, ap, ◌∙◌, subst, inl, inr, arith}
use Rattle.std.proofs.lemmas.Bool.{cases_eq}
use Rattle.cell_core.specs.declared.moves.Joined.{Joined}
use Rattle.cell_core.specs.definitions.Ends.{EndCall, Through}
use Rattle.domain_core.specs.definitions.step.EndCalls.{end_at}
use Rattle.gals_core.specs.Channels.{ChannelsState, Moves, history_in}
use Rattle.gals_core.proofs.CallEffects.{new_rows}

abbrev pub memory_of : ChannelsState → ℕ → ℕ
memory_of b c = (history_in b c).room + length (history_in b c).rows

pub record SameMemory (old new : ChannelsState) : Type 0 where
  pub memory : (c : ℕ) → memory_of new c ≡ memory_of old c
  pub lists : new.lists ≡ old.lists
  pub links : new.links ≡ old.links
  pub ticks : new.ticks ≡ old.ticks

pub same_memory : (old : ChannelsState) (calls : List EndCall) (new : ChannelsState) → Through Moves old calls new → SameMemory old new
same_memory old [] new h = record { memory = λ c. ap (λ z. memory_of z c) h; lists = ap (λ z. z.lists) h; links = ap (λ z. z.links) h; ticks = ap (λ z. z.ticks) h }
same_memory old (call ∷ calls) new h =
    let m = h.1 in
    let i = same_memory h.0 calls new h.2 in
    record {
      memory = λ c. i.memory c ∙ elim (cases_eq c (end_at old.ends call.at).channel) [
        | inl q ↦ subst (λ z. memory_of h.0 z ≡ memory_of old z) (sym q) m.room
        | inr ne ↦ ap (λ z. z.room + length z.rows) (m.other_histories c ne)
      ];
      lists = i.lists ∙ m.same_lists;
      links = i.links ∙ m.same_links;
      ticks = i.ticks ∙ m.same_ticks;
    }

pub few_rows : (b : ChannelsState) (c : ℕ) (reply : Option Joined) → length (new_rows b c reply) ≤ 1
few_rows b c None = omega arith
few_rows b c (Some j) = omega arith
