-- A domain before its first tick has no rounds, and memory makes no difference.
use Rattle.std.proofs.Common.{◌≡◌, ℕ, length, map, refl, sym, ap, ◌∙◌, subst}
use Rattle.kernel_terms.specs.declared.system.System.{System}
use Rattle.kernel_rules.specs.definitions.LegalTick.{Inputs}
use Rattle.tick_log.specs.definitions.Containers.{LogState}
use Rattle.domain_core.specs.definitions.runs.Systems.{setup_of}
use Rattle.domain_core.specs.definitions.runs.Stamps.{last_stamp}
use Rattle.domain_core.specs.definitions.step.EndCalls.{end_at}
use Rattle.domain_core.specs.definitions.step.Compiling.{IsCompiled}
use Rattle.domain_core.specs.definitions.step.Domains.{DomainView, tick_count_of}
use Rattle.domain_core.specs.definitions.rounds.Rounds.{Rounds, IsOpenRounds, no_rounds, entry_stamps, found_from}
use Rattle.domain_core.specs.definitions.step.RoundsOf.{own_ends, found_in, with_memory, AreRoundsOf}
use Rattle.domain_core.proofs.lemmas.runs.FoundJoins.{found_none}
use Rattle.domain_core.proofs.lemmas.rounds.RoundsGrow.{rounds_begin}

pub none_made : (system : System) (inputs : Inputs) (d : ℕ) (v : DomainView) → IsCompiled system d v → AreRoundsOf system inputs d v (no_rounds (setup_of system inputs) d)
none_made system inputs d v h =
    let setup = setup_of system inputs in
    let x = no_rounds setup d in
    let empty : tick_count_of v ≡ 0 = ap (λ l. length l.entries) h.log in
    record {
      of_system = h.of_system;
      of_domain = h.number;
      so_far = subst (λ (l : LogState). IsOpenRounds setup d l.entries l.mark x) (sym h.log) (rounds_begin setup d);
      uncut = refl;
      state = h.state inputs ∙ sym (found_none setup.tables d _ (x.after 0) (λ c own. refl));
      standing = λ n less. h.standing n;
      last = h.stamp ∙ ap (last_stamp (entry_stamps v.log.entries)) (sym empty);
      lists = h.lists ∙ subst (λ k. length (own_ends v.system v.domain) ≡ length (own_ends v.system k)) h.number refl ∙ ap (λ s. length (own_ends s d)) h.of_system;
      joins = λ n less. ap (map found_in) (h.joins n) ∙ ap (λ z. found_from x (end_at (own_ends system d) n).channel 1 z) (sym empty);
    }

pub memory_keeps : (system : System) (inputs : Inputs) (d room spare : ℕ) (v : DomainView) (x : Rounds) → AreRoundsOf system inputs d v x → AreRoundsOf system inputs d (with_memory room spare v) x
memory_keeps system inputs d room spare v x h = record {
  of_system = h.of_system;
  of_domain = h.of_domain;
  so_far = h.so_far;
  uncut = h.uncut;
  state = h.state;
  standing = h.standing;
  last = h.last;
  lists = h.lists;
  joins = h.joins;
}
