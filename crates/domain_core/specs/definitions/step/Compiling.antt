-- What a domain has to be to be compiled, and what it is then.
use Rattle.std.specs.Prelude.{◌≡◌, ℕ, ◌<◌, ◌≤◌, true, false, [], length, get_or, pos, replicate}
use Rattle.kernel_terms.specs.declared.term.Term.{Term}
use Rattle.kernel_terms.specs.declared.system.System.{System}
use Rattle.kernel_terms.specs.Systems.{tables_of, domains_of}
use Rattle.kernel_terms.specs.TableEntries.{interface_of}
use Rattle.kernel_terms.specs.Marks.{Going}
use Rattle.kernel_rules.specs.definitions.LegalTick.{Inputs}
use Rattle.kernel_rules.specs.definitions.Registers.{domain_registers}
use Rattle.kernel_terms.specs.MayEnd.{LoopsWait}
use Rattle.tick_tree.specs.definitions.Weight.{weight_of, most_weight}
use Rattle.kernel_terms.specs.Built.{is_built}
use Rattle.domain_core.specs.definitions.step.PureSignals.{HasPureOutputs}
use Rattle.domain_core.specs.definitions.runs.Systems.{setup_of, start_of}
use Rattle.domain_core.specs.definitions.step.Domains.{DomainView, ends_in, joins_at, state_of}
use Rattle.domain_core.specs.definitions.runs.Systems.{source_of}

-- the domain of this number has built forms alone, pure outputs, and keeps the rules on loops and weight
pub record CanCompile (system : System) (d : ℕ) : Type 0 where
  pub within : d < length (domains_of system)
  pub built : (t : Term) → is_built (get_or (domains_of system) d t) ≡ true
  pub loops : LoopsWait (source_of system d)
  pub weight : weight_of (source_of system d) ≤ most_weight
  pub pure : HasPureOutputs (tables_of system) d

-- the domain before its first tick
pub record IsCompiled (system : System) (d : ℕ) (v : DomainView) : Type 0 where
  pub of_system : v.system ≡ system
  pub number : v.domain ≡ d
  pub log : v.log ≡
      record {
        entries = [];
        mark = Going;
        signals = length (interface_of (tables_of system) d);
        room = 0;
      }
  pub spare : v.spare ≡ 0
  pub going : v.stopped ≡ false
  pub registers : v.registers ≡
      replicate (length (domain_registers (tables_of system) d (source_of system d))) (pos 0)
  pub stamp : v.stamp ≡ 0
  pub standing : (n : ℕ) → get_or v.standing n false ≡ false
  pub lists : length v.joins ≡ length (ends_in v)
  pub joins : (n : ℕ) → joins_at v.joins n ≡ []
  pub state : (inputs : Inputs) → state_of v ≡ start_of (setup_of system inputs) d
