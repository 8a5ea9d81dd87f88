-- The pair of a send and a receive can be compiled.
use Rattle.std.proofs.Common.{◌≡◌, zero, suc, List, length, get_or, map, refl, sym, ap, ◌∙◌, subst, arith}
use Rattle.std.proofs.lemmas.Bool.{true≢false}
use Rattle.kernel_terms.specs.declared.term.Term.{Term}
use Rattle.kernel_terms.specs.declared.system.System.{System}
use Rattle.kernel_terms.specs.Systems.{domains_of}
use Rattle.kernel_terms.specs.Statements.{statement}
use Rattle.kernel_terms.specs.Statements as rules
use Rattle.kernel_terms.specs.MayEnd.{LoopsWait}
use Rattle.domain_core.specs.step.SmallDomains.{IsPair, pure_domains}
use Rattle.domain_core.specs.definitions.runs.Systems.{source_of}
use Rattle.kernel_terms.specs.Built.{is_built}
use Rattle.domain_core.specs.definitions.step.PureSignals.{HasPureOutputs}
use Rattle.domain_core.specs.definitions.step.Compiling.{CanCompile}
use Rattle.domain_core.proofs.lemmas.equations.PairTerms.{sending, pair_can_compile}

pub record CanCompileBoth (system : System) : Type 0 where
  pub count : length (domains_of system) ≡ 2
  pub sending : CanCompile system 0
  pub receiving : CanCompile system 1

pub pairs_can_compile : (system : System) → IsPair system → CanCompileBoth system
pairs_can_compile system pair =
    let source : source_of system 0 ≡ sending = ap (λ l. get_or (map statement l) 0 rules.Nothing) pair.domains ∙ pair.sends.same in
    let two = ap (λ (l : List Term). length l) pair.domains in
    record {
      count = two;
      sending = record {
        within = omega (arith, two);
        built = λ t. ap (λ l. is_built (get_or l 0 t)) pair.domains ∙ pair.sends.built;
        loops = subst LoopsWait (sym source) (tt, tt);
        weight = rw source (omega arith);
        pure = subst (λ t. HasPureOutputs t 0) (sym pair.tables) outputs;
      };
      receiving = pair_can_compile system pair;
    }
  where
    outputs : HasPureOutputs pure_domains 0
    outputs zero is = record { output = refl; pure = refl }
    outputs (suc zero) is = record { output = refl; pure = refl }
    outputs (suc (suc s)) is = absurd (true≢false (sym is))
