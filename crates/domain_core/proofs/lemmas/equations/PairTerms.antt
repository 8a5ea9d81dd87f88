-- Terms that stand for the pair of a send and a receive are well formed over its tables, and can be compiled.
use Rattle.std.proofs.Common.{◌≡◌, zero, suc, ◌≤◌, pos, Bool, true, List, [], ◌∷◌, length, get_or, map, refl, sym, ap, ◌∙◌, subst, arith}
use Rattle.std.specs.Prelude.{◌&&◌, None}
use Rattle.std.proofs.lemmas.Bool.{true≢false}
use Rattle.java_values.specs.declared.kind.Kind.TheVariants as kind
use Rattle.kernel_terms.specs.declared.term.Term.{Term}
use Rattle.kernel_terms.specs.declared.system.System.{System}
use Rattle.kernel_terms.specs.Expressions.{Literal}
use Rattle.kernel_terms.specs.Statements.{Stmt, Emit, Seq, Send, Receive, statement}
use Rattle.kernel_terms.specs.Statements as rules
use Rattle.kernel_terms.specs.MayEnd.{LoopsWait}
use Rattle.kernel_terms.specs.WellFormed.{is_well_formed, has_names, is_within_limits, has_entries, has_parts, fit_statements, declares_each_once}
use Rattle.tick_tree.specs.definitions.Weight.{weight_of, most_weight}
use Rattle.domain_core.specs.step.SmallDomains.{IsTermOf, IsPair, pure_domains}
use Rattle.kernel_terms.specs.Built.{is_built}
use Rattle.domain_core.specs.definitions.step.PureSignals.{HasPureOutputs}
use Rattle.domain_core.specs.definitions.step.Compiling.{CanCompile}
use Rattle.domain_core.specs.definitions.runs.Systems.{source_of}

abbrev pub sending : Stmt
sending = Seq (Send 0 (Literal kind.Int (pos 5))) (Emit 0 None)

abbrev pub receiving : Stmt
receiving = Seq (Receive 0) (Emit 1 None)

abbrev formed : Bool → List Stmt → Bool
formed parts statements =
    has_names pure_domains && (is_within_limits pure_domains 2 && (has_entries pure_domains 2
    && (parts && (fit_statements pure_domains 0 statements && declares_each_once pure_domains statements))))

pub pair_fits : (a b : Term) → IsTermOf sending a → IsTermOf receiving b → is_well_formed pure_domains (a ∷ b ∷ []) ≡ true
pair_fits a b first second =
    ap (λ x. formed (x && (has_parts b && true)) (statement a ∷ statement b ∷ [])) first.parts
    ∙ ap (λ x. formed (true && (x && true)) (statement a ∷ statement b ∷ [])) second.parts
    ∙ ap (λ s. formed true (s ∷ statement b ∷ [])) first.same
    ∙ ap (λ s. formed true (sending ∷ s ∷ [])) second.same

pub pair_can_compile : (system : System) → IsPair system → CanCompile system 1
pair_can_compile system pair =
    let source : source_of system 1 ≡ receiving = ap (λ l. get_or (map statement l) 1 rules.Nothing) pair.domains ∙ pair.receives.same in
    record {
      within = let two = ap (λ (l : List Term). length l) pair.domains in omega (arith, two);
      built = λ t. ap (λ l. is_built (get_or l 1 t)) pair.domains ∙ pair.receives.built;
      loops = subst LoopsWait (sym source) (tt, tt);
      weight = subst (λ s. weight_of s ≤ most_weight) (sym source) (omega arith);
      pure = subst (λ t. HasPureOutputs t 1) (sym pair.tables) outputs;
    }
  where
    outputs : HasPureOutputs pure_domains 1
    outputs zero is = record { output = refl; pure = refl }
    outputs (suc zero) is = record { output = refl; pure = refl }
    outputs (suc (suc s)) is = absurd (true≢false (sym is))
