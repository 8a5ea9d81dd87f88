-- The rules on loops and weight, and what is accepted.
use Rattle.std.proofs.Common.{◌≡◌, ℕ, zero, suc, ◌≤◌, Bool, true, false, ◌&&◌, ◌↔◌, List, [], ◌∷◌, length, map, get_or, Some, None, arith, refl, sym, ap, ◌∙◌, subst}
use Rattle.std.specs.List.{list_all}
use Rattle.java_values.specs.SourceLimits.{most_source_bytes}
use Rattle.kernel_terms.specs.declared.term.Term.{Term}
use Rattle.kernel_terms.specs.declared.system.System.{System}
use Rattle.kernel_terms.specs.declared.tables.Tables.{Tables}
use Rattle.kernel_terms.specs.Systems.{domains_of}
use Rattle.kernel_terms.specs.Built.{is_built}
use Rattle.kernel_terms.specs.Statements.{Stmt, Nothing, statement}
use Rattle.kernel_terms.specs.MayEnd.{LoopsWait}
use Rattle.tick_tree.specs.definitions.Weight.{weight_of, most_weight, capped}
use Rattle.sj_names.specs.definitions.Mentions.{names_of_tree}
use Rattle.sj_names.specs.definitions.Failures.{failures_of}
use Rattle.java_types.specs.definitions.TypedTrees.{TypedTree}
use Rattle.sj_accept.specs.BuiltTerms.{AreBuilt}
use Rattle.sj_accept.specs.StaticRules.{AllKeepStaticRules}
use Rattle.sj_accept.specs.Lowered.{IsSystemOf}
use Rattle.sj_grammar.specs.definitions.SourceTrees.{SourceTree}
use Rattle.sj_accept.specs.definitions.Sources.{IsParsed}
use Rattle.sj_accept.specs.definitions.Kinds.{kind_failures}
use Rattle.sj_accept.specs.definitions.Programs.{LoweredProgram, lowered, program_of, domain_statements}
use Rattle.sj_accept.specs.definitions.Systems.{Accepts}
use Rattle.sj_accept.specs.definitions.Refusals.{IsUnaccepted}

-- rules on each domain, by number and as a list

rules_of_all : (ps : List Stmt) → ((d : ℕ) → LoopsWait (get_or ps d Nothing)) → ((d : ℕ) → weight_of (get_or ps d Nothing) ≤ most_weight) → AllKeepStaticRules ps
rules_of_all [] w h = tt
rules_of_all (p ∷ ps) w h = (record { loops = w 0; weight = h 0 }, rules_of_all ps (λ d. w (suc d)) (λ d. h (suc d)))

loops_at : (ps : List Stmt) → AllKeepStaticRules ps → (d : ℕ) → LoopsWait (get_or ps d Nothing)
loops_at [] k zero = tt
loops_at [] k (suc d) = tt
loops_at (p ∷ ps) k zero = k.0.loops
loops_at (p ∷ ps) k (suc d) = loops_at ps k.1 d

weight_at : (ps : List Stmt) → AllKeepStaticRules ps → (d : ℕ) → weight_of (get_or ps d Nothing) ≤ most_weight
weight_at [] k zero = omega arith
weight_at [] k (suc d) = omega arith
weight_at (p ∷ ps) k zero = k.0.weight
weight_at (p ∷ ps) k (suc d) = weight_at ps k.1 d

-- the weight up to a number above the limit

pub capped_within : (n : ℕ) → capped n ≤ 100000 ↔ (n ≤ 100000)
capped_within n = (λ h. omega arith, λ h. omega arith)

pub ruleset rules_by_weight = (capped_within)

-- what is refused

abbrev OneTree : Type 0
OneTree = (source : List ℕ) (t u : SourceTree) → IsParsed source t → IsParsed source u → t ≡ u

no_program : (p : LoweredProgram) → None ≡ Some p → ⊥
no_program p h = cc

pub unaccepted : OneTree → (source : List ℕ) (tree : SourceTree) → length source ≤ most_source_bytes → IsParsed source tree → failures_of (names_of_tree tree) ≡ [] → kind_failures tree ≡ [] → program_of tree ≡ None → IsUnaccepted source
unaccepted once source tree few t f k n = record {
  size = few;
  tree = tree;
  parsed = t;
  named = f;
  typed = k;
  none = λ p s. no_program p (sym n ∙ ap program_of (once source tree s.tree t s.parsed) ∙ s.is);
}

same_program : (p q : LoweredProgram) → Some p ≡ Some q → p ≡ q
same_program p q h = cc

pub breaks_rules : OneTree → (source : List ℕ) (tree : SourceTree) (x : Tables) (typed : TypedTree) (system : System) → length source ≤ most_source_bytes → IsParsed source tree → failures_of (names_of_tree tree) ≡ [] → kind_failures tree ≡ [] → program_of tree ≡ lowered x typed → IsSystemOf x typed system → (AllKeepStaticRules (map statement (domains_of system)) → ⊥) → IsUnaccepted source
breaks_rules once source tree x typed system few t f k l r broken = record {
  size = few;
  tree = tree;
  parsed = t;
  named = f;
  typed = k;
  none = λ p s.
      let e = same_program p r.program (sym s.is ∙ ap program_of (once source s.tree tree s.parsed t) ∙ l ∙ r.is) in
      let d : domain_statements p ≡ map statement (domains_of system) = ap domain_statements e ∙ ap (map statement) (sym r.domains) in
      broken (subst AllKeepStaticRules d (rules_of_all (domain_statements p) s.rules.loops s.rules.weight));
}

-- what is accepted

both : (a b : Bool) → a ≡ true → b ≡ true → (a && b) ≡ true
both true b g h = h
both false b g h = g

all_forms : (ts : List Term) → AreBuilt ts → list_all is_built ts ≡ true
all_forms [] b = refl
all_forms (t ∷ ts) b = both (is_built t) (list_all is_built ts) b.0.forms (all_forms ts b.1)

pub accepts : (source : List ℕ) (tree : SourceTree) (x : Tables) (typed : TypedTree) (system : System) → length source ≤ most_source_bytes → IsParsed source tree → failures_of (names_of_tree tree) ≡ [] → kind_failures tree ≡ [] → program_of tree ≡ lowered x typed → IsSystemOf x typed system → AllKeepStaticRules (map statement (domains_of system)) → Accepts source system
accepts source tree x typed system few t f g l r k =
    let rules = subst (λ ts. AllKeepStaticRules (map statement ts)) r.domains k in
    record {
      program = r.program;
      source = record {
        size = few;
        tree = tree;
        parsed = t;
        named = f;
        typed = g;
        is = l ∙ r.is;
        rules = record { loops = loops_at (domain_statements r.program) rules; weight = weight_at (domain_statements r.program) rules };
      };
      tables = r.tables;
      domains = r.domains;
      entries = r.entries;
      built = all_forms r.program.terms r.built;
      divisors = r.divisors;
    }
