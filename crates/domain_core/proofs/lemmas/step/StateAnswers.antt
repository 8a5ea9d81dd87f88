-- What the answers of all ends do to the registers and to the state of a domain.
use Rattle.std.proofs.Common.{◌≡◌, ℕ, zero, suc, ◌<◌, ℤ, List, ◌∷◌, [], ◌++◌, length, get_or, Option, Some, None, refl, ap, ◌∙◌, arith}
use Rattle.std.proofs.lemmas.List.{length-set}
use Rattle.kernel_terms.specs.Statements.{Stmt}
use Rattle.kernel_terms.specs.Marks.{Mark}
use Rattle.kernel_rules.specs.definitions.LegalTick.{DomainState}
use Rattle.cell_core.specs.declared.moves.Joined.{Joined}
use Rattle.plain_code.specs.declared.end_place.EndPlace.{EndPlace}
use Rattle.domain_core.specs.declared.step.ends_of.EndOf.{EndOf}
use Rattle.domain_core.specs.declared.step.ends_of.EndJoin.{EndJoin}
use Rattle.domain_core.specs.definitions.step.EndCalls.{end_at}
use Rattle.domain_core.specs.definitions.step.EndRegisters.{joined_at, registers_joined}
use Rattle.domain_core.specs.definitions.step.Domains.{joins_at}
use Rattle.domain_core.specs.definitions.step.Steps.{add_join, add_joins}
use Rattle.domain_core.specs.step.Answers.{end_done, with_answers}

-- where no end has an answer, nothing changes
module _ (ends : List EndOf) (answers : List (Option Joined)) where
  pub with_none : (n : ℕ) (s : DomainState) → ((k : ℕ) → k < n → get_or answers k None ≡ None) → with_answers ends answers n s ≡ s
  with_none zero s none = refl
  with_none (suc n) s none = ap (λ x. end_done (end_at ends n) x (with_answers ends answers n s)) (none n (omega arith)) ∙ with_none n s (λ k less. none k (omega (arith, less)))

  pub joined_none : (places : List EndPlace) (last : List ℕ) (n : ℕ) (r : ℕ → ℤ) → ((k : ℕ) → k < n → get_or answers k None ≡ None) → registers_joined places last ends answers n r ≡ r
  joined_none places last zero r none = refl
  joined_none places last (suc n) r none =
      ap (λ x. joined_at places last ends n x (registers_joined places last ends answers n r)) (none n (omega arith)) ∙ joined_none places last n r (λ k less. none k (omega (arith, less)))

length_join : (ticks n : ℕ) (a : Option Joined) (joins : List (List EndJoin)) → length (add_join ticks n a joins) ≡ length joins
length_join ticks n None joins = refl
length_join ticks n (Some j) joins = length-set joins n (joins_at joins n ++ record { joined = j; ticks = ticks } ∷ [])

pub length_joins : (ticks : ℕ) (answers : List (Option Joined)) (n : ℕ) (joins : List (List EndJoin)) → length (add_joins ticks answers n joins) ≡ length joins
length_joins ticks answers zero joins = refl
length_joins ticks answers (suc n) joins = length_join ticks n (get_or answers n None) (add_joins ticks answers n joins) ∙ length_joins ticks answers n joins

pub same_state : (p q : Stmt) (x y v w l m : ℕ → ℤ) (n : ℕ) (k : Mark) → p ≡ q → x ≡ y → v ≡ w → l ≡ m →
    ◌≡◌ {A = DomainState} (record { statement = p; variables = x; values = v; last = l; ticks = n; mark = k }) (record { statement = q; variables = y; values = w; last = m; ticks = n; mark = k })
same_state p q x y v w l m n k a b c d =
    ap (λ z. record { statement = z; variables = x; values = v; last = l; ticks = n; mark = k }) a
    ∙ ap (λ z. record { statement = q; variables = z; values = v; last = l; ticks = n; mark = k }) b
    ∙ ap (λ z. record { statement = q; variables = y; values = z; last = l; ticks = n; mark = k }) c
    ∙ ap (λ z. record { statement = q; variables = y; values = w; last = z; ticks = n; mark = k }) d
