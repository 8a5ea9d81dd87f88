-- The value of a signal after emissions: in range, and the same in any order.
use Rattle.std.proofs.Common.{◌≡◌, ℤ, List, [], ◌∷◌, ◌++◌, All, sym, ap, ◌∙◌, suc, arith}
use Rattle.java_values.specs.declared.kind.Kind.{Kind}
use Rattle.java_values.specs.Kinds.{IsInRange}
use Rattle.kernel_terms.specs.declared.tables.SignalInfo.{SignalInfo}
use Rattle.kernel_terms.specs.declared.tables.Combine.{Combine}
use Rattle.kernel_terms.specs.TableEntries.{value_kind}
use Rattle.kernel_rules.specs.definitions.Signals.{combined, combined_all, folded}
use Rattle.kernel_rules.proofs.CombinationLemmas.{combined_range, combined_comm, combined_assoc}

first_range : (k : Kind) (v : ℤ) (vs : List ℤ) → All (λ n. IsInRange k n) (v ∷ vs) → IsInRange k v
first_range k v vs h = h 0 v (omega arith)

later_range : (k : Kind) (v : ℤ) (vs : List ℤ) → All (λ n. IsInRange k n) (v ∷ vs) → All (λ n. IsInRange k n) vs
later_range k v vs h i d lt = h (suc i) d (omega arith)

all_range : (c : Combine) (k : Kind) (v : ℤ) (vs : List ℤ) → IsInRange k v → All (λ n. IsInRange k n) vs → IsInRange k (combined_all c k v vs)
all_range c k v [] p h = p
all_range c k v (w ∷ ws) p h = all_range c k (combined c k v w) ws (combined_range c k v w p (first_range k w ws h)) (later_range k w ws h)

pub folded_range :
    (info : SignalInfo) (last : ℤ) (vs : List ℤ) → IsInRange (value_kind info) last → All (λ n. IsInRange (value_kind info) n) vs
    → IsInRange (value_kind info) (folded info last vs)
folded_range info last [] p h = p
folded_range info last (v ∷ vs) p h = all_range info.combine (value_kind info) v vs (first_range (value_kind info) v vs h) (later_range (value_kind info) v vs h)

swapped :
    (c : Combine) (k : Kind) (u : ℤ) (us : List ℤ) (v w : ℤ) (ws : List ℤ)
    → IsInRange k u → All (λ n. IsInRange k n) us → IsInRange k v → IsInRange k w
    → combined_all c k u (us ++ v ∷ w ∷ ws) ≡ combined_all c k u (us ++ w ∷ v ∷ ws)
swapped c k u [] v w ws pu h pv pw =
    ap (λ z. combined_all c k z ws) (combined_assoc c k u v w pu pv pw ∙ ap (combined c k u) (combined_comm c k v w) ∙ sym (combined_assoc c k u w v pu pw pv))
swapped c k u (x ∷ us) v w ws pu h pv pw = swapped c k (combined c k u x) us v w ws (combined_range c k u x pu (first_range k x us h)) (later_range k x us h) pv pw

pub folded_swapped :
    (info : SignalInfo) (last : ℤ) (vs : List ℤ) (v w : ℤ) (ws : List ℤ)
    → All (λ n. IsInRange (value_kind info) n) vs → IsInRange (value_kind info) v → IsInRange (value_kind info) w
    → folded info last (vs ++ v ∷ w ∷ ws) ≡ folded info last (vs ++ w ∷ v ∷ ws)
folded_swapped info last [] v w ws h pv pw = ap (λ z. combined_all info.combine (value_kind info) z ws) (combined_comm info.combine (value_kind info) v w)
folded_swapped info last (u ∷ us) v w ws h pv pw = swapped info.combine (value_kind info) u us v w ws (first_range (value_kind info) u us h) (later_range (value_kind info) u us h) pv pw
