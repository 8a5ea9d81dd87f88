-- Which leaves stand before which in one tick, and causal trees.
use Rattle.std.specs.Prelude.{◌≡◌, ◌<◌, ◌⊎◌, ℕ, suc, zero, true, not, ◌==◌, List, length, get_or, Option, Some, None}
use Rattle.std.specs.List.{list_any}
use Rattle.kernel_terms.specs.declared.term.Term.{Term}
use Rattle.kernel_terms.specs.declared.tables.SignalInfo.{SignalInfo}
use Rattle.kernel_terms.specs.declared.tables.Tables.{Tables}
use Rattle.kernel_terms.specs.declared.system.System.{System}
use Rattle.kernel_terms.specs.TableEntries.{is_local, numbers_where}
use Rattle.kernel_terms.specs.Systems.{tables_of, domains_of}
use Rattle.tick_tree.specs.definitions.Trees.{Tree, One, Seq, Alt, Both, starting_tree, resuming_tree}

abbrev pub Among : ℕ → List ℕ → Type 0
Among n ns = list_any (λ m. m == n) ns ≡ true

-- the tree has a leaf of this number
abbrev pub HasLeaf : Tree → ℕ → Type 0
HasLeaf (One x) l = x.number ≡ l
HasLeaf (Seq p q) l = HasLeaf p l ⊎ HasLeaf q l
HasLeaf (Alt p q) l = HasLeaf p l ⊎ HasLeaf q l
HasLeaf (Both p q) l = HasLeaf p l ⊎ HasLeaf q l

-- it writes this signal, and reads it
abbrev pub Writes : Tree → ℕ → ℕ → Type 0
Writes (One x) l s = (x.number ≡ l) × Among s x.writes
Writes (Seq p q) l s = Writes p l s ⊎ Writes q l s
Writes (Alt p q) l s = Writes p l s ⊎ Writes q l s
Writes (Both p q) l s = Writes p l s ⊎ Writes q l s

abbrev pub Reads : Tree → ℕ → ℕ → Type 0
Reads (One x) l s = (x.number ≡ l) × Among s x.reads
Reads (Seq p q) l s = Reads p l s ⊎ Reads q l s
Reads (Alt p q) l s = Reads p l s ⊎ Reads q l s
Reads (Both p q) l s = Reads p l s ⊎ Reads q l s

-- one leaf stands in the first part of a sequence, and the other in its second part
abbrev pub StandsFirst : Tree → ℕ → ℕ → Type 0
StandsFirst (One x) l m = ⊥
StandsFirst (Seq p q) l m = StandsFirst p l m ⊎ StandsFirst q l m ⊎ (HasLeaf p l × HasLeaf q m)
StandsFirst (Alt p q) l m = StandsFirst p l m ⊎ StandsFirst q l m
StandsFirst (Both p q) l m = StandsFirst p l m ⊎ StandsFirst q l m

-- A leaf precedes another in a sequence, or since it writes a signal that the other reads, which may be itself.
abbrev pub Precedes : Tree → ℕ → ℕ → Type 0
Precedes t l m = StandsFirst t l m ⊎ ((s : ℕ) × Writes t l s × Reads t m s)

-- so many steps of precedence lead from one leaf to another
abbrev pub Leads : Tree → ℕ → ℕ → ℕ → Type 0
Leads t zero l m = l ≡ m
Leads t (suc n) l m = (k : ℕ) × Precedes t l k × Leads t n k m

-- the leaf precedes itself, in one step or more
abbrev pub IsOnCycle : Tree → ℕ → Type 0
IsOnCycle t l = (n : ℕ) × Leads t (suc n) l l

abbrev pub IsCausal : Tree → Type 0
IsCausal t = (l : ℕ) → IsOnCycle t l → ⊥

abbrev pub IsCausalIf : Option Tree → Type 0
IsCausalIf None = Unit {0}
IsCausalIf (Some t) = IsCausal t

-- both trees of a domain's term are causal
pub record HasCausalTrees (t : Term) (interface : ℕ) : Type 0 where
  pub starting : IsCausal (starting_tree t interface)
  pub resuming : IsCausalIf (resuming_tree t interface)

-- How many interface signals all domains have. Their numbers are below this one, so copies of local signals have
-- theirs from here on.
abbrev pub interface_count : Tables → ℕ
interface_count t = length (numbers_where (λ (s : SignalInfo). not (is_local s.sort)) 0 t.signals)

-- both trees of the domain of this number are causal
pub record IsCausalDomain (system : System) (d : ℕ) : Type 0 where
  pub within : d < length (domains_of system)
  pub trees : (t : Term) →
      HasCausalTrees (get_or (domains_of system) d t) (interface_count (tables_of system))
