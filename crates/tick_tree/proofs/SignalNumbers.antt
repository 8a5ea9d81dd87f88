-- Interface signals have the lowest numbers.
use Rattle.std.proofs.Common.{◌≡◌, ◌<◌, ℕ, zero, suc, ◌==◌, Bool, true, false, not, ◌&&◌, cond, List, [], ◌∷◌, length, map, get_or, arith, refl}
use Rattle.std.specs.List.{list_all}
use Rattle.kernel_terms.specs.declared.tables.SignalInfo.{SignalInfo}
use Rattle.kernel_terms.specs.declared.system.System.{System}
use Rattle.kernel_terms.specs.Systems.{tables_of, domains_of}
use Rattle.kernel_terms.specs.Statements.{statement}
use Rattle.kernel_terms.specs.TableEntries.{no_signal, signal_at, is_local, is_interface_of, numbers_where}
use Rattle.kernel_terms.specs.WellFormed.{has_names, is_within_limits, has_entries, has_parts, fit_statements, declares_each_once, interface_comes_first, is_signal_entry, is_channel_entry, is_variable_entry}
use Rattle.tick_tree.specs.definitions.Precedence.{interface_count}
use Rattle.tick_tree.proofs.PartLists.{and_left, and_right}

abbrev is_local_entry : SignalInfo → Bool
is_local_entry s = is_local s.sort

abbrev interface_from : ℕ → List SignalInfo → List ℕ
interface_from n xs = numbers_where (λ (s : SignalInfo). not (is_local s.sort)) n xs

none_after : (xs : List SignalInfo) (k : ℕ) → list_all is_local_entry xs ≡ true → is_local (get_or xs k no_signal).sort ≡ false → ⊥
none_after [] k h g = cc
none_after (x ∷ xs) zero h g = let a : is_local x.sort ≡ true = and_left (is_local x.sort) (list_all is_local_entry xs) h in cc
none_after (x ∷ xs) (suc k) h g = none_after xs k (and_right (is_local x.sort) (list_all is_local_entry xs) h) g

at_first : (b : Bool) (n : ℕ) (ns : List ℕ) → b ≡ false → 0 < length (cond (not b) (n ∷ ns) ns)
at_first true n ns h = cc
at_first false n ns h = omega arith

at_later : (b : Bool) (n k : ℕ) (ns : List ℕ) (all first : Bool) → cond b all first ≡ true → (first ≡ true → k < length ns) → (all ≡ true → ⊥) → suc k < length (cond (not b) (n ∷ ns) ns)
at_later true n k ns all first h rest none = absurd (none h)
at_later false n k ns all first h rest none = let a : k < length ns = rest h in omega arith

entries_below : (n : ℕ) (xs : List SignalInfo) (k : ℕ) → interface_comes_first xs ≡ true → is_local (get_or xs k no_signal).sort ≡ false → k < length (interface_from n xs)
entries_below n [] k h g = cc
entries_below n (x ∷ xs) zero h g = at_first (is_local x.sort) n (interface_from (suc n) xs) g
entries_below n (x ∷ xs) (suc k) h g =
    at_later (is_local x.sort) n k (interface_from (suc n) xs) (list_all is_local_entry xs) (interface_comes_first xs) h
    (λ a. entries_below (suc n) xs k a g) (λ a. none_after xs k a g)

not_local : (b : Bool) → cond b false true ≡ true → b ≡ false
not_local true h = cc
not_local false h = refl

pub signals_below : (s : System) (d k : ℕ) → is_interface_of d (signal_at (tables_of s) k) ≡ true → k < interface_count (tables_of s)
signals_below s d k h =
    let t = tables_of s in
    let n = length (domains_of s) in
    let ps = map statement (domains_of s) in
    let a = and_right (has_names t) (is_within_limits t n && (has_entries t n && (list_all has_parts (domains_of s) && (fit_statements t 0 ps && declares_each_once t ps)))) s.well_formed in
    let b = and_right (is_within_limits t n) (has_entries t n && (list_all has_parts (domains_of s) && (fit_statements t 0 ps && declares_each_once t ps))) a in
    let c = and_left (has_entries t n) (list_all has_parts (domains_of s) && (fit_statements t 0 ps && declares_each_once t ps)) b in
    let ends = list_all (is_channel_entry n) t.channels && list_all (is_variable_entry n) t.variables in
    let e = and_right (list_all (is_signal_entry n) t.signals) (interface_comes_first t.signals && ends) c in
    let info = signal_at t k in
    entries_below 0 t.signals k (and_left (interface_comes_first t.signals) ends e) (not_local (is_local info.sort) (and_right (info.domain == d) (cond (is_local info.sort) false true) h))
