-- The interface signals of a domain, by number and as the entries that are found in the table.
use Rattle.std.proofs.Common.{◌≡◌, ℕ, suc, Bool, true, false, cond, get_or, ◌+◌, ◌<◌, ◌≤◌, All, List, [], ◌∷◌, ◌++◌, length, map, take, drop, refl, sym, ap, ◌∙◌, arith, append_assoc, length-append, length-take, length-set}
use Rattle.std.proofs.Math.ListN.{set}
use Rattle.std.proofs.Math.Seq.{drop-cons}
use Rattle.std.proofs.lemmas.List.{get_or-drop, drop-drop, length-map, drop_all, append-nil, take_more_set}
use Rattle.std.proofs.lemmas.List.Elements.{All-nil, All-cons}
use Rattle.std.specs.List.{filter}
use Rattle.kernel_terms.specs.declared.tables.SignalInfo.{SignalInfo}
use Rattle.kernel_terms.specs.declared.tables.Tables.{Tables}
use Rattle.kernel_terms.specs.TableEntries.{no_signal, signal_at, numbers_where, is_interface_of, interface_of}
use Rattle.tick_log.specs.definitions.RunText.{interface_signals}

one_number : (f : ℕ → SignalInfo) (b : Bool) (n : ℕ) (x : SignalInfo) (numbers : List ℕ) (found : List SignalInfo) → f n ≡ x → map f numbers ≡ found → map f (cond b (n ∷ numbers) numbers) ≡ cond b (x ∷ found) found
one_number f true n x numbers found e h = cc
one_number f false n x numbers found e h = h

numbers_found : (is : SignalInfo → Bool) (all xs : List SignalInfo) (n : ℕ) → drop n all ≡ xs → map (λ s. get_or all s no_signal) (numbers_where is n xs) ≡ filter is xs
numbers_found is all [] n e = refl
numbers_found is all (x ∷ xs) n e =
    let z : n + 0 ≡ n = omega arith in
    let one : n + 1 ≡ suc n = omega arith in
    let at : get_or all n no_signal ≡ x = sym (ap (λ k. get_or all k no_signal) z) ∙ sym (get_or-drop n all 0 no_signal) ∙ ap (λ l. get_or l 0 no_signal) e in
    let rest : drop (suc n) all ≡ xs = ap (λ k. drop k all) (sym one) ∙ sym (drop-drop 1 n all) ∙ ap (λ l. drop 1 l) e in
    one_number (λ s. get_or all s no_signal) (is x) n x _ _ at (numbers_found is all xs (suc n) rest)

pub interface_found : (t : Tables) (d : ℕ) → interface_signals t d ≡ filter (is_interface_of d) t.signals
interface_found t d = numbers_found (is_interface_of d) t.signals t.signals 0 refl

pub interface_count : (t : Tables) (d : ℕ) → length (interface_of t d) ≡ length (filter (is_interface_of d) t.signals)
interface_count t d = sym (length-map (interface_of t d) (signal_at t)) ∙ ap length (interface_found t d)

-- each of these numbers is one of the table
numbers_known : (is : SignalInfo → Bool) (n m : ℕ) (xs : List SignalInfo) → m ≡ n + length xs → All (λ k. k < m) (numbers_where is n xs)
numbers_known is n m [] e = All-nil (λ k. k < m)
numbers_known is n m (x ∷ xs) e = one (is x) (omega arith) (numbers_known is (suc n) m xs (omega arith)) where
  one : (b : Bool) → n < m → All (λ k. k < m) (numbers_where is (suc n) xs) → All (λ k. k < m) (cond b (n ∷ numbers_where is (suc n) xs) (numbers_where is (suc n) xs))
  one true lt more = All-cons (λ k. k < m) n (numbers_where is (suc n) xs) lt more
  one false lt more = more

pub interface_known : (t : Tables) (d : ℕ) → All (λ k. k < length t.signals) (interface_of t d)
interface_known t d = numbers_known (is_interface_of d) 0 (length t.signals) t.signals (omega arith)

-- after i signals of the table: the numbers listed so far, and those that are left
pub record Lists (d : ℕ) (signals : List SignalInfo) (first now : List ℕ) (i many : ℕ) : Type 0 where
  pub split : take many now ++ numbers_where (is_interface_of d) i (drop i signals) ≡ numbers_where (is_interface_of d) 0 signals
  pub size : length now ≡ length first
  pub within : many ≤ length now

pub lists_first : (d : ℕ) (signals : List SignalInfo) (first : List ℕ) → Lists d signals first first 0 0
lists_first d signals first = record { split = refl; size = refl; within = omega arith }

left_drop : (d : ℕ) (signals : List SignalInfo) (i : ℕ) (x : SignalInfo) (b : Bool) → i < length signals → x ≡ get_or signals i x → b ≡ is_interface_of d x → numbers_where (is_interface_of d) i (drop i signals) ≡ cond b (i ∷ numbers_where (is_interface_of d) (i + 1) (drop (i + 1) signals)) (numbers_where (is_interface_of d) (i + 1) (drop (i + 1) signals))
left_drop d signals i x b lt at is =
    let one : suc i ≡ i + 1 = omega arith in
    let rest = numbers_where (is_interface_of d) (i + 1) (drop (i + 1) signals) in
    ap (numbers_where (is_interface_of d) i) (drop-cons signals i x lt ∙ ap (λ y. y ∷ drop (suc i) signals) (sym at))
    ∙ ap (λ k. cond (is_interface_of d x) (i ∷ numbers_where (is_interface_of d) k (drop k signals)) (numbers_where (is_interface_of d) k (drop k signals))) one
    ∙ ap (λ c. cond c (i ∷ rest) rest) (sym is)

-- there is room for the number of one more
pub lists_room : (d : ℕ) (signals : List SignalInfo) (first now : List ℕ) (i many : ℕ) (x : SignalInfo) → i < length signals → x ≡ get_or signals i x → true ≡ is_interface_of d x → length (numbers_where (is_interface_of d) 0 signals) ≤ length first → Lists d signals first now i many → many < length now
lists_room d signals first now i many x lt at is few l =
    let rest = numbers_where (is_interface_of d) (i + 1) (drop (i + 1) signals) in
    let all = ap length (ap (λ k. take many now ++ k) (sym (left_drop d signals i x true lt at is)) ∙ l.split) in
    omega (arith, all, length-append (take many now) (i ∷ rest), length-take many now, l.size, l.within, few)

pub lists_own : (d : ℕ) (signals : List SignalInfo) (first now : List ℕ) (i many : ℕ) (x : SignalInfo) → i < length signals → x ≡ get_or signals i x → true ≡ is_interface_of d x → many < length now → Lists d signals first now i many → Lists d signals first (set now many i) (i + 1) (many + 1)
lists_own d signals first now i many x lt at is room l =
    let rest = numbers_where (is_interface_of d) (i + 1) (drop (i + 1) signals) in
    let more : take (many + 1) (set now many i) ≡ take many now ++ i ∷ [] = take_more_set now many i room in
    record {
      split = ap (λ k. k ++ rest) more ∙ append_assoc (take many now) (i ∷ []) rest ∙ ap (λ k. take many now ++ k) (sym (left_drop d signals i x true lt at is)) ∙ l.split;
      size = length-set now many i ∙ l.size;
      within = omega (arith, length-set now many i);
    }

pub lists_other : (d : ℕ) (signals : List SignalInfo) (first now : List ℕ) (i many : ℕ) (x : SignalInfo) → i < length signals → x ≡ get_or signals i x → false ≡ is_interface_of d x → Lists d signals first now i many → Lists d signals first now (i + 1) many
lists_other d signals first now i many x lt at is l = record { split = ap (λ k. take many now ++ k) (sym (left_drop d signals i x false lt at is)) ∙ l.split; size = l.size; within = l.within }

pub lists_last : (d : ℕ) (signals : List SignalInfo) (first now : List ℕ) (i many : ℕ) → length signals ≤ i → Lists d signals first now i many → take many now ≡ numbers_where (is_interface_of d) 0 signals
lists_last d signals first now i many le l =
    let none : numbers_where (is_interface_of d) i (drop i signals) ≡ [] = ap (numbers_where (is_interface_of d) i) (drop_all i signals le) in
    sym (append-nil (take many now)) ∙ ap (λ k. take many now ++ k) (sym none) ∙ l.split

pub ruleset list_steps = (lists_first, lists_last)
