-- What a run may weigh at most, and how its weight is summed.
use Rattle.std.proofs.Common.{◌≡◌, ℕ, ◌+◌, ◌*◌, ◌<◌, ◌≤◌, Bool, List, length, get_or, take, arith, sym, ap, ◌∙◌, subst}
use Rattle.std.specs.List.{range_with_len, sum_by, All}
use Rattle.std.proofs.Math.Nat.{mul-le-mul}
use Rattle.std.specs.Prelude.{slice_index_or}
use Rattle.std.proofs.lemmas.List.Sums.{count_by-le-length, sum_by_more, sum_by_more_le, sum_by-le}
use Rattle.std.proofs.lemmas.List.{take_all}
use Rattle.std.proofs.lemmas.List.FromFn.{length-range_with_len, get_or-range_with_len}
use Rattle.kernel_terms.specs.declared.tables.Tables.{Tables}
use Rattle.kernel_terms.specs.declared.system.System.{System}
use Rattle.kernel_terms.specs.Systems.{tables_of, domains_of}
use Rattle.kernel_terms.specs.Limits.{most_domains, most_channels, most_signals}
use Rattle.kernel_terms.specs.TableEntries.{interface_of, numbers_where}
use Rattle.kernel_terms.proofs.SystemLimits.{numbers_count, few_domains, few_channels, few_signals}
use Rattle.sj_main.specs.definitions.Commands.{most_turns}
use Rattle.sj_main.specs.definitions.RunWeight.{domain_weight, channel_weight}

-- numbers, counted

pub numbers_within : {X : Type 0} (p : X → Bool) (n : ℕ) (xs : List X) → length (numbers_where p n xs) ≤ length xs
numbers_within p n xs = let a = numbers_count p n xs in let b = count_by-le-length p xs in omega arith

pub ruleset counting_numbers = (numbers_count, numbers_within)

-- bounds

pub record HasFew (budgets : List ℕ) : Type 0 where
  pub few : (d : ℕ) → get_or budgets d 0 ≤ most_turns

product_small : (a b c d : ℕ) → a ≤ c → b ≤ d → a * b ≤ c * d
product_small a b c d h k = mul-le-mul h k

pub domains_small : (system : System) (budgets : List ℕ) → length budgets ≡ length (domains_of system) → HasFew budgets → sum_by (domain_weight (tables_of system) budgets) (range_with_len 0 (length budgets)) ≤ most_domains * (most_turns * (most_signals + 1))
domains_small system budgets same few =
    let n = length budgets in
    let t = tables_of system in
    let all : All (λ d. domain_weight t budgets d ≤ most_turns * (most_signals + 1)) (range_with_len 0 n) = λ k d l. at k (get_or (range_with_len 0 n) k d) (get_or-range_with_len 0 n k d (omega (arith, length-range_with_len 0 n))) (omega (arith, length-range_with_len 0 n)) in
    let a = sum_by-le (domain_weight t budgets) (most_turns * (most_signals + 1)) (range_with_len 0 n) all in
    let b = product_small (length (range_with_len 0 n)) (most_turns * (most_signals + 1)) most_domains (most_turns * (most_signals + 1)) (omega (arith, length-range_with_len 0 n, few_domains system)) (omega arith) in
    omega (arith, a, b)
  where
    at : (k d : ℕ) → d ≡ 0 + k → k < length budgets → domain_weight (tables_of system) budgets d ≤ most_turns * (most_signals + 1)
    at k d e l = product_small (get_or budgets d 0) (length (interface_of (tables_of system) d) + 1) most_turns (most_signals + 1) (few.few d) (omega (arith, few_signals system d (omega arith)))

pub channels_small : (system : System) (budgets : List ℕ) → HasFew budgets → sum_by (channel_weight budgets) (tables_of system).channels ≤ most_channels * (4 * most_turns + 2)
channels_small system budgets few =
    let cs = (tables_of system).channels in
    let all : All (λ c. channel_weight budgets c ≤ 4 * most_turns + 2) cs = λ k c l. (let x = slice_index_or cs k c in omega (arith, few.few x.sender, few.few x.receiver)) in
    let a = sum_by-le (channel_weight budgets) (4 * most_turns + 2) cs all in
    let b = product_small (length cs) (4 * most_turns + 2) most_channels (4 * most_turns + 2) (few_channels system) (omega arith) in
    omega (arith, a, b)

pub ruleset small_weights = (domains_small, channels_small, few_domains)

-- the sum over the domains, one more at a time

place_of : (n d : ℕ) → d < n → get_or (range_with_len 0 n) d d ≡ d
place_of n d l = let e = get_or-range_with_len 0 n d d l in omega arith

adds : (t : Tables) (budgets : List ℕ) (d b n : ℕ) → d < length budgets → b ≡ get_or budgets d 0 → n ≡ length (interface_of t d) → b * (n + 1) ≡ domain_weight t budgets (get_or (range_with_len 0 (length budgets)) d d)
adds t budgets d b n l e h = ap (λ x. x * (n + 1)) e ∙ ap (λ x. get_or budgets d 0 * (x + 1)) h ∙ ap (domain_weight t budgets) (sym (place_of (length budgets) d l))

pub weight_more : (t : Tables) (budgets : List ℕ) (d b n w : ℕ) → d < length budgets → b ≡ get_or budgets d 0 → n ≡ length (interface_of t d) → w ≡ sum_by (domain_weight t budgets) (take d (range_with_len 0 (length budgets)))
    → w + b * (n + 1) ≡ sum_by (domain_weight t budgets) (take (d + 1) (range_with_len 0 (length budgets)))
weight_more t budgets d b n w l e h is =
    let r = range_with_len 0 (length budgets) in
    let a = sum_by_more (domain_weight t budgets) r d d (omega (arith, length-range_with_len 0 (length budgets))) in
    ap (λ x. x + b * (n + 1)) is ∙ ap (λ x. sum_by (domain_weight t budgets) (take d r) + x) (adds t budgets d b n l e h) ∙ sym a

pub weight_room : (t : Tables) (budgets : List ℕ) (d b n w : ℕ) → d < length budgets → b ≡ get_or budgets d 0 → n ≡ length (interface_of t d) → w ≡ sum_by (domain_weight t budgets) (take d (range_with_len 0 (length budgets)))
    → w + b * (n + 1) ≤ sum_by (domain_weight t budgets) (range_with_len 0 (length budgets))
weight_room t budgets d b n w l e h is =
    let r = range_with_len 0 (length budgets) in
    let a = sum_by_more_le (domain_weight t budgets) r d d (omega (arith, length-range_with_len 0 (length budgets))) in
    let k : w + b * (n + 1) ≡ sum_by (domain_weight t budgets) (take d r) + domain_weight t budgets (get_or r d d) = ap (λ x. x + b * (n + 1)) is ∙ ap (λ x. sum_by (domain_weight t budgets) (take d r) + x) (adds t budgets d b n l e h) in
    subst (λ x. x ≤ sum_by (domain_weight t budgets) r) (sym k) a

pub weight_end : (t : Tables) (budgets : List ℕ) (d w : ℕ) → length budgets ≤ d → w ≡ sum_by (domain_weight t budgets) (take d (range_with_len 0 (length budgets))) → w ≡ sum_by (domain_weight t budgets) (range_with_len 0 (length budgets))
weight_end t budgets d w l is = is ∙ ap (sum_by (domain_weight t budgets)) (take_all d (range_with_len 0 (length budgets)) (omega (arith, length-range_with_len 0 (length budgets))))
