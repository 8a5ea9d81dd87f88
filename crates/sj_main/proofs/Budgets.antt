-- The turns of each domain, counted and listed.
use Rattle.std.proofs.Common.{◌≡◌, ◌≢◌, ℕ, zero, suc, ◌+◌, ◌<◌, ◌≤◌, Bool, true, false, nat_eq, cond, List, [], ◌∷◌, ◌++◌, length, drop, get_or, set, map, replicate, arith, add-one, refl, sym, ap, ◌∙◌, append_assoc}
use Rattle.std.specs.List.{range_with_len}
use Rattle.std.proofs.Math.Seq.{drop-cons}
use Rattle.std.proofs.lemmas.Bool.Decides.{nat_tests}
use Rattle.std.proofs.lemmas.List.{length-replicate, length-set, get_or-replicate, get_or-set_same, get_or-set_other}
use Rattle.std.proofs.lemmas.List.FromFn.{fill_by_all}
use Rattle.domain_core.specs.definitions.runs.Scheduled.{turns_of}
use Rattle.sj_main.specs.declared.commands.Turns.{Turns}
use Rattle.sj_main.specs.declared.commands.Turns.TheVariants.{Rounds}
use Rattle.sj_main.specs.definitions.Commands.{most_turns, rounds_of, budgets_for}

-- a range with one number more

pub range_push : (a n : ℕ) → range_with_len a (suc n) ≡ range_with_len a n ++ (a + n) ∷ []
range_push a zero = ap (λ x. x ∷ []) (let e : a ≡ a + 0 = omega arith in e)
range_push a (suc n) = ap (λ l. a ∷ l) (range_push (a + 1) n ∙ ap (λ x. range_with_len (a + 1) n ++ x ∷ []) (let e : a + 1 + n ≡ a + suc n = omega arith in e))

pub range_start : (new old : List ℕ) → new ≡ old → new ≡ old ++ range_with_len 0 0
range_start new old e = e ∙ append_none old
  where
    append_none : (xs : List ℕ) → xs ≡ xs ++ []
    append_none [] = refl
    append_none (x ∷ xs) = ap (λ l. x ∷ l) (append_none xs)

pub range_more : (first old new : List ℕ) (n : ℕ) → old ≡ first ++ range_with_len 0 n → new ≡ old ++ n ∷ [] → new ≡ first ++ range_with_len 0 (n + 1)
range_more first old new n e h =
    let p : range_with_len 0 (n + 1) ≡ range_with_len 0 n ++ n ∷ [] = rw add-one (range_push 0 n ∙ ap (λ x. range_with_len 0 n ++ x ∷ []) (let z : 0 + n ≡ n = omega arith in z)) in
    h ∙ ap (λ l. l ++ n ∷ []) e ∙ append_assoc first (range_with_len 0 n) (n ∷ []) ∙ ap (λ l. first ++ l) (sym p)

-- turns that are counted apart

count_step : (b : Bool) (m n k : ℕ) → m ≡ n + k → cond b (suc m) m ≡ cond b (suc n) n + k
count_step true m n k h = omega arith
count_step false m n k h = h

pub turns_of-append : (d : ℕ) (xs ys : List ℕ) → turns_of d (xs ++ ys) ≡ turns_of d xs + turns_of d ys
turns_of-append d [] ys = omega arith
turns_of-append d (x ∷ xs) ys = count_step (nat_eq x d) (turns_of d (xs ++ ys)) (turns_of d xs) (turns_of d ys) (turns_of-append d xs ys)

turns_of-cons : (d x : ℕ) (xs : List ℕ) (b : Bool) → nat_eq x d ≡ b → turns_of d (x ∷ xs) ≡ cond b (suc (turns_of d xs)) (turns_of d xs)
turns_of-cons d x xs b h = ap (λ c. cond c (suc (turns_of d xs)) (turns_of d xs)) h

turns_of-above : (d a n : ℕ) → d < a → turns_of d (range_with_len a n) ≡ 0
turns_of-above d a zero h = refl
turns_of-above d a (suc n) h =
    let e : nat_eq a d ≡ false = grind (arith, nat_tests) in
    turns_of-cons d a (range_with_len (a + 1) n) false e ∙ turns_of-above d (a + 1) n (omega arith)

at_least : (a d : ℕ) → a ≤ d → nat_eq a d ≡ false → a + 1 ≤ d
at_least a d l e = grind (arith, nat_tests)

is_first : (a d : ℕ) → nat_eq a d ≡ true → d < a + 1
is_first a d e = grind (arith, nat_tests)

range_step : (d a n : ℕ) (b : Bool) → nat_eq a d ≡ b → a ≤ d → (a + 1 ≤ d → turns_of d (range_with_len (a + 1) n) ≡ 1) → turns_of d (range_with_len a (suc n)) ≡ 1
range_step d a n true e l h = turns_of-cons d a (range_with_len (a + 1) n) true e ∙ ap suc (turns_of-above d (a + 1) n (is_first a d e))
range_step d a n false e l h = turns_of-cons d a (range_with_len (a + 1) n) false e ∙ h (at_least a d l e)

turns_of-range : (d a n : ℕ) → a ≤ d → d < a + n → turns_of d (range_with_len a n) ≡ 1
turns_of-range d a zero l h = absurd (omega arith)
turns_of-range d a (suc n) l h = range_step d a n (nat_eq a d) refl l (λ m. turns_of-range d (a + 1) n m (omega arith))

pub turns_of-rounds : (d n domains : ℕ) → d < domains → turns_of d (rounds_of n domains) ≡ n
turns_of-rounds d zero domains h = refl
turns_of-rounds d (suc n) domains h =
    let a = turns_of-append d (range_with_len 0 domains) (rounds_of n domains) in
    let b = turns_of-range d 0 domains (omega arith) (omega arith) in
    let c = turns_of-rounds d n domains h in
    omega arith

rounds_alike : (n domains : ℕ) (v : List ℕ) → v ≡ replicate domains n → v ≡ budgets_for (Rounds n) domains
rounds_alike n domains v e =
    fill_by_all (λ d. turns_of d (rounds_of n domains)) v domains 0 (ap length e ∙ length-replicate domains n)
    (λ k h. ap (λ l. get_or l k 0) e ∙ get_or-replicate domains k n 0 h ∙ sym (turns_of-rounds k n domains h))

pub budgets_of_rounds : (turns : Turns) (n domains : ℕ) (v : List ℕ) → turns ≡ Rounds n → v ≡ replicate domains n → v ≡ budgets_for turns domains
budgets_of_rounds turns n domains v is e = rounds_alike n domains v e ∙ ap (λ t. budgets_for t domains) (sym is)

-- rounds, listed

pub rounds_push : (n domains : ℕ) → rounds_of n domains ++ range_with_len 0 domains ≡ rounds_of (suc n) domains
rounds_push zero domains = append_none (range_with_len 0 domains)
  where
    append_none : (xs : List ℕ) → xs ≡ xs ++ []
    append_none [] = refl
    append_none (x ∷ xs) = ap (λ l. x ∷ l) (append_none xs)
rounds_push (suc n) domains = append_assoc (range_with_len 0 domains) (rounds_of n domains) (range_with_len 0 domains) ∙ ap (λ l. range_with_len 0 domains ++ l) (rounds_push n domains)

pub rounds_more : (old new : List ℕ) (n domains : ℕ) → old ≡ rounds_of n domains → new ≡ old ++ range_with_len 0 domains → new ≡ rounds_of (n + 1) domains
rounds_more old new n domains e h = rw add-one (h ∙ ap (λ l. l ++ range_with_len 0 domains) e ∙ rounds_push n domains)

pub ruleset listing = (range_start, range_more, rounds_more)

-- turns, counted one by one

-- so many numbers, each how many of the first i turns are the domain's
pub record Counts (turns counts : List ℕ) (domains i : ℕ) : Type 0 where
  pub size : length counts ≡ domains
  pub each : (d : ℕ) → get_or counts d 0 + turns_of d (drop i turns) ≡ turns_of d turns

zero_at : (n k : ℕ) → get_or {A = ℕ} (replicate n 0) k 0 ≡ 0
zero_at zero k = refl
zero_at (suc n) zero = refl
zero_at (suc n) (suc k) = zero_at n k

pub counts_start : (turns counts : List ℕ) (domains : ℕ) → counts ≡ replicate domains 0 → Counts turns counts domains 0
counts_start turns counts domains e = record {
  size = ap length e ∙ length-replicate domains 0;
  each = λ d. (let z : get_or counts d 0 ≡ 0 = ap (λ l. get_or l d 0) e ∙ zero_at domains d in omega arith);
}

turns_of-drop : (d : ℕ) (turns : List ℕ) (i t : ℕ) → i < length turns → t ≡ get_or turns i t → turns_of d (drop i turns) ≡ cond (nat_eq t d) (suc (turns_of d (drop (i + 1) turns))) (turns_of d (drop (i + 1) turns))
turns_of-drop d turns i t lt is = rw (add-one, drop-cons turns i t lt) (ap (λ x. cond (nat_eq x d) (suc (turns_of d (drop (suc i) turns))) (turns_of d (drop (suc i) turns))) (sym is))

counted : (d : ℕ) (turns : List ℕ) (i t : ℕ) (b : Bool) → i < length turns → t ≡ get_or turns i t → nat_eq t d ≡ b → turns_of d (drop i turns) ≡ cond b (suc (turns_of d (drop (i + 1) turns))) (turns_of d (drop (i + 1) turns))
counted d turns i t b lt is h = turns_of-drop d turns i t lt is ∙ ap (λ c. cond c (suc (turns_of d (drop (i + 1) turns))) (turns_of d (drop (i + 1) turns))) h

same_of : (a b : ℕ) → nat_eq a b ≡ true → a ≡ b
same_of a b h = grind (arith, nat_tests)

apart_of : (a b : ℕ) → nat_eq a b ≡ false → b ≢ a
apart_of a b h e = let k : nat_eq a b ≡ true = grind (arith, nat_tests) in let z : true ≡ false = sym k ∙ h in cc

counted_at : (turns counts new : List ℕ) (domains i t n : ℕ) (b : Bool) (d : ℕ) → i < length turns → t ≡ get_or turns i t → t < domains → n ≡ get_or counts t 0 + 1 → new ≡ set counts t n → Counts turns counts domains i
    → nat_eq t d ≡ b → get_or new d 0 + turns_of d (drop (i + 1) turns) ≡ turns_of d turns
counted_at turns counts new domains i t n true d lt is below more e c h =
    let s = same_of t d h in
    let a = counted d turns i t true lt is h in
    let k : get_or new d 0 ≡ n = ap (λ l. get_or l d 0) e ∙ ap (λ x. get_or (set counts t n) x 0) (sym s) ∙ get_or-set_same counts t n 0 (omega (arith, c.size)) in
    let m : get_or counts t 0 ≡ get_or counts d 0 = ap (λ x. get_or counts x 0) s in
    omega (arith, c.each d)
counted_at turns counts new domains i t n false d lt is below more e c h =
    let a = counted d turns i t false lt is h in
    let k : get_or new d 0 ≡ get_or counts d 0 = ap (λ l. get_or l d 0) e ∙ get_or-set_other counts t d n 0 (apart_of t d h) in
    omega (arith, c.each d)

pub counts_more : (turns counts new : List ℕ) (domains i t n : ℕ) → i < length turns → t ≡ get_or turns i t → t < domains → n ≡ get_or counts t 0 + 1 → new ≡ set counts t n → Counts turns counts domains i → Counts turns new domains (i + 1)
counts_more turns counts new domains i t n lt is below more e c = record {
  size = ap length e ∙ length-set counts t n ∙ c.size;
  each = λ d. counted_at turns counts new domains i t n (nat_eq t d) d lt is below more e c refl;
}

pub counts_room : (turns counts : List ℕ) (domains i t : ℕ) → i < length turns → t ≡ get_or turns i t → turns_of t turns ≤ most_turns → Counts turns counts domains i → get_or counts t 0 + 1 ≤ most_turns
counts_room turns counts domains i t lt is few c =
    let e : nat_eq t t ≡ true = grind (arith, nat_tests) in
    let a = counted t turns i t true lt is e in
    omega (arith, c.each t)

turns_of-over : (d : ℕ) (xs : List ℕ) (n : ℕ) → length xs ≤ n → turns_of d (drop n xs) ≡ 0
turns_of-over d [] zero h = refl
turns_of-over d [] (suc n) h = refl
turns_of-over d (x ∷ xs) zero h = absurd (omega arith)
turns_of-over d (x ∷ xs) (suc n) h = turns_of-over d xs n (omega arith)

pub counts_end : (turns counts : List ℕ) (domains i : ℕ) → length turns ≤ i → Counts turns counts domains i → counts ≡ map (λ d. turns_of d turns) (range_with_len 0 domains)
counts_end turns counts domains i l c = fill_by_all (λ d. turns_of d turns) counts domains 0 c.size (λ k h. (let z = turns_of-over k turns i l in omega (arith, c.each k)))

pub ruleset counting = (counts_start, counts_more, counts_room, counts_end)
