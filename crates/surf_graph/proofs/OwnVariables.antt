-- A variable that a starting copy may assign gets a wire of the copy's own.
use Rattle.std.proofs.Common.{◌≡◌, ℕ, ◌+◌, ◌<◌, ◌≤◌, ◌==◌, Bool, true, false, ◌&&◌, ◌||◌, cond, List, [], ◌∷◌, ◌++◌, length, refl, sym, ap, ◌∙◌, subst, arith}
use Rattle.std.proofs.lemmas.Bool.Decides.{nat_tests}
use Rattle.kernel_terms.specs.declared.tables.Tables.{Tables}
use Rattle.kernel_terms.specs.Statements.{Stmt, Nothing, Pause, Emit, Assign, If, Present, Seq, Loop, Par, Trap, Exit, Abort, Suspend, Local, Send, Receive, SendWaits, Sent, ReceiveWaits, Received}
use Rattle.kernel_terms.specs.MayEnd.{ends0}
use Rattle.kernel_rules.specs.definitions.Registers.{registers}
use Rattle.kernel_rules.specs.definitions.TickRule.{writes}
use Rattle.surf_graph.specs.definitions.Copies.{Copy, Context, has, both_write, join_wires, wires_by, starting_if, start_context, other_context, part_context, branch_context, second_branch, weak_context, tested_context, local_context}
use Rattle.surf_graph.specs.definitions.Sources.{IsSource}
use Rattle.surf_graph.specs.definitions.StartingCopies.{writes0, start}
use Rattle.surf_graph.proofs.Alternatives.{has_append}
use Rattle.surf_graph.proofs.Booleans.{or_left, or_right, other_one, either_true}
use Rattle.surf_graph.proofs.Parts.{by_cases}
use Rattle.surf_graph.proofs.Passes.{start_passes, passes_if, swapped}

-- the variables xs have wires from n on
pub record Owned (n : ℕ) (xs : List ℕ) (next : ℕ) (v : ℕ → ℕ) : Type 0 where
  pub grows : n ≤ next
  pub own : (x : ℕ) → has xs x ≡ true → n ≤ v x

pub owned_less : (n i m : ℕ) (xs : List ℕ) (v : ℕ → ℕ) → n ≤ i → Owned i xs m v → Owned n xs m v
owned_less n i m xs v le o =
    record { grows = (let g = o.grows in omega (arith, le, g)); own = λ x h. let l = o.own x h in omega (arith, le, l) }

pub owned_none : (n m : ℕ) (v : ℕ → ℕ) → n ≤ m → Owned n [] m v
owned_none n m v le = record { grows = le; own = λ x h. absurd (let f : ⊥ = cc in f) }

pub owned_more : (n i m k : ℕ) (xs : List ℕ) (v : ℕ → ℕ) → n ≤ i → m ≤ k → Owned i xs m v → Owned n xs k v
owned_more n i m k xs v le lk o =
    record { grows = (let g = o.grows in omega (arith, le, g, lk)); own = λ x h. let l = o.own x h in omega (arith, le, l) }

at_first : (xs ys : List ℕ) (x : ℕ) → has (xs ++ ys) x ≡ true → has ys x ≡ false → has xs x ≡ true
at_first xs ys x h e = swap_one (has xs x) (has ys x) (sym (has_append xs ys x) ∙ h) e where
  swap_one : (a b : Bool) → a || b ≡ true → b ≡ false → a ≡ true
  swap_one true b h e = refl
  swap_one false b h e = absurd (let f : ⊥ = cc in f)

pub owned_behind : (n i m k : ℕ) (xs ys : List ℕ) (u v : ℕ → ℕ) → n ≤ i → Owned i xs m u → Owned m ys k v → ((x : ℕ) → has ys x ≡ false → v x ≡ u x) → Owned n (xs ++ ys) k v
owned_behind n i m k xs ys u v le a b pass =
    let g = a.grows in
    let h = b.grows in
    record {
      grows = omega (arith, le, g, h);
      own = λ x e.
          by_cases (has ys x)
          (λ on. let l = b.own x on in omega (arith, le, g, l))
          (λ off. let l = a.own x (at_first xs ys x e off) in subst (λ w. n ≤ w) (sym (pass x off)) (omega (arith, le, l)));
    }

joined_low : (l n : ℕ) (v : ℕ → ℕ) (zs : List ℕ) (x : ℕ) → l ≤ n → l ≤ v x → l ≤ join_wires n v zs x
joined_low l n v [] x le lv = lv
joined_low l n v (z ∷ zs) x le lv =
    by_cases (z == x)
    (λ e. subst (λ b. l ≤ cond b n (join_wires (n + 1) v zs x)) (sym e) le)
    (λ e. subst (λ b. l ≤ cond b n (join_wires (n + 1) v zs x)) (sym e) (joined_low l (n + 1) v zs x (omega (arith, le)) lv))

pub owned_choice : (n i m k : ℕ) (xs ys : List ℕ) (u v : ℕ → ℕ) → n ≤ i → Owned i xs m u → Owned m ys k v
    → Owned n (xs ++ ys) (k + length (both_write xs ys)) (join_wires k (wires_by ys v u) (both_write xs ys))
owned_choice n i m k xs ys u v le a b =
    let g = a.grows in
    let h = b.grows in
    record {
      grows = omega (arith, le, g, h);
      own = λ x e.
          joined_low n k (wires_by ys v u) (both_write xs ys) x (omega (arith, le, g, h))
          (by_cases (has ys x)
          (λ on. let l = b.own x on in subst (λ c. n ≤ cond c (v x) (u x)) (sym on) (omega (arith, le, g, l)))
          (λ off. let l = a.own x (at_first xs ys x e off) in subst (λ c. n ≤ cond c (v x) (u x)) (sym off) (omega (arith, le, l))));
    }

pub owned_beside : (n i m k : ℕ) (xs ys : List ℕ) (u v : ℕ → ℕ) (w : ℕ → Bool) → n ≤ i → Owned i xs m u → Owned m ys k v → ((x : ℕ) → has xs x ≡ true → w x ≡ true) → ((x : ℕ) → has ys x ≡ true → w x ≡ false)
    → Owned n (xs ++ ys) k (λ x. cond (w x) (u x) (v x))
owned_beside n i m k xs ys u v w le a b first second =
    let g = a.grows in
    let h = b.grows in
    record {
      grows = omega (arith, le, g, h);
      own = λ x e.
          by_cases (has ys x)
          (λ on. let l = b.own x on in subst (λ c. n ≤ cond c (u x) (v x)) (sym (second x on)) (omega (arith, le, g, l)))
          (λ off. let f = at_first xs ys x e off in let l = a.own x f in subst (λ c. n ≤ cond c (u x) (v x)) (sym (first x f)) (omega (arith, le, l)));
    }

pub owned_if : (t : Bool) (a : Copy) (d : Context) (ys : List ℕ) → Owned d.next ys a.next a.variables → Owned d.next (cond t ys []) (starting_if t a d).next (starting_if t a d).variables
owned_if true a d ys o = o
owned_if false a d ys o = owned_none d.next d.next d.wires.variables (omega arith)

-- what a starting copy may assign is assigned in the statement
pub in_both : (xs ys : List ℕ) (x : ℕ) (a b : Bool) → (has xs x ≡ true → a ≡ true) → (has ys x ≡ true → b ≡ true) → has (xs ++ ys) x ≡ true → a || b ≡ true
in_both xs ys x a b f g h = either_true (has xs x) (has ys x) (sym (has_append xs ys x) ∙ h) (λ i. or_left a b (f i)) (λ i. or_right a b (g i))

pub in_if : (t : Bool) (ys : List ℕ) (x : ℕ) (b : Bool) → (has ys x ≡ true → b ≡ true) → has (cond t ys []) x ≡ true → b ≡ true
in_if true ys x b f h = f h
in_if false ys x b f h = absurd (let z : ⊥ = cc in z)

pub none_in : {C : Type 0} → false ≡ true → C
none_in h = absurd (let z : ⊥ = cc in z)

pub starting_writes : (p : Stmt) (x : ℕ) → has (writes0 p) x ≡ true → writes p x ≡ true
starting_writes Nothing x h = none_in h
starting_writes Pause x h = none_in h
starting_writes (Emit s e) x h = none_in h
starting_writes (Assign y e) x h = either_true (y == x) false h (λ i. i) (λ i. none_in i)
starting_writes (If e p q) x h = in_both (writes0 p) (writes0 q) x (writes p x) (writes q x) (λ i. starting_writes p x i) (λ i. starting_writes q x i) h
starting_writes (Present t p q) x h = in_both (writes0 p) (writes0 q) x (writes p x) (writes q x) (λ i. starting_writes p x i) (λ i. starting_writes q x i) h
starting_writes (Seq p q) x h =
    in_both (writes0 p) (cond (ends0 p) (writes0 q) []) x (writes p x) (writes q x) (λ i. starting_writes p x i) (λ i. in_if (ends0 p) (writes0 q) x (writes q x) (λ j. starting_writes q x j) i) h
starting_writes (Loop p) x h = starting_writes p x h
starting_writes (Par p q) x h = in_both (writes0 p) (writes0 q) x (writes p x) (writes q x) (λ i. starting_writes p x i) (λ i. starting_writes q x i) h
starting_writes (Trap p) x h = starting_writes p x h
starting_writes (Exit d) x h = none_in h
starting_writes (Abort weak armed t p) x h = starting_writes p x h
starting_writes (Suspend armed t p) x h = starting_writes p x h
starting_writes (Local s v p) x h = starting_writes p x h
starting_writes (Send c e) x h = none_in h
starting_writes (Receive c) x h = none_in h
starting_writes (SendWaits c v) x h = none_in h
starting_writes (Sent c) x h = none_in h
starting_writes (ReceiveWaits c) x h = none_in h
starting_writes (Received c) x h = none_in h

pub only_one : (a b : Bool) → a && b ≡ false → b ≡ true → a ≡ false
only_one true b h e = absurd (let z : ⊥ = cc in z)
only_one false b h e = refl

assigned : (n y x : ℕ) (v : ℕ → ℕ) → (y == x) ≡ true → n ≤ cond (x == y) (n + 2) (v x)
assigned n y x v e = subst (λ b. n ≤ cond b (n + 2) (v x)) (sym (flipped y x e)) (omega arith) where
  flipped : (y x : ℕ) → (y == x) ≡ true → (x == y) ≡ true
  flipped y x e = grind (arith, nat_tests)

pub start_owned : (tables : Tables) (p : Stmt) (c : Context) → IsSource tables p → Owned c.next (writes0 p) (start tables p c).next (start tables p c).variables
start_owned tables Nothing c s = owned_none c.next (c.next + 1) c.wires.variables (omega arith)
start_owned tables Pause c s = owned_none c.next (c.next + 2) c.wires.variables (omega arith)
start_owned tables (Emit i e) c s = owned_none c.next (c.next + 2) c.wires.variables (omega arith)
start_owned tables (Assign y e) c s =
    record { grows = (let l : c.next ≤ c.next + 3 = omega arith in l); own = λ x h. either_true (y == x) false h (λ i. assigned c.next y x c.wires.variables i) (λ i. none_in i) }
start_owned tables (If e p q) c s =
    let a = start tables p (part_context (c.next + 3) 5 c) in
    let d = other_context (c.next + 4) (c.register + registers tables p) a c in
    let b = start tables q d in
    owned_choice c.next (c.next + 5) a.next b.next (writes0 p) (writes0 q) a.variables b.variables (omega arith) (start_owned tables p (part_context (c.next + 3) 5 c) s.0) (start_owned tables q d s.1)
start_owned tables (Present t p q) c s =
    let a = start tables p (part_context (c.next + 3) 5 c) in
    let d = other_context (c.next + 4) (c.register + registers tables p) a c in
    let b = start tables q d in
    owned_choice c.next (c.next + 5) a.next b.next (writes0 p) (writes0 q) a.variables b.variables (omega arith) (start_owned tables p (part_context (c.next + 3) 5 c) s.0) (start_owned tables q d s.1)
start_owned tables (Seq p q) c s =
    let a = start tables p (part_context c.go 3 c) in
    let d = start_context (c.next + 2) (c.register + registers tables p) a c in
    let b = starting_if (ends0 p) (start tables q d) d in
    owned_behind c.next (c.next + 3) a.next b.next (writes0 p) (cond (ends0 p) (writes0 q) []) a.variables b.variables (omega arith)
    (start_owned tables p (part_context c.go 3 c) s.0)
    (owned_if (ends0 p) (start tables q d) d (writes0 q) (start_owned tables q d s.1))
    (λ x off. passes_if (ends0 p) (start tables q d) d (writes0 q) x off (λ k. start_passes tables q d x k))
start_owned tables (Loop p) c s = start_owned tables p c s
start_owned tables (Par p q) c s =
    let a = start tables p (branch_context c) in
    let b = start tables q (second_branch tables p c a) in
    owned_beside c.next (c.next + 5) a.next b.next (writes0 p) (writes0 q) a.variables b.variables (writes p) (omega arith) (start_owned tables p (branch_context c) s.1) (start_owned tables q (second_branch tables p c a) s.2)
    (λ x h. starting_writes p x h) (λ x h. only_one (writes p x) (writes q x) (s.0 x) (starting_writes q x h))
start_owned tables (Trap p) c s = let a = start tables p (part_context c.go 1 c) in owned_less c.next (c.next + 1) a.next (writes0 p) a.variables (omega arith) (start_owned tables p (part_context c.go 1 c) s)
start_owned tables (Exit d) c s = owned_none c.next (c.next + 1) c.wires.variables (omega arith)
start_owned tables (Abort weak false t p) c s = start_owned tables p c s
start_owned tables (Abort true true t p) c s = let a = start tables p (weak_context c) in owned_less c.next (c.next + 5) a.next (writes0 p) a.variables (omega arith) (start_owned tables p (weak_context c) s)
start_owned tables (Abort false true t p) c s = let a = start tables p (tested_context c) in owned_less c.next (c.next + 7) a.next (writes0 p) a.variables (omega arith) (start_owned tables p (tested_context c) s)
start_owned tables (Suspend armed t p) c s = start_owned tables p c s.1
start_owned tables (Local i v p) c s = let a = start tables p (local_context tables i c) in owned_more c.next (c.next + 6) a.next (start tables (Local i v p) c).next (writes0 p) a.variables (omega arith) (omega arith) (start_owned tables p (local_context tables i c) s.1)
start_owned tables (Send ch e) c s = owned_none c.next (c.next + 3) c.wires.variables (omega arith)
start_owned tables (Receive ch) c s = owned_none c.next (c.next + 2) c.wires.variables (omega arith)
start_owned tables (SendWaits ch v) c s = absurd s
start_owned tables (Sent ch) c s = absurd s
start_owned tables (ReceiveWaits ch) c s = absurd s
start_owned tables (Received ch) c s = absurd s
