-- A copy's wires lie between the next free one that it was given and the one that it leaves.
use Rattle.std.proofs.Common.{◌≡◌, ℕ, suc, ◌+◌, ◌<◌, ◌≤◌, nat_lt, ◌==◌, Bool, true, false, cond, List, [], ◌∷◌, ◌++◌, length, refl, arith, Option, Some, None}
use Rattle.kernel_terms.specs.declared.tables.Tables.{Tables}
use Rattle.kernel_terms.specs.declared.tables.SignalInfo.{SignalInfo}
use Rattle.kernel_terms.specs.TableEntries.{signal_at}
use Rattle.kernel_terms.specs.Expressions.{Expression, Test}
use Rattle.kernel_terms.specs.Statements.{Stmt, Nothing, Pause, Emit, Assign, If, Present, Seq, Loop, Par, Trap, Exit, Abort, Suspend, Local, Send, Receive, SendWaits, Sent, ReceiveWaits, Received}
use Rattle.kernel_terms.specs.MayEnd.{ends0}
use Rattle.kernel_rules.specs.definitions.Signals.{put_at}
use Rattle.kernel_rules.specs.definitions.TickRule.{writes}
use Rattle.kernel_rules.specs.definitions.Registers.{registers}
pub use Rattle.surf_graph.specs.definitions.Shows.{Outside}
use Rattle.surf_graph.specs.definitions.Formulas.{Wires, Formula, Value, Holds, Equation}
use Rattle.surf_graph.specs.definitions.Copies.{fold_info, Copy, Context, Emits, Sets, below, from, joined, none, behind, nothing_built, plain_copy, starting_if, next_context, other_context, has, both_write, joins, join_wires, wires_by, alternatives, start_context, part_context, choice_own, turn_own, branch_context, second_branch, beside, of_trap_copy, weak_context, weak_copy, tested_context, tested_copy, local_context, local_copy, own_registers, Folded, fold_step, fold_emits, emits_without, emitted_value}
use Rattle.surf_graph.specs.definitions.StartingCopies.{first_formula, writes0, start}
use Rattle.surf_graph.proofs.Locals.{first_reads}
use Rattle.surf_graph.proofs.Frames.{WiresBelow, wires_more, Reads, Within, EmitsBelow, SetsBelow, Inside, within_more, within_append, emits_more, emits_append, sets_more, sets_append, sets_if}

pub outside_part : (go k : ℕ) (c : Context) → Outside c → go < c.next + k → Outside (part_context go k c)
outside_part go k c o lt =
    let s = o.some in
    let i = o.hold in
    let j = o.keep in
    record { some = omega (arith, s); go = lt; hold = omega (arith, i); keep = omega (arith, j); wires = wires_more c.next (c.next + k) c.wires (omega arith) o.wires }

pub outside_next : (go register i : ℕ) (a : Copy) (c : Context) → Outside c → Inside i a → c.next ≤ i → go < a.next → Outside (next_context go register a c)
outside_next go register i a c o h le lt =
    let g = h.grows in
    let s = o.some in
    let u = o.hold in
    let v = o.keep in
    let w = wires_more c.next a.next c.wires (omega arith) o.wires in
    record { some = omega (arith, s); go = lt; hold = omega (arith, u); keep = omega (arith, v); wires = record { variables = h.variables; present = w.present; value = w.value; last = w.last } }

pub outside_start : (go register i : ℕ) (a : Copy) (c : Context) → Outside c → Inside i a → c.next ≤ i → go < a.next → Outside (start_context go register a c)
outside_start go register i a c o h le lt =
    let n = outside_next go register i a c o h le lt in
    record { some = n.some; go = lt; hold = n.some; keep = n.keep; wires = n.wires }

-- a context with other wires for `go`, `hold` and `keep`, and so many wires of its own
pub outside_with : (go hold keep k register : ℕ) (c : Context) → Outside c → go < c.next + k → hold < c.next + k → keep < c.next + k → Outside (record { go = go; hold = hold; keep = keep; wires = c.wires; register = register; next = c.next + k })
outside_with go hold keep k register c o x y z =
    let s = o.some in
    record { some = omega (arith, s); go = x; hold = y; keep = z; wires = wires_more c.next (c.next + k) c.wires (omega arith) o.wires }

pub put_below : (n s b : ℕ) (v : ℕ → ℕ) → b < n → ((k : ℕ) → v k < n) → (k : ℕ) → put_at v s b k < n
put_below n s b v lt h k = pick (k == s) where
  pick : (t : Bool) → cond t b (v k) < n
  pick true = lt
  pick false = h k

pub outside_local : (tables : Tables) (s : ℕ) (c : Context) → Outside c → Outside (local_context tables s c)
outside_local tables s c o =
    let x = o.some in
    let g = o.go in
    let i = o.hold in
    let j = o.keep in
    let w = wires_more c.next (c.next + 6) c.wires (omega arith) o.wires in
    record {
      some = omega (arith, x);
      go = omega (arith, g);
      hold = omega (arith, i);
      keep = omega (arith, j);
      wires = record {
        variables = w.variables;
        present = put_below (c.next + 6) s c.next c.wires.present (omega arith) w.present;
        value = put_below (c.next + 6) s (c.next + 1) c.wires.value (omega arith) w.value;
        last = w.last;
      };
    }

-- copies

pub inside_nothing : (c : Context) → Outside c → Inside c.next (nothing_built c)
inside_nothing c o = record { grows = omega arith; status = o.some; live = o.some; emits = tt; variables = (o.wires).variables; sets = λ k. tt; equations = tt }

pub inside_if : (b : Bool) (a : Copy) (c : Context) → Outside c → Inside c.next a → Inside c.next (starting_if b a c)
inside_if true a c o h = h
inside_if false a c o h = inside_nothing c o

pub sets_pair : (m n : ℕ) (a b : Copy) → a.next ≤ n → b.next ≤ n → ((k : ℕ) → SetsBelow a.next (a.sets k)) → ((k : ℕ) → SetsBelow b.next (b.sets k)) → (k : ℕ) → SetsBelow n (joined (below m a.sets) (from m b.sets) k)
sets_pair m n a b x y h i k =
    sets_append n (below m a.sets k) (from m b.sets k) (sets_if n (nat_lt k m) (a.sets k) [] (sets_more a.next n (a.sets k) x (h k)) tt) (sets_if n (nat_lt k m) [] (b.sets k) tt (sets_more b.next n (b.sets k) y (i k)))

pub inside_behind : (n l i j : ℕ) (S T : ℕ → List Sets) (own : List Equation) (a b : Copy) → Inside i a → Inside j b → n < i → a.next ≤ j
    → l < b.next → Within b.next own → ((k : ℕ) → SetsBelow b.next (joined S T k)) → Inside n (behind n l S T own a b)
inside_behind n l i j S T own a b u v lt le ll o s =
    let g = u.grows in
    let h = v.grows in
    let x = u.status in
    let y = v.status in
    let wide : a.next ≤ b.next = omega (arith, g, h) in
    record {
      grows = omega (arith, g, h);
      status = omega (arith, g, h);
      live = ll;
      emits = emits_append b.next a.emits b.emits (emits_more a.next b.next a.emits wide u.emits) v.emits;
      variables = v.variables;
      sets = s;
      equations = (omega (arith, g, h), ((omega (arith, x, wide), y), within_append b.next own (a.equations ++ b.equations) o (within_append b.next a.equations b.equations (within_more a.next b.next a.equations wide u.equations) v.equations)));
    }

pub inside_pair : (n l m i j : ℕ) (own : List Equation) (a b : Copy) → Inside i a → Inside j b → n < i → a.next ≤ j → l < b.next → Within b.next own → Inside n (behind n l (below m a.sets) (from m b.sets) own a b)
inside_pair n l m i j own a b u v lt le ll o =
    let h = v.grows in
    inside_behind n l i j (below m a.sets) (from m b.sets) own a b u v lt le ll o (sets_pair m b.next a b (omega arith) (omega arith) u.sets v.sets)

pub outside_other : (go register i : ℕ) (a : Copy) (c : Context) → Outside c → Inside i a → c.next ≤ i → go < a.next → Outside (other_context go register a c)
outside_other go register i a c o h le lt =
    let g = h.grows in
    let s = o.some in
    let u = o.hold in
    let v = o.keep in
    record { some = omega (arith, s); go = lt; hold = omega (arith, u); keep = omega (arith, v); wires = wires_more c.next a.next c.wires (omega arith) o.wires }

joins_within : (k n other : ℕ) (a b : ℕ → ℕ) (xs : List ℕ) → other < k → ((y : ℕ) → a y < k) → ((y : ℕ) → b y < k) → n + length xs ≤ k → Within k (joins other n a b xs)
joins_within k n other a b [] lo la lb le = tt
joins_within k n other a b (x ∷ xs) lo la lb le = (omega (arith, le), ((lo, lb x, la x), joins_within k (n + 1) other a b xs lo la lb (omega (arith, le))))

join_below : (k n : ℕ) (v : ℕ → ℕ) (xs : List ℕ) (y : ℕ) → v y < k → n + length xs ≤ k → join_wires n v xs y < k
join_below k n v [] y lv le = lv
join_below k n v (x ∷ xs) y lv le = pick (x == y) (omega (arith, le)) (join_below k (n + 1) v xs y lv (omega (arith, le))) where
  pick : (t : Bool) → n < k → join_wires (n + 1) v xs y < k → cond t n (join_wires (n + 1) v xs y) < k
  pick true g h = g
  pick false g h = h

pick_below : (t : Bool) (e d n : ℕ) → e < n → d < n → cond t e d < n
pick_below true e d n x y = x
pick_below false e d n x y = y

pub inside_alternatives : (p q : List ℕ) (other n l i j : ℕ) (S T : ℕ → List Sets) (own : List Equation) (a b : Copy) → Inside i a → Inside j b → n < i → a.next ≤ j
    → l < b.next → Within b.next own → ((k : ℕ) → SetsBelow b.next (joined S T k)) → other < b.next → Inside n (alternatives p q other n l S T own a b)
inside_alternatives p q other n l i j S T own a b u v lt le ll o s lo =
    let xs = both_write p q in
    let len = length xs in
    let k = b.next + len in
    let g = u.grows in
    let h = v.grows in
    let x = u.status in
    let y = v.status in
    let wide : a.next ≤ k = omega (arith, g, h) in
    let more : b.next ≤ k = omega arith in
    record {
      grows = omega (arith, g, h);
      status = omega (arith, g, h);
      live = omega (arith, ll);
      emits = emits_append k a.emits b.emits (emits_more a.next k a.emits wide u.emits) (emits_more b.next k b.emits more v.emits);
      variables = λ z.
          let za = u.variables z in
          let zb = v.variables z in
          join_below k b.next (wires_by q b.variables a.variables) xs z (pick_below (has q z) (b.variables z) (a.variables z) k (omega (arith, zb, more)) (omega (arith, za, wide))) (omega arith);
      sets = λ r. sets_more b.next k (joined S T r) more (s r);
      equations = (
        omega (arith, g, h),
        (
          (omega (arith, x, wide), omega (arith, y, more)),
          within_append k (own ++ joins other b.next a.variables b.variables xs) (a.equations ++ b.equations)
              (within_append k own (joins other b.next a.variables b.variables xs) (within_more b.next k own more o)
              (joins_within k b.next other a.variables b.variables xs (omega (arith, lo)) (λ z. let za = u.variables z in omega (arith, za, wide)) (λ z. let zb = v.variables z in omega (arith, zb, more)) (omega arith)))
              (within_append k a.equations b.equations (within_more a.next k a.equations wide u.equations) (within_more b.next k b.equations more v.equations)),
        ),
      );
    }

pub inside_choice : (p q : List ℕ) (other n l m i j : ℕ) (own : List Equation) (a b : Copy) → Inside i a → Inside j b → n < i → a.next ≤ j → l < b.next → Within b.next own → other < b.next
    → Inside n (alternatives p q other n l (below m a.sets) (from m b.sets) own a b)
inside_choice p q other n l m i j own a b u v lt le ll o lo =
    let h = v.grows in
    inside_alternatives p q other n l i j (below m a.sets) (from m b.sets) own a b u v lt le ll o (sets_pair m b.next a b (omega arith) (omega arith) u.sets v.sets) lo

pub inside_beside : (tables : Tables) (p : Stmt) (l : ℕ) (own : List Equation) (i j : ℕ) (c : Context) (a b : Copy) → Outside c → Inside i a → Inside j b → i ≡ c.next + 5 → j ≡ a.next → l < b.next → Within b.next own → Inside c.next (beside tables p l own c a b)
inside_beside tables p l own i j c a b o u v ei ej ll wo =
    let m = c.register + registers tables p in
    let g = u.grows in
    let h = v.grows in
    let x = u.status in
    let y = v.status in
    let la = u.live in
    let lb = v.live in
    let k = o.keep in
    let d = o.hold in
    let wide : a.next ≤ b.next = omega (arith, g, h) in
    record {
      grows = omega (arith, g, h);
      status = omega (arith, g, h);
      live = ll;
      emits = emits_append b.next a.emits b.emits (emits_more a.next b.next a.emits wide u.emits) v.emits;
      variables = λ e. pick (writes p e) (a.variables e) (b.variables e) b.next (let z = u.variables e in omega (arith, z, wide)) (v.variables e);
      sets = sets_pair m b.next a b wide (omega arith) u.sets v.sets;
      equations = (
        omega (arith, g, h),
        (
          (omega (arith, g, h, k), omega (arith, g, h)),
          (
            omega (arith, g, h),
            (
              omega (arith, g, h),
              (
                omega (arith, g, h),
                (
                  (omega (arith, g, h, d), omega (arith, g, h)),
                  (
                    omega (arith, g, h),
                    (
                      (omega (arith, x, wide), y),
                      within_append b.next own (a.equations ++ b.equations) wo (within_append b.next a.equations b.equations (within_more a.next b.next a.equations wide u.equations) v.equations),
                    ),
                  ),
                ),
              ),
            ),
          ),
        ),
      );
    } where
      pick : (t : Bool) (e d n : ℕ) → e < n → d < n → cond t e d < n
      pick true e d n x y = x
      pick false e d n x y = y

-- a copy like another, with wires of its own before it
inside_over : (n s i : ℕ) (es : List Equation) (a : Copy) → Inside i a → n ≤ i → s < i → Within a.next es → Inside n (record a { equations = es; status = s })
inside_over n s i es a u le lt h =
    let g = u.grows in
    record { grows = omega (arith, g); status = omega (arith, g); live = u.live; emits = u.emits; variables = u.variables; sets = u.sets; equations = h }

pub inside_trap : (c : Context) (a : Copy) → Inside (c.next + 1) a → Inside c.next (of_trap_copy c a)
inside_trap c a u =
    let g = u.grows in
    inside_over c.next c.next (c.next + 1) (of_trap_copy c a).equations a u (omega arith) (omega arith) (omega (arith, g), (u.status, u.equations))

pub inside_weak : (t : Test) (c : Context) (a : Copy) → Outside c → Inside (c.next + 5) a → Inside c.next (weak_copy t c a)
inside_weak t c a o u =
    let g = u.grows in
    let k = o.keep in
    let d = o.hold in
    inside_over c.next (c.next + 3) (c.next + 5) (weak_copy t c a).equations a u (omega arith) (omega arith) (
      omega (arith, g),
      (
        (omega (arith, g, k), omega (arith, g)),
        (
          omega (arith, g),
          (
            wires_more c.next a.next c.wires (omega (arith, g)) o.wires,
            (
              omega (arith, g),
              (
                (omega (arith, g, d), omega (arith, g)),
                (
                  omega (arith, g),
                  (
                    (omega (arith, g), u.status),
                    (omega (arith, g), (omega (arith, g), u.equations)),
                  ),
                ),
              ),
            ),
          ),
        ),
      ),
    )

pub inside_tested : (t : Test) (live code : ℕ) (c : Context) (a : Copy) → Outside c → Inside (c.next + 7) a → live < a.next → Inside c.next (tested_copy t live code c a)
inside_tested t live code c a o u l =
    let g = u.grows in
    let k = o.go in
    let d = o.hold in
    inside_over c.next (c.next + 4) (c.next + 7) (tested_copy t live code c a).equations a u (omega arith) (omega arith) (
      omega (arith, g),
      (
        wires_more c.next a.next c.wires (omega (arith, g)) o.wires,
        (
          omega (arith, g),
          (
            (omega (arith, g, k), omega (arith, g)),
            (
              omega (arith, g),
              (
                (omega (arith, g, k), omega (arith, g)),
                (
                  omega (arith, g),
                  (
                    (omega (arith, g), l),
                    (
                      omega (arith, g),
                      (
                        (omega (arith, g), omega (arith, g), u.status),
                        (
                          omega (arith, g),
                          (
                            (omega (arith, g, d), omega (arith, g)),
                            (omega (arith, g), (tt, u.equations)),
                          ),
                        ),
                      ),
                    ),
                  ),
                ),
              ),
            ),
          ),
        ),
      ),
    )

-- the wires of a fold
pub record FoldInside (limit : ℕ) (r : Folded) : Type 0 where
  pub some : r.some < limit
  pub value : r.value < limit
  pub equations : Within limit r.equations

fold_case : (info : SignalInfo) (n some value limit : ℕ) (e : Emits) (b : Bool) (r q : Folded) → e.condition < n → e.value < n → some < n → value < n
    → (n + 3 + length r.equations ≤ limit → FoldInside limit r) → (n + length q.equations ≤ limit → FoldInside limit q)
    → n + length (cond b (fold_step info n some value e r) q).equations ≤ limit → FoldInside limit (cond b (fold_step info n some value e r) q)
fold_case info n some value limit e true r q x y u v here there le =
    let z = here (omega arith) in
    record {
      some = z.some;
      value = z.value;
      equations = (
        omega arith,
        (
          (omega arith, omega arith, omega arith),
          (
            omega arith,
            (
              (omega arith, omega arith, omega arith),
              (omega arith, ((omega arith, omega arith), z.equations)),
            ),
          ),
        ),
      );
    }
fold_case info n some value limit e false r q x y u v here there le = there le

pub fold_inside : (info : SignalInfo) (s n some value limit : ℕ) (es : List Emits) → EmitsBelow n es → some < n → value < n → n + length (fold_emits info s n some value es).equations ≤ limit → FoldInside limit (fold_emits info s n some value es)
fold_inside info s n some value limit [] h u v le = record { some = omega arith; value = omega arith; equations = tt }
fold_inside info s n some value limit (e ∷ es) h u v le =
    fold_case info n some value limit e (e.signal == s) (fold_emits info s (n + 3) (n + 2) (n + 1) es) (fold_emits info s n some value es) h.0 h.1.0 u v
    (λ i. fold_inside info s (n + 3) (n + 2) (n + 1) limit es (emits_more n (n + 3) es (omega arith) h.1.1) (omega arith) (omega arith) i)
    (λ i. fold_inside info s n some value limit es h.1.1 u v i) le

without_below : (n s : ℕ) (es : List Emits) → EmitsBelow n es → EmitsBelow n (emits_without s es)
without_below n s [] h = tt
without_below n s (e ∷ es) h = pick n e (emits_without s es) (e.signal == s) h.0 h.1.0 (without_below n s es h.1.1) where
  pick : (n : ℕ) (e : Emits) (es : List Emits) (b : Bool) → e.condition < n → e.value < n → EmitsBelow n es → EmitsBelow n (cond b es (e ∷ es))
  pick n e es true x y z = z
  pick n e es false x y z = (x, (y, z))

pub inside_local : (tables : Tables) (s : ℕ) (last : Formula) (c : Context) (a : Copy) → Outside c → Inside (c.next + 6) a → ((m : ℕ) → Reads m last) → Inside c.next (local_copy tables s last c a)
inside_local tables s last c a o u reads =
    let n = c.next in
    let g = u.grows in
    let x = u.status in
    let k = o.keep in
    let d = o.hold in
    let r = fold_emits (fold_info tables s) s a.next 0 (n + 2) a.emits in
    let m = a.next + length r.equations in
    let z = fold_inside (fold_info tables s) s a.next 0 (n + 2) m a.emits u.emits (omega (arith, g)) (omega (arith, g)) (omega arith) in
    let wide : a.next ≤ m = omega arith in
    let y = z.some in
    let v = z.value in
    let edge = c.register + own_registers tables s in
    record {
      grows = omega (arith, g);
      status = omega (arith, x);
      live = let b = u.live in omega (arith, b);
      emits = emits_more a.next m (emits_without s a.emits) wide (without_below a.next s a.emits u.emits);
      variables = λ e. let b = u.variables e in omega (arith, b);
      sets = λ i. sets_append m (below edge (λ j. record { condition = n + 4; value = n + 1 } ∷ record { condition = n + 5; value = n + 2 } ∷ []) i) (from edge a.sets i)
          (sets_if m (nat_lt i edge) _ [] (omega (arith, g), (omega (arith, g), (omega (arith, g), (omega (arith, g), tt)))) tt) (sets_if m (nat_lt i edge) [] (a.sets i) tt (sets_more a.next m (a.sets i) wide (u.sets i)));
      equations = (
        omega (arith, g),
        (
          y,
          (
            omega (arith, g),
            (
              v,
              (
                omega (arith, g),
                (
                  reads m,
                  (
                    omega (arith, g),
                    (
                      omega (arith, x),
                      (
                        omega (arith, g),
                        (
                          (omega (arith, g, k), omega (arith, g)),
                          (
                            omega (arith, g),
                            (
                              (omega (arith, g, k), omega (arith, g, d)),
                              within_append m r.equations a.equations z.equations (within_more a.next m a.equations wide u.equations),
                            ),
                          ),
                        ),
                      ),
                    ),
                  ),
                ),
              ),
            ),
          ),
        ),
      );
    }

pub inside_plain : (code k : ℕ) (es : List Equation) (ms : List Emits) (vs : ℕ → ℕ) (S : ℕ → List Sets) (c : Context) → Outside c → 0 < k → EmitsBelow (c.next + k) ms → ((x : ℕ) → vs x < c.next + k) → ((i : ℕ) → SetsBelow (c.next + k) (S i)) → Within (c.next + k) es
    → Inside c.next (record { equations = es; status = c.next; live = 0; emits = ms; variables = vs; sets = S; next = c.next + k })
inside_plain code k es ms vs S c o lt m v s h =
    let z = o.some in
    record { grows = omega arith; status = omega (arith, lt); live = omega (arith, z); emits = m; variables = v; sets = s; equations = h }

pub emitted_reads : (n : ℕ) (e : Option Expression) (v : Wires) → WiresBelow n v → Reads n (emitted_value e v)
emitted_reads n None v h = tt
emitted_reads n (Some e) v h = h

pub start_inside : (tables : Tables) (p : Stmt) (c : Context) → Outside c → Inside c.next (start tables p c)
start_inside tables Nothing c o =
    let w = wires_more c.next (c.next + 1) c.wires (omega arith) o.wires in
    let g = o.go in
    inside_plain 0 1 (plain_copy 0 c).equations [] c.wires.variables none c o (omega arith) tt w.variables (λ i. tt) (omega arith, (omega (arith, g), tt))
start_inside tables Pause c o =
    let w = wires_more c.next (c.next + 2) c.wires (omega arith) o.wires in
    let g = o.go in
    let k = o.keep in
    inside_plain 1 2 (start tables Pause c).equations [] c.wires.variables (start tables Pause c).sets c o (omega arith) tt w.variables (λ i. (omega arith, (omega arith, tt)))
    (omega arith, (omega (arith, g), (omega arith, ((omega (arith, g), omega (arith, k)), tt))))
start_inside tables (Emit s e) c o =
    let w = wires_more c.next (c.next + 2) c.wires (omega arith) o.wires in
    let g = o.go in
    inside_plain 0 2 (start tables (Emit s e) c).equations (start tables (Emit s e) c).emits c.wires.variables none c o (omega arith) (omega (arith, g), (omega arith, tt)) w.variables (λ i. tt)
    (omega arith, (omega (arith, g), (omega arith, (emitted_reads (c.next + 2) e c.wires w, tt))))
start_inside tables (Assign y e) c o =
    let w = wires_more c.next (c.next + 3) c.wires (omega arith) o.wires in
    let g = o.go in
    inside_plain 0 3 (start tables (Assign y e) c).equations [] (put_at c.wires.variables y (c.next + 2)) none c o (omega arith) tt
    (put_below (c.next + 3) y (c.next + 2) c.wires.variables (omega arith) w.variables) (λ i. tt)
    (omega arith, (omega (arith, g), (omega arith, (w, (omega arith, ((omega (arith, g), omega arith, w.variables y), tt))))))
start_inside tables (If e p q) c o =
    let n = c.next in
    let m = c.register + registers tables p in
    let a = start tables p (part_context (n + 3) 5 c) in
    let d = other_context (n + 4) m a c in
    let b = start tables q d in
    let u = start_inside tables p (part_context (n + 3) 5 c) (outside_part (n + 3) 5 c o (omega arith)) in
    let g = u.grows in
    let v = start_inside tables q d (outside_other (n + 4) m (n + 5) a c o u (omega arith) (omega (arith, g))) in
    let h = v.grows in
    let s = o.some in
    let k = o.go in
    inside_choice (writes0 p) (writes0 q) (n + 4) n 0 m (n + 5) a.next (choice_own (Value e c.wires) c) a b u v (omega arith) (omega arith) (omega (arith, s, g, h))
    (omega (arith, g, h), (wires_more n b.next c.wires (omega (arith, g, h)) o.wires, (omega (arith, g, h), ((omega (arith, g, h, k), omega (arith, g, h)), (omega (arith, g, h), ((omega (arith, g, h, k), omega (arith, g, h)), tt)))))) (omega (arith, g, h))
start_inside tables (Present t p q) c o =
    let n = c.next in
    let m = c.register + registers tables p in
    let a = start tables p (part_context (n + 3) 5 c) in
    let d = other_context (n + 4) m a c in
    let b = start tables q d in
    let u = start_inside tables p (part_context (n + 3) 5 c) (outside_part (n + 3) 5 c o (omega arith)) in
    let g = u.grows in
    let v = start_inside tables q d (outside_other (n + 4) m (n + 5) a c o u (omega arith) (omega (arith, g))) in
    let h = v.grows in
    let s = o.some in
    let k = o.go in
    inside_choice (writes0 p) (writes0 q) (n + 4) n 0 m (n + 5) a.next (choice_own (Holds t c.wires) c) a b u v (omega arith) (omega arith) (omega (arith, s, g, h))
    (omega (arith, g, h), (wires_more n b.next c.wires (omega (arith, g, h)) o.wires, (omega (arith, g, h), ((omega (arith, g, h, k), omega (arith, g, h)), (omega (arith, g, h), ((omega (arith, g, h, k), omega (arith, g, h)), tt)))))) (omega (arith, g, h))
start_inside tables (Seq p q) c o =
    let n = c.next in
    let m = c.register + registers tables p in
    let a = start tables p (part_context c.go 3 c) in
    let d = start_context (n + 2) m a c in
    let b = starting_if (ends0 p) (start tables q d) d in
    let k = o.go in
    let u = start_inside tables p (part_context c.go 3 c) (outside_part c.go 3 c o (omega (arith, k))) in
    let g = u.grows in
    let x = u.status in
    let out = outside_start (n + 2) m (n + 3) a c o u (omega arith) (omega (arith, g)) in
    let v = inside_if (ends0 p) (start tables q d) d out (start_inside tables q d out) in
    let h = v.grows in
    let s = o.some in
    inside_pair n 0 m (n + 3) a.next (turn_own (n + 2) a) a b u v (omega arith) (omega arith) (omega (arith, s, g, h)) (omega (arith, g, h), (omega (arith, x, h), tt))
start_inside tables (Loop p) c o = start_inside tables p c o
start_inside tables (Par p q) c o =
    let n = c.next in
    let i = o.go in
    let j = o.hold in
    let a = start tables p (branch_context c) in
    let u = start_inside tables p (branch_context c) (outside_with c.go c.hold n 5 c.register c o (omega (arith, i)) (omega (arith, j)) (omega arith)) in
    let g = u.grows in
    let s = o.some in
    let b = start tables q (second_branch tables p c a) in
    let w = wires_more n a.next c.wires (omega (arith, g)) o.wires in
    let v = start_inside tables q (second_branch tables p c a) (record { some = omega (arith, g); go = omega (arith, g, i); hold = omega (arith, g, j); keep = omega (arith, g); wires = w }) in
    let h = v.grows in
    inside_beside tables p 0 [] (n + 5) a.next c a b o u v refl refl (omega (arith, s, g, h)) tt
start_inside tables (Trap p) c o = let g = o.go in inside_trap c (start tables p (part_context c.go 1 c)) (start_inside tables p (part_context c.go 1 c) (outside_part c.go 1 c o (omega (arith, g))))
start_inside tables (Exit d) c o =
    let w = wires_more c.next (c.next + 1) c.wires (omega arith) o.wires in
    let g = o.go in
    inside_plain 0 1 (plain_copy (suc (suc d)) c).equations [] c.wires.variables none c o (omega arith) tt w.variables (λ i. tt) (omega arith, (omega (arith, g), tt))
start_inside tables (Abort weak false t p) c o = start_inside tables p c o
start_inside tables (Abort true true t p) c o =
    let i = o.go in
    let j = o.hold in
    inside_weak t c (start tables p (weak_context c)) o (start_inside tables p (weak_context c) (outside_with c.go c.hold c.next 5 c.register c o (omega (arith, i)) (omega (arith, j)) (omega arith)))
start_inside tables (Abort false true t p) c o =
    let i = o.go in
    let j = o.hold in
    let k = o.keep in
    let u = start_inside tables p (tested_context c) (outside_with (c.next + 1) c.hold c.keep 7 c.register c o (omega arith) (omega (arith, j)) (omega (arith, k))) in
    let g = u.grows in
    inside_tested t c.go 0 c (start tables p (tested_context c)) o u (omega (arith, g, i))
start_inside tables (Suspend armed t p) c o = start_inside tables p c o
start_inside tables (Local s v p) c o = inside_local tables s (first_formula (signal_at tables s).kind) c (start tables p (local_context tables s c)) o (start_inside tables p (local_context tables s c) (outside_local tables s c o)) (λ m. first_reads m (signal_at tables s).kind)
start_inside tables (Send ch e) c o =
    let w = wires_more c.next (c.next + 3) c.wires (omega arith) o.wires in
    let g = o.go in
    let k = o.keep in
    let n = c.next in
    inside_plain 1 3 (start tables (Send ch e) c).equations [] c.wires.variables (start tables (Send ch e) c).sets c o (omega arith) tt w.variables
    (λ i. sets_if (n + 3) (i == c.register) _ _ (omega arith, (omega arith, tt)) (sets_if (n + 3) (i == c.register + 1) [] _ tt (omega arith, (omega arith, tt))))
    (omega arith, (omega (arith, g), (omega arith, ((omega (arith, g), omega (arith, k)), (omega arith, (w, tt))))))
start_inside tables (Receive ch) c o =
    let w = wires_more c.next (c.next + 2) c.wires (omega arith) o.wires in
    let g = o.go in
    let k = o.keep in
    inside_plain 1 2 (start tables (Receive ch) c).equations [] c.wires.variables (start tables (Receive ch) c).sets c o (omega arith) tt w.variables
    (λ i. sets_if (c.next + 2) (i == c.register) _ [] (omega arith, (omega arith, tt)) tt)
    (omega arith, (omega (arith, g), (omega arith, ((omega (arith, g), omega (arith, k)), tt))))
start_inside tables (SendWaits ch v) c o = inside_nothing c o
start_inside tables (Sent ch) c o = inside_nothing c o
start_inside tables (ReceiveWaits ch) c o = inside_nothing c o
start_inside tables (Received ch) c o = inside_nothing c o
