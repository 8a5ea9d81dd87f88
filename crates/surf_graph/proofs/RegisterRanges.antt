-- What registers stand for is told by those of the statement alone.
use Rattle.std.proofs.Common.{◌≡◌, ℕ, ◌+◌, ◌<◌, ◌≤◌, ℤ, pos, Bool, true, false, ◌&&◌, ◌||◌, cond, List, [], ◌∷◌, ◌++◌, length, refl, sym, ap, ap₂, ◌∙◌, arith, length-append, Option, Some, None}
use Rattle.java_values.specs.declared.kind.Kind.{Kind}
use Rattle.java_values.specs.Arithmetic.{is_true}
use Rattle.kernel_terms.specs.declared.tables.Tables.{Tables}
use Rattle.kernel_terms.specs.TableEntries.{signal_at}
use Rattle.java_values.specs.declared.kind.Kind.TheVariants as kind
use Rattle.kernel_terms.specs.Expressions.{Expression, Test, Literal}
use Rattle.kernel_terms.specs.Statements.{Stmt, Nothing, Pause, Emit, Assign, If, Present, Seq, Loop, Par, Trap, Exit, Abort, Suspend, Local, Send, Receive, SendWaits, Sent, ReceiveWaits, Received}
use Rattle.kernel_terms.specs.MayEnd.{ends0, ends1}
use Rattle.kernel_rules.specs.definitions.Registers.{registers, statement_registers, value_kinds, live, residual, last_value, LivesApart, AtMostOne, OverOrLive}
use Rattle.surf_graph.specs.definitions.Tells.{Remain, Stands}

-- f and r agree on m registers from n on
pub record Agree (n m : ℕ) (f r : ℕ → ℤ) : Type 0 where
  pub at : (k : ℕ) → n ≤ k → k < n + m → f k ≡ r k

pub first_half : (n : ℕ) (xs ys : List Kind) (f r : ℕ → ℤ) → Agree n (length (xs ++ ys)) f r → Agree n (length xs) f r
first_half n xs ys f r h = let e = length-append xs ys in record { at = λ k ge lt. h.at k ge (omega (arith, e)) }

pub second_half : (n : ℕ) (xs ys : List Kind) (f r : ℕ → ℤ) → Agree n (length (xs ++ ys)) f r → Agree (n + length xs) (length ys) f r
second_half n xs ys f r h = let e = length-append xs ys in record { at = λ k ge lt. h.at k (omega arith) (omega (arith, e)) }

nothing_remains : (f : ℕ → ℤ) → Unit {0}
nothing_remains f = tt

two_apart : (a b c d : Bool) → a ≡ c → b ≡ d → AtMostOne a b → AtMostOne c d
two_apart a b c d e g h = ap₂ (λ x y. x && y) (sym e) (sym g) ∙ h

still_over : (p : Stmt) (a b : Bool) → a ≡ b → OverOrLive a p → OverOrLive b p
still_over p a b e h = ap (λ x. x || (ends0 p || ends1 p)) (sym e) ∙ h

last_agrees : (k : Option Kind) (n : ℕ) (ys : List Kind) (f r : ℕ → ℤ) → Agree n (length (value_kinds k ++ ys)) f r → last_value k n f ≡ last_value k n r
last_agrees None n ys f r h = refl
last_agrees (Some k) n ys f r h = let e = length-append (k ∷ []) ys in h.at n (omega arith) (omega (arith, e))

pub remain_If : (tables : Tables) (e : Expression) (p q : Stmt) (n : ℕ) (f r : ℕ → ℤ) → Remain tables p n f r → Remain tables q (n + registers tables p) f r → Remain tables (If e p q) n f r
remain_If tables e p q n f r a b =
    record {
      live = ap₂ (λ x y. x || y) a.live b.live;
      residual = ap (λ x. cond x (residual tables p n f) (residual tables q (n + registers tables p) f)) a.live ∙ ap₂ (λ x y. cond (live tables p n r) x y) a.residual b.residual;
      apart = λ z. (two_apart _ _ _ _ a.live b.live z.0, a.apart z.1, b.apart z.2);
    }

pub remain_Seq : (tables : Tables) (p q : Stmt) (n : ℕ) (f r : ℕ → ℤ) → Remain tables p n f r → Remain tables q (n + registers tables p) f r → Remain tables (Seq p q) n f r
remain_Seq tables p q n f r a b =
    record {
      live = ap₂ (λ x y. x || y) a.live b.live;
      residual = ap (λ x. cond x (Seq (residual tables p n f) q) (residual tables q (n + registers tables p) f)) a.live ∙ ap₂ (λ x y. cond (live tables p n r) (Seq x q) y) a.residual b.residual;
      apart = λ z. (two_apart _ _ _ _ a.live b.live z.0, a.apart z.1, b.apart z.2);
    }

pub remain_Par : (tables : Tables) (p q : Stmt) (n : ℕ) (f r : ℕ → ℤ) → Remain tables p n f r → Remain tables q (n + registers tables p) f r → Remain tables (Par p q) n f r
remain_Par tables p q n f r a b =
    let m = n + registers tables p in
    let l : live tables (Par p q) n f ≡ live tables (Par p q) n r = ap₂ (λ x y. x || y) a.live b.live in
    record {
      live = l;
      residual =
          ap₂ (λ x y. Par (cond x (residual tables p n f) Nothing) (cond y (residual tables q m f) Nothing)) a.live b.live
          ∙ ap₂ (λ x y. Par (cond (live tables p n r) x Nothing) (cond (live tables q m r) y Nothing)) a.residual b.residual;
      apart = λ z. (λ v. let o = z.0 (l ∙ v) in (still_over p _ _ a.live o.0, still_over q _ _ b.live o.1), a.apart z.1, b.apart z.2);
    }

pub remain_Local : (tables : Tables) (s : ℕ) (v : ℤ) (p : Stmt) (n : ℕ) (f r : ℕ → ℤ) → last_value (signal_at tables s).kind n f ≡ last_value (signal_at tables s).kind n r → Remain tables p (n + length (value_kinds (signal_at tables s).kind)) f r → Remain tables (Local s v p) n f r
remain_Local tables s v p n f r e a = record { live = a.live; residual = ap₂ (λ x y. Local s x y) e a.residual; apart = a.apart }

pub remain_Loop : (tables : Tables) (p : Stmt) (n : ℕ) (f r : ℕ → ℤ) → Remain tables p n f r → Remain tables (Loop p) n f r
remain_Loop tables p n f r a = record { live = a.live; residual = ap (λ x. Seq x (Loop p)) a.residual; apart = a.apart }

pub remain_Trap : (tables : Tables) (p : Stmt) (n : ℕ) (f r : ℕ → ℤ) → Remain tables p n f r → Remain tables (Trap p) n f r
remain_Trap tables p n f r a = record { live = a.live; residual = ap Trap a.residual; apart = a.apart }

pub remain_Abort : (tables : Tables) (weak armed : Bool) (t : Test) (p : Stmt) (n : ℕ) (f r : ℕ → ℤ) → Remain tables p n f r → Remain tables (Abort weak armed t p) n f r
remain_Abort tables weak armed t p n f r a = record { live = a.live; residual = ap (λ x. Abort weak true t x) a.residual; apart = a.apart }

pub remain_Suspend : (tables : Tables) (armed : Bool) (t : Test) (p : Stmt) (n : ℕ) (f r : ℕ → ℤ) → Remain tables p n f r → Remain tables (Suspend armed t p) n f r
remain_Suspend tables armed t p n f r a = record { live = a.live; residual = ap (λ x. Suspend true t x) a.residual; apart = a.apart }

pub remain : (tables : Tables) (p : Stmt) (n : ℕ) (f r : ℕ → ℤ) → Agree n (registers tables p) f r → Remain tables p n f r
remain tables Nothing n f r h = record { live = refl; residual = refl; apart = λ z. z }
remain tables Pause n f r h = record { live = ap is_true (h.at n (omega arith) (omega arith)); residual = refl; apart = λ z. z }
remain tables (Emit s e) n f r h = record { live = refl; residual = refl; apart = λ z. z }
remain tables (Assign y e) n f r h = record { live = refl; residual = refl; apart = λ z. z }
remain tables (If e p q) n f r h =
    remain_If tables e p q n f r (remain tables p n f r (first_half n (statement_registers tables p) (statement_registers tables q) f r h))
    (remain tables q (n + registers tables p) f r (second_half n (statement_registers tables p) (statement_registers tables q) f r h))
remain tables (Present t p q) n f r h =
    let i = remain_If tables (Literal kind.Int (pos 0)) p q n f r (remain tables p n f r (first_half n (statement_registers tables p) (statement_registers tables q) f r h))
    (remain tables q (n + registers tables p) f r (second_half n (statement_registers tables p) (statement_registers tables q) f r h)) in
    record { live = i.live; residual = i.residual; apart = i.apart }
remain tables (Seq p q) n f r h =
    remain_Seq tables p q n f r (remain tables p n f r (first_half n (statement_registers tables p) (statement_registers tables q) f r h))
    (remain tables q (n + registers tables p) f r (second_half n (statement_registers tables p) (statement_registers tables q) f r h))
remain tables (Loop p) n f r h = remain_Loop tables p n f r (remain tables p n f r h)
remain tables (Par p q) n f r h =
    remain_Par tables p q n f r (remain tables p n f r (first_half n (statement_registers tables p) (statement_registers tables q) f r h))
    (remain tables q (n + registers tables p) f r (second_half n (statement_registers tables p) (statement_registers tables q) f r h))
remain tables (Trap p) n f r h = remain_Trap tables p n f r (remain tables p n f r h)
remain tables (Exit d) n f r h = record { live = refl; residual = refl; apart = λ z. z }
remain tables (Abort weak armed t p) n f r h = remain_Abort tables weak armed t p n f r (remain tables p n f r h)
remain tables (Suspend armed t p) n f r h = remain_Suspend tables armed t p n f r (remain tables p n f r h)
remain tables (Local s v p) n f r h =
    let k = (signal_at tables s).kind in
    remain_Local tables s v p n f r (last_agrees k n (statement_registers tables p) f r h) (remain tables p (n + length (value_kinds k)) f r (second_half n (value_kinds k) (statement_registers tables p) f r h))
remain tables (Send c e) n f r h =
    record {
      live = ap is_true (h.at n (omega arith) (omega arith));
      residual = ap₂ (λ x y. cond (is_true x) (Sent c) (SendWaits c y)) (h.at (n + 1) (omega arith) (omega arith)) (h.at (n + 2) (omega arith) (omega arith));
      apart = λ z. z;
    }
remain tables (Receive c) n f r h =
    record {
      live = ap is_true (h.at n (omega arith) (omega arith));
      residual = ap (λ x. cond (is_true x) (Received c) (ReceiveWaits c)) (h.at (n + 1) (omega arith) (omega arith));
      apart = λ z. z;
    }
remain tables (SendWaits c v) n f r h = record { live = refl; residual = refl; apart = λ z. z }
remain tables (Sent c) n f r h = record { live = refl; residual = refl; apart = λ z. z }
remain tables (ReceiveWaits c) n f r h = record { live = refl; residual = refl; apart = λ z. z }
remain tables (Received c) n f r h = record { live = refl; residual = refl; apart = λ z. z }

-- registers that remain, and others that agree with them
pub remains_still : (tables : Tables) (p : Stmt) (n : ℕ) (f g r : ℕ → ℤ) → Remain tables p n f g → Agree n (registers tables p) g r → Remain tables p n f r
remains_still tables p n f g r h k =
    let e = remain tables p n g r k in
    record { live = h.live ∙ e.live; residual = h.residual ∙ e.residual; apart = λ z. e.apart (h.apart z) }

pub stands_still : (tables : Tables) (p : Stmt) (n : ℕ) (f r : ℕ → ℤ) (t : Stmt) → Remain tables p n f r → Stands tables p n f t → Stands tables p n r t
stands_still tables p n f r t h s = record { fits = record { is_live = sym h.live ∙ (s.fits).is_live; apart = h.apart (s.fits).apart }; residual = sym h.residual ∙ s.residual }

-- no part is live
pub record Dead (tables : Tables) (p : Stmt) (n : ℕ) (r : ℕ → ℤ) : Type 0 where
  pub live : live tables p n r ≡ false
  pub apart : LivesApart tables p n r

pub none_live : (a b : Bool) → a ≡ false → b ≡ false → a || b ≡ false
none_live a b h k = ap₂ (λ x y. x || y) h k

pub first_dead : (a b : Bool) → a ≡ false → AtMostOne a b
first_dead a b h = ap (λ x. x && b) h

pub second_dead : (a b : Bool) → b ≡ false → AtMostOne a b
second_dead true b h = h
second_dead false b h = refl

pub both_apart : (tables : Tables) (p q : Stmt) (n : ℕ) (r : ℕ → ℤ) → live tables (Par p q) n r ≡ false → live tables (Par p q) n r ≡ true → OverOrLive (live tables p n r) p × OverOrLive (live tables q (n + registers tables p) r) q
both_apart tables p q n r h k = cc

pub dead : (tables : Tables) (p : Stmt) (n : ℕ) (r : ℕ → ℤ) → Agree n (registers tables p) r (λ k. pos 0) → Dead tables p n r
dead tables Nothing n r h = record { live = refl; apart = tt }
dead tables Pause n r h = record { live = ap is_true (h.at n (omega arith) (omega arith)); apart = tt }
dead tables (Emit s e) n r h = record { live = refl; apart = tt }
dead tables (Assign y e) n r h = record { live = refl; apart = tt }
dead tables (If e p q) n r h =
    let a = dead tables p n r (first_half n (statement_registers tables p) (statement_registers tables q) r (λ k. pos 0) h) in
    let b = dead tables q (n + registers tables p) r (second_half n (statement_registers tables p) (statement_registers tables q) r (λ k. pos 0) h) in
    record { live = none_live _ _ a.live b.live; apart = (first_dead _ _ a.live, a.apart, b.apart) }
dead tables (Present t p q) n r h =
    let a = dead tables p n r (first_half n (statement_registers tables p) (statement_registers tables q) r (λ k. pos 0) h) in
    let b = dead tables q (n + registers tables p) r (second_half n (statement_registers tables p) (statement_registers tables q) r (λ k. pos 0) h) in
    record { live = none_live _ _ a.live b.live; apart = (first_dead _ _ a.live, a.apart, b.apart) }
dead tables (Seq p q) n r h =
    let a = dead tables p n r (first_half n (statement_registers tables p) (statement_registers tables q) r (λ k. pos 0) h) in
    let b = dead tables q (n + registers tables p) r (second_half n (statement_registers tables p) (statement_registers tables q) r (λ k. pos 0) h) in
    record { live = none_live _ _ a.live b.live; apart = (first_dead _ _ a.live, a.apart, b.apart) }
dead tables (Loop p) n r h = let a = dead tables p n r h in record { live = a.live; apart = a.apart }
dead tables (Par p q) n r h =
    let a = dead tables p n r (first_half n (statement_registers tables p) (statement_registers tables q) r (λ k. pos 0) h) in
    let b = dead tables q (n + registers tables p) r (second_half n (statement_registers tables p) (statement_registers tables q) r (λ k. pos 0) h) in
    let l = none_live _ _ a.live b.live in
    record { live = l; apart = (both_apart tables p q n r l, a.apart, b.apart) }
dead tables (Trap p) n r h = let a = dead tables p n r h in record { live = a.live; apart = a.apart }
dead tables (Exit d) n r h = record { live = refl; apart = tt }
dead tables (Abort weak armed t p) n r h = let a = dead tables p n r h in record { live = a.live; apart = a.apart }
dead tables (Suspend armed t p) n r h = let a = dead tables p n r h in record { live = a.live; apart = a.apart }
dead tables (Local s v p) n r h =
    let k = (signal_at tables s).kind in
    let a = dead tables p (n + length (value_kinds k)) r (second_half n (value_kinds k) (statement_registers tables p) r (λ i. pos 0) h) in
    record { live = a.live; apart = a.apart }
dead tables (Send c e) n r h = record { live = ap is_true (h.at n (omega arith) (omega arith)); apart = tt }
dead tables (Receive c) n r h = record { live = ap is_true (h.at n (omega arith) (omega arith)); apart = tt }
dead tables (SendWaits c v) n r h = record { live = refl; apart = tt }
dead tables (Sent c) n r h = record { live = refl; apart = tt }
dead tables (ReceiveWaits c) n r h = record { live = refl; apart = tt }
dead tables (Received c) n r h = record { live = refl; apart = tt }
