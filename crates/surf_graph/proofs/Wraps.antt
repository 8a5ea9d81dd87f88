-- Statements round one part: a trap, an abort, a suspend.
use Rattle.std.proofs.Common.{◌≡◌, ℕ, suc, ◌+◌, ◌-◌, ◌==◌, ℤ, pos, Bool, true, false, ◌&&◌, ◌||◌, not, cond, List, [], refl, sym, ap, ap₂, ◌∙◌, subst, arith}
use Rattle.std.proofs.lemmas.Bool.Decides.{nat_tests}
use Rattle.kernel_terms.specs.declared.tables.Tables.{Tables}
use Rattle.kernel_terms.specs.Expressions.{Test}
use Rattle.kernel_terms.specs.Statements.{Stmt, Nothing, Trap, Abort, Suspend}
use Rattle.kernel_rules.specs.definitions.Signals.{Env}
use Rattle.kernel_rules.specs.definitions.Expressions.{holds}
use Rattle.kernel_rules.specs.definitions.TickRule.{Tick, Ticks, has_exited, has_paused, exit_code, Chosen, Aborts, as_whole, ends_with, quiet, code_of_trap, code_of_weak_abort}
use Rattle.kernel_rules.specs.definitions.Registers.{live, residual, LivesApart}
use Rattle.surf_graph.proofs.Booleans.{left_of}
use Rattle.surf_graph.specs.definitions.Formulas.{Equation, is_on, of_trap, of_weak_abort}
use Rattle.surf_graph.specs.definitions.Copies.{Copy, Context, of_trap_copy, weak_copy, tested_copy}
use Rattle.surf_graph.specs.definitions.Tells.{registers_set, Stands, Tells, Active, Quiet, Silent, Held}
use Rattle.surf_graph.proofs.RegisterRanges.{remain_Abort, stands_still}
use Rattle.surf_graph.proofs.Leavings.{left_whole}
use Rattle.surf_graph.proofs.Parts.{by_cases}
use Rattle.surf_graph.proofs.Beside.{Keeps, kept, kept_held, and_off}

pub trap_status : (code : ℕ) → of_trap (pos (suc code)) ≡ pos (suc (code_of_trap code))
trap_status code = refl

pub trap_pauses : (code : ℕ) → (code_of_trap code == 1) ≡ (code == 1)
trap_pauses code = by_tests (code == exit_code 0) (has_exited code) refl refl
  where
    by_tests : (own out : Bool) → (code == exit_code 0) ≡ own → has_exited code ≡ out → (cond own 0 (cond out (code - 1) code) == 1) ≡ (code == 1)
    by_tests true out e f = grind (arith, nat_tests)
    by_tests false true e f = grind (arith, nat_tests)
    by_tests false false e f = refl

pub trap_stands : (tables : Tables) (p s : Stmt) (n : ℕ) (r : ℕ → ℤ) → Stands tables p n r s → Stands tables (Trap p) n r (Trap s)
trap_stands tables p s n r h = record { fits = record { is_live = (h.fits).is_live; apart = (h.fits).apart }; residual = ap Trap h.residual }

pub abort_stands : (tables : Tables) (weak armed : Bool) (t : Test) (p s : Stmt) (n : ℕ) (r : ℕ → ℤ) → Stands tables p n r s → Stands tables (Abort weak armed t p) n r (Abort weak true t s)
abort_stands tables weak armed t p s n r h = record { fits = record { is_live = (h.fits).is_live; apart = (h.fits).apart }; residual = ap (λ z. Abort weak true t z) h.residual }

pub suspend_stands : (tables : Tables) (armed : Bool) (t : Test) (p s : Stmt) (n : ℕ) (r : ℕ → ℤ) → Stands tables p n r s → Stands tables (Suspend armed t p) n r (Suspend true t s)
suspend_stands tables armed t p s n r h = record { fits = record { is_live = (h.fits).is_live; apart = (h.fits).apart }; residual = ap (λ z. Suspend true t z) h.residual }

abbrev pub trap_active : (tables : Tables) (last : ℕ → ℤ) (env : Env) (x w : ℕ → ℤ) (p t : Stmt) (c : Context) (a : Copy)
    → w c.next ≡ of_trap (w a.status) → Active tables last env x w p t c.register c.keep a → Active tables last env x w (Trap p) (Trap t) c.register c.keep (of_trap_copy c a)
trap_active tables last env x w p t c a h u =
    let o = u.tick in
    let y = u.tells in
    let same : (code_of_trap o.code == 1) && is_on w c.keep ≡ (o.code == 1) && is_on w c.keep = ap (λ b. b && is_on w c.keep) (trap_pauses o.code) in
    record {
      tick = as_whole (code_of_trap o.code) (Trap o.rest) o;
      ticks = (o, u.ticks, refl);
      tells = record {
        status = h ∙ ap of_trap y.status ∙ trap_status o.code;
        emits = y.emits;
        variables = y.variables;
        pure = y.pure;
        sets = λ e.
            subst (λ l. Stands tables (Trap p) c.register (registers_set w a.sets) l) (sym (left_whole (code_of_trap o.code) (Trap o.rest) (left_of (code_of_trap o.code == 1) (is_on w c.keep) e)))
            (trap_stands tables p o.rest c.register (registers_set w a.sets) (y.sets (sym same ∙ e)));
        unset = λ e. y.unset (sym same ∙ e);
      };
    }

swap_keeps : (b i k : Bool) → i && b ≡ k && b → b && i ≡ b && k
swap_keeps true true true e = refl
swap_keeps true true false e = e
swap_keeps true false true e = e
swap_keeps true false false e = refl
swap_keeps false i k e = refl

-- of a part of which the whole has the code and the copy's wires
pub whole_tells : (tables : Tables) (w : ℕ → ℤ) (p P : Stmt) (W : Stmt → Stmt) (n keep inner s : ℕ) (a : Copy) (o : Tick)
    → w s ≡ w a.status → Tells tables w p n inner a o
    → is_on w inner && (o.code == 1) ≡ is_on w keep && (o.code == 1)
    → ((z : Stmt) → Stands tables p n (registers_set w a.sets) z → Stands tables P n (registers_set w a.sets) (W z))
    → (es : List Equation) → Tells tables w P n keep (record a { equations = es; status = s }) (as_whole o.code (W o.rest) o)
whole_tells tables w p P W n keep inner s a o h y keeps stands es =
    let same : (o.code == 1) && is_on w inner ≡ (o.code == 1) && is_on w keep = swap_keeps (o.code == 1) (is_on w inner) (is_on w keep) keeps in
    record {
      status = h ∙ y.status;
      emits = y.emits;
      variables = y.variables;
      pure = y.pure;
      sets = λ e.
          subst (λ l. Stands tables P n (registers_set w a.sets) l) (sym (left_whole o.code (W o.rest) (left_of (o.code == 1) (is_on w keep) e)))
          (stands o.rest (y.sets (same ∙ e)));
      unset = λ e. y.unset (same ∙ e);
    }

abbrev pub whole_active : (tables : Tables) (last : ℕ → ℤ) (env : Env) (x w : ℕ → ℤ) (p t P T : Stmt) (W : Stmt → Stmt) (n keep inner s : ℕ) (a : Copy)
    → w s ≡ w a.status → (u : Active tables last env x w p t n inner a)
    → is_on w inner && ((u.tick).code == 1) ≡ is_on w keep && ((u.tick).code == 1)
    → ((o : Tick) → Ticks tables last t env x o → Ticks tables last T env x (as_whole o.code (W o.rest) o))
    → ((z : Stmt) → Stands tables p n (registers_set w a.sets) z → Stands tables P n (registers_set w a.sets) (W z))
    → (es : List Equation) → Active tables last env x w P T n keep (record a { equations = es; status = s })
whole_active tables last env x w p t P T W n keep inner s a h u keeps goes stands es =
    let o = u.tick in
    record { tick = as_whole o.code (W o.rest) o; ticks = goes o u.ticks; tells = whole_tells tables w p P W n keep inner s a o h u.tells keeps stands es }

pub weak_status : (code : ℕ) → of_weak_abort (pos (suc code)) ≡ pos (suc (code_of_weak_abort code))
weak_status code = refl

pub weak_goes_on : (code : ℕ) → (code_of_weak_abort code == 1) ≡ false
weak_goes_on code = by_cases (has_paused code) (λ e. ap (λ b. cond b 0 code == 1) e) (λ e. ap (λ b. cond b 0 code == 1) e ∙ e)

-- A weak abort that looks at its test, which holds.
pub weak_stops : (tables : Tables) (w : ℕ → ℤ) (env : Env) (armed : Bool) (test : Test) (p : Stmt) (c : Context) (a : Copy) (o : Tick)
    → is_on w (c.next + 1) ≡ holds env test → w (c.next + 3) ≡ cond (is_on w (c.next + 1)) (of_weak_abort (w a.status)) (w a.status)
    → Keeps w c.next c.keep c.hold (c.next + 3) → is_on w c.hold ≡ false → holds env test ≡ true
    → Tells tables w p c.register c.next a o → Tells tables w (Abort true armed test p) c.register c.keep (weak_copy test c a) (as_whole (code_of_weak_abort o.code) Nothing o)
weak_stops tables w env armed test p c a o ht h keeps off e y =
    let st : w (c.next + 3) ≡ pos (suc (code_of_weak_abort o.code)) =
    h ∙ ap (λ b. cond b (of_weak_abort (w a.status)) (w a.status)) (ht ∙ e) ∙ ap of_weak_abort y.status ∙ weak_status o.code in
    let k = kept w c.next c.keep c.hold (c.next + 3) (code_of_weak_abort o.code) keeps off st ∙ ap (λ b. b && is_on w c.keep) (weak_goes_on o.code) in
    record {
      status = st;
      emits = y.emits;
      variables = y.variables;
      pure = y.pure;
      sets = λ s. absurd (let g = left_of (code_of_weak_abort o.code == 1) (is_on w c.keep) s in let z = weak_goes_on o.code in let f : ⊥ = cc in f);
      unset = λ s. y.unset (and_off (o.code == 1) (is_on w c.next) k);
    }

twice : (b k : Bool) → (b && k) && b ≡ k && b
twice true true = refl
twice true false = refl
twice false true = refl
twice false false = refl

-- which doesn't hold
pub weak_goes : (tables : Tables) (w : ℕ → ℤ) (env : Env) (armed : Bool) (test : Test) (p : Stmt) (c : Context) (a : Copy) (o : Tick)
    → is_on w (c.next + 1) ≡ holds env test → w (c.next + 3) ≡ cond (is_on w (c.next + 1)) (of_weak_abort (w a.status)) (w a.status)
    → Keeps w c.next c.keep c.hold (c.next + 3) → is_on w c.hold ≡ false → holds env test ≡ false
    → Tells tables w p c.register c.next a o → Tells tables w (Abort true armed test p) c.register c.keep (weak_copy test c a) (as_whole o.code (Abort true true test o.rest) o)
weak_goes tables w env armed test p c a o ht h keeps off e y =
    let st : w (c.next + 3) ≡ w a.status = h ∙ ap (λ b. cond b (of_weak_abort (w a.status)) (w a.status)) (ht ∙ e) in
    let k = kept w c.next c.keep c.hold (c.next + 3) o.code keeps off (st ∙ y.status) in
    whole_tells tables w p (Abort true armed test p) (λ z. Abort true true test z) c.register c.keep c.next (c.next + 3) a o st y
    (ap (λ b. b && (o.code == 1)) k ∙ twice (o.code == 1) (is_on w c.keep))
    (λ z s. abort_stands tables true armed test p z c.register (registers_set w a.sets) s) (weak_copy test c a).equations

pub weak_active : (tables : Tables) (last : ℕ → ℤ) (env : Env) (x w : ℕ → ℤ) (armed : Bool) (test : Test) (p t : Stmt) (c : Context) (a : Copy)
    → is_on w (c.next + 1) ≡ holds env test → w (c.next + 3) ≡ cond (is_on w (c.next + 1)) (of_weak_abort (w a.status)) (w a.status)
    → Keeps w c.next c.keep c.hold (c.next + 3) → is_on w c.hold ≡ false
    → Active tables last env x w p t c.register c.next a
    → Active tables last env x w (Abort true armed test p) (Abort true true test t) c.register c.keep (weak_copy test c a)
weak_active tables last env x w armed test p t c a ht h keeps off u =
    let o = u.tick in
    by_cases (holds env test)
    (λ e. record {
      tick = as_whole (code_of_weak_abort o.code) Nothing o;
      ticks = subst (λ b. Chosen b (Aborts true (λ z. Ticks tables last t env x z) x (as_whole (code_of_weak_abort o.code) Nothing o))
          ((z : Tick) × Ticks tables last t env x z × (as_whole (code_of_weak_abort o.code) Nothing o ≡ as_whole z.code (Abort true true test z.rest) z))) (sym e) (o, u.ticks, refl);
      tells = weak_stops tables w env armed test p c a o ht h keeps off e u.tells;
    })
    (λ e. record {
      tick = as_whole o.code (Abort true true test o.rest) o;
      ticks = subst (λ b. Chosen b (Aborts true (λ z. Ticks tables last t env x z) x (as_whole o.code (Abort true true test o.rest) o))
          ((z : Tick) × Ticks tables last t env x z × (as_whole o.code (Abort true true test o.rest) o ≡ as_whole z.code (Abort true true test z.rest) z))) (sym e) (o, u.ticks, refl);
      tells = weak_goes tables w env armed test p c a o ht h keeps off e u.tells;
    })

quiet_status : (w x : ℕ → ℤ) (a : Copy) (es : List Equation) (s : ℕ) → w s ≡ pos 0 → Quiet w x a → Quiet w x (record a { equations = es; status = s })
quiet_status w x a es s h q = record { status = h; emits = q.emits; variables = q.variables }

pub weak_quiet : (w x : ℕ → ℤ) (test : Test) (c : Context) (a : Copy)
    → w (c.next + 3) ≡ cond (is_on w (c.next + 1)) (of_weak_abort (w a.status)) (w a.status) → Quiet w x a → Quiet w x (weak_copy test c a)
weak_quiet w x test c a h q =
    quiet_status w x a (weak_copy test c a).equations (c.next + 3)
    (h ∙ ap (λ z. cond (is_on w (c.next + 1)) (of_weak_abort z) z) q.status ∙ same (is_on w (c.next + 1))) q where
      same : (b : Bool) → cond b (of_weak_abort (pos 0)) (pos 0) ≡ pos 0
      same true = refl
      same false = refl

pub weak_held : (tables : Tables) (f w x : ℕ → ℤ) (armed : Bool) (test : Test) (p : Stmt) (c : Context) (a : Copy)
    → w (c.next + 3) ≡ cond (is_on w (c.next + 1)) (of_weak_abort (w a.status)) (w a.status)
    → Keeps w c.next c.keep c.hold (c.next + 3) → is_on w c.hold ≡ true
    → Held tables f w x p c.register c.next a → Held tables f w x (Abort true armed test p) c.register c.keep (weak_copy test c a)
weak_held tables f w x armed test p c a h keeps on u =
    let k = kept_held w c.next c.keep c.hold (c.next + 3) keeps on in
    record { quiet = weak_quiet w x test c a h u.quiet; stays = λ e. remain_Abort tables true armed test p c.register f (registers_set w a.sets) (u.stays (k ∙ e)); unset = λ e. u.unset (k ∙ e) }

-- What the wires of a strong abort or a suspend say.
pub record Tested (w : ℕ → ℤ) (env : Env) (test : Test) (c : Context) (live code : ℕ) (a : Copy) : Type 0 where
  pub holds : is_on w c.next ≡ holds env test
  pub go : is_on w (c.next + 1) ≡ is_on w c.go && not (is_on w c.next)
  pub stops : is_on w (c.next + 3) ≡ (is_on w c.go && is_on w c.next) && is_on w live
  pub status : w (c.next + 4) ≡ cond (is_on w (c.next + 3)) (pos (suc code)) (w a.status)
  pub hold : is_on w (c.next + 5) ≡ is_on w c.hold || is_on w (c.next + 3)

-- where the test doesn't hold, its body ticks
abbrev pub tested_goes : (tables : Tables) (last : ℕ → ℤ) (env : Env) (x w : ℕ → ℤ) (test : Test) (p t P T : Stmt) (W : Stmt → Stmt) (live code : ℕ) (c : Context) (a : Copy)
    → Tested w env test c live code a → holds env test ≡ false → Active tables last env x w p t c.register c.keep a
    → ((o : Tick) → Ticks tables last t env x o → Ticks tables last T env x (as_whole o.code (W o.rest) o))
    → ((z : Stmt) → Stands tables p c.register (registers_set w a.sets) z → Stands tables P c.register (registers_set w a.sets) (W z))
    → Active tables last env x w P T c.register c.keep (tested_copy test live code c a)
tested_goes tables last env x w test p t P T W live code c a s e u goes stands =
    let off : is_on w (c.next + 3) ≡ false = s.stops ∙ ap (λ b. (is_on w c.go && b) && is_on w live) (s.holds ∙ e) ∙ gone (is_on w c.go) (is_on w live) in
    whole_active tables last env x w p t P T W c.register c.keep c.keep (c.next + 4) a (s.status ∙ ap (λ b. cond b (pos (suc code)) (w a.status)) off) u refl goes stands (tested_copy test live code c a).equations where
      gone : (a b : Bool) → (a && false) && b ≡ false
      gone true b = refl
      gone false b = refl

pub stop_status : (w : ℕ → ℤ) (env : Env) (test : Test) (c : Context) (live code : ℕ) (a : Copy) → Tested w env test c live code a → holds env test ≡ true → is_on w c.go ≡ true → is_on w live ≡ true → w (c.next + 4) ≡ pos (suc code)
stop_status w env test c live code a s e go on =
    let stop : is_on w (c.next + 3) ≡ true = s.stops ∙ ap₂ (λ x y. (x && y) && is_on w live) go (s.holds ∙ e) ∙ on in
    s.status ∙ ap (λ b. cond b (pos (suc code)) (w a.status)) stop

-- a strong abort whose test holds
abbrev pub strong_stops : (tables : Tables) (last : ℕ → ℤ) (env : Env) (x w : ℕ → ℤ) (armed : Bool) (test : Test) (p t : Stmt) (live : ℕ) (c : Context) (a : Copy)
    → Tested w env test c live 0 a → holds env test ≡ true → is_on w c.go ≡ true → is_on w live ≡ true → Silent w x a
    → Active tables last env x w (Abort false armed test p) (Abort false true test t) c.register c.keep (tested_copy test live 0 c a)
strong_stops tables last env x w armed test p t live c a s e go on u =
    let q = u.quiet in
    record {
      tick = ends_with [] x;
      ticks = subst (λ b. Chosen b (Aborts false (λ z. Ticks tables last t env x z) x (ends_with [] x)) ((z : Tick) × Ticks tables last t env x z × (ends_with [] x ≡ as_whole z.code (Abort false true test z.rest) z))) (sym e) refl;
      tells = record {
        status = stop_status w env test c live 0 a s e go on;
        emits = q.emits;
        variables = q.variables;
        pure = tt;
        sets = λ z. cc;
        unset = λ z. u.sets;
      };
    }

-- a suspend whose test holds
abbrev pub suspend_stops : (tables : Tables) (last : ℕ → ℤ) (env : Env) (f x w : ℕ → ℤ) (armed : Bool) (test : Test) (p : Stmt) (on : ℕ) (c : Context) (a : Copy)
    → Tested w env test c on 1 a → holds env test ≡ true → is_on w c.go ≡ true → is_on w on ≡ true
    → live tables p c.register f ≡ true → LivesApart tables p c.register f
    → Held tables f w x p c.register c.keep a
    → Active tables last env x w (Suspend armed test p) (Suspend true test (residual tables p c.register f)) c.register c.keep (tested_copy test on 1 c a)
suspend_stops tables last env f x w armed test p on c a s e go ison alive apart u =
    let q = u.quiet in
    let t = residual tables p c.register f in
    record {
      tick = quiet 1 (Suspend true test t) x;
      ticks = subst (λ b. Chosen b (quiet 1 (Suspend true test t) x ≡ quiet 1 (Suspend true test t) x) ((z : Tick) × Ticks tables last t env x z × (quiet 1 (Suspend true test t) x ≡ as_whole z.code (Suspend true test z.rest) z))) (sym e) refl;
      tells = record {
        status = stop_status w env test c on 1 a s e go ison;
        emits = q.emits;
        variables = q.variables;
        pure = tt;
        sets = λ z. suspend_stands tables armed test p t c.register (registers_set w a.sets) (stands_still tables p c.register f (registers_set w a.sets) t (u.stays z) (record { fits = record { is_live = alive; apart = apart }; residual = refl }));
        unset = λ z. u.unset z;
      };
    }

-- where the whole doesn't tick, or its part isn't live
pub tested_quiet : (w x : ℕ → ℤ) (env : Env) (test : Test) (live code : ℕ) (c : Context) (a : Copy)
    → Tested w env test c live code a → is_on w c.go && is_on w live ≡ false → Quiet w x a → Quiet w x (tested_copy test live code c a)
tested_quiet w x env test live code c a s off q =
    quiet_status w x a (tested_copy test live code c a).equations (c.next + 4) (s.status ∙ ap (λ b. cond b (pos (suc code)) (w a.status)) (s.stops ∙ gone (is_on w c.go) (is_on w c.next) (is_on w live) off) ∙ q.status) q where
      gone : (a b d : Bool) → a && d ≡ false → (a && b) && d ≡ false
      gone true true d h = h
      gone true false d h = refl
      gone false b d h = refl
