-- A starting copy that starts tells a tick of its statement.
use Rattle.std.proofs.Common.{◌≡◌, ◌≢◌, ℕ, suc, ◌+◌, ◌==◌, ℤ, pos, Bool, true, false, ◌&&◌, ◌||◌, not, cond, List, [], ◌∷◌, ◌++◌, refl, sym, ap, ap₂, ◌∙◌, subst, arith, Option, Some, None}
use Rattle.std.proofs.lemmas.Bool.Decides.{nat_tests}
use Rattle.std.proofs.Math.Path.{fun_ext}
use Rattle.java_values.specs.Arithmetic.{is_true}
use Rattle.kernel_terms.specs.declared.tables.Tables.{Tables}
use Rattle.kernel_terms.specs.TableEntries.{signal_at}
use Rattle.kernel_terms.specs.Expressions.{Expression, Test, Literal}
use Rattle.java_values.specs.declared.kind.Kind.TheVariants as kind
use Rattle.kernel_terms.specs.Statements.{Stmt, Nothing, Pause, Emit, Assign, If, Present, Seq, Loop, Par, Trap, Exit, Abort, Suspend, Local, Send, Receive, SendWaits, Sent, ReceiveWaits, Received}
use Rattle.kernel_terms.specs.MayEnd.{ends0, ends1, LoopsWait}
use Rattle.kernel_rules.specs.definitions.Signals.{Env, Emission, put_at}
use Rattle.kernel_rules.specs.definitions.Expressions.{holds}
use Rattle.kernel_rules.specs.definitions.TickRule.{Tick, Ticks, Chosen, Aborts, IsEmitted, has_ended, quiet, ends_with, as_whole, exit_code}
use Rattle.kernel_rules.specs.definitions.Registers.{registers}
use Rattle.kernel_rules.proofs.StartingTicks.{ended_zero, starting_allows}
use Rattle.surf_graph.proofs.Booleans.{left_of, or_left}
use Rattle.java_values.specs.Arithmetic.{of_bool}
use Rattle.std.specs.Int.{int_max}
use Rattle.surf_graph.specs.definitions.Formulas.{Wires, Value, Holds, Equation, Satisfies, formula_value, to_nat, is_on, told, told_env, readings}
use Rattle.surf_graph.specs.definitions.Copies.{fold_info, Copy, Context, Sets, below, from, joined, behind, plain_copy, starting_if, other_context, has, joins, both_write, alternatives, start_context, part_context, choice_own, turn_own, branch_context, second_branch, weak_context, tested_context, local_context, fold_emits, emitted_value}
use Rattle.surf_graph.specs.definitions.StartingCopies.{first_formula, writes0, start}
use Rattle.surf_graph.specs.definitions.Tells.{emitted, Off, AllOff, Stands, Tells, Active, Silent, PureZero, registers_set, set_value}
use Rattle.surf_graph.specs.definitions.Sources.{IsSource}
use Rattle.surf_graph.proofs.SetValues.{truth_of, satisfies_front, satisfies_back, off_joined, off_below, off_from, off_none}
use Rattle.surf_graph.proofs.Parts.{by_cases, first_stands, second_stands, first_dies, second_dies, If_first, If_second, Seq_first, Seq_second, turn_active}
use Rattle.surf_graph.proofs.Passes.{start_passes}
use Rattle.surf_graph.proofs.Alternatives.{Joins, active_first, active_second}
use Rattle.surf_graph.proofs.Beside.{Keeps, branch_ticks, par_active}
use Rattle.surf_graph.proofs.Wraps.{trap_active, weak_active, whole_active, tested_goes, strong_stops, abort_stands, suspend_stands}
use Rattle.surf_graph.proofs.Locals.{first_is, local_equations}
use Rattle.surf_graph.proofs.LocalCopies.{local_active}
use Rattle.surf_graph.proofs.StartSilent.{start_silent, silent_if, ended_wire, tested_says}

-- wires that are on

pub and_on : (w : ℕ → ℤ) (n a b : ℕ) → w n ≡ of_bool (is_on w a && is_on w b) → is_on w a ≡ true → is_on w n ≡ is_on w b
and_on w n a b h on = ap is_true h ∙ truth_of (is_on w a && is_on w b) ∙ ap (λ x. x && is_on w b) on

pub and_not_on : (w : ℕ → ℤ) (n a b : ℕ) → w n ≡ of_bool (is_on w a && not (is_on w b)) → is_on w a ≡ true → is_on w n ≡ not (is_on w b)
and_not_on w n a b h on = ap is_true h ∙ truth_of (is_on w a && not (is_on w b)) ∙ ap (λ x. x && not (is_on w b)) on

pub status_on : (w : ℕ → ℤ) (s go code : ℕ) → w s ≡ cond (is_on w go) (pos (suc code)) (pos 0) → is_on w go ≡ true → w s ≡ pos (suc code)
status_on w s go code h on = h ∙ ap (λ b. cond b (pos (suc code)) (pos 0)) on

pub set_on : (w : ℕ → ℤ) (k : ℕ) → is_on w k ≡ true → is_true (cond (is_on w k) (w k) (pos 0)) ≡ true
set_on w k h = ap (λ b. is_true (cond b (w k) (pos 0))) h ∙ h

pub keeps_says : (w : ℕ → ℤ) (k i h s keep hold : ℕ) → w k ≡ of_bool (is_on w keep && is_on w h) → w i ≡ of_bool (to_nat (w s) == 2) → w h ≡ of_bool (is_on w hold || is_on w i) → Keeps w k keep hold s
keeps_says w k i h s keep hold a b d =
    let two : is_on w i ≡ (to_nat (w s) == 2) = ap is_true b ∙ truth_of (to_nat (w s) == 2) in
    let either : is_on w h ≡ is_on w hold || (to_nat (w s) == 2) = ap is_true d ∙ truth_of (is_on w hold || is_on w i) ∙ ap (λ x. is_on w hold || x) two in
    record { is = ap is_true a ∙ truth_of (is_on w keep && is_on w h) ∙ ap (λ x. is_on w keep && x) either }

-- leaves of the statement

pub ends_tells : (tables : Tables) (w : ℕ → ℤ) (p : Stmt) (c : Context) (m : List Emission) (x : ℕ → ℤ) (copy : Copy)
    → w copy.status ≡ pos 1 → emitted w copy.emits ≡ m → told w copy.variables ≡ x → PureZero tables m → Off w copy.sets
    → Tells tables w p c.register c.keep copy (ends_with m x)
ends_tells tables w p c m x copy s e v pure off = record { status = s; emits = e; variables = v; pure = pure; sets = λ z. cc; unset = λ z. off }

emission : (f w : ℕ → ℤ) (v : Wires) (n : ℕ) (e : Option Expression) → w n ≡ formula_value f w (emitted_value e v) → IsEmitted (readings w v) e (w n)
emission f w v n None h = h
emission f w v n (Some e) h = h

pure_emission : (f w : ℕ → ℤ) (v : Wires) (n : ℕ) (e : Option Expression) → e ≡ None → w n ≡ formula_value f w (emitted_value e v) → w n ≡ pos 0
pure_emission f w v n e is_none h = h ∙ ap (λ i. formula_value f w (emitted_value i v)) is_none

put_told : (w : ℕ → ℤ) (b : Bool) (i j : ℕ) (u : ℤ) → w i ≡ u → w (cond b i j) ≡ cond b u (w j)
put_told w true i j u h = h
put_told w false i j u h = refl

pub told_put : (w : ℕ → ℤ) (v : ℕ → ℕ) (y n : ℕ) (u : ℤ) → w n ≡ u → told w (put_at v y n) ≡ put_at (told w v) y u
told_put w v y n u h = fun_ext (λ k. put_told w (k == y) n (v k) u h)

pub present_stands : (tables : Tables) (e : Expression) (t : Test) (p q s : Stmt) (n : ℕ) (r : ℕ → ℤ) → Stands tables (If e p q) n r s → Stands tables (Present t p q) n r s
present_stands tables e t p q s n r h = record { fits = record { is_live = (h.fits).is_live; apart = (h.fits).apart }; residual = h.residual }

pub loop_stands : (tables : Tables) (p s : Stmt) (n : ℕ) (r : ℕ → ℤ) → Stands tables p n r s → Stands tables (Loop p) n r (Seq s (Loop p))
loop_stands tables p s n r h = record { fits = record { is_live = (h.fits).is_live; apart = (h.fits).apart }; residual = ap (λ z. Seq z (Loop p)) h.residual }

pub active_if : (tables : Tables) (last : ℕ → ℤ) (env : Env) (f x w : ℕ → ℤ) (p t : Stmt) (n keep : ℕ) (b : Bool) (a : Copy) (d : Context)
    → b ≡ true → Satisfies f w (starting_if b a d).equations → (Satisfies f w a.equations → Active tables last env x w p t n keep a) → Active tables last env x w p t n keep (starting_if b a d)
active_if tables last env f x w p t n keep true a d e h k = k h
active_if tables last env f x w p t n keep false a d e h k = cc

pub has_ended_status : (code : ℕ) → (suc code == 1) ≡ has_ended code
has_ended_status code = by_cases (has_ended code) (λ e. let i = ended_zero code e in ap (λ z. suc z == 1) i ∙ sym e) (λ e. let i : (suc code == 1) ≡ false = grind (arith, nat_tests) in i ∙ sym e)

-- a loop's body doesn't end in its starting tick
pub waits_first : (tables : Tables) (last : ℕ → ℤ) (p : Stmt) (env : Env) (x : ℕ → ℤ) (o : Tick) → ends0 p ≡ false → Ticks tables last p env x o → has_ended o.code ≡ false
waits_first tables last p env x o e h = by_cases (has_ended o.code) (λ i. let a = (starting_allows tables last p env x o h).ends (ended_zero o.code i) in absurd (let z : ⊥ = cc in z)) (λ i. i)

pub same_number : (n : ℕ) → (n == n) ≡ true
same_number n = grind (arith, nat_tests)

pub other_number : (n m : ℕ) → n ≢ m → (n == m) ≡ false
other_number n m h = grind (arith, nat_tests)

never_one : (d : ℕ) → (exit_code d == 1) ≡ true → ⊥
never_one d h = let e : (exit_code d == 1) ≡ false = grind (arith, nat_tests) in let f : ⊥ = cc in f

-- choices

abbrev pub choice_first : (tables : Tables) (last : ℕ → ℤ) (env : Env) (x f w : ℕ → ℤ) (xs ys : List ℕ) (other : ℕ) (e : Expression) (p q t P T : Stmt) (n keep k l : ℕ) (own : List Equation) (a b : Copy)
    → w k ≡ int_max (w a.status) (w b.status) → Joins f w xs ys other a b → is_on w other ≡ false → ((y : ℕ) → has xs y ≡ false → told w a.variables y ≡ x y) → Active tables last env x w p t n keep a → Silent w x b
    → ((o : Tick) → Ticks tables last t env x o → Ticks tables last T env x o)
    → ((s : Stmt) → (r : ℕ → ℤ) → Stands tables (If e p q) n r s → Stands tables P n r s)
    → Active tables last env x w P T n keep (alternatives xs ys other k l (below (n + registers tables p) a.sets) (from (n + registers tables p) b.sets) own a b)
choice_first tables last env x f w xs ys other e p q t P T n keep k l own a b h js off le u v goes stands =
    let m = n + registers tables p in
    active_first tables last env x f w xs ys other p t P T n n keep k l (below m a.sets) (from m b.sets) own a b h js off le u v.quiet goes
    (λ s i. stands s (registers_set w (joined (below m a.sets) (from m b.sets)))
    (If_first tables e p q s n (registers_set w (joined (below m a.sets) (from m b.sets))) (first_stands tables w p s n a.sets b.sets i) (second_dies tables w q m a.sets b.sets v.sets)))
    (λ i. off_joined w (below m a.sets) (from m b.sets) (off_below w m a.sets i) (off_from w m b.sets v.sets))

abbrev pub choice_second : (tables : Tables) (last : ℕ → ℤ) (env : Env) (x f w : ℕ → ℤ) (xs ys : List ℕ) (other : ℕ) (e : Expression) (p q t P T : Stmt) (n keep k l : ℕ) (own : List Equation) (a b : Copy)
    → w k ≡ int_max (w a.status) (w b.status) → Joins f w xs ys other a b → is_on w other ≡ true → ((y : ℕ) → has ys y ≡ false → told w b.variables y ≡ x y) → Silent w x a → Active tables last env x w q t (n + registers tables p) keep b
    → ((o : Tick) → Ticks tables last t env x o → Ticks tables last T env x o)
    → ((s : Stmt) → (r : ℕ → ℤ) → Stands tables (If e p q) n r s → Stands tables P n r s)
    → Active tables last env x w P T n keep (alternatives xs ys other k l (below (n + registers tables p) a.sets) (from (n + registers tables p) b.sets) own a b)
choice_second tables last env x f w xs ys other e p q t P T n keep k l own a b h js on le u v goes stands =
    let m = n + registers tables p in
    active_second tables last env x f w xs ys other q t P T m n keep k l (below m a.sets) (from m b.sets) own a b h js on le u.quiet v goes
    (λ s i. stands s (registers_set w (joined (below m a.sets) (from m b.sets)))
    (If_second tables e p q s n (registers_set w (joined (below m a.sets) (from m b.sets))) (first_dies tables w p n a.sets b.sets u.sets) (second_stands tables w q s m a.sets b.sets i)))
    (λ i. off_joined w (below m a.sets) (from m b.sets) (off_below w m a.sets u.sets) (off_from w m b.sets i))

-- a sequence whose first part ticks, of starting copies or of a resuming and a starting one
pub seq_active : (tables : Tables) (last : ℕ → ℤ) (env : Env) (x w : ℕ → ℤ) (p q t : Stmt) (n keep k l : ℕ) (own : List Equation) (a b : Copy)
    → w k ≡ int_max (w a.status) (w b.status) → (u : Active tables last env x w p t n keep a)
    → (has_ended (u.tick).code ≡ true → Active tables last env (told w a.variables) w q q (n + registers tables p) keep b)
    → (has_ended (u.tick).code ≡ false → Silent w (told w a.variables) b)
    → Active tables last env x w (Seq p q) (Seq t q) n keep (behind k l (below (n + registers tables p) a.sets) (from (n + registers tables p) b.sets) own a b)
seq_active tables last env x w p q t n keep k l own a b h u active silent =
    let m = n + registers tables p in
    let r = registers_set w (joined (below m a.sets) (from m b.sets)) in
    turn_active tables last env x w p q t (Seq p q) q n m n keep k l (below m a.sets) (from m b.sets) own a b h u active silent
    (λ s off i. Seq_first tables p q s n r (first_stands tables w p s n a.sets b.sets i) (second_dies tables w q m a.sets b.sets off))
    (λ s off i. Seq_second tables p q s n r (first_dies tables w p n a.sets b.sets off) (second_stands tables w q s m a.sets b.sets i))
    (λ i j. off_joined w (below m a.sets) (from m b.sets) (off_below w m a.sets i) (off_from w m b.sets j))

pub start_active : (tables : Tables) (f w : ℕ → ℤ) (p : Stmt) (c : Context) → IsSource tables p → LoopsWait p → w 0 ≡ pos 0 → Satisfies f w (start tables p c).equations → is_on w c.go ≡ true → is_on w c.hold ≡ false
    → Active tables (told w c.wires.last) (told_env w c.wires) (told w c.wires.variables) w p p c.register c.keep (start tables p c)
start_active tables f w Nothing c src l z h on free =
    record { tick = ends_with [] (told w c.wires.variables); ticks = refl; tells = ends_tells tables w Nothing c [] (told w c.wires.variables) (plain_copy 0 c) (status_on w c.next c.go 0 h.0 on) refl refl tt (off_none w) }
start_active tables f w Pause c src l z h on free =
    let x = told w c.wires.variables in
    let kept = and_on w (c.next + 1) c.go c.keep h.1.0 on in
    record {
      tick = quiet 1 Nothing x;
      ticks = refl;
      tells = record {
        status = status_on w c.next c.go 1 h.0 on;
        emits = refl;
        variables = refl;
        pure = tt;
        sets = λ e. record { fits = record { is_live = set_on w (c.next + 1) (kept ∙ e); apart = tt }; residual = refl };
        unset = λ e. record { each = λ k. (kept ∙ e, tt) };
      };
    }
start_active tables f w (Emit s e) c src l z h on free =
    let x = told w c.wires.variables in
    let m : Emission = record { signal = s; value = w (c.next + 1) } in
    record {
      tick = ends_with (m ∷ []) x;
      ticks = (w (c.next + 1), emission f w c.wires (c.next + 1) e h.1.0, refl);
      tells = ends_tells tables w (Emit s e) c (m ∷ []) x (start tables (Emit s e) c) (status_on w c.next c.go 0 h.0 on) (ap (λ b. cond b (m ∷ []) []) on) refl
          (λ k. pure_emission f w c.wires (c.next + 1) e (src k) h.1.0, tt) (off_none w);
    }
start_active tables f w (Assign y e) c src l z h on free =
    let x = told w c.wires.variables in
    let v = w (c.next + 1) in
    record {
      tick = ends_with [] (put_at x y v);
      ticks = (v, h.1.0, refl);
      tells = ends_tells tables w (Assign y e) c [] (put_at x y v) (start tables (Assign y e) c) (status_on w c.next c.go 0 h.0 on) refl
          (told_put w c.wires.variables y (c.next + 2) v (h.1.1.0 ∙ ap (λ b. cond b v (w (c.wires.variables y))) on)) tt (off_none w);
    }
start_active tables f w (If e p q) c src l z h on free =
    let n = c.next in
    let m = c.register + registers tables p in
    let a = start tables p (part_context (n + 3) 5 c) in
    let b = start tables q (other_context (n + 4) m a c) in
    let J = joins (n + 4) b.next a.variables b.variables (both_write (writes0 p) (writes0 q)) in
    let r0 = h.1.1.1.1 in
    let js = satisfies_front f w J (a.equations ++ b.equations) r0 in
    let r = satisfies_back f w J (a.equations ++ b.equations) r0 in
    let ha = satisfies_front f w a.equations b.equations r in
    let hb = satisfies_back f w a.equations b.equations r in
    let last = told w c.wires.last in
    let env = told_env w c.wires in
    let x = told w c.wires.variables in
    let go : is_on w (n + 3) ≡ is_on w (n + 2) = and_on w (n + 3) c.go (n + 2) h.1.1.0 on in
    let other : is_on w (n + 4) ≡ not (is_on w (n + 2)) = and_not_on w (n + 4) c.go (n + 2) h.1.1.1.0 on in
    by_cases (is_on w (n + 2))
    (λ t. choice_first tables last env x f w (writes0 p) (writes0 q) (n + 4) e p q p (If e p q) (If e p q) c.register c.keep n 0 (choice_own (Value e c.wires) c) a b h.0 js (other ∙ ap not t) (λ y i. ap w (start_passes tables p (part_context (n + 3) 5 c) y i))
    (start_active tables f w p (part_context (n + 3) 5 c) src.0 l.0 z ha (go ∙ t) free) (start_silent tables f w q (other_context (n + 4) m a c) z hb (other ∙ ap not t) free)
    (λ o g. (w (n + 2), h.1.0, subst (λ i. Chosen i (Ticks tables last p env x o) (Ticks tables last q env x o)) (sym t) g)) (λ s i g. g))
    (λ t. choice_second tables last env x f w (writes0 p) (writes0 q) (n + 4) e p q q (If e p q) (If e p q) c.register c.keep n 0 (choice_own (Value e c.wires) c) a b h.0 js (other ∙ ap not t) (λ y i. ap w (start_passes tables q (other_context (n + 4) m a c) y i))
    (start_silent tables f w p (part_context (n + 3) 5 c) z ha (go ∙ t) free) (start_active tables f w q (other_context (n + 4) m a c) src.1 l.1 z hb (other ∙ ap not t) free)
    (λ o g. (w (n + 2), h.1.0, subst (λ i. Chosen i (Ticks tables last p env x o) (Ticks tables last q env x o)) (sym t) g)) (λ s i g. g))
start_active tables f w (Present test p q) c src l z h on free =
    let n = c.next in
    let m = c.register + registers tables p in
    let a = start tables p (part_context (n + 3) 5 c) in
    let b = start tables q (other_context (n + 4) m a c) in
    let J = joins (n + 4) b.next a.variables b.variables (both_write (writes0 p) (writes0 q)) in
    let r0 = h.1.1.1.1 in
    let js = satisfies_front f w J (a.equations ++ b.equations) r0 in
    let r = satisfies_back f w J (a.equations ++ b.equations) r0 in
    let ha = satisfies_front f w a.equations b.equations r in
    let hb = satisfies_back f w a.equations b.equations r in
    let last = told w c.wires.last in
    let env = told_env w c.wires in
    let x = told w c.wires.variables in
    let any = Literal kind.Int (pos 0) in
    let says : is_on w (n + 2) ≡ holds env test = ap is_true h.1.0 ∙ truth_of (holds env test) in
    let go : is_on w (n + 3) ≡ is_on w (n + 2) = and_on w (n + 3) c.go (n + 2) h.1.1.0 on in
    let other : is_on w (n + 4) ≡ not (is_on w (n + 2)) = and_not_on w (n + 4) c.go (n + 2) h.1.1.1.0 on in
    by_cases (is_on w (n + 2))
    (λ t. choice_first tables last env x f w (writes0 p) (writes0 q) (n + 4) any p q p (Present test p q) (Present test p q) c.register c.keep n 0 (choice_own (Holds test c.wires) c) a b h.0 js (other ∙ ap not t) (λ y i. ap w (start_passes tables p (part_context (n + 3) 5 c) y i))
    (start_active tables f w p (part_context (n + 3) 5 c) src.0 l.0 z ha (go ∙ t) free) (start_silent tables f w q (other_context (n + 4) m a c) z hb (other ∙ ap not t) free)
    (λ o g. subst (λ i. Chosen i (Ticks tables last p env x o) (Ticks tables last q env x o)) (sym t ∙ says) g) (λ s i g. present_stands tables any test p q s c.register i g))
    (λ t. choice_second tables last env x f w (writes0 p) (writes0 q) (n + 4) any p q q (Present test p q) (Present test p q) c.register c.keep n 0 (choice_own (Holds test c.wires) c) a b h.0 js (other ∙ ap not t) (λ y i. ap w (start_passes tables q (other_context (n + 4) m a c) y i))
    (start_silent tables f w p (part_context (n + 3) 5 c) z ha (go ∙ t) free) (start_active tables f w q (other_context (n + 4) m a c) src.1 l.1 z hb (other ∙ ap not t) free)
    (λ o g. subst (λ i. Chosen i (Ticks tables last p env x o) (Ticks tables last q env x o)) (sym t ∙ says) g) (λ s i g. present_stands tables any test p q s c.register i g))
start_active tables f w (Seq p q) c src l z h on free =
    let n = c.next in
    let m = c.register + registers tables p in
    let a = start tables p (part_context c.go 3 c) in
    let d = start_context (n + 2) m a c in
    let b = starting_if (ends0 p) (start tables q d) d in
    let r = h.1.1 in
    let last = told w c.wires.last in
    let env = told_env w c.wires in
    let x = told w c.wires.variables in
    let u = start_active tables f w p (part_context c.go 3 c) src.0 l.0 z (satisfies_front f w a.equations b.equations r) on free in
    let hb = satisfies_back f w a.equations b.equations r in
    let go : is_on w (n + 2) ≡ has_ended (u.tick).code = ended_wire w (n + 2) a.status (suc (u.tick).code) h.1.0 (u.tells).status ∙ has_ended_status (u.tick).code in
    seq_active tables last env x w p q p c.register c.keep n 0 (turn_own (n + 2) a) a b h.0 u
    (λ e. active_if tables last env f (told w a.variables) w q q m c.keep (ends0 p) (start tables q d) d ((starting_allows tables last p env x u.tick u.ticks).ends (ended_zero (u.tick).code e)) hb
    (λ k. start_active tables f w q d src.1 l.1 z k (go ∙ e) (ap is_true z)))
    (λ e. silent_if f w (told w a.variables) (ends0 p) (start tables q d) d z hb (λ k. start_silent tables f w q d z k (go ∙ e) (ap is_true z)))
start_active tables f w (Loop p) c src l z h on free =
    let a = start tables p c in
    let last = told w c.wires.last in
    let env = told_env w c.wires in
    let x = told w c.wires.variables in
    whole_active tables last env x w p p (Loop p) (Loop p) (λ s. Seq s (Loop p)) c.register c.keep c.keep a.status a refl (start_active tables f w p c src l.1 z h on free) refl
    (λ o g. (o, g, waits_first tables last p env x o l.0 g, refl)) (λ s g. loop_stands tables p s c.register (registers_set w a.sets) g) a.equations
start_active tables f w (Par p q) c src l z h on free =
    let n = c.next in
    let a = start tables p (branch_context c) in
    let b = start tables q (second_branch tables p c a) in
    let r = h.1.1.1.1 in
    let last = told w c.wires.last in
    let env = told_env w c.wires in
    let x = told w c.wires.variables in
    let u = start_active tables f w p (branch_context c) src.1 l.0 z (satisfies_front f w a.equations b.equations r) on free in
    let v = start_active tables f w q (second_branch tables p c a) src.2 l.1 z (satisfies_back f w a.equations b.equations r) on free in
    par_active tables last env x w p q p q 0 [] c a b h.1.1.1.0 (keeps_says w n (n + 1) (n + 2) (n + 3) c.keep c.hold h.0 h.1.0 h.1.1.0) free
    (branch_ticks tables last env x w p p c.register n a u (λ e. or_left (ends0 p) (ends1 p) ((starting_allows tables last p env x u.tick u.ticks).ends e)))
    (branch_ticks tables last env x w q q (c.register + registers tables p) n b v (λ e. or_left (ends0 q) (ends1 q) ((starting_allows tables last q env x v.tick v.ticks).ends e)))
    (λ e g. let s = (u.tells).status in cc) (λ o i g k. refl)
start_active tables f w (Trap p) c src l z h on free =
    trap_active tables (told w c.wires.last) (told_env w c.wires) (told w c.wires.variables) w p p c (start tables p (part_context c.go 1 c)) h.0 (start_active tables f w p (part_context c.go 1 c) src l z h.1 on free)
start_active tables f w (Exit d) c src l z h on free =
    record {
      tick = quiet (exit_code d) Nothing (told w c.wires.variables);
      ticks = refl;
      tells = record { status = status_on w c.next c.go (suc (suc d)) h.0 on; emits = refl; variables = refl; pure = tt; sets = λ e. absurd (never_one d (left_of (exit_code d == 1) (is_on w c.keep) e)); unset = λ e. off_none w };
    }
start_active tables f w (Abort weak false t p) c src l z h on free =
    let a = start tables p c in
    whole_active tables (told w c.wires.last) (told_env w c.wires) (told w c.wires.variables) w p p (Abort weak false t p) (Abort weak false t p) (λ s. Abort weak true t s) c.register c.keep c.keep a.status a refl
    (start_active tables f w p c src l z h on free) refl (λ o g. (o, g, refl)) (λ s g. abort_stands tables weak false t p s c.register (registers_set w a.sets) g) a.equations
start_active tables f w (Abort true true t p) c src l z h on free =
    let n = c.next in
    let a = start tables p (weak_context c) in
    weak_active tables (told w c.wires.last) (told_env w c.wires) (told w c.wires.variables) w true t p p c a (ap is_true h.1.0 ∙ truth_of (holds (told_env w c.wires) t)) h.1.1.1.0
    (keeps_says w n (n + 4) (n + 2) (n + 3) c.keep c.hold h.0 h.1.1.1.1.0 h.1.1.0) free
    (start_active tables f w p (weak_context c) src l z h.1.1.1.1.1 on free)
start_active tables f w (Abort false true t p) c src l z h on free =
    let a = start tables p (tested_context c) in
    let last = told w c.wires.last in
    let env = told_env w c.wires in
    let x = told w c.wires.variables in
    let s = tested_says f w t c.go 0 c a h in
    let ha = h.1.1.1.1.1.1.1 in
    let go : is_on w (c.next + 1) ≡ not (holds env t) = s.go ∙ ap₂ (λ i j. i && not j) on s.holds in
    by_cases (holds env t)
    (λ e. strong_stops tables last env x w true t p p c.go c a s e on on (start_silent tables f w p (tested_context c) z ha (go ∙ ap not e) free))
    (λ e. tested_goes tables last env x w t p p (Abort false true t p) (Abort false true t p) (λ i. Abort false true t i) c.go 0 c a s e
    (start_active tables f w p (tested_context c) src l z ha (go ∙ ap not e) free)
    (λ o g. subst (λ b. Chosen b (Aborts false (λ i. Ticks tables last p env x i) x (as_whole o.code (Abort false true t o.rest) o))
    ((i : Tick) × Ticks tables last p env x i × (as_whole o.code (Abort false true t o.rest) o ≡ as_whole i.code (Abort false true t i.rest) i))) (sym e) (o, g, refl))
    (λ i g. abort_stands tables false true t p i c.register (registers_set w a.sets) g))
start_active tables f w (Suspend armed t p) c src l z h on free =
    let a = start tables p c in
    let last = told w c.wires.last in
    let env = told_env w c.wires in
    let x = told w c.wires.variables in
    whole_active tables last env x w p p (Suspend armed t p) (Suspend armed t p) (λ s. Suspend true t s) c.register c.keep c.keep a.status a refl
    (start_active tables f w p c src.1 l z h on free) refl
    (λ o g. subst (λ b. Chosen (b && holds env t) (as_whole o.code (Suspend true t o.rest) o ≡ quiet 1 (Suspend b t p) x)
    ((i : Tick) × Ticks tables last p env x i × (as_whole o.code (Suspend true t o.rest) o ≡ as_whole i.code (Suspend true t i.rest) i))) (sym src.0) (o, g, refl))
    (λ s g. suspend_stands tables armed t p s c.register (registers_set w a.sets) g) a.equations
start_active tables f w (Local s v p) c src l z h on free =
    let a = start tables p (local_context tables s c) in
    let fold = fold_emits (fold_info tables s) s a.next 0 (c.next + 2) a.emits in
    let r = h.1.1.1.1.1.1 in
    let says = local_equations tables f w s (first_formula (signal_at tables s).kind) c a z h (satisfies_front f w fold.equations a.equations r) in
    local_active tables (told w c.wires.last) (told w c.wires.variables) w s v v p p c a _ _ says (h.1.1.0 ∙ first_is f w (signal_at tables s).kind ∙ sym src.0) (λ e. src.0) free
    (start_active tables f w p (local_context tables s c) src.1 l z (satisfies_back f w fold.equations a.equations r) on free)
start_active tables f w (Send ch e) c src l z h on free =
    let x = told w c.wires.variables in
    let n = c.next in
    let g = c.register in
    let kept = and_on w (n + 1) c.go c.keep h.1.0 on in
    record {
      tick = quiet 1 (SendWaits ch (w (n + 2))) x;
      ticks = (w (n + 2), h.1.1.0, refl);
      tells = record {
        status = status_on w n c.go 1 h.0 on;
        emits = refl;
        variables = refl;
        pure = tt;
        sets = λ k. send_stands tables w ch e g (n + 1) (n + 2) (kept ∙ k);
        unset = λ k. record { each = λ i. three (i == g) (i == g + 1) (kept ∙ k) };
      };
    } where
      three : (i j : Bool) → is_on w (c.next + 1) ≡ false → AllOff w (cond i (record { condition = c.next + 1; value = c.next + 1 } ∷ []) (cond j [] (record { condition = c.next + 1; value = c.next + 2 } ∷ [])))
      three true j g = (g, tt)
      three false true g = tt
      three false false g = (g, tt)

      send_sets : ℕ → ℕ → ℕ → ℕ → List Sets
      send_sets g on value k = cond (k == g) (record { condition = on; value = on } ∷ []) (cond (k == g + 1) [] (record { condition = on; value = value } ∷ []))

      send_stands : (tables : Tables) (w : ℕ → ℤ) (ch : ℕ) (e : Expression) (g on value : ℕ) → is_on w on ≡ true → Stands tables (Send ch e) g (registers_set w (send_sets g on value)) (SendWaits ch (w value))
      send_stands tables w ch e g on value h =
          let one : Sets = record { condition = on; value = on } in
          let val : Sets = record { condition = on; value = value } in
          let a : registers_set w (send_sets g on value) g ≡ cond (is_on w on) (w on) (pos 0) = ap (λ b. set_value w (cond b (one ∷ []) (cond (g == g + 1) [] (val ∷ [])))) (same_number g) in
          let b : registers_set w (send_sets g on value) (g + 1) ≡ pos 0 =
          ap₂ (λ b d. set_value w (cond b (one ∷ []) (cond d [] (val ∷ [])))) (other_number (g + 1) g (omega arith)) (same_number (g + 1)) in
          let d : registers_set w (send_sets g on value) (g + 2) ≡ w value =
          ap₂ (λ b d. set_value w (cond b (one ∷ []) (cond d [] (val ∷ [])))) (other_number (g + 2) g (omega arith)) (other_number (g + 2) (g + 1) (omega arith)) ∙ ap (λ i. cond i (w value) (pos 0)) h in
          record {
            fits = record { is_live = ap is_true a ∙ set_on w on h; apart = tt };
            residual = ap₂ (λ i j. cond (is_true i) (Sent ch) (SendWaits ch j)) b d;
          }
start_active tables f w (Receive ch) c src l z h on free =
    let x = told w c.wires.variables in
    let n = c.next in
    let g = c.register in
    let kept = and_on w (n + 1) c.go c.keep h.1.0 on in
    record {
      tick = quiet 1 (ReceiveWaits ch) x;
      ticks = refl;
      tells = record {
        status = status_on w n c.go 1 h.0 on;
        emits = refl;
        variables = refl;
        pure = tt;
        sets = λ k. receive_stands (kept ∙ k);
        unset = λ k. record { each = λ i. two (i == g) (kept ∙ k) };
      };
    } where
      two : (i : Bool) → is_on w (c.next + 1) ≡ false → AllOff w (cond i (record { condition = c.next + 1; value = c.next + 1 } ∷ []) [])
      two true g = (g, tt)
      two false g = tt

      receive_stands : is_on w (c.next + 1) ≡ true → Stands tables (Receive ch) c.register (registers_set w (λ k. cond (k == c.register) (record { condition = c.next + 1; value = c.next + 1 } ∷ []) [])) (ReceiveWaits ch)
      receive_stands h =
          let one : Sets = record { condition = c.next + 1; value = c.next + 1 } in
          record {
            fits = record { is_live = ap (λ b. is_true (set_value w (cond b (one ∷ []) []))) (same_number c.register) ∙ set_on w (c.next + 1) h; apart = tt };
            residual = ap (λ b. cond (is_true (set_value w (cond b (one ∷ []) []))) (Received ch) (ReceiveWaits ch)) (other_number (c.register + 1) c.register (omega arith));
          }
start_active tables f w (SendWaits ch v) c src l z h on free = absurd src
start_active tables f w (Sent ch) c src l z h on free = absurd src
start_active tables f w (ReceiveWaits ch) c src l z h on free = absurd src
start_active tables f w (Received ch) c src l z h on free = absurd src
