-- Copies of a local signal.
use Rattle.std.proofs.Common.{◌≡◌, ℕ, ◌+◌, ◌==◌, ℤ, pos, true, false, ◌&&◌, cond, List, [], ◌∷◌, length, refl, sym, ap, ap₂, ◌∙◌, subst, arith, Option, Some, None}
use Rattle.java_values.specs.declared.kind.Kind.{Kind}
use Rattle.kernel_terms.specs.declared.tables.Tables.{Tables}
use Rattle.kernel_terms.specs.TableEntries.{signal_at}
use Rattle.kernel_terms.specs.Statements.{Stmt, Local}
use Rattle.kernel_rules.specs.definitions.Signals.{is_emitted, values_of, without, folded}
use Rattle.kernel_rules.specs.definitions.TickRule.{Ticks, left_at}
use Rattle.kernel_rules.specs.definitions.Registers.{value_kinds, last_value}
use Rattle.surf_graph.proofs.Booleans.{left_of}
use Rattle.surf_graph.specs.definitions.Formulas.{Equation, to_nat, is_on, told_env}
use Rattle.surf_graph.specs.definitions.Copies.{fold_info, Copy, Context, Sets, below, from, joined, emits_without, own_registers, local_context}
use Rattle.surf_graph.specs.definitions.Tells.{Off, registers_set, set_value, Stands, Active, Quiet, Silent, Held}
use Rattle.surf_graph.proofs.SetValues.{off_joined, off_below, off_from, set_first, set_second}
use Rattle.surf_graph.proofs.RegisterRanges.{remain_Local, remains_still}
use Rattle.surf_graph.proofs.Leavings.{left_whole}
use Rattle.surf_graph.proofs.Parts.{second_stands}
use Rattle.surf_graph.proofs.Beside.{next_one, and_swap, and_off}
use Rattle.surf_graph.proofs.Locals.{same_fold, LocalSays, told_local, emitted_without, pure_without, fold_zero}

-- the sets of its own register
abbrev pub own_sets : ℕ → ℕ → List Sets
own_sets n k = record { condition = n + 4; value = n + 1 } ∷ record { condition = n + 5; value = n + 2 } ∷ []

abbrev pub local_sets : Tables → ℕ → Context → Copy → ℕ → List Sets
local_sets tables s c a = joined (below (c.register + own_registers tables s) (own_sets c.next)) (from (c.register + own_registers tables s) a.sets)

pub sets_off : (w : ℕ → ℤ) (tables : Tables) (s : ℕ) (c : Context) (a : Copy) → is_on w (c.next + 4) ≡ false → is_on w (c.next + 5) ≡ false → Off w a.sets → Off w (local_sets tables s c a)
sets_off w tables s c a h k off =
    let m = c.register + own_registers tables s in
    off_joined w (below m (own_sets c.next)) (from m a.sets) (off_below w m (own_sets c.next) (record { each = λ i. (h, (k, tt)) })) (off_from w m a.sets off)

pub own_value : (tables : Tables) (w : ℕ → ℤ) (s : ℕ) (c : Context) (a : Copy) (kind : Option Kind) (z : ℤ) → (signal_at tables s).kind ≡ kind
    → (kind ≡ None → z ≡ pos 0) → set_value w (own_sets c.next c.register) ≡ z → last_value kind c.register (registers_set w (local_sets tables s c a)) ≡ z
own_value tables w s c a None z e pure h = sym (pure refl)
own_value tables w s c a (Some k) z e pure h =
    let one : own_registers tables s ≡ 1 = ap (λ i. length (value_kinds i)) e in
    set_first w (c.register + own_registers tables s) c.register (own_sets c.next) a.sets (omega (arith, one)) ∙ h

abbrev pub local_active :
    (tables : Tables) (last : ℕ → ℤ) (x w : ℕ → ℤ) (s : ℕ) (v v' : ℤ) (p t : Stmt) (c : Context) (a : Copy) (es : List Equation) (next : ℕ)
    → LocalSays tables w s c a → w (c.next + 2) ≡ v' → ((signal_at tables s).kind ≡ None → v' ≡ pos 0) → is_on w c.hold ≡ false
    → Active tables last (told_env w (local_context tables s c).wires) x w p t (c.register + own_registers tables s) c.keep a
    → Active tables last (told_env w c.wires) x w (Local s v p) (Local s v' t) c.register c.keep
    (record a { equations = es; emits = emits_without s a.emits; sets = local_sets tables s c a; next = next })
local_active tables last x w s v v' p t c a es next says begins pure_begins off u =
    let o = u.tick in
    let y = u.tells in
    let n = c.next in
    let m = c.register + own_registers tables s in
    let r = registers_set w (local_sets tables s c a) in
    let b = is_on w n in
    let z = w (n + 1) in
    let pauses : is_on w (n + 4) ≡ (o.code == 1) && is_on w c.keep =
    says.pauses ∙ ap (λ i. is_on w c.keep && (to_nat i == 2)) y.status ∙ ap (λ i. is_on w c.keep && i) (next_one o.code) ∙ and_swap (is_on w c.keep) (o.code == 1) in
    let holds : is_on w (n + 5) ≡ false = says.holds ∙ and_off (is_on w c.keep) (is_on w c.hold) off in
    let present : b ≡ is_emitted o.emits s = says.present ∙ ap (λ l. is_emitted l s) y.emits in
    let value : z ≡ folded (signal_at tables s) v' (values_of s o.emits) = says.value ∙ ap₂ (λ i l. folded (fold_info tables s) i (values_of s l)) begins y.emits ∙ same_fold tables s v' o.emits pure_begins y.pure in
    let pure_zero : (signal_at tables s).kind ≡ None → z ≡ pos 0 = λ e. value ∙ ap (λ i. folded (signal_at tables s) i (values_of s o.emits)) (pure_begins e) ∙ fold_zero tables s o.emits e y.pure in
    record {
      tick = record { code = o.code; rest = left_at o.code (Local s z o.rest); emits = without s o.emits; variables = o.variables };
      ticks = (b, z, o, subst (λ e. Ticks tables last t e x o) (told_local w c.wires s n (n + 1)) u.ticks, present, value, refl);
      tells = record {
        status = y.status;
        emits = emitted_without w s a.emits ∙ ap (without s) y.emits;
        variables = y.variables;
        pure = pure_without tables s o.emits y.pure;
        sets = λ e.
            let inner = second_stands tables w p o.rest m (own_sets n) a.sets (y.sets e) in
            let mine = own_value tables w s c a (signal_at tables s).kind z refl pure_zero (ap (λ i. cond i z (set_value w (record { condition = n + 5; value = n + 2 } ∷ []))) (pauses ∙ e)) in
            subst (λ l. Stands tables (Local s v p) c.register r l) (sym (left_whole o.code (Local s z o.rest) (left_of (o.code == 1) (is_on w c.keep) e)))
            (record { fits = record { is_live = (inner.fits).is_live; apart = (inner.fits).apart }; residual = ap₂ (λ i l. Local s i l) mine inner.residual });
        unset = λ e. sets_off w tables s c a (pauses ∙ e) holds (y.unset e);
      };
    }

quiet_local : (w x : ℕ → ℤ) (s : ℕ) (a : Copy) (es : List Equation) (S : ℕ → List Sets) (next : ℕ) → Quiet w x a → Quiet w x (record a { equations = es; emits = emits_without s a.emits; sets = S; next = next })
quiet_local w x s a es S next q = record { status = q.status; emits = emitted_without w s a.emits ∙ ap (without s) q.emits; variables = q.variables }

never_pauses : (tables : Tables) (w : ℕ → ℤ) (s : ℕ) (c : Context) (a : Copy) → LocalSays tables w s c a → w a.status ≡ pos 0 → is_on w (c.next + 4) ≡ false
never_pauses tables w s c a says h = says.pauses ∙ ap (λ i. is_on w c.keep && (to_nat i == 2)) h ∙ and_off (is_on w c.keep) false refl

pub local_silent :
    (tables : Tables) (x w : ℕ → ℤ) (s : ℕ) (c : Context) (a : Copy) (es : List Equation) (next : ℕ)
    → LocalSays tables w s c a → is_on w c.hold ≡ false → Silent w x a
    → Silent w x (record a { equations = es; emits = emits_without s a.emits; sets = local_sets tables s c a; next = next })
local_silent tables x w s c a es next says off u =
    record {
      quiet = quiet_local w x s a es (local_sets tables s c a) next u.quiet;
      sets = sets_off w tables s c a (never_pauses tables w s c a says (u.quiet).status) (says.holds ∙ and_off (is_on w c.keep) (is_on w c.hold) off) u.sets;
    }

last_same : (tables : Tables) (f w : ℕ → ℤ) (s : ℕ) (c : Context) (a : Copy) (kind : Option Kind) → (signal_at tables s).kind ≡ kind
    → set_value w (own_sets c.next c.register) ≡ w (c.next + 2) → last_value kind c.register f ≡ w (c.next + 2)
    → last_value kind c.register f ≡ last_value kind c.register (registers_set w (local_sets tables s c a))
last_same tables f w s c a None e h k = refl
last_same tables f w s c a (Some i) e h k =
    let one : own_registers tables s ≡ 1 = ap (λ i. length (value_kinds i)) e in
    k ∙ sym (set_first w (c.register + own_registers tables s) c.register (own_sets c.next) a.sets (omega (arith, one)) ∙ h)

pub local_held :
    (tables : Tables) (f x w : ℕ → ℤ) (s : ℕ) (v : ℤ) (p : Stmt) (c : Context) (a : Copy) (es : List Equation) (next : ℕ)
    → LocalSays tables w s c a → last_value (signal_at tables s).kind c.register f ≡ w (c.next + 2) → is_on w c.hold ≡ true
    → Held tables f w x p (c.register + own_registers tables s) c.keep a
    → Held tables f w x (Local s v p) c.register c.keep (record a { equations = es; emits = emits_without s a.emits; sets = local_sets tables s c a; next = next })
local_held tables f x w s v p c a es next says begins on u =
    let n = c.next in
    let m = c.register + own_registers tables s in
    let r = registers_set w (local_sets tables s c a) in
    let still = never_pauses tables w s c a says (u.quiet).status in
    let holds : is_on w (n + 5) ≡ is_on w c.keep = says.holds ∙ ap (λ i. is_on w c.keep && i) on ∙ and_swap (is_on w c.keep) true in
    record {
      quiet = quiet_local w x s a es (local_sets tables s c a) next u.quiet;
      stays = λ e.
          remain_Local tables s v p c.register f r
          (last_same tables f w s c a (signal_at tables s).kind refl (ap₂ (λ i j. cond i (w (n + 1)) (cond j (w (n + 2)) (pos 0))) still (holds ∙ e)) begins)
          (remains_still tables p m f (registers_set w a.sets) r (u.stays e) (record { at = λ i ge lt. sym (set_second w m i (own_sets n) a.sets ge) }));
      unset = λ e. sets_off w tables s c a still (holds ∙ e) (u.unset e);
    }
