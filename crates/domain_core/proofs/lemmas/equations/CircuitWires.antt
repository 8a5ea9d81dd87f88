-- Wires that solve the equations of a copy tell a tick of its statement.
use Rattle.std.proofs.Common.{◌≡◌, ◌≢◌, ℕ, ◌+◌, ◌<◌, ℤ, pos, Bool, true, false, ◌&&◌, ◌||◌, cond, nat_eq, List, [], ◌∷◌, ◌++◌, length, not, inl, inr, arith, refl, sym, ap, ◌∙◌, subst}
use Rattle.std.proofs.lemmas.List.{append-nil}
use Rattle.std.proofs.lemmas.Bool.Decides.{nat_tests}
use Rattle.std.proofs.lemmas.Bool.{true≢false}
use Rattle.domain_core.specs.equations.BuiltForms.{Plain, Nothing, Pause, Emit, Seq, Loop, Send, Receive, whole, ends0, ends1, LoopsWait}
use Rattle.plain_code.specs.declared.equation.Equation.{Equation}
use Rattle.plain_code.specs.declared.formula.Formula.TheVariants.{Or}
use Rattle.plain_code.specs.Formulas.{Satisfies, is_on, is_true, of_bool}
use Rattle.plain_code.proofs.SolvingLemmas.{satisfies_front, satisfies_back}
use Rattle.kernel_terms.specs.declared.tables.Tables.{Tables}
use Rattle.kernel_terms.specs.Statements.{Stmt}
use Rattle.kernel_terms.specs.Statements as rules
use Rattle.kernel_rules.specs.definitions.Signals.{Emission, Env}
use Rattle.kernel_rules.specs.definitions.TickRule.{Tick, Ticks, left_at, has_ended, Continues}
use Rattle.domain_core.specs.equations.BuiltRegisters.{registers, live, rest, LivesOnce, StandFor}
use Rattle.domain_core.specs.equations.Circuit.{Part, joined, joined_if, either, beside, either_if, again_if, waiting, start, resume, is_set, emitted}
use Rattle.domain_core.proofs.lemmas.equations.CircuitPairs.{bool_cases, or_off, and_off, emitted-append, Off, off_append, only_first, only_second, Within, within_append}
use Rattle.domain_core.proofs.lemmas.equations.BuiltResiduals.{all_off, first_stands, second_stands, loop_stands}

-- a copy that doesn't tick
pub record Silent (w : List ℤ) (part : Part) : Type 0 where
  pub done : is_on w part.done ≡ false
  pub sets : Off w part.sets
  pub emits : emitted w part.emits ≡ []

-- a tick of a built statement, which changes no variable
pub record Told : Type 0 where
  pub code : ℕ
  pub rest : Stmt
  pub emits : List Emission

abbrev pub tick_of : Told → (ℕ → ℤ) → Tick
tick_of o x = record { code = o.code; rest = o.rest; emits = o.emits; variables = x }

-- from all variables, with all last values of channels, under all tables
abbrev pub TicksAlways : Stmt → Env → Told → Type 0
TicksAlways t env o = (tables : Tables) (last x : ℕ → ℤ) → Ticks tables last t env x (tick_of o x)

-- how a copy of p ends its tick
pub data Outcome (w : List ℤ) (p : Plain) (r : ℕ) (part : Part) (o : Told) : Type 0 where
  Ended : o.code ≡ 0 → is_on w part.done ≡ true → Off w part.sets → o.rest ≡ rules.Nothing → Outcome w p r part o
  Waits : o.code ≡ 1 → is_on w part.done ≡ false → StandFor p r (is_set w part.sets) o.rest → Outcome w p r part o

-- a copy of p in which the statement t ticks
pub record Active (w : List ℤ) (env : Env) (p : Plain) (t : Stmt) (r : ℕ) (part : Part) : Type 0 where
  pub tick : Told
  pub ticks : TicksAlways t env tick
  pub emits : emitted w part.emits ≡ tick.emits
  pub outcome : Outcome w p r part tick

unequal : (m n : ℕ) → m ≢ n → nat_eq m n ≡ false
unequal m n h = grind (arith, nat_tests)

equal_self : (n : ℕ) → nat_eq n n ≡ true
equal_self n = grind (arith, nat_tests)

truth_of : (b : Bool) → is_true (of_bool b) ≡ b
truth_of true = refl
truth_of false = refl

or_left_off : (a b : Bool) → a || b ≡ false → a ≡ false
or_left_off true b h = cc
or_left_off false b h = refl

or_right_off : (a b : Bool) → a || b ≡ false → b ≡ false
or_right_off true b h = cc
or_right_off false b h = h

and_right_off : (a b : Bool) → a ≡ true → a && b ≡ false → b ≡ false
and_right_off a b e h = sym (ap (λ x. x && b) e) ∙ h

or_right_on : (a b : Bool) → a ≡ false → a || b ≡ true → b ≡ true
or_right_on a b e h = sym (ap (λ x. x || b) e) ∙ h

-- A copy that can't end doesn't tell an end.

done_if : (w : List ℤ) (e : Bool) (a b : Part) → (e ≡ true → is_on w b.done ≡ false) → (e ≡ false → is_on w a.done ≡ false) → is_on w (joined_if e a b).done ≡ false
done_if w true a b h k = h refl
done_if w false a b h k = k refl

pub start_never : (w : List ℤ) (p : Plain) (base go r : ℕ) → is_on w 0 ≡ false → ends0 p ≡ false → is_on w (start p base go r).done ≡ false
start_never w Nothing base go r z e = cc
start_never w (Emit s) base go r z e = cc
start_never w Pause base go r z e = z
start_never w (Send c n) base go r z e = z
start_never w (Receive c) base go r z e = z
start_never w (Loop p) base go r z e = z
start_never w (Seq p q) base go r z e =
    done_if w (ends0 p) (start p base go r) _
    (λ h. start_never w q _ _ _ z (and_right_off (ends0 p) (ends0 q) h e))
    (λ h. start_never w p base go r z h)

-- the last equation of a resuming sequence
pub or_wire : (w f : List ℤ) (es : List Equation) (k a b : ℕ) → Satisfies (es ++ record { wire = k; formula = Or a b } ∷ []) f w → is_on w k ≡ is_on w a || is_on w b
or_wire w f es k a b h = ap is_true (satisfies_back es (record { wire = k; formula = Or a b } ∷ []) f w h).0 ∙ truth_of (is_on w a || is_on w b)

-- what the equations of a resuming sequence say of its parts
record Splits (w f : List ℤ) (e : Bool) (base : ℕ) (c a b : Part) : Type 0 where
  second : Satisfies c.equations f w
  first : Satisfies a.equations f w
  done : e ≡ true → is_on w (either base c (joined a b)).done ≡ is_on w c.done || is_on w b.done

splits : (w f : List ℤ) (e : Bool) (base : ℕ) (c a b : Part) → Satisfies (either_if e base c a b).equations f w → Splits w f e base c a b
splits w f true base c a b h =
    let ab = joined a b in
    let last : Equation = record { wire = base + length c.equations + length ab.equations; formula = Or c.done ab.done } in
    let back = satisfies_back c.equations (ab.equations ++ last ∷ []) f w h in
    record {
      second = satisfies_front c.equations (ab.equations ++ last ∷ []) f w h;
      first = satisfies_front a.equations b.equations f w (satisfies_front ab.equations (last ∷ []) f w back);
      done = λ _. or_wire w f ab.equations (base + length c.equations + length ab.equations) c.done ab.done back;
    }
splits w f false base c a b h =
    record { second = satisfies_front c.equations a.equations f w h; first = satisfies_back c.equations a.equations f w h; done = λ e. absurd (true≢false (sym e)) }

either_done : (w : List ℤ) (e : Bool) (base : ℕ) (c a b : Part) → (e ≡ true → is_on w (either base c (joined a b)).done ≡ is_on w c.done || is_on w b.done) → is_on w c.done ≡ false → (e ≡ true → is_on w b.done ≡ false) → is_on w (either_if e base c a b).done ≡ false
either_done w true base c a b d x y = d refl ∙ ap (λ v. v || is_on w b.done) x ∙ y refl
either_done w false base c a b d x y = x

again_done : (w : List ℤ) (e : Bool) (a b : Part) → is_on w 0 ≡ false → is_on w (again_if e a b).done ≡ false
again_done w true a b z = z
again_done w false a b z = z

pub resume_never : (w f : List ℤ) (p : Plain) (base r : ℕ) → is_on w 0 ≡ false → Satisfies (resume p base r).equations f w → ends1 p ≡ false → is_on w (resume p base r).done ≡ false
resume_never w f Nothing base r z h e = z
resume_never w f (Emit s) base r z h e = z
resume_never w f Pause base r z h e = cc
resume_never w f (Send c n) base r z h e = cc
resume_never w f (Receive c) base r z h e = cc
resume_never w f (Loop p) base r z h e = again_done w (ends1 p) (resume p base r) _ z
resume_never w f (Seq p q) base r z h e =
    let c = resume q base (r + registers p) in
    let a = resume p (base + length c.equations) r in
    let b = start q (base + length c.equations + length a.equations) a.done (r + registers p) in
    let s = splits w f (ends1 p) base c a b h in
    either_done w (ends1 p) base c a b s.done
    (resume_never w f q base (r + registers p) z s.second (or_left_off (ends1 q) (ends1 p && ends0 q) e))
    (λ on. start_never w q _ _ _ z (and_right_off (ends1 p) (ends0 q) on (or_right_off (ends1 q) (ends1 p && ends0 q) e)))

-- A copy that doesn't tick.

silent_joined : (w : List ℤ) (a b : Part) → Silent w a → Silent w b → Silent w (joined a b)
silent_joined w a b x y =
    record { done = y.done; sets = off_append w a.sets b.sets x.sets y.sets; emits = emitted-append w a.emits b.emits ∙ ap (λ l. l ++ emitted w b.emits) x.emits ∙ y.emits }

silent_joined_if : (w : List ℤ) (e : Bool) (a b : Part) → Silent w a → Silent w b → Silent w (joined_if e a b)
silent_joined_if w true a b x y = silent_joined w a b x y
silent_joined_if w false a b x y = x

one_off : (w : List ℤ) (r go : ℕ) → is_on w go ≡ false → Off w ((r, go) ∷ [])
one_off w r go h = record { each = λ n. or_off (nat_eq r n && is_on w go) ∙ ap (λ x. nat_eq r n && x) h ∙ and_off (nat_eq r n) }

pub start_silent : (w : List ℤ) (p : Plain) (base go r : ℕ) → is_on w 0 ≡ false → is_on w go ≡ false → Silent w (start p base go r)
start_silent w Nothing base go r z h = record { done = h; sets = record { each = λ n. refl }; emits = refl }
start_silent w Pause base go r z h = record { done = z; sets = one_off w r go h; emits = refl }
start_silent w (Send c n) base go r z h = record { done = z; sets = one_off w r go h; emits = refl }
start_silent w (Receive c) base go r z h = record { done = z; sets = one_off w r go h; emits = refl }
start_silent w (Emit s) base go r z h = record { done = h; sets = record { each = λ n. refl }; emits = ap (λ x. cond x (record { signal = s; value = pos 0 } ∷ []) []) h }
start_silent w (Seq p q) base go r z h =
    let a = start_silent w p base go r z h in
    silent_joined_if w (ends0 p) _ _ a (start_silent w q _ _ _ z a.done)
start_silent w (Loop p) base go r z h = let a = start_silent w p base go r z h in record { done = z; sets = a.sets; emits = a.emits }

silent_either : (w : List ℤ) (e : Bool) (base : ℕ) (c a b : Part) → (e ≡ true → is_on w (either base c (joined a b)).done ≡ is_on w c.done || is_on w b.done) → Silent w c → Silent w a → Silent w b → Silent w (either_if e base c a b)
silent_either w true base c a b d u x y =
    let v = silent_joined w a b x y in
    record { done = d refl ∙ ap (λ k. k || is_on w b.done) u.done ∙ y.done; sets = off_append w c.sets (a.sets ++ b.sets) u.sets v.sets; emits = emitted-append w c.emits (a.emits ++ b.emits) ∙ ap (λ l. l ++ emitted w (a.emits ++ b.emits)) u.emits ∙ v.emits }
silent_either w false base c a b d u x y =
    record { done = u.done; sets = off_append w c.sets a.sets u.sets x.sets; emits = emitted-append w c.emits a.emits ∙ ap (λ l. l ++ emitted w a.emits) u.emits ∙ x.emits }

silent_again : (w : List ℤ) (e : Bool) (a b : Part) → is_on w 0 ≡ false → Silent w a → Silent w b → Silent w (again_if e a b)
silent_again w true a b z x y = let j = silent_joined w a b x y in record { done = z; sets = j.sets; emits = j.emits }
silent_again w false a b z x y = record { done = z; sets = x.sets; emits = x.emits }

again_first : (w f : List ℤ) (e : Bool) (a b : Part) → Satisfies (again_if e a b).equations f w → Satisfies a.equations f w
again_first w f true a b h = satisfies_front a.equations b.equations f w h
again_first w f false a b h = h

-- what the equations of a copy that waits say
record Waiting (w f : List ℤ) (base r : ℕ) : Type 0 where
  ends : is_on w (base + 2) ≡ is_on f r && is_on f (r + 1)
  stays : is_on w (base + 4) ≡ is_on f r && not (is_on f (r + 1))

waiting_says : (w f : List ℤ) (base r : ℕ) → Satisfies (waiting base r).equations f w → Waiting w f base r
waiting_says w f base r h =
    let on : is_on w base ≡ is_on f r = ap is_true h.0 in
    let met : is_on w (base + 1) ≡ is_on f (r + 1) = ap is_true h.1.0 in
    let unmet : is_on w (base + 3) ≡ not (is_on f (r + 1)) = ap is_true h.1.1.1.0 ∙ truth_of (not (is_on w (base + 1))) ∙ ap not met in
    record {
      ends = ap is_true h.1.1.0 ∙ truth_of (is_on w base && is_on w (base + 1)) ∙ ap (λ b. b && is_on w (base + 1)) on ∙ ap (λ b. is_on f r && b) met;
      stays = ap is_true h.1.1.1.1.0 ∙ truth_of (is_on w base && is_on w (base + 3)) ∙ ap (λ b. b && is_on w (base + 3)) on ∙ ap (λ b. is_on f r && b) unmet;
    }

waiting_silent : (w f : List ℤ) (base r : ℕ) → Satisfies (waiting base r).equations f w → is_on f r ≡ false → Silent w (waiting base r)
waiting_silent w f base r h d =
    let s = waiting_says w f base r h in
    record { done = s.ends ∙ ap (λ b. b && is_on f (r + 1)) d; sets = one_off w r (base + 4) (s.stays ∙ ap (λ b. b && not (is_on f (r + 1))) d); emits = refl }

pub resume_silent : (w f : List ℤ) (p : Plain) (base r : ℕ) → is_on w 0 ≡ false → Satisfies (resume p base r).equations f w → live p r (is_on f) ≡ false → Silent w (resume p base r)
resume_silent w f Nothing base r z h d = record { done = z; sets = record { each = λ n. refl }; emits = refl }
resume_silent w f (Emit s) base r z h d = record { done = z; sets = record { each = λ n. refl }; emits = refl }
resume_silent w f (Send c n) base r z h d = waiting_silent w f base r h d
resume_silent w f (Receive c) base r z h d = waiting_silent w f base r h d
resume_silent w f Pause base r z h d = record { done = ap is_true h.0 ∙ d; sets = record { each = λ n. refl }; emits = refl }
resume_silent w f (Seq p q) base r z h d =
    let c = resume q base (r + registers p) in
    let a = resume p (base + length c.equations) r in
    let b = start q (base + length c.equations + length a.equations) a.done (r + registers p) in
    let s = splits w f (ends1 p) base c a b h in
    let u = resume_silent w f q base (r + registers p) z s.second (or_right_off (live p r (is_on f)) (live q (r + registers p) (is_on f)) d) in
    let x = resume_silent w f p (base + length c.equations) r z s.first (or_left_off (live p r (is_on f)) (live q (r + registers p) (is_on f)) d) in
    silent_either w (ends1 p) base c a b s.done u x (start_silent w q _ _ _ z x.done)
resume_silent w f (Loop p) base r z h d =
    let a = resume p base r in
    let b = start p (base + length a.equations) a.done r in
    let x = resume_silent w f p base r z (again_first w f (ends1 p) a b h) d in
    silent_again w (ends1 p) a b z x (start_silent w p (base + length a.equations) a.done r z x.done)

-- A copy sets no register outside its own.

unset : (w : List ℤ) (r go n : ℕ) → r ≢ n → is_set w ((r, go) ∷ []) n ≡ false
unset w r go n ne = ap (λ x. (x && is_on w go) || false) (unequal r n ne)

one_within : (w : List ℤ) (r go high : ℕ) → r < high → Within w ((r, go) ∷ []) r high
one_within w r go high lt = record { below = λ n h. unset w r go n (omega arith); above = λ n h. unset w r go n (omega arith) }

pub start_within : (w : List ℤ) (p : Plain) (base go r : ℕ) → Within w (start p base go r).sets r (r + registers p)
start_within w Nothing base go r = record { below = λ n h. refl; above = λ n h. refl }
start_within w (Emit s) base go r = record { below = λ n h. refl; above = λ n h. refl }
start_within w Pause base go r = one_within w r go (r + 1) (omega arith)
start_within w (Send c n) base go r = one_within w r go (r + 3) (omega arith)
start_within w (Receive c) base go r = one_within w r go (r + 2) (omega arith)
start_within w (Seq p q) base go r =
    within_if (ends0 p) (start p base go r) _ (start_within w p base go r) (start_within w q _ _ (r + registers p)) where
      within_if : (e : Bool) (a b : Part) → Within w a.sets r (r + registers p) → Within w b.sets (r + registers p) (r + registers p + registers q) → Within w (joined_if e a b).sets r (r + registers (Seq p q))
      within_if true a b x y = within_append w _ _ r (r + registers p) (r + registers p) (r + registers p + registers q) r (r + registers (Seq p q)) (omega arith) (omega arith) (omega arith) (omega arith) x y
      within_if false a b x y = record { below = x.below; above = λ n h. x.above n (omega arith) }
start_within w (Loop p) base go r = start_within w p base go r

pub resume_within : (w : List ℤ) (p : Plain) (base r : ℕ) → Within w (resume p base r).sets r (r + registers p)
resume_within w Nothing base r = record { below = λ n h. refl; above = λ n h. refl }
resume_within w (Emit s) base r = record { below = λ n h. refl; above = λ n h. refl }
resume_within w (Send c n) base r = one_within w r (base + 4) (r + 3) (omega arith)
resume_within w (Receive c) base r = one_within w r (base + 4) (r + 2) (omega arith)
resume_within w Pause base r = record { below = λ n h. refl; above = λ n h. refl }
resume_within w (Seq p q) base r =
    within_if (ends1 p) (resume q base (r + registers p)) _ _ (resume_within w q base (r + registers p)) (resume_within w p _ r) (start_within w q _ _ (r + registers p)) where
      within_if : (e : Bool) (c a b : Part) → Within w c.sets (r + registers p) (r + registers p + registers q) → Within w a.sets r (r + registers p) → Within w b.sets (r + registers p) (r + registers p + registers q) → Within w (either_if e base c a b).sets r (r + registers (Seq p q))
      within_if true c a b u x y =
          within_append w _ _ (r + registers p) (r + registers p + registers q) r (r + registers (Seq p q)) r (r + registers (Seq p q)) (omega arith) (omega arith) (omega arith) (omega arith) u
          (within_append w _ _ r (r + registers p) (r + registers p) (r + registers p + registers q) r (r + registers (Seq p q)) (omega arith) (omega arith) (omega arith) (omega arith) x y)
      within_if false c a b u x y =
          within_append w _ _ (r + registers p) (r + registers p + registers q) r (r + registers p) r (r + registers (Seq p q)) (omega arith) (omega arith) (omega arith) (omega arith) u x
resume_within w (Loop p) base r = within_if (ends1 p) (resume p base r) _ (resume_within w p base r) (start_within w p _ _ r) where
  within_if : (e : Bool) (a b : Part) → Within w a.sets r (r + registers p) → Within w b.sets r (r + registers p) → Within w (again_if e a b).sets r (r + registers p)
  within_if true a b x y = within_append w _ _ r (r + registers p) r (r + registers p) r (r + registers p) (omega arith) (omega arith) (omega arith) (omega arith) x y
  within_if false a b x y = x

-- Copies that tick.

abbrev with_code : ℕ → Told → (ℕ → ℤ) → Tick
with_code k a x = record { code = k; rest = a.rest; emits = a.emits; variables = x }

continues_waits : (second : (ℕ → ℤ) → Tick → Type 0) (q : Stmt) (a : Told) (x : ℕ → ℤ) → a.code ≡ 1 → Continues second q (tick_of a x) (has_ended a.code) (tick_of (record { code = 1; rest = rules.Seq a.rest q; emits = a.emits }) x)
continues_waits second q a x c = subst (λ k. Continues second q (with_code k a x) (has_ended k) (tick_of (record { code = 1; rest = rules.Seq a.rest q; emits = a.emits }) x)) (sym c) refl

continues_ended : (second : (ℕ → ℤ) → Tick → Type 0) (q : Stmt) (a b : Told) (x : ℕ → ℤ) → a.code ≡ 0 → second x (tick_of b x) → Continues second q (tick_of a x) (has_ended a.code) (tick_of (record { code = b.code; rest = b.rest; emits = a.emits ++ b.emits }) x)
continues_ended second q a b x c s = subst (λ k. Continues second q (with_code k a x) (has_ended k) (tick_of (record { code = b.code; rest = b.rest; emits = a.emits ++ b.emits }) x)) (sym c) (tick_of b x, s, refl)

-- A first part that goes on waiting, and a second one whose registers stay off.
seq_waits : (w : List ℤ) (env : Env) (p q : Plain) (t : Stmt) (r : ℕ) (a part : Part) → Within w a.sets r (r + registers p) → (x : Active w env p t r a) → x.tick.code ≡ 1 → StandFor p r (is_set w a.sets) x.tick.rest
    → is_on w part.done ≡ false → is_set w part.sets ≡ is_set w a.sets → emitted w part.emits ≡ emitted w a.emits → Active w env (Seq p q) (rules.Seq t (whole q)) r part
seq_waits w env p q t r a part wa x c s d sets emits =
    record {
      tick = record { code = 1; rest = rules.Seq x.tick.rest (whole q); emits = x.tick.emits };
      ticks = λ tables last y. (tick_of x.tick y, x.ticks tables last y, continues_waits (λ v b. Ticks tables last (whole q) env v b) (whole q) x.tick y c);
      emits = emits ∙ x.emits;
      outcome = Waits refl d (first_stands p q x.tick.rest r (is_set w part.sets) (subst (λ f. StandFor p r f x.tick.rest) (sym sets) s) (all_off q (r + registers p) _ (λ n ge lt. ap (λ f. f n) sets ∙ wa.above n ge)));
    }

-- A first part that ticks, and a second one that starts where the first has ended.
seq_active : (w : List ℤ) (env : Env) (p q : Plain) (t : Stmt) (r : ℕ) (a b : Part) → Within w a.sets r (r + registers p) → Within w b.sets (r + registers p) (r + registers p + registers q)
    → Active w env p t r a → (is_on w a.done ≡ false → Silent w b) → (is_on w a.done ≡ true → Active w env q (whole q) (r + registers p) b) → Active w env (Seq p q) (rules.Seq t (whole q)) r (joined a b)
seq_active w env p q t r a b wa wb x silent active = from_first x.outcome where
  from_second : x.tick.code ≡ 0 → Off w a.sets → Active w env q (whole q) (r + registers p) b → Active w env (Seq p q) (rules.Seq t (whole q)) r (joined a b)
  from_second c off y =
      let same = only_second w a.sets b.sets off in
      record {
        tick = record { code = y.tick.code; rest = y.tick.rest; emits = x.tick.emits ++ y.tick.emits };
        ticks = λ tables last v. (tick_of x.tick v, x.ticks tables last v, continues_ended (λ u b. Ticks tables last (whole q) env u b) (whole q) x.tick y.tick v c (y.ticks tables last v));
        emits = emitted-append w a.emits b.emits ∙ ap (λ l. l ++ emitted w b.emits) x.emits ∙ ap (λ l. x.tick.emits ++ l) y.emits;
        outcome = elim y.outcome [
          | Ended c2 d off2 over ↦ Ended c2 d (off_append w a.sets b.sets off off2) over
          | Waits c2 d s ↦ Waits c2 d (second_stands p q y.tick.rest r (is_set w (a.sets ++ b.sets)) (all_off p r _ (λ n ge lt. ap (λ f. f n) same ∙ wb.below n (omega arith))) (subst (λ f. StandFor q (r + registers p) f y.tick.rest) (sym same) s))
        ];
      }

  from_first : Outcome w p r a x.tick → Active w env (Seq p q) (rules.Seq t (whole q)) r (joined a b)
  from_first (Ended c d off over) = from_second c off (active d)
  from_first (Waits c d s) =
      let y = silent d in
      seq_waits w env p q t r a (joined a b) wa x c s y.done (only_first w a.sets b.sets y.sets)
      (emitted-append w a.emits b.emits ∙ ap (λ l. emitted w a.emits ++ l) y.emits ∙ append-nil (emitted w a.emits))

-- the same where the second part's copy is left out, since the first can't end
seq_active_if : (w : List ℤ) (env : Env) (p q : Plain) (r : ℕ) (e : Bool) (a b : Part) → (e ≡ false → is_on w a.done ≡ false) → Within w a.sets r (r + registers p) → Within w b.sets (r + registers p) (r + registers p + registers q)
    → Active w env p (whole p) r a → (is_on w a.done ≡ false → Silent w b) → (is_on w a.done ≡ true → Active w env q (whole q) (r + registers p) b) → Active w env (Seq p q) (rules.Seq (whole p) (whole q)) r (joined_if e a b)
seq_active_if w env p q r true a b never wa wb x silent active = seq_active w env p q (whole p) r a b wa wb x silent active
seq_active_if w env p q r false a b never wa wb x silent active = from x.outcome where
  from : Outcome w p r a x.tick → Active w env (Seq p q) (rules.Seq (whole p) (whole q)) r a
  from (Ended c d off over) = absurd (true≢false (sym d ∙ never refl))
  from (Waits c d s) = seq_waits w env p q (whole p) r a a wa x c s d refl refl

-- a loop whose body waits
loop_waits : (w : List ℤ) (env : Env) (p : Plain) (t : Stmt) (r : ℕ) (a part : Part) → (x : Active w env p t r a) → x.tick.code ≡ 1 → StandFor p r (is_set w a.sets) x.tick.rest
    → is_on w part.done ≡ false → is_set w part.sets ≡ is_set w a.sets → emitted w part.emits ≡ emitted w a.emits → Active w env (Loop p) (rules.Seq t (rules.Loop (whole p))) r part
loop_waits w env p t r a part x c s d sets emits =
    record {
      tick = record { code = 1; rest = rules.Seq x.tick.rest (rules.Loop (whole p)); emits = x.tick.emits };
      ticks = λ tables last y. (tick_of x.tick y, x.ticks tables last y, continues_waits (λ v b. Ticks tables last (rules.Loop (whole p)) env v b) (rules.Loop (whole p)) x.tick y c);
      emits = emits ∙ x.emits;
      outcome = Waits refl d (loop_stands p x.tick.rest r (is_set w part.sets) (subst (λ f. StandFor p r f x.tick.rest) (sym sets) s));
    }

-- a loop that starts
loop_active : (w : List ℤ) (env : Env) (p : Plain) (r : ℕ) (a : Part) → is_on w 0 ≡ false → is_on w a.done ≡ false → Active w env p (whole p) r a → Active w env (Loop p) (rules.Loop (whole p)) r (record a { done = 0 })
loop_active w env p r a z never x = from x.outcome where
  from : Outcome w p r a x.tick → Active w env (Loop p) (rules.Loop (whole p)) r (record a { done = 0 })
  from (Ended c d off over) = absurd (true≢false (sym d ∙ never))
  from (Waits c d s) =
      let again = rules.Seq x.tick.rest (rules.Loop (whole p)) in
      let left : left_at x.tick.code again ≡ again = ap (λ k. left_at k again) c in
      record {
        tick = record { code = x.tick.code; rest = left_at x.tick.code again; emits = x.tick.emits };
        ticks = λ tables last y. (tick_of x.tick y, x.ticks tables last y, ap has_ended c, refl);
        emits = x.emits;
        outcome = Waits c z (subst (λ t. StandFor (Loop p) r (is_set w a.sets) t) (sym left) (loop_stands p x.tick.rest r (is_set w a.sets) s));
      }

-- the `on` of one that waits is set, and its `met` isn't
one_on : (w : List ℤ) (r go : ℕ) → is_on w go ≡ true → is_set w ((r, go) ∷ []) r ≡ true
one_on w r go h = ap (λ x. (x && is_on w go) || false) (equal_self r) ∙ ap (λ x. x || false) h

send_stands : (w : List ℤ) (c r go : ℕ) (n : ℤ) → is_on w go ≡ true → StandFor (Send c n) r (is_set w ((r, go) ∷ [])) (rules.SendWaits c n)
send_stands w c r go n h = record { is_live = one_on w r go h; residual = ap (λ b. cond b (rules.Sent c) (rules.SendWaits c n)) (unset w r go (r + 1) (omega arith)); once = tt }

receive_stands : (w : List ℤ) (c r go : ℕ) → is_on w go ≡ true → StandFor (Receive c) r (is_set w ((r, go) ∷ [])) (rules.ReceiveWaits c)
receive_stands w c r go h = record { is_live = one_on w r go h; residual = ap (λ b. cond b (rules.Received c) (rules.ReceiveWaits c)) (unset w r go (r + 1) (omega arith)); once = tt }

pub start_active : (w : List ℤ) (env : Env) (p : Plain) (base go r : ℕ) → LoopsWait p → is_on w 0 ≡ false → is_on w go ≡ true → Active w env p (whole p) r (start p base go r)
start_active w env Nothing base go r l z h =
    record { tick = record { code = 0; rest = rules.Nothing; emits = [] }; ticks = λ tables last x. refl; emits = refl; outcome = Ended refl h (record { each = λ n. refl }) refl }
start_active w env (Emit s) base go r l z h =
    let one : Emission = record { signal = s; value = pos 0 } in
    record { tick = record { code = 0; rest = rules.Nothing; emits = one ∷ [] }; ticks = λ tables last x. (pos 0, refl, refl); emits = ap (λ x. cond x (one ∷ []) []) h; outcome = Ended refl h (record { each = λ n. refl }) refl }
start_active w env Pause base go r l z h =
    record { tick = record { code = 1; rest = rules.Nothing; emits = [] }; ticks = λ tables last x. refl; emits = refl; outcome = Waits refl z (record { is_live = one_on w r go h; residual = refl; once = tt }) }
start_active w env (Send c n) base go r l z h =
    record { tick = record { code = 1; rest = rules.SendWaits c n; emits = [] }; ticks = λ tables last x. (n, refl, refl); emits = refl; outcome = Waits refl z (send_stands w c r go n h) }
start_active w env (Receive c) base go r l z h =
    record { tick = record { code = 1; rest = rules.ReceiveWaits c; emits = [] }; ticks = λ tables last x. refl; emits = refl; outcome = Waits refl z (receive_stands w c r go h) }
start_active w env (Seq p q) base go r l z h =
    seq_active_if w env p q r (ends0 p) _ _ (λ e. start_never w p base go r z e) (start_within w p base go r) (start_within w q _ _ (r + registers p)) (start_active w env p base go r l.0 z h) (λ d. start_silent w q _ _ _ z d) (λ d. start_active w env q _ _ _ l.1 z d)
start_active w env (Loop p) base go r l z h = loop_active w env p r (start p base go r) z (start_never w p base go r z l.0) (start_active w env p base go r l.1 z h)

-- the first part's copy ticks, and the second's doesn't
first_resumes : (w : List ℤ) (env : Env) (p q : Plain) (t : Stmt) (r base : ℕ) (e : Bool) (c a b : Part) → (e ≡ true → is_on w (either base c (joined a b)).done ≡ is_on w c.done || is_on w b.done) → (e ≡ false → is_on w a.done ≡ false) → Within w a.sets r (r + registers p) → Within w b.sets (r + registers p) (r + registers p + registers q)
    → Silent w c → Active w env p t r a → (is_on w a.done ≡ false → Silent w b) → (is_on w a.done ≡ true → Active w env q (whole q) (r + registers p) b) → Active w env (Seq p q) (rules.Seq t (whole q)) r (either_if e base c a b)
first_resumes w env p q t r base true c a b d never wa wb u x silent active = lifted (seq_active w env p q t r a b wa wb x silent active) where
  done : is_on w (either base c (joined a b)).done ≡ is_on w b.done
  done = d refl ∙ ap (λ v. v || is_on w b.done) u.done

  same : is_set w (c.sets ++ (a.sets ++ b.sets)) ≡ is_set w (a.sets ++ b.sets)
  same = only_second w c.sets (a.sets ++ b.sets) u.sets

  lifted : Active w env (Seq p q) (rules.Seq t (whole q)) r (joined a b) → Active w env (Seq p q) (rules.Seq t (whole q)) r (either base c (joined a b))
  lifted y = record {
    tick = y.tick;
    ticks = y.ticks;
    emits = emitted-append w c.emits (a.emits ++ b.emits) ∙ ap (λ l. l ++ emitted w (a.emits ++ b.emits)) u.emits ∙ y.emits;
    outcome = elim y.outcome [
      | Ended k e off over ↦ Ended k (done ∙ e) (off_append w c.sets (a.sets ++ b.sets) u.sets off) over
      | Waits k e s ↦ Waits k (done ∙ e) (subst (λ f. StandFor (Seq p q) r f y.tick.rest) (sym same) s)
    ];
  }
first_resumes w env p q t r base false c a b d never wa wb u x silent active = from x.outcome where
  from : Outcome w p r a x.tick → Active w env (Seq p q) (rules.Seq t (whole q)) r (beside c a)
  from (Ended k e off over) = absurd (true≢false (sym e ∙ never refl))
  from (Waits k e s) = seq_waits w env p q t r a (beside c a) wa x k s u.done (only_second w c.sets a.sets u.sets) (emitted-append w c.emits a.emits ∙ ap (λ l. l ++ emitted w a.emits) u.emits)

-- the second part's copy ticks, and the first's doesn't
second_resumes : (w : List ℤ) (env : Env) (p q : Plain) (t : Stmt) (r base : ℕ) (e : Bool) (c a b : Part) → (e ≡ true → is_on w (either base c (joined a b)).done ≡ is_on w c.done || is_on w b.done) → Within w c.sets (r + registers p) (r + registers p + registers q)
    → Active w env q t (r + registers p) c → Silent w a → Silent w b → Active w env (Seq p q) t r (either_if e base c a b)
second_resumes w env p q t r base e c a b d wc x ya yb = pick e d where
  lifted : (part : Part) → is_on w part.done ≡ is_on w c.done → is_set w part.sets ≡ is_set w c.sets → emitted w part.emits ≡ emitted w c.emits → (Off w c.sets → Off w part.sets) → Active w env (Seq p q) t r part
  lifted part done same emits off = record {
    tick = x.tick;
    ticks = x.ticks;
    emits = emits ∙ x.emits;
    outcome = elim x.outcome [
      | Ended k e o over ↦ Ended k (done ∙ e) (off o) over
      | Waits k e s ↦ Waits k (done ∙ e) (second_stands p q x.tick.rest r (is_set w part.sets) (all_off p r _ (λ n ge lt. ap (λ f. f n) same ∙ wc.below n (omega arith))) (subst (λ f. StandFor q (r + registers p) f x.tick.rest) (sym same) s))
    ];
  }

  pick : (e : Bool) → (e ≡ true → is_on w (either base c (joined a b)).done ≡ is_on w c.done || is_on w b.done) → Active w env (Seq p q) t r (either_if e base c a b)
  pick true d =
      let y = silent_joined w a b ya yb in
      lifted (either base c (joined a b)) (d refl ∙ ap (λ v. is_on w c.done || v) yb.done ∙ or_off (is_on w c.done)) (only_first w c.sets (a.sets ++ b.sets) y.sets)
      (emitted-append w c.emits (a.emits ++ b.emits) ∙ ap (λ l. emitted w c.emits ++ l) y.emits ∙ append-nil (emitted w c.emits)) (λ o. off_append w c.sets (a.sets ++ b.sets) o y.sets)
  pick false d =
      lifted (beside c a) refl (only_first w c.sets a.sets ya.sets) (emitted-append w c.emits a.emits ∙ ap (λ l. emitted w c.emits ++ l) ya.emits ∙ append-nil (emitted w c.emits)) (λ o. off_append w c.sets a.sets o ya.sets)

-- a loop that goes on, and starts its body again where it ends
loop_resumes : (w : List ℤ) (env : Env) (p : Plain) (t : Stmt) (r : ℕ) (e : Bool) (a b : Part) → is_on w 0 ≡ false → (e ≡ false → is_on w a.done ≡ false) → is_on w b.done ≡ false → Active w env p t r a → (is_on w a.done ≡ false → Silent w b) → (is_on w a.done ≡ true → Active w env p (whole p) r b)
    → Active w env (Loop p) (rules.Seq t (rules.Loop (whole p))) r (again_if e a b)
loop_resumes w env p t r true a b z never rest_never x silent active = from x.outcome where
  again : x.tick.code ≡ 0 → Off w a.sets → Active w env p (whole p) r b → Active w env (Loop p) (rules.Seq t (rules.Loop (whole p))) r (record (joined a b) { done = 0 })
  again c off y0 =
      let y = loop_active w env p r b z rest_never y0 in
      record {
        tick = record { code = y.tick.code; rest = y.tick.rest; emits = x.tick.emits ++ y.tick.emits };
        ticks = λ tables last v. (tick_of x.tick v, x.ticks tables last v, continues_ended (λ u b. Ticks tables last (rules.Loop (whole p)) env u b) (rules.Loop (whole p)) x.tick y.tick v c (y.ticks tables last v));
        emits = emitted-append w a.emits b.emits ∙ ap (λ l. l ++ emitted w b.emits) x.emits ∙ ap (λ l. x.tick.emits ++ l) y.emits;
        outcome = elim y.outcome [
          | Ended c2 d off2 over ↦ absurd (true≢false (sym d ∙ z))
          | Waits c2 d s ↦ Waits c2 z (subst (λ f. StandFor (Loop p) r f y.tick.rest) (sym (only_second w a.sets b.sets off)) s)
        ];
      }

  from : Outcome w p r a x.tick → Active w env (Loop p) (rules.Seq t (rules.Loop (whole p))) r (record (joined a b) { done = 0 })
  from (Ended c d off over) = again c off (active d)
  from (Waits c d s) =
      let y = silent d in
      loop_waits w env p t r a (record (joined a b) { done = 0 }) x c s z (only_first w a.sets b.sets y.sets) (emitted-append w a.emits b.emits ∙ ap (λ l. emitted w a.emits ++ l) y.emits ∙ append-nil (emitted w a.emits))
loop_resumes w env p t r false a b z never rest_never x silent active = from x.outcome where
  from : Outcome w p r a x.tick → Active w env (Loop p) (rules.Seq t (rules.Loop (whole p))) r (record a { done = 0 })
  from (Ended c d off over) = absurd (true≢false (sym d ∙ never refl))
  from (Waits c d s) = loop_waits w env p t r a (record a { done = 0 }) x c s z refl refl

-- one that waits ends where it has met, and stays on where it hasn't
waiting_active : (w f : List ℤ) (env : Env) (p : Plain) (done waits : Stmt) (base r : ℕ) → Satisfies (waiting base r).equations f w → is_on f r ≡ true
    → TicksAlways done env (record { code = 0; rest = rules.Nothing; emits = [] }) → TicksAlways waits env (record { code = 1; rest = waits; emits = [] })
    → (is_on w (base + 4) ≡ true → StandFor p r (is_set w ((r, base + 4) ∷ [])) waits) → Active w env p (cond (is_on f (r + 1)) done waits) r (waiting base r)
waiting_active w f env p done waits base r h v ends stays stands = by_met (is_on f (r + 1)) refl where
  s : Waiting w f base r
  s = waiting_says w f base r h

  by_met : (b : Bool) → is_on f (r + 1) ≡ b → Active w env p (cond b done waits) r (waiting base r)
  by_met true e =
      let off : is_on w (base + 4) ≡ false = s.stays ∙ ap (λ b. is_on f r && not b) e ∙ and_off (is_on f r) in
      record { tick = record { code = 0; rest = rules.Nothing; emits = [] }; ticks = ends; emits = refl; outcome = Ended refl (s.ends ∙ ap (λ b. is_on f r && b) e ∙ ap (λ b. b && true) v) (one_off w r (base + 4) off) refl }
  by_met false e =
      let off : is_on w (base + 2) ≡ false = s.ends ∙ ap (λ b. is_on f r && b) e ∙ and_off (is_on f r) in
      record { tick = record { code = 1; rest = waits; emits = [] }; ticks = stays; emits = refl; outcome = Waits refl off (stands (s.stays ∙ ap (λ b. is_on f r && not b) e ∙ ap (λ b. b && true) v)) }

pub resume_active : (w f : List ℤ) (env : Env) (p : Plain) (base r : ℕ) → LoopsWait p → is_on w 0 ≡ false → Satisfies (resume p base r).equations f w → live p r (is_on f) ≡ true → LivesOnce p r (is_on f) → Active w env p (rest p r (is_on f)) r (resume p base r)
resume_active w f env Nothing base r l z h v once = cc
resume_active w f env (Emit s) base r l z h v once = cc
resume_active w f env Pause base r l z h v once =
    record { tick = record { code = 0; rest = rules.Nothing; emits = [] }; ticks = λ tables last x. refl; emits = refl; outcome = Ended refl (ap is_true h.0 ∙ v) (record { each = λ n. refl }) refl }
resume_active w f env (Send c n) base r l z h v once =
    waiting_active w f env (Send c n) (rules.Sent c) (rules.SendWaits c n) base r h v (λ tables last x. refl) (λ tables last x. refl) (λ e. send_stands w c r (base + 4) n e)
resume_active w f env (Receive c) base r l z h v once =
    waiting_active w f env (Receive c) (rules.Received c) (rules.ReceiveWaits c) base r h v (λ tables last x. refl) (λ tables last x. refl) (λ e. receive_stands w c r (base + 4) e)
resume_active w f env (Loop p) base r l z h v once =
    let a = resume p base r in
    let b = start p (base + length a.equations) a.done r in
    let ha = again_first w f (ends1 p) a b h in
    loop_resumes w env p (rest p r (is_on f)) r (ends1 p) a b z (λ e. resume_never w f p base r z ha e) (start_never w p (base + length a.equations) a.done r z l.0) (resume_active w f env p base r l.1 z ha v once) (λ d. start_silent w p (base + length a.equations) a.done r z d) (λ d. start_active w env p (base + length a.equations) a.done r l.1 z d)
resume_active w f env (Seq p q) base r l z h v once =
    let c = resume q base (r + registers p) in
    let a = resume p (base + length c.equations) r in
    let b = start q (base + length c.equations + length a.equations) a.done (r + registers p) in
    let s = splits w f (ends1 p) base c a b h in
    elim (bool_cases (live p r (is_on f))) [
      | inl first ↦
          let x = resume_active w f env p (base + length c.equations) r l.0 z s.first first once.1 in
          let u = resume_silent w f q base (r + registers p) z s.second (and_right_off (live p r (is_on f)) (live q (r + registers p) (is_on f)) first once.0) in
          let t : rules.Seq (rest p r (is_on f)) (whole q) ≡ rest (Seq p q) r (is_on f) = sym (ap (λ k. cond k (rules.Seq (rest p r (is_on f)) (whole q)) (rest q (r + registers p) (is_on f))) first) in
          subst (λ k. Active w env (Seq p q) k r (either_if (ends1 p) base c a b)) t
          (first_resumes w env p q (rest p r (is_on f)) r base (ends1 p) c a b s.done (λ e. resume_never w f p (base + length c.equations) r z s.first e) (resume_within w p (base + length c.equations) r) (start_within w q _ _ (r + registers p)) u x (λ d. start_silent w q _ _ _ z d) (λ d. start_active w env q _ _ _ l.1 z d))
      | inr second ↦
          let x = resume_silent w f p (base + length c.equations) r z s.first second in
          let y = start_silent w q (base + length c.equations + length a.equations) a.done (r + registers p) z x.done in
          let u = resume_active w f env q base (r + registers p) l.1 z s.second (or_right_on (live p r (is_on f)) (live q (r + registers p) (is_on f)) second v) once.2 in
          let t : rest q (r + registers p) (is_on f) ≡ rest (Seq p q) r (is_on f) = sym (ap (λ k. cond k (rules.Seq (rest p r (is_on f)) (whole q)) (rest q (r + registers p) (is_on f))) second) in
          subst (λ k. Active w env (Seq p q) k r (either_if (ends1 p) base c a b)) t (second_resumes w env p q (rest q (r + registers p) (is_on f)) r base (ends1 p) c a b s.done (resume_within w q base (r + registers p)) u x y)
    ]
