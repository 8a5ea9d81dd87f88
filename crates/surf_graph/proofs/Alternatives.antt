-- Two alternatives: what they tell, from what the one that ticks tells.
use Rattle.std.proofs.Common.{◌≡◌, ℕ, suc, ◌+◌, ◌==◌, nat_lt, ℤ, Bool, true, false, ◌&&◌, ◌||◌, cond, List, [], ◌∷◌, ◌++◌, refl, sym, ap, ap₂, ◌∙◌, arith}
use Rattle.std.proofs.lemmas.Bool.Decides.{nat_tests}
use Rattle.std.proofs.Math.Path.{fun_ext}
use Rattle.kernel_terms.specs.declared.tables.Tables.{Tables}
use Rattle.kernel_terms.specs.Statements.{Stmt}
use Rattle.kernel_rules.specs.definitions.Signals.{Env}
use Rattle.kernel_rules.specs.definitions.TickRule.{Tick, Ticks}
use Rattle.std.specs.Int.{int_max}
use Rattle.surf_graph.specs.definitions.Formulas.{Equation, Satisfies, is_on, told}
use Rattle.surf_graph.specs.definitions.Copies.{Copy, Sets, below, from, joined, has, put_once, both_write, joins, join_wires, wires_by, alternatives}
use Rattle.surf_graph.specs.definitions.Tells.{Off, registers_set, Stands, Active, Quiet, Silent}
use Rattle.surf_graph.proofs.SetValues.{off_joined, off_below, off_from, emitted_first, emitted_second}
use Rattle.surf_graph.proofs.Parts.{by_cases, status_is}

-- the variables that both assign

or_none : (b : Bool) → b || false ≡ b
or_none true = refl
or_none false = refl

or_more : (a b c : Bool) → a || (b || c) ≡ (a || b) || c
or_more true b c = refl
or_more false b c = refl

pub has_append : (xs ys : List ℕ) (y : ℕ) → has (xs ++ ys) y ≡ has xs y || has ys y
has_append [] ys y = refl
has_append (x ∷ xs) ys y = ap (λ b. (x == y) || b) (has_append xs ys y) ∙ or_more (x == y) (has xs y) (has ys y)

same_name : (i j : ℕ) → (i == j) ≡ true → i ≡ j
same_name i j g = grind (arith, nat_tests)

or_swap : (a b c : Bool) → a || (b || c) ≡ b || (a || c)
or_swap true true c = refl
or_swap true false c = refl
or_swap false b c = refl

or_twice : (a b : Bool) → a || (a || b) ≡ a || b
or_twice true b = refl
or_twice false b = refl

has_either : (b : Bool) (xs ys : List ℕ) (y : ℕ) (h : Bool) → (b ≡ true → has xs y ≡ h) → (b ≡ false → has ys y ≡ h) → has (cond b xs ys) y ≡ h
has_either true xs ys y h f g = f refl
has_either false xs ys y h f g = g refl

pub has_put_once : (x : ℕ) (zs : List ℕ) (y : ℕ) → has (put_once x zs) y ≡ (x == y) || has zs y
has_put_once x [] y = refl
has_put_once x (z ∷ zs) y =
    has_either (nat_lt x z) (x ∷ (z ∷ zs)) (z ∷ cond (x == z) zs (put_once x zs)) y ((x == y) || ((z == y) || has zs y))
    (λ e. refl)
    (λ e. ap (λ b. (z == y) || b)
    (has_either (x == z) zs (put_once x zs) y (cond (x == z) (has zs y) ((x == y) || has zs y)) (λ i. sym (ap (λ b. cond b (has zs y) ((x == y) || has zs y)) i)) (λ i. has_put_once x zs y ∙ sym (ap (λ b. cond b (has zs y) ((x == y) || has zs y)) i)))
    ∙ joined_ors x z y (has zs y)) where
      joined_ors : (x z y : ℕ) (h : Bool) → (z == y) || cond (x == z) h ((x == y) || h) ≡ (x == y) || ((z == y) || h)
      joined_ors x z y h =
          by_cases (x == z)
          (λ i. ap (λ b. (z == y) || cond b h ((x == y) || h)) i ∙ sym (ap (λ k. (k == y) || ((z == y) || h)) (same_name x z i) ∙ or_twice (z == y) h))
          (λ i. ap (λ b. (z == y) || cond b h ((x == y) || h)) i ∙ or_swap (z == y) (x == y) h)

-- a variable is added where the other list has it too
has_if : (q : List ℕ) (x y : ℕ) (zs : List ℕ) (h w : Bool) → has q x ≡ w → has zs y ≡ h && has q y → has (cond w (put_once x zs) zs) y ≡ ((x == y) || h) && has q y
has_if q x y zs h true ew i =
    has_put_once x zs y
    ∙ by_cases (x == y)
    (λ e. ap (λ b. b || has zs y) e ∙ sym (ap (λ b. (b || h) && has q y) e ∙ ap (has q) (sym (same_name x y e)) ∙ ew))
    (λ e. ap (λ b. b || has zs y) e ∙ i ∙ sym (ap (λ b. (b || h) && has q y) e))
has_if q x y zs h false ew i =
    by_cases (x == y)
    (λ e.
    let lacks : has q y ≡ false = ap (has q) (sym (same_name x y e)) ∙ ew in
    i ∙ ap (λ b. h && b) lacks ∙ none_on h ∙ sym (ap (λ b. (b || h) && has q y) e ∙ lacks))
    (λ e. i ∙ sym (ap (λ b. (b || h) && has q y) e)) where
      none_on : (b : Bool) → b && false ≡ false
      none_on true = refl
      none_on false = refl

pub has_both_write : (xs q : List ℕ) (y : ℕ) → has (both_write xs q) y ≡ has xs y && has q y
has_both_write [] q y = refl
has_both_write (x ∷ xs) q y = has_if q x y (both_write xs q) (has xs y) (has q x) refl (has_both_write xs q y)

-- what the wires after a choice tell

join_step : (w : ℕ → ℤ) (b : Bool) (i j : ℕ) (u : ℤ) (h : Bool) (v : ℤ) → (b ≡ true → w i ≡ u) → w j ≡ cond h u v → w (cond b i j) ≡ cond (b || h) u v
join_step w true i j u h v f g = f refl
join_step w false i j u h v f g = g

pub join_tells : (f w : ℕ → ℤ) (other n : ℕ) (a b v : ℕ → ℕ) (xs : List ℕ) (y : ℕ) → Satisfies f w (joins other n a b xs)
    → w (join_wires n v xs y) ≡ cond (has xs y) (cond (is_on w other) (w (b y)) (w (a y))) (w (v y))
join_tells f w other n a b v [] y h = refl
join_tells f w other n a b v (x ∷ xs) y h =
    join_step w (x == y) n (join_wires (n + 1) v xs y) (cond (is_on w other) (w (b y)) (w (a y))) (has xs y) (w (v y))
    (λ e. h.0 ∙ ap (λ i. cond (is_on w other) (w (b i)) (w (a i))) (same_name x y e))
    (join_tells f w other (n + 1) a b v xs y h.1)

at_both : (w : ℕ → ℤ) (b : Bool) (x y : ℕ) → w (cond b x y) ≡ cond b (w x) (w y)
at_both w true x y = refl
at_both w false x y = refl

choice_tells : (f w : ℕ → ℤ) (p q : List ℕ) (other n : ℕ) (a b : ℕ → ℕ) (y : ℕ) → Satisfies f w (joins other n a b (both_write p q))
    → w (join_wires n (wires_by q b a) (both_write p q) y) ≡ cond (has p y && has q y) (cond (is_on w other) (w (b y)) (w (a y))) (cond (has q y) (w (b y)) (w (a y)))
choice_tells f w p q other n a b y h =
    join_tells f w other n a b (wires_by q b a) (both_write p q) y h
    ∙ ap₂ (λ i j. cond i (cond (is_on w other) (w (b y)) (w (a y))) j) (has_both_write p q y) (at_both w (has q y) (b y) (a y))

first_value : (p q : Bool) (A B X : ℤ) → B ≡ X → (p ≡ false → A ≡ X) → cond (p && q) A (cond q B A) ≡ A
first_value true true A B X h k = refl
first_value true false A B X h k = refl
first_value false true A B X h k = h ∙ sym (k refl)
first_value false false A B X h k = refl

second_value : (p q : Bool) (A B X : ℤ) → A ≡ X → (q ≡ false → B ≡ X) → cond (p && q) B (cond q B A) ≡ B
second_value true true A B X h k = refl
second_value true false A B X h k = h ∙ sym (k refl)
second_value false true A B X h k = refl
second_value false false A B X h k = h ∙ sym (k refl)

no_value : (i o q : Bool) (A B X : ℤ) → A ≡ X → B ≡ X → cond i (cond o B A) (cond q B A) ≡ X
no_value true true q A B X h k = k
no_value true false q A B X h k = h
no_value false o true A B X h k = k
no_value false o false A B X h k = h

abbrev pub joined_wires : List ℕ → List ℕ → Copy → Copy → ℕ → ℕ
joined_wires p q a b = join_wires b.next (wires_by q b.variables a.variables) (both_write p q)

abbrev pub Joins : (ℕ → ℤ) → (ℕ → ℤ) → List ℕ → List ℕ → ℕ → Copy → Copy → Type 0
Joins f w p q other a b = Satisfies f w (joins other b.next a.variables b.variables (both_write p q))

pub told_first : (f w x : ℕ → ℤ) (p q : List ℕ) (other : ℕ) (a b : Copy) → Joins f w p q other a b → is_on w other ≡ false → told w b.variables ≡ x → ((y : ℕ) → has p y ≡ false → told w a.variables y ≡ x y)
    → told w (joined_wires p q a b) ≡ told w a.variables
told_first f w x p q other a b h off quiet only =
    fun_ext (λ y. choice_tells f w p q other b.next a.variables b.variables y h
    ∙ ap (λ i. cond (has p y && has q y) (cond i (w (b.variables y)) (w (a.variables y))) (cond (has q y) (w (b.variables y)) (w (a.variables y)))) off
    ∙ first_value (has p y) (has q y) (w (a.variables y)) (w (b.variables y)) (x y) (ap (λ (i : ℕ → ℤ). i y) quiet) (only y))

pub told_second : (f w x : ℕ → ℤ) (p q : List ℕ) (other : ℕ) (a b : Copy) → Joins f w p q other a b → is_on w other ≡ true → told w a.variables ≡ x → ((y : ℕ) → has q y ≡ false → told w b.variables y ≡ x y)
    → told w (joined_wires p q a b) ≡ told w b.variables
told_second f w x p q other a b h on quiet only =
    fun_ext (λ y. choice_tells f w p q other b.next a.variables b.variables y h
    ∙ ap (λ i. cond (has p y && has q y) (cond i (w (b.variables y)) (w (a.variables y))) (cond (has q y) (w (b.variables y)) (w (a.variables y)))) on
    ∙ second_value (has p y) (has q y) (w (a.variables y)) (w (b.variables y)) (x y) (ap (λ (i : ℕ → ℤ). i y) quiet) (only y))

pub told_none : (f w x : ℕ → ℤ) (p q : List ℕ) (other : ℕ) (a b : Copy) → Joins f w p q other a b → told w a.variables ≡ x → told w b.variables ≡ x → told w (joined_wires p q a b) ≡ x
told_none f w x p q other a b h u v =
    fun_ext (λ y. choice_tells f w p q other b.next a.variables b.variables y h
    ∙ no_value (has p y && has q y) (is_on w other) (has q y) (w (a.variables y)) (w (b.variables y)) (x y) (ap (λ (i : ℕ → ℤ). i y) u) (ap (λ (i : ℕ → ℤ). i y) v))

-- neither ticks

pub quiet_both : (f w x : ℕ → ℤ) (p q : List ℕ) (other n l : ℕ) (S T : ℕ → List Sets) (own : List Equation) (a b : Copy) → w n ≡ int_max (w a.status) (w b.status) → Joins f w p q other a b → Quiet w x a → Quiet w x b → Quiet w x (alternatives p q other n l S T own a b)
quiet_both f w x p q other n l S T own a b h js u v =
    record {
      status = status_is w n a.status b.status 0 0 0 h u.status v.status refl;
      emits = emitted_first w a.emits b.emits [] u.emits v.emits;
      variables = told_none f w x p q other a b js u.variables v.variables;
    }

pub silent_both : (f w x : ℕ → ℤ) (p q : List ℕ) (other n l m : ℕ) (own : List Equation) (a b : Copy) → w n ≡ int_max (w a.status) (w b.status) → Joins f w p q other a b → Silent w x a → Silent w x b → Silent w x (alternatives p q other n l (below m a.sets) (from m b.sets) own a b)
silent_both f w x p q other n l m own a b h js u v =
    record {
      quiet = quiet_both f w x p q other n l (below m a.sets) (from m b.sets) own a b h js u.quiet v.quiet;
      sets = off_joined w (below m a.sets) (from m b.sets) (off_below w m a.sets u.sets) (off_from w m b.sets v.sets);
    }

-- one of the two ticks

abbrev pub active_first :
    (tables : Tables) (last : ℕ → ℤ) (env : Env) (x f w : ℕ → ℤ) (p1 q1 : List ℕ) (other : ℕ) (p t P T : Stmt) (n N keep k l : ℕ) (S U : ℕ → List Sets) (own : List Equation) (a b : Copy)
    → w k ≡ int_max (w a.status) (w b.status) → Joins f w p1 q1 other a b → is_on w other ≡ false → ((y : ℕ) → has p1 y ≡ false → told w a.variables y ≡ x y)
    → Active tables last env x w p t n keep a → Quiet w x b
    → ((o : Tick) → Ticks tables last t env x o → Ticks tables last T env x o)
    → ((s : Stmt) → Stands tables p n (registers_set w a.sets) s → Stands tables P N (registers_set w (joined S U)) s)
    → (Off w a.sets → Off w (joined S U))
    → Active tables last env x w P T N keep (alternatives p1 q1 other k l S U own a b)
active_first tables last env x f w p1 q1 other p t P T n N keep k l S U own a b h js dark le u v goes stands off =
    let o = u.tick in
    let y = u.tells in
    record {
      tick = o;
      ticks = goes o u.ticks;
      tells = record {
        status = status_is w k a.status b.status (suc o.code) 0 (suc o.code) h y.status v.status (omega arith);
        emits = emitted_first w a.emits b.emits o.emits y.emits v.emits;
        variables = told_first f w x p1 q1 other a b js dark v.variables le ∙ y.variables;
        pure = y.pure;
        sets = λ e. stands o.rest (y.sets e);
        unset = λ e. off (y.unset e);
      };
    }

abbrev pub active_second :
    (tables : Tables) (last : ℕ → ℤ) (env : Env) (x f w : ℕ → ℤ) (p1 q1 : List ℕ) (other : ℕ) (p t P T : Stmt) (n N keep k l : ℕ) (S U : ℕ → List Sets) (own : List Equation) (a b : Copy)
    → w k ≡ int_max (w a.status) (w b.status) → Joins f w p1 q1 other a b → is_on w other ≡ true → ((y : ℕ) → has q1 y ≡ false → told w b.variables y ≡ x y)
    → Quiet w x a → Active tables last env x w p t n keep b
    → ((o : Tick) → Ticks tables last t env x o → Ticks tables last T env x o)
    → ((s : Stmt) → Stands tables p n (registers_set w b.sets) s → Stands tables P N (registers_set w (joined S U)) s)
    → (Off w b.sets → Off w (joined S U))
    → Active tables last env x w P T N keep (alternatives p1 q1 other k l S U own a b)
active_second tables last env x f w p1 q1 other p t P T n N keep k l S U own a b h js on le v u goes stands off =
    let o = u.tick in
    let y = u.tells in
    record {
      tick = o;
      ticks = goes o u.ticks;
      tells = record {
        status = status_is w k a.status b.status 0 (suc o.code) (suc o.code) h v.status y.status (omega arith);
        emits = emitted_second w a.emits b.emits o.emits v.emits y.emits;
        variables = told_second f w x p1 q1 other a b js on v.variables le ∙ y.variables;
        pure = y.pure;
        sets = λ e. stands o.rest (y.sets e);
        unset = λ e. off (y.unset e);
      };
    }
