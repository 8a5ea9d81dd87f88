-- Registers of a sequence are those of one part where the other's are off.
use Rattle.std.proofs.Common.{◌≡◌, ℕ, ◌+◌, ◌<◌, ◌≤◌, Bool, false, ◌&&◌, ◌||◌, cond, refl, ap, ◌∙◌, arith}
use Rattle.domain_core.specs.equations.BuiltForms.{Plain, Nothing, Pause, Emit, Seq, Loop, Send, Receive, whole}
use Rattle.kernel_terms.specs.Statements.{Stmt}
use Rattle.kernel_terms.specs.Statements as rules
use Rattle.domain_core.specs.equations.BuiltRegisters.{registers, live, rest, LivesOnce, StandFor}
use Rattle.domain_core.proofs.lemmas.equations.CircuitPairs.{and_off}

pub record AllOff (p : Plain) (r : ℕ) (on : ℕ → Bool) : Type 0 where
  pub dead : live p r on ≡ false
  pub once : LivesOnce p r on

pub all_off : (p : Plain) (r : ℕ) (on : ℕ → Bool) → ((n : ℕ) → r ≤ n → n < r + registers p → on n ≡ false) → AllOff p r on
all_off Nothing r on h = record { dead = refl; once = tt }
all_off (Emit s) r on h = record { dead = refl; once = tt }
all_off Pause r on h = record { dead = h r (omega arith) (omega arith); once = tt }
all_off (Send c n) r on h = record { dead = h r (omega arith) (omega arith); once = tt }
all_off (Receive c) r on h = record { dead = h r (omega arith) (omega arith); once = tt }
all_off (Seq p q) r on h =
    let a = all_off p r on (λ n ge lt. h n ge (omega arith)) in
    let b = all_off q (r + registers p) on (λ n ge lt. h n (omega arith) (omega arith)) in
    record {
      dead = ap (λ x. x || live q (r + registers p) on) a.dead ∙ b.dead;
      once = (ap (λ x. x && live q (r + registers p) on) a.dead, a.once, b.once);
    }
all_off (Loop p) r on h = let a = all_off p r on h in record { dead = a.dead; once = a.once }

pub first_stands : (p q : Plain) (t : Stmt) (r : ℕ) (on : ℕ → Bool) → StandFor p r on t → AllOff q (r + registers p) on → StandFor (Seq p q) r on (rules.Seq t (whole q))
first_stands p q t r on s b =
    record {
      is_live = ap (λ x. x || live q (r + registers p) on) s.is_live;
      residual = ap (λ x. cond x (rules.Seq (rest p r on) (whole q)) (rest q (r + registers p) on)) s.is_live ∙ ap (λ x. rules.Seq x (whole q)) s.residual;
      once = (ap (λ x. live p r on && x) b.dead ∙ and_off (live p r on), s.once, b.once);
    }

pub second_stands : (p q : Plain) (t : Stmt) (r : ℕ) (on : ℕ → Bool) → AllOff p r on → StandFor q (r + registers p) on t → StandFor (Seq p q) r on t
second_stands p q t r on a s =
    record {
      is_live = ap (λ x. x || live q (r + registers p) on) a.dead ∙ s.is_live;
      residual = ap (λ x. cond x (rules.Seq (rest p r on) (whole q)) (rest q (r + registers p) on)) a.dead ∙ s.residual;
      once = (ap (λ x. x && live q (r + registers p) on) a.dead, a.once, s.once);
    }

pub loop_stands : (p : Plain) (t : Stmt) (r : ℕ) (on : ℕ → Bool) → StandFor p r on t → StandFor (Loop p) r on (rules.Seq t (rules.Loop (whole p)))
loop_stands p t r on s = record { is_live = s.is_live; residual = ap (λ x. rules.Seq x (rules.Loop (whole p))) s.residual; once = s.once }
