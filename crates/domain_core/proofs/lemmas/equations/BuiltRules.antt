-- The registers of a built statement are those of the rules.
use Rattle.std.proofs.Common.{◌≡◌, ℕ, ◌+◌, ℤ, Bool, true, false, ◌&&◌, ◌||◌, cond, refl, sym, ap, ◌∙◌, subst, length-append}
use Rattle.java_values.specs.Arithmetic.{is_true}
use Rattle.kernel_terms.specs.declared.tables.Tables.{Tables}
use Rattle.kernel_terms.specs.Statements.{Stmt}
use Rattle.kernel_terms.specs.Statements as rules
use Rattle.kernel_rules.specs.definitions.Registers as frame
use Rattle.domain_core.specs.equations.BuiltForms.{Plain, Nothing, Pause, Emit, Seq, Loop, Send, Receive, whole}
use Rattle.domain_core.specs.equations.BuiltRegisters.{registers, live, rest, LivesOnce, StandFor, HoldsLiteral}

pub registers-whole : (tables : Tables) (p : Plain) → frame.registers tables (whole p) ≡ registers p
registers-whole tables Nothing = refl
registers-whole tables Pause = refl
registers-whole tables (Emit s) = refl
registers-whole tables (Seq p q) =
    length-append (frame.statement_registers tables (whole p)) (frame.statement_registers tables (whole q))
    ∙ ap (λ n. n + frame.registers tables (whole q)) (registers-whole tables p) ∙ ap (λ n. registers p + n) (registers-whole tables q)
registers-whole tables (Loop p) = registers-whole tables p
registers-whole tables (Send c n) = refl
registers-whole tables (Receive c) = refl

-- the flags of the statement's registers are those of the list
abbrev pub Flags : Plain → ℕ → (ℕ → ℤ) → (ℕ → Bool) → Type 0
Flags Nothing n r on = Unit {0}
Flags Pause n r on = is_true (r n) ≡ on n
Flags (Emit s) n r on = Unit {0}
Flags (Seq p q) n r on = Flags p n r on × Flags q (n + registers p) r on
Flags (Loop p) n r on = Flags p n r on
Flags (Send c v) n r on = (is_true (r n) ≡ on n) × (is_true (r (n + 1)) ≡ on (n + 1))
Flags (Receive c) n r on = (is_true (r n) ≡ on n) × (is_true (r (n + 1)) ≡ on (n + 1))

pub live-whole : (tables : Tables) (p : Plain) (n : ℕ) (r : ℕ → ℤ) (on : ℕ → Bool) → Flags p n r on → frame.live tables (whole p) n r ≡ live p n on
live-whole tables Nothing n r on f = refl
live-whole tables Pause n r on f = f
live-whole tables (Emit s) n r on f = refl
live-whole tables (Seq p q) n r on f =
    ap (λ k. frame.live tables (whole p) n r || frame.live tables (whole q) (n + k) r) (registers-whole tables p)
    ∙ ap (λ b. b || frame.live tables (whole q) (n + registers p) r) (live-whole tables p n r on f.0)
    ∙ ap (λ b. live p n on || b) (live-whole tables q (n + registers p) r on f.1)
live-whole tables (Loop p) n r on f = live-whole tables p n r on f
live-whole tables (Send c v) n r on f = f.0
live-whole tables (Receive c) n r on f = f.0

-- where each send that is on has its literal
pub rest-whole : (tables : Tables) (p : Plain) (n : ℕ) (r : ℕ → ℤ) (on : ℕ → Bool) → Flags p n r on → HoldsLiteral p n r → live p n on ≡ true → frame.residual tables (whole p) n r ≡ rest p n on
rest-whole tables Nothing n r on f h l = refl
rest-whole tables Pause n r on f h l = refl
rest-whole tables (Emit s) n r on f h l = refl
rest-whole tables (Loop p) n r on f h l = ap (λ t. rules.Seq t (rules.Loop (whole p))) (rest-whole tables p n r on f h l)
rest-whole tables (Send c v) n r on f h l =
    ap (λ b. cond b (rules.Sent c) (rules.SendWaits c (r (n + 2)))) f.1 ∙ ap (λ w. cond (on (n + 1)) (rules.Sent c) (rules.SendWaits c w)) (h (f.0 ∙ l))
rest-whole tables (Receive c) n r on f h l = ap (λ b. cond b (rules.Received c) (rules.ReceiveWaits c)) f.1
rest-whole tables (Seq p q) n r on f h l =
    let first = live-whole tables p n r on f.0 in
    ap (λ k. cond (frame.live tables (whole p) n r) (rules.Seq (frame.residual tables (whole p) n r) (whole q)) (frame.residual tables (whole q) (n + k) r)) (registers-whole tables p)
    ∙ ap (λ b. cond b (rules.Seq (frame.residual tables (whole p) n r) (whole q)) (frame.residual tables (whole q) (n + registers p) r)) first
    ∙ by_first (live p n on) (rules.Seq (frame.residual tables (whole p) n r) (whole q)) (frame.residual tables (whole q) (n + registers p) r) (rules.Seq (rest p n on) (whole q)) (rest q (n + registers p) on)
    (λ e. ap (λ t. rules.Seq t (whole q)) (rest-whole tables p n r on f.0 h.0 e))
    (λ e. rest-whole tables q (n + registers p) r on f.1 h.1 (second_live (live p n on) (live q (n + registers p) on) e l)) where
      by_first : (b : Bool) (x y z w : Stmt) → (b ≡ true → x ≡ z) → (b ≡ false → y ≡ w) → cond b x y ≡ cond b z w
      by_first true x y z w g h = g refl
      by_first false x y z w g h = h refl

      second_live : (a b : Bool) → a ≡ false → a || b ≡ true → b ≡ true
      second_live a b e h = sym (ap (λ x. x || b) e) ∙ h

pub apart-whole : (tables : Tables) (p : Plain) (n : ℕ) (r : ℕ → ℤ) (on : ℕ → Bool) → Flags p n r on → frame.LivesApart tables (whole p) n r → LivesOnce p n on
apart-whole tables Nothing n r on f a = tt
apart-whole tables Pause n r on f a = tt
apart-whole tables (Emit s) n r on f a = tt
apart-whole tables (Loop p) n r on f a = apart-whole tables p n r on f a
apart-whole tables (Send c v) n r on f a = tt
apart-whole tables (Receive c) n r on f a = tt
apart-whole tables (Seq p q) n r on f a =
    let at = subst (λ k. frame.AtMostOne (frame.live tables (whole p) n r) (frame.live tables (whole q) (n + k) r) × frame.LivesApart tables (whole p) n r × frame.LivesApart tables (whole q) (n + k) r) (registers-whole tables p) a in (
      sym (ap (λ b. b && frame.live tables (whole q) (n + registers p) r) (live-whole tables p n r on f.0) ∙ ap (λ b. live p n on && b) (live-whole tables q (n + registers p) r on f.1)) ∙ at.0,
      apart-whole tables p n r on f.0 at.1,
      apart-whole tables q (n + registers p) r on f.1 at.2,
    )

pub whole-apart : (tables : Tables) (p : Plain) (n : ℕ) (r : ℕ → ℤ) (on : ℕ → Bool) → Flags p n r on → LivesOnce p n on → frame.LivesApart tables (whole p) n r
whole-apart tables Nothing n r on f a = tt
whole-apart tables Pause n r on f a = tt
whole-apart tables (Emit s) n r on f a = tt
whole-apart tables (Loop p) n r on f a = whole-apart tables p n r on f a
whole-apart tables (Send c v) n r on f a = tt
whole-apart tables (Receive c) n r on f a = tt
whole-apart tables (Seq p q) n r on f a =
    subst (λ k. frame.AtMostOne (frame.live tables (whole p) n r) (frame.live tables (whole q) (n + k) r) × frame.LivesApart tables (whole p) n r × frame.LivesApart tables (whole q) (n + k) r) (sym (registers-whole tables p)) (
      ap (λ b. b && frame.live tables (whole q) (n + registers p) r) (live-whole tables p n r on f.0) ∙ ap (λ b. live p n on && b) (live-whole tables q (n + registers p) r on f.1) ∙ a.0,
      whole-apart tables p n r on f.0 a.1,
      whole-apart tables q (n + registers p) r on f.1 a.2,
    )

-- Registers that stand for a statement fit, and the rules' residual is that statement.
pub record Stands (tables : Tables) (p : Plain) (t : Stmt) (r : ℕ → ℤ) : Type 0 where
  pub fit : frame.FitRegisters tables (whole p) 0 r
  pub residual : frame.residual tables (whole p) 0 r ≡ t

pub stands_whole : (tables : Tables) (p : Plain) (t : Stmt) (r : ℕ → ℤ) (on : ℕ → Bool) → Flags p 0 r on → HoldsLiteral p 0 r → StandFor p 0 on t → Stands tables p t r
stands_whole tables p t r on f h s =
    record {
      fit = record { is_live = live-whole tables p 0 r on f ∙ s.is_live; apart = whole-apart tables p 0 r on f s.once };
      residual = rest-whole tables p 0 r on f h s.is_live ∙ s.residual;
    }

pub whole_stands : (tables : Tables) (p : Plain) (r : ℕ → ℤ) (on : ℕ → Bool) → Flags p 0 r on → HoldsLiteral p 0 r → frame.FitRegisters tables (whole p) 0 r → StandFor p 0 on (frame.residual tables (whole p) 0 r)
whole_stands tables p r on f h x =
    let l = sym (live-whole tables p 0 r on f) ∙ x.is_live in
    record { is_live = l; residual = sym (rest-whole tables p 0 r on f h l); once = apart-whole tables p 0 r on f x.apart }
