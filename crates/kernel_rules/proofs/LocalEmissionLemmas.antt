-- The emissions of a local signal don't leave its statement.
use Rattle.std.proofs.Common.{◌≡◌, ℕ, ◌==◌, ℤ, Bool, true, false, ◌||◌, cond, List, [], ◌∷◌, refl, ap, ◌∙◌}
use Rattle.kernel_terms.specs.declared.tables.Tables.{Tables}
use Rattle.kernel_terms.specs.Statements.{Stmt, Local}
use Rattle.kernel_rules.specs.definitions.Signals.{Emission, Env, is_emitted, without}
use Rattle.kernel_rules.specs.definitions.TickRule.{Tick, Ticks}

one_less : (e : Emission) (m : List Emission) (s : ℕ) (t : Bool) → (e.signal == s) ≡ t → is_emitted m s ≡ false → is_emitted (cond t m (e ∷ m)) s ≡ false
one_less e m s true q h = h
one_less e m s false q h = ap (λ b. b || is_emitted m s) q ∙ h

none_left : (s : ℕ) (m : List Emission) → is_emitted (without s m) s ≡ false
none_left s [] = refl
none_left s (e ∷ m) = one_less e (without s m) s (e.signal == s) refl (none_left s m)

pub local_hidden :
    (tables : Tables) (last : ℕ → ℤ) (s : ℕ) (v : ℤ) (p : Stmt) (env : Env) (x : ℕ → ℤ) (o : Tick)
    → Ticks tables last (Local s v p) env x o → is_emitted o.emits s ≡ false
local_hidden tables last s v p env x o h = let a : Tick = h.2 in ap (λ (z : Tick). is_emitted z.emits s) h.6 ∙ none_left s a.emits
