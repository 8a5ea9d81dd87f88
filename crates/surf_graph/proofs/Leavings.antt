-- What a whole leaves, by its code.
use Rattle.std.proofs.Common.{◌≡◌, ℕ, true, false, ◌==◌, cond, ap, arith}
use Rattle.std.proofs.lemmas.Bool.Decides.{nat_tests}
use Rattle.kernel_terms.specs.Statements.{Stmt, Nothing}
use Rattle.kernel_rules.specs.definitions.TickRule.{left_at}

pub left_nothing : (code : ℕ) (t : Stmt) → (code == 1) ≡ false → left_at code t ≡ Nothing
left_nothing code t h = ap (λ b. cond b t Nothing) h

pub left_whole : (code : ℕ) (t : Stmt) → (code == 1) ≡ true → left_at code t ≡ t
left_whole code t h = ap (λ b. cond b t Nothing) h

pub is_one : (code : ℕ) → (code == 1) ≡ true → code ≡ 1
is_one code h = grind (arith, nat_tests)
