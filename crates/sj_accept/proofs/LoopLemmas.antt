-- The loops of a statement are those of its parts.
use Rattle.std.proofs.Common.{◌≡◌, ◌↔◌, Bool, List, [], ◌∷◌, sym, subst}
use Rattle.kernel_terms.specs.declared.sig_test.SigTest.{SigTest}
use Rattle.kernel_terms.specs.declared.term.Term.{Term}
use Rattle.kernel_terms.specs.declared.term.Form.TheViews as Form
use Rattle.kernel_terms.specs.Statements.{Stmt, sequence, sequence_from, parallel, parallel_from, statement}
use Rattle.kernel_terms.specs.MayEnd.{LoopsWait}
use Rattle.tick_tree.proofs.StatementLayers.{statement-Abort, statement-Suspend}
use Rattle.tick_tree.proofs.PartLists.{body-Abort, body-Suspend}
use Rattle.sj_accept.specs.StaticRules.{AllLoopsWait}

waits-sequence_from : (p : Stmt) (ps : List Stmt) → LoopsWait (sequence_from p ps) ↔ AllLoopsWait (p ∷ ps)
waits-sequence_from p [] = (λ h. (h, tt), λ h. h.0)
waits-sequence_from p (q ∷ ps) = let r = waits-sequence_from q ps in (λ h. (h.0, r.0 h.1), λ h. (h.0, r.1 h.1))

pub waits-sequence : (ps : List Stmt) → LoopsWait (sequence ps) ↔ AllLoopsWait ps
waits-sequence [] = (λ h. tt, λ h. tt)
waits-sequence (p ∷ ps) = waits-sequence_from p ps

waits-parallel_from : (p : Stmt) (ps : List Stmt) → LoopsWait (parallel_from p ps) ↔ AllLoopsWait (p ∷ ps)
waits-parallel_from p [] = (λ h. (h, tt), λ h. h.0)
waits-parallel_from p (q ∷ ps) = let r = waits-parallel_from q ps in (λ h. (h.0, r.0 h.1), λ h. (h.0, r.1 h.1))

pub waits-parallel : (ps : List Stmt) → LoopsWait (parallel ps) ↔ AllLoopsWait ps
waits-parallel [] = (λ h. tt, λ h. tt)
waits-parallel (p ∷ ps) = waits-parallel_from p ps

pub ruleset parts_of_statements = (waits-sequence, waits-parallel)

-- the body of an abort or a suspend

pub waits-Abort : (t : Term) (weak immediate : Bool) (u : SigTest) (p : Term) → t.form ≡ Form.Abort weak immediate u p → LoopsWait (statement t) ↔ LoopsWait (statement p)
waits-Abort t weak immediate u p h = subst (λ x. LoopsWait x ↔ LoopsWait (statement p)) (sym (statement-Abort t weak immediate u p h)) (λ w. w, λ w. w)

pub waits-Suspend : (t : Term) (u : SigTest) (p : Term) → t.form ≡ Form.Suspend u p → LoopsWait (statement t) ↔ LoopsWait (statement p)
waits-Suspend t u p h = subst (λ x. LoopsWait x ↔ LoopsWait (statement p)) (sym (statement-Suspend t u p h)) (λ w. w, λ w. w)

pub ruleset bodies = (body-Abort, body-Suspend, waits-Abort, waits-Suspend)
