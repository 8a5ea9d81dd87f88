-- A list of parts as a sequence.
use Rattle.std.proofs.Math.Seq.{drop-cons}
use Rattle.std.proofs.Common.{◌≡◌, ℕ, zero, suc, ◌<◌, Bool, true, false, get_or, drop, add-one, ◌+◌, List, [], ◌∷◌, ◌++◌, length, map, ◌≤◌, arith, refl, sym, ap, ◌∙◌}
use Rattle.std.proofs.lemmas.List.{append-nil}
use Rattle.domain_core.specs.equations.BuiltForms.{Plain, sequence, sequence_from, plain}
use Rattle.domain_core.specs.equations.BuiltForms.{ends0, ends1}
use Rattle.kernel_terms.specs.declared.term.Term.{Term}
use Rattle.kernel_terms.specs.declared.term.Form.TheViews as Form
use Rattle.domain_core.proofs.lemmas.equations.BuiltLayers.{plain-Seq}
use Rattle.domain_core.specs.equations.BuiltRegisters.{registers}
use Rattle.domain_core.specs.equations.Circuit.{Part, joined, joined_if, either_if, start, resume}
use Rattle.domain_core.specs.equations.CircuitLists.{registers_of, start_list, before_if, resume_list}

pub registers-sequence_from : (p : Plain) (ps : List Plain) → registers (sequence_from p ps) ≡ registers p + registers_of ps
registers-sequence_from p [] = omega arith
registers-sequence_from p (q ∷ ps) = ap (λ n. registers p + n) (registers-sequence_from q ps)

pub registers-sequence : (ps : List Plain) → registers (sequence ps) ≡ registers_of ps
registers-sequence [] = refl
registers-sequence (p ∷ ps) = registers-sequence_from p ps

joined_end : (e : Bool) (a : Part) → joined_if e a (record { equations = []; done = a.done; sets = []; emits = [] }) ≡ a
joined_end true a =
    ap (λ x. let p : Part = record { equations = x; done = a.done; sets = a.sets ++ []; emits = a.emits ++ [] } in p) (append-nil a.equations)
    ∙ ap (λ x. let p : Part = record { equations = a.equations; done = a.done; sets = x; emits = a.emits ++ [] } in p) (append-nil a.sets)
    ∙ ap (λ x. let p : Part = record { equations = a.equations; done = a.done; sets = a.sets; emits = x } in p) (append-nil a.emits)
joined_end false a = refl

pub start-sequence_from : (p : Plain) (ps : List Plain) (base go r : ℕ) → start (sequence_from p ps) base go r ≡ start_list (p ∷ ps) base go r
start-sequence_from p [] base go r = sym (joined_end (ends0 p) (start p base go r))
start-sequence_from p (q ∷ ps) base go r =
    let a = start p base go r in
    ap (λ x. joined_if (ends0 p) a x) (start-sequence_from q ps (base + length a.equations) a.done (r + registers p))

pub start-sequence : (ps : List Plain) (base go r : ℕ) → start (sequence ps) base go r ≡ start_list ps base go r
start-sequence [] base go r = refl
start-sequence (p ∷ ps) base go r = start-sequence_from p ps base go r

before_both : (e : Bool) (base : ℕ) (c a b : Part) → either_if e base c a b ≡ joined c (before_if e (base + length c.equations) c.done a b)
before_both true base c a b = refl
before_both false base c a b = refl

pub resume-sequence_from : (p : Plain) (ps : List Plain) (base r : ℕ) → resume (sequence_from p ps) base r ≡ resume_list (p ∷ ps) base r
resume-sequence_from p [] base r = let e : base ≡ base + 0 = omega arith in ap (λ n. resume p n r) e
resume-sequence_from p (q ∷ qs) base r =
    ap (λ (c : Part).
    let a = resume p (base + length c.equations) r in
    either_if (ends1 p) base c a (start (sequence_from q qs) (base + length c.equations + length a.equations) a.done (r + registers p))) (resume-sequence_from q qs base (r + registers p))
    ∙ (let c = resume_list (q ∷ qs) base (r + registers p) in
    let a = resume p (base + length c.equations) r in
    ap (λ (b : Part). either_if (ends1 p) base c a b) (start-sequence_from q qs (base + length c.equations + length a.equations) a.done (r + registers p))
    ∙ before_both (ends1 p) base c a (start_list (q ∷ qs) (base + length c.equations + length a.equations) a.done (r + registers p)))

pub resume-sequence : (ps : List Plain) (base r : ℕ) → resume (sequence ps) base r ≡ resume_list ps base r
resume-sequence [] base r = refl
resume-sequence (p ∷ ps) base r = resume-sequence_from p ps base r

-- the same of a term

pub registers-Seq : (t : Term) (v : List Term) → t.form ≡ Form.Seq v → registers (plain t) ≡ registers_of (map plain v)
registers-Seq t v h = ap registers (plain-Seq t v h) ∙ registers-sequence (map plain v)

pub start-Seq : (t : Term) (v : List Term) (base go r : ℕ) → t.form ≡ Form.Seq v → start (plain t) base go r ≡ start_list (map plain v) base go r
start-Seq t v base go r h = ap (λ p. start p base go r) (plain-Seq t v h) ∙ start-sequence (map plain v) base go r

pub resume-Seq : (t : Term) (v : List Term) (base r : ℕ) → t.form ≡ Form.Seq v → resume (plain t) base r ≡ resume_list (map plain v) base r
resume-Seq t v base r h = ap (λ p. resume p base r) (plain-Seq t v h) ∙ resume-sequence (map plain v) base r

pub ruleset parts_of_sequences = (registers-Seq, start-Seq, resume-Seq)

pub split_first : (ts : List Term) (i : ℕ) (t : Term) → i < length ts → t ≡ get_or ts i t → map plain (drop i ts) ≡ plain t ∷ map plain (drop (i + 1) ts)
split_first ts i t lt is = rw (add-one, drop-cons ts i t lt) (ap (λ x. plain x ∷ map plain (drop (suc i) ts)) (sym is))

pub registers-drop : (ps : List Term) (i : ℕ) → registers_of (map plain (drop i ps)) ≤ registers_of (map plain ps)
registers-drop [] zero = omega arith
registers-drop [] (suc i) = omega arith
registers-drop (p ∷ ps) zero = omega arith
registers-drop (p ∷ ps) (suc i) = omega (arith, registers-drop ps i)

pub ruleset first_parts = (split_first, registers-drop)
