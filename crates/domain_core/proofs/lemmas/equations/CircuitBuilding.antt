-- The builder's loop over the parts of a sequence.
use Rattle.std.proofs.Common.{◌≡◌, ℕ, ◌+◌, Bool, true, false, List, [], ◌∷◌, ◌++◌, length, refl, sym, ap, ◌∙◌, subst, append_assoc, length-append}
use Rattle.std.proofs.lemmas.List.{append-nil}
use Rattle.domain_core.specs.equations.BuiltForms.{Plain, plain}
use Rattle.kernel_terms.specs.declared.term.Term.{Term}
use Rattle.kernel_terms.specs.declared.term.Form.TheViews as Form
use Rattle.domain_core.proofs.lemmas.equations.BuiltLayers.{plain-Loop}
use Rattle.domain_core.specs.declared.equations.builder.Parts.{Parts}
use Rattle.domain_core.specs.equations.BuiltRegisters.{registers}
use Rattle.domain_core.specs.equations.BuiltForms.{ends0, ends1}
use Rattle.domain_core.specs.equations.Circuit.{Part, joined_if, again_if, start, resume}
use Rattle.domain_core.specs.equations.CircuitLists.{Adds, start_list}

-- with the rest, the lists are what they will be
pub record ComesTo (old now : Parts) (all left : Part) : Type 0 where
  pub equations : now.equations.items ++ left.equations ≡ old.equations.items ++ all.equations
  pub sets : now.sets.items ++ left.sets ≡ old.sets.items ++ all.sets
  pub emits : now.emits.items ++ left.emits ≡ old.emits.items ++ all.emits
  pub done : left.done ≡ all.done

pub comes_first : (old : Parts) (all : Part) → ComesTo old old all all
comes_first old all = record { equations = refl; sets = refl; emits = refl; done = refl }

pub comes_on : (old now new : Parts) (all : Part) (p : Plain) (ps : List Plain) (go r end : ℕ) → ends0 p ≡ true → ComesTo old now all (start_list (p ∷ ps) (length now.equations.items) go r) → Adds now new (start p (length now.equations.items) go r) end → ComesTo old new all (start_list ps (length new.equations.items) end (r + registers p))
comes_on old now new all p ps go r end open_ c0 a =
    let part = start p (length now.equations.items) go r in
    let len : length now.equations.items + length part.equations ≡ length new.equations.items = sym (ap length a.equations ∙ length-append now.equations.items part.equations) in
    let left = start_list ps (length now.equations.items + length part.equations) part.done (r + registers p) in
    let c : ComesTo old now all (joined_if true part left) = subst (λ e. ComesTo old now all (joined_if e part left)) open_ c0 in
    let same : left ≡ start_list ps (length new.equations.items) end (r + registers p) =
    ap (λ n. start_list ps n part.done (r + registers p)) len ∙ ap (λ d. start_list ps (length new.equations.items) d (r + registers p)) (sym a.done) in
    subst (λ x. ComesTo old new all x) same (record {
      equations = ap (λ x. x ++ left.equations) a.equations ∙ append_assoc now.equations.items part.equations left.equations ∙ c.equations;
      sets = ap (λ x. x ++ left.sets) a.sets ∙ append_assoc now.sets.items part.sets left.sets ∙ c.sets;
      emits = ap (λ x. x ++ left.emits) a.emits ∙ append_assoc now.emits.items part.emits left.emits ∙ c.emits;
      done = c.done;
    })

-- a part that can't end at once is the last that is started
pub comes_to_stop : (old now new : Parts) (all : Part) (p : Plain) (ps : List Plain) (go r end : ℕ) → ends0 p ≡ false → ComesTo old now all (start_list (p ∷ ps) (length now.equations.items) go r) → Adds now new (start p (length now.equations.items) go r) end → Adds old new all end
comes_to_stop old now new all p ps go r end shut c0 a =
    let part = start p (length now.equations.items) go r in
    let left = start_list ps (length now.equations.items + length part.equations) part.done (r + registers p) in
    let c : ComesTo old now all (joined_if false part left) = subst (λ e. ComesTo old now all (joined_if e part left)) shut c0 in
    record { equations = a.equations ∙ c.equations; sets = a.sets ∙ c.sets; emits = a.emits ∙ c.emits; done = a.done ∙ c.done }

pub comes_last : (old new : Parts) (all : Part) (base go r : ℕ) → ComesTo old new all (start_list [] base go r) → Adds old new all go
comes_last old new all base go r c =
    record {
      equations = sym (append-nil new.equations.items) ∙ c.equations;
      sets = sym (append-nil new.sets.items) ∙ c.sets;
      emits = sym (append-nil new.emits.items) ∙ c.emits;
      done = c.done;
    }

adds_again : (e : Bool) (old mid new : Parts) (p : Plain) (r d k : ℕ) → e ≡ true → Adds old mid (resume p (length old.equations.items) r) d → Adds mid new (start p (length mid.equations.items) d r) k → Adds old new (again_if e (resume p (length old.equations.items) r) (start p (length old.equations.items + length (resume p (length old.equations.items) r).equations) (resume p (length old.equations.items) r).done r)) 0
adds_again false old mid new p r d k e x y = cc
adds_again true old mid new p r d k e x y =
    let a = resume p (length old.equations.items) r in
    let len : length mid.equations.items ≡ length old.equations.items + length a.equations = ap length x.equations ∙ length-append old.equations.items a.equations in
    let same : start p (length mid.equations.items) d r ≡ start p (length old.equations.items + length a.equations) a.done r =
    ap (λ n. start p n d r) len ∙ ap (λ k. start p (length old.equations.items + length a.equations) k r) x.done in
    let b = start p (length old.equations.items + length a.equations) a.done r in
    let z : Adds mid new b k = subst (λ v. Adds mid new v k) same y in
    record {
      equations = z.equations ∙ ap (λ l. l ++ b.equations) x.equations ∙ append_assoc old.equations.items a.equations b.equations;
      sets = z.sets ∙ ap (λ l. l ++ b.sets) x.sets ∙ append_assoc old.sets.items a.sets b.sets;
      emits = z.emits ∙ ap (λ l. l ++ b.emits) x.emits ∙ append_assoc old.emits.items a.emits b.emits;
      done = refl;
    }

pub resume_loop_again : (old mid new : Parts) (t body : Term) (r d k : ℕ) → t.form ≡ Form.Loop body → ends1 (plain body) ≡ true → Adds old mid (resume (plain body) (length old.equations.items) r) d → Adds mid new (start (plain body) (length mid.equations.items) d r) k → Adds old new (resume (plain t) (length old.equations.items) r) 0
resume_loop_again old mid new t body r d k is e x y = subst (λ p. Adds old new (resume p (length old.equations.items) r) 0) (sym (plain-Loop t body is)) (adds_again (ends1 (plain body)) old mid new (plain body) r d k e x y)

pub ruleset list_steps = (comes_first, comes_on, comes_to_stop, comes_last)
