-- What the builder adds to its lists.
use Rattle.std.specs.Prelude.{◌≡◌, ℕ, ◌+◌, Bool, true, false, List, [], ◌∷◌, ◌++◌, length}
use Rattle.domain_core.specs.equations.BuiltForms.{Plain}
use Rattle.domain_core.specs.equations.BuiltForms.{ends0, ends1}
use Rattle.domain_core.specs.declared.equations.builder.Parts.{Parts}
use Rattle.plain_code.specs.declared.formula.Formula.TheVariants.{Or}
use Rattle.domain_core.specs.equations.BuiltRegisters.{registers}
use Rattle.domain_core.specs.equations.Circuit.{Part, joined, joined_if, start, resume}

-- new is old with this part at its end
pub record Adds (old new : Parts) (part : Part) (end : ℕ) : Type 0 where
  pub equations : new.equations.items ≡ old.equations.items ++ part.equations
  pub sets : new.sets.items ≡ old.sets.items ++ part.sets
  pub emits : new.emits.items ≡ old.emits.items ++ part.emits
  pub done : end ≡ part.done

abbrev pub start_list : List Plain → ℕ → ℕ → ℕ → Part
start_list [] base go r = record { equations = []; done = go; sets = []; emits = [] }
start_list (p ∷ ps) base go r =
    let a = start p base go r in
    joined_if (ends0 p) a (start_list ps (base + length a.equations) a.done (r + registers p))

abbrev pub registers_of : List Plain → ℕ
registers_of [] = 0
registers_of (p ∷ ps) = registers p + registers_of ps

-- what a part's copy and the start of the parts after it add, where the parts after it end with the wire `done`
abbrev pub before_if : Bool → ℕ → ℕ → Part → Part → Part
before_if true base done a b =
    let ab = joined a b in
    record {
      equations = ab.equations ++
          record { wire = base + length ab.equations; formula = Or done ab.done } ∷
          [];
      done = base + length ab.equations;
      sets = ab.sets;
      emits = ab.emits;
    }
before_if false base done a b = record a { done = done }

abbrev pub resume_before : Plain → List Plain → ℕ → ℕ → ℕ → Part
resume_before p [] base done r = resume p base r
resume_before p (q ∷ qs) base done r =
    let a = resume p base r in
    before_if (ends1 p) base done a (start_list (q ∷
    qs) (base + length a.equations) a.done (r + registers p))

abbrev pub resume_list : List Plain → ℕ → ℕ → Part
resume_list [] base r = record { equations = []; done = 0; sets = []; emits = [] }
resume_list (p ∷ ps) base r =
    let c = resume_list ps base (r + registers p) in
    joined c (resume_before p ps (base + length c.equations) c.done r)
