-- Sends and receives of sequences.
use Rattle.std.proofs.Common.{◌≡◌, ℕ, ◌+◌, List, [], ◌∷◌, ◌++◌, map, refl, sym, ap, ◌∙◌, subst, append_assoc}
use Rattle.std.specs.Prelude.{Result, Ok, Err, IfOk}
use Rattle.std.proofs.lemmas.List.{append-nil}
use Rattle.kernel_terms.specs.declared.term.Term.{Term}
use Rattle.kernel_terms.specs.declared.term.Form.TheViews as Form
use Rattle.domain_core.specs.declared.step.ends_of.EndOf.{EndOf}
use Rattle.domain_core.specs.declared.equations.sites.Found.{Found}
use Rattle.domain_core.specs.equations.BuiltForms.{Plain, plain, sequence, sequence_from}
use Rattle.domain_core.specs.equations.BuiltRegisters.{registers, literals}
use Rattle.domain_core.specs.equations.Places.{plain_places, Finds, all_plain_places, literals_of_all, FindsAll}
use Rattle.domain_core.proofs.lemmas.equations.BuiltLayers.{plain-Seq, plain-Loop}

places-sequence_from : (ends : List EndOf) (p : Plain) (ps : List Plain) (r : ℕ) → plain_places ends (sequence_from p ps) r ≡ all_plain_places ends (p ∷ ps) r
places-sequence_from ends p [] r = sym (append-nil (plain_places ends p r))
places-sequence_from ends p (q ∷ ps) r = ap (λ l. plain_places ends p r ++ l) (places-sequence_from ends q ps (r + registers p))

places-sequence : (ends : List EndOf) (ps : List Plain) (r : ℕ) → plain_places ends (sequence ps) r ≡ all_plain_places ends ps r
places-sequence ends [] r = refl
places-sequence ends (p ∷ ps) r = places-sequence_from ends p ps r

literals-sequence_from : (p : Plain) (ps : List Plain) (r : ℕ) → literals (sequence_from p ps) r ≡ literals_of_all (p ∷ ps) r
literals-sequence_from p [] r = sym (append-nil (literals p r))
literals-sequence_from p (q ∷ ps) r = ap (λ l. literals p r ++ l) (literals-sequence_from q ps (r + registers p))

literals-sequence : (ps : List Plain) (r : ℕ) → literals (sequence ps) r ≡ literals_of_all ps r
literals-sequence [] r = refl
literals-sequence (p ∷ ps) r = literals-sequence_from p ps r

pub finds-Seq : (t : Term) (v : List Term) (old new : Found) (ends : List EndOf) (r : ℕ) → t.form ≡ Form.Seq v → FindsAll old new ends (map plain v) r → Finds old new ends (plain t) r
finds-Seq t v old new ends r h f =
    subst (λ p. Finds old new ends p r) (sym (plain-Seq t v h)) (record {
      places = f.places ∙ ap (λ l. old.places.items ++ l) (sym (places-sequence ends (map plain v) r));
      literals = f.literals ∙ ap (λ l. old.literals.items ++ l) (sym (literals-sequence (map plain v) r));
    })

pub finds-Loop : (t body : Term) (old new : Found) (ends : List EndOf) (r : ℕ) → t.form ≡ Form.Loop body → Finds old new ends (plain body) r → Finds old new ends (plain t) r
finds-Loop t body old new ends r h f = subst (λ p. Finds old new ends p r) (sym (plain-Loop t body h)) (record { places = f.places; literals = f.literals })

pub found-Seq : {X E : Type 0} (answer : Result X E) (t : Term) (v w : List Term) (old new : Found) (ends : List EndOf) (r : ℕ) → t.form ≡ Form.Seq v → w ≡ v → IfOk answer (λ _. FindsAll old new ends (map plain w) r) → IfOk answer (λ _. Finds old new ends (plain t) r)
found-Seq (Ok x) t v w old new ends r h e f = finds-Seq t v old new ends r h (subst (λ l. FindsAll old new ends (map plain l) r) e f)
found-Seq (Err x) t v w old new ends r h e f = tt

pub ruleset places_of_sequences = (finds-Seq, finds-Loop)

-- with the rest, the lists are what they will be
pub record FindsRest (old now : Found) (ends : List EndOf) (all left : List Plain) (r next : ℕ) : Type 0 where
  pub places : now.places.items ++ all_plain_places ends left next ≡ old.places.items ++ all_plain_places ends all r
  pub literals : now.literals.items ++ literals_of_all left next ≡ old.literals.items ++ literals_of_all all r

pub finds_first : (old : Found) (ends : List EndOf) (all : List Plain) (r : ℕ) → FindsRest old old ends all all r r
finds_first old ends all r = record { places = refl; literals = refl }

pub finds_on : (old now new : Found) (ends : List EndOf) (all : List Plain) (p : Plain) (ps : List Plain) (r next : ℕ) → FindsRest old now ends all (p ∷ ps) r next → Finds now new ends p next → FindsRest old new ends all ps r (next + registers p)
finds_on old now new ends all p ps r next x f =
    record {
      places = ap (λ l. l ++ all_plain_places ends ps (next + registers p)) f.places ∙ append_assoc now.places.items (plain_places ends p next) (all_plain_places ends ps (next + registers p)) ∙ x.places;
      literals = ap (λ l. l ++ literals_of_all ps (next + registers p)) f.literals ∙ append_assoc now.literals.items (literals p next) (literals_of_all ps (next + registers p)) ∙ x.literals;
    }

pub finds_last : (old new : Found) (ends : List EndOf) (all : List Plain) (r next : ℕ) → FindsRest old new ends all [] r next → FindsAll old new ends all r
finds_last old new ends all r next x = record { places = sym (append-nil new.places.items) ∙ x.places; literals = sym (append-nil new.literals.items) ∙ x.literals }

pub ruleset finding_steps = (finds_first, finds_on, finds_last)
