-- The fold of a signal's emissions, by those of the signal alone.
use Rattle.std.proofs.Common.{◌≡◌, ℕ, ◌+◌, ◌==◌, Bool, true, false, cond, ◌<◌, List, [], ◌∷◌, ◌++◌, length, get_or, drop, refl, sym, ap, ◌∙◌, subst}
use Rattle.kernel_terms.specs.declared.tables.SignalInfo.{SignalInfo}
use Rattle.surf_graph.specs.declared.builder.Builder.{Builder}
use Rattle.surf_graph.specs.declared.copy_builder.Guarded.{Guarded}
use Rattle.surf_graph.specs.declared.emissions.Emitted.{Emitted}
use Rattle.surf_graph.specs.Copying.{emits_of}
use Rattle.surf_graph.specs.Framing.{Grows, FoldsInto, emission_of, condition_step}
use Rattle.surf_graph.specs.definitions.Copies.{Emits, Folded, fold_step, fold_emits}
use Rattle.surf_graph.specs.definitions.DomainCopies.{fold_conditions}
use Rattle.surf_graph.specs.definitions.Formulas.{Equation, Or}
use Rattle.surf_graph.proofs.Growing.{Remains, all_remains, less_remains, none_remains}
use Rattle.surf_graph.proofs.OwnSets.{next_is}

abbrev guarded : Emits → Guarded
guarded e = record { condition = e.condition; value = e.value }

abbrev pub own_fold : SignalInfo → ℕ → ℕ → ℕ → List Guarded → Folded
own_fold info n some value [] = record { equations = []; some = some; value = value }
own_fold info n some value (g ∷ gs) = fold_step info n some value (emission_of 0 g) (own_fold info (n + 3) (n + 2) (n + 1) gs)

pub own_emissions : (info : SignalInfo) (s n some value : ℕ) (es : List Emits) → fold_emits info s n some value es ≡ own_fold info n some value (emits_of s es)
own_emissions info s n some value [] = refl
own_emissions info s n some value (e ∷ es) = by_test (e.signal == s) (own_emissions info s (n + 3) (n + 2) (n + 1) es) (own_emissions info s n some value es)
  where
    by_test : (b : Bool) → fold_emits info s (n + 3) (n + 2) (n + 1) es ≡ own_fold info (n + 3) (n + 2) (n + 1) (emits_of s es)
        → fold_emits info s n some value es ≡ own_fold info n some value (emits_of s es)
        → cond b (fold_step info n some value e (fold_emits info s (n + 3) (n + 2) (n + 1) es)) (fold_emits info s n some value es) ≡ own_fold info n some value (cond b (guarded e ∷ emits_of s es) (emits_of s es))
    by_test true h k = ap (fold_step info n some value e) h
    by_test false h k = k

abbrev pub own_conditions : ℕ → ℕ → List Guarded → Folded
own_conditions n some [] = record { equations = []; some = some; value = 0 }
own_conditions n some (g ∷ gs) = condition_step n some g (own_conditions (n + 1) n gs)

pub own_pure_emissions : (s n some : ℕ) (es : List Emits) → fold_conditions s n some es ≡ own_conditions n some (emits_of s es)
own_pure_emissions s n some [] = refl
own_pure_emissions s n some (e ∷ es) = by_test (e.signal == s) (own_pure_emissions s (n + 1) n es) (own_pure_emissions s n some es)
  where
    by_test : (b : Bool) → fold_conditions s (n + 1) n es ≡ own_conditions (n + 1) n (emits_of s es)
        → fold_conditions s n some es ≡ own_conditions n some (emits_of s es)
        → cond b (record (fold_conditions s (n + 1) n es) { equations = record { wire = n; formula = Or some e.condition } ∷ (fold_conditions s (n + 1) n es).equations }) (fold_conditions s n some es) ≡ own_conditions n some (cond b (guarded e ∷ emits_of s es) (emits_of s es))
    by_test true h k = ap (condition_step n some (guarded e)) h
    by_test false h k = k

-- what is still to be folded
pub record Folding (old now : Builder) (all left : Folded) : Type 0 where
  pub remains : Remains old now all.equations left.equations
  pub some : left.some ≡ all.some
  pub value : left.value ≡ all.value

pub all_folding : (old : Builder) (all : Folded) → Folding old old all all
all_folding old all = record { remains = all_remains old all.equations; some = refl; value = refl }

pub less_folding : (old now new : Builder) (all left rest : Folded) (es : List Equation) → Folding old now all left → Grows now new (length es) es → left ≡ record rest { equations = es ++ rest.equations } → Folding old new all rest
less_folding old now new all left rest es f g e =
    record {
      remains = less_remains old now new all.equations left.equations es rest.equations f.remains g (ap (λ x. x.equations) e);
      some = sym (ap (λ x. x.some) e) ∙ f.some;
      value = sym (ap (λ x. x.value) e) ∙ f.value;
    }

pub none_folding : (old now : Builder) (all : Folded) (r : Emitted) → Folding old now all (record { equations = []; some = r.some; value = r.value }) → FoldsInto old now all r
none_folding old now all r f = record { grows = none_remains old now all.equations f.remains; some = f.some; value = f.value }

-- one emission more

pub emission_more : (old now new : Builder) (info : SignalInfo) (all : Folded) (gs : List Guarded) (i some value : ℕ) (g : Guarded) (r : Emitted) → i < length gs → g ≡ get_or gs i g → Folding old now all (own_fold info now.next some value (drop i gs))
    → FoldsInto now new (fold_step info now.next some value (emission_of 0 g) (record { equations = []; some = now.next + 2; value = now.next + 1 })) r
    → Folding old new all (own_fold info new.next r.some r.value (drop (i + 1) gs))
emission_more old now new info all gs i some value g r less is f h =
    let n = now.next in
    let step = fold_step info n some value (emission_of 0 g) (record { equations = []; some = n + 2; value = n + 1 }) in
    let rises : n + 3 ≡ new.next = sym (h.grows).next in
    let rest : own_fold info (n + 3) (n + 2) (n + 1) (drop (i + 1) gs) ≡ own_fold info new.next r.some r.value (drop (i + 1) gs) =
    ap (λ m. own_fold info m (n + 2) (n + 1) (drop (i + 1) gs)) rises ∙ ap (λ m. own_fold info new.next m (n + 1) (drop (i + 1) gs)) (sym h.some) ∙ ap (λ m. own_fold info new.next r.some m (drop (i + 1) gs)) (sym h.value) in
    less_folding old now new all (own_fold info n some value (drop i gs)) (own_fold info new.next r.some r.value (drop (i + 1) gs)) step.equations f h.grows
    (ap (own_fold info n some value) (next_is gs i g less is) ∙ ap (λ x. fold_step info n some value (emission_of 0 g) x) rest)

pub emissions_end : (old now : Builder) (info : SignalInfo) (before : ℕ) (gs : List Guarded) (i : ℕ) (r : Emitted) → drop i gs ≡ [] → Folding old now (own_fold info old.next 0 before gs) (own_fold info now.next r.some r.value (drop i gs)) → (s : ℕ) (es : List Emits) → emits_of s es ≡ gs
    → FoldsInto old now (fold_emits info s old.next 0 before es) r
emissions_end old now info before gs i r done f s es is =
    subst (λ x. FoldsInto old now x r) (sym (own_emissions info s old.next 0 before es ∙ ap (own_fold info old.next 0 before) is))
    (none_folding old now (own_fold info old.next 0 before gs) r (subst (λ l. Folding old now (own_fold info old.next 0 before gs) (own_fold info now.next r.some r.value l)) done f))

pub condition_more : (old now new : Builder) (all : Folded) (gs : List Guarded) (i some wire : ℕ) (g : Guarded) → i < length gs → g ≡ get_or gs i g → Folding old now all (own_conditions now.next some (drop i gs))
    → FoldsInto now new (condition_step now.next some g (record { equations = []; some = now.next; value = 0 })) (record { some = wire; value = 0 })
    → Folding old new all (own_conditions new.next wire (drop (i + 1) gs))
condition_more old now new all gs i some wire g less is f h =
    let n = now.next in
    let step = condition_step n some g (record { equations = []; some = n; value = 0 }) in
    let rises : n + 1 ≡ new.next = sym (h.grows).next in
    let rest : own_conditions (n + 1) n (drop (i + 1) gs) ≡ own_conditions new.next wire (drop (i + 1) gs) =
    ap (λ m. own_conditions m n (drop (i + 1) gs)) rises ∙ ap (λ m. own_conditions new.next m (drop (i + 1) gs)) (sym h.some) in
    less_folding old now new all (own_conditions n some (drop i gs)) (own_conditions new.next wire (drop (i + 1) gs)) step.equations f h.grows
    (ap (own_conditions n some) (next_is gs i g less is) ∙ ap (condition_step n some g) rest)

pub conditions_end : (old now : Builder) (gs : List Guarded) (i some : ℕ) → drop i gs ≡ [] → Folding old now (own_conditions old.next 0 gs) (own_conditions now.next some (drop i gs)) → (s : ℕ) (es : List Emits) → emits_of s es ≡ gs
    → FoldsInto old now (fold_conditions s old.next 0 es) (record { some = some; value = 0 })
conditions_end old now gs i some done f s es is =
    subst (λ x. FoldsInto old now x (record { some = some; value = 0 })) (sym (own_pure_emissions s old.next 0 es ∙ ap (own_conditions old.next 0) is))
    (none_folding old now (own_conditions old.next 0 gs) (record { some = some; value = 0 }) (subst (λ l. Folding old now (own_conditions old.next 0 gs) (own_conditions now.next some l)) done f))
