-- Cycles of small trees, and a tree without one.
use Rattle.std.proofs.Common.{◌≡◌, ◌⊎◌, ◌<◌, ℕ, zero, suc, ◌==◌, Bool, true, false, ◌||◌, [], ◌∷◌, get_or, arith, refl, ap, inl, inr}
use Rattle.std.proofs.lemmas.Bool.Decides.{nat_tests}
use Rattle.tick_tree.specs.definitions.Shapes.{bare, starting_shape, resuming_shape}
use Rattle.tick_tree.specs.definitions.Trees.{Tree, tree_of, tree_of_some}
use Rattle.tick_tree.specs.definitions.Precedence.{Among, Writes, Reads, StandsFirst, Precedes, Leads, IsCausal, IsCausalIf}
use Rattle.tick_tree.specs.Rows.{causes_itself, sees_own_emission, weakly_sees_own_emission, sees_beside, see_each_other, suspends_itself, aborts_itself}

-- the emission stands behind the test, which reads its signal
pub causes_itself-cycle : (at : ℕ → ℕ) → IsCausal (tree_of 0 (starting_shape at 0 causes_itself)) → ⊥
causes_itself-cycle at h = h 0 (1, (1, inl (inr (inr (refl, inl refl))), (0, inr (0, inr (inl (refl, refl)), inl (refl, refl)), refl)))

pub sees_own_emission-cycle : (at : ℕ → ℕ) → IsCausal (tree_of 2 (starting_shape at 0 sees_own_emission)) → ⊥
sees_own_emission-cycle at h = h 0 (1, (1, inl (inl (inr (inr (refl, inl refl)))), (0, inr (0, inl (inr (inl (refl, refl))), inl (inl (refl, refl))), refl)))

-- each test precedes the emission in its branch, and that the other test
pub see_each_other-cycle : (at : ℕ → ℕ) → IsCausal (tree_of 2 (starting_shape at 0 see_each_other)) → ⊥
see_each_other-cycle at h =
    h 0 (
      3,
      (
        1,
        inl (inl (inr (inr (refl, inl refl)))),
        (
          3,
          inr (1, inl (inr (inl (refl, refl))), inr (inl (refl, refl))),
          (
            4,
            inl (inr (inr (inr (refl, inl refl)))),
            (0, inr (0, inr (inr (inl (refl, refl))), inl (inl (refl, refl))), refl),
          ),
        ),
      ),
    )

-- the emission stands behind the pause, and that behind the test
pub suspends_itself-cycle : (at : ℕ → ℕ) → IsCausalIf (tree_of_some 1 (resuming_shape at 0 suspends_itself)) → ⊥
suspends_itself-cycle at h = h 0 (1, (2, inl (inr (inr (refl, inr refl))), (0, inr (0, inr (inr (refl, refl)), inl (refl, refl)), refl)))

pub aborts_itself-cycle : (at : ℕ → ℕ) → IsCausalIf (tree_of_some 1 (resuming_shape at 0 aborts_itself)) → ⊥
aborts_itself-cycle at h = h 0 (1, (2, inl (inr (inr (refl, inr refl))), (0, inr (0, inr (inr (refl, refl)), inl (refl, refl)), refl)))

-- A tree is causal where each leaf has a rank that is greater than those of the leaves before it.
rises : (t : Tree) (rank : ℕ → ℕ) → ((l m : ℕ) → Precedes t l m → rank l < rank m) → (n l m : ℕ) → Leads t (suc n) l m → rank l < rank m
rises t rank up zero l m h = let a : rank l < rank h.0 = up l h.0 h.1 in let b : rank h.0 ≡ rank m = ap rank h.2 in omega arith
rises t rank up (suc n) l m h = let a : rank l < rank h.0 = up l h.0 h.1 in let b : rank h.0 < rank m = rises t rank up n h.0 m h.2 in omega arith

pub ranked : (t : Tree) (rank : ℕ → ℕ) → ((l m : ℕ) → Precedes t l m → rank l < rank m) → IsCausal t
ranked t rank up l h = let a : rank l < rank l = rises t rank up h.0 l l h.1 in absurd (omega arith)

only : (b : Bool) → b || false ≡ true → b ≡ true
only true h = refl
only false h = cc

among_one : (s n : ℕ) → Among s (n ∷ []) → n ≡ s
among_one s n h = let e : n == s ≡ true = only (n == s) h in grind (arith, nat_tests)

among_none : (s : ℕ) → Among s [] → ⊥
among_none s h = cc

module _ (at : ℕ → ℕ) where
  abbrev weak_tree : Tree
  weak_tree = tree_of 2 (starting_shape at 0 weakly_sees_own_emission)

  -- the emission, then its pause and the test, then the other emission
  abbrev rank : ℕ → ℕ
  rank l = get_or (1 ∷ 0 ∷ 1 ∷ 2 ∷ []) l 0

  stands : (l m : ℕ) → StandsFirst weak_tree l m → rank l < rank m
  stands l m (inl (inl h)) = absurd h
  stands l m (inl (inr (inl h))) = absurd h
  stands l m (inl (inr (inr (inl h)))) = absurd h
  stands l m (inl (inr (inr (inr (a, b))))) = let x : 0 ≡ rank l = ap rank a in let y : 1 ≡ rank m = ap rank b in omega arith
  stands l m (inr (inl h)) = absurd h
  stands l m (inr (inr (inl a, b))) = let x : 1 ≡ rank l = ap rank a in let y : 2 ≡ rank m = ap rank b in omega arith
  stands l m (inr (inr (inr (inl a), b))) = let x : 0 ≡ rank l = ap rank a in let y : 2 ≡ rank m = ap rank b in omega arith
  stands l m (inr (inr (inr (inr a), b))) = let x : 1 ≡ rank l = ap rank a in let y : 2 ≡ rank m = ap rank b in omega arith

  written : (l s : ℕ) → Writes weak_tree l s → (0 ≡ rank l) ⊎ (1 ≡ s)
  written l s (inl (inl (a, b))) = absurd (among_none s b)
  written l s (inl (inr (inl (a, b)))) = inl (ap rank a)
  written l s (inl (inr (inr (a, b)))) = absurd (among_none s b)
  written l s (inr (a, b)) = inr (among_one s 1 b)

  read : (m s : ℕ) → Reads weak_tree m s → (1 ≡ rank m) × (0 ≡ s)
  read m s (inl (inl (a, b))) = (ap rank a, among_one s 0 b)
  read m s (inl (inr (inl (a, b)))) = absurd (among_none s b)
  read m s (inl (inr (inr (a, b)))) = absurd (among_none s b)
  read m s (inr (a, b)) = absurd (among_none s b)

  crosses : (l m s : ℕ) → (0 ≡ rank l) ⊎ (1 ≡ s) → (1 ≡ rank m) × (0 ≡ s) → rank l < rank m
  crosses l m s (inl a) (b, c) = omega arith
  crosses l m s (inr a) (b, c) = absurd (omega arith)

  climbs : (l m : ℕ) → Precedes weak_tree l m → rank l < rank m
  climbs l m (inl h) = stands l m h
  climbs l m (inr (s, w, r)) = crosses l m s (written l s w) (read m s r)

  pub weak-causal : IsCausal weak_tree
  weak-causal = ranked weak_tree rank climbs

module _ (at : ℕ → ℕ) where
  abbrev beside_tree : Tree
  beside_tree = tree_of 2 (starting_shape at 0 sees_beside)

  -- the emission, then the test, then its branches
  abbrev beside_rank : ℕ → ℕ
  beside_rank l = get_or (0 ∷ 1 ∷ 2 ∷ 2 ∷ []) l 0

  beside_stands : (l m : ℕ) → StandsFirst beside_tree l m → beside_rank l < beside_rank m
  beside_stands l m (inl h) = absurd h
  beside_stands l m (inr (inl h)) = absurd h
  beside_stands l m (inr (inr (inl (inl h)))) = absurd h
  beside_stands l m (inr (inr (inl (inr h)))) = absurd h
  beside_stands l m (inr (inr (inr (a, inl b)))) = let x : 1 ≡ beside_rank l = ap beside_rank a in let y : 2 ≡ beside_rank m = ap beside_rank b in omega arith
  beside_stands l m (inr (inr (inr (a, inr b)))) = let x : 1 ≡ beside_rank l = ap beside_rank a in let y : 2 ≡ beside_rank m = ap beside_rank b in omega arith

  beside_written : (l s : ℕ) → Writes beside_tree l s → (0 ≡ beside_rank l) ⊎ (1 ≡ s)
  beside_written l s (inl (a, b)) = inl (ap beside_rank a)
  beside_written l s (inr (inl (a, b))) = absurd (among_none s b)
  beside_written l s (inr (inr (inl (a, b)))) = absurd (among_none s b)
  beside_written l s (inr (inr (inr (a, b)))) = inr (among_one s 1 b)

  beside_read : (m s : ℕ) → Reads beside_tree m s → (1 ≡ beside_rank m) × (0 ≡ s)
  beside_read m s (inl (a, b)) = absurd (among_none s b)
  beside_read m s (inr (inl (a, b))) = (ap beside_rank a, among_one s 0 b)
  beside_read m s (inr (inr (inl (a, b)))) = absurd (among_none s b)
  beside_read m s (inr (inr (inr (a, b)))) = absurd (among_none s b)

  beside_crosses : (l m s : ℕ) → (0 ≡ beside_rank l) ⊎ (1 ≡ s) → (1 ≡ beside_rank m) × (0 ≡ s) → beside_rank l < beside_rank m
  beside_crosses l m s (inl a) (b, c) = omega arith
  beside_crosses l m s (inr a) (b, c) = absurd (omega arith)

  beside_climbs : (l m : ℕ) → Precedes beside_tree l m → beside_rank l < beside_rank m
  beside_climbs l m (inl h) = beside_stands l m h
  beside_climbs l m (inr (s, w, r)) = beside_crosses l m s (beside_written l s w) (beside_read m s r)

  pub beside-causal : IsCausal beside_tree
  beside-causal = ranked beside_tree beside_rank beside_climbs

  alone : (l m : ℕ) → Precedes (tree_of 2 (bare (at 2))) l m → l < m
  alone l m (inl h) = absurd h
  alone l m (inr (s, (a, b), r)) = absurd (among_none s b)

  pub beside-resumed : IsCausalIf (tree_of_some 2 (resuming_shape at 0 sees_beside))
  beside-resumed = ranked (tree_of 2 (bare (at 2))) (λ l. l) alone
