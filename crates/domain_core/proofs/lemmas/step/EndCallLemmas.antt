-- Calls of the ends of a domain, one end after another.
use Rattle.std.proofs.Common.{◌≡◌, ◌≢◌, ℕ, suc, zero, ◌+◌, ◌<◌, ℤ, Bool, false, List, ◌++◌, length, get_or, Option, None, ap, sym, ◌∙◌, subst, refl, arith, add-one, inl, inr, ◌⊎◌}
use Rattle.std.proofs.Math.ListN.{set}
use Rattle.std.proofs.lemmas.Bool.{cases_eq}
use Rattle.std.proofs.lemmas.List.{get_or-set_same, get_or-set_other}
use Rattle.cell_core.specs.declared.moves.Side.{Side}
use Rattle.cell_core.specs.declared.moves.Joined.{Joined}
use Rattle.cell_core.specs.declared.moves.CellMove.{CellMove}
use Rattle.cell_core.specs.definitions.Ends.{EndView, Through}
use Rattle.cell_core.proofs.CallLemmas.{Through-append}
use Rattle.domain_core.specs.declared.step.ends_of.EndOf.{EndOf}
use Rattle.domain_core.specs.definitions.step.EndCalls.{end_at, recall_of, recalls, offer_of, offers, IsRecalled, IsOffered, RecallsAll, OffersAll}

-- the recalls of the first ends look at their answers alone
recalls_same : (ends : List EndOf) (standing : List Bool) (a b : List (Option Joined)) (n : ℕ) →
    ((k : ℕ) → k < n → get_or a k None ≡ get_or b k None) → recalls ends standing a n ≡ recalls ends standing b n
recalls_same ends standing a b zero same = refl
recalls_same ends standing a b (suc n) same =
    ap (λ x. recalls ends standing a n ++ recall_of (get_or standing n false) n (end_at ends n).side x) (same n (omega arith))
    ∙ ap (λ x. x ++ recall_of (get_or standing n false) n (end_at ends n).side (get_or b n None)) (recalls_same ends standing a b n (λ k less. same k (omega arith)))

offers_same : (ends : List EndOf) (asks : List (Option ℤ)) (stamp : ℕ) (a b : List (Option Joined)) (n : ℕ) →
    ((k : ℕ) → k < n → get_or a k None ≡ get_or b k None) → offers ends asks stamp a n ≡ offers ends asks stamp b n
offers_same ends asks stamp a b zero same = refl
offers_same ends asks stamp a b (suc n) same =
    ap (λ x. offers ends asks stamp a n ++ offer_of (get_or asks n None) n (end_at ends n).side stamp x) (same n (omega arith))
    ∙ ap (λ x. x ++ offer_of (get_or asks n None) n (end_at ends n).side stamp (get_or b n None)) (offers_same ends asks stamp a b n (λ k less. same k (omega arith)))

module _ {S : Type 0} (moved : S → ℕ → CellMove → Option Joined → S → Type 0) (count : S → ℕ) (view : S → ℕ → EndView) (ends : List EndOf) where
  -- one end more
  pub recalls_more : (standing : List Bool) (answers : List (Option Joined)) (n : ℕ) (answer : Option Joined) (first middle last : S) →
      n < length answers → n < count first → (view first n).side ≡ (end_at ends n).side →
      RecallsAll moved count view ends standing answers n first middle →
      Through moved middle (recall_of (get_or standing n false) n (view middle n).side answer) last →
      count last ≡ count middle → ((q : ℕ) → q < count middle → q ≢ n → view last q ≡ view middle q) →
      IsRecalled (get_or standing n false) answer (view middle n) (view last n) →
      RecallsAll moved count view ends standing (set answers n answer) (n + 1) first last
  recalls_more standing answers n answer first middle last room within side before made counts others recalled =
      let at_n : view middle n ≡ view first n = before.left n (omega arith) within in
      let here : get_or (set answers n answer) n None ≡ answer = get_or-set_same answers n answer None room in
      let there : (k : ℕ) → k < n → get_or (set answers n answer) k None ≡ get_or answers k None = λ k less. get_or-set_other answers n k answer None (omega (arith, less)) in
      let same : recalls ends standing (set answers n answer) n ≡ recalls ends standing answers n = recalls_same ends standing (set answers n answer) answers n there in
      let calls : recalls ends standing answers n ++ recall_of (get_or standing n false) n (view middle n).side answer ≡ recalls ends standing (set answers n answer) (suc n) =
      ap (λ x. x ++ recall_of (get_or standing n false) n (view middle n).side answer) (sym same)
      ∙ ap (λ (x : Option Joined). recalls ends standing (set answers n answer) n ++ recall_of (get_or standing n false) n (view middle n).side x) (sym here)
      ∙ ap (λ (x : Side). recalls ends standing (set answers n answer) n ++ recall_of (get_or standing n false) n x (get_or (set answers n answer) n None)) (ap (λ (e : EndView). e.side) at_n ∙ side) in
      let passed_recall : (k : ℕ) → (k ≡ n) ⊎ (k ≢ n) → k < n + 1 → IsRecalled (get_or standing k false) (get_or (set answers n answer) k None) (view first k) (view last k) =
      λ k d less. elim d [
        | inl e ↦ subst (λ j. IsRecalled (get_or standing j false) (get_or (set answers n answer) j None) (view first j) (view last j)) (sym e)
            (subst (λ x. IsRecalled (get_or standing n false) x (view first n) (view last n)) (sym here) (subst (λ x. IsRecalled (get_or standing n false) answer x (view last n)) at_n recalled))
        | inr ne ↦
            let lower : k < n = omega (arith, less, ne) in
            subst (λ x. IsRecalled (get_or standing k false) (get_or (set answers n answer) k None) (view first k) x) (sym (others k (omega (arith, before.counts, within, lower)) ne))
            (subst (λ x. IsRecalled (get_or standing k false) x (view first k) (view middle k)) (sym (there k lower)) (before.passed k lower))
      ] in
      record {
        through = subst (λ x. Through moved first x last) (calls ∙ ap (λ x. recalls ends standing (set answers n answer) x) (sym (add-one n))) (Through-append moved first middle last (recalls ends standing answers n) (recall_of (get_or standing n false) n (view middle n).side answer) before.through made);
        counts = counts ∙ before.counts;
        passed = λ k less. passed_recall k (cases_eq k n) less;
        left = λ k le less. others k (omega (arith, before.counts, less)) (omega (arith, le)) ∙ before.left k (omega (arith, le)) less;
      }

  pub offers_more : (asks : List (Option ℤ)) (stamp : ℕ) (answers : List (Option Joined)) (n : ℕ) (answer : Option Joined) (first middle last : S) →
      n < length answers → n < count first → (view first n).side ≡ (end_at ends n).side →
      OffersAll moved count view ends asks stamp answers n first middle →
      Through moved middle (offer_of (get_or asks n None) n (view middle n).side stamp answer) last →
      count last ≡ count middle → ((q : ℕ) → q < count middle → q ≢ n → view last q ≡ view middle q) →
      IsOffered (get_or asks n None) stamp answer (view middle n) (view last n) →
      OffersAll moved count view ends asks stamp (set answers n answer) (n + 1) first last
  offers_more asks stamp answers n answer first middle last room within side before made counts others offered =
      let at_n : view middle n ≡ view first n = before.left n (omega arith) within in
      let here : get_or (set answers n answer) n None ≡ answer = get_or-set_same answers n answer None room in
      let there : (k : ℕ) → k < n → get_or (set answers n answer) k None ≡ get_or answers k None = λ k less. get_or-set_other answers n k answer None (omega (arith, less)) in
      let same : offers ends asks stamp (set answers n answer) n ≡ offers ends asks stamp answers n = offers_same ends asks stamp (set answers n answer) answers n there in
      let calls : offers ends asks stamp answers n ++ offer_of (get_or asks n None) n (view middle n).side stamp answer ≡ offers ends asks stamp (set answers n answer) (suc n) =
      ap (λ x. x ++ offer_of (get_or asks n None) n (view middle n).side stamp answer) (sym same)
      ∙ ap (λ (x : Option Joined). offers ends asks stamp (set answers n answer) n ++ offer_of (get_or asks n None) n (view middle n).side stamp x) (sym here)
      ∙ ap (λ (x : Side). offers ends asks stamp (set answers n answer) n ++ offer_of (get_or asks n None) n x stamp (get_or (set answers n answer) n None)) (ap (λ (e : EndView). e.side) at_n ∙ side) in
      let passed_offer : (k : ℕ) → (k ≡ n) ⊎ (k ≢ n) → k < n + 1 → IsOffered (get_or asks k None) stamp (get_or (set answers n answer) k None) (view first k) (view last k) =
      λ k d less. elim d [
        | inl e ↦ subst (λ j. IsOffered (get_or asks j None) stamp (get_or (set answers n answer) j None) (view first j) (view last j)) (sym e)
            (subst (λ x. IsOffered (get_or asks n None) stamp x (view first n) (view last n)) (sym here) (subst (λ x. IsOffered (get_or asks n None) stamp answer x (view last n)) at_n offered))
        | inr ne ↦
            let lower : k < n = omega (arith, less, ne) in
            subst (λ x. IsOffered (get_or asks k None) stamp (get_or (set answers n answer) k None) (view first k) x) (sym (others k (omega (arith, before.counts, within, lower)) ne))
            (subst (λ x. IsOffered (get_or asks k None) stamp x (view first k) (view middle k)) (sym (there k lower)) (before.passed k lower))
      ] in
      record {
        through = subst (λ x. Through moved first x last) (calls ∙ ap (λ x. offers ends asks stamp (set answers n answer) x) (sym (add-one n))) (Through-append moved first middle last (offers ends asks stamp answers n) (offer_of (get_or asks n None) n (view middle n).side stamp answer) before.through made);
        counts = counts ∙ before.counts;
        passed = λ k less. passed_offer k (cases_eq k n) less;
        left = λ k le less. others k (omega (arith, before.counts, less)) (omega (arith, le)) ∙ before.left k (omega (arith, le)) less;
      }
