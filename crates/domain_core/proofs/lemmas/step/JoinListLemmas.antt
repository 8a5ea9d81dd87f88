-- The lists of joins at the ends.
use Rattle.std.proofs.Common.{◌≡◌, ℕ, ◌+◌, ◌<◌, ◌≤◌, List, [], ◌∷◌, ◌++◌, length, get_or, Vec, ap, sym, ◌∙◌, inl, inr, arith}
use Rattle.std.proofs.Math.ListN.{set}
use Rattle.std.proofs.Math.Seq.{map-set_same}
use Rattle.std.proofs.lemmas.Bool.{cases_eq}
use Rattle.std.proofs.lemmas.List.{map-set, get_or-map, get_or_default, get_or-set_same, get_or-set_other, length-set}
use Rattle.std.specs.Prelude.{vec_capacity}
use Rattle.std.specs.Global.{Global}
use Rattle.domain_core.specs.declared.step.ends_of.EndJoin.{EndJoin}
use Rattle.domain_core.specs.definitions.step.Domains.{joins_at}
use Rattle.domain_core.specs.step.JoinLists.{joins_in}

-- a join more at one end
pub joins_pushed : (lists : List (Vec EndJoin Global)) (n : ℕ) (v w : Vec EndJoin Global) (j : EndJoin) → n < length lists →
    get_or lists n v ≡ v → w.items ≡ v.items ++ j ∷ [] → joins_in (set lists n w) ≡ set (joins_in lists) n (joins_at (joins_in lists) n ++ j ∷ [])
joins_pushed lists n v w j within here pushed =
    let f : Vec EndJoin Global → List EndJoin = λ u. u.items in
    map-set f lists n w
    ∙ ap (λ x. set (joins_in lists) n x) (pushed ∙ ap (λ x. x ++ j ∷ []) (ap f (sym here) ∙ sym (get_or-map f lists n v [] within)))

-- a list with the same joins at one end
pub joins_kept : (lists : List (Vec EndJoin Global)) (n : ℕ) (v w : Vec EndJoin Global) → get_or lists n v ≡ v → w.items ≡ v.items → joins_in (set lists n w) ≡ joins_in lists
joins_kept lists n v w here same =
    let f : Vec EndJoin Global → List EndJoin = λ u. u.items in
    map-set_same f lists n w v (same ∙ ap f (sym here))

-- the first n lists have memory for so many joins, and all joins stay
pub record Grows (many n : ℕ) (old new : List (Vec EndJoin Global)) : Type 0 where
  pub joins : joins_in new ≡ joins_in old
  pub len : length new ≡ length old
  pub capacity : (k : ℕ) (v : Vec EndJoin Global) → k < length old → vec_capacity (get_or old k v) ≤ vec_capacity (get_or new k v)
  pub room : (k : ℕ) (v : Vec EndJoin Global) → k < n → many ≤ vec_capacity (get_or new k v)

pub grows_on : (many n : ℕ) (old now : List (Vec EndJoin Global)) (v w : Vec EndJoin Global) → n < length now → get_or now n v ≡ v → w.items ≡ v.items → vec_capacity v ≤ vec_capacity w → many ≤ vec_capacity w
    → Grows many n old now → Grows many (n + 1) old (set now n w)
grows_on many n old now v w within here same wide enough g = record {
  joins = joins_kept now n v w here same ∙ g.joins;
  len = length-set now n w ∙ g.len;
  capacity = λ k u less. elim (cases_eq k n) [
    | inl e ↦
        let new = ap vec_capacity (ap (λ i. get_or (set now n w) i u) e ∙ get_or-set_same now n w u within) in
        let was = ap vec_capacity (ap (λ i. get_or now i u) e ∙ get_or_default now n u v within ∙ here) in
        omega (arith, new, was, wide, g.capacity k u less)
    | inr ne ↦ let new = ap vec_capacity (get_or-set_other now n k w u ne) in omega (arith, new, g.capacity k u less)
  ];
  room = λ k u less. elim (cases_eq k n) [
    | inl e ↦ let new = ap vec_capacity (ap (λ i. get_or (set now n w) i u) e ∙ get_or-set_same now n w u within) in omega (arith, new, enough)
    | inr ne ↦ let new = ap vec_capacity (get_or-set_other now n k w u ne) in omega (arith, new, g.room k u (omega (arith, less, ne)))
  ];
}
