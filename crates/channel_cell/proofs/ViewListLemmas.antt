-- Which lists the views have.
use Rattle.std.proofs.Common.{◌≡◌, ℕ, zero, suc, List, [], ◌∷◌, set, refl, sym, ap, subst, inl, inr}
use mathlib.Core.Option.{some, some-injective, some-ne-none}
use lib.ListN.{get_elem?}
use Rattle.java_values.specs.declared.kind.Kind.{Kind}
use Rattle.cell_core.specs.declared.moves.Side.{Side}
use Rattle.cell_core.specs.declared.moves.Side.TheVariants.{Sender, Receiver}
use Rattle.channel_cell.specs.declared.rule.Knows.{Knows}
use Rattle.channel_cell.specs.declared.rule.View.{View}
use Rattle.channel_cell.specs.declared.rule.View.TheVariants.{First, Own, Both, Spent}
use Rattle.channel_cell.specs.Rule.{Seated, knows_in}
use Rattle.channel_cell.specs.Calls.{second_in}

first_alone : (kind : Kind) (side : Side) (es : Knows) (id : ℕ) → get_elem? (First kind ∷ []) id ≡ some (Own side es) → ⊥
first_alone kind side es zero e = absurd (cc)
first_alone kind side es (suc id) e = absurd (some-ne-none _ (sym e))

sender_beside : (a b es : Knows) (id : ℕ) → get_elem? (Own Sender a ∷ Own Receiver b ∷ []) id ≡ some (Own Sender es) → (a ≡ es) × ((new : Knows) → Seated (set (Own Sender a ∷ Own Receiver b ∷ []) id (Own Sender new)) new b)
sender_beside a b es zero e = (ap knows_in (some-injective _ _ e), (λ new. inr (inl refl)))
sender_beside a b es (suc zero) e = absurd (cc)
sender_beside a b es (suc (suc id)) e = absurd (some-ne-none _ (sym e))

sender_joined : (a b es : Knows) (id : ℕ) → get_elem? (Both a b ∷ Spent ∷ []) id ≡ some (Own Sender es) → ⊥
sender_joined a b es zero e = absurd (cc)
sender_joined a b es (suc zero) e = absurd (cc)
sender_joined a b es (suc (suc id)) e = absurd (some-ne-none _ (sym e))

pub sender_sits : (views : List View) (a b es : Knows) (id : ℕ) → Seated views a b → get_elem? views id ≡ some (Own Sender es) → (a ≡ es) × ((new : Knows) → Seated (set views id (Own Sender new)) new b)
sender_sits views a b es id (inl h) e = absurd (first_alone a.kind Sender es id (subst (λ (l : List View). get_elem? l id ≡ some (Own Sender es)) h.0 e))
sender_sits views a b es id (inr (inl h)) e =
    let r = sender_beside a b es id (subst (λ (l : List View). get_elem? l id ≡ some (Own Sender es)) h e) in
    (r.0, λ new. subst (λ (l : List View). Seated (set l id (Own Sender new)) new b) (sym h) (r.1 new))
sender_sits views a b es id (inr (inr h)) e = absurd (sender_joined a b es id (subst (λ (l : List View). get_elem? l id ≡ some (Own Sender es)) h e))

receiver_beside : (a b es : Knows) (id : ℕ) → get_elem? (Own Sender a ∷ Own Receiver b ∷ []) id ≡ some (Own Receiver es) → (b ≡ es) × ((new : Knows) → Seated (set (Own Sender a ∷ Own Receiver b ∷ []) id (Own Receiver new)) a new)
receiver_beside a b es zero e = absurd (cc)
receiver_beside a b es (suc zero) e = (ap knows_in (some-injective _ _ e), (λ new. inr (inl refl)))
receiver_beside a b es (suc (suc id)) e = absurd (some-ne-none _ (sym e))

receiver_joined : (a b es : Knows) (id : ℕ) → get_elem? (Both a b ∷ Spent ∷ []) id ≡ some (Own Receiver es) → ⊥
receiver_joined a b es zero e = absurd (cc)
receiver_joined a b es (suc zero) e = absurd (cc)
receiver_joined a b es (suc (suc id)) e = absurd (some-ne-none _ (sym e))

pub receiver_sits : (views : List View) (a b es : Knows) (id : ℕ) → Seated views a b → get_elem? views id ≡ some (Own Receiver es) → (b ≡ es) × ((new : Knows) → Seated (set views id (Own Receiver new)) a new)
receiver_sits views a b es id (inl h) e = absurd (first_alone a.kind Receiver es id (subst (λ (l : List View). get_elem? l id ≡ some (Own Receiver es)) h.0 e))
receiver_sits views a b es id (inr (inl h)) e =
    let r = receiver_beside a b es id (subst (λ (l : List View). get_elem? l id ≡ some (Own Receiver es)) h e) in
    (r.0, λ new. subst (λ (l : List View). Seated (set l id (Own Receiver new)) a new) (sym h) (r.1 new))
receiver_sits views a b es id (inr (inr h)) e = absurd (receiver_joined a b es id (subst (λ (l : List View). get_elem? l id ≡ some (Own Receiver es)) h e))

-- the seat with both lists
both_beside : (a b es fs : Knows) (id : ℕ) → get_elem? (Own Sender a ∷ Own Receiver b ∷ []) id ≡ some (Both es fs) → ⊥
both_beside a b es fs zero e = absurd (cc)
both_beside a b es fs (suc zero) e = absurd (cc)
both_beside a b es fs (suc (suc id)) e = absurd (some-ne-none _ (sym e))

both_first : (kind : Kind) (es fs : Knows) (id : ℕ) → get_elem? (First kind ∷ []) id ≡ some (Both es fs) → ⊥
both_first kind es fs zero e = absurd (cc)
both_first kind es fs (suc id) e = absurd (some-ne-none _ (sym e))

both_joined : (a b es fs : Knows) (id : ℕ) → get_elem? (Both a b ∷ Spent ∷ []) id ≡ some (Both es fs) → (a ≡ es) × (b ≡ fs)
both_joined a b es fs zero e = (ap knows_in (some-injective _ _ e), ap second_in (some-injective _ _ e))
both_joined a b es fs (suc zero) e = absurd (cc)
both_joined a b es fs (suc (suc id)) e = absurd (some-ne-none _ (sym e))

pub both_sit : (views : List View) (a b es fs : Knows) (id : ℕ) → Seated views a b → get_elem? views id ≡ some (Both es fs) → (a ≡ es) × (b ≡ fs)
both_sit views a b es fs id (inl h) e = absurd (both_first a.kind es fs id (subst (λ (l : List View). get_elem? l id ≡ some (Both es fs)) h.0 e))
both_sit views a b es fs id (inr (inl h)) e = absurd (both_beside a b es fs id (subst (λ (l : List View). get_elem? l id ≡ some (Both es fs)) h e))
both_sit views a b es fs id (inr (inr h)) e = both_joined a b es fs id (subst (λ (l : List View). get_elem? l id ≡ some (Both es fs)) h e)

both_again : (a b es fs : Knows) (id : ℕ) → get_elem? (Both a b ∷ Spent ∷ []) id ≡ some (Both es fs) → (new_a new_b : Knows) → Seated (set (Both a b ∷ Spent ∷ []) id (Both new_a new_b)) new_a new_b
both_again a b es fs zero e new_a new_b = inr (inr refl)
both_again a b es fs (suc zero) e new_a new_b = absurd (cc)
both_again a b es fs (suc (suc id)) e new_a new_b = absurd (some-ne-none _ (sym e))

pub both_next : (views : List View) (a b es fs : Knows) (id : ℕ) → Seated views a b → get_elem? views id ≡ some (Both es fs) → (new_a new_b : Knows) → Seated (set views id (Both new_a new_b)) new_a new_b
both_next views a b es fs id (inl h) e new_a new_b = absurd (both_first a.kind es fs id (subst (λ (l : List View). get_elem? l id ≡ some (Both es fs)) h.0 e))
both_next views a b es fs id (inr (inl h)) e new_a new_b = absurd (both_beside a b es fs id (subst (λ (l : List View). get_elem? l id ≡ some (Both es fs)) h e))
both_next views a b es fs id (inr (inr h)) e new_a new_b = subst (λ (l : List View). Seated (set l id (Both new_a new_b)) new_a new_b) (sym h) (both_again a b es fs id (subst (λ (l : List View). get_elem? l id ≡ some (Both es fs)) h e) new_a new_b)
