-- What there is of the end of a channel.
use Rattle.std.proofs.Common.{◌≡◌, ◌≢◌, ℕ, zero, suc, ◌<◌, ◌≤◌, Bool, true, false, cond, List, length, Option, None, refl, sym, ap, ◌∙◌, subst, inl, inr, ◌⊎◌, arith}
use Rattle.std.specs.Prelude.{◌==◌}
use Rattle.std.proofs.lemmas.Bool.{cases_eq, eq-eqb, ne_eqb, cond-true, cond-false}
use Rattle.kernel_terms.specs.declared.system.System.{System}
use Rattle.kernel_terms.specs.Systems.{tables_of}
use Rattle.kernel_terms.specs.TableEntries.{channel_at}
use Rattle.cell_core.specs.declared.moves.Side.{Side}
use Rattle.cell_core.specs.declared.moves.Side.TheVariants.{Sender, Receiver}
use Rattle.domain_core.specs.declared.step.ends_of.EndOf.{EndOf}
use Rattle.domain_core.specs.definitions.step.EndCalls.{end_at}
use Rattle.domain_core.proofs.lemmas.step.StateJoins.{AreApart}
use Rattle.domain_core.proofs.lemmas.step.OwnEnds.{IsOwn, own_end, has_side}
use Rattle.domain_core.specs.definitions.step.RoundsOf.{own_ends}
use Rattle.domain_core.specs.definitions.step.Steps.{at_channel}

-- an end of the channel, among the first n
pub record EndThere (ends : List EndOf) (n c : ℕ) : Type 0 where
  pub place : ℕ
  pub within : place < n
  pub channel : (end_at ends place).channel ≡ c

abbrev pub NoEnd : List EndOf → ℕ → ℕ → Type 0
NoEnd ends n c = (k : ℕ) → k < n → (end_at ends k).channel ≢ c

pub end_or_none : (ends : List EndOf) (n c : ℕ) → EndThere ends n c ⊎ NoEnd ends n c
end_or_none ends zero c = inr (λ k l. absurd (omega (arith, l)))
end_or_none ends (suc n) c = elim (cases_eq (end_at ends n).channel c) [
  | inl e ↦ inl (record { place = n; within = omega arith; channel = e })
  | inr ne ↦ elim (end_or_none ends n c) [
    | inl h ↦ inl (record { place = h.place; within = omega (arith, h.within); channel = h.channel })
    | inr h ↦ inr (λ k l. elim (cases_eq k n) [
      | inl q ↦ λ z. ne (ap (λ m. (end_at ends m).channel) (sym q) ∙ z)
      | inr q ↦ h k (omega (arith, l, q))
    ])
  ]
]

module _ {X : Type 0} (ends : List EndOf) (f : ℕ → Option X) where
  pub at_none : (n c : ℕ) → NoEnd ends n c → at_channel ends f n c ≡ None
  at_none zero c no_end = refl
  at_none (suc n) c no_end =
      cond-false ((end_at ends n).channel == c) (f n) (at_channel ends f n c) (ne_eqb (end_at ends n).channel c (no_end n (omega arith)))
      ∙ at_none n c (λ k l. no_end k (omega (arith, l)))

  pub at_end : AreApart ends → (n k : ℕ) → n ≤ length ends → k < n → at_channel ends f n (end_at ends k).channel ≡ f k
  at_end apart zero k within l = absurd (omega (arith, l))
  at_end apart (suc n) k within l = elim (cases_eq n k) [
    | inl e ↦
        cond-true ((end_at ends n).channel == (end_at ends k).channel) (f n) (at_channel ends f n (end_at ends k).channel)
        (eq-eqb (end_at ends n).channel (end_at ends k).channel (ap (λ m. (end_at ends m).channel) e))
        ∙ ap f e
    | inr ne ↦
        cond-false ((end_at ends n).channel == (end_at ends k).channel) (f n) (at_channel ends f n (end_at ends k).channel)
        (ne_eqb (end_at ends n).channel (end_at ends k).channel (apart n k (omega (arith, within)) (omega (arith, within, l)) ne))
        ∙ at_end apart n k (omega (arith, within)) (omega (arith, l, ne))
  ]

  pub at_there : AreApart ends → (c : ℕ) → (h : EndThere ends (length ends) c) → at_channel ends f (length ends) c ≡ f h.place
  at_there apart c h = ap (at_channel ends f (length ends)) (sym h.channel) ∙ at_end apart (length ends) h.place (omega arith) h.within

-- a function of what there is
pub at_map : {X Y : Type 0} (ends : List EndOf) (f : ℕ → Option X) (g : Option X → Option Y) (h : ℕ → Option Y) (n c : ℕ) → g None ≡ None → ((k : ℕ) → k < n → g (f k) ≡ h k) →
    g (at_channel ends f n c) ≡ at_channel ends h n c
at_map ends f g h zero c none each = none
at_map ends f g h (suc n) c none each =
    by_test ((end_at ends n).channel == c) (each n (omega arith)) (at_map ends f g h n c none (λ k l. each k (omega (arith, l))))
  where
    by_test : (b : Bool) → g (f n) ≡ h n → g (at_channel ends f n c) ≡ at_channel ends h n c → g (cond b (f n) (at_channel ends f n c)) ≡ cond b (h n) (at_channel ends h n c)
    by_test true here rest = here
    by_test false here rest = rest

-- a domain has an end of each channel that it sends or receives on, and of no others
module _ (system : System) (d : ℕ) where
  pub sends_there : (c : ℕ) → c < length (tables_of system).channels → (channel_at (tables_of system) c).sender ≡ d → EndThere (own_ends system d) (length (own_ends system d)) c
  sends_there c less is = let h = has_side (tables_of system) d c Sender less is in record { place = h.place; within = h.within; channel = ap (λ e. e.channel) h.is }

  pub own_there : (c : ℕ) → c < length (tables_of system).channels → ((channel_at (tables_of system) c).sender ≡ d) ⊎ ((channel_at (tables_of system) c).receiver ≡ d) → EndThere (own_ends system d) (length (own_ends system d)) c
  own_there c less (inl is) = sends_there c less is
  own_there c less (inr is) = elim (cases_eq ((channel_at (tables_of system) c).sender) d) [
    | inl e ↦ sends_there c less e
    | inr ne ↦
        let h = has_side (tables_of system) d c Receiver less (ne, is) in
        record { place = h.place; within = h.within; channel = ap (λ e. e.channel) h.is }
  ]

-- an end of the channel is the domain's side of it
pub record EndOfChannel (system : System) (d c : ℕ) (e : EndOf) : Type 0 where
  pub here : e.channel ≡ c
  pub channel : c < length (tables_of system).channels
  pub own : IsOwn d e.side (channel_at (tables_of system) c)

pub channel_end : (system : System) (d c : ℕ) (h : EndThere (own_ends system d) (length (own_ends system d)) c) → EndOfChannel system d c (end_at (own_ends system d) h.place)
channel_end system d c h =
    let x = own_end (tables_of system) d h.place h.within in
    record {
      here = h.channel;
      channel = omega (arith, h.channel, x.channel);
      own = subst (λ n. IsOwn d (end_at (own_ends system d) h.place).side (channel_at (tables_of system) n)) h.channel x.own;
    }

pub own_either : (system : System) (d c : ℕ) (e : EndOf) → EndOfChannel system d c e → ((channel_at (tables_of system) c).sender ≡ d) ⊎ ((channel_at (tables_of system) c).receiver ≡ d)
own_either system d c e h = of_side e.side h.own
  where
    of_side : (a : Side) → IsOwn d a (channel_at (tables_of system) c) → ((channel_at (tables_of system) c).sender ≡ d) ⊎ ((channel_at (tables_of system) c).receiver ≡ d)
    of_side Sender own = inl own
    of_side Receiver own = inr own.1

pub sender_side : (system : System) (d c : ℕ) (e : EndOf) → EndOfChannel system d c e → (channel_at (tables_of system) c).sender ≡ d → e.side ≡ Sender
sender_side system d c e h is = of_side e.side h.own
  where
    of_side : (a : Side) → IsOwn d a (channel_at (tables_of system) c) → a ≡ Sender
    of_side Sender own = refl
    of_side Receiver own = absurd (own.0 is)

abbrev pub AreDifferent : System → Type 0
AreDifferent system = (c : ℕ) → c < length (tables_of system).channels → (channel_at (tables_of system) c).sender ≢ (channel_at (tables_of system) c).receiver

pub receiver_side : (system : System) (d c : ℕ) (e : EndOf) → AreDifferent system → EndOfChannel system d c e → (channel_at (tables_of system) c).receiver ≡ d → e.side ≡ Receiver
receiver_side system d c e differ h is = of_side e.side h.own
  where
    of_side : (a : Side) → IsOwn d a (channel_at (tables_of system) c) → a ≡ Receiver
    of_side Sender own = absurd (differ c h.channel (own ∙ sym is))
    of_side Receiver own = refl
