-- The ends of a domain have different channels.
use Rattle.std.proofs.Common.{◌≡◌, ◌≢◌, ℕ, zero, suc, ◌<◌, ◌≤◌, Bool, true, false, cond, List, [], ◌∷◌, length, refl, inl, inr, arith}
use Rattle.std.specs.Prelude.{◌==◌}
use Rattle.std.proofs.lemmas.Bool.{cases_lt}
use Rattle.kernel_terms.specs.declared.tables.ChannelInfo.{ChannelInfo}
use Rattle.kernel_terms.specs.declared.tables.Tables.{Tables}
use Rattle.cell_core.specs.declared.moves.Side.TheVariants.{Sender, Receiver}
use Rattle.domain_core.specs.declared.step.ends_of.EndOf.{EndOf}
use Rattle.domain_core.specs.definitions.step.EndCalls.{end_at}
use Rattle.domain_core.specs.definitions.step.Domains.{ends_from, ends_of}

-- The channels of a domain's ends rise.
pub ends_low : (d c : ℕ) (infos : List ChannelInfo) (i : ℕ) → i < length (ends_from d c infos) → c ≤ (end_at (ends_from d c infos) i).channel
ends_low d c [] i less = absurd (omega (arith, less))
ends_low d c (info ∷ infos) i less =
    two (info.sender == d) (info.receiver == d) i (λ k. ends_low d (suc c) infos k) less
  where
    heads : (e : EndOf) (es : List EndOf) (c i : ℕ) → e.channel ≡ c → ((k : ℕ) → k < length es → suc c ≤ (end_at es k).channel) → i < length (e ∷ es) → c ≤ (end_at (e ∷ es) i).channel
    heads e es c zero here rest less = omega (arith, here)
    heads e es c (suc i) here rest less = omega (arith, rest i (omega (arith, less)))

    two : (s t : Bool) (i : ℕ) → ((k : ℕ) → k < length (ends_from d (suc c) infos) → suc c ≤ (end_at (ends_from d (suc c) infos) k).channel) →
        i < length (cond s (record { channel = c; side = Sender } ∷ ends_from d (suc c) infos) (cond t (record { channel = c; side = Receiver } ∷ ends_from d (suc c) infos) (ends_from d (suc c) infos))) →
        c ≤ (end_at (cond s (record { channel = c; side = Sender } ∷ ends_from d (suc c) infos) (cond t (record { channel = c; side = Receiver } ∷ ends_from d (suc c) infos) (ends_from d (suc c) infos))) i).channel
    two true t i rest less = heads (record { channel = c; side = Sender }) (ends_from d (suc c) infos) c i refl rest less
    two false true i rest less = heads (record { channel = c; side = Receiver }) (ends_from d (suc c) infos) c i refl rest less
    two false false i rest less = omega (arith, rest i less)

pub ends_rise : (d c : ℕ) (infos : List ChannelInfo) (i k : ℕ) → i < k → k < length (ends_from d c infos) → (end_at (ends_from d c infos) i).channel < (end_at (ends_from d c infos) k).channel
ends_rise d c [] i k below less = absurd (omega (arith, less))
ends_rise d c (info ∷ infos) i k below less =
    two (info.sender == d) (info.receiver == d) i k (λ m. ends_low d (suc c) infos m) (λ m n. ends_rise d (suc c) infos m n) below less
  where
    heads : (e : EndOf) (es : List EndOf) (c i k : ℕ) → e.channel ≡ c → ((m : ℕ) → m < length es → suc c ≤ (end_at es m).channel) →
        ((m n : ℕ) → m < n → n < length es → (end_at es m).channel < (end_at es n).channel) → i < k → k < length (e ∷ es) → (end_at (e ∷ es) i).channel < (end_at (e ∷ es) k).channel
    heads e es c i zero here low rest below less = absurd (omega (arith, below))
    heads e es c zero (suc k) here low rest below less = omega (arith, here, low k (omega (arith, less)))
    heads e es c (suc i) (suc k) here low rest below less = rest i k (omega (arith, below)) (omega (arith, less))

    two : (s t : Bool) (i k : ℕ) → ((m : ℕ) → m < length (ends_from d (suc c) infos) → suc c ≤ (end_at (ends_from d (suc c) infos) m).channel) →
        ((m n : ℕ) → m < n → n < length (ends_from d (suc c) infos) → (end_at (ends_from d (suc c) infos) m).channel < (end_at (ends_from d (suc c) infos) n).channel) →
        i < k →
        k < length (cond s (record { channel = c; side = Sender } ∷ ends_from d (suc c) infos) (cond t (record { channel = c; side = Receiver } ∷ ends_from d (suc c) infos) (ends_from d (suc c) infos))) →
        (end_at (cond s (record { channel = c; side = Sender } ∷ ends_from d (suc c) infos) (cond t (record { channel = c; side = Receiver } ∷ ends_from d (suc c) infos) (ends_from d (suc c) infos))) i).channel
        < (end_at (cond s (record { channel = c; side = Sender } ∷ ends_from d (suc c) infos) (cond t (record { channel = c; side = Receiver } ∷ ends_from d (suc c) infos) (ends_from d (suc c) infos))) k).channel
    two true t i k low rest below less = heads (record { channel = c; side = Sender }) (ends_from d (suc c) infos) c i k refl low rest below less
    two false true i k low rest below less = heads (record { channel = c; side = Receiver }) (ends_from d (suc c) infos) c i k refl low rest below less
    two false false i k low rest below less = rest i k below less

-- the ends have different channels
abbrev pub AreApart : List EndOf → Type 0
AreApart ends = (i k : ℕ) → i < length ends → k < length ends → i ≢ k → (end_at ends i).channel ≢ (end_at ends k).channel

pub ends_apart : (tables : Tables) (d : ℕ) → AreApart (ends_of tables d)
ends_apart tables d i k less within ne same = elim (cases_lt i k) [
  | inl low ↦ omega (arith, ends_rise d 0 tables.channels i k low within, same)
  | inr high ↦ omega (arith, ends_rise d 0 tables.channels k i (omega (arith, high, ne)) less, same)
]
