-- The ends that a domain has are its sides of channels.
use Rattle.std.proofs.Common.{◌≡◌, ◌≢◌, ℕ, zero, suc, ◌+◌, ◌<◌, Bool, true, false, cond, List, [], ◌∷◌, length, get_or, refl, sym, ap, ◌∙◌, subst, arith}
use Rattle.std.specs.Prelude.{◌==◌}
use Rattle.std.proofs.lemmas.Bool.{eq-eqb, ne_eqb, eqb-true, eqb-false, cond-true, cond-false}
use Rattle.kernel_terms.specs.declared.tables.ChannelInfo.{ChannelInfo}
use Rattle.kernel_terms.specs.declared.tables.Tables.{Tables}
use Rattle.kernel_terms.specs.TableEntries.{channel_at, no_channel}
use Rattle.cell_core.specs.declared.moves.Side.{Side}
use Rattle.cell_core.specs.declared.moves.Side.TheVariants.{Sender, Receiver}
use Rattle.domain_core.specs.declared.step.ends_of.EndOf.{EndOf}
use Rattle.domain_core.specs.definitions.step.EndCalls.{end_at}
use Rattle.domain_core.specs.definitions.step.EndRegisters.{end_number}
use Rattle.domain_core.specs.definitions.step.Domains.{ends_from, ends_of}
use Rattle.domain_core.specs.step.EndPlaces.{HasEnd}
use Rattle.domain_core.proofs.lemmas.step.StateJoins.{AreApart, ends_apart, ends_rise}

-- the domain has this side of the channel
abbrev pub IsOwn : ℕ → Side → ChannelInfo → Type 0
IsOwn d Sender info = info.sender ≡ d
IsOwn d Receiver info = (info.sender ≢ d) × (info.receiver ≡ d)

-- an end among some, by its place
pub record EndAt (es : List EndOf) (e : EndOf) : Type 0 where
  pub place : ℕ
  pub within : place < length es
  pub is : end_at es place ≡ e

abbrev sends : ℕ → EndOf
sends c = record { channel = c; side = Sender }

abbrev receives : ℕ → EndOf
receives c = record { channel = c; side = Receiver }

later : (x : EndOf) (es : List EndOf) (e : EndOf) → EndAt es e → EndAt (x ∷ es) e
later x es e h = record { place = suc h.place; within = omega (arith, h.within); is = h.is }

behind : (s t : Bool) (x y : EndOf) (es : List EndOf) (e : EndOf) → EndAt es e → EndAt (cond s (x ∷ es) (cond t (y ∷ es) es)) e
behind true t x y es e h = later x es e h
behind false true x y es e h = later y es e h
behind false false x y es e h = h

ahead : (s t : Bool) (c : ℕ) (es : List EndOf) (side : Side) (info : ChannelInfo) (d : ℕ) → (info.sender == d) ≡ s → (info.receiver == d) ≡ t → IsOwn d side info →
    EndAt (cond s (sends c ∷ es) (cond t (receives c ∷ es) es)) (record { channel = c; side = side })
ahead true t c es Sender info d p q own = record { place = 0; within = omega arith; is = refl }
ahead true t c es Receiver info d p q own = absurd (own.0 (eqb-true info.sender d p))
ahead false true c es Sender info d p q own = absurd (eqb-false info.sender d p own)
ahead false true c es Receiver info d p q own = record { place = 0; within = omega arith; is = refl }
ahead false false c es Sender info d p q own = absurd (eqb-false info.sender d p own)
ahead false false c es Receiver info d p q own = absurd (eqb-false info.receiver d q own.1)

end_from : (d c : ℕ) (infos : List ChannelInfo) (i : ℕ) (side : Side) → i < length infos → IsOwn d side (get_or infos i no_channel) → EndAt (ends_from d c infos) (record { channel = c + i; side = side })
end_from d c [] i side less own = absurd (omega (arith, less))
end_from d c (info ∷ infos) zero side less own =
    let q : c ≡ c + zero = omega arith in
    subst (λ n. EndAt (ends_from d c (info ∷ infos)) (record { channel = n; side = side })) q
    (ahead (info.sender == d) (info.receiver == d) c (ends_from d (suc c) infos) side info d refl refl own)
end_from d c (info ∷ infos) (suc i) side less own =
    let q : suc c + i ≡ c + suc i = omega arith in
    subst (λ n. EndAt (ends_from d c (info ∷ infos)) (record { channel = n; side = side })) q
    (behind (info.sender == d) (info.receiver == d) (sends c) (receives c) (ends_from d (suc c) infos) (record { channel = suc c + i; side = side })
    (end_from d (suc c) infos i side (omega (arith, less)) own))

pub has_side : (tables : Tables) (d c : ℕ) (side : Side) → c < length tables.channels → IsOwn d side (channel_at tables c) → EndAt (ends_of tables d) (record { channel = c; side = side })
has_side tables d c side less own =
    let q : 0 + c ≡ c = omega arith in
    subst (λ n. EndAt (ends_of tables d) (record { channel = n; side = side })) q (end_from d 0 tables.channels c side less own)

-- the number of an end is its place, since no two have one channel
number_is : (es : List EndOf) (k : ℕ) → AreApart es → k < length es → end_number es (end_at es k).channel ≡ k
number_is [] k apart less = absurd (omega (arith, less))
number_is (e ∷ es) zero apart less = cond-true (e.channel == e.channel) 0 (suc (end_number es e.channel)) (eq-eqb e.channel e.channel refl)
number_is (e ∷ es) (suc k) apart less =
    cond-false (e.channel == (end_at es k).channel) 0 (suc (end_number es (end_at es k).channel))
    (ne_eqb e.channel (end_at es k).channel (apart 0 (suc k) (omega arith) less (λ q. omega (arith, q))))
    ∙ ap suc (number_is es k (λ i j a b ne. apart (suc i) (suc j) (omega (arith, a)) (omega (arith, b)) (λ q. ne (omega (arith, q)))) (omega (arith, less)))

pub has_own_end : (tables : Tables) (d c : ℕ) (side : Side) → c < length tables.channels → IsOwn d side (channel_at tables c) → HasEnd (ends_of tables d) c side
has_own_end tables d c side less own =
    let h = has_side tables d c side less own in
    let n : end_number (ends_of tables d) c ≡ h.place = ap (λ (e : EndOf). end_number (ends_of tables d) e.channel) (sym h.is) ∙ number_is (ends_of tables d) h.place (ends_apart tables d) h.within in
    record { within = omega (arith, n, h.within); here = ap (end_at (ends_of tables d)) n ∙ h.is }

record IsEndFrom (d c : ℕ) (infos : List ChannelInfo) (e : EndOf) : Type 0 where
  place : ℕ
  within : place < length infos
  channel : e.channel ≡ c + place
  own : IsOwn d e.side (get_or infos place no_channel)

end_is : (d c : ℕ) (infos : List ChannelInfo) (m : ℕ) → m < length (ends_from d c infos) → IsEndFrom d c infos (end_at (ends_from d c infos) m)
end_is d c [] m less = absurd (omega (arith, less))
end_is d c (info ∷ infos) m less = two (λ k l. end_is d (suc c) infos k l) (info.sender == d) (info.receiver == d) refl refl m less
  where
    up : (e : EndOf) → IsEndFrom d (suc c) infos e → IsEndFrom d c (info ∷ infos) e
    up e h = record { place = suc h.place; within = omega (arith, h.within); channel = omega (arith, h.channel); own = h.own }

    heads : (e : EndOf) (es : List EndOf) (m : ℕ) → e.channel ≡ c → IsOwn d e.side info → ((k : ℕ) → k < length es → IsEndFrom d (suc c) infos (end_at es k)) → m < length (e ∷ es) →
        IsEndFrom d c (info ∷ infos) (end_at (e ∷ es) m)
    heads e es zero here own rest less = record { place = 0; within = omega arith; channel = omega (arith, here); own = own }
    heads e es (suc m) here own rest less = up (end_at es m) (rest m (omega (arith, less)))

    two : ((k : ℕ) → k < length (ends_from d (suc c) infos) → IsEndFrom d (suc c) infos (end_at (ends_from d (suc c) infos) k)) → (s t : Bool) → (info.sender == d) ≡ s → (info.receiver == d) ≡ t → (m : ℕ) →
        m < length (cond s (sends c ∷ ends_from d (suc c) infos) (cond t (receives c ∷ ends_from d (suc c) infos) (ends_from d (suc c) infos))) →
        IsEndFrom d c (info ∷ infos) (end_at (cond s (sends c ∷ ends_from d (suc c) infos) (cond t (receives c ∷ ends_from d (suc c) infos) (ends_from d (suc c) infos))) m)
    two rest_is true t p q m less = heads (sends c) (ends_from d (suc c) infos) m refl (eqb-true info.sender d p) rest_is less
    two rest_is false true p q m less = heads (receives c) (ends_from d (suc c) infos) m refl (eqb-false info.sender d p, eqb-true info.receiver d q) rest_is less
    two rest_is false false p q m less = up (end_at (ends_from d (suc c) infos) m) (rest_is m less)

-- an end of the domain is the domain's side of a channel
pub record OwnEnd (tables : Tables) (d : ℕ) (e : EndOf) : Type 0 where
  pub channel : e.channel < length tables.channels
  pub own : IsOwn d e.side (channel_at tables e.channel)

pub own_end : (tables : Tables) (d m : ℕ) → m < length (ends_of tables d) → OwnEnd tables d (end_at (ends_of tables d) m)
own_end tables d m less =
    let x = end_is d 0 tables.channels m less in
    let q : x.place ≡ (end_at (ends_of tables d) m).channel = omega (arith, x.channel) in
    record {
      channel = omega (arith, x.channel, x.within);
      own = subst (λ n. IsOwn d (end_at (ends_of tables d) m).side (channel_at tables n)) q x.own;
    }

pub rises : (tables : Tables) (d i k : ℕ) → i < k → k < length (ends_of tables d) → (end_at (ends_of tables d) i).channel < (end_at (ends_of tables d) k).channel
rises tables d i k below less = ends_rise d 0 tables.channels i k below less
